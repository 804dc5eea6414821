-- The calls of one end: the entry of each id, the messages that are still to be sent for it, and
-- the pieces that are gathered.
pub use Rattle.giop_table.specs.CallTable
pub use Rattle.giop_table.specs.Codes
pub use Rattle.giop_table.specs.Sending
pub use Rattle.giop_table.specs.Unsent
