-- What an end that hears the next message of a lane comes to: the lane's act, or a limit that is met.
use Rattle.std.proofs.Common.{◌≡◌, ◌≢◌, ℕ, ◌+◌, ◌<◌, length, Some, Result, Ok, Err}
use Rattle.std.specs.FinMap as finite
use Rattle.giop_frag.specs.Gathered.{total_of}
use Rattle.giop_types.specs.declared.interfaces.interface.Interface.{Interface}
use Rattle.giop_msg.specs.declared.msg.Msg.{Msg}
use Rattle.giop_calls.specs.Lane.{Lane, ToClient, ToServer, step}
use Rattle.giop_calls.specs.declared.client.entry.ClientEntry.{ClientEntry}
use Rattle.giop_calls.specs.declared.client.rule.ClientRule.{ClientRule}
use Rattle.giop_calls.specs.declared.server.entry.ServerEntry.{ServerEntry}
use Rattle.giop_calls.specs.declared.server.rule.ServerRule.{ServerRule}
use Rattle.giop_end.specs.declared.session_fault.SessionFault.{SessionFault}
use Rattle.giop_end.specs.declared.session_fault.SessionFault.TheVariants.{GatherFull, TooManyCalls}
use Rattle.giop_table.specs.CallTable.{Held, at}
use Rattle.giop_end.specs.Hearing.ClientHears.{client_side}
use Rattle.giop_session.specs.Worlds.Coding.{coding}
use Rattle.giop_end.specs.Hearing.Heard.{hears}
use Rattle.giop_end.specs.Hearing.ServerHears.{server_side}
use Rattle.giop_session.specs.Worlds.Tracks.{ClientShows, ServerShows}

-- how each end hears a message
abbrev pub ServerHearsIt : Interface → Msg → Held ServerRule ServerEntry → Result (Unit {0}) SessionFault → Held ServerRule ServerEntry → Type 0
ServerHearsIt interface =
    hears (server_side interface)

abbrev pub ClientHearsIt : Interface → Msg → Held ClientRule ClientEntry → Result (Unit {0}) SessionFault → Held ClientRule ClientEntry → Type 0
ClientHearsIt interface =
    hears (client_side interface)

-- a limit of these calls is met by a message that comes: there are as many entries as there may be, or its octets would be too many
abbrev pub IsFull : {R E : Type 0} → Msg → Held R E → SessionFault → Type 0
IsFull m h TooManyCalls = finite.len h.table ≡ h.calls
IsFull m h GatherFull = h.room < total_of h.gathered + length m.payload
IsFull m h why = ⊥

-- all but one id stays, and so do the limits
pub record IsBeside {R E : Type 0} (id : ℕ) (h k : Held R E) : Type 0 where
  pub others : (other : ℕ) → other ≢ id → at k other ≡ at h other
  pub calls : k.calls ≡ h.calls
  pub room : k.room ≡ h.room

-- the server's end took the lane's act
pub record ServerWent (interface : Interface) (lane : Lane) (id : ℕ) (h k : Held ServerRule ServerEntry) : Type 0 where
  pub after : Lane
  pub stepped : step (coding interface) lane ToServer ≡ Some after
  pub shows : ServerShows id (at k id) after
  pub beside : IsBeside id h k

-- the client's did
pub record ClientWent (interface : Interface) (lane : Lane) (id : ℕ) (h k : Held ClientRule ClientEntry) : Type 0 where
  pub after : Lane
  pub stepped : step (coding interface) lane ToClient ≡ Some after
  pub shows : ClientShows id (at k id) after
  pub beside : IsBeside id h k

-- it took it, or a limit was met, and nothing changed
abbrev pub ServerHeard : Interface → Lane → ℕ → Msg → Held ServerRule ServerEntry → Result (Unit {0}) SessionFault → Held ServerRule ServerEntry → Type 0
ServerHeard interface lane id m h (Ok done) k = ServerWent interface lane id h k
ServerHeard interface lane id m h (Err why) k = (k ≡ h) × IsFull m h why

abbrev pub ClientHeard : Interface → Lane → ℕ → Msg → Held ClientRule ClientEntry → Result (Unit {0}) SessionFault → Held ClientRule ClientEntry → Type 0
ClientHeard interface lane id m h (Ok done) k = ClientWent interface lane id h k
ClientHeard interface lane id m h (Err why) k = (k ≡ h) × IsFull m h why
