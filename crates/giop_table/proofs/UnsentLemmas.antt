-- Messages that are still to be sent have sizes that their headers can tell.
use Rattle.std.specs.Prelude.{List, [], ◌∷◌, drop}
use Rattle.giop_msg.specs.declared.msg.Msg.{Msg}
use Rattle.giop_table.specs.Unsent.{AreSized}

-- so have those behind the first
pub rest_sized : (messages : List Msg) → AreSized messages → AreSized (drop 1 messages)
rest_sized [] sized = sized
rest_sized (m ∷ messages) sized = sized.1
