-- `ping` of an interface that has it without parameters, in 1.2: its octets, and the pieces that a
-- client sends of it; and an exception of the broker that answers it.
use Rattle.std.specs.Prelude.{◌≡◌, ℕ, true, false, List, [], ◌∷◌, ◌++◌, codes, Some}
use Rattle.giop_cdr.specs.declared.order.Order.TheVariants.{Big}
use Rattle.giop_types.specs.declared.interfaces.interface.Interface.{Interface}
use Rattle.giop_types.specs.declared.interfaces.interface.Operation.{Operation}
use Rattle.giop_types.specs.Objects.{offer_of}
use Rattle.giop_msg.specs.Cut.{message_of}
use Rattle.giop_msg.specs.Messages.Request.{operation_in}
use Rattle.giop_msg.specs.declared.kind.Kind.TheVariants.{Fragment, Reply, Request}
use Rattle.giop_msg.specs.declared.msg.Msg.{Msg}
use Rattle.giop_msg.specs.declared.version.Version.TheVariants.{V12}
use Rattle.giop_calls.specs.Lane.{Cut}
use Rattle.giop_session.specs.declared.Limits.{Limits}

-- the object `k` of an interface has the operation `ping`, and no in is sent to it
pub record HasPing (interface : Interface) : Type 0 where
  pub operation : Operation
  pub named : operation_in (offer_of interface (codes "k")) (codes "ping")
      ≡ Some operation
  pub no_ins : operation.ins.list.items ≡ []

-- the octets up to the `g` of its name: the id, the flags and three reserved octets, the target's
-- disposition, behind which two octets are padding, the key, and the name of the operation
abbrev pub ping_front : List ℕ
ping_front =
    0 ∷ 0 ∷ 0 ∷ 7 ∷ 3 ∷ 0 ∷ 0 ∷ 0 ∷ 0 ∷ 0 ∷ 0 ∷ 0 ∷ 0 ∷ 0 ∷ 0 ∷ 1 ∷ 107 ∷ 0 ∷ 0 ∷ 0
    ∷ 0 ∷ 0 ∷ 0 ∷ 5 ∷ codes "ping"

-- the null of the name, padding, and no service contexts
abbrev pub ping_back : List ℕ
ping_back = 0 ∷ 0 ∷ 0 ∷ 0 ∷ 0 ∷ 0 ∷ 0 ∷ 0 ∷ []

-- in two pieces, of which the first ends within the name
abbrev pub ping_begins : Msg
ping_begins = message_of V12 Request Big true ping_front

-- the Fragment behind it
abbrev pub ping_ends : Msg
ping_ends = message_of V12 Fragment Big false (0 ∷ 0 ∷ 0 ∷ 7 ∷ ping_back)

-- both
abbrev pub ping_cut : Cut
ping_cut = record { first = ping_begins; rest = ping_ends ∷ [] }

-- and in one message
abbrev pub ping_whole : Msg
ping_whole = message_of V12 Request Big false (ping_front ++ ping_back)

-- the exception: the id, the status, no service contexts, its own id with two octets of padding
abbrev pub refusal_front : List ℕ
refusal_front =
    0 ∷ 0 ∷ 0 ∷ 7 ∷ 0 ∷ 0 ∷ 0 ∷ 2 ∷ 0 ∷ 0 ∷ 0 ∷ 0 ∷ 0 ∷ 0 ∷ 0 ∷ 2 ∷ 88 ∷ 0 ∷ 0 ∷ 0 ∷ []

-- the minor code, and that the operation wasn't completed
abbrev pub refusal_back : List ℕ
refusal_back = 0 ∷ 0 ∷ 0 ∷ 3 ∷ 0 ∷ 0 ∷ 0 ∷ 1 ∷ []

-- in two pieces, the first with all but its last two numbers
abbrev pub refusal_begins : Msg
refusal_begins = message_of V12 Reply Big true refusal_front

-- the Fragment behind it
abbrev pub refusal_ends : Msg
refusal_ends = message_of V12 Fragment Big false (0 ∷ 0 ∷ 0 ∷ 7 ∷ refusal_back)

-- both
abbrev pub refusal_cut : Cut
refusal_cut = record { first = refusal_begins; rest = refusal_ends ∷ [] }

-- and in one message
abbrev pub refusal_whole : Msg
refusal_whole = message_of V12 Reply Big false (refusal_front ++ refusal_back)

-- the limits of both ends
abbrev pub room : Limits
room = record { calls = 3; message = 64; gathered = 64 }
