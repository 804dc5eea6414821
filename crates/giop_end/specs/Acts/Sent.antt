-- What an end sends: its calls and answers, in messages within its limits (CORBA 3.3 Part 2, 9.4).
use Rattle.std.specs.Prelude.{◌≡◌, ℕ, ◌<◌, ◌^◌, false, List, [], ◌∷◌, length}
use Rattle.giop_cdr.specs.Ending.{Ending}
use Rattle.giop_cdr.specs.declared.order.Order.{Order}
use Rattle.giop_msg.specs.declared.kind.Kind.{Kind}
use Rattle.giop_msg.specs.declared.kind.Kind.TheVariants as message
use Rattle.giop_msg.specs.declared.msg.Msg.{Msg}
use Rattle.giop_msg.specs.declared.version.Version.{Version}
use Rattle.giop_msg.specs.declared.version.Version.TheVariants.{V12}
use Rattle.giop_msg.specs.Cut.{IsCut, message_of}
use Rattle.giop_msg.specs.Header.{ulong_octets}
use Rattle.giop_end.specs.declared.acts.form.Form.{Form}
use Rattle.giop_table.specs.declared.plan.Planned.{Planned}
use Rattle.giop_table.specs.declared.plan.Plan.TheVariants.{Put}

-- an event is planned to send these joined octets, as messages of a kind; it says how many
abbrev pub IsSent : {V : Type 0} → Version → Kind → Form → List ℕ → (ℕ → V) → Planned V → Type 0
IsSent version kind form octets event planned =
    (messages : List Msg) × IsCut version kind form.order octets form.piece messages
    × (planned ≡ record { event = event (length messages); plan = Put messages })

-- what a program passes by value is in range: each number of the message, and the size of a piece
pub record InRange {A : Type 0} (layout : Ending A) (value : A) (form : Form) : Type 0 where
  pub holds : layout.holds value
  pub piece : form.piece < 2 ^ 32

-- an event is planned to send a value that a program passes, which is in range
pub record IsValueSent {A V : Type 0} (layout : Ending A) (value : A) (version : Version)
    (kind : Kind) (form : Form) (octets : List ℕ) (event : ℕ → V) (planned : Planned V)
    : Type 0 where
  pub in_range : InRange layout value form
  pub sent : IsSent version kind form octets event planned

-- an event is planned to send one message
abbrev pub sends_one : {V : Type 0} → V → Msg → Planned V
sends_one event m = record { event = event; plan = Put (m ∷ []) }

-- the CancelRequest of an id (9.4.4)
abbrev pub cancel_request : Version → Order → ℕ → Msg
cancel_request version order id =
    message_of version message.CancelRequest order false (ulong_octets order id)

-- the CloseConnection (9.4.7)
abbrev pub close_connection : Order → Msg
close_connection order = message_of V12 message.CloseConnection order false []
