-- What a call comes to by its own messages alone: those that name its id, in their order.
use Rattle.std.specs.Prelude.{◌≡◌, ℕ, ◌==◌, Bool, false, if◌then◌else◌, List, [], ◌∷◌, Option, Some, None, Result, Ok, Err}
use Rattle.giop_cdr.specs.declared.fault.CdrFault.{CdrFault}
use Rattle.giop_msg.specs.declared.msg.Msg.{Msg}
use Rattle.giop_msg.specs.RequestId.{request_id_of}
use Rattle.giop_ids.specs.declared.addressed.Addressed.{Addressed}
use Rattle.giop_ids.specs.Runs.{MeetsNoLimit, Rules, Runs, addressed, left, own}
use Rattle.giop_table.specs.declared.table_fault.TableFault.{TableFault}
use Rattle.giop_table.specs.CallTable.{Act, Call, Held, Reply, Turned, at, is_of_call}

-- whether a message names an id
abbrev pub names_by : Option (Result ℕ CdrFault) → ℕ → Bool
names_by (Some (Ok named)) id = id == named
names_by (Some (Err fault)) id = false
names_by None id = false

abbrev pub names : Msg → ℕ → Bool
names m id = names_by (request_id_of m) id

-- the messages that name an id, in their order
abbrev pub own_messages : ℕ → List Msg → List Msg
own_messages id [] = []
own_messages id (m ∷ messages) =
    if names m id then m ∷ own_messages id messages else own_messages id messages

-- two lists of messages have the same of each id, in the same order
abbrev pub SameOfEach : List Msg → List Msg → Type 0
SameOfEach one other = (id : ℕ) → own_messages id one ≡ own_messages id other

-- each call is the same at both
abbrev pub SameCalls : {R E : Type 0} → Held R E → Held R E → Type 0
SameCalls h k = (id : ℕ) → at h id ≡ at k id

-- two lists of acts have the same of each id, in the same order
abbrev pub SameActs : {V : Type 0} → List (Addressed (Act V)) → List (Addressed (Act V)) → Type 0
SameActs one other = (id : ℕ) → own id one ≡ own id other

-- what was answered to the acts of an id
abbrev pub answers_of : {E V A F : Type 0} → ℕ → List (Addressed (Act V))
    → List (Result (Reply E A) (TableFault F)) → List (Result (Reply E A) (TableFault F))
answers_of id acts results = own id (addressed acts results)

-- no act of an id meets a limit, or want of memory
abbrev pub MeetsNone : {E V A F : Type 0} → ℕ → List (Addressed (Act V))
    → List (Result (Reply E A) (TableFault F)) → Type 0
MeetsNone id acts results = MeetsNoLimit is_of_call id acts results

-- and none of a run does
abbrev pub MeetNone : {E V A F : Type 0} → List (Addressed (Act V))
    → List (Result (Reply E A) (TableFault F)) → Type 0
MeetNone acts results = (id : ℕ) → MeetsNone id acts results

module _ {E V A F : Type 0} (turn : Call E → Act V → Turned E A F)
    (act_by : Msg → Call E → Act V) where
  -- what a message leaves of the call that it names
  abbrev pub call_after : Msg → Call E → Call E
  call_after m call = left call (turn call (act_by m call))

  -- what these leave of it, one after another
  abbrev pub alone_heard : Call E → List Msg → Call E
  alone_heard call [] = call
  alone_heard call (m ∷ messages) = alone_heard (call_after m call) messages

-- acts run by these rules, and none of them meets a limit, or want of memory
abbrev pub RunsFreely : {R E V A F : Type 0}
    → Rules (Held R E) (Call E) (Act V) (Reply E A) (TableFault F) → Held R E
    → List (Addressed (Act V)) → List (Result (Reply E A) (TableFault F)) → Held R E → Type 0
RunsFreely rules h acts results k = Runs rules h acts results k × MeetNone acts results

module _ {R E V A F : Type 0} (turn : Call E → Act V → Turned E A F)
    (act_by : Msg → Call E → Act V) where
  -- what is stored for an id is what its own of these messages leave of what was
  abbrev pub IsHeardAlone : Held R E → List Msg → Held R E → ℕ → Type 0
  IsHeardAlone h messages k id =
      at k id ≡ alone_heard turn act_by (at h id) (own_messages id messages)
