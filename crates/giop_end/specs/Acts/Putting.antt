-- What an end's own program does: an event acts on the call of one id, and the message that it
-- sends is put out behind what is outgoing (CORBA 3.3 Part 2, 9.4).
use Rattle.std.specs.Prelude.{◌≡◌, ◌⊎◌, ℕ, ◌++◌, List, [], Option, Some, None, Result, Ok, Err}
use Rattle.giop_ids.specs.Runs.{Does, Rules}
use Rattle.giop_msg.specs.declared.msg.Msg.{Msg}
use Rattle.giop_msg.specs.Msg.{message_octets}
use Rattle.giop_table.specs.declared.plan.Planned.{Planned}
use Rattle.giop_end.specs.declared.session_fault.SessionFault.{SessionFault}
use Rattle.giop_end.specs.declared.session_fault.SessionFault.TheVariants.{NoMemory}
use Rattle.giop_table.specs.declared.table_fault.TableFault.{TableFault}
use Rattle.giop_table.specs.CallTable.{Act, Call, Held, Hears, Nothing, Reply, event_reply}
use Rattle.giop_table.specs.Sending.{Sends}
use Rattle.giop_end.specs.Hearing.Heard.{result_of}

-- the octets of the message that an event sends, if it sends one
abbrev pub octets_of : Option Msg → List ℕ
octets_of None = []
octets_of (Some m) = message_octets m

-- and where it is refused, none
abbrev pub put_out : {A F : Type 0} → Result (Sends A) F → List ℕ
put_out (Ok sends) = octets_of sends.message
put_out (Err why) = []

module _ {R E V A F : Type 0} (rules : Rules (Held R E) (Call E) (Act V) (Reply E A) (TableFault F))
    (of_rule : ℕ → F → SessionFault) where
  -- an event acts on the call of an id: these calls are left, and so much is outgoing
  pub record ActsOnCall (id : ℕ) (planned : Planned V) (h : Held R E) (out : List ℕ)
      (result : Result (Unit {0}) SessionFault) (k : Held R E) (out' : List ℕ) : Type 0 where
    pub answered : Result (Sends A) (TableFault F)
    pub does : Does rules h (record { id = id; what = Hears planned Nothing })
        (event_reply answered) k
    pub returned : result ≡ result_of (of_rule id) answered
    pub puts : out' ≡ out ++ put_out answered

  -- the program's call is refused for this; else an event that is planned so acts on its call
  abbrev pub IsDone : ℕ → Option F → (Planned V → Type 0) → Held R E → List ℕ
      → Result (Unit {0}) SessionFault → Held R E → List ℕ → Type 0
  IsDone id (Some why) Plans h out result k out' =
      (result ≡ Err (of_rule id why)) × (k ≡ h) × (out' ≡ out)
  IsDone id None Plans h out result k out' =
      (planned : Planned V) × Plans planned × ActsOnCall id planned h out result k out'

  -- or it is out of memory, and nothing changes
  abbrev pub Puts : ℕ → Option F → (Planned V → Type 0) → Held R E → List ℕ
      → Result (Unit {0}) SessionFault → Held R E → List ℕ → Type 0
  Puts id refusal Plans h out result k out' =
      ((result ≡ Err NoMemory) × (k ≡ h) × (out' ≡ out))
      ⊎ IsDone id refusal Plans h out result k out'
