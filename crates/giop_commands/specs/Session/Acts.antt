-- What the programs of `call` and `serve` do at their ends: each act is refused or puts a message
-- out, and pieces of several messages are put out in turn (CORBA 3.3 Part 2, 9.4.9).
use Rattle.std.specs.Prelude.{◌≡◌, ◌≢◌, ◌⊎◌, ℕ, ◌<◌, max, Bool, List, [], ◌∷◌, map, Option, Some, None, Result, Err}
use Rattle.std.specs.FinMap as finite
use Rattle.giop_ids.specs.Runs.{Rules}
use Rattle.giop_mux.specs.declared.step.Step.{Step}
use Rattle.giop_end.specs.declared.end.End.{End}
use Rattle.giop_table.specs.declared.plan.Plan.TheVariants.{Next}
use Rattle.giop_table.specs.declared.plan.Planned.{Planned}
use Rattle.giop_end.specs.declared.session_fault.SessionFault.{SessionFault}
use Rattle.giop_end.specs.declared.session_fault.SessionFault.TheVariants.{NoMemory}
use Rattle.giop_table.specs.declared.table_fault.TableFault.{TableFault}
use Rattle.giop_table.specs.CallTable.{Act, Call, Held, Reply, rules_of}
use Rattle.giop_table.specs.Sending.{left_in}
use Rattle.giop_end.specs.Acts.Putting.{Puts}
use Rattle.giop_table.specs.Sending.{entry_of}
use Rattle.giop_commands.specs.Check.{answer_of}
use Rattle.giop_commands.specs.Session.Steps.{Times, Upto}

-- what an act changes of an end: its calls, and the octets that are outgoing
pub record Outbox (S : Type 0) : Type 0 where
  pub calls : S
  pub outgoing : List ℕ

-- what an act changes, from its parts
abbrev pub outbox : {S : Type 0} → S → List ℕ → Outbox S
outbox calls outgoing = record { calls = calls; outgoing = outgoing }

-- what it changes, at an end
abbrev pub outbox_of : {R E V A F : Type 0} → End R E V A F → Outbox (Held R E)
outbox_of end = outbox end.calls end.outgoing

module _ {R E V A F : Type 0} (rules : Rules (Held R E) (Call E) (Act V) (Reply E A) (TableFault F))
    (of_rule : ℕ → F → SessionFault) where
  -- an act for an id, at an end that has this fault, if it has one: a failed end returns its
  -- fault; else the act is refused for this, or planned so
  pub record Acts (fault : Option SessionFault) (id : ℕ) (refusal : Option F)
      (Plans : Planned V → Type 0) (s : Outbox (Held R E)) (result : Result (Unit {0}) SessionFault)
      (t : Outbox (Held R E)) : Type 0 where
    pub failed : (why : SessionFault) → fault ≡ Some why → (result ≡ Err why) × (t ≡ s)
    pub puts : fault ≡ None
        → Puts rules of_rule id refusal Plans s.calls s.outgoing result t.calls t.outgoing

  -- such an act, where a refusal is reported, and being out of memory is none
  abbrev pub ActsOrTells : Option SessionFault → ℕ → Option F → (Planned V → Type 0)
      → Outbox (Held R E) → Option SessionFault → Outbox (Held R E) → Type 0
  ActsOrTells fault id refusal Plans s refused t =
      Acts fault id refusal Plans s (answer_of refused) t × (refused ≢ Some NoMemory)

-- how many pieces are left of that of some ids which has the most of them
abbrev pub most : List ℕ → ℕ
most [] = 0
most (left ∷ lefts) = max left (most lefts)

-- a side of a connection by its rule and its event of a piece that is sent, and the fault that
-- stands at the end, if one does
module _ {R E V A F : Type 0} (next : R → Option E → V → Step E A F) (closed : R → E → Bool)
    (gathering : E → Bool) (of_rule : ℕ → F → SessionFault) (send : V)
    (fault : Option SessionFault) where
  -- the next piece of an id is put out
  abbrev pub SendsPiece : ℕ → Outbox (Held R E) → Result (Unit {0}) SessionFault
      → Outbox (Held R E) → Type 0
  SendsPiece id s =
      Acts (rules_of (next s.calls.rule) (closed s.calls.rule) gathering) of_rule fault id None
      (λ planned. planned ≡ record { event = send; plan = Next }) s

  -- as many pieces are left of an entry as this says
  module _ (left : E → ℕ) where
    -- how many pieces of an id are left
    abbrev pub left_at : Held R E → ℕ → ℕ
    left_at calls id = left_in left (entry_of (finite.get calls.table id))

    -- it is an id's turn: its next piece is put out, where one is left
    abbrev pub SendsNext : ℕ → Outbox (Held R E) → Option SessionFault → Outbox (Held R E)
        → Type 0
    SendsNext id s refused t =
        ((left_at s.calls id ≡ 0) × (refused ≡ None) × (t ≡ s))
        ⊎ ((0 < left_at s.calls id) × SendsPiece id s (answer_of refused) t
        × (refused ≢ Some NoMemory))

    -- a round: it is the turn of each id, ascending
    abbrev pub SendsRound : List ℕ → ℕ → Outbox (Held R E) → Option SessionFault
        → Outbox (Held R E) → Type 0
    SendsRound ids round = Upto SendsNext ids

    -- as many rounds as pieces are left of the id that has the most of them
    abbrev pub SendsAll : Outbox (Held R E) → Option SessionFault → Outbox (Held R E) → Type 0
    SendsAll s =
        Times (SendsRound (finite.keys s.calls.table))
        (most (map (left_at s.calls) (finite.keys s.calls.table))) s
