-- What an event of an end's own program comes to, by what the table of calls answered.
use Rattle.std.proofs.Common.{◌≡◌, ℕ, Bool, List, ◌++◌, Option, Some, None, Result, Err, IfNone, IfSome, ◌∙◌, inl, inr}
use Rattle.std.specs.FinMap as finite
use Rattle.giop_mux.specs.declared.step.Step.{Step}
use Rattle.giop_calls.specs.declared.fault.CallFault.{CallFault}
use Rattle.giop_table.specs.declared.plan.Planned.{Planned}
use Rattle.giop_table.specs.declared.table_fault.TableFault.{TableFault}
use Rattle.giop_table.specs.CallTable.{Held, Nothing, rules_of}
use Rattle.giop_table.specs.Sending.{sends_of, unsent_of}
use Rattle.giop_table.proofs.TableLemmas.{DoesSo}
use Rattle.giop_end.specs.declared.session_fault.SessionFault.{SessionFault}
use Rattle.giop_end.specs.declared.session_fault.SessionFault.TheVariants.{NoMemory}
use Rattle.giop_end.specs.Acts.Putting.{Puts, put_out}
use Rattle.giop_end.specs.Hearing.Heard.{in_call, result_of}
use Rattle.giop_end.proofs.OnHearing.EventLemmas.{returned_is}

-- it acts on its call, or the end was out of memory for its message
pub acted : {R E V : Type 0} (next : Option E → V → Step E (Unit {0}) CallFault) (closed gathering : E → Bool)
    (Plans : Planned V → Type 0) (h k : Held R E) (id : ℕ) (planned : Planned V) (out out' : List ℕ)
    (put : Option (Result (Unit {0}) (TableFault CallFault))) (result : Result (Unit {0}) SessionFault) → Plans planned
    → IfSome put (λ answered. DoesSo next closed gathering h id planned Nothing answered k)
    → IfSome put (λ answered. out' ≡ out ++ put_out (sends_of planned.plan (unsent_of (finite.get h.table id)) answered))
    → IfNone put ((k ≡ h) × (out' ≡ out))
    → IfSome put (λ answered. result ≡ result_of (in_call id) answered) → IfNone put (result ≡ Err NoMemory)
    → Puts (rules_of next closed gathering) in_call id None Plans h out result k out'
acted next closed gathering Plans h k id planned out out' None result plans does puts kept returned want = inl (want, kept.0, kept.1)
acted next closed gathering Plans h k id planned out out' (Some answered) result plans does puts kept returned want =
    let unsent = unsent_of (finite.get h.table id) in
    inr (
      planned,
      plans,
      record {
        answered = sends_of planned.plan unsent answered;
        does = does;
        returned = returned ∙ returned_is (in_call id) planned.plan unsent answered;
        puts = puts;
      },
    )
