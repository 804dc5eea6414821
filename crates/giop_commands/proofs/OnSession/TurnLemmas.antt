-- Turns of the sessions of `call` and `serve`.
use Rattle.std.proofs.Common.{◌≡◌, ◌≢◌, ◌⊎◌, ℕ, Bool, false, List, Option, None, Result, Ok, Err, IfOk, IfErr, refl, sym, subst, inl, inr}
use Rattle.std.specs.Io.KnownBytes.{Appends}
use Rattle.giop_end.specs.declared.session_fault.SessionFault.TheVariants.{NoMemory}
use Rattle.giop_end.specs.Ends.SessionFaults.{error_message_of}
use Rattle.giop_msg.specs.declared.msg.Msg.{Msg}
use Rattle.giop_end.specs.declared.pump_fault.PumpFault.TheVariants as turn
use Rattle.giop_end.specs.declared.session_fault.SessionFault.{SessionFault}
use Rattle.giop_end.specs.Pumping.{Between, Turned}
use Rattle.giop_show.specs.declared.failure.Failure.{Failure}
use Rattle.giop_show.specs.declared.failure.Failure.TheVariants.{Memory}
use Rattle.giop_commands.specs.Session.Turns.{GoesOn, IsOfConnection, WaitEnds, Waits, WaitsOn, peer_octets, with_output}
use Rattle.giop_commands.proofs.OnSession.StepLemmas.{Counted}

-- how a client's turns end
pub waited : {S : Type 0} (Hears : Msg → S → Result (Unit {0}) SessionFault → S → Type 0) (are_over : S → Bool) (n : ℕ) (s mid t : Between S)
    (result : Result (Unit {0}) Failure) → Counted (WaitsOn Hears are_over) n s mid → WaitEnds Hears are_over n mid result t → Waits Hears are_over s result t
waited Hears are_over n s mid t result before ends = record {
  turns = before.steps;
  mid = mid;
  each = before.each;
  ends = subst (λ k. WaitEnds Hears are_over k mid result t) (sym before.count) ends;
}

-- a turn met a fault, and the session was broken off
pub broke_off : {S : Type 0} (Hears : Msg → S → Result (Unit {0}) SessionFault → S → Type 0) (s mid : Between S) (output : Option (List ℕ)) (why : SessionFault)
    (result : Result Bool Failure) → Turned Hears s (Err (turn.Session why)) mid
    → IfOk result (λ goes. (goes ≡ false) × (why ≢ NoMemory) × Appends mid.output output (peer_octets mid.state.fault))
    → IfErr result (λ failure. ((failure ≡ Memory) × (why ≡ NoMemory) × (output ≡ mid.output))
    ⊎ ((why ≢ NoMemory) × (error_message_of mid.state.fault ≢ None) × IsOfConnection failure))
    → GoesOn Hears s result (with_output mid output)
broke_off Hears s mid output why (Ok goes) turned ok err =
    subst (λ b. GoesOn Hears s (Ok b) (with_output mid output)) (sym ok.0)
    (inr (record { why = why; some = ok.1; mid = mid; turned = turned; tells = ok.2; others = refl }))
broke_off Hears s mid output why (Err failure) turned ok (inl want) =
    inl (
      want.0,
      subst (λ o. Turned Hears s (Err (turn.Session NoMemory)) (with_output mid o)) (sym want.2)
          (subst (λ w. Turned Hears s (Err (turn.Session w)) mid) want.1 turned),
    )
broke_off Hears s mid output why (Err failure) turned ok (inr fails) =
    inr (fails.2.0, fails.2.1, inr (inr (record { why = why; some = fails.0; mid = mid; turned = turned; due = fails.1; others = refl })))
