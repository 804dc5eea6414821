-- What a schedule of a world comes to.
use Rattle.std.proofs.Common.{◌≡◌, ℕ, Bool, true, false, if◌then◌else◌, [], ◌∷◌, Option, Some, Err, refl, sym, ap, subst, inr}
use Rattle.std.specs.FinMap as finite
use Rattle.std.specs.Ordering.{nat_cmp}
use Rattle.giop_types.specs.declared.interfaces.interface.Interface.{Interface}
use Rattle.giop_cdr.specs.declared.order.Order.TheVariants.{Big}
use Rattle.giop_calls.specs.ClientTable as client
use Rattle.giop_calls.specs.declared.client.entry.ClientEntry.{ClientEntry}
use Rattle.giop_calls.specs.declared.fault.CallFault.{CallFault}
use Rattle.giop_calls.specs.declared.fault.CallFault.TheVariants.{NotOpen}
use Rattle.giop_session.specs.declared.laws.inputs.Answered.{Answered}
use Rattle.giop_session.specs.declared.laws.inputs.Answered.TheVariants as answer
use Rattle.giop_session.specs.declared.laws.inputs.ClientInput.TheVariants as client_input
use Rattle.giop_session.specs.declared.SessionFault.TheVariants.{Call as InCall, NoMemory}
use Rattle.giop_session.specs.declared.Slot.{Slot}
use Rattle.giop_session.specs.Calls.CallTable.{rules_of, entry_at}
use Rattle.giop_session.specs.Acts.ClientCalls.{IsCancel, cancel_fault, open_version}
use Rattle.giop_session.specs.Runs.ClientRuns.{client_run}
use Rattle.giop_session.specs.Runs.SideRuns.{SideIsGiven}
use Rattle.giop_session.specs.Ends.Begun.{new_end}
use Rattle.giop_session.specs.Hearing.Heard.{in_call}
use Rattle.giop_session.specs.Acts.Putting.{Puts}
use Rattle.giop_session.specs.Calls.Sending.{entry_of}
use Rattle.giop_session.specs.Worlds.World.{WorldRuns, new_world}
use Rattle.laws_in_use.specs.Left.{new_client}
use Rattle.laws_in_use.specs.Locating.{limits}
use Rattle.laws_in_use.specs.Worlds.{unasked}

-- a cancel of no call is refused
no_fault_else : cancel_fault (open_version (entry_at (new_client limits) 9)) ≡ Some NotOpen
no_fault_else = ap (λ (slot : Option (Slot ClientEntry)). cancel_fault (open_version (entry_of slot))) (finite.get-empty nat_cmp 9)

refused : Puts (rules_of client.client_step client.is_closed client.is_gathering) in_call 9
    (cancel_fault (open_version (entry_at (new_client limits) 9)))
    (IsCancel 9 Big (open_version (entry_at (new_client limits) 9))) (new_client limits) [] (Err (InCall 9 NotOpen)) (new_client limits) []
refused = subst
    (λ (fault : Option CallFault). Puts (rules_of client.client_step client.is_closed client.is_gathering) in_call 9 fault
    (IsCancel 9 Big (open_version (entry_at (new_client limits) 9))) (new_client limits) [] (Err (InCall 9 NotOpen)) (new_client limits) [])
    (sym no_fault_else)
    (inr (refl, refl, refl))

not_memory : ◌≡◌ {A = Answered ClientEntry} (answer.Refused (InCall 9 NotOpen)) (answer.Refused NoMemory) → ⊥
not_memory is = absurd cc

given : (interface : Interface)
    → SideIsGiven (client_run interface) limits (new_end (record {}) limits) (client_input.Cancel 9 Big) (answer.Refused (InCall 9 NotOpen))
    (new_end (record {}) limits)
given interface = (not_memory, (refused, refl))

pub unasked_runs : (interface : Interface) → WorldRuns interface limits limits unasked (Err (InCall 9 NotOpen) ∷ []) (new_world limits limits)
unasked_runs interface = (new_world limits limits, (answer.Refused (InCall 9 NotOpen), given interface, refl, refl), refl)

-- the status tells what the server said
pub by_status : {A : Type 0} {e : A} (entry : Bool → A) (told : Bool) → ◌≡◌ {A = ℕ} 1 (if told then 1 else 0) → e ≡ entry told → e ≡ entry true
by_status entry true status is = is
by_status entry false status is = absurd cc
