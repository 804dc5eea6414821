use Rattle.std.proofs.Common.{◌≡◌, ◌↔◌, None, Some, Ok, refl}
use Rattle.giop_calls.specs.declared.client.entry.ClientEntry.{ClientEntry}
use Rattle.giop_calls.specs.declared.client.entry.ClientEntry.TheVariants.{Cancelled, Done, Gathering, LocateDone, OnewaySent, Sending, Undecoded, Waiting}
use Rattle.giop_calls.specs.declared.client.event.ClientEvent.TheVariants as event
use Rattle.giop_calls.specs.ClientTable.{client_step}
use Rattle.giop_session.specs.Acts.ClientCalls.{cancel_fault, open_version}
use Rattle.laws_in_use.proofs.ends.what_may_be_cancelled.Goals as goal

accepted : (stands : ClientEntry) → (cancel_fault (open_version (Some stands)) ≡ None) ↔ ((client_step (Some stands) event.Cancel).outcome ≡ Ok tt)
accepted (Sending call left) = (λ _. refl, λ _. refl)
accepted (Waiting call) = (λ _. refl, λ _. refl)
accepted (Gathering call) = (λ _. refl, λ _. refl)
accepted (Done q r) = (λ is. absurd cc, λ is. absurd cc)
accepted (LocateDone q r) = (λ is. absurd cc, λ is. absurd cc)
accepted (Undecoded call fault) = (λ is. absurd cc, λ is. absurd cc)
accepted (OnewaySent q) = (λ is. absurd cc, λ is. absurd cc)
accepted (Cancelled late) = (λ is. absurd cc, λ is. absurd cc)

pub returns-clause-accepted : goal.returns-clause-accepted
returns-clause-accepted c = accepted
