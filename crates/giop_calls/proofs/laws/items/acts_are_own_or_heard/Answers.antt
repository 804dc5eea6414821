use Rattle.std.proofs.Common.{◌≡◌, ◌⊎◌, false, inl, inr, refl, ap}
use Rattle.giop_mux.specs.Runs.{Happening, Hears}
use Rattle.giop_calls.specs.Pieces.{IsHeard}
use Rattle.giop_calls.specs.ClientItems as client_said
use Rattle.giop_calls.specs.ServerItems as server_said
use Rattle.giop_calls.specs.declared.client.event.ClientEvent.{ClientEvent}
use Rattle.giop_calls.specs.declared.client.event.ClientEvent.TheVariants as at_client
use Rattle.giop_calls.specs.declared.server.event.ServerEvent.{ServerEvent}
use Rattle.giop_calls.specs.declared.server.event.ServerEvent.TheVariants as at_server
use Rattle.giop_calls.specs.declared.kind.CallKind.TheVariants as kind
use Rattle.giop_msg.specs.declared.version.Version.TheVariants as version
use Rattle.giop_calls.proofs.laws.items.acts_are_own_or_heard.Goals as goal

abbrev ServerHears : Happening ServerEvent → Type 0
ServerHears act = IsHeard server_said.server_words act ⊎ (act ≡ Hears at_server.Cancel)

heard_at_server : (act : Happening ServerEvent) → server_said.is_own act ≡ false → ServerHears act
heard_at_server (Hears (at_server.Whole call)) other = inl (inl (call, refl))
heard_at_server (Hears (at_server.First kind)) other = inl (inr (inl (kind, refl)))
heard_at_server (Hears (at_server.More in_order)) other = inl (inr (inr (inl (in_order, refl))))
heard_at_server (Hears (at_server.Last in_order call)) other = inl (inr (inr (inr (call, (in_order, refl)))))
heard_at_server (Hears at_server.Cancel) other = inr refl
heard_at_server act other = absurd cc

not_own_at_server : (act : Happening ServerEvent) → ServerHears act → server_said.is_own act ≡ false
not_own_at_server act (inl (inl (call, is))) = ap server_said.is_own is
not_own_at_server act (inl (inr (inl (kind, is)))) = ap server_said.is_own is
not_own_at_server act (inl (inr (inr (inl (in_order, is))))) = ap server_said.is_own is
not_own_at_server act (inl (inr (inr (inr (call, (in_order, is)))))) = ap server_said.is_own is
not_own_at_server act (inr is) = ap server_said.is_own is

heard_at_client : (act : Happening ClientEvent) → client_said.is_own act ≡ false → IsHeard client_said.client_words act
heard_at_client (Hears (at_client.Whole kind version reply)) other =
    inl (record { begun = record { kind = kind; version = version }; reply = reply }, refl)
heard_at_client (Hears (at_client.First kind version)) other = inr (inl (record { kind = kind; version = version }, refl))
heard_at_client (Hears (at_client.More in_order)) other = inr (inr (inl (in_order, refl)))
heard_at_client (Hears (at_client.Last in_order reply)) other =
    inr (inr (inr (record { begun = record { kind = kind.Request; version = version.V12 }; reply = reply }, (in_order, refl))))
heard_at_client act other = absurd cc

not_own_at_client : (act : Happening ClientEvent) → IsHeard client_said.client_words act → client_said.is_own act ≡ false
not_own_at_client act (inl (message, is)) = ap client_said.is_own is
not_own_at_client act (inr (inl (begun, is))) = ap client_said.is_own is
not_own_at_client act (inr (inr (inl (in_order, is)))) = ap client_said.is_own is
not_own_at_client act (inr (inr (inr (message, (in_order, is))))) = ap client_said.is_own is

pub returns-clause-server : goal.returns-clause-server
returns-clause-server c = λ act. (heard_at_server act, not_own_at_server act)

pub returns-clause-client : goal.returns-clause-client
returns-clause-client c = λ act. (heard_at_client act, not_own_at_client act)
