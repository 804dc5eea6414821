-- A run of a server's end whose inputs are within its limits meets none.
use Rattle.std.proofs.Common.{◌≡◌, ℕ, Bool, true, false, List, [], ◌∷◌, Option, Some, None, refl, sym, ap, ◌∙◌}
use Rattle.std.specs.List.{list_any}
use Rattle.giop_types.specs.declared.interfaces.interface.Interface.{Interface}
use Rattle.giop_cdr.specs.declared.order.Order.{Order}
use Rattle.giop_msg.specs.declared.messages.reply.Reply.{Reply}
use Rattle.giop_msg.specs.declared.messages.request.Request.{Request}
use Rattle.giop_msg.specs.declared.version.Version.{Version}
use Rattle.giop_calls.specs.declared.server.entry.ServerEntry.{ServerEntry}
use Rattle.giop_calls.specs.declared.server.event.ServerEvent.{ServerEvent}
use Rattle.giop_calls.specs.declared.server.rule.ServerRule.{ServerRule}
use Rattle.giop_end.specs.declared.acts.form.Form.{Form}
use Rattle.giop_session.specs.declared.laws.inputs.Answered.{Answered}
use Rattle.giop_session.specs.declared.laws.inputs.ServerInput.{ServerInput}
use Rattle.giop_session.specs.declared.laws.inputs.ServerInput.TheVariants as input
use Rattle.giop_end.specs.declared.limits.Limits.{Limits}
use Rattle.giop_table.specs.declared.plan.Planned.{Planned}
use Rattle.giop_table.specs.CallTable.{Held, entry_at}
use Rattle.giop_end.specs.Ends.Begun.{EndState}
use Rattle.giop_session.specs.Runs.Limits.{begins_at_server, is_asking}
use Rattle.giop_session.specs.Runs.RunLimits.{NoneForALimit, ServerIsGivenWithin, fed_to_server}
use Rattle.giop_end.specs.Acts.ServerAnswers.{IsAnswer, IsLocateAnswer, locate_of, question_of}
use Rattle.giop_end.specs.Hearing.ServerHears.{server_side}
use Rattle.giop_session.specs.Runs.ServerRuns.{server_deed, server_run}
use Rattle.giop_session.specs.Runs.SideRuns.{SideRuns}
use Rattle.giop_session.proofs.OnLimits.RunLimitLemmas.{Suits, new_run_free}
use Rattle.giop_session.proofs.OnLimits.ServerLimitLemmas.{begins_only, broken, own, small}

-- no act of a server's own program begins a call
begins_none : (e : ServerEvent) (planned : Planned ServerEvent) → planned.event ≡ e → begins_at_server e ≡ false
    → begins_at_server planned.event ≡ true → false ≡ true
begins_none e planned same none is = sym none ∙ sym (ap begins_at_server same) ∙ is

answered_none : (interface : Interface) (question : Option (Option Request)) (reply : Reply) (form : Form) (planned : Planned ServerEvent)
    → IsAnswer interface question reply form planned → begins_at_server planned.event ≡ true → false ≡ true
answered_none interface None reply form planned same = begins_none _ planned (ap (λ p. p.event) same) refl
answered_none interface (Some question) reply form planned is = begins_none _ planned (ap (λ p. p.event) is.sent.2) refl

located_none : (id : ℕ) (here : Bool) (order : Order) (version : Option Version) (planned : Planned ServerEvent)
    → IsLocateAnswer id here order version planned → begins_at_server planned.event ≡ true → false ≡ true
located_none id here order None planned same = begins_none _ planned (ap (λ p. p.event) same) refl
located_none id here order (Some version) planned (small, same) = begins_none _ planned (ap (λ p. p.event) same) refl

suits : (interface : Interface) (limits : Limits) (h : Held ServerRule ServerEntry) (given : ServerInput)
    → Suits fed_to_server (λ i id. false) begins_at_server given (server_deed interface limits h given)
suits interface limits h (input.Feed octets) = refl
suits interface limits h (input.Answer reply form) =
    (refl, answered_none interface (question_of (entry_at h reply.id)) reply form.form)
suits interface limits h (input.AnswerLocate id here order) = (refl, located_none id here order (locate_of here (entry_at h id)))
suits interface limits h (input.Send id) = (refl, λ planned same. begins_none _ planned (ap (λ p. p.event) same) refl)
suits interface limits h (input.Take id) = refl
suits interface limits h input.Close = refl

nothing_asked : (inputs : List ServerInput) → list_any (λ i. false) inputs ≡ true → false ≡ true
nothing_asked [] is = is
nothing_asked (i ∷ inputs) is = nothing_asked inputs is

pub server_run_free : (interface : Interface) (limits : Limits) (inputs : List ServerInput) (answers : List (Answered ServerEntry))
    (t : EndState (Held ServerRule ServerEntry)) → ServerIsGivenWithin limits inputs → SideRuns (server_run interface) limits inputs answers t
    → NoneForALimit answers
server_run_free interface limits inputs answers t given run =
    new_run_free (server_side interface) is_asking begins_at_server
    (λ rule v. begins_only v) (small interface) own broken fed_to_server (λ i id. false) (server_deed interface limits) (suits interface limits)
    (record {}) limits t inputs answers given.calls.ids given.messages given.rest given.stand given.calls.few given.calls.listed
    (λ id is. let wrong = nothing_asked inputs is in absurd cc) given.octets run
