-- What a client's end and a server's end put out are messages of their sides.
use Rattle.std.proofs.Common.{◌≡◌, ℕ, Bool, true, false, cond, List, [], Option, Some, None, refl, sym, subst}
use Rattle.std.specs.FinMap as finite
use Rattle.std.specs.Ordering.{nat_cmp}
use Rattle.giop_types.specs.declared.interfaces.interface.Interface.{Interface}
use Rattle.giop_msg.specs.declared.kind.Kind.{Kind}
use Rattle.giop_msg.specs.declared.kind.Kind.TheVariants as message
use Rattle.giop_msg.specs.declared.messages.request.Request.{Request}
use Rattle.giop_msg.specs.declared.msg.Msg.{Msg}
use Rattle.giop_msg.specs.declared.version.Version.{Version}
use Rattle.giop_calls.specs.declared.client.call.Call.{Call as Asked}
use Rattle.giop_calls.specs.declared.kind.CallKind.{CallKind}
use Rattle.giop_calls.specs.declared.kind.CallKind.TheVariants as kind
use Rattle.giop_calls.specs.declared.client.entry.ClientEntry.{ClientEntry}
use Rattle.giop_calls.specs.declared.client.call.Call.TheVariants as asked
use Rattle.giop_calls.specs.declared.client.event.ClientEvent.{ClientEvent}
use Rattle.giop_calls.specs.declared.client.event.ClientEvent.TheVariants as client_event
use Rattle.giop_calls.specs.declared.client.rule.ClientRule.{ClientRule}
use Rattle.giop_calls.specs.declared.server.entry.ServerEntry.{ServerEntry}
use Rattle.giop_calls.specs.declared.server.event.ServerEvent.{ServerEvent}
use Rattle.giop_calls.specs.declared.server.event.ServerEvent.TheVariants as server_event
use Rattle.giop_calls.specs.declared.server.rule.ServerRule.{ServerRule}
use Rattle.giop_end.specs.declared.acts.form.Form.{Form}
use Rattle.giop_session.specs.declared.laws.inputs.Answered.{Answered}
use Rattle.giop_session.specs.declared.laws.inputs.ClientInput.{ClientInput}
use Rattle.giop_session.specs.declared.laws.inputs.ClientInput.TheVariants as client
use Rattle.giop_session.specs.declared.laws.inputs.ServerInput.{ServerInput}
use Rattle.giop_session.specs.declared.laws.inputs.ServerInput.TheVariants as server
use Rattle.giop_end.specs.declared.limits.Limits.{Limits}
use Rattle.giop_table.specs.declared.plan.Planned.{Planned}
use Rattle.giop_table.specs.CallTable.{Act, Call, Held, entry_at}
use Rattle.giop_end.specs.Acts.ClientCalls.{IsCancel, open_version}
use Rattle.giop_end.specs.Hearing.ClientHears as client_hears
use Rattle.giop_end.specs.Hearing.Pieces as joining
use Rattle.giop_end.specs.Hearing.ClientHears.{client_act, client_side}
use Rattle.giop_session.specs.Runs.ClientRuns.{client_deed, client_run}
use Rattle.giop_session.specs.Runs.ServerRuns.{server_deed, server_run}
use Rattle.giop_session.specs.Runs.SideRuns.{SideRuns}
use Rattle.giop_end.specs.Ends.Begun.{EndState, new_end}
use Rattle.giop_session.specs.Acts.PutOut.{AreOf, ArePutOut, is_of_client, is_of_server}
use Rattle.giop_table.specs.Sending.{unsent_of}
use Rattle.giop_end.specs.Acts.Sent.{IsSent}
use Rattle.giop_end.specs.Acts.ServerAnswers.{IsAnswer, IsLocateAnswer, locate_of, question_of, reply_octets}
use Rattle.giop_end.specs.Hearing.ServerHears as server_hears
use Rattle.giop_end.specs.Hearing.ServerHears.{server_act, server_side}
use Rattle.giop_session.proofs.OnActs.PutOutLemmas.{ActIsOf, DeedIsOf, PlanIsOf, cut_are, run_is}

-- what is sent in messages of a kind
sent_is : {V : Type 0} (sends : Kind → Bool) (version : Version) (kind : Kind) (form : Form) (octets : List ℕ) (event : ℕ → V)
    (planned : Planned V) → sends kind ≡ true → sends message.Fragment ≡ true
    → IsSent version kind form octets event planned → PlanIsOf sends planned.plan
sent_is sends version kind form octets event planned own fragment (messages, cut, is) =
    subst (λ p. PlanIsOf sends p.plan) (sym is) (cut_are sends version kind form.order octets form.piece messages own fragment cut)

-- one of two acts
act_if : {V : Type 0} (sends : Kind → Bool) (b : Bool) (one other : Act V) → ActIsOf sends one → ActIsOf sends other
    → ActIsOf sends (cond b one other)
act_if sends true one other is those = is
act_if sends false one other is those = those

-- what comes to a client puts nothing out
client_first : (interface : Interface) (kind : CallKind) (m : Msg) (awaits : Option Asked)
    → ActIsOf is_of_client (client_hears.comes interface kind m awaits)
client_first interface kind m None = act_if is_of_client m.more _ _ tt tt
client_first interface kind m (Some call) = act_if is_of_client m.more _ _ tt tt

client_more : (interface : Interface) (m : Msg) (pieces : Option (Asked × List ℕ))
    → ActIsOf is_of_client (joining.continues client_hears.client_pieces interface m pieces)
client_more interface m None = tt
client_more interface m (Some pieces) = act_if is_of_client m.more _ _ tt tt

client_comes : (interface : Interface) (m : Msg) (call : Call ClientEntry) → ActIsOf is_of_client (client_act interface m call)
client_comes interface m call = by_kind m.kind
  where
    by_kind : (kind : Kind) → ActIsOf is_of_client (client_hears.act_by_kind interface m call kind)
    by_kind message.Reply = client_first interface kind.Request m (client_hears.awaited kind.Request m.version call.slot)
    by_kind message.LocateReply = client_first interface kind.Locate m (client_hears.awaited kind.Locate m.version call.slot)
    by_kind message.Fragment = client_more interface m (joining.continued m.order (client_hears.gathered_call call.slot) call.pieces)
    by_kind message.Request = tt
    by_kind message.LocateRequest = tt
    by_kind message.CancelRequest = tt
    by_kind message.CloseConnection = tt
    by_kind message.MessageError = tt

client_deeds : (interface : Interface) (limits : Limits) (h : Held ClientRule ClientEntry) (input : ClientInput)
    → DeedIsOf is_of_client (client_deed interface limits h input)
client_deeds interface limits h (client.Feed octets) = tt
client_deeds interface limits h (client.Call request form) = λ planned is.
    sent_is is_of_client _ message.Request form.form _ (client_event.Call (asked.Request request)) planned refl refl is.sent
client_deeds interface limits h (client.Locate request form) =
    λ planned is. sent_is is_of_client _ message.LocateRequest form.form _ (client_event.Call (asked.Locate request)) planned refl refl is.sent
client_deeds interface limits h (client.Cancel id order) = λ planned is. by_version (open_version (entry_at h id)) planned is
  where
    by_version : (version : Option Version) (planned : Planned ClientEvent) → IsCancel id order version planned → PlanIsOf is_of_client planned.plan
    by_version None planned is = absurd is
    by_version (Some version) planned (small, is) = subst (λ p. PlanIsOf is_of_client p.plan) (sym is) (refl, tt)
client_deeds interface limits h (client.Send id) = λ planned is. subst (λ p. PlanIsOf is_of_client p.plan) (sym is) tt
client_deeds interface limits h (client.Take id) = tt
client_deeds interface limits h client.Close = refl

pub client_puts_out : (interface : Interface) (limits : Limits) (inputs : List ClientInput) (answers : List (Answered ClientEntry))
    (s : EndState (Held ClientRule ClientEntry)) → SideRuns (client_run interface) limits inputs answers s → ArePutOut is_of_client s.outgoing
client_puts_out interface limits inputs answers s run =
    (run_is is_of_client (client_side interface) (client_comes interface) (client_deed interface limits) (client_deeds interface limits)
    (new_end (record {}) limits) s inputs answers run
    ((λ id. subst (λ slot. AreOf is_of_client (unsent_of slot)) (sym (finite.get-empty nat_cmp id)) tt), record { messages = []; own = tt; whole = refl })).1

-- nor what comes to a server
server_first : (interface : Interface) (kind : CallKind) (m : Msg) → ActIsOf is_of_server (server_hears.comes interface kind m)
server_first interface kind m = act_if is_of_server m.more _ _ tt tt

server_more : (interface : Interface) (m : Msg) (pieces : Option (CallKind × List ℕ))
    → ActIsOf is_of_server (joining.continues server_hears.server_pieces interface m pieces)
server_more interface m None = tt
server_more interface m (Some pieces) = act_if is_of_server m.more _ _ tt tt

server_comes : (interface : Interface) (m : Msg) (call : Call ServerEntry) → ActIsOf is_of_server (server_act interface m call)
server_comes interface m call = by_kind m.kind
  where
    by_kind : (kind : Kind) → ActIsOf is_of_server (server_hears.act_by_kind interface m call kind)
    by_kind message.Request = server_first interface kind.Request m
    by_kind message.LocateRequest = server_first interface kind.Locate m
    by_kind message.CancelRequest = tt
    by_kind message.Fragment = server_more interface m (joining.continued m.order (server_hears.gathered_kind call.slot) call.pieces)
    by_kind message.Reply = tt
    by_kind message.LocateReply = tt
    by_kind message.CloseConnection = tt
    by_kind message.MessageError = tt

server_deeds : (interface : Interface) (limits : Limits) (h : Held ServerRule ServerEntry) (input : ServerInput)
    → DeedIsOf is_of_server (server_deed interface limits h input)
server_deeds interface limits h (server.Feed octets) = tt
server_deeds interface limits h (server.Answer reply form) = λ planned is. by_question (question_of (entry_at h reply.id)) planned is
  where
    by_question : (question : Option (Option Request)) (planned : Planned ServerEvent) → IsAnswer interface question reply form.form planned
        → PlanIsOf is_of_server planned.plan
    by_question None planned is = subst (λ p. PlanIsOf is_of_server p.plan) (sym is) tt
    by_question (Some question) planned is =
        sent_is is_of_server reply.version message.Reply form.form (reply_octets interface question reply form.form.order)
        (server_event.Answer reply) planned refl refl is.sent
server_deeds interface limits h (server.AnswerLocate id here order) =
    λ planned is. by_version (locate_of here (entry_at h id)) planned is
  where
    by_version : (version : Option Version) (planned : Planned ServerEvent) → IsLocateAnswer id here order version planned
        → PlanIsOf is_of_server planned.plan
    by_version None planned is = subst (λ p. PlanIsOf is_of_server p.plan) (sym is) tt
    by_version (Some version) planned (small, is) = subst (λ p. PlanIsOf is_of_server p.plan) (sym is) (refl, tt)
server_deeds interface limits h (server.Send id) = λ planned is. subst (λ p. PlanIsOf is_of_server p.plan) (sym is) tt
server_deeds interface limits h (server.Take id) = tt
server_deeds interface limits h server.Close = refl

pub server_puts_out : (interface : Interface) (limits : Limits) (inputs : List ServerInput) (answers : List (Answered ServerEntry))
    (s : EndState (Held ServerRule ServerEntry)) → SideRuns (server_run interface) limits inputs answers s → ArePutOut is_of_server s.outgoing
server_puts_out interface limits inputs answers s run =
    (run_is is_of_server (server_side interface) (server_comes interface) (server_deed interface limits) (server_deeds interface limits)
    (new_end (record {}) limits) s inputs answers run
    ((λ id. subst (λ slot. AreOf is_of_server (unsent_of slot)) (sym (finite.get-empty nat_cmp id)) tt), record { messages = []; own = tt; whole = refl })).1
