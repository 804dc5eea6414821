-- Each event leaves as many messages to be sent as the entry says that it leaves.
use Rattle.std.proofs.Common.{◌≡◌, ℕ, ◌-◌, ◌==◌, ◌&&◌, not, Bool, true, false, cond, List, ◌++◌, length, drop, Option, Some, None, is_some, IsOk, refl, sym, ◌∙◌, arith}
use Rattle.std.proofs.lemmas.Bool.{eqb-true}
use Rattle.std.proofs.lemmas.List.{length-drop}
use Rattle.giop_types.specs.declared.interfaces.interface.Interface.{Interface}
use Rattle.giop_msg.specs.declared.kind.Kind.{Kind}
use Rattle.giop_msg.specs.declared.kind.Kind.TheVariants as message
use Rattle.giop_msg.specs.declared.messages.reply.Reply.{Reply}
use Rattle.giop_msg.specs.declared.msg.Msg.{Msg}
use Rattle.giop_calls.specs.declared.fault.CallFault.{CallFault}
use Rattle.giop_calls.specs.declared.fault.CallFault.TheVariants.{IdInUse, NothingToSend, OrderDiffers, Unfit}
use Rattle.giop_calls.specs.declared.kind.CallKind.{CallKind}
use Rattle.giop_calls.specs.declared.kind.CallKind.TheVariants as kind
use Rattle.giop_calls.specs.declared.server.entry.ServerEntry.{ServerEntry}
use Rattle.giop_calls.specs.declared.server.entry.ServerEntry.TheVariants.{Gathering, Asked, Undecoded, LocateAsked, Answered, LocateAnswered, Delivered, Cancelled}
use Rattle.giop_calls.specs.declared.server.event.ServerEvent.{ServerEvent}
use Rattle.giop_calls.specs.declared.server.event.ServerEvent.TheVariants as event
use Rattle.giop_calls.specs.declared.server.heard.HeardCall.{HeardCall}
use Rattle.giop_calls.specs.declared.server.heard.HeardCall.TheVariants as heard
use Rattle.giop_calls.specs.declared.server.question.Question.TheVariants as question
use Rattle.giop_calls.specs.declared.server.undecoded.UndecodedCall.{UndecodedCall}
use Rattle.giop_calls.specs.Messages.{is_oneway, is_same_version, is_system_exception}
use Rattle.giop_calls.specs.ServerTable.{ServerStep, server_step, is_closed, is_free, is_gathering, left_of, arrived, begins, becomes, becomes_if, refused, more, last, cancel, answer, answer_undecoded, answer_locate, answer_locate_undecoded, send}
use Rattle.giop_table.specs.declared.plan.Plan.{Plan}
use Rattle.giop_table.specs.declared.plan.Plan.TheVariants.{Put, Next, Leave}
use Rattle.giop_table.specs.declared.plan.Planned.{Planned}
use Rattle.giop_table.specs.declared.slot.Slot.{Slot}
use Rattle.giop_table.specs.CallTable.{Act, Brings, Call, First, More, Nothing, Hears, turn}
use Rattle.giop_end.specs.Hearing.Decoding.{heard_call}
use Rattle.giop_end.specs.Hearing.Heard.{behind_id, silently}
use Rattle.giop_session.specs.Runs.LeftToSend.{IsLeft, ServerPlans}
use Rattle.giop_table.specs.Sending.{left_in, entry_of, sending_step, settled_by, unsent_after, unsent_of}
use Rattle.giop_session.proofs.OnRuns.FollowedLemmas.{behind, event_left}
use Rattle.giop_end.specs.Hearing.ServerHears.{act_by_kind, breaks_by, comes, gathered_kind, server_act, server_breaks, server_pieces}
use Rattle.giop_end.specs.Hearing.Pieces.{continued, continues}

-- so many are left where a step is accepted
abbrev Leaves : ServerStep → Plan → List Msg → Type 0
Leaves step plan unsent = IsOk (settled_by step.entry plan unsent step.outcome).outcome
    → IsLeft left_of (settled_by step.entry plan unsent step.outcome).entry

-- a step that is refused is none of them
leaves_none : (entry : Option ServerEntry) (fault : CallFault) (plan : Plan) (unsent : List Msg)
    → Leaves (refused entry fault) plan unsent
leaves_none entry fault plan unsent is = absurd cc

-- one that is accepted leaves what its plan does
leaves : (entry : ServerEntry) (plan : Plan) (unsent : List Msg)
    → left_of entry ≡ length (unsent_after plan unsent) → Leaves (becomes entry) plan unsent
leaves entry plan unsent same is = same

leaves_if : (b : Bool) (before after : ServerEntry) (fault : CallFault) (plan : Plan)
    (unsent : List Msg) → left_of after ≡ length (unsent_after plan unsent)
    → Leaves (becomes_if b before after fault) plan unsent
leaves_if true before after fault plan unsent same = leaves after plan unsent same
leaves_if false before after fault plan unsent same = leaves_none (Some before) fault plan unsent

-- nothing is left of a call that is over
closed_left : (entry : ServerEntry) → is_closed entry ≡ true → left_of entry ≡ 0
closed_left (Answered asked reply left) over = eqb-true left 0 over
closed_left (Cancelled answered left) over = eqb-true left 0 over
closed_left (LocateAnswered target here) over = refl
closed_left (Delivered request) over = refl
closed_left (Undecoded call) over = refl
closed_left (Gathering kind) over = refl
closed_left (Asked request) over = refl
closed_left (LocateAsked request) over = refl

free_left : (entry : Option ServerEntry) → is_free entry ≡ true → left_in left_of entry ≡ 0
free_left None over = refl
free_left (Some entry) over = closed_left entry over

arrived_left : (call : HeardCall) → left_of (arrived call) ≡ 0
arrived_left (heard.Locate request) = refl
arrived_left (heard.Undecoded call) = refl
arrived_left (heard.Request request) = by_flags (is_oneway request)
  where
    by_flags : (b : Bool) → left_of (cond b (Delivered request) (Asked request)) ≡ 0
    by_flags true = refl
    by_flags false = refl

-- a message begins a call
begun_left : (slot : Option (Slot ServerEntry)) (after : ServerEntry) → left_of after ≡ 0
    → IsLeft left_of slot → Leaves (begins (entry_of slot) after) Leave (unsent_of slot)
begun_left slot after none is = by_test (is_free (entry_of slot)) refl
  where
    by_test : (b : Bool) → is_free (entry_of slot) ≡ b
        → Leaves (cond b (becomes after) (refused (entry_of slot) IdInUse)) Leave (unsent_of slot)
    by_test true free =
        leaves after Leave (unsent_of slot) (none ∙ sym (free_left (entry_of slot) free) ∙ is)
    by_test false free = leaves_none (entry_of slot) IdInUse Leave (unsent_of slot)

-- what stands there goes on
went_on_left : (slot : Option (Slot ServerEntry)) (in_order : Bool) → IsLeft left_of slot
    → Leaves (more (entry_of slot) in_order) Leave (unsent_of slot)
went_on_left None in_order is = λ ok. absurd cc
went_on_left (Some slot) in_order is = by_entry slot.entry slot.unsent is
  where
    by_entry : (entry : ServerEntry) (unsent : List Msg) → left_of entry ≡ length unsent
        → Leaves (more (Some entry) in_order) Leave unsent
    by_entry (Gathering kind) unsent is ok =
        leaves_if in_order (Gathering kind) (Gathering kind) OrderDiffers Leave unsent is ok
    by_entry (Cancelled answered left) unsent is ok =
        leaves (Cancelled answered left) Leave unsent is ok
    by_entry (Asked request) unsent is ok = absurd cc
    by_entry (Undecoded call) unsent is ok = absurd cc
    by_entry (LocateAsked request) unsent is ok = absurd cc
    by_entry (Answered asked reply left) unsent is ok = absurd cc
    by_entry (LocateAnswered target here) unsent is ok = absurd cc
    by_entry (Delivered request) unsent is ok = absurd cc

ended_left : (slot : Option (Slot ServerEntry)) (in_order : Bool) (call : HeardCall)
    → IsLeft left_of slot → Leaves (last (entry_of slot) in_order call) Leave (unsent_of slot)
ended_left None in_order call is = λ ok. absurd cc
ended_left (Some slot) in_order call is = by_entry slot.entry slot.unsent is
  where
    by_entry : (entry : ServerEntry) (unsent : List Msg) → left_of entry ≡ length unsent
        → Leaves (last (Some entry) in_order call) Leave unsent
    by_entry (Gathering kind) unsent is ok =
        leaves_if in_order (Gathering kind) (arrived call) OrderDiffers Leave unsent
        (arrived_left call ∙ is) ok
    by_entry (Cancelled answered left) unsent is ok =
        leaves (Cancelled answered left) Leave unsent is ok
    by_entry (Asked request) unsent is ok = absurd cc
    by_entry (Undecoded call) unsent is ok = absurd cc
    by_entry (LocateAsked request) unsent is ok = absurd cc
    by_entry (Answered asked reply left) unsent is ok = absurd cc
    by_entry (LocateAnswered target here) unsent is ok = absurd cc
    by_entry (Delivered request) unsent is ok = absurd cc

-- a cancel
cancelled_left : (slot : Option (Slot ServerEntry)) → IsLeft left_of slot
    → Leaves (cancel (entry_of slot)) Leave (unsent_of slot)
cancelled_left None is ok = refl
cancelled_left (Some slot) is ok = by_entry slot.entry slot.unsent is ok
  where
    by_expected : (b : Bool) (call : UndecodedCall) (unsent : List Msg) → 0 ≡ length unsent
        → Leaves (becomes (cond b (Cancelled false 0) (Undecoded call))) Leave unsent
    by_expected true call unsent is = leaves (Cancelled false 0) Leave unsent is
    by_expected false call unsent is = leaves (Undecoded call) Leave unsent is

    by_entry : (entry : ServerEntry) (unsent : List Msg) → left_of entry ≡ length unsent
        → Leaves (cancel (Some entry)) Leave unsent
    by_entry (Gathering kind) unsent is = leaves (Cancelled false 0) Leave unsent is
    by_entry (Asked request) unsent is = leaves (Cancelled false 0) Leave unsent is
    by_entry (LocateAsked request) unsent is = leaves (Cancelled false 0) Leave unsent is
    by_entry (Undecoded call) unsent is = by_expected (is_some call.expects) call unsent is
    by_entry (Answered asked reply left) unsent is = leaves (Cancelled true left) Leave unsent is
    by_entry (LocateAnswered target here) unsent is = leaves (Cancelled true 0) Leave unsent is
    by_entry (Delivered request) unsent is = leaves (Delivered request) Leave unsent is
    by_entry (Cancelled answered left) unsent is =
        leaves (Cancelled answered left) Leave unsent is

-- an event that a message is
abbrev IsOfMessage : ServerEvent → Type 0
IsOfMessage (event.Answer reply pieces) = ⊥
IsOfMessage (event.AnswerLocate here) = ⊥
IsOfMessage event.Send = ⊥
IsOfMessage e = Unit {0}

heard_left : (slot : Option (Slot ServerEntry)) (e : ServerEvent) → IsOfMessage e
    → IsLeft left_of slot → Leaves (server_step (entry_of slot) e) Leave (unsent_of slot)
heard_left slot (event.First kind) of is = begun_left slot (Gathering kind) refl is
heard_left slot (event.Whole call) of is = begun_left slot (arrived call) (arrived_left call) is
heard_left slot (event.More in_order) of is = went_on_left slot in_order is
heard_left slot (event.Last in_order call) of is = ended_left slot in_order call is
heard_left slot event.Cancel of is = cancelled_left slot is
heard_left slot (event.Answer reply pieces) of is = absurd of
heard_left slot (event.AnswerLocate here) of is = absurd of
heard_left slot event.Send of is = absurd of

-- ---- its own events

rest_of : (messages : List Msg) (n : ℕ) → length messages ≡ n → n - 1 ≡ length (drop 1 messages)
rest_of messages n is = omega (arith, length-drop 1 messages, is)

answered_left : (slot : Option (Slot ServerEntry)) (reply : Reply) (pieces : ℕ)
    (messages : List Msg) → length messages ≡ pieces
    → Leaves (answer (entry_of slot) reply pieces) (Put messages) (unsent_of slot)
answered_left None reply pieces messages so = λ ok. absurd cc
answered_left (Some slot) reply pieces messages so = by_entry slot.entry slot.unsent
  where
    by_expected : (expects : Option CallKind) (call : UndecodedCall) (unsent : List Msg)
        → Leaves (answer_undecoded expects call reply pieces) (Put messages) unsent
    by_expected None call unsent ok = absurd cc
    by_expected (Some kind.Locate) call unsent ok = absurd cc
    by_expected (Some kind.Request) call unsent ok =
        leaves_if (is_system_exception reply.body && is_same_version call.version reply.version)
        (Undecoded call) (Answered (question.Undecoded call.fault) reply (pieces - 1)) Unfit
        (Put messages) unsent (rest_of messages pieces so) ok

    by_entry : (entry : ServerEntry) (unsent : List Msg)
        → Leaves (answer (Some entry) reply pieces) (Put messages) unsent
    by_entry (Asked request) unsent ok =
        leaves_if (is_same_version request.head.version reply.version) (Asked request)
        (Answered (question.Request request) reply (pieces - 1)) Unfit (Put messages) unsent
        (rest_of messages pieces so) ok
    by_entry (Undecoded call) unsent ok = by_expected call.expects call unsent ok
    by_entry (LocateAsked request) unsent ok = absurd cc
    by_entry (Gathering kind) unsent ok = absurd cc
    by_entry (Answered asked given left) unsent ok = absurd cc
    by_entry (LocateAnswered target here) unsent ok = absurd cc
    by_entry (Delivered request) unsent ok = absurd cc
    by_entry (Cancelled answered left) unsent ok = absurd cc

located_left : (slot : Option (Slot ServerEntry)) (here : Bool) (messages : List Msg)
    → length messages ≡ 1
    → Leaves (answer_locate (entry_of slot) here) (Put messages) (unsent_of slot)
located_left None here messages so = λ ok. absurd cc
located_left (Some slot) here messages so = by_entry slot.entry slot.unsent
  where
    by_expected : (expects : Option CallKind) (call : UndecodedCall) (unsent : List Msg)
        → Leaves (answer_locate_undecoded expects call here) (Put messages) unsent
    by_expected None call unsent ok = absurd cc
    by_expected (Some kind.Request) call unsent ok = absurd cc
    by_expected (Some kind.Locate) call unsent ok =
        leaves_if (not here) (Undecoded call) (LocateAnswered None false) Unfit (Put messages)
        unsent (rest_of messages 1 so) ok

    by_entry : (entry : ServerEntry) (unsent : List Msg)
        → Leaves (answer_locate (Some entry) here) (Put messages) unsent
    by_entry (LocateAsked request) unsent ok =
        leaves (LocateAnswered (Some request.target) here) (Put messages) unsent
        (rest_of messages 1 so) ok
    by_entry (Undecoded call) unsent ok = by_expected call.expects call unsent ok
    by_entry (Asked request) unsent ok = absurd cc
    by_entry (Gathering kind) unsent ok = absurd cc
    by_entry (Answered asked given left) unsent ok = absurd cc
    by_entry (LocateAnswered target there) unsent ok = absurd cc
    by_entry (Delivered request) unsent ok = absurd cc
    by_entry (Cancelled answered left) unsent ok = absurd cc

sent_left : (slot : Option (Slot ServerEntry)) → IsLeft left_of slot
    → Leaves (send (entry_of slot)) Next (unsent_of slot)
sent_left None is = λ ok. absurd cc
sent_left (Some slot) is = by_entry slot.entry slot.unsent is
  where
    by_left : (b : Bool) (before after : ServerEntry) (unsent : List Msg)
        → left_of after ≡ length (drop 1 unsent)
        → Leaves (cond b (refused (Some before) NothingToSend) (becomes after)) Next unsent
    by_left true before after unsent same ok = absurd cc
    by_left false before after unsent same ok = leaves after Next unsent same ok

    by_entry : (entry : ServerEntry) (unsent : List Msg) → left_of entry ≡ length unsent
        → Leaves (send (Some entry)) Next unsent
    by_entry (Answered asked reply left) unsent is ok =
        by_left (left == 0) (Answered asked reply left) (Answered asked reply (left - 1)) unsent
        (rest_of unsent left (sym is)) ok
    by_entry (Cancelled answered left) unsent is ok =
        by_left (left == 0) (Cancelled answered left) (Cancelled answered (left - 1)) unsent
        (rest_of unsent left (sym is)) ok
    by_entry (Gathering kind) unsent is ok = absurd cc
    by_entry (Asked request) unsent is ok = absurd cc
    by_entry (Undecoded call) unsent is ok = absurd cc
    by_entry (LocateAsked request) unsent is ok = absurd cc
    by_entry (LocateAnswered target here) unsent is ok = absurd cc
    by_entry (Delivered request) unsent is ok = absurd cc

pub own_left : (slot : Option (Slot ServerEntry)) (e : ServerEvent) (plan : Plan)
    → ServerPlans e plan → IsLeft left_of slot
    → Leaves (server_step (entry_of slot) e) plan (unsent_of slot)
own_left slot (event.Answer reply pieces) (Put messages) so is =
    answered_left slot reply pieces messages so
own_left slot (event.AnswerLocate here) (Put messages) so is = located_left slot here messages so
own_left slot event.Send Next so is = sent_left slot is
own_left slot (event.Answer reply pieces) Next so is = absurd so
own_left slot (event.Answer reply pieces) Leave so is = absurd so
own_left slot (event.AnswerLocate here) Next so is = absurd so
own_left slot (event.AnswerLocate here) Leave so is = absurd so
own_left slot event.Send (Put messages) so is = absurd so
own_left slot event.Send Leave so is = absurd so
own_left slot (event.First kind) plan so is = absurd so
own_left slot (event.Whole call) plan so is = absurd so
own_left slot (event.More in_order) plan so is = absurd so
own_left slot (event.Last in_order call) plan so is = absurd so
own_left slot event.Cancel plan so is = absurd so

-- ---- what a message does to a call

pub record IsKept (act : Act ServerEvent) : Type 0 where
  pub e : ServerEvent
  pub brings : Brings
  pub of : IsOfMessage e
  pub same : act ≡ Hears (silently e) brings

came : (interface : Interface) (kind : CallKind) (m : Msg) → IsKept (comes interface kind m)
came interface kind m = by_more m.more
  where
    by_more : (b : Bool) → IsKept (cond b (Hears (silently (event.First kind)) (First m.order m.payload))
        (Hears (silently (event.Whole (heard_call interface kind m.version m.order m.payload))) Nothing))
    by_more true = record { e = event.First kind; brings = First m.order m.payload; of = tt; same = refl }
    by_more false = record { e = _; brings = Nothing; of = tt; same = refl }

continues_kept : (interface : Interface) (m : Msg) (pieces : Option (CallKind × List ℕ))
    → IsKept (continues server_pieces interface m pieces)
continues_kept interface m None =
    record { e = event.More false; brings = Nothing; of = tt; same = refl }
continues_kept interface m (Some pieces) = by_more m.more
  where
    by_more : (b : Bool) → IsKept (cond b
        (Hears (silently (event.More true)) (More (behind_id m)))
        (Hears (silently (event.Last true (heard_call interface pieces.0 m.version m.order
        (pieces.1 ++ behind_id m)))) (More (behind_id m))))
    by_more true = record { e = event.More true; brings = _; of = tt; same = refl }
    by_more false = record { e = _; brings = _; of = tt; same = refl }

act_is_silent : (interface : Interface) (m : Msg) (call : Call ServerEntry) (of_kind : Kind)
    → breaks_by of_kind ≡ None → IsKept (act_by_kind interface m call of_kind)
act_is_silent interface m call message.Request sound = came interface kind.Request m
act_is_silent interface m call message.LocateRequest sound = came interface kind.Locate m
act_is_silent interface m call message.Fragment sound =
    continues_kept interface m (continued m.order (gathered_kind call.slot) call.pieces)
act_is_silent interface m call message.CancelRequest sound =
    record { e = event.Cancel; brings = Nothing; of = tt; same = refl }
act_is_silent interface m call message.Reply sound = absurd cc
act_is_silent interface m call message.LocateReply sound = absurd cc
act_is_silent interface m call message.CloseConnection sound = absurd cc
act_is_silent interface m call message.MessageError sound = absurd cc

-- ---- as `followed` wants them

pub own_of : (slot : Option (Slot ServerEntry)) (planned : Planned ServerEvent)
    → ServerPlans planned.event planned.plan → IsLeft left_of slot
    → IsOk (sending_step server_step slot planned).outcome
    → IsLeft left_of (sending_step server_step slot planned).entry
own_of slot planned so is = own_left slot planned.event planned.plan so is

pub heard_of : (interface : Interface) (m : Msg) (call : Call ServerEntry)
    → server_breaks m ≡ None → IsLeft left_of call.slot
    → IsOk (turn server_step is_closed is_gathering call (server_act interface m call))
    → IsLeft left_of (behind server_step is_closed is_gathering left_of call
    (server_act interface m call)).slot
heard_of interface m call sound is = by_act (server_act interface m call)
    (act_is_silent interface m call m.kind sound)
  where
    by_act : (act : Act ServerEvent) → IsKept act
        → IsOk (turn server_step is_closed is_gathering call act)
        → IsLeft left_of (behind server_step is_closed is_gathering left_of call act).slot
    by_act act told = rw told.same
        (λ ok. event_left server_step is_closed is_gathering left_of call (silently told.e) told.brings
        ok (heard_left call.slot told.e told.of is))
