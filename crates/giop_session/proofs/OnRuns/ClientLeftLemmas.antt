-- Each event at a client leaves as many messages to be sent as the entry says that it leaves.
use Rattle.std.proofs.Common.{◌≡◌, ℕ, ◌-◌, ◌==◌, Bool, true, false, cond, List, ◌++◌, length, drop, Option, Some, None, IsOk, refl, sym, ◌∙◌, arith}
use Rattle.std.proofs.lemmas.Bool.{eqb-true}
use Rattle.std.proofs.lemmas.List.{length-drop}
use Rattle.giop_types.specs.declared.interfaces.interface.Interface.{Interface}
use Rattle.giop_msg.specs.declared.kind.Kind.{Kind}
use Rattle.giop_msg.specs.declared.kind.Kind.TheVariants as message
use Rattle.giop_msg.specs.declared.msg.Msg.{Msg}
use Rattle.giop_msg.specs.declared.version.Version.{Version}
use Rattle.giop_calls.specs.declared.fault.CallFault.{CallFault}
use Rattle.giop_calls.specs.declared.fault.CallFault.TheVariants.{IdInUse, OrderDiffers, WrongKind}
use Rattle.giop_calls.specs.declared.kind.CallKind.{CallKind}
use Rattle.giop_calls.specs.declared.kind.CallKind.TheVariants as kind
use Rattle.giop_calls.specs.declared.client.call.Call.{Call as Question}
use Rattle.giop_calls.specs.declared.client.call.Call.TheVariants as asked
use Rattle.giop_calls.specs.declared.client.entry.ClientEntry.{ClientEntry}
use Rattle.giop_calls.specs.declared.client.entry.ClientEntry.TheVariants.{Sending, Waiting, Gathering, Done, LocateDone, Undecoded, OnewaySent, Cancelled}
use Rattle.giop_calls.specs.declared.client.event.ClientEvent.{ClientEvent}
use Rattle.giop_calls.specs.declared.client.event.ClientEvent.TheVariants as event
use Rattle.giop_calls.specs.declared.client.heard.HeardReply.{HeardReply}
use Rattle.giop_calls.specs.declared.client.heard.HeardReply.TheVariants as heard
use Rattle.giop_calls.specs.declared.client.late.Late.TheVariants as late
use Rattle.giop_calls.specs.Messages.{is_oneway}
use Rattle.giop_calls.specs.ClientTable.{ClientStep, answers, becomes, begins, cancel, client_step, first, is_closed, is_free, is_gathering, last, left_of, more, refused, send, sending, sent, settles, whole}
use Rattle.giop_table.specs.declared.plan.Plan.{Plan}
use Rattle.giop_table.specs.declared.plan.Plan.TheVariants.{Put, Next, Leave}
use Rattle.giop_table.specs.declared.plan.Planned.{Planned}
use Rattle.giop_table.specs.declared.slot.Slot.{Slot}
use Rattle.giop_table.specs.CallTable.{Act, Brings, Call, First, More, Nothing, Hears, turn}
use Rattle.giop_end.specs.Hearing.ClientHears.{awaited, act_by_kind, breaks_by, client_act, client_breaks, comes, gathered_call, heard_reply, client_pieces}
use Rattle.giop_end.specs.Hearing.Pieces.{continued, continues}
use Rattle.giop_end.specs.Hearing.Heard.{behind_id, silently}
use Rattle.giop_session.specs.Runs.LeftToSend.{ClientPlans, IsLeft}
use Rattle.giop_table.specs.Sending.{entry_of, sending_step, settled_by, unsent_after, unsent_of}
use Rattle.giop_session.proofs.OnRuns.FollowedLemmas.{behind, event_left}

-- so many are left where a step is accepted
abbrev Leaves : ClientStep → Plan → List Msg → Type 0
Leaves step plan unsent = IsOk (settled_by step.entry plan unsent step.outcome).outcome
    → IsLeft left_of (settled_by step.entry plan unsent step.outcome).entry

leaves : (entry : ClientEntry) (plan : Plan) (unsent : List Msg)
    → left_of entry ≡ length (unsent_after plan unsent) → Leaves (becomes entry) plan unsent
leaves entry plan unsent same is = same

leaves_if : (b : Bool) (before after : ClientEntry) (fault : CallFault) (plan : Plan)
    (unsent : List Msg) → left_of after ≡ length (unsent_after plan unsent)
    → Leaves (cond b (becomes after) (refused (Some before) fault)) plan unsent
leaves_if true before after fault plan unsent same ok = same
leaves_if false before after fault plan unsent same ok = absurd cc

-- nothing is left of a call that is over
closed_left : (entry : ClientEntry) → is_closed entry ≡ true → left_of entry ≡ 0
closed_left (Sending call left) over = absurd cc
closed_left (Waiting call) over = refl
closed_left (Gathering call) over = refl
closed_left (Done request reply) over = refl
closed_left (LocateDone request reply) over = refl
closed_left (Undecoded call fault) over = refl
closed_left (OnewaySent request) over = refl
closed_left (Cancelled late) over = refl

-- nor of one that is sent
sent_left : (call : Question) → left_of (sent call) ≡ 0
sent_left (asked.Locate request) = refl
sent_left (asked.Request request) = by_flags (is_oneway request)
  where
    by_flags : (b : Bool)
        → left_of (cond b (OnewaySent request) (Waiting (asked.Request request))) ≡ 0
    by_flags true = refl
    by_flags false = refl

sending_left : (call : Question) (left : ℕ) → left_of (sending call left) ≡ left
sending_left call left = by_left (left == 0) refl
  where
    by_left : (b : Bool) → (left == 0) ≡ b
        → left_of (cond b (sent call) (Sending call left)) ≡ left
    by_left true none = sent_left call ∙ sym (eqb-true left 0 none)
    by_left false some = refl

rest_of : (messages : List Msg) (n : ℕ) → length messages ≡ n → n - 1 ≡ length (drop 1 messages)
rest_of messages n is = omega (arith, length-drop 1 messages, is)

-- ---- its own events

called_left : (slot : Option (Slot ClientEntry)) (call : Question) (pieces : ℕ)
    (messages : List Msg) → length messages ≡ pieces
    → Leaves (begins (entry_of slot) call pieces) (Put messages) (unsent_of slot)
called_left slot call pieces messages so = by_test (is_free (entry_of slot))
  where
    by_test : (b : Bool) → Leaves (cond b (becomes (sending call (pieces - 1)))
        (refused (entry_of slot) IdInUse)) (Put messages) (unsent_of slot)
    by_test true ok = sending_left call (pieces - 1) ∙ rest_of messages pieces so
    by_test false ok = absurd cc

cancelled_left : (slot : Option (Slot ClientEntry)) (messages : List Msg) → length messages ≡ 1
    → Leaves (cancel (entry_of slot)) (Put messages) (unsent_of slot)
cancelled_left None messages so ok = absurd cc
cancelled_left (Some slot) messages so ok = by_entry slot.entry slot.unsent ok
  where
    by_entry : (entry : ClientEntry) (unsent : List Msg)
        → Leaves (cancel (Some entry)) (Put messages) unsent
    by_entry (Sending call left) unsent ok = rest_of messages 1 so
    by_entry (Waiting call) unsent ok = rest_of messages 1 so
    by_entry (Gathering call) unsent ok = rest_of messages 1 so
    by_entry (Done request reply) unsent ok = absurd cc
    by_entry (LocateDone request reply) unsent ok = absurd cc
    by_entry (Undecoded call fault) unsent ok = absurd cc
    by_entry (OnewaySent request) unsent ok = absurd cc
    by_entry (Cancelled late) unsent ok = absurd cc

went_out_left : (slot : Option (Slot ClientEntry)) → IsLeft left_of slot
    → Leaves (send (entry_of slot)) Next (unsent_of slot)
went_out_left None is ok = absurd cc
went_out_left (Some slot) is ok = by_entry slot.entry slot.unsent is ok
  where
    by_entry : (entry : ClientEntry) (unsent : List Msg) → left_of entry ≡ length unsent
        → Leaves (send (Some entry)) Next unsent
    by_entry (Sending call left) unsent is ok =
        sending_left call (left - 1) ∙ rest_of unsent left (sym is)
    by_entry (Waiting call) unsent is ok = absurd cc
    by_entry (Gathering call) unsent is ok = absurd cc
    by_entry (Done request reply) unsent is ok = absurd cc
    by_entry (LocateDone request reply) unsent is ok = absurd cc
    by_entry (Undecoded call fault) unsent is ok = absurd cc
    by_entry (OnewaySent request) unsent is ok = absurd cc
    by_entry (Cancelled late) unsent is ok = absurd cc

own_left : (slot : Option (Slot ClientEntry)) (e : ClientEvent) (plan : Plan)
    → ClientPlans e plan → IsLeft left_of slot
    → Leaves (client_step (entry_of slot) e) plan (unsent_of slot)
own_left slot (event.Call call pieces) (Put messages) so is =
    called_left slot call pieces messages so
own_left slot event.Cancel (Put messages) so is = cancelled_left slot messages so
own_left slot event.Send Next so is = went_out_left slot is
own_left slot (event.Call call pieces) Next so is = absurd so
own_left slot (event.Call call pieces) Leave so is = absurd so
own_left slot event.Cancel Next so is = absurd so
own_left slot event.Cancel Leave so is = absurd so
own_left slot event.Send (Put messages) so is = absurd so
own_left slot event.Send Leave so is = absurd so
own_left slot (event.First kind version) plan so is = absurd so
own_left slot (event.Whole kind version reply) plan so is = absurd so
own_left slot (event.More in_order) plan so is = absurd so
own_left slot (event.Last in_order reply) plan so is = absurd so

-- ---- messages

settled_left : (before : ClientEntry) (call : Question) (reply : HeardReply) (unsent : List Msg)
    → 0 ≡ length unsent → Leaves (settles before call reply) Leave unsent
settled_left before (asked.Request request) (heard.Reply reply) unsent none ok = none
settled_left before (asked.Locate request) (heard.Locate reply) unsent none ok = none
settled_left before (asked.Request request) (heard.Undecoded fault) unsent none ok = none
settled_left before (asked.Locate request) (heard.Undecoded fault) unsent none ok = none
settled_left before (asked.Request request) (heard.Locate reply) unsent none ok = absurd cc
settled_left before (asked.Locate request) (heard.Reply reply) unsent none ok = absurd cc
settled_left before (asked.Request request) heard.Unread unsent none ok = absurd cc
settled_left before (asked.Locate request) heard.Unread unsent none ok = absurd cc

first_left : (slot : Option (Slot ClientEntry)) (kind : CallKind) (version : Version)
    → IsLeft left_of slot → Leaves (first (entry_of slot) kind version) Leave (unsent_of slot)
first_left None kind version is ok = absurd cc
first_left (Some slot) kind version is ok = by_entry slot.entry slot.unsent is ok
  where
    by_entry : (entry : ClientEntry) (unsent : List Msg) → left_of entry ≡ length unsent
        → Leaves (first (Some entry) kind version) Leave unsent
    by_entry (Waiting call) unsent is ok =
        leaves_if (answers kind version call) (Waiting call) (Gathering call) WrongKind Leave unsent
        is ok
    by_entry (Cancelled late.None) unsent is ok = is
    by_entry (Cancelled late.Begun) unsent is ok = absurd cc
    by_entry (Cancelled late.Seen) unsent is ok = absurd cc
    by_entry (Sending call left) unsent is ok = absurd cc
    by_entry (Gathering call) unsent is ok = absurd cc
    by_entry (Done request reply) unsent is ok = absurd cc
    by_entry (LocateDone request reply) unsent is ok = absurd cc
    by_entry (Undecoded call fault) unsent is ok = absurd cc
    by_entry (OnewaySent request) unsent is ok = absurd cc

settled_if : (b : Bool) (before : ClientEntry) (call : Question) (reply : HeardReply)
    (fault : CallFault) (unsent : List Msg) → 0 ≡ length unsent
    → Leaves (cond b (settles before call reply) (refused (Some before) fault)) Leave unsent
settled_if true before call reply fault unsent none ok =
    settled_left before call reply unsent none ok
settled_if false before call reply fault unsent none ok = absurd cc

whole_left : (slot : Option (Slot ClientEntry)) (kind : CallKind) (version : Version)
    (reply : HeardReply) → IsLeft left_of slot
    → Leaves (whole (entry_of slot) kind version reply) Leave (unsent_of slot)
whole_left None kind version reply is ok = absurd cc
whole_left (Some slot) kind version reply is ok = by_entry slot.entry slot.unsent is ok
  where
    by_entry : (entry : ClientEntry) (unsent : List Msg) → left_of entry ≡ length unsent
        → Leaves (whole (Some entry) kind version reply) Leave unsent
    by_entry (Waiting call) unsent is ok =
        settled_if (answers kind version call) (Waiting call) call reply WrongKind unsent is ok
    by_entry (Cancelled late.None) unsent is ok = is
    by_entry (Cancelled late.Begun) unsent is ok = absurd cc
    by_entry (Cancelled late.Seen) unsent is ok = absurd cc
    by_entry (Sending call left) unsent is ok = absurd cc
    by_entry (Gathering call) unsent is ok = absurd cc
    by_entry (Done request given) unsent is ok = absurd cc
    by_entry (LocateDone request given) unsent is ok = absurd cc
    by_entry (Undecoded call fault) unsent is ok = absurd cc
    by_entry (OnewaySent request) unsent is ok = absurd cc

more_left : (slot : Option (Slot ClientEntry)) (in_order : Bool) → IsLeft left_of slot
    → Leaves (more (entry_of slot) in_order) Leave (unsent_of slot)
more_left None in_order is ok = absurd cc
more_left (Some slot) in_order is ok = by_entry slot.entry slot.unsent is ok
  where
    by_entry : (entry : ClientEntry) (unsent : List Msg) → left_of entry ≡ length unsent
        → Leaves (more (Some entry) in_order) Leave unsent
    by_entry (Gathering call) unsent is ok =
        leaves_if in_order (Gathering call) (Gathering call) OrderDiffers Leave unsent is ok
    by_entry (Cancelled late) unsent is ok = is
    by_entry (Waiting call) unsent is ok = absurd cc
    by_entry (Sending call left) unsent is ok = absurd cc
    by_entry (Done request reply) unsent is ok = absurd cc
    by_entry (LocateDone request reply) unsent is ok = absurd cc
    by_entry (Undecoded call fault) unsent is ok = absurd cc
    by_entry (OnewaySent request) unsent is ok = absurd cc

last_left : (slot : Option (Slot ClientEntry)) (in_order : Bool) (reply : HeardReply)
    → IsLeft left_of slot → Leaves (last (entry_of slot) in_order reply) Leave (unsent_of slot)
last_left None in_order reply is ok = absurd cc
last_left (Some slot) in_order reply is ok = by_entry slot.entry slot.unsent is ok
  where
    by_entry : (entry : ClientEntry) (unsent : List Msg) → left_of entry ≡ length unsent
        → Leaves (last (Some entry) in_order reply) Leave unsent
    by_entry (Gathering call) unsent is ok =
        settled_if in_order (Gathering call) call reply OrderDiffers unsent is ok
    by_entry (Cancelled late.None) unsent is ok = is
    by_entry (Cancelled late.Begun) unsent is ok = is
    by_entry (Cancelled late.Seen) unsent is ok = is
    by_entry (Waiting call) unsent is ok = absurd cc
    by_entry (Sending call left) unsent is ok = absurd cc
    by_entry (Done request given) unsent is ok = absurd cc
    by_entry (LocateDone request given) unsent is ok = absurd cc
    by_entry (Undecoded call fault) unsent is ok = absurd cc
    by_entry (OnewaySent request) unsent is ok = absurd cc

-- an event that a message is; a client is told of no other cancel than its own
abbrev IsOfMessage : ClientEvent → Type 0
IsOfMessage (event.Call call pieces) = ⊥
IsOfMessage event.Send = ⊥
IsOfMessage event.Cancel = ⊥
IsOfMessage e = Unit {0}

heard_left : (slot : Option (Slot ClientEntry)) (e : ClientEvent) → IsOfMessage e
    → IsLeft left_of slot → Leaves (client_step (entry_of slot) e) Leave (unsent_of slot)
heard_left slot (event.First kind version) of is = first_left slot kind version is
heard_left slot (event.Whole kind version reply) of is = whole_left slot kind version reply is
heard_left slot (event.More in_order) of is = more_left slot in_order is
heard_left slot (event.Last in_order reply) of is = last_left slot in_order reply is
heard_left slot (event.Call call pieces) of is = absurd of
heard_left slot event.Send of is = absurd of
heard_left slot event.Cancel of is = absurd of

-- ---- what a message does to a call

record IsKept (act : Act ClientEvent) : Type 0 where
  e : ClientEvent
  brings : Brings
  of : IsOfMessage e
  same : act ≡ Hears (silently e) brings

came : (interface : Interface) (kind : CallKind) (m : Msg) (call : Option Question)
    → IsKept (comes interface kind m call)
came interface kind m None = by_more m.more
  where
    by_more : (b : Bool) → IsKept (cond b (Hears (silently (event.First kind m.version)) Nothing)
        (Hears (silently (event.Whole kind m.version heard.Unread)) Nothing))
    by_more true = record { e = event.First kind m.version; brings = Nothing; of = tt; same = refl }
    by_more false = record {
      e = event.Whole kind m.version heard.Unread;
      brings = Nothing;
      of = tt;
      same = refl;
    }
came interface kind m (Some call) = by_more m.more
  where
    by_more : (b : Bool) → IsKept (cond b
        (Hears (silently (event.First kind m.version)) (First m.order m.payload))
        (Hears (silently (event.Whole kind m.version
        (heard_reply interface call m.version m.order m.payload))) Nothing))
    by_more true = record {
      e = event.First kind m.version;
      brings = First m.order m.payload;
      of = tt;
      same = refl;
    }
    by_more false = record {
      e = event.Whole kind m.version (heard_reply interface call m.version m.order m.payload);
      brings = Nothing;
      of = tt;
      same = refl;
    }

went_on : (interface : Interface) (m : Msg) (pieces : Option (Question × List ℕ))
    → IsKept (continues client_pieces interface m pieces)
went_on interface m None = by_more m.more
  where
    by_more : (b : Bool)
        → IsKept (Hears (silently (cond b (event.More false) (event.Last false heard.Unread))) Nothing)
    by_more true = record { e = event.More false; brings = Nothing; of = tt; same = refl }
    by_more false =
        record { e = event.Last false heard.Unread; brings = Nothing; of = tt; same = refl }
went_on interface m (Some pieces) = by_more m.more
  where
    by_more : (b : Bool) → IsKept (cond b (Hears (silently (event.More true)) (More (behind_id m)))
        (Hears (silently (event.Last true (heard_reply interface pieces.0 m.version m.order
        (pieces.1 ++ behind_id m)))) (More (behind_id m))))
    by_more true =
        record { e = event.More true; brings = More (behind_id m); of = tt; same = refl }
    by_more false = record {
      e = event.Last true (heard_reply interface pieces.0 m.version m.order
          (pieces.1 ++ behind_id m));
      brings = More (behind_id m);
      of = tt;
      same = refl;
    }

act_is_silent : (interface : Interface) (m : Msg) (call : Call ClientEntry) (of_kind : Kind)
    → breaks_by of_kind ≡ None → IsKept (act_by_kind interface m call of_kind)
act_is_silent interface m call message.Reply sound =
    came interface kind.Request m (awaited kind.Request m.version call.slot)
act_is_silent interface m call message.LocateReply sound =
    came interface kind.Locate m (awaited kind.Locate m.version call.slot)
act_is_silent interface m call message.Fragment sound =
    went_on interface m (continued m.order (gathered_call call.slot) call.pieces)
act_is_silent interface m call message.Request sound = absurd cc
act_is_silent interface m call message.LocateRequest sound = absurd cc
act_is_silent interface m call message.CancelRequest sound = absurd cc
act_is_silent interface m call message.CloseConnection sound = absurd cc
act_is_silent interface m call message.MessageError sound = absurd cc

-- ---- as `followed` wants them

pub own_of : (slot : Option (Slot ClientEntry)) (planned : Planned ClientEvent)
    → ClientPlans planned.event planned.plan → IsLeft left_of slot
    → IsOk (sending_step client_step slot planned).outcome
    → IsLeft left_of (sending_step client_step slot planned).entry
own_of slot planned so is = own_left slot planned.event planned.plan so is

pub heard_of : (interface : Interface) (m : Msg) (call : Call ClientEntry)
    → client_breaks m ≡ None → IsLeft left_of call.slot
    → IsOk (turn client_step is_closed is_gathering call (client_act interface m call))
    → IsLeft left_of (behind client_step is_closed is_gathering left_of call
    (client_act interface m call)).slot
heard_of interface m call sound is = by_act (client_act interface m call)
    (act_is_silent interface m call m.kind sound)
  where
    by_act : (act : Act ClientEvent) → IsKept act
        → IsOk (turn client_step is_closed is_gathering call act)
        → IsLeft left_of (behind client_step is_closed is_gathering left_of call act).slot
    by_act act told = rw told.same
        (λ ok. event_left client_step is_closed is_gathering left_of call (silently told.e) told.brings
        ok (heard_left call.slot told.e told.of is))
