-- No event of an end's own begins to gather pieces.
use Rattle.std.proofs.Common.{◌≡◌, ℕ, ◌-◌, ◌&&◌, not, Bool, true, false, cond, List, Option, Some, None, refl, sym, ◌∙◌}
use Rattle.giop_msg.specs.declared.messages.reply.Reply.{Reply}
use Rattle.giop_msg.specs.declared.msg.Msg.{Msg}
use Rattle.giop_calls.specs.declared.kind.CallKind.{CallKind}
use Rattle.giop_calls.specs.declared.kind.CallKind.TheVariants as kind
use Rattle.giop_mux.specs.declared.step.Step.{Step}
use Rattle.giop_calls.specs.declared.fault.CallFault.{CallFault}
use Rattle.giop_calls.specs.declared.fault.CallFault.TheVariants.{IdInUse}
use Rattle.giop_calls.specs.declared.client.call.Call.{Call}
use Rattle.giop_calls.specs.declared.client.entry.ClientEntry.{ClientEntry}
use Rattle.giop_calls.specs.declared.client.entry.ClientEntry.TheVariants as client
use Rattle.giop_calls.specs.declared.client.event.ClientEvent.TheVariants as client_event
use Rattle.giop_calls.specs.declared.server.entry.ServerEntry.{ServerEntry}
use Rattle.giop_calls.specs.declared.server.entry.ServerEntry.TheVariants as server
use Rattle.giop_calls.specs.declared.server.event.ServerEvent.TheVariants as server_event
use Rattle.giop_calls.specs.declared.server.undecoded.UndecodedCall.{UndecodedCall}
use Rattle.giop_calls.specs.ClientTable as client_table
use Rattle.giop_calls.specs.ServerTable as server_table
use Rattle.giop_calls.specs.Messages.{is_same_version, is_system_exception}
use Rattle.giop_table.specs.declared.plan.Plan.{Plan}
use Rattle.giop_table.specs.declared.slot.Slot.{Slot}
use Rattle.giop_table.specs.CallTable.{gathers}
use Rattle.giop_table.specs.Sending.{entry_of, sending_step, settled_by}
use Rattle.giop_end.specs.Acts.InPieces.{SendsBy, sending_idle}
use Rattle.giop_end.proofs.OnHearing.PieceLemmas.{entry_gathers, slot_gathers}

-- ---- at either

-- a further piece
pub piece_quiet : {E V A : Type 0} (next : Option E → V → Step E A CallFault) (gathering : E → Bool) (send : V) (slot : Option (Slot E)) (plan : Plan)
    → SendsBy next gathering send → gathers gathering slot ≡ false
    → gathers gathering (sending_step next slot (record { event = send; plan = plan })).entry ≡ false
piece_quiet next gathering send slot plan by idle =
    slot_gathers gathering (next (entry_of slot) send).entry _ ∙ by.quiet (entry_of slot) (sym (entry_gathers gathering slot) ∙ idle)

-- ---- at a client

-- a call
pub call_quiet : (slot : Option (Slot ClientEntry)) (call : Call) (pieces : ℕ) (plan : Plan)
    → gathers client_table.is_gathering slot ≡ false
    → gathers client_table.is_gathering (sending_step client_table.client_step slot
    (record { event = client_event.Call call pieces; plan = plan })).entry ≡ false
call_quiet None call pieces plan quiet = sending_idle call (pieces - 1)
call_quiet (Some slot) call pieces plan quiet = by_test (client_table.is_closed slot.entry)
  where
    by_test : (b : Bool) → gathers client_table.is_gathering
        (settled_by (cond b (client_table.becomes (client_table.sending call (pieces - 1)))
        (client_table.refused (Some slot.entry) IdInUse)).entry plan slot.unsent
        (cond b (client_table.becomes (client_table.sending call (pieces - 1)))
        (client_table.refused (Some slot.entry) IdInUse)).outcome).entry ≡ false
    by_test true = sending_idle call (pieces - 1)
    by_test false = quiet

-- a cancel
pub cancel_quiet : (slot : Option (Slot ClientEntry)) (plan : Plan)
    → gathers client_table.is_gathering slot ≡ false
    → gathers client_table.is_gathering (sending_step client_table.client_step slot
    (record { event = client_event.Cancel; plan = plan })).entry ≡ false
cancel_quiet None plan quiet = refl
cancel_quiet (Some slot) plan quiet = by_entry slot.entry slot.unsent
  where
    by_entry : (entry : ClientEntry) (unsent : List Msg) → gathers client_table.is_gathering
        (settled_by (client_table.cancel (Some entry)).entry plan unsent
        (client_table.cancel (Some entry)).outcome).entry ≡ false
    by_entry (client.Sending call left) unsent = refl
    by_entry (client.Waiting call) unsent = refl
    by_entry (client.Gathering call) unsent = refl
    by_entry (client.Done request reply) unsent = refl
    by_entry (client.LocateDone request reply) unsent = refl
    by_entry (client.Undecoded call fault) unsent = refl
    by_entry (client.OnewaySent request) unsent = refl
    by_entry (client.Cancelled late) unsent = refl

-- ---- at a server

-- a test that leaves what stood there or puts something else there, of which neither gathers
tested_idle : (b : Bool) (before after : ServerEntry) (plan : Plan) (unsent : List Msg)
    (fault : CallFault)
    → server_table.is_gathering before ≡ false → server_table.is_gathering after ≡ false
    → gathers server_table.is_gathering (settled_by
    (server_table.becomes_if b before after fault).entry plan unsent
    (server_table.becomes_if b before after fault).outcome).entry ≡ false
tested_idle true before after plan unsent fault old new = new
tested_idle false before after plan unsent fault old new = old

-- a Reply
pub answer_quiet : (slot : Option (Slot ServerEntry)) (reply : Reply) (pieces : ℕ) (plan : Plan)
    → gathers server_table.is_gathering slot ≡ false
    → gathers server_table.is_gathering (sending_step server_table.server_step slot
    (record { event = server_event.Answer reply pieces; plan = plan })).entry ≡ false
answer_quiet None reply pieces plan quiet = refl
answer_quiet (Some slot) reply pieces plan quiet = by_entry slot.entry slot.unsent quiet
  where
    by_expected : (expects : Option CallKind) (call : UndecodedCall) (unsent : List Msg)
        → gathers server_table.is_gathering
        (settled_by (server_table.answer_undecoded expects call reply pieces).entry plan unsent
        (server_table.answer_undecoded expects call reply pieces).outcome).entry ≡ false
    by_expected None call unsent = refl
    by_expected (Some kind.Locate) call unsent = refl
    by_expected (Some kind.Request) call unsent =
        tested_idle (is_system_exception reply.body && is_same_version call.version reply.version)
        _ _ plan unsent _ refl refl

    by_entry : (entry : ServerEntry) (unsent : List Msg) → server_table.is_gathering entry ≡ false
        → gathers server_table.is_gathering
        (settled_by (server_table.answer (Some entry) reply pieces).entry plan unsent
        (server_table.answer (Some entry) reply pieces).outcome).entry ≡ false
    by_entry (server.Gathering kind) unsent quiet = absurd cc
    by_entry (server.Asked request) unsent quiet =
        tested_idle (is_same_version request.head.version reply.version) _ _ plan unsent _ refl refl
    by_entry (server.Undecoded call) unsent quiet = by_expected call.expects call unsent
    by_entry (server.LocateAsked request) unsent quiet = refl
    by_entry (server.Answered asked given left) unsent quiet = refl
    by_entry (server.LocateAnswered target here) unsent quiet = refl
    by_entry (server.Delivered request) unsent quiet = refl
    by_entry (server.Cancelled answered left) unsent quiet = refl

-- a LocateReply
pub answer_locate_quiet : (slot : Option (Slot ServerEntry)) (here : Bool) (plan : Plan)
    → gathers server_table.is_gathering slot ≡ false
    → gathers server_table.is_gathering (sending_step server_table.server_step slot
    (record { event = server_event.AnswerLocate here; plan = plan })).entry ≡ false
answer_locate_quiet None here plan quiet = refl
answer_locate_quiet (Some slot) here plan quiet = by_entry slot.entry slot.unsent quiet
  where
    by_expected : (expects : Option CallKind) (call : UndecodedCall) (unsent : List Msg)
        → gathers server_table.is_gathering
        (settled_by (server_table.answer_locate_undecoded expects call here).entry plan unsent
        (server_table.answer_locate_undecoded expects call here).outcome).entry ≡ false
    by_expected None call unsent = refl
    by_expected (Some kind.Request) call unsent = refl
    by_expected (Some kind.Locate) call unsent =
        tested_idle (not here) _ _ plan unsent _ refl refl

    by_entry : (entry : ServerEntry) (unsent : List Msg) → server_table.is_gathering entry ≡ false
        → gathers server_table.is_gathering
        (settled_by (server_table.answer_locate (Some entry) here).entry plan unsent
        (server_table.answer_locate (Some entry) here).outcome).entry ≡ false
    by_entry (server.Gathering kind) unsent quiet = absurd cc
    by_entry (server.Asked request) unsent quiet = refl
    by_entry (server.Undecoded call) unsent quiet = by_expected call.expects call unsent
    by_entry (server.LocateAsked request) unsent quiet = refl
    by_entry (server.Answered asked given left) unsent quiet = refl
    by_entry (server.LocateAnswered target there) unsent quiet = refl
    by_entry (server.Delivered request) unsent quiet = refl
    by_entry (server.Cancelled answered left) unsent quiet = refl
