-- What a message does to a call at a client, and what Fragments leave of it behind a cancel.
use Rattle.std.proofs.Common.{◌≡◌, Bool, true, false, not, if◌then◌else◌, List, [], ◌∷◌, map, Option, Some, None, IsOk, refl, sym, ap, subst, ◌∙◌}
use Rattle.giop_types.specs.declared.interfaces.interface.Interface.{Interface}
use Rattle.giop_frag.specs.Gathered.{Pieces}
use Rattle.giop_ids.specs.Runs.{left}
use Rattle.giop_msg.specs.declared.kind.Kind.TheVariants as message
use Rattle.giop_msg.specs.declared.msg.Msg.{Msg}
use Rattle.giop_calls.specs.declared.client.entry.ClientEntry.{ClientEntry}
use Rattle.giop_calls.specs.declared.client.entry.ClientEntry.TheVariants.{Cancelled}
use Rattle.giop_calls.specs.declared.client.event.ClientEvent.{ClientEvent}
use Rattle.giop_calls.specs.declared.client.event.ClientEvent.TheVariants as event
use Rattle.giop_calls.specs.declared.client.heard.HeardReply.TheVariants as heard_as
use Rattle.giop_calls.specs.declared.client.late.Late.{Late}
use Rattle.giop_calls.specs.declared.client.late.Late.TheVariants as late
use Rattle.giop_calls.specs.declared.fault.CallFault.{CallFault}
use Rattle.giop_calls.specs.ClientTable.{client_step, is_closed, is_gathering}
use Rattle.giop_table.specs.declared.plan.Planned.{Planned}
use Rattle.giop_table.specs.declared.slot.Slot.{Slot}
use Rattle.giop_table.specs.CallTable.{Act, Call, Hears, Nothing, Turned, turn}
use Rattle.giop_session.specs.Items.Carries.{AreFragments}
use Rattle.giop_end.specs.Hearing.ClientHears.{client_act}
use Rattle.giop_session.specs.Runs.Events.{Comes, Follows}
use Rattle.giop_end.specs.Hearing.Heard.{silently}
use Rattle.giop_table.specs.Sending.{entry_of}
use Rattle.giop_session.proofs.OnItems.ItemLemmas.{entry_left, heard}

abbrev Answer : Type 0
Answer = Unit {0}

-- what a message does to a call at a client
abbrev pub client_turn : Call ClientEntry → Act ClientEvent → Turned ClientEntry Answer CallFault
client_turn = turn client_step is_closed is_gathering

abbrev pub Passes : Call ClientEntry → Act ClientEvent → Type 0
Passes call act = IsOk (client_turn call act)

abbrev pub behind : Call ClientEntry → Act ClientEvent → Call ClientEntry
behind call act = left call (client_turn call act)

-- a call with this entry
abbrev pub with : ClientEntry → List Msg → Option Pieces → Call ClientEntry
with entry unsent pieces = record { slot = Some (record { entry = entry; unsent = unsent }); pieces = pieces }

-- what an event that brings no octets was accepted for
pub accepted : (call : Call ClientEntry) (planned : Planned ClientEvent) → Passes call (Hears planned Nothing)
    → IsOk (client_step (entry_of call.slot) planned.event).outcome
accepted call planned ok = (heard client_step is_closed is_gathering call planned Nothing ok).accepted

module _ (interface : Interface) where
  abbrev pub IsCancelled : Late → Call ClientEntry → Type 0
  IsCancelled l call = entry_of call.slot ≡ Some (Cancelled l)

  -- what the last Fragment leaves, or those before it
  abbrev pub ended : Bool → Late → Option ClientEntry
  ended ends l = if ends then (client_step (Some (Cancelled l)) (event.Last false heard_as.Unread)).entry else Some (Cancelled l)

  pub fragment_act : (m : Msg) (call : Call ClientEntry) (l : Late) (ends : Bool) → IsCancelled l call → m.kind ≡ message.Fragment → m.more ≡ not ends
      → client_act interface m call ≡ Hears (silently (if ends then event.Last false heard_as.Unread else event.More false)) Nothing
  fragment_act m call l ends is fragment more = by_slot call.slot is
    where
      by_slot : (slot : Option (Slot ClientEntry)) → entry_of slot ≡ Some (Cancelled l)
          → client_act interface m (record { slot = slot; pieces = call.pieces })
          ≡ Hears (silently (if ends then event.Last false heard_as.Unread else event.More false)) Nothing
      by_slot None is = absurd cc
      by_slot (Some slot) is =
          let same : slot.entry ≡ Cancelled l = cc in
          subst (λ entry. client_act interface m (with entry slot.unsent call.pieces)
          ≡ Hears (silently (if ends then event.Last false heard_as.Unread else event.More false)) Nothing) (sym same) (by_end ends more)
        where
          by_end : (ends : Bool) → m.more ≡ not ends
              → client_act interface m (with (Cancelled l) slot.unsent call.pieces)
              ≡ Hears (silently (if ends then event.Last false heard_as.Unread else event.More false)) Nothing
          by_end true more = rw (fragment, more) refl
          by_end false more = rw (fragment, more) refl

  fragment_leaves : (m : Msg) (call : Call ClientEntry) (l : Late) (ends : Bool) → IsCancelled l call → m.kind ≡ message.Fragment → m.more ≡ not ends
      → Passes call (client_act interface m call) → entry_of (behind call (client_act interface m call)).slot ≡ ended ends l
  fragment_leaves m call l ends is fragment more ok =
      let act = fragment_act m call l ends is fragment more in
      entry_left client_step is_closed is_gathering call (behind call (client_act interface m call))
      (silently (if ends then event.Last false heard_as.Unread else event.More false))
      (subst (Passes call) act ok) (ap (behind call) act)
      ∙ ap (λ entry. (client_step entry (if ends then event.Last false heard_as.Unread else event.More false)).entry) is ∙ by_end ends
    where
      by_end : (ends : Bool) → (client_step (Some (Cancelled l)) (if ends then event.Last false heard_as.Unread else event.More false)).entry ≡ ended ends l
      by_end true = refl
      by_end false = by_late l
        where
          by_late : (l : Late) → (client_step (Some (Cancelled l)) (event.More false)).entry ≡ Some (Cancelled l)
          by_late late.None = refl
          by_late late.Begun = refl
          by_late late.Seen = refl

  -- Fragments behind a cancel are told whether the last one came
  pub ignored : (messages : List Msg) (ends : Bool) (l : Late) (call after : Call ClientEntry) → IsCancelled l call → AreFragments ends messages
      → Follows client_turn (client_act interface) call (map Comes messages) after → entry_of after.slot ≡ ended ends l
  ignored [] ends l call after is are follows =
      ap (λ call. entry_of call.slot) follows ∙ is ∙ ap (λ ends. ended ends l) (sym are)
  ignored (m ∷ []) ends l call after is are follows =
      ap (λ call. entry_of call.slot) follows.1 ∙ fragment_leaves m call l ends is are.0 are.1 follows.0
  ignored (m ∷ n ∷ messages) ends l call after is are follows =
      ignored (n ∷ messages) ends l (behind call (client_act interface m call)) after
      (fragment_leaves m call l false is are.0 are.1 follows.0) are.2 follows.1
