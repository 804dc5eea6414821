-- What a client's call that gathers its reply does with the last piece of it.
use Rattle.std.proofs.Common.{◌≡◌, ℕ, Bool, true, false, cond, List, length, Option, Some, None, is_some, Result, Ok, Err, IsOk, refl, sym, ap, subst, ◌∙◌, ◌++◌, inl, inr}
use Rattle.std.specs.FinMap as finite
use Rattle.giop_cdr.specs.declared.order.Order.{Order}
use Rattle.giop_cdr.specs.declared.fault.CdrFault.{CdrFault}
use Rattle.giop_types.specs.declared.json.interface.Interface.{Interface}
use Rattle.giop_frag.specs.Gathered.{Pieces, is_over, same_order}
use Rattle.giop_msg.specs.declared.messages.locate_reply.LocateReply.{LocateReply}
use Rattle.giop_msg.specs.declared.messages.reply.Reply.{Reply}
use Rattle.giop_msg.specs.declared.msg.Msg.{Msg}
use Rattle.giop_msg.specs.declared.version.Version.{Version}
use Rattle.giop_msg.specs.Joined.{joined_from}
use Rattle.giop_msg.specs.Messages.LocateReply.{locate_reply}
use Rattle.giop_msg.specs.Messages.Reply.{reply}
use Rattle.giop_calls.specs.declared.client.call.Call.{Call as Asked}
use Rattle.giop_calls.specs.declared.client.call.Call.TheVariants as asked
use Rattle.giop_calls.specs.declared.client.entry.ClientEntry.{ClientEntry}
use Rattle.giop_calls.specs.declared.client.entry.ClientEntry.TheVariants.{Sending, Waiting, Gathering, Done, LocateDone, Undecoded, OnewaySent, Cancelled}
use Rattle.giop_calls.specs.declared.client.event.ClientEvent.TheVariants as event
use Rattle.giop_calls.specs.declared.client.heard.HeardReply.{HeardReply}
use Rattle.giop_calls.specs.ClientTable.{client_step, is_closed, is_gathering}
use Rattle.giop_end.specs.declared.session_fault.SessionFault.TheVariants.{GatherFull}
use Rattle.giop_table.specs.declared.slot.Slot.{Slot}
use Rattle.giop_table.specs.declared.table_fault.TableFault.TheVariants as table
use Rattle.giop_table.specs.CallTable.{Held, More, Hears, Stays, gathers, limit}
use Rattle.giop_end.specs.Hearing.ClientHears.{AtClient, gathered_call, heard_located_by, heard_reply, heard_reply_by, client_pieces}
use Rattle.giop_end.specs.Hearing.Pieces.{continued, continues}
use Rattle.giop_end.specs.Hearing.Heard.{ActsOn, behind_id, silently, silent}
use Rattle.giop_table.specs.Sending.{sending_step}
use Rattle.giop_table.proofs.TableLemmas.{does_over}

-- the slot of a call that gathers its reply
abbrev pub gathering_slot : Asked → List Msg → Option (Slot ClientEntry)
gathering_slot call unsent = Some (record { entry = Gathering call; unsent = unsent })

-- what gathers a reply is its entry
pub gathering_is : (slot : Option (Slot ClientEntry)) (call : Asked) → gathered_call slot ≡ Some call
    → (unsent : List Msg) × (slot ≡ gathering_slot call unsent)
gathering_is None call is = absurd cc
gathering_is (Some slot) call is = by_entry slot.entry slot.unsent is
  where
    by_entry : (entry : ClientEntry) (unsent : List Msg) → gathered_call (Some (record { entry = entry; unsent = unsent })) ≡ Some call
        → (more : List Msg) × (◌≡◌ {A = Option (Slot ClientEntry)} (Some (record { entry = entry; unsent = unsent })) (gathering_slot call more))
    by_entry (Gathering one) unsent is = let same : one ≡ call = cc in (unsent, ap (λ k. gathering_slot k unsent) same)
    by_entry (Sending one left) unsent is = absurd cc
    by_entry (Waiting one) unsent is = absurd cc
    by_entry (Done request reply) unsent is = absurd cc
    by_entry (LocateDone request reply) unsent is = absurd cc
    by_entry (Undecoded one fault) unsent is = absurd cc
    by_entry (OnewaySent request) unsent is = absurd cc
    by_entry (Cancelled late) unsent is = absurd cc

-- pieces that are continued are those of a call, in its byte order
pub continued_is : (order : Order) (call : Option Asked) (pieces : Option Pieces) → is_some (continued order call pieces) ≡ true
    → (one : Asked) × (p : Pieces) × (call ≡ Some one) × (pieces ≡ Some p) × (continued order call pieces ≡ Some (one, p.octets))
continued_is order None pieces is = absurd cc
continued_is order (Some call) None is = absurd cc
continued_is order (Some call) (Some p) is = (call, p, refl, refl, by_order (same_order order p.order) is)
  where
    by_order : (same : Bool) → is_some {T = Asked × List ℕ} (cond same (Some (call, p.octets)) None) ≡ true
        → ◌≡◌ {A = Option (Asked × List ℕ)} (cond same (Some (call, p.octets)) None) (Some (call, p.octets))
    by_order true is = refl
    by_order false is = absurd cc

-- a further piece changes nothing at a call whose reply is gathered
pub more_stays : (slot : Option (Slot ClientEntry)) (call : Asked) → gathered_call slot ≡ Some call
    → Stays (sending_step client_step slot (silently (event.More true))) slot silent
more_stays slot call is =
    let stands = gathering_is slot call is in
    subst (λ s. Stays (sending_step client_step s (silently (event.More true))) s silent) (sym stands.1) refl

-- the last piece settles the call
module _ (interface : Interface) (version : Version) (order : Order) (octets : List ℕ) where
  abbrev last_step : Asked → List Msg → HeardReply → Type 0
  last_step call unsent heard =
      IsOk (sending_step client_step (gathering_slot call unsent) (silently (event.Last true heard))).outcome
      × (gathers is_gathering (sending_step client_step (gathering_slot call unsent) (silently (event.Last true heard))).entry ≡ false)

  settled : (call : Asked) (unsent : List Msg) → last_step call unsent (heard_reply interface call version order octets)
  settled (asked.Request request) unsent = by_reading ((reply interface (Some request) version).read (joined_from order octets))
    where
      by_reading : (read : Result Reply CdrFault) → last_step (asked.Request request) unsent (heard_reply_by read)
      by_reading (Ok reply) = (refl, refl)
      by_reading (Err e) = (refl, refl)
  settled (asked.Locate request) unsent = by_reading ((locate_reply version).read (joined_from order octets))
    where
      by_reading : (read : Result LocateReply CdrFault) → last_step (asked.Locate request) unsent (heard_located_by read)
      by_reading (Ok reply) = (refl, refl)
      by_reading (Err e) = (refl, refl)

  pub last_settles : (slot : Option (Slot ClientEntry)) (call : Asked) (heard : HeardReply) → gathered_call slot ≡ Some call
      → heard ≡ heard_reply interface call version order octets
      → IsOk (sending_step client_step slot (silently (event.Last true heard))).outcome
      × (gathers is_gathering (sending_step client_step slot (silently (event.Last true heard))).entry ≡ false)
  last_settles slot call heard gathered is =
      let stands = gathering_is slot call gathered in
      subst (λ s. IsOk (sending_step client_step s (silently (event.Last true heard))).outcome
      × (gathers is_gathering (sending_step client_step s (silently (event.Last true heard))).entry ≡ false)) (sym stands.1)
      (subst (last_step call stands.0) (sym is) (settled call stands.0))

-- the last piece of a reply, where there is no room for it
module _ {R : Type 0} (h : Held R ClientEntry) (id : ℕ) (call : Asked) (octets : List ℕ) where
  full : (heard : HeardReply) (slot : Option (Slot ClientEntry)) (unsent : List Msg) → slot ≡ gathering_slot call unsent → finite.get h.table id ≡ slot
      → is_over h.room h.gathered (length octets) ≡ true
      → limit client_step is_closed is_gathering h id (Hears (silently (event.Last true heard)) (More octets)) ≡ Some table.GatherFull
  full heard slot unsent is at over = rw (at ∙ is, over) refl

  pub complete_refused : (interface : Interface) (version : Version) (order : Order) (joined : List ℕ) → gathered_call (finite.get h.table id) ≡ Some call
      → is_over h.room h.gathered (length octets) ≡ true
      → AtClient (ActsOn id (Hears (silently (event.Last true (heard_reply interface call version order joined))) (More octets))) h (Err GatherFull) h
  complete_refused interface version order joined gathered over =
      let heard = heard_reply interface call version order joined in
      let stands = gathering_is (finite.get h.table id) call gathered in
      let settles = last_settles interface version order joined (finite.get h.table id) call heard gathered refl in
      inr (
        Err table.GatherFull,
        does_over client_step is_closed is_gathering h h id (silently (event.Last true heard)) (More octets) table.GatherFull settles.0
            (inl (full heard (finite.get h.table id) stands.0 stands.1 refl over)) refl,
        refl,
      )

-- a Fragment that continues pieces, and with which no more come, is the last of them
pub continues_last : (interface : Interface) (m : Msg) (call : Asked) (octets : List ℕ) → m.more ≡ false
    → continues client_pieces interface m (Some (call, octets))
    ≡ Hears (silently (event.Last true (heard_reply interface call m.version m.order (octets ++ behind_id m)))) (More (behind_id m))
continues_last interface m call octets last = rw last refl
