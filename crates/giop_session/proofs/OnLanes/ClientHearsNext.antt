-- A client's end that hears the next message of a lane does the lane's act.
use Rattle.std.proofs.Common.{◌≡◌, ◌≢◌, ℕ, cond, List, ◌∷◌, map, Option, Some, None, Result, Ok, Err, IsOk, refl, sym, ap, subst, ◌∙◌}
use Rattle.std.specs.List.{AllByRecursion}
use Rattle.std.specs.Option.{option_map}
use Rattle.std.specs.FinMap as finite
use Rattle.giop_types.specs.declared.interfaces.interface.Interface.{Interface}
use Rattle.giop_frag.specs.Gathered.{Pieces}
use Rattle.giop_msg.specs.declared.msg.Msg.{Msg}
use Rattle.giop_calls.specs.Lane.{Cut, IsSound, Lane, Message, Standing, ToClient, client_event, gathered, pieces_of, step}
use Rattle.giop_calls.specs.Lane as lanes
use Rattle.giop_calls.specs.ClientTable.{ClientStep, client_step, is_closed, is_gathering}
use Rattle.giop_calls.specs.declared.client.call.Call.{Call as Asked}
use Rattle.giop_calls.specs.declared.client.entry.ClientEntry.{ClientEntry}
use Rattle.giop_calls.specs.declared.client.entry.ClientEntry.TheVariants.{Gathering}
use Rattle.giop_calls.specs.declared.client.event.ClientEvent.{ClientEvent}
use Rattle.giop_calls.specs.declared.client.rule.ClientRule.{ClientRule}
use Rattle.giop_end.specs.declared.session_fault.SessionFault.{SessionFault}
use Rattle.giop_end.specs.declared.session_fault.SessionFault.TheVariants.{NoMemory}
use Rattle.giop_table.specs.declared.slot.Slot.{Slot}
use Rattle.giop_table.specs.CallTable.{Call, Held, at, brought}
use Rattle.giop_table.specs.CallTable as table
use Rattle.giop_end.specs.Hearing.ClientHears.{client_side}
use Rattle.giop_session.specs.Worlds.Coding.{coding}
use Rattle.giop_end.specs.Hearing.Heard.{hears}
use Rattle.giop_session.specs.Worlds.LaneAtEnds.{gathered_in, seen}
use Rattle.giop_table.specs.Sending.{entry_of, slot_of, unsent_of}
use Rattle.giop_session.specs.Worlds.Tracks.{ClientShows, IsToClient, IsToServer}
use Rattle.giop_session.proofs.OnLanes.ClientSteps.{AcceptsIt, Gathers, Steps, half, steps}
use Rattle.giop_session.proofs.OnLanes.HearsNext.{Came, accepted, call_behind, came, held_on, mapped, put_beside, put_there, unsent_kept}
use Rattle.giop_session.proofs.OnItems.ItemLemmas.{entry_is}
use Rattle.giop_session.proofs.OnLanes.NextHeard.{ClientHeard, ClientHearsIt, IsBeside}

-- the next message of a lane comes to a client's end that shows it
module _ (interface : Interface) (lane : Lane) (id : ℕ) (m : Msg) (later : List Message) (h k : Held ClientRule ClientEntry)
    (next : lane.to_client ≡ seen m ∷ later) (shows : ClientShows id (at h id) lane) (is : IsToClient id m) where
  abbrev stored : Option (Slot ClientEntry)
  stored = finite.get h.table id

  abbrev held_there : Option Pieces
  held_there = finite.get h.gathered id

  -- what an event of the lane leaves
  abbrev half_behind : ClientEvent → Standing ClientEntry
  half_behind what = half (client_step lane.client.entry what).entry (gathered lane.client.pieces (seen m)) lane.client.uses

  abbrev lane_behind : ClientEvent → Lane
  lane_behind what = record lane { client = half_behind what; to_client = later }

  -- the lane's event, which it accepted
  record Took (after : Lane) : Type 0 where
    what : ClientEvent
    on_lane : client_event (coding interface) lane.client (seen m) ≡ Some what
    ok : IsOk (client_step lane.client.entry what).outcome
    behind : lane_behind what ≡ after

  took : (after : Lane) → step (coding interface) lane ToClient ≡ Some after → Took after
  took after so =
      by_event (client_event (coding interface) lane.client (seen m)) refl
      (ap (λ ms. lanes.to_client (coding interface) lane ms) (sym next) ∙ so)
    where
      by_event : (what : Option ClientEvent) → client_event (coding interface) lane.client (seen m) ≡ what
          → option_map (λ c. record lane { client = c; to_client = later }) (lanes.hears (coding interface) lane.client (seen m) what) ≡ Some after
          → Took after
      by_event None is so = absurd cc
      by_event (Some what) is so =
          let moved = mapped (λ c. record lane { client = c; to_client = later }) (lanes.hears (coding interface) lane.client (seen m) (Some what))
          after so in
          let one = accepted (client_step lane.client.entry what).outcome (half_behind what) moved.0 moved.1 in record {
            what = what;
            on_lane = is;
            ok = one.0;
            behind = ap (λ c. record lane { client = c; to_client = later }) one.1 ∙ moved.2;
          }

  module _ (after : Lane) (so : step (coding interface) lane ToClient ≡ Some after) (its_lane : Took after) where
    -- the lane's event at what is stored
    event_there : client_event (coding interface) (half (entry_of stored) lane.client.pieces lane.client.uses) (seen m) ≡ Some its_lane.what
    event_there =
        ap (λ entry. client_event (coding interface) (half entry lane.client.pieces lane.client.uses) (seen m)) shows.entry ∙ its_lane.on_lane

    ok_there : IsOk (client_step (entry_of stored) its_lane.what).outcome
    ok_there = subst (λ entry. IsOk (client_step entry its_lane.what).outcome) (sym shows.entry) its_lane.ok

    its_step : Steps interface m stored held_there lane.client.pieces lane.client.uses (seen m)
    its_step =
        steps interface m stored held_there lane.client.pieces lane.client.uses is.unbroken
        (subst (λ entry. Gathers entry lane.client.pieces held_there) (sym shows.entry) shows.gathered)
        (subst (AcceptsIt interface m stored held_there lane.client.pieces lane.client.uses) (sym event_there) ok_there)

    -- the call shows what the lane comes to
    module _ (its : Steps interface m stored held_there lane.client.pieces lane.client.uses (seen m)) where
      abbrev now : Option ClientEntry
      now = (client_step (entry_of stored) its.what).entry

      same_event : its.lanes_event ≡ its_lane.what
      same_event = let both : Some its.lanes_event ≡ Some its_lane.what = sym its.on_lane ∙ event_there in cc

      same_step : client_step (entry_of stored) its.what ≡ client_step (entry_of stored) its_lane.what
      same_step = its.same ∙ ap (client_step (entry_of stored)) same_event

      entry_now : now ≡ (client_step lane.client.entry its_lane.what).entry
      entry_now =
          ap (λ (one : ClientStep). one.entry) same_step ∙ ap (λ entry. (client_step entry its_lane.what).entry) shows.entry

      unsent_now : unsent_of (slot_of now (unsent_of stored)) ≡ unsent_of stored
      unsent_now = unsent_kept stored now its.stays

      gathers_now : (q : Asked) → (client_step lane.client.entry its_lane.what).entry ≡ Some (Gathering q)
          → (cut : Cut) × (gathered lane.client.pieces (seen m) ≡ pieces_of cut)
          × (cond (table.gathers is_gathering (slot_of now (unsent_of stored))) (brought its.brings held_there) None ≡ gathered_in cut)
      gathers_now q stands = by_cut (its.gathers q (entry_now ∙ stands))
        where
          by_cut : (cut : Cut) × (gathered lane.client.pieces (seen m) ≡ pieces_of cut) × (brought its.brings held_there ≡ gathered_in cut)
              → (cut : Cut) × (gathered lane.client.pieces (seen m) ≡ pieces_of cut)
              × (cond (table.gathers is_gathering (slot_of now (unsent_of stored))) (brought its.brings held_there) None ≡ gathered_in cut)
          by_cut (cut, came_so, joined_so) = (
            cut,
            came_so,
            held_on is_gathering now (Gathering q) (unsent_of stored) (brought its.brings held_there) (entry_now ∙ stands) refl ∙ joined_so,
          )

      abbrev call_now : Call ClientEntry
      call_now = call_behind (λ rule. client_step) (λ rule. is_closed) is_gathering h id its.what its.brings

      shows_now : ClientShows id call_now (lane_behind its_lane.what)
      shows_now = record {
        entry = entry_is now (unsent_of stored) ∙ entry_now;
        each = subst (AllByRecursion (IsToServer id)) (sym unsent_now) shows.each;
        unsent = ap (map seen) unsent_now ∙ shows.unsent;
        gathered = gathers_now;
      }

      heard_so : (result : Result (Unit {0}) SessionFault)
          → Came (λ rule. client_step) (λ rule. is_closed) is_gathering id m its.what its.brings h result k → ClientHeard interface lane id m h result k
      heard_so (Ok done) moved =
          let stands : at k id ≡ call_now = ap (λ one. at one id) moved ∙ put_there h id call_now in record {
            after = after;
            stepped = so;
            shows = subst (ClientShows id (at k id)) its_lane.behind
                (subst (λ one. ClientShows id one (lane_behind its_lane.what)) (sym stands) shows_now);
            beside = subst (IsBeside id h) (sym moved) (put_beside h id call_now);
          }
      heard_so (Err why) met = met

      -- it does the lane's act, or meets a limit
      by_step : (result : Result (Unit {0}) SessionFault) → result ≢ Err NoMemory → ClientHearsIt interface m h result k
          → ClientHeard interface lane id m h result k
      by_step result memory hears =
          heard_so result
          (came (client_side interface) id m its.what its.brings h k
          its.small (subst (λ (one : ClientStep). IsOk one.outcome) (sym same_step) ok_there) is.unbroken is.names its.act_by result memory hears)

pub client_hears_next : (interface : Interface) (lane : Lane) (id : ℕ) (m : Msg) (later : List Message)
    (h k : Held ClientRule ClientEntry) (result : Result (Unit {0}) SessionFault)
    → IsSound (coding interface) lane → lane.to_client ≡ seen m ∷ later → ClientShows id (at h id) lane → IsToClient id m
    → (result ≢ Err NoMemory) → ClientHearsIt interface m h result k → ClientHeard interface lane id m h result k
client_hears_next interface lane id m later h k result sound next shows is memory hears =
    let its_lane = took interface lane id m later h k next shows is sound.4.1.0 sound.4.1.1 in
    by_step interface lane id m later h k next shows is sound.4.1.0 sound.4.1.1 its_lane
    (its_step interface lane id m later h k next shows is sound.4.1.0 sound.4.1.1 its_lane) result memory hears
