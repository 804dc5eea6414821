-- A server's end that hears the next message of a lane does the lane's act.
use Rattle.std.proofs.Common.{◌≡◌, ◌≢◌, ℕ, cond, List, ◌∷◌, map, Option, Some, None, Result, Ok, Err, IsOk, refl, sym, ap, subst, ◌∙◌}
use Rattle.std.specs.List.{AllByRecursion}
use Rattle.std.specs.FinMap as finite
use Rattle.giop_types.specs.declared.interfaces.interface.Interface.{Interface}
use Rattle.giop_frag.specs.Gathered.{Pieces}
use Rattle.giop_msg.specs.declared.msg.Msg.{Msg}
use Rattle.giop_calls.specs.Lane.{Cut, IsSound, Lane, Message, Standing, ToServer, begun as uses_by, gathered, pieces_of, served, server_event, step}
use Rattle.giop_calls.specs.Lane as lanes
use Rattle.giop_calls.specs.ServerTable.{ServerStep, is_closed, is_gathering, server_step}
use Rattle.giop_calls.specs.declared.kind.CallKind.{CallKind}
use Rattle.giop_calls.specs.declared.server.entry.ServerEntry.{ServerEntry}
use Rattle.giop_calls.specs.declared.server.entry.ServerEntry.TheVariants.{Gathering}
use Rattle.giop_calls.specs.declared.server.event.ServerEvent.{ServerEvent}
use Rattle.giop_calls.specs.declared.server.rule.ServerRule.{ServerRule}
use Rattle.giop_end.specs.declared.session_fault.SessionFault.{SessionFault}
use Rattle.giop_end.specs.declared.session_fault.SessionFault.TheVariants.{NoMemory}
use Rattle.giop_table.specs.declared.slot.Slot.{Slot}
use Rattle.giop_table.specs.CallTable.{Held, at, brought}
use Rattle.giop_table.specs.CallTable as table
use Rattle.giop_session.specs.Worlds.Coding.{coding}
use Rattle.giop_end.specs.Hearing.Heard.{hears}
use Rattle.giop_session.specs.Worlds.LaneAtEnds.{gathered_in, seen}
use Rattle.giop_table.specs.Sending.{entry_of, slot_of, unsent_of}
use Rattle.giop_session.specs.Items.ServerCarries.{asks}
use Rattle.giop_end.specs.Hearing.ServerHears.{server_side}
use Rattle.giop_session.specs.Worlds.Tracks.{IsToClient, IsToServer, ServerShows}
use Rattle.giop_session.proofs.OnLanes.HearsNext.{Came, accepted, call_behind, came, held_on, mapped, put_beside, put_there, unsent_kept}
use Rattle.giop_session.proofs.OnItems.ItemLemmas.{entry_is}
use Rattle.giop_session.proofs.OnLanes.NextHeard.{IsBeside, ServerHeard, ServerHearsIt}
use Rattle.giop_session.proofs.OnLanes.ServerSteps.{Gathers, Steps, steps}

-- the next message of a lane comes to a server's end that shows it
module _ (interface : Interface) (lane : Lane) (id : ℕ) (m : Msg) (later : List Message) (h k : Held ServerRule ServerEntry)
    (next : lane.to_server ≡ seen m ∷ later) (shows : ServerShows id (at h id) lane) (is : IsToServer id m) where
  abbrev stored : Option (Slot ServerEntry)
  stored = finite.get h.table id

  abbrev held_there : Option Pieces
  held_there = finite.get h.gathered id

  -- the step of the lane, and what it leaves
  abbrev lane_event : ServerEvent
  lane_event = server_event (coding interface) lane.server.pieces (seen m)

  abbrev lane_step : ServerStep
  lane_step = server_step lane.server.entry lane_event

  abbrev half_behind : Standing ServerEntry
  half_behind = record {
    entry = lane_step.entry;
    pieces = gathered lane.server.pieces (seen m);
    uses = uses_by lane.server.uses (seen m);
  }

  abbrev lane_behind : Lane
  lane_behind = record lane { server = half_behind; to_server = later }

  took : (after : Lane) → step (coding interface) lane ToServer ≡ Some after → IsOk lane_step.outcome × (lane_behind ≡ after)
  took after so =
      let moved = mapped (λ s. record lane { server = s; to_server = later }) (served (coding interface) lane.server (seen m)) after
      (ap (λ ms. lanes.to_server (coding interface) lane ms) (sym next) ∙ so) in
      let one = accepted lane_step.outcome half_behind moved.0 moved.1 in
      (one.0, ap (λ s. record lane { server = s; to_server = later }) one.1 ∙ moved.2)

  its_step : IsOk lane_step.outcome → Steps interface m stored held_there lane.server.pieces (seen m)
  its_step ok =
      steps interface m stored held_there lane.server.pieces is.unbroken
      (subst (λ entry. Gathers entry lane.server.pieces held_there) (sym shows.entry) shows.gathered)
      (subst (λ entry. IsOk (server_step entry lane_event).outcome) (sym shows.entry) ok)

  -- the call shows what the lane comes to
  module _ (its : Steps interface m stored held_there lane.server.pieces (seen m)) where
    abbrev now : Option ServerEntry
    now = (server_step (entry_of stored) its.what).entry

    entry_now : now ≡ lane_step.entry
    entry_now = ap (λ (one : ServerStep). one.entry) its.same ∙ ap (λ entry. (server_step entry lane_event).entry) shows.entry

    unsent_now : unsent_of (slot_of now (unsent_of stored)) ≡ unsent_of stored
    unsent_now = unsent_kept stored now its.stays

    gathers_now : (kind : CallKind) → lane_step.entry ≡ Some (Gathering kind)
        → (cut : Cut) × (cut.first.kind ≡ asks kind) × (gathered lane.server.pieces (seen m) ≡ pieces_of cut)
        × (cond (table.gathers is_gathering (slot_of now (unsent_of stored))) (brought its.brings held_there) None ≡ gathered_in cut)
    gathers_now kind stands = by_cut (its.gathers kind (entry_now ∙ stands))
      where
        by_cut : (cut : Cut) × (cut.first.kind ≡ asks kind) × (gathered lane.server.pieces (seen m) ≡ pieces_of cut)
            × (brought its.brings held_there ≡ gathered_in cut)
            → (cut : Cut) × (cut.first.kind ≡ asks kind) × (gathered lane.server.pieces (seen m) ≡ pieces_of cut)
            × (cond (table.gathers is_gathering (slot_of now (unsent_of stored))) (brought its.brings held_there) None ≡ gathered_in cut)
        by_cut (cut, kind_is, came_so, joined_so) = (
          cut,
          kind_is,
          came_so,
          held_on is_gathering now (Gathering kind) (unsent_of stored) (brought its.brings held_there) (entry_now ∙ stands) refl ∙ joined_so,
        )

    shows_now : ServerShows id (call_behind (λ rule. server_step) (λ rule. is_closed) is_gathering h id its.what its.brings) lane_behind
    shows_now = record {
      entry = entry_is now (unsent_of stored) ∙ entry_now;
      each = subst (AllByRecursion (IsToClient id)) (sym unsent_now) shows.each;
      unsent = ap (map seen) unsent_now ∙ shows.unsent;
      gathered = gathers_now;
    }

    heard_so : (after : Lane) → step (coding interface) lane ToServer ≡ Some after → lane_behind ≡ after → (result : Result (Unit {0}) SessionFault)
        → Came (λ rule. server_step) (λ rule. is_closed) is_gathering id m its.what its.brings h result k → ServerHeard interface lane id m h result k
    heard_so after so behind (Ok done) moved =
        let call = call_behind (λ rule. server_step) (λ rule. is_closed) is_gathering h id its.what its.brings in
        let stands : at k id ≡ call = ap (λ one. at one id) moved ∙ put_there h id call in record {
          after = after;
          stepped = so;
          shows = subst (ServerShows id (at k id)) behind (subst (λ one. ServerShows id one lane_behind) (sym stands) shows_now);
          beside = subst (IsBeside id h) (sym moved) (put_beside h id call);
        }
    heard_so after so behind (Err why) met = met

  -- it does the lane's act, or meets a limit
  by_step : (after : Lane) → step (coding interface) lane ToServer ≡ Some after → (result : Result (Unit {0}) SessionFault) → result ≢ Err NoMemory
      → ServerHearsIt interface m h result k → ServerHeard interface lane id m h result k
  by_step after so result memory hears =
      let one = took after so in
      let its = its_step one.0 in
      let ok : IsOk (server_step (entry_of stored) its.what).outcome =
      subst (λ (step : ServerStep). IsOk step.outcome) (sym its.same)
      (subst (λ entry. IsOk (server_step entry lane_event).outcome) (sym shows.entry) one.0) in
      heard_so its after so one.1 result
      (came (server_side interface) id m its.what its.brings h k its.small ok
      is.unbroken is.names its.act_by result memory hears)

pub server_hears_next : (interface : Interface) (lane : Lane) (id : ℕ) (m : Msg) (later : List Message)
    (h k : Held ServerRule ServerEntry) (result : Result (Unit {0}) SessionFault)
    → IsSound (coding interface) lane → lane.to_server ≡ seen m ∷ later → ServerShows id (at h id) lane → IsToServer id m
    → (result ≢ Err NoMemory) → ServerHearsIt interface m h result k → ServerHeard interface lane id m h result k
server_hears_next interface lane id m later h k result sound next shows is memory hears =
    by_step interface lane id m later h k next shows is sound.4.0.0 sound.4.0.1 result memory hears
