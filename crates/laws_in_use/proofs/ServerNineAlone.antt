-- A server's end that is given 9 alone refuses none of it, and this says what a run says of 9.
use Rattle.std.proofs.Common.{◌≡◌, ℕ, ◌==◌, Bool, true, false, if◌then◌else◌, List, [], ◌∷◌, map, None, refl, sym, subst, arith}
use Rattle.giop_types.specs.declared.interfaces.interface.Interface.{Interface}
use Rattle.giop_cdr.specs.Layout.{number, chosen}
use Rattle.giop_cdr.specs.Reading.Values.{field_at, number_at}
use Rattle.giop_msg.specs.Laws.{IsTable}
use Rattle.giop_msg.specs.Locate.{locate_request}
use Rattle.giop_msg.specs.Msg.{message_octets}
use Rattle.giop_msg.specs.RequestId.{request_id_layout}
use Rattle.giop_msg.specs.declared.version.Version.TheVariants.{V10, V12}
use Rattle.giop_calls.specs.declared.server.entry.ServerEntry.{ServerEntry}
use Rattle.giop_calls.specs.declared.server.event.ServerEvent.{ServerEvent}
use Rattle.giop_calls.specs.declared.server.rule.ServerRule.{ServerRule}
use Rattle.giop_calls.specs.ServerTable.{is_closed, is_gathering, server_step}
use Rattle.giop_session.specs.declared.laws.inputs.Answered.{Answered}
use Rattle.giop_session.specs.declared.laws.inputs.ServerInput.{ServerInput}
use Rattle.giop_session.specs.Calls.CallTable.{Held, Nothing, at, put_call}
use Rattle.giop_session.specs.Hearing.Heard.{silently}
use Rattle.giop_session.specs.Hearing.ServerHears.{server_act, server_breaks}
use Rattle.giop_session.specs.Items.Carries.{Carries, CarriesItem, Got}
use Rattle.giop_session.specs.Items.ServerCarries.{ServerItem, server_telling}
use Rattle.giop_session.specs.Ends.Begun.{EndState, end_state}
use Rattle.giop_session.specs.Runs.Events.{Event, own_events, Comes as Came}
use Rattle.giop_session.specs.Runs.Fits.{only}
use Rattle.giop_session.specs.Runs.ServerRuns.{at_server, server_run}
use Rattle.giop_session.specs.Runs.SideRuns.{SideRuns, SideTakesAs}
use Rattle.giop_session.specs.Runs.Inputs.{Input, Reads}
use Rattle.giop_session.specs.Runs.Met.{Comes, Met, given_as}
use Rattle.laws_in_use.specs.Locating.{answering, bad, cancel_big, door, door_begins, door_ends, here_big, key, key_little, limits, said_of_nine}
use Rattle.laws_in_use.proofs.ByIds.{if_is}
use Rattle.laws_in_use.proofs.LocatingHolds.{one_nine}
use Rattle.laws_in_use.proofs.LocatingMessages.{decoded, messages, named, undecoded}
use Rattle.laws_in_use.proofs.LocatingReads.{wide}
use Rattle.laws_in_use.proofs.LocatingRuns.{End, Hears_it, again, cancelled, fed, key_asked, new, none, none_at, whole}
use Rattle.laws_in_use.proofs.Taking.{Stands, at-put, hears, stands_more, stands_none}
use Rattle.giop_calls.specs.declared.server.event.ServerEvent.TheVariants as event
use Rattle.giop_calls.specs.declared.server.heard.HeardCall.TheVariants as heard
use Rattle.giop_session.specs.declared.laws.inputs.Answered.TheVariants as answer
use Rattle.laws_in_use.proofs.ShownAlone.{ServerIsShown, one_read}

-- what is given of 9
abbrev pub nine_met : List (Met ServerInput)
nine_met = Comes key_little ∷ Comes cancel_big ∷ Comes bad ∷ []

module _ (interface : Interface) where
  abbrev State : Type 0
  State = EndState (Held ServerRule ServerEntry)

  abbrev nine_1 : End
  nine_1 = put_call (new limits) 9 key_asked

  abbrev nine_2 : End
  nine_2 = put_call nine_1 9 cancelled

  abbrev nine_end : End
  nine_end = put_call nine_2 9 again

  stands_none_yet : Stands (new limits) limits (7 ∷ 9 ∷ []) 0
  stands_none_yet = stands_none (record {}) limits (7 ∷ 9 ∷ [])

  asked_at : at nine_1 9 ≡ key_asked
  asked_at = at-put (new limits) 9 key_asked 9

  stands_asked : Stands nine_1 limits (7 ∷ 9 ∷ []) 0
  stands_asked = stands_more (new limits) limits (7 ∷ 9 ∷ []) 0 0 9 none key_asked stands_none_yet refl (none_at limits 9) refl

  cancelled_at : at nine_2 9 ≡ cancelled
  cancelled_at = at-put nine_1 9 cancelled 9

  stands_cancelled : Stands nine_2 limits (7 ∷ 9 ∷ []) 0
  stands_cancelled = stands_more nine_1 limits (7 ∷ 9 ∷ []) 0 0 9 key_asked cancelled stands_asked refl asked_at refl

  asked : Hears_it interface key_little (new limits) nine_1
  asked = hears server_step is_closed is_gathering server_breaks (server_act interface) (new limits) limits (7 ∷ 9 ∷ []) 0 key_little 9
      (silently (event.Whole (heard.Locate key))) Nothing none key_asked refl named.key_little stands_none_yet (omega arith) (omega arith) (none_at limits 9)
      (whole (decoded interface).key_little) refl

  stopped : Hears_it interface cancel_big nine_1 nine_2
  stopped = hears server_step is_closed is_gathering server_breaks (server_act interface) nine_1 limits (7 ∷ 9 ∷ []) 0 cancel_big 9
      (silently event.Cancel) Nothing key_asked cancelled refl named.cancel_big stands_asked (omega arith) (omega arith) asked_at refl refl

  used : Hears_it interface bad nine_2 nine_end
  used = hears server_step is_closed is_gathering server_breaks (server_act interface) nine_2 limits (7 ∷ 9 ∷ []) 0 bad 9
      (silently (event.Whole undecoded)) Nothing cancelled again refl named.bad stands_cancelled (omega arith) (omega arith) cancelled_at
      (whole (decoded interface).bad) refl

  abbrev nine_answers : List (Answered ServerEntry)
  nine_answers = answer.Done ∷ answer.Done ∷ answer.Done ∷ []

  abbrev nine_state : State
  nine_state = end_state (wide []) nine_end [] None

  nine_runs : SideRuns (server_run interface) limits (map (given_as at_server) nine_met) nine_answers nine_state
  nine_runs = (
    end_state (wide []) nine_1 [] None,
    (λ same. cc, (fed (one_read key_little messages.key_little) (nine_1, asked, refl), refl)),
    (
      end_state (wide []) nine_2 [] None,
      (λ same. cc, (fed (one_read cancel_big messages.cancel_big) (nine_2, stopped, refl), refl)),
      (nine_state, (λ same. cc, (fed (one_read bad messages.bad_wide) (nine_end, used, refl), refl)), refl),
    ),
  )

  abbrev nine_acts : List (Input ServerEvent)
  nine_acts = Reads (message_octets key_little) ∷ Reads (message_octets cancel_big) ∷ Reads (message_octets bad) ∷ []

  nine_taken : SideTakesAs (server_run interface) limits (map (given_as at_server) nine_met) nine_answers nine_acts (wide []) nine_end
  nine_taken = (
    _,
    _,
    wide [],
    nine_1,
    refl,
    refl,
    refl,
    (_, _, fed (one_read key_little messages.key_little) (nine_1, asked, refl), (refl, refl)),
    (
      _,
      _,
      wide [],
      nine_2,
      refl,
      refl,
      refl,
      (_, _, fed (one_read cancel_big messages.cancel_big) (nine_2, stopped, refl), (refl, refl)),
      (
        _,
        _,
        wide [],
        nine_end,
        refl,
        refl,
        refl,
        (_, _, fed (one_read bad messages.bad_wide) (nine_end, used, refl), (refl, refl)),
        (refl, refl, refl),
      ),
    ),
  )

  abbrev nine_events : List (Event ServerEvent)
  nine_events = Came key_little ∷ Came cancel_big ∷ Came bad ∷ []

  nine_own : (id : ℕ) → own_events id nine_events
      ≡ if_is (id == 9) (Came key_little) (if_is (id == 9) (Came cancel_big) (if_is (id == 9) (Came bad) []))
  unfolding request_id_layout chosen number number_at field_at
  nine_own id = refl

  module _ (old : IsTable (locate_request V10)) (table : IsTable (locate_request V12))
      (cut : CarriesItem (server_telling interface) None (Got (heard.Locate door)) (map Came (door_begins ∷ door_ends ∷ []))) where
    abbrev CarriesAll : List ServerItem → List (Event ServerEvent) → Type 0
    CarriesAll items events = Carries (server_telling interface) None items events

    nine_carries : (q : ℕ) → CarriesAll (only 9 said_of_nine q) (own_events q nine_events)
    nine_carries q = subst (CarriesAll (only 9 said_of_nine q)) (sym (nine_own q)) (by_own (q == 9))
      where
        by_own : (own : Bool) → CarriesAll (if own then said_of_nine else [])
            (if_is own (Came key_little) (if_is own (Came cancel_big) (if_is own (Came bad) [])))
        by_own true = one_nine interface old table cut (answering here_big) refl
        by_own false = refl

    pub nine_shown : ServerIsShown interface 9 nine_met said_of_nine
    nine_shown = (
      nine_answers,
      nine_state,
      nine_runs,
      tt,
      record {
        acts = nine_acts;
        taken = nine_taken;
        holds = (
          nine_events,
          wide [],
          (
            key_little ∷ [],
            wide [],
            Came cancel_big ∷ Came bad ∷ [],
            (one_read key_little messages.key_little).takes,
            (one_read key_little messages.key_little).waits,
            refl,
            (
              cancel_big ∷ [],
              wide [],
              Came bad ∷ [],
              (one_read cancel_big messages.cancel_big).takes,
              (one_read cancel_big messages.cancel_big).waits,
              refl,
              (bad ∷ [], wide [], [], (one_read bad messages.bad_wide).takes, (one_read bad messages.bad_wide).waits, refl, (refl, refl)),
            ),
          ),
          nine_carries,
        );
      },
    )
