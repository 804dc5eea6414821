-- A server's end that is given 7 alone refuses none of it, and this says what a run says of 7.
use Rattle.std.proofs.Common.{◌≡◌, ℕ, ◌==◌, drop, Bool, true, false, if◌then◌else◌, List, [], ◌∷◌, map, Some, None, Ok, refl, sym, ap, subst, arith, inr}
use Rattle.giop_types.specs.declared.interfaces.interface.Interface.{Interface}
use Rattle.giop_cdr.specs.Layout.{number, chosen}
use Rattle.giop_cdr.specs.Reading.Values.{field_at, number_at}
use Rattle.giop_cdr.specs.declared.order.Order.TheVariants.{Big}
use Rattle.giop_ids.specs.Runs.{Does as DoesAct}
use Rattle.giop_msg.specs.Laws.{IsTable}
use Rattle.giop_msg.specs.Locate.{locate_request}
use Rattle.giop_msg.specs.Msg.{message_octets}
use Rattle.giop_msg.specs.RequestId.{request_id_layout}
use Rattle.giop_msg.specs.declared.version.Version.TheVariants.{V10, V12}
use Rattle.giop_mux.specs.Runs.{IsTaken as TakesOut}
use Rattle.giop_calls.specs.declared.server.entry.ServerEntry.{ServerEntry}
use Rattle.giop_calls.specs.declared.server.event.ServerEvent.{ServerEvent}
use Rattle.giop_calls.specs.declared.server.rule.ServerRule.{ServerRule}
use Rattle.giop_calls.specs.declared.server.entry.ServerEntry.TheVariants.{LocateAnswered, LocateAsked}
use Rattle.giop_calls.specs.ServerTable.{is_closed, is_gathering, server_step}
use Rattle.giop_session.specs.declared.laws.inputs.Answered.{Answered}
use Rattle.giop_session.specs.declared.laws.inputs.ServerInput.{ServerInput}
use Rattle.giop_session.specs.Acts.Sent.{sends_one}
use Rattle.giop_session.specs.Acts.ServerAnswers.{IsLocateAnswer, locate_of}
use Rattle.giop_session.specs.Calls.CallTable.{Call, Gives, Held, Hears, IsTaken, More, Nothing, at, put_call, rules_of, turn, entry_at}
use Rattle.giop_session.specs.Calls.Sending.{entry_of}
use Rattle.giop_session.specs.Hearing.Heard.{silently}
use Rattle.giop_session.specs.Hearing.ServerHears.{server_act, server_breaks}
use Rattle.giop_session.specs.Items.Carries.{Carries, CarriesItem, Did, Got}
use Rattle.giop_session.specs.Items.ServerCarries.{ServerItem, server_telling}
use Rattle.giop_session.specs.Ends.Begun.{EndState, end_state}
use Rattle.giop_session.specs.Runs.Events.{Event, own_events, Comes as Came, Does as DoesTo}
use Rattle.giop_session.specs.Runs.Fits.{only}
use Rattle.giop_session.specs.Runs.ServerRuns.{at_server, server_run}
use Rattle.giop_session.specs.Runs.SideRuns.{SideRuns, SideTakesAs}
use Rattle.giop_session.specs.Runs.Inputs.{Input, Reads, Does as DoesIt}
use Rattle.giop_session.specs.Runs.Met.{Comes, Does, Met, given_as}
use Rattle.laws_in_use.specs.Locating.{answering, door, door_begins, door_ends, here_big, limits}
use Rattle.laws_in_use.specs.Runs.{door_taken, said_and_taken}
use Rattle.laws_in_use.proofs.ByIds.{if_is}
use Rattle.laws_in_use.proofs.LocatingHolds.{one_seven_then}
use Rattle.laws_in_use.proofs.LocatingMessages.{decoded, messages, named}
use Rattle.laws_in_use.proofs.LocatingReads.{wide}
use Rattle.laws_in_use.proofs.LocatingRuns.{End, Hears_it, begun, door_answered, door_asked, fed, gathering, new, none, none_at, one_1, sent_here}
use Rattle.laws_in_use.proofs.Running.{accepts}
use Rattle.laws_in_use.proofs.ServerRunTaken.{here_is}
use Rattle.laws_in_use.proofs.Taking.{Stands, at-put, done, hears, stands_more, stands_none}
use Rattle.giop_calls.specs.declared.server.event.ServerEvent.TheVariants as event
use Rattle.giop_calls.specs.declared.server.heard.HeardCall.TheVariants as heard
use Rattle.giop_session.specs.declared.laws.inputs.Answered.TheVariants as answer
use Rattle.giop_session.specs.declared.laws.inputs.ServerInput.TheVariants as input
use Rattle.laws_in_use.proofs.ShownAlone.{ServerIsShown, one_read}

-- what is given of 7
abbrev pub seven_met : List (Met ServerInput)
seven_met = Comes door_begins ∷ Comes door_ends ∷ Does (input.AnswerLocate 7 true Big) ∷ Does (input.Take 7) ∷ []

module _ (interface : Interface) where
  abbrev State : Type 0
  State = EndState (Held ServerRule ServerEntry)

  abbrev seven_2 : End
  seven_2 = put_call (one_1 interface) 7 door_asked

  abbrev seven_3 : End
  seven_3 = put_call seven_2 7 door_answered

  abbrev seven_end : End
  seven_end = put_call seven_3 7 none

  stands_1 : Stands (one_1 interface) limits (7 ∷ 9 ∷ []) 12
  stands_1 = stands_more (new limits) limits (7 ∷ 9 ∷ []) 0 12 7 none gathering (stands_none (record {}) limits (7 ∷ 9 ∷ [])) refl (none_at limits 7) refl

  at_1 : at (one_1 interface) 7 ≡ gathering
  at_1 = at-put (new limits) 7 gathering 7

  stands_2 : Stands seven_2 limits (7 ∷ 9 ∷ []) 0
  stands_2 = stands_more (one_1 interface) limits (7 ∷ 9 ∷ []) 12 0 7 gathering door_asked stands_1 refl at_1 refl

  at_2 : at seven_2 7 ≡ door_asked
  at_2 = at-put (one_1 interface) 7 door_asked 7

  at_3 : at seven_3 7 ≡ door_answered
  at_3 = at-put seven_2 7 door_answered 7

  ended : Hears_it interface door_ends (one_1 interface) seven_2
  ended = hears server_step is_closed is_gathering server_breaks (server_act interface) (one_1 interface) limits (7 ∷ 9 ∷ []) 12 door_ends 7
      (silently (event.Last true (heard.Locate door)))
      (More (drop 4 door_ends.payload)) gathering door_asked refl named.door_ends stands_1 (omega arith) (omega arith) at_1
      (ap (λ call. Hears (silently (event.Last true call)) (More (drop 4 door_ends.payload))) (decoded interface).door_joined) refl

  answered : DoesAct (rules_of server_step is_closed is_gathering) seven_2
      (record { id = 7; what = Hears (sends_one (event.AnswerLocate true) here_big) Nothing }) (Ok (sent_here interface)) seven_3
  answered = done server_step is_closed is_gathering seven_2 limits (7 ∷ 9 ∷ []) 0 7 (sends_one (event.AnswerLocate true) here_big)
      Nothing door_asked door_answered (record { answer = tt; message = Some here_big }) stands_2 (omega arith) (omega arith) at_2 refl

  taken_out : DoesAct (rules_of server_step is_closed is_gathering) seven_3 (record { id = 7; what = IsTaken }) (Ok (Gives door_answered.slot)) seven_end
  taken_out =
      accepts (rules_of server_step is_closed is_gathering) seven_3 (record { id = 7; what = IsTaken })
      (record { now = none; answer = Gives door_answered.slot })
      (ap (λ (call : Call ServerEntry). turn server_step is_closed is_gathering call IsTaken) at_3) refl

  -- what answers is planned for the LocateRequest that waits
  plans : IsLocateAnswer 7 true Big (locate_of true (entry_at seven_2 7)) (sends_one (event.AnswerLocate true) here_big)
  plans =
      let waits : entry_at seven_2 7 ≡ Some (LocateAsked door) = ap (λ (call : Call ServerEntry). entry_of call.slot) at_2 in
      subst (λ version. IsLocateAnswer 7 true Big version (sends_one (event.AnswerLocate true) here_big)) (sym (ap (locate_of true) waits))
      (omega arith, ap (sends_one (event.AnswerLocate true)) (sym here_is))

  entry_at_end : entry_at seven_3 7 ≡ Some (LocateAnswered (Some door.target) true)
  entry_at_end = ap (λ (call : Call ServerEntry). entry_of call.slot) at_3

  abbrev seven_answers : List (Answered ServerEntry)
  seven_answers = answer.Done ∷ answer.Done ∷ answer.Done ∷ door_taken ∷ []

  abbrev seven_state : State
  seven_state = end_state (wide []) seven_end (message_octets here_big) None

  seven_runs : SideRuns (server_run interface) limits (map (given_as at_server) seven_met) seven_answers seven_state
  seven_runs = (
    end_state (wide []) (one_1 interface) [] None,
    (λ same. cc, (fed (one_read door_begins messages.door_begins) (one_1 interface, begun interface, refl), refl)),
    (
      end_state (wide []) seven_2 [] None,
      (λ same. cc, (fed (one_read door_ends messages.door_ends) (seven_2, ended, refl), refl)),
      (
        end_state (wide []) seven_3 (message_octets here_big) None,
        (
          λ same. cc,
          (
            inr (
              sends_one (event.AnswerLocate true) here_big,
              plans,
              record { answered = Ok (record { answer = tt; message = Some here_big }); does = answered; returned = refl; puts = refl },
            ),
            refl,
          ),
        ),
        (
          seven_state,
          (
            λ same. cc,
            (
              sym entry_at_end,
              subst (λ (call : Call ServerEntry). DoesAct (rules_of server_step is_closed is_gathering) seven_3 (record { id = 7; what = IsTaken })
                  (Ok (Gives call.slot)) seven_end) (sym at_3) taken_out,
              refl,
            ),
          ),
          refl,
        ),
      ),
    ),
  )

  abbrev seven_acts : List (Input ServerEvent)
  seven_acts =
      Reads (message_octets door_begins) ∷ Reads (message_octets door_ends) ∷ DoesIt 7 (answering here_big) ∷ DoesIt 7 TakesOut ∷ []

  seven_taken : SideTakesAs (server_run interface) limits (map (given_as at_server) seven_met) seven_answers seven_acts (wide []) seven_end
  seven_taken = (
    _,
    _,
    wide [],
    one_1 interface,
    refl,
    refl,
    refl,
    (_, _, fed (one_read door_begins messages.door_begins) (one_1 interface, begun interface, refl), (refl, refl)),
    (
      _,
      _,
      wide [],
      seven_2,
      refl,
      refl,
      refl,
      (_, _, fed (one_read door_ends messages.door_ends) (seven_2, ended, refl), (refl, refl)),
      (
        _,
        _,
        wide [],
        seven_3,
        refl,
        (sends_one (event.AnswerLocate true) here_big, plans, refl),
        refl,
        (_, (sent_here interface, answered), (refl, refl)),
        (
          _,
          _,
          wide [],
          seven_end,
          refl,
          refl,
          ap answer.Taken (sym entry_at_end),
          (_, (Gives door_answered.slot, taken_out), (refl, refl)),
          (refl, refl, refl),
        ),
      ),
    ),
  )

  abbrev seven_events : List (Event ServerEvent)
  seven_events = Came door_begins ∷ Came door_ends ∷ DoesTo 7 (answering here_big) ∷ DoesTo 7 TakesOut ∷ []

  seven_own : (id : ℕ) → own_events id seven_events
      ≡ if_is (id == 7) (Came door_begins) (if_is (id == 7) (Came door_ends) (if_is (id == 7) (DoesTo 7 (answering here_big))
      (if_is (id == 7) (DoesTo 7 TakesOut) [])))
  unfolding request_id_layout chosen number number_at field_at
  seven_own id = refl

  module _ (old : IsTable (locate_request V10)) (table : IsTable (locate_request V12))
      (cut : CarriesItem (server_telling interface) None (Got (heard.Locate door)) (map Came (door_begins ∷ door_ends ∷ []))) where
    abbrev CarriesAll : List ServerItem → List (Event ServerEvent) → Type 0
    CarriesAll items events = Carries (server_telling interface) None items events

    seven_carries : (q : ℕ) → CarriesAll (only 7 said_and_taken q) (own_events q seven_events)
    seven_carries q = subst (CarriesAll (only 7 said_and_taken q)) (sym (seven_own q)) (by_own (q == 7))
      where
        by_own : (own : Bool) → CarriesAll (if own then said_and_taken else [])
            (if_is own (Came door_begins) (if_is own (Came door_ends) (if_is own (DoesTo 7 (answering here_big)) (if_is own (DoesTo 7 TakesOut) []))))
        by_own true =
            one_seven_then interface old table cut (answering here_big) refl (Did TakesOut ∷ []) (DoesTo 7 TakesOut ∷ [])
            (DoesTo 7 TakesOut ∷ [], [], refl, (7, TakesOut, refl, refl), refl)
        by_own false = refl

    pub seven_shown : ServerIsShown interface 7 seven_met said_and_taken
    seven_shown = (
      seven_answers,
      seven_state,
      seven_runs,
      tt,
      record {
        acts = seven_acts;
        taken = seven_taken;
        holds = (
          seven_events,
          wide [],
          (
            door_begins ∷ [],
            wide [],
            Came door_ends ∷ DoesTo 7 (answering here_big) ∷ DoesTo 7 TakesOut ∷ [],
            (one_read door_begins messages.door_begins).takes,
            (one_read door_begins messages.door_begins).waits,
            refl,
            (
              door_ends ∷ [],
              wide [],
              DoesTo 7 (answering here_big) ∷ DoesTo 7 TakesOut ∷ [],
              (one_read door_ends messages.door_ends).takes,
              (one_read door_ends messages.door_ends).waits,
              refl,
              (DoesTo 7 TakesOut ∷ [], refl, ([], refl, (refl, refl))),
            ),
          ),
          seven_carries,
        );
      },
    )
