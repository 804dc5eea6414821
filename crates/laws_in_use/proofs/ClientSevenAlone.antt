-- A client's end that is given 7 alone refuses none of it, and this says what a run says of 7.
use Rattle.std.proofs.Common.{◌≡◌, ℕ, ◌==◌, ◌++◌, drop, Bool, true, false, if◌then◌else◌, List, [], ◌∷◌, map, Some, None, Ok, refl, sym, ap, subst, ◌∙◌, arith}
use Rattle.giop_types.specs.declared.interfaces.interface.Interface.{Interface}
use Rattle.giop_cdr.specs.Layout.{number, signed, octets, such, field, gives, chosen}
use Rattle.giop_cdr.specs.Reading.Values.{field_at, number_at}
use Rattle.giop_cdr.specs.Writing.Output.{number_out, octets_out, signed_out}
use Rattle.giop_cdr.specs.declared.order.Order.TheVariants.{Big}
use Rattle.giop_msg.specs.Locate.{locate_request, located}
use Rattle.giop_msg.specs.Meaning.{meaning}
use Rattle.giop_msg.specs.Messages.Laws.{IsWhole}
use Rattle.giop_msg.specs.Messages.LocateReply.{locate_reply}
use Rattle.giop_msg.specs.Msg.{message_octets}
use Rattle.giop_msg.specs.RequestId.{request_id_layout}
use Rattle.giop_msg.specs.Target.{disposition, key_target, object_key, target_by, target_layout}
use Rattle.giop_msg.specs.declared.msg.Msg.{Msg}
use Rattle.giop_msg.specs.declared.version.Version.TheVariants.{V10, V12}
use Rattle.giop_calls.specs.declared.client.entry.ClientEntry.{ClientEntry}
use Rattle.giop_calls.specs.declared.client.event.ClientEvent.{ClientEvent}
use Rattle.giop_calls.specs.declared.client.rule.ClientRule.{ClientRule}
use Rattle.giop_calls.specs.ClientTable.{client_step, is_closed, is_gathering}
use Rattle.giop_session.specs.declared.Form.{Form}
use Rattle.giop_session.specs.declared.laws.inputs.Answered.{Answered}
use Rattle.giop_session.specs.declared.laws.inputs.ClientInput.{ClientInput}
use Rattle.giop_session.specs.declared.Plan.TheVariants.{Next, Put}
use Rattle.giop_session.specs.Acts.ClientCalls.{locate_fault}
use Rattle.giop_session.specs.Calls.CallTable.{Call, First, Held, Hears, More, Nothing, at, put_call, entry_at}
use Rattle.giop_session.specs.Calls.Sending.{entry_of}
use Rattle.giop_session.specs.Hearing.ClientHears.{client_act, client_breaks, client_side}
use Rattle.giop_session.specs.Hearing.Heard.{silently, hears as hears_at}
use Rattle.giop_session.specs.Items.Carries.{Carries}
use Rattle.giop_session.specs.Items.ClientCarries.{ClientItem, client_telling, unknown}
use Rattle.giop_session.specs.Runs.ClientRuns.{at_client, client_run}
use Rattle.giop_session.specs.Runs.Fits.{only}
use Rattle.giop_session.specs.Runs.SideRuns.{SideRuns, SideTakesAs}
use Rattle.giop_session.specs.Ends.Begun.{EndState, end_state}
use Rattle.giop_session.specs.Runs.Events.{Event, own_events, Comes as Came, Does as DoesTo}
use Rattle.giop_session.specs.Runs.Inputs.{Input, Reads, Does as DoesIt}
use Rattle.giop_session.specs.Runs.Met.{Comes, Does, Met, given_as}
use Rattle.laws_in_use.specs.Asking.{asking, here, here_begins, here_ends, own_acts, sending, told_of_seven}
use Rattle.laws_in_use.specs.Locating.{door, door_begins, door_ends, limits}
use Rattle.laws_in_use.specs.Runs.{Forms}
use Rattle.laws_in_use.proofs.AskingHolds.{one_seven, own_told}
use Rattle.laws_in_use.proofs.AskingMessages.{decoded, messages, named}
use Rattle.laws_in_use.proofs.AskingRuns.{End, gathering, located as door_located, new, none, none_at, one_1, one_asks, sending as door_sending, waiting}
use Rattle.laws_in_use.proofs.ByIds.{if_is}
use Rattle.laws_in_use.proofs.ClientRunActs.{door_is_sent}
use Rattle.laws_in_use.proofs.LocatingReads.{wide}
use Rattle.laws_in_use.proofs.LocatingRuns.{fed}
use Rattle.laws_in_use.proofs.Taking.{Stands, at-put, done, hears, stands_more, stands_none}
use Rattle.giop_calls.specs.declared.client.call.Call.TheVariants as asked
use Rattle.giop_calls.specs.declared.client.event.ClientEvent.TheVariants as event
use Rattle.giop_calls.specs.declared.client.heard.HeardReply.TheVariants as heard
use Rattle.giop_calls.specs.declared.kind.CallKind.TheVariants as kind
use Rattle.giop_session.specs.declared.laws.inputs.Answered.TheVariants as answer
use Rattle.giop_session.specs.declared.laws.inputs.ClientInput.TheVariants as input
use Rattle.laws_in_use.proofs.PutsAlone.{Does_it, puts_so}
use Rattle.laws_in_use.proofs.ShownAlone.{ClientIsShown, one_read}

-- the id is not in use at first, and the LocateRequest is sendable
door_free : locate_fault limits None door (record { order = Big; piece = 24 }) ≡ None
unfolding locate_request located object_key meaning target_layout target_by disposition key_target
    number signed octets such field gives chosen number_out octets_out signed_out
door_free = refl

module _ (interface : Interface) (forms : Forms) where
  -- what is given of 7
  abbrev pub seven_met : List (Met ClientInput)
  seven_met = Does (input.Locate door forms.cut) ∷ Does (input.Send 7) ∷ Comes here_begins ∷ Comes here_ends ∷ []

  abbrev State : Type 0
  State = EndState (Held ClientRule ClientEntry)

  abbrev seven_2 : End
  seven_2 = put_call (one_1 interface) 7 waiting

  abbrev seven_3 : End
  seven_3 = put_call seven_2 7 gathering

  abbrev seven_end : End
  seven_end = put_call seven_3 7 door_located

  stands_0 : Stands (new limits) limits (7 ∷ 9 ∷ []) 0
  stands_0 = stands_none (record {}) limits (7 ∷ 9 ∷ [])

  stands_1 : Stands (one_1 interface) limits (7 ∷ 9 ∷ []) 0
  stands_1 = stands_more (new limits) limits (7 ∷ 9 ∷ []) 0 0 7 none door_sending stands_0 refl (none_at limits 7) refl

  at_1 : at (one_1 interface) 7 ≡ door_sending
  at_1 = at-put (new limits) 7 door_sending 7

  stands_2 : Stands seven_2 limits (7 ∷ 9 ∷ []) 0
  stands_2 = stands_more (one_1 interface) limits (7 ∷ 9 ∷ []) 0 0 7 door_sending waiting stands_1 refl at_1 refl

  at_2 : at seven_2 7 ≡ waiting
  at_2 = at-put (one_1 interface) 7 waiting 7

  stands_3 : Stands seven_3 limits (7 ∷ 9 ∷ []) 4
  stands_3 = stands_more seven_2 limits (7 ∷ 9 ∷ []) 0 4 7 waiting gathering stands_2 refl at_2 refl

  at_3 : at seven_3 7 ≡ gathering
  at_3 = at-put seven_2 7 gathering 7

  abbrev Hears_it : Msg → End → End → Type 0
  Hears_it m h k = hears_at (client_side interface) m h (Ok tt) k

  sends : Does_it 7 (record { event = event.Send; plan = Next }) door_ends (one_1 interface) seven_2
  sends =
      done client_step is_closed is_gathering (one_1 interface) limits (7 ∷ 9 ∷ []) 0 7 (record { event = event.Send; plan = Next }) Nothing door_sending
      waiting (record { answer = tt; message = Some door_ends }) stands_1 (omega arith) (omega arith) at_1 refl

  begins : Hears_it here_begins seven_2 seven_3
  begins =
      hears client_step is_closed is_gathering client_breaks (client_act interface) seven_2 limits (7 ∷ 9 ∷ []) 0 here_begins 7
      (silently (event.First kind.Locate V12)) (First Big here_begins.payload) waiting gathering refl named.here_begins stands_2 (omega arith)
      (omega arith) at_2 refl refl

  ends : Hears_it here_ends seven_3 seven_end
  ends =
      hears client_step is_closed is_gathering client_breaks (client_act interface) seven_3 limits (7 ∷ 9 ∷ []) 4 here_ends 7
      (silently (event.Last true (heard.Locate here))) (More (drop 4 here_ends.payload)) gathering door_located refl named.here_ends stands_3 (omega arith)
      (omega arith) at_3 (ap (λ told. Hears (silently (event.Last true told)) (More (drop 4 here_ends.payload))) (decoded interface).here_joined)
      refl

  entry_0 : (id : ℕ) → entry_at (new limits) id ≡ None
  entry_0 id = ap (λ (call : Call ClientEntry). entry_of call.slot) (none_at limits id)

  door_unrefused : locate_fault limits (entry_at (new limits) 7) door forms.cut.form ≡ None
  door_unrefused =
      ap (λ entry. locate_fault limits entry door forms.cut.form) (entry_0 7) ∙ ap (λ (form : Form). locate_fault limits None door form) forms.cut_is
      ∙ door_free

  abbrev seven_answers : List (Answered ClientEntry)
  seven_answers = answer.Done ∷ answer.Done ∷ answer.Done ∷ answer.Done ∷ []

  abbrev seven_out : List ℕ
  seven_out = message_octets door_begins ++ message_octets door_ends

  abbrev seven_state : State
  seven_state = end_state (wide []) seven_end seven_out None

  seven_runs : SideRuns (client_run interface) limits (map (given_as at_client) seven_met) seven_answers seven_state
  seven_runs = (
    end_state (wide []) (one_1 interface) (message_octets door_begins) None,
    (
      λ same. cc,
      (
        puts_so 7 (locate_fault limits (entry_at (new limits) 7) door forms.cut.form) _ (new limits) (one_1 interface) []
            (record { event = event.Call (asked.Locate door) 2; plan = Put (door_begins ∷ door_ends ∷ []) }) door_begins door_unrefused
            (door_is_sent forms.cut.form forms.cut_is) (one_asks interface),
        refl,
      ),
    ),
    (
      end_state (wide []) seven_2 seven_out None,
      (
        λ same. cc,
        (
          puts_so 7 None _ (one_1 interface) seven_2 (message_octets door_begins) (record { event = event.Send; plan = Next }) door_ends refl refl sends,
          refl,
        ),
      ),
      (
        end_state (wide []) seven_3 seven_out None,
        (λ same. cc, (fed (one_read here_begins messages.here_begins) (seven_3, begins, refl), refl)),
        (seven_state, (λ same. cc, (fed (one_read here_ends messages.here_ends) (seven_end, ends, refl), refl)), refl),
      ),
    ),
  )

  abbrev seven_acts : List (Input ClientEvent)
  seven_acts = DoesIt 7 asking ∷ DoesIt 7 sending ∷ Reads (message_octets here_begins) ∷ Reads (message_octets here_ends) ∷ []

  seven_taken : SideTakesAs (client_run interface) limits (map (given_as at_client) seven_met) seven_answers seven_acts (wide []) seven_end
  seven_taken = (
    _,
    _,
    wide [],
    one_1 interface,
    refl,
    (_, door_is_sent forms.cut.form forms.cut_is, refl),
    refl,
    (_, (_, one_asks interface), (refl, refl)),
    (
      _,
      _,
      wide [],
      seven_2,
      refl,
      (_, refl, refl),
      refl,
      (_, (_, sends), (refl, refl)),
      (
        _,
        _,
        wide [],
        seven_3,
        refl,
        refl,
        refl,
        (_, _, fed (one_read here_begins messages.here_begins) (seven_3, begins, refl), (refl, refl)),
        (
          _,
          _,
          wide [],
          seven_end,
          refl,
          refl,
          refl,
          (_, _, fed (one_read here_ends messages.here_ends) (seven_end, ends, refl), (refl, refl)),
          (refl, refl, refl),
        ),
      ),
    ),
  )

  abbrev seven_events : List (Event ClientEvent)
  seven_events = DoesTo 7 asking ∷ DoesTo 7 sending ∷ Came here_begins ∷ Came here_ends ∷ []

  abbrev seven_by : Bool → List (Event ClientEvent)
  seven_by own = if_is own (DoesTo 7 asking) (if_is own (DoesTo 7 sending) (if_is own (Came here_begins) (if_is own (Came here_ends) [])))

  seven_own : (id : ℕ) → own_events id seven_events ≡ seven_by (id == 7)
  unfolding request_id_layout chosen number number_at field_at
  seven_own id = refl

  module _ (old : IsWhole (locate_reply V10)) (table : IsWhole (locate_reply V12)) where
    abbrev CarriesAll : List ClientItem → List (Event ClientEvent) → Type 0
    CarriesAll items events = Carries (client_telling interface) unknown items events

    seven_carries : (q : ℕ) → CarriesAll (only 7 told_of_seven q) (own_events q seven_events)
    seven_carries q = subst (CarriesAll (only 7 told_of_seven q)) (sym (seven_own q)) (by_own (q == 7))
      where
        by_own : (own : Bool) → CarriesAll (if own then told_of_seven else []) (seven_by own)
        by_own true = one_seven interface old table own_acts own_told
        by_own false = refl

    pub seven_shown : ClientIsShown interface 7 seven_met told_of_seven
    seven_shown = (
      seven_answers,
      seven_state,
      seven_runs,
      tt,
      record {
        acts = seven_acts;
        taken = seven_taken;
        holds = (
          seven_events,
          wide [],
          (
            _,
            refl,
            (
              _,
              refl,
              (
                here_begins ∷ [],
                wide [],
                Came here_ends ∷ [],
                (one_read here_begins messages.here_begins).takes,
                (one_read here_begins messages.here_begins).waits,
                refl,
                (
                  here_ends ∷ [],
                  wide [],
                  [],
                  (one_read here_ends messages.here_ends).takes,
                  (one_read here_ends messages.here_ends).waits,
                  refl,
                  (refl, refl),
                ),
              ),
            ),
          ),
          seven_carries,
        );
      },
    )
