-- A client's end that is given 9 alone refuses none of it, and this says what a run says of 9.
use Rattle.std.proofs.Common.{◌≡◌, ℕ, ◌==◌, ◌++◌, Bool, true, false, if◌then◌else◌, List, [], ◌∷◌, map, Some, None, Ok, refl, sym, ap, subst, ◌∙◌, arith}
use Rattle.giop_types.specs.declared.interfaces.interface.Interface.{Interface}
use Rattle.giop_cdr.specs.Layout.{number, signed, octets, such, field, gives, chosen}
use Rattle.giop_cdr.specs.Reading.Values.{field_at, number_at}
use Rattle.giop_cdr.specs.Writing.Output.{number_out, octets_out, signed_out}
use Rattle.giop_cdr.specs.declared.fault.CdrKind.TheVariants.{Short}
use Rattle.giop_cdr.specs.declared.order.Order.TheVariants.{Big, Little}
use Rattle.giop_ids.specs.Runs.{Does as DoesAct}
use Rattle.giop_msg.specs.Locate.{locate_request, located}
use Rattle.giop_msg.specs.Meaning.{meaning}
use Rattle.giop_msg.specs.Messages.Laws.{IsWhole}
use Rattle.giop_msg.specs.Messages.LocateReply.{locate_reply}
use Rattle.giop_msg.specs.Msg.{message_octets}
use Rattle.giop_msg.specs.RequestId.{request_id_layout}
use Rattle.giop_msg.specs.Target.{disposition, key_target, object_key, target_by, target_layout}
use Rattle.giop_msg.specs.declared.msg.Msg.{Msg}
use Rattle.giop_msg.specs.declared.version.Version.TheVariants.{V10, V12}
use Rattle.giop_mux.specs.Runs.{IsTaken as TakesOut}
use Rattle.giop_calls.specs.declared.client.entry.ClientEntry.{ClientEntry}
use Rattle.giop_calls.specs.declared.client.entry.ClientEntry.TheVariants.{Cancelled, Undecoded, Waiting}
use Rattle.giop_calls.specs.declared.client.event.ClientEvent.{ClientEvent}
use Rattle.giop_calls.specs.declared.client.rule.ClientRule.{ClientRule}
use Rattle.giop_calls.specs.ClientTable.{client_step, is_closed, is_gathering}
use Rattle.giop_session.specs.declared.Form.{Form}
use Rattle.giop_session.specs.declared.laws.inputs.Answered.{Answered}
use Rattle.giop_session.specs.declared.laws.inputs.ClientInput.{ClientInput}
use Rattle.giop_session.specs.declared.Plan.TheVariants.{Put}
use Rattle.giop_session.specs.Acts.ClientCalls.{IsCancel, cancel_fault, locate_fault, open_version}
use Rattle.giop_session.specs.Acts.Sent.{sends_one}
use Rattle.giop_session.specs.Calls.CallTable.{Call, Gives, Held, IsTaken, Nothing, at, put_call, rules_of, turn, entry_at}
use Rattle.giop_session.specs.Calls.Sending.{entry_of}
use Rattle.giop_session.specs.Hearing.ClientHears.{client_act, client_breaks, client_side}
use Rattle.giop_session.specs.Hearing.Heard.{silently, hears as hears_at}
use Rattle.giop_session.specs.Items.Carries.{Carries, Did}
use Rattle.giop_session.specs.Items.ClientCarries.{ClientItem, client_telling, unknown}
use Rattle.giop_session.specs.Runs.ClientRuns.{at_client, client_run}
use Rattle.giop_session.specs.Runs.Fits.{only}
use Rattle.giop_session.specs.Runs.SideRuns.{SideRuns, SideTakesAs}
use Rattle.giop_session.specs.Ends.Begun.{EndState, end_state}
use Rattle.giop_session.specs.Runs.Events.{Event, own_events, Comes as Came, Does as DoesTo}
use Rattle.giop_session.specs.Runs.Inputs.{Input, Reads, Does as DoesIt}
use Rattle.giop_session.specs.Runs.Met.{Comes, Does, Met, given_as}
use Rattle.laws_in_use.specs.Asking.{asking_key, cancelling, own_acts, short, unknown_little}
use Rattle.laws_in_use.specs.Locating.{cancel_little, key, key_big, key_little, limits}
use Rattle.laws_in_use.specs.Runs.{Forms, key_taken, told_and_taken}
use Rattle.laws_in_use.proofs.AskingHolds.{one_nine_then, own_told}
use Rattle.laws_in_use.proofs.AskingMessages.{decoded, messages, named}
use Rattle.laws_in_use.proofs.AskingRuns.{End, cancelled, key_waiting, new, none, none_at, seen, undecoded, whole_old}
use Rattle.laws_in_use.proofs.ByIds.{if_is}
use Rattle.laws_in_use.proofs.ClientRunActs.{key_is_sent, key_is_sent_again}
use Rattle.laws_in_use.proofs.ClientRunTaken.{cancel_is}
use Rattle.laws_in_use.proofs.LocatingReads.{wide}
use Rattle.laws_in_use.proofs.LocatingRuns.{fed}
use Rattle.laws_in_use.proofs.Running.{accepts}
use Rattle.laws_in_use.proofs.Taking.{Stands, at-put, done, hears, stands_more, stands_none}
use Rattle.giop_calls.specs.declared.client.call.Call.TheVariants as asked
use Rattle.giop_calls.specs.declared.client.event.ClientEvent.TheVariants as event
use Rattle.giop_calls.specs.declared.client.heard.HeardReply.TheVariants as heard
use Rattle.giop_calls.specs.declared.client.late.Late.TheVariants as late
use Rattle.giop_calls.specs.declared.kind.CallKind.TheVariants as kind
use Rattle.giop_session.specs.declared.laws.inputs.Answered.TheVariants as answer
use Rattle.giop_session.specs.declared.laws.inputs.ClientInput.TheVariants as input
use Rattle.laws_in_use.proofs.PutsAlone.{Does_it, puts_so}
use Rattle.laws_in_use.proofs.ShownAlone.{ClientIsShown, one_read}

-- the id is not in use at first, and the LocateRequest is sendable
key_free : locate_fault limits None key (record { order = Little; piece = 64 }) ≡ None
unfolding locate_request located object_key meaning target_layout target_by disposition key_target
    number signed octets such field gives chosen number_out octets_out signed_out
key_free = refl

-- nor where what was asked is cancelled
key_free_again : locate_fault limits (Some (Cancelled late.Seen)) key (record { order = Big; piece = 64 }) ≡ None
unfolding locate_request located object_key meaning target_layout target_by disposition key_target
    number signed octets such field gives chosen number_out octets_out signed_out
key_free_again = refl

module _ (interface : Interface) (forms : Forms) where
  -- what is given of 9
  abbrev pub nine_met : List (Met ClientInput)
  nine_met =
      Does (input.Locate key forms.little) ∷ Does (input.Cancel 9 Little) ∷ Comes unknown_little ∷ Does (input.Locate key forms.big) ∷ Comes short
      ∷ Does (input.Take 9) ∷ []

  abbrev State : Type 0
  State = EndState (Held ClientRule ClientEntry)

  abbrev Hears_it : Msg → End → End → Type 0
  Hears_it m h k = hears_at (client_side interface) m h (Ok tt) k

  stands_0 : Stands (new limits) limits (7 ∷ 9 ∷ []) 0
  stands_0 = stands_none (record {}) limits (7 ∷ 9 ∷ [])

  entry_0 : (id : ℕ) → entry_at (new limits) id ≡ None
  entry_0 id = ap (λ (call : Call ClientEntry). entry_of call.slot) (none_at limits id)

  abbrev nine_1 : End
  nine_1 = put_call (new limits) 9 key_waiting

  abbrev nine_2 : End
  nine_2 = put_call nine_1 9 cancelled

  abbrev nine_3 : End
  nine_3 = put_call nine_2 9 seen

  abbrev nine_4 : End
  nine_4 = put_call nine_3 9 key_waiting

  abbrev nine_5 : End
  nine_5 = put_call nine_4 9 undecoded

  abbrev nine_end : End
  nine_end = put_call nine_5 9 none

  nine_at_1 : at nine_1 9 ≡ key_waiting
  nine_at_1 = at-put (new limits) 9 key_waiting 9

  nine_stands_1 : Stands nine_1 limits (7 ∷ 9 ∷ []) 0
  nine_stands_1 = stands_more (new limits) limits (7 ∷ 9 ∷ []) 0 0 9 none key_waiting stands_0 refl (none_at limits 9) refl

  nine_at_2 : at nine_2 9 ≡ cancelled
  nine_at_2 = at-put nine_1 9 cancelled 9

  nine_stands_2 : Stands nine_2 limits (7 ∷ 9 ∷ []) 0
  nine_stands_2 = stands_more nine_1 limits (7 ∷ 9 ∷ []) 0 0 9 key_waiting cancelled nine_stands_1 refl nine_at_1 refl

  nine_at_3 : at nine_3 9 ≡ seen
  nine_at_3 = at-put nine_2 9 seen 9

  nine_stands_3 : Stands nine_3 limits (7 ∷ 9 ∷ []) 0
  nine_stands_3 = stands_more nine_2 limits (7 ∷ 9 ∷ []) 0 0 9 cancelled seen nine_stands_2 refl nine_at_2 refl

  nine_at_4 : at nine_4 9 ≡ key_waiting
  nine_at_4 = at-put nine_3 9 key_waiting 9

  nine_stands_4 : Stands nine_4 limits (7 ∷ 9 ∷ []) 0
  nine_stands_4 = stands_more nine_3 limits (7 ∷ 9 ∷ []) 0 0 9 seen key_waiting nine_stands_3 refl nine_at_3 refl

  nine_at_5 : at nine_5 9 ≡ undecoded
  nine_at_5 = at-put nine_4 9 undecoded 9

  asks_key : Does_it 9 (record { event = event.Call (asked.Locate key) 1; plan = Put (key_little ∷ []) }) key_little (new limits) nine_1
  asks_key =
      done client_step is_closed is_gathering (new limits) limits (7 ∷ 9 ∷ []) 0 9
      (record { event = event.Call (asked.Locate key) 1; plan = Put (key_little ∷ []) }) Nothing none key_waiting
      (record { answer = tt; message = Some key_little }) stands_0 (omega arith) (omega arith) (none_at limits 9) refl

  cancels : Does_it 9 (sends_one event.Cancel cancel_little) cancel_little nine_1 nine_2
  cancels =
      done client_step is_closed is_gathering nine_1 limits (7 ∷ 9 ∷ []) 0 9 (sends_one event.Cancel cancel_little) Nothing key_waiting cancelled
      (record { answer = tt; message = Some cancel_little }) nine_stands_1 (omega arith) (omega arith) nine_at_1 refl

  comes_late : Hears_it unknown_little nine_2 nine_3
  comes_late =
      hears client_step is_closed is_gathering client_breaks (client_act interface) nine_2 limits (7 ∷ 9 ∷ []) 0 unknown_little 9
      (silently (event.Whole kind.Locate V10 heard.Unread)) Nothing cancelled seen refl named.unknown_little nine_stands_2 (omega arith) (omega arith)
      nine_at_2 refl refl

  asks_again : Does_it 9 (record { event = event.Call (asked.Locate key) 1; plan = Put (key_big ∷ []) }) key_big nine_3 nine_4
  asks_again =
      done client_step is_closed is_gathering nine_3 limits (7 ∷ 9 ∷ []) 0 9
      (record { event = event.Call (asked.Locate key) 1; plan = Put (key_big ∷ []) }) Nothing seen key_waiting
      (record { answer = tt; message = Some key_big }) nine_stands_3 (omega arith) (omega arith) nine_at_3 refl

  comes_bad : Hears_it short nine_4 nine_5
  comes_bad =
      hears client_step is_closed is_gathering client_breaks (client_act interface) nine_4 limits (7 ∷ 9 ∷ []) 0 short 9
      (silently (event.Whole kind.Locate V10 (heard.Undecoded (record { at = 16; kind = Short })))) Nothing key_waiting undecoded refl named.short
      nine_stands_4 (omega arith) (omega arith) nine_at_4 (whole_old (decoded interface).short) refl

  taken_out : DoesAct (rules_of client_step is_closed is_gathering) nine_5 (record { id = 9; what = IsTaken }) (Ok (Gives undecoded.slot)) nine_end
  taken_out =
      accepts (rules_of client_step is_closed is_gathering) nine_5 (record { id = 9; what = IsTaken })
      (record { now = none; answer = Gives undecoded.slot })
      (ap (λ (call : Call ClientEntry). turn client_step is_closed is_gathering call IsTaken) nine_at_5) refl

  entry_1 : entry_at nine_1 9 ≡ Some (Waiting (asked.Locate key))
  entry_1 = ap (λ (call : Call ClientEntry). entry_of call.slot) nine_at_1

  entry_3 : entry_at nine_3 9 ≡ Some (Cancelled late.Seen)
  entry_3 = ap (λ (call : Call ClientEntry). entry_of call.slot) nine_at_3

  entry_5 : entry_at nine_5 9 ≡ Some (Undecoded (asked.Locate key) (record { at = 16; kind = Short }))
  entry_5 = ap (λ (call : Call ClientEntry). entry_of call.slot) nine_at_5

  key_unrefused : locate_fault limits (entry_at (new limits) 9) key forms.little.form ≡ None
  key_unrefused =
      ap (λ entry. locate_fault limits entry key forms.little.form) (entry_0 9)
      ∙ ap (λ (form : Form). locate_fault limits None key form) forms.little_is ∙ key_free

  cancel_unrefused : cancel_fault (open_version (entry_at nine_1 9)) ≡ None
  cancel_unrefused = ap (λ entry. cancel_fault (open_version entry)) entry_1

  again_unrefused : locate_fault limits (entry_at nine_3 9) key forms.big.form ≡ None
  again_unrefused =
      ap (λ entry. locate_fault limits entry key forms.big.form) entry_3
      ∙ ap (λ (form : Form). locate_fault limits (Some (Cancelled late.Seen)) key form) forms.big_is ∙ key_free_again

  -- what cancels is planned for the LocateRequest that waits
  plans : IsCancel 9 Little (open_version (entry_at nine_1 9)) (sends_one event.Cancel cancel_little)
  plans =
      subst (λ version. IsCancel 9 Little version (sends_one event.Cancel cancel_little)) (sym (ap open_version entry_1))
      (omega arith, ap (sends_one event.Cancel) (sym cancel_is))

  abbrev nine_answers : List (Answered ClientEntry)
  nine_answers = answer.Done ∷ answer.Done ∷ answer.Done ∷ answer.Done ∷ answer.Done ∷ key_taken ∷ []

  abbrev out_1 : List ℕ
  out_1 = message_octets key_little

  abbrev out_2 : List ℕ
  out_2 = out_1 ++ message_octets cancel_little

  abbrev out_3 : List ℕ
  out_3 = out_2 ++ message_octets key_big

  abbrev nine_state : State
  nine_state = end_state (wide []) nine_end out_3 None

  nine_runs : SideRuns (client_run interface) limits (map (given_as at_client) nine_met) nine_answers nine_state
  nine_runs = (
    end_state (wide []) nine_1 out_1 None,
    (
      λ same. cc,
      (
        puts_so 9 (locate_fault limits (entry_at (new limits) 9) key forms.little.form) _ (new limits) nine_1 []
            (record { event = event.Call (asked.Locate key) 1; plan = Put (key_little ∷ []) }) key_little key_unrefused
            (key_is_sent forms.little.form forms.little_is) asks_key,
        refl,
      ),
    ),
    (
      end_state (wide []) nine_2 out_2 None,
      (
        λ same. cc,
        (
          puts_so 9 (cancel_fault (open_version (entry_at nine_1 9))) _ nine_1 nine_2 out_1 (sends_one event.Cancel cancel_little) cancel_little
              cancel_unrefused plans cancels,
          refl,
        ),
      ),
      (
        end_state (wide []) nine_3 out_2 None,
        (λ same. cc, (fed (one_read unknown_little messages.unknown_little) (nine_3, comes_late, refl), refl)),
        (
          end_state (wide []) nine_4 out_3 None,
          (
            λ same. cc,
            (
              puts_so 9 (locate_fault limits (entry_at nine_3 9) key forms.big.form) _ nine_3 nine_4 out_2
                  (record { event = event.Call (asked.Locate key) 1; plan = Put (key_big ∷ []) }) key_big again_unrefused
                  (key_is_sent_again forms.big.form forms.big_is) asks_again,
              refl,
            ),
          ),
          (
            end_state (wide []) nine_5 out_3 None,
            (λ same. cc, (fed (one_read short messages.short_wide) (nine_5, comes_bad, refl), refl)),
            (
              nine_state,
              (
                λ same. cc,
                (
                  sym entry_5,
                  subst (λ (call : Call ClientEntry). DoesAct (rules_of client_step is_closed is_gathering) nine_5 (record { id = 9; what = IsTaken })
                      (Ok (Gives call.slot)) nine_end) (sym nine_at_5) taken_out,
                  refl,
                ),
              ),
              refl,
            ),
          ),
        ),
      ),
    ),
  )

  abbrev nine_acts : List (Input ClientEvent)
  nine_acts =
      DoesIt 9 (asking_key key_little) ∷ DoesIt 9 (cancelling cancel_little) ∷ Reads (message_octets unknown_little) ∷ DoesIt 9 (asking_key key_big)
      ∷ Reads (message_octets short) ∷ DoesIt 9 TakesOut ∷ []

  nine_taken : SideTakesAs (client_run interface) limits (map (given_as at_client) nine_met) nine_answers nine_acts (wide []) nine_end
  nine_taken = (
    _,
    _,
    wide [],
    nine_1,
    refl,
    (_, key_is_sent forms.little.form forms.little_is, refl),
    refl,
    (_, (_, asks_key), (refl, refl)),
    (
      _,
      _,
      wide [],
      nine_2,
      refl,
      (_, plans, refl),
      refl,
      (_, (_, cancels), (refl, refl)),
      (
        _,
        _,
        wide [],
        nine_3,
        refl,
        refl,
        refl,
        (_, _, fed (one_read unknown_little messages.unknown_little) (nine_3, comes_late, refl), (refl, refl)),
        (
          _,
          _,
          wide [],
          nine_4,
          refl,
          (_, key_is_sent_again forms.big.form forms.big_is, refl),
          refl,
          (_, (_, asks_again), (refl, refl)),
          (
            _,
            _,
            wide [],
            nine_5,
            refl,
            refl,
            refl,
            (_, _, fed (one_read short messages.short_wide) (nine_5, comes_bad, refl), (refl, refl)),
            (
              _,
              _,
              wide [],
              nine_end,
              refl,
              refl,
              ap answer.Taken (sym entry_5),
              (_, (Gives undecoded.slot, taken_out), (refl, refl)),
              (refl, refl, refl),
            ),
          ),
        ),
      ),
    ),
  )

  abbrev nine_events : List (Event ClientEvent)
  nine_events =
      DoesTo 9 (asking_key key_little) ∷ DoesTo 9 (cancelling cancel_little) ∷ Came unknown_little ∷ DoesTo 9 (asking_key key_big) ∷ Came short
      ∷ DoesTo 9 TakesOut ∷ []

  abbrev nine_by : Bool → List (Event ClientEvent)
  nine_by own =
      if_is own (DoesTo 9 (asking_key key_little)) (if_is own (DoesTo 9 (cancelling cancel_little)) (if_is own (Came unknown_little)
      (if_is own (DoesTo 9 (asking_key key_big)) (if_is own (Came short) (if_is own (DoesTo 9 TakesOut) [])))))

  nine_own : (id : ℕ) → own_events id nine_events ≡ nine_by (id == 9)
  unfolding request_id_layout chosen number number_at field_at
  nine_own id = refl

  module _ (old : IsWhole (locate_reply V10)) (table : IsWhole (locate_reply V12)) where
    abbrev CarriesAll : List ClientItem → List (Event ClientEvent) → Type 0
    CarriesAll items events = Carries (client_telling interface) unknown items events

    nine_carries : (q : ℕ) → CarriesAll (only 9 told_and_taken q) (own_events q nine_events)
    nine_carries q = subst (CarriesAll (only 9 told_and_taken q)) (sym (nine_own q)) (by_own (q == 9))
      where
        by_own : (own : Bool) → CarriesAll (if own then told_and_taken else []) (nine_by own)
        by_own true =
            one_nine_then interface old table own_acts own_told (Did TakesOut ∷ []) (DoesTo 9 TakesOut ∷ [])
            (DoesTo 9 TakesOut ∷ [], [], refl, (9, TakesOut, refl, refl), refl)
        by_own false = refl

    pub nine_shown : ClientIsShown interface 9 nine_met told_and_taken
    nine_shown = (
      nine_answers,
      nine_state,
      nine_runs,
      tt,
      record {
        acts = nine_acts;
        taken = nine_taken;
        holds = (
          nine_events,
          wide [],
          (
            _,
            refl,
            (
              _,
              refl,
              (
                unknown_little ∷ [],
                wide [],
                DoesTo 9 (asking_key key_big) ∷ Came short ∷ DoesTo 9 TakesOut ∷ [],
                (one_read unknown_little messages.unknown_little).takes,
                (one_read unknown_little messages.unknown_little).waits,
                refl,
                (
                  _,
                  refl,
                  (
                    short ∷ [],
                    wide [],
                    DoesTo 9 TakesOut ∷ [],
                    (one_read short messages.short_wide).takes,
                    (one_read short messages.short_wide).waits,
                    refl,
                    ([], refl, (refl, refl)),
                  ),
                ),
              ),
            ),
          ),
          nine_carries,
        );
      },
    )
