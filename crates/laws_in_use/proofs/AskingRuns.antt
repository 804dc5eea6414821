-- Both ways of being answered are taken by a client's end, which refuses nothing.
use Rattle.std.proofs.Common.{◌≡◌, ℕ, true, List, [], ◌∷◌, take, drop, Some, None, Ok, refl, ap, ◌∙◌, arith}
use Rattle.std.specs.FinMap as finite
use Rattle.std.specs.Ordering.{nat_cmp}
use Rattle.giop_types.specs.declared.interfaces.interface.Interface.{Interface}
use Rattle.giop_cdr.specs.declared.order.Order.TheVariants.{Big}
use Rattle.giop_msg.specs.Msg.{message_octets}
use Rattle.giop_msg.specs.declared.msg.Msg.{Msg}
use Rattle.giop_msg.specs.declared.version.Version.TheVariants.{V10, V12}
use Rattle.giop_cdr.specs.declared.fault.CdrKind.TheVariants.{Short}
use Rattle.giop_calls.specs.declared.client.call.Call.TheVariants as asked
use Rattle.giop_calls.specs.declared.client.entry.ClientEntry.{ClientEntry}
use Rattle.giop_calls.specs.declared.client.entry.ClientEntry.TheVariants.{Cancelled, Gathering, LocateDone, Sending, Undecoded, Waiting}
use Rattle.giop_calls.specs.declared.client.event.ClientEvent.{ClientEvent}
use Rattle.giop_calls.specs.declared.client.event.ClientEvent.TheVariants as event
use Rattle.giop_calls.specs.declared.client.heard.HeardReply.{HeardReply}
use Rattle.giop_calls.specs.declared.client.heard.HeardReply.TheVariants as heard
use Rattle.giop_calls.specs.declared.client.late.Late.TheVariants as late
use Rattle.giop_calls.specs.declared.client.rule.ClientRule.{ClientRule}
use Rattle.giop_calls.specs.declared.kind.CallKind.TheVariants as kind
use Rattle.giop_calls.specs.ClientTable.{client_step, is_closed, is_gathering}
use Rattle.giop_ids.specs.Runs.{Does}
use Rattle.giop_session.specs.Ends.Begun.{no_calls}
use Rattle.giop_session.specs.Calls.CallTable.{Act, Answers, Call, First, Hears, Held, More, Nothing, at, put_call, rules_of}
use Rattle.giop_session.specs.Hearing.ClientHears.{client_act, client_breaks, client_side}
use Rattle.giop_session.specs.Runs.ClientRuns.{client_run}
use Rattle.giop_session.specs.Runs.SideRuns.{SideTakes}
use Rattle.giop_session.specs.Hearing.Heard.{silently, hears as hears_at}
use Rattle.giop_session.specs.Hearing.Feeding.{nothing_unread}
use Rattle.giop_session.specs.declared.Limits.{Limits}
use Rattle.giop_session.specs.declared.Plan.TheVariants.{Next, Put}
use Rattle.giop_session.specs.declared.Planned.{Planned}
use Rattle.laws_in_use.specs.Asking.{here, here_begins, here_ends, one_way, other_way, short, unknown_big, unknown_little}
use Rattle.laws_in_use.specs.Locating.{cancel_big, cancel_little, door, door_begins, door_ends, here_little, key, key_big, key_little, limits, tight_limits}
use Rattle.laws_in_use.proofs.AskingMessages.{decoded, named}
use Rattle.laws_in_use.proofs.AskingReads as read
use Rattle.laws_in_use.proofs.LocatingReads.{tight, wide}
use Rattle.laws_in_use.proofs.LocatingRuns.{fed}
use Rattle.laws_in_use.proofs.Taking.{Stands, at-put, done, hears, stands_more, stands_none}

-- the calls of an id, as they become
abbrev call_of : ClientEntry → Call ClientEntry
call_of entry = record { slot = Some (record { entry = entry; unsent = [] }); pieces = None }

abbrev pub none : Call ClientEntry
none = record { slot = None; pieces = None }

abbrev pub sending : Call ClientEntry
sending = record { slot = Some (record { entry = Sending (asked.Locate door) 1; unsent = door_ends ∷ [] }); pieces = None }

abbrev pub waiting : Call ClientEntry
waiting = call_of (Waiting (asked.Locate door))

abbrev pub gathering : Call ClientEntry
gathering = record {
  slot = Some (record { entry = Gathering (asked.Locate door); unsent = [] });
  pieces = Some (record { order = Big; octets = here_begins.payload });
}

abbrev pub located : Call ClientEntry
located = call_of (LocateDone door here)

abbrev pub key_waiting : Call ClientEntry
key_waiting = call_of (Waiting (asked.Locate key))

abbrev pub cancelled : Call ClientEntry
cancelled = call_of (Cancelled late.None)

abbrev pub seen : Call ClientEntry
seen = call_of (Cancelled late.Seen)

abbrev pub undecoded : Call ClientEntry
undecoded = call_of (Undecoded (asked.Locate key) (record { at = 16; kind = Short }))

abbrev ids : List ℕ
ids = 7 ∷ 9 ∷ []

-- the ends, as they become
abbrev pub End : Type 0
End = Held ClientRule ClientEntry

abbrev pub new : Limits → End
new given = no_calls (record {}) given

pub none_at : (given : Limits) (id : ℕ) → at (new given) id ≡ none
none_at given id i = record { slot = finite.get-empty nat_cmp id i; pieces = finite.get-empty nat_cmp id i }

-- a whole message that comes to this
whole : {told known : HeardReply} → told ≡ known
    → ◌≡◌ {A = Act ClientEvent} (Hears (silently (event.Whole kind.Locate V12 told)) Nothing) (Hears (silently (event.Whole kind.Locate V12 known)) Nothing)
whole is = ap (λ told. Hears (silently (event.Whole kind.Locate V12 told)) Nothing) is

pub whole_old : {told known : HeardReply} → told ≡ known
    → ◌≡◌ {A = Act ClientEvent} (Hears (silently (event.Whole kind.Locate V10 told)) Nothing) (Hears (silently (event.Whole kind.Locate V10 known)) Nothing)
whole_old is = ap (λ told. Hears (silently (event.Whole kind.Locate V10 told)) Nothing) is

module _ (interface : Interface) where
  abbrev pub one_1 : End
  one_1 = put_call (new limits) 7 sending

  abbrev pub one_2 : End
  one_2 = put_call one_1 9 key_waiting

  abbrev pub one_3 : End
  one_3 = put_call one_2 9 cancelled

  abbrev pub one_4 : End
  one_4 = put_call one_3 7 waiting

  abbrev pub one_5 : End
  one_5 = put_call one_4 7 gathering

  abbrev pub one_6 : End
  one_6 = put_call one_5 9 seen

  abbrev pub one_7 : End
  one_7 = put_call one_6 9 key_waiting

  abbrev pub one_8 : End
  one_8 = put_call one_7 7 located

  abbrev pub one_9 : End
  one_9 = put_call one_8 9 undecoded

  one_s_0 : Stands (new limits) limits ids 0
  one_s_0 = stands_none (record {}) limits ids

  one_at_0 : at (new limits) 7 ≡ none
  one_at_0 = none_at limits 7

  one_s_1 : Stands one_1 limits ids 0
  one_s_1 = stands_more (new limits) limits ids 0 0 7 none sending one_s_0 refl one_at_0 refl

  one_at_1 : at one_1 9 ≡ none
  one_at_1 = at-put (new limits) 7 sending 9 ∙ none_at limits 9

  one_s_2 : Stands one_2 limits ids 0
  one_s_2 = stands_more one_1 limits ids 0 0 9 none key_waiting one_s_1 refl one_at_1 refl

  pub one_at_2 : at one_2 9 ≡ key_waiting
  one_at_2 = at-put one_1 9 key_waiting 9

  one_s_3 : Stands one_3 limits ids 0
  one_s_3 = stands_more one_2 limits ids 0 0 9 key_waiting cancelled one_s_2 refl one_at_2 refl

  one_at_3 : at one_3 7 ≡ sending
  one_at_3 = at-put one_2 9 cancelled 7 ∙ at-put one_1 9 key_waiting 7 ∙ at-put (new limits) 7 sending 7

  one_s_4 : Stands one_4 limits ids 0
  one_s_4 = stands_more one_3 limits ids 0 0 7 sending waiting one_s_3 refl one_at_3 refl

  one_at_4 : at one_4 7 ≡ waiting
  one_at_4 = at-put one_3 7 waiting 7

  one_s_5 : Stands one_5 limits ids 4
  one_s_5 = stands_more one_4 limits ids 0 4 7 waiting gathering one_s_4 refl one_at_4 refl

  one_at_5 : at one_5 9 ≡ cancelled
  one_at_5 = at-put one_4 7 gathering 9 ∙ at-put one_3 7 waiting 9 ∙ at-put one_2 9 cancelled 9

  one_s_6 : Stands one_6 limits ids 4
  one_s_6 = stands_more one_5 limits ids 4 4 9 cancelled seen one_s_5 refl one_at_5 refl

  one_at_6 : at one_6 9 ≡ seen
  one_at_6 = at-put one_5 9 seen 9

  one_s_7 : Stands one_7 limits ids 4
  one_s_7 = stands_more one_6 limits ids 4 4 9 seen key_waiting one_s_6 refl one_at_6 refl

  one_at_7 : at one_7 7 ≡ gathering
  one_at_7 = at-put one_6 9 key_waiting 7 ∙ at-put one_5 9 seen 7 ∙ at-put one_4 7 gathering 7

  one_s_8 : Stands one_8 limits ids 0
  one_s_8 = stands_more one_7 limits ids 4 0 7 gathering located one_s_7 refl one_at_7 refl

  one_at_8 : at one_8 9 ≡ key_waiting
  one_at_8 = at-put one_7 7 located 9 ∙ at-put one_6 9 key_waiting 9

  -- what the client does itself
  abbrev Does_it : ℕ → Planned ClientEvent → Msg → End → End → Type 0
  Does_it id planned m h k =
      Does (rules_of client_step is_closed is_gathering) h (record { id = id; what = Hears planned Nothing })
      (Ok (Answers (record { answer = tt; message = Some m }))) k

  pub one_asks : Does_it 7 (record { event = event.Call (asked.Locate door) 2; plan = Put (door_begins ∷ door_ends ∷ []) }) door_begins (new limits) one_1
  one_asks =
      done client_step is_closed is_gathering (new limits) limits ids 0 7
      (record { event = event.Call (asked.Locate door) 2; plan = Put (door_begins ∷ door_ends ∷ []) }) Nothing none sending
      (record { answer = tt; message = Some door_begins }) one_s_0 (omega arith) (omega arith) one_at_0 refl

  pub one_asks_key : Does_it 9 (record { event = event.Call (asked.Locate key) 1; plan = Put (key_little ∷ []) }) key_little one_1 one_2
  one_asks_key =
      done client_step is_closed is_gathering one_1 limits ids 0 9
      (record { event = event.Call (asked.Locate key) 1; plan = Put (key_little ∷ []) }) Nothing none key_waiting
      (record { answer = tt; message = Some key_little }) one_s_1 (omega arith) (omega arith) one_at_1 refl

  pub one_cancels : Does_it 9 (record { event = event.Cancel; plan = Put (cancel_little ∷ []) }) cancel_little one_2 one_3
  one_cancels =
      done client_step is_closed is_gathering one_2 limits ids 0 9
      (record { event = event.Cancel; plan = Put (cancel_little ∷ []) }) Nothing key_waiting cancelled
      (record { answer = tt; message = Some cancel_little }) one_s_2 (omega arith) (omega arith) one_at_2 refl

  pub one_sends : Does_it 7 (record { event = event.Send; plan = Next }) door_ends one_3 one_4
  one_sends =
      done client_step is_closed is_gathering one_3 limits ids 0 7
      (record { event = event.Send; plan = Next }) Nothing sending waiting
      (record { answer = tt; message = Some door_ends }) one_s_3 (omega arith) (omega arith) one_at_3 refl

  pub one_asks_again : Does_it 9 (record { event = event.Call (asked.Locate key) 1; plan = Put (key_big ∷ []) }) key_big one_6 one_7
  one_asks_again =
      done client_step is_closed is_gathering one_6 limits ids 4 9
      (record { event = event.Call (asked.Locate key) 1; plan = Put (key_big ∷ []) }) Nothing seen key_waiting
      (record { answer = tt; message = Some key_big }) one_s_6 (omega arith) (omega arith) one_at_6 refl

  -- and what it hears
  abbrev Hears_it : Msg → End → End → Type 0
  Hears_it m h k = hears_at (client_side interface) m h (Ok tt) k

  pub one_begins : Hears_it here_begins one_4 one_5
  one_begins =
      hears client_step is_closed is_gathering client_breaks (client_act interface) one_4 limits ids 0 here_begins 7
      (silently (event.First kind.Locate V12)) (First Big here_begins.payload) waiting gathering refl named.here_begins one_s_4 (omega arith)
      (omega arith) one_at_4 refl refl

  pub one_late : Hears_it unknown_little one_5 one_6
  one_late =
      hears client_step is_closed is_gathering client_breaks (client_act interface) one_5 limits ids 4 unknown_little 9
      (silently (event.Whole kind.Locate V10 heard.Unread)) Nothing cancelled seen refl named.unknown_little one_s_5 (omega arith) (omega arith)
      one_at_5 refl refl

  pub one_ends : Hears_it here_ends one_7 one_8
  one_ends =
      hears client_step is_closed is_gathering client_breaks (client_act interface) one_7 limits ids 4 here_ends 7
      (silently (event.Last true (heard.Locate here))) (More (drop 4 here_ends.payload)) gathering located refl named.here_ends one_s_7 (omega arith)
      (omega arith) one_at_7 (ap (λ told. Hears (silently (event.Last true told)) (More (drop 4 here_ends.payload))) (decoded interface).here_joined)
      refl

  pub one_bad : Hears_it short one_8 one_9
  one_bad =
      hears client_step is_closed is_gathering client_breaks (client_act interface) one_8 limits ids 0 short 9
      (silently (event.Whole kind.Locate V10 (heard.Undecoded (record { at = 16; kind = Short })))) Nothing key_waiting undecoded refl named.short
      one_s_8 (omega arith) (omega arith) one_at_8 (whole_old (decoded interface).short) refl

  pub one_taken : SideTakes (client_run interface) limits one_way (nothing_unread limits.message) one_9
  one_taken = (
    one_1,
    (_, one_asks),
    (
      one_2,
      (_, one_asks_key),
      (
        one_3,
        (_, one_cancels),
        (
          wide (take 5 (message_octets here_begins)),
          one_3,
          fed read.first refl,
          (
            one_4,
            (_, one_sends),
            (
              wide (take 7 (message_octets here_ends)),
              one_6,
              fed read.second (one_5, one_begins, (one_6, one_late, refl)),
              (
                one_7,
                (_, one_asks_again),
                (wide [], one_9, fed read.third (one_8, one_ends, (one_9, one_bad, refl)), (refl, refl)),
              ),
            ),
          ),
        ),
      ),
    ),
  )

  -- the other way
  abbrev other_1 : End
  other_1 = put_call (new tight_limits) 9 key_waiting

  abbrev other_2 : End
  other_2 = put_call other_1 9 cancelled

  abbrev other_3 : End
  other_3 = put_call other_2 9 seen

  abbrev other_4 : End
  other_4 = put_call other_3 9 key_waiting

  abbrev other_5 : End
  other_5 = put_call other_4 7 sending

  abbrev other_6 : End
  other_6 = put_call other_5 7 waiting

  abbrev other_7 : End
  other_7 = put_call other_6 9 undecoded

  abbrev pub other_8 : End
  other_8 = put_call other_7 7 located

  other_s_0 : Stands (new tight_limits) tight_limits ids 0
  other_s_0 = stands_none (record {}) tight_limits ids

  other_at_0 : at (new tight_limits) 9 ≡ none
  other_at_0 = none_at tight_limits 9

  other_s_1 : Stands other_1 tight_limits ids 0
  other_s_1 = stands_more (new tight_limits) tight_limits ids 0 0 9 none key_waiting other_s_0 refl other_at_0 refl

  other_at_1 : at other_1 9 ≡ key_waiting
  other_at_1 = at-put (new tight_limits) 9 key_waiting 9

  other_s_2 : Stands other_2 tight_limits ids 0
  other_s_2 = stands_more other_1 tight_limits ids 0 0 9 key_waiting cancelled other_s_1 refl other_at_1 refl

  other_at_2 : at other_2 9 ≡ cancelled
  other_at_2 = at-put other_1 9 cancelled 9

  other_s_3 : Stands other_3 tight_limits ids 0
  other_s_3 = stands_more other_2 tight_limits ids 0 0 9 cancelled seen other_s_2 refl other_at_2 refl

  other_at_3 : at other_3 9 ≡ seen
  other_at_3 = at-put other_2 9 seen 9

  other_s_4 : Stands other_4 tight_limits ids 0
  other_s_4 = stands_more other_3 tight_limits ids 0 0 9 seen key_waiting other_s_3 refl other_at_3 refl

  other_at_4 : at other_4 7 ≡ none
  other_at_4 = at-put other_3 9 key_waiting 7 ∙ at-put other_2 9 seen 7 ∙ at-put other_1 9 cancelled 7 ∙ at-put (new tight_limits) 9 key_waiting 7 ∙
      none_at tight_limits 7

  other_s_5 : Stands other_5 tight_limits ids 0
  other_s_5 = stands_more other_4 tight_limits ids 0 0 7 none sending other_s_4 refl other_at_4 refl

  other_at_5 : at other_5 7 ≡ sending
  other_at_5 = at-put other_4 7 sending 7

  other_s_6 : Stands other_6 tight_limits ids 0
  other_s_6 = stands_more other_5 tight_limits ids 0 0 7 sending waiting other_s_5 refl other_at_5 refl

  other_at_6 : at other_6 9 ≡ key_waiting
  other_at_6 = at-put other_5 7 waiting 9 ∙ at-put other_4 7 sending 9 ∙ at-put other_3 9 key_waiting 9

  other_s_7 : Stands other_7 tight_limits ids 0
  other_s_7 = stands_more other_6 tight_limits ids 0 0 9 key_waiting undecoded other_s_6 refl other_at_6 refl

  other_at_7 : at other_7 7 ≡ waiting
  other_at_7 = at-put other_6 9 undecoded 7 ∙ at-put other_5 7 waiting 7

  pub other_taken : SideTakes (client_run interface) tight_limits other_way (nothing_unread tight_limits.message) other_8
  other_taken =
      let asks_key = done client_step is_closed is_gathering (new tight_limits) tight_limits ids 0 9
      (record { event = event.Call (asked.Locate key) 1; plan = Put (key_big ∷ []) }) Nothing none key_waiting
      (record { answer = tt; message = Some key_big }) other_s_0 (omega arith) (omega arith) other_at_0 refl in
      let cancels = done client_step is_closed is_gathering other_1 tight_limits ids 0 9
      (record { event = event.Cancel; plan = Put (cancel_big ∷ []) }) Nothing key_waiting cancelled
      (record { answer = tt; message = Some cancel_big }) other_s_1 (omega arith) (omega arith) other_at_1 refl in
      let late = hears client_step is_closed is_gathering client_breaks (client_act interface) other_2 tight_limits ids 0 unknown_big 9
      (silently (event.Whole kind.Locate V10 heard.Unread)) Nothing cancelled seen refl named.unknown_big other_s_2 (omega arith) (omega arith)
      other_at_2 refl refl in
      let again = done client_step is_closed is_gathering other_3 tight_limits ids 0 9
      (record { event = event.Call (asked.Locate key) 1; plan = Put (key_little ∷ []) }) Nothing seen key_waiting
      (record { answer = tt; message = Some key_little }) other_s_3 (omega arith) (omega arith) other_at_3 refl in
      let asks = done client_step is_closed is_gathering other_4 tight_limits ids 0 7
      (record { event = event.Call (asked.Locate door) 2; plan = Put (door_begins ∷ door_ends ∷ []) }) Nothing none sending
      (record { answer = tt; message = Some door_begins }) other_s_4 (omega arith) (omega arith) other_at_4 refl in
      let sends = done client_step is_closed is_gathering other_5 tight_limits ids 0 7 (record { event = event.Send; plan = Next }) Nothing sending
      waiting (record { answer = tt; message = Some door_ends }) other_s_5 (omega arith) (omega arith) other_at_5 refl in
      let bad = hears client_step is_closed is_gathering client_breaks (client_act interface) other_6 tight_limits ids 0 short 9
      (silently (event.Whole kind.Locate V10 (heard.Undecoded (record { at = 16; kind = Short })))) Nothing key_waiting undecoded refl named.short
      other_s_6 (omega arith) (omega arith) other_at_6 (whole_old (decoded interface).short) refl in
      let came = hears client_step is_closed is_gathering client_breaks (client_act interface) other_7 tight_limits ids 0 here_little 7
      (silently (event.Whole kind.Locate V12 (heard.Locate here))) Nothing waiting located refl named.here_little other_s_7 (omega arith)
      (omega arith) other_at_7 (whole (decoded interface).here_little) refl in (
        other_1,
        (Answers (record { answer = tt; message = Some key_big }), asks_key),
        (
          other_2,
          (Answers (record { answer = tt; message = Some cancel_big }), cancels),
          (
            tight [],
            other_3,
            fed read.late (other_3, late, refl),
            (
              other_4,
              (Answers (record { answer = tt; message = Some key_little }), again),
              (
                other_5,
                (Answers (record { answer = tt; message = Some door_begins }), asks),
                (
                  other_6,
                  (Answers (record { answer = tt; message = Some door_ends }), sends),
                  (tight [], other_8, fed read.last (other_7, bad, (other_8, came, refl)), (refl, refl)),
                ),
              ),
            ),
          ),
        ),
      )
