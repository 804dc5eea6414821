-- Both ways of locating are taken by a server's end, which refuses nothing.
use Rattle.std.proofs.Common.{◌≡◌, ℕ, true, false, List, [], ◌∷◌, take, drop, Some, None, Result, Ok, refl, ap, ◌∙◌, arith}
use Rattle.std.specs.FinMap as finite
use Rattle.std.specs.Ordering.{nat_cmp}
use Rattle.giop_types.specs.declared.interfaces.interface.Interface.{Interface}
use Rattle.giop_cdr.specs.declared.order.Order.TheVariants.{Big}
use Rattle.giop_msg.specs.Msg.{message_octets}
use Rattle.giop_msg.specs.Stream.{Unread}
use Rattle.giop_msg.specs.declared.msg.Msg.{Msg}
use Rattle.giop_calls.specs.declared.kind.CallKind.TheVariants as kind
use Rattle.giop_calls.specs.declared.server.entry.ServerEntry.{ServerEntry}
use Rattle.giop_calls.specs.declared.server.entry.ServerEntry.TheVariants.{Cancelled, Gathering, LocateAnswered, LocateAsked}
use Rattle.giop_calls.specs.declared.server.event.ServerEvent.{ServerEvent}
use Rattle.giop_calls.specs.declared.server.event.ServerEvent.TheVariants as event
use Rattle.giop_calls.specs.declared.server.heard.HeardCall.{HeardCall}
use Rattle.giop_calls.specs.declared.server.heard.HeardCall.TheVariants as heard
use Rattle.giop_calls.specs.declared.server.rule.ServerRule.{ServerRule}
use Rattle.giop_calls.specs.ServerTable.{arrived, is_closed, is_gathering, server_step}
use Rattle.giop_session.specs.Ends.Begun.{no_calls}
use Rattle.giop_ids.specs.Runs.{Does}
use Rattle.giop_session.specs.Calls.CallTable.{Act, Answers, Call, First, Hears, Held, More, Nothing, Reply, at, put_call, rules_of}
use Rattle.giop_session.specs.Runs.ServerRuns.{server_run}
use Rattle.giop_session.specs.Runs.SideRuns.{SideTakes}
use Rattle.giop_session.specs.Hearing.Feeding.{Fed, Through, nothing_unread}
use Rattle.giop_session.specs.Hearing.Heard.{silently, silent, hears as hears_at}
use Rattle.giop_session.specs.Hearing.ServerHears.{server_act, server_breaks, server_side}
use Rattle.giop_session.specs.declared.SessionFault.{SessionFault}
use Rattle.giop_session.specs.declared.Limits.{Limits}
use Rattle.laws_in_use.specs.Locating.{bad, cancel_big, cancel_little, door, door_begins, door_ends, door_whole, here_big, here_little, key, key_big, key_little, limits, one_way, other_way, tight_limits}
use Rattle.laws_in_use.proofs.LocatingMessages.{decoded, messages, named, undecoded}
use Rattle.giop_session.specs.declared.Plan.TheVariants.{Put}
use Rattle.laws_in_use.proofs.LocatingReads.{Brings, first, last, only, second, third, tight, wide}
use Rattle.laws_in_use.proofs.Taking.{Stands, at-put, done, hears, stands_more, stands_none}

-- the calls of an id, as they become
abbrev call_of : ServerEntry → Call ServerEntry
call_of entry = record { slot = Some (record { entry = entry; unsent = [] }); pieces = None }

abbrev pub none : Call ServerEntry
none = record { slot = None; pieces = None }

abbrev pub gathering : Call ServerEntry
gathering = record {
  slot = Some (record { entry = Gathering kind.Locate; unsent = [] });
  pieces = Some (record { order = Big; octets = door_begins.payload });
}

abbrev pub door_asked : Call ServerEntry
door_asked = call_of (LocateAsked door)

abbrev pub door_answered : Call ServerEntry
door_answered = call_of (LocateAnswered (Some door.target) true)

abbrev pub key_asked : Call ServerEntry
key_asked = call_of (LocateAsked key)

abbrev pub cancelled : Call ServerEntry
cancelled = call_of (Cancelled false 0)

abbrev pub again : Call ServerEntry
again = call_of (arrived undecoded)

abbrev ids : List ℕ
ids = 7 ∷ 9 ∷ []

-- the ends, as they become
abbrev pub End : Type 0
End = Held ServerRule ServerEntry

abbrev pub new : Limits → End
new given = no_calls (record {}) given

pub none_at : (given : Limits) (id : ℕ) → at (new given) id ≡ none
none_at given id i = record { slot = finite.get-empty nat_cmp id i; pieces = finite.get-empty nat_cmp id i }

-- a whole message that comes to this
pub whole : {call known : HeardCall} → call ≡ known → ◌≡◌ {A = Act ServerEvent} (Hears (silently (event.Whole call)) Nothing)
    (Hears (silently (event.Whole known)) Nothing)
whole is = ap (λ call. Hears (silently (event.Whole call)) Nothing) is

-- what a read brings is heard
pub fed : {H : Type 0} {Hears : Msg → H → Result (Unit {0}) SessionFault → H → Type 0} {h k : H} {unread left : Unread} {messages : List Msg}
    → Brings unread messages left → Through Hears h messages k → Fed Hears unread h (Ok tt) left k
fed {left = left} {messages = messages} brings through = record {
  messages = messages;
  rest = left;
  taken = brings.takes;
  heard = through;
  stops = (brings.waits, refl);
}

module _ (interface : Interface) where
  abbrev pub one_1 : End
  one_1 = put_call (new limits) 7 gathering

  abbrev pub one_2 : End
  one_2 = put_call one_1 9 key_asked

  abbrev pub one_3 : End
  one_3 = put_call one_2 7 door_asked

  abbrev pub one_4 : End
  one_4 = put_call one_3 9 cancelled

  abbrev pub one_5 : End
  one_5 = put_call one_4 7 door_answered

  abbrev pub one_end : End
  one_end = put_call one_5 9 again

  s_0 : Stands (new limits) limits ids 0
  s_0 = stands_none (record {}) limits ids

  s_1 : Stands one_1 limits ids 12
  s_1 = stands_more (new limits) limits ids 0 12 7 none gathering s_0 refl (none_at limits 7) refl

  at_1 : at one_1 9 ≡ none
  at_1 = at-put (new limits) 7 gathering 9 ∙ none_at limits 9

  s_2 : Stands one_2 limits ids 12
  s_2 = stands_more one_1 limits ids 12 12 9 none key_asked s_1 refl at_1 refl

  at_2 : at one_2 7 ≡ gathering
  at_2 = at-put one_1 9 key_asked 7 ∙ at-put (new limits) 7 gathering 7

  s_3 : Stands one_3 limits ids 0
  s_3 = stands_more one_2 limits ids 12 0 7 gathering door_asked s_2 refl at_2 refl

  at_3 : at one_3 9 ≡ key_asked
  at_3 = at-put one_2 7 door_asked 9 ∙ at-put one_1 9 key_asked 9

  s_4 : Stands one_4 limits ids 0
  s_4 = stands_more one_3 limits ids 0 0 9 key_asked cancelled s_3 refl at_3 refl

  pub at_4 : at one_4 7 ≡ door_asked
  at_4 = at-put one_3 9 cancelled 7 ∙ at-put one_2 7 door_asked 7

  s_5 : Stands one_5 limits ids 0
  s_5 = stands_more one_4 limits ids 0 0 7 door_asked door_answered s_4 refl at_4 refl

  at_5 : at one_5 9 ≡ cancelled
  at_5 = at-put one_4 7 door_answered 9 ∙ at-put one_3 9 cancelled 9

  -- what a message does at these ends
  abbrev pub Hears_it : Msg → End → End → Type 0
  Hears_it m h k = hears_at (server_side interface) m h (Ok tt) k

  pub begun : Hears_it door_begins (new limits) one_1
  begun = hears server_step is_closed is_gathering server_breaks (server_act interface) (new limits) limits ids 0 door_begins 7
      (silently (event.First kind.Locate))
      (First Big door_begins.payload) none gathering refl named.door_begins s_0 (omega arith) (omega arith) (none_at limits 7) refl refl

  pub asked : Hears_it key_little one_1 one_2
  asked = hears server_step is_closed is_gathering server_breaks (server_act interface) one_1 limits ids 12 key_little 9
      (silently (event.Whole (heard.Locate key))) Nothing none
      key_asked refl named.key_little s_1 (omega arith) (omega arith) at_1 (whole (decoded interface).key_little) refl

  -- both as acts on calls by id
  abbrev Acts_on : ℕ → Act ServerEvent → End → End → Type 0
  Acts_on id what h k = Does (rules_of server_step is_closed is_gathering) h (record { id = id; what = what }) (Ok (Answers silent)) k

  pub begun_act : Acts_on 7 (Hears (silently (event.First kind.Locate)) (First Big door_begins.payload)) (new limits) one_1
  begun_act =
      done server_step is_closed is_gathering (new limits) limits ids 0 7 (silently (event.First kind.Locate)) (First Big door_begins.payload)
      none gathering silent s_0 (omega arith) (omega arith) (none_at limits 7) refl

  pub asked_act : Acts_on 9 (Hears (silently (event.Whole (heard.Locate key))) Nothing) one_1 one_2
  asked_act =
      done server_step is_closed is_gathering one_1 limits ids 12 9 (silently (event.Whole (heard.Locate key))) Nothing none key_asked silent s_1
      (omega arith) (omega arith) at_1 refl

  pub ended : Hears_it door_ends one_2 one_3
  ended = hears server_step is_closed is_gathering server_breaks (server_act interface) one_2 limits ids 12 door_ends 7
      (silently (event.Last true (heard.Locate door)))
      (More (drop 4 door_ends.payload)) gathering door_asked refl named.door_ends s_2 (omega arith) (omega arith) at_2
      (ap (λ call. Hears (silently (event.Last true call)) (More (drop 4 door_ends.payload))) (decoded interface).door_joined) refl

  pub stopped : Hears_it cancel_big one_3 one_4
  stopped = hears server_step is_closed is_gathering server_breaks (server_act interface) one_3 limits ids 0 cancel_big 9 (silently event.Cancel)
      Nothing key_asked cancelled refl
      named.cancel_big s_3 (omega arith) (omega arith) at_3 refl refl

  pub used : Hears_it bad one_5 one_end
  used = hears server_step is_closed is_gathering server_breaks (server_act interface) one_5 limits ids 0 bad 9 (silently (event.Whole undecoded))
      Nothing cancelled again refl
      named.bad s_5 (omega arith) (omega arith) at_5 (whole (decoded interface).bad) refl

  -- the answer to 7, and that it is done
  abbrev pub sent_here : Reply ServerEntry (Unit {0})
  sent_here = Answers (record { answer = tt; message = Some here_big })

  pub answered : Does (rules_of server_step is_closed is_gathering) one_4
      (record { id = 7; what = Hears (record { event = event.AnswerLocate true; plan = Put (here_big ∷ []) }) Nothing }) (Ok sent_here) one_5
  answered = done server_step is_closed is_gathering one_4 limits ids 0 7 (record { event = event.AnswerLocate true; plan = Put (here_big ∷ []) })
      Nothing door_asked door_answered (record { answer = tt; message = Some here_big }) s_4 (omega arith) (omega arith) at_4 refl

  pub one_taken : SideTakes (server_run interface) limits one_way (nothing_unread limits.message) one_end
  one_taken = (
    wide (take 5 (message_octets door_begins)),
    new limits,
    fed first refl,
    (
      wide (take 7 (message_octets door_ends)),
      one_2,
      fed second (one_1, begun, (one_2, asked, refl)),
      (
        wide [],
        one_4,
        fed third (one_3, ended, (one_4, stopped, refl)),
        (one_5, (sent_here, answered), (wide [], one_end, fed last (one_end, used, refl), (refl, refl))),
      ),
    ),
  )

  -- the other way
  abbrev other_1 : End
  other_1 = put_call (new tight_limits) 9 key_asked

  abbrev other_2 : End
  other_2 = put_call other_1 9 cancelled

  abbrev other_3 : End
  other_3 = put_call other_2 9 again

  abbrev other_4 : End
  other_4 = put_call other_3 7 door_asked

  abbrev pub other_end : End
  other_end = put_call other_4 7 door_answered

  t_1 : Stands other_1 tight_limits ids 0
  t_1 = stands_more (new tight_limits) tight_limits ids 0 0 9 none key_asked (stands_none (record {}) tight_limits ids) refl (none_at tight_limits 9) refl

  on_1 : at other_1 9 ≡ key_asked
  on_1 = at-put (new tight_limits) 9 key_asked 9

  t_2 : Stands other_2 tight_limits ids 0
  t_2 = stands_more other_1 tight_limits ids 0 0 9 key_asked cancelled t_1 refl on_1 refl

  on_2 : at other_2 9 ≡ cancelled
  on_2 = at-put other_1 9 cancelled 9

  t_3 : Stands other_3 tight_limits ids 0
  t_3 = stands_more other_2 tight_limits ids 0 0 9 cancelled again t_2 refl on_2 refl

  on_3 : at other_3 7 ≡ none
  on_3 = at-put other_2 9 again 7 ∙ at-put other_1 9 cancelled 7 ∙ at-put (new tight_limits) 9 key_asked 7 ∙ none_at tight_limits 7

  t_4 : Stands other_4 tight_limits ids 0
  t_4 = stands_more other_3 tight_limits ids 0 0 7 none door_asked t_3 refl on_3 refl

  on_4 : at other_4 7 ≡ door_asked
  on_4 = at-put other_3 7 door_asked 7

  pub other_taken : SideTakes (server_run interface) tight_limits other_way (nothing_unread tight_limits.message) other_end
  other_taken =
      let asked = hears server_step is_closed is_gathering server_breaks (server_act interface) (new tight_limits) tight_limits ids 0 key_big 9
      (silently (event.Whole (heard.Locate key))) Nothing none key_asked
      refl named.key_big (stands_none (record {}) tight_limits ids) (omega arith) (omega arith) (none_at tight_limits 9)
      (whole (decoded interface).key_big) refl in
      let stopped = hears server_step is_closed is_gathering server_breaks (server_act interface) other_1 tight_limits ids 0 cancel_little 9
      (silently event.Cancel) Nothing key_asked cancelled
      refl named.cancel_little t_1 (omega arith) (omega arith) on_1 refl refl in
      let used = hears server_step is_closed is_gathering server_breaks (server_act interface) other_2 tight_limits ids 0 bad 9
      (silently (event.Whole undecoded)) Nothing cancelled again
      refl named.bad t_2 (omega arith) (omega arith) on_2 (whole (decoded interface).bad) refl in
      let came = hears server_step is_closed is_gathering server_breaks (server_act interface) other_3 tight_limits ids 0 door_whole 7
      (silently (event.Whole (heard.Locate door))) Nothing none door_asked
      refl named.door_whole t_3 (omega arith) (omega arith) on_3 (whole (decoded interface).door_whole) refl in
      let answered = done server_step is_closed is_gathering other_4 tight_limits ids 0 7
      (record { event = event.AnswerLocate true; plan = Put (here_little ∷ []) }) Nothing
      door_asked door_answered (record { answer = tt; message = Some here_little }) t_4 (omega arith) (omega arith) on_4 refl in (
        tight [],
        other_4,
        fed only (other_1, asked, (other_2, stopped, (other_3, used, (other_4, came, refl)))),
        (other_end, (Answers (record { answer = tt; message = Some here_little }), answered), (refl, refl)),
      )
