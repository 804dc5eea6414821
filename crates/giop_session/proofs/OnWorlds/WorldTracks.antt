-- A world as its lanes: for each id a lane that both ends show, and what is on its way as lists of messages.
use Rattle.std.proofs.Common.{◌≡◌, ◌≢◌, ℕ, zero, suc, ◌==◌, Bool, true, false, List, [], ◌∷◌, ◌++◌, Option, Some, None, refl, sym, ap, subst, ◌∙◌, append_assoc, arith}
use Rattle.std.proofs.lemmas.Bool.Decides.{nat_tests}
use Rattle.std.proofs.lemmas.Grind.{flat_map-append}
use Rattle.std.proofs.lemmas.List.Elements.{All-append}
use Rattle.std.specs.List.{All, AllByRecursion, flat_map}
use Rattle.giop_ids.proofs.Puts.{eq_itself, get-put_other}
use Rattle.giop_types.specs.declared.interfaces.interface.Interface.{Interface}
use Rattle.giop_msg.specs.Msg.{message_octets}
use Rattle.giop_msg.specs.Stream.{Unread}
use Rattle.giop_msg.specs.declared.msg.Msg.{Msg}
use Rattle.giop_calls.specs.Lane.{Act, Codec, IsRead, IsSound, Lane, Runs, Suits, new, step}
use Rattle.giop_end.specs.declared.limits.Limits.{Limits}
use Rattle.giop_end.specs.declared.session_fault.SessionFault.{SessionFault}
use Rattle.giop_session.specs.Worlds.Agreement.{IsMet}
use Rattle.giop_table.specs.CallTable.{Call, Held, at, put_call}
use Rattle.giop_session.specs.Worlds.Coding.{coding}
use Rattle.giop_session.specs.Worlds.OnTheWay.{IsFramed, Names, OnTheWay}
use Rattle.giop_session.specs.Worlds.Tracks.{IsFor, IsToClient, IsToServer, Shows}
use Rattle.giop_session.specs.Worlds.World.{WorldState}
use Rattle.giop_session.proofs.OnLanes.NextHeard.{IsBeside}

-- each lane of such acts is sound
abbrev pub AreSound : Interface → Type 0
AreSound interface = (acts : List Act) (lane : Lane) → Runs (coding interface) new acts lane → IsSound (coding interface) lane

pub read_of : (codec : Codec) (lane : Lane) → IsSound codec lane → IsRead lane
read_of codec lane (agrees, right, located, read, heard) = read

-- a message is one of some call
abbrev pub IsAsked : Msg → Type 0
IsAsked m = (id : ℕ) × IsToServer id m

abbrev pub IsAnswered : Msg → Type 0
IsAnswered m = (id : ℕ) × IsToClient id m

-- an end has the limits that it began with
pub record IsWithin {R E : Type 0} (limits : Limits) (unread : Unread) (h : Held R E) : Type 0 where
  pub message : unread.limit ≡ limits.message
  pub calls : h.calls ≡ limits.calls
  pub room : h.room ≡ limits.gathered

-- messages of calls are on their way to an end, from these octets that are outgoing at the other, where it continues; and a limit of it is met,
-- where it failed
pub record IsReached {R E : Type 0} (limits : Limits) (Is : Msg → Type 0) (messages : List Msg) (outgoing : List ℕ) (unread : Unread) (h : Held R E)
    (fault : Option SessionFault) : Type 0 where
  pub are : AllByRecursion Is messages
  pub way : fault ≡ None → OnTheWay unread messages outgoing
  pub within : IsWithin limits unread h
  pub met : (why : SessionFault) → fault ≡ Some why → IsMet limits unread h why

-- both ends show the lanes of all ids, with the messages that are on their way
pub record Tracks (interface : Interface) (client_limits server_limits : Limits) (w : WorldState) : Type 0 where
  pub asked : List Msg
  pub answered : List Msg
  pub shows : (id : ℕ) → Shows interface id (at w.client.calls id) (at w.server.calls id) asked answered
  pub server : IsReached server_limits IsAsked asked w.client.outgoing w.server.unread w.server.calls w.server.fault
  pub client : IsReached client_limits IsAnswered answered w.server.outgoing w.client.unread w.client.calls w.client.fault

-- ---- one id, and the others

equal : (n m : ℕ) → (n == m) ≡ true → n ≡ m
equal n m is = grind (arith, nat_tests)

apart : (n m : ℕ) → (n == m) ≡ false → n ≢ m
apart n m is same =
    let itself : (n == m) ≡ true = ap (λ k. k == m) same ∙ eq_itself m in
    absurd cc

-- what holds of an id, and of each other
pub at_each : (P : ℕ → Type 0) (id : ℕ) → P id → ((other : ℕ) → other ≢ id → P other) → (other : ℕ) → P other
at_each P id here there other = by_test (other == id) refl
  where
    by_test : (same : Bool) → (other == id) ≡ same → P other
    by_test true is = subst P (sym (equal other id is)) here
    by_test false is = there other (apart other id is)

pub put_beside : {R E : Type 0} (id : ℕ) (h : Held R E) (call : Call E) → IsBeside id h (put_call h id call)
put_beside id h call = record {
  others = λ other differs. λ i. record {
    slot = get-put_other h.table id call.slot other differs i;
    pieces = get-put_other h.gathered id call.pieces other differs i;
  };
  calls = refl;
  room = refl;
}

pub same_beside : {R E : Type 0} (id : ℕ) (h : Held R E) → IsBeside id h h
same_beside id h = record { others = λ other differs. refl; calls = refl; room = refl }

-- ---- a run of a lane, and one act more

pub runs_more : (codec : Codec) (start end after : Lane) (acts : List Act) (act : Act) → Runs codec start acts end → Suits codec end act
    → step codec end act ≡ Some after → Runs codec start (acts ++ act ∷ []) after
runs_more codec start end after [] act run suits stepped =
    subst (λ from. Runs codec from (act ∷ []) after) (sym run) (suits, (after, stepped, refl))
runs_more codec start end after (one ∷ acts) act (fits, (mid, goes, rest)) suits stepped =
    (fits, (mid, goes, runs_more codec mid end after acts act rest suits stepped))

-- ---- messages more on their way

all_framed : (breaks : Msg → Option SessionFault) (id : ℕ) (sent : List Msg) → AllByRecursion (IsFor breaks id) sent → All IsFramed sent
all_framed breaks id [] are k d within = absurd (omega arith)
all_framed breaks id (m ∷ sent) (is, are) zero d within = is.framed
all_framed breaks id (m ∷ sent) (is, are) (suc k) d within = all_framed breaks id sent are k d (omega arith)

pub all_named : (breaks : Msg → Option SessionFault) (id : ℕ) (sent : List Msg) → AllByRecursion (IsFor breaks id) sent → AllByRecursion (Names id) sent
all_named breaks id [] are = tt
all_named breaks id (m ∷ sent) (is, are) = (is.names, all_named breaks id sent are)

more_on_the_way : (breaks : Msg → Option SessionFault) (id : ℕ) (unread : Unread) (messages sent : List Msg) (out : List ℕ)
    → OnTheWay unread messages out → AllByRecursion (IsFor breaks id) sent
    → OnTheWay unread (messages ++ sent) (out ++ flat_map message_octets sent)
more_on_the_way breaks id unread messages sent out way are = record {
  each = All-append IsFramed messages sent way.each (all_framed breaks id sent are);
  octets = flat_map-append message_octets messages sent
      ∙ ap (λ octets. octets ++ flat_map message_octets sent) way.octets
      ∙ append_assoc unread.octets out (flat_map message_octets sent);
  waits = way.waits;
}

-- each of some, and of more
each_more : (P : Msg → Type 0) (messages sent : List Msg) → AllByRecursion P messages → AllByRecursion P sent → AllByRecursion P (messages ++ sent)
each_more P [] sent are those = those
each_more P (m ∷ messages) sent (is, are) those = (is, each_more P messages sent are those)

each_of_some : (breaks : Msg → Option SessionFault) (id : ℕ) (sent : List Msg) → AllByRecursion (IsFor breaks id) sent
    → AllByRecursion (λ m. (id : ℕ) × IsFor breaks id m) sent
each_of_some breaks id [] are = tt
each_of_some breaks id (m ∷ sent) (is, are) = ((id, is), each_of_some breaks id sent are)

-- an end is reached by what the other puts out more
pub reached_more : {R E : Type 0} (limits : Limits) (breaks : Msg → Option SessionFault) (id : ℕ) (messages sent : List Msg) (out : List ℕ)
    (unread : Unread) (h : Held R E) (fault : Option SessionFault) → IsReached limits (λ m. (id : ℕ) × IsFor breaks id m) messages out unread h fault
    → AllByRecursion (IsFor breaks id) sent
    → IsReached limits (λ m. (id : ℕ) × IsFor breaks id m) (messages ++ sent) (out ++ flat_map message_octets sent) unread h fault
reached_more limits breaks id messages sent out unread h fault reached each = record {
  are = each_more (λ m. (id : ℕ) × IsFor breaks id m) messages sent reached.are (each_of_some breaks id sent each);
  way = λ goes. more_on_the_way breaks id unread messages sent out (reached.way goes) each;
  within = reached.within;
  met = reached.met;
}

-- and it still is behind an act of its own, where it continues
pub reached_beside : {R E : Type 0} (limits : Limits) (Is : Msg → Type 0) (id : ℕ) (messages : List Msg) (outgoing : List ℕ) (unread : Unread)
    (h k : Held R E) (fault : Option SessionFault) → fault ≡ None → IsBeside id h k → IsReached limits Is messages outgoing unread h fault
    → IsReached limits Is messages outgoing unread k fault
reached_beside limits Is id messages outgoing unread h k fault sound beside reached = record {
  are = reached.are;
  way = reached.way;
  within = record {
    message = reached.within.message;
    calls = beside.calls ∙ reached.within.calls;
    room = beside.room ∙ reached.within.room;
  };
  met = λ why failed. let none : Some why ≡ None = sym failed ∙ sound in absurd cc;
}
