-- Few events of few octets are within limits.
use Rattle.std.proofs.Common.{◌≡◌, ℕ, ◌≤◌, ◌==◌, ◌&&◌, ◌||◌, Bool, true, false, cond, List, [], ◌∷◌, length, map, sum_by, Option, Some, None, Result, Ok, Err, refl, ap, arith}
use Rattle.std.proofs.lemmas.Bool.Decides.{nat_tests}
use Rattle.std.proofs.lemmas.List.{length-drop, length-map}
use Rattle.std.proofs.lemmas.List.Sums.{sum_by-cons}
use Rattle.std.specs.List.{list_any}
use Rattle.giop_cdr.specs.declared.fault.CdrFault.{CdrFault}
use Rattle.giop_msg.specs.declared.kind.Kind.{Kind}
use Rattle.giop_msg.specs.declared.kind.Kind.TheVariants as message
use Rattle.giop_msg.specs.declared.msg.Msg.{Msg}
use Rattle.giop_msg.specs.RequestId.{request_id_of}
use Rattle.giop_ids.specs.ById.{is_listed}
use Rattle.giop_mux.specs.Runs.{Hears as IsTold, IsTaken as TakesOut}
use Rattle.giop_end.specs.declared.limits.Limits.{Limits}
use Rattle.giop_session.specs.Runs.Alone.{names_by}
use Rattle.giop_session.specs.Runs.Events.{Comes, Does, Event}
use Rattle.giop_session.specs.Runs.Limits.{AreWithin, octets_by, octets_of, opens, payload_of}

-- the id that is named, if one is
id_in : Option (Result ℕ CdrFault) → ℕ
id_in (Some (Ok id)) = id
id_in (Some (Err fault)) = 0
id_in None = 0

abbrev id_of : {V : Type 0} → Event V → ℕ
id_of (Comes m) = id_in (request_id_of m)
id_of (Does id act) = id

both : (a b : Bool) → (a && b) ≡ true → b ≡ true
both true b is = is
both false b is = absurd cc

behind_first : (b : Bool) {c : Bool} → c ≡ true → (b || c) ≡ true
behind_first true is = refl
behind_first false is = is

turned_round : (one other : ℕ) → (one == other) ≡ true → (other == one) ≡ true
turned_round one other is = grind (arith, nat_tests)

named_is : (name : Option (Result ℕ CdrFault)) (id : ℕ) → names_by name id ≡ true → (id_in name == id) ≡ true
unfolding id_in
named_is (Some (Ok named)) id is = turned_round id named is
named_is (Some (Err fault)) id is = absurd cc
named_is None id is = absurd cc

module _ {V : Type 0} (asks : Kind → Bool) (begins : V → Bool) where
  opened_is : (e : Event V) (id : ℕ) → opens asks begins e id ≡ true → (id_of e == id) ≡ true
  opened_is (Comes m) id is = named_is (request_id_of m) id (both (asks m.kind) (names_by (request_id_of m) id) is)
  opened_is (Does named (IsTold planned)) id is = turned_round id named (both (begins planned.event) (id == named) is)
  opened_is (Does named TakesOut) id is = absurd cc

  listed_by : (events : List (Event V)) (id : ℕ) → list_any (λ e. opens asks begins e id) events ≡ true → is_listed (map id_of events) id ≡ true
  listed_by [] id is = is
  listed_by (e ∷ events) id is = by_first (opens asks begins e id) refl is (listed_by events id)
    where
      by_first : (b : Bool) → opens asks begins e id ≡ b → (b || list_any (λ other. opens asks begins other id) events) ≡ true
          → (list_any (λ other. opens asks begins other id) events ≡ true → is_listed (map id_of events) id ≡ true)
          → (id_of e == id || is_listed (map id_of events) id) ≡ true
      by_first true opened is rest = ap (λ b. b || is_listed (map id_of events) id) (opened_is e id opened)
      by_first false opened is rest = behind_first (id_of e == id) (rest is)

all_or_none : (b : Bool) (n : ℕ) → cond b n 0 ≤ n
all_or_none true n = omega arith
all_or_none false n = omega arith

octets_within : (m : Msg) (of_kind : Kind) → octets_by of_kind m ≤ length m.payload
octets_within m message.Fragment = omega (arith, length-drop 4 m.payload)
octets_within m message.Request = all_or_none m.more (length m.payload)
octets_within m message.Reply = all_or_none m.more (length m.payload)
octets_within m message.LocateRequest = all_or_none m.more (length m.payload)
octets_within m message.LocateReply = all_or_none m.more (length m.payload)
octets_within m message.CancelRequest = all_or_none m.more (length m.payload)
octets_within m message.CloseConnection = all_or_none m.more (length m.payload)
octets_within m message.MessageError = all_or_none m.more (length m.payload)

event_within : {V : Type 0} (e : Event V) → octets_of e ≤ payload_of e
event_within (Comes m) = octets_within m m.kind
event_within (Does id act) = omega arith

all_within : {V : Type 0} (events : List (Event V)) → sum_by octets_of events ≤ sum_by payload_of events
all_within [] = omega arith
all_within (e ∷ events) =
    let rest = all_within events in
    let first = event_within e in
    let one = sum_by-cons octets_of e events in
    let other = sum_by-cons payload_of e events in
    omega arith

pub few_within : {V : Type 0} (asks : Kind → Bool) (begins : V → Bool) (limits : Limits) (events : List (Event V))
    → length events ≤ limits.calls → sum_by payload_of events ≤ limits.gathered → AreWithin asks begins limits events
few_within asks begins limits events few small = record {
  calls = record {
    ids = map id_of events;
    few = let same = length-map events id_of in omega arith;
    listed = listed_by asks begins events;
  };
  octets = let less = all_within events in omega arith;
}
