-- Octets that an end is fed are the first messages of those that are on their way to it, and then a limit is met, if the end fails.
use Rattle.std.proofs.Common.{◌≡◌, ◌≢◌, ℕ, zero, suc, ◌-◌, ◌≤◌, ◌^◌, List, [], ◌∷◌, ◌++◌, length, Some, None, Result, Ok, Err, refl, sym, ap, subst, ◌∙◌, ◌⊎◌, inl, inr, append-nil, append_assoc, length-append, arith}
use Rattle.std.specs.List.{All, AllByRecursion, flat_map}
use Rattle.giop_msg.specs.Fault.{fault}
use Rattle.giop_msg.specs.Msg.{message_octets}
use Rattle.giop_msg.specs.Stream.{BeginsWithFault, TakesMessage, Unread, Waits}
use Rattle.giop_msg.specs.declared.fault.WireFault.{WireFault}
use Rattle.giop_msg.specs.declared.fault.WireKind.TheVariants.{TooLarge}
use Rattle.giop_msg.specs.declared.msg.Msg.{Msg}
use Rattle.giop_msg.proofs.StreamLemmas.{each_head, each_one, each_tail, fault_stands, length-message_octets, same_message}
use Rattle.giop_end.specs.declared.limits.Limits.{Limits}
use Rattle.giop_end.specs.declared.session_fault.SessionFault.{SessionFault}
use Rattle.giop_end.specs.declared.session_fault.SessionFault.TheVariants as why
use Rattle.giop_session.specs.Worlds.Agreement.{IsMet}
use Rattle.giop_table.specs.CallTable.{Held}
use Rattle.giop_end.specs.Hearing.Feeding.{Fed, Stops, Through, standing, with_octets}
use Rattle.giop_session.specs.Worlds.OnTheWay.{IsFramed, OnTheWay}
use Rattle.giop_session.proofs.OnLanes.NextHeard.{IsFull}
use Rattle.giop_session.proofs.OnLanes.OnTheWayLemmas.{framed_by, refused_by_size, within_limit}
use Rattle.giop_session.proofs.OnWorlds.WorldTracks.{IsWithin}

-- ---- what is taken comes first

-- some messages are the first of others, and these octets are those behind them
record AreFirst (all messages : List Msg) (tail : List ℕ) : Type 0 where
  rest : List Msg
  split : all ≡ messages ++ rest
  octets : flat_map message_octets rest ≡ tail

are_first : (messages all : List Msg) (tail : List ℕ) → All IsFramed messages → All IsFramed all
    → flat_map message_octets all ≡ flat_map message_octets messages ++ tail → AreFirst all messages tail
are_first [] all tail framed each is = record { rest = all; split = refl; octets = is }
are_first (m ∷ messages) [] tail framed each is = absurd (omega (
  arith,
  ap length is,
  length-append (message_octets m ++ flat_map message_octets messages) tail,
  length-append (message_octets m) (flat_map message_octets messages),
  length-message_octets m,
))
are_first (m ∷ messages) (n ∷ all) tail framed each is =
    let here = flat_map message_octets messages in
    let same = same_message (2 ^ 32 - 1) m n (here ++ tail) (flat_map message_octets all) (each_head (2 ^ 32 - 1) m messages framed)
    (each_head (2 ^ 32 - 1) n all each) (sym (append_assoc (message_octets m) here tail) ∙ sym is) in
    let behind = are_first messages all tail (each_tail (2 ^ 32 - 1) m messages framed) (each_tail (2 ^ 32 - 1) n all each) (sym same.1) in
    record { rest = behind.rest; split = λ i. sym same.0 i ∷ behind.split i; octets = behind.octets }

one_framed : (m : Msg) → IsFramed m → All IsFramed (m ∷ [])
one_framed m is = each_one (2 ^ 32 - 1) m is

last_each : (P : Msg → Type 0) (messages rest : List Msg) → AllByRecursion P (messages ++ rest) → AllByRecursion P rest
last_each P [] rest are = are
last_each P (m ∷ messages) rest (is, are) = last_each P messages rest are

-- a fault at the front of messages is TooLarge
only_large : (limit : ℕ) (rest : List Msg) (octets behind : List ℕ) (e : WireFault) → All IsFramed rest
    → flat_map message_octets rest ≡ octets ++ behind → BeginsWithFault limit octets e → e ≡ fault 8 TooLarge
only_large limit [] octets behind e each is begins = absurd (omega (arith, ap length is, length-append octets behind, begins.0))
only_large limit (m ∷ rest) octets behind e each is begins =
    (refused_by_size limit m (flat_map message_octets rest) e (each_head (2 ^ 32 - 1) m rest each)
    (subst (λ all. BeginsWithFault limit all e) (sym is) (fault_stands limit octets behind e begins))).0

-- a full table or gatherer is a limit that is met, by a message no larger than messages may be
full_is_met : {R E : Type 0} (limits : Limits) (unread : Unread) (m : Msg) (k : Held R E) (fault : SessionFault) → IsWithin limits unread k
    → length m.payload ≤ limits.message → IsFull m k fault → IsMet limits unread k fault
full_is_met limits unread m k why.TooManyCalls within small full = full ∙ within.calls
full_is_met limits unread m k why.GatherFull within small full = omega (arith, within.room, small, full)
full_is_met limits unread m k (why.Wire e) within small full = absurd full
full_is_met limits unread m k (why.Call id e) within small full = absurd full
full_is_met limits unread m k why.WrongDirection within small full = absurd full
full_is_met limits unread m k why.PeerError within small full = absurd full
full_is_met limits unread m k why.Closed within small full = absurd full
full_is_met limits unread m k why.NoMemory within small full = absurd full
full_is_met limits unread m k why.StillOpen within small full = absurd full
full_is_met limits unread m k (why.NoId e) within small full = absurd full

-- ---- an end is fed

-- what becomes of calls by a message that is heard: something that is known of them with the messages on their way still is
pub record GoesBy {R E : Type 0} (Knows : Held R E → List Msg → Type 0) (h k : Held R E) (rest : List Msg) : Type 0 where
  pub knows : Knows k rest
  pub calls : k.calls ≡ h.calls
  pub room : k.room ≡ h.room

-- what is left of messages that were on their way
pub record Arrived {R E : Type 0} (Is : Msg → Type 0) (Knows : Held R E → List Msg → Type 0) (limits : Limits)
    (result : Result (Unit {0}) SessionFault) (left : Unread) (k : Held R E) (behind : List ℕ) : Type 0 where
  pub rest : List Msg
  pub are : AllByRecursion Is rest
  pub knows : Knows k rest
  pub way : standing result ≡ None → OnTheWay left rest behind
  pub within : IsWithin limits left k
  pub met : (fault : SessionFault) → standing result ≡ Some fault → IsMet limits left k fault

module _ {R E : Type 0} (Hears : Msg → Held R E → Result (Unit {0}) SessionFault → Held R E → Type 0) (Is : Msg → Type 0)
    (Knows : Held R E → List Msg → Type 0) (framed : (m : Msg) → Is m → IsFramed m)
    (hears : (h k : Held R E) (m : Msg) (rest : List Msg) → Is m → Knows h (m ∷ rest) → Hears m h (Ok tt) k → GoesBy Knows h k rest)
    (refuses : (h : Held R E) (m : Msg) (rest : List Msg) (fault : SessionFault) → Is m → Knows h (m ∷ rest) → fault ≢ why.NoMemory
    → Hears m h (Err fault) h → IsFull m h fault) where
  each_framed : (messages : List Msg) → AllByRecursion Is messages → All IsFramed messages
  each_framed [] are k d within = absurd (omega arith)
  each_framed (m ∷ messages) (is, are) zero d within = framed m is
  each_framed (m ∷ messages) (is, are) (suc k) d within = each_framed messages are k d (omega arith)

  through : (messages rest : List Msg) (h k : Held R E) → AllByRecursion Is (messages ++ rest) → Knows h (messages ++ rest)
      → Through Hears h messages k → GoesBy Knows h k rest
  through [] rest h k are knows same = record {
    knows = subst (λ one. Knows one rest) (sym same) knows;
    calls = ap (λ one. one.calls) same;
    room = ap (λ one. one.room) same;
  }
  through (m ∷ messages) rest h k (is, are) knows (mid, first, behind) =
      let one = hears h mid m (messages ++ rest) is knows first in
      let others = through messages rest mid k are one.knows behind in
      record { knows = others.knows; calls = others.calls ∙ one.calls; room = others.room ∙ one.room }

  module _ (limits : Limits) (result : Result (Unit {0}) SessionFault) (left : Unread) (k : Held R E) (behind : List ℕ) where
    -- what stopped the end
    stopped : (rest : Unread) (messages : List Msg) → AllByRecursion Is messages → Knows k messages → IsWithin limits rest k
        → flat_map message_octets messages ≡ rest.octets ++ behind → (result ≢ Err why.NoMemory) → Stops Hears rest k result left
        → Arrived Is Knows limits result left k behind
    stopped rest messages are knows within octets memory stops = by_result result refl stops
      where
        each : All IsFramed messages
        each = each_framed messages are

        by_stop : (fault : SessionFault) → result ≡ Err fault
            → (fault ≡ why.NoMemory)
            ⊎ (((e : WireFault) × BeginsWithFault rest.limit rest.octets e × (fault ≡ why.Wire e) × (left ≡ rest))
            ⊎ ((m : Msg) × TakesMessage rest m left × Hears m k (Err fault) k))
            → Arrived Is Knows limits result left k behind
        by_stop fault is (inl wanting) = absurd (memory (is ∙ ap Err wanting))
        by_stop fault is (inr (inl (e, begins, wire, same))) = record {
          rest = messages;
          are = are;
          knows = knows;
          way = λ none. let wrong : Some fault ≡ None = ap standing (sym is) ∙ none in absurd cc;
          within = subst (λ unread. IsWithin limits unread k) (sym same) within;
          met = λ other stands.
              let told : Some fault ≡ Some other = ap standing (sym is) ∙ stands in
              let one : why.Wire e ≡ other = sym wire ∙ (cc) in
              subst (λ fault. IsMet limits left k fault) one (
                only_large rest.limit messages rest.octets behind e each octets begins,
                subst (λ unread. BeginsWithFault limits.message unread.octets e) (sym same)
                    (subst (λ limit. BeginsWithFault limit rest.octets e) within.message begins),
              );
        }
        by_stop fault is (inr (inr (m, takes, refused))) =
            let whole : flat_map message_octets messages ≡ flat_map message_octets (m ∷ []) ++ (left.octets ++ behind) =
            octets
            ∙ ap (λ l. l ++ behind) takes.octets
            ∙ append_assoc (message_octets m) left.octets behind
            ∙ ap (λ l. l ++ (left.octets ++ behind)) (sym (append-nil (message_octets m))) in
            let first = are_first (m ∷ []) messages (left.octets ++ behind) (one_framed m (framed_by rest.limit m takes.is_message)) each whole in
            let is_one = (subst (AllByRecursion Is) first.split are).0 in
            let full = refuses k m first.rest fault is_one (subst (Knows k) first.split knows) (λ wanting. memory (is ∙ ap Err wanting)) refused in
            let now : IsWithin limits left k =
            record { message = takes.limit ∙ within.message; calls = within.calls; room = within.room } in record {
              rest = messages;
              are = are;
              knows = knows;
              way = λ none. let wrong : Some fault ≡ None = ap standing (sym is) ∙ none in absurd cc;
              within = now;
              met = λ other stands.
                  let told : Some fault ≡ Some other = ap standing (sym is) ∙ stands in
                  let one : fault ≡ other = cc in
                  subst (λ fault. IsMet limits left k fault) one
                  (full_is_met limits left m k fault now
                  (subst (λ limit. length m.payload ≤ limit) within.message (within_limit rest.limit m takes.is_message)) full);
            }

        by_result : (told : Result (Unit {0}) SessionFault) → result ≡ told → Stops Hears rest k told left → Arrived Is Knows limits result left k behind
        by_result (Ok done) is (waits, same) = record {
          rest = messages;
          are = are;
          knows = knows;
          way = λ none. record {
            each = each;
            octets = octets ∙ ap (λ (unread : Unread). unread.octets ++ behind) (sym same);
            waits = subst Waits (sym same) waits;
          };
          within = subst (λ unread. IsWithin limits unread k) (sym same) within;
          met = λ fault stands. let wrong : None ≡ Some fault = ap standing (sym is) ∙ stands in absurd cc;
        }
        by_result (Err fault) is stop = by_stop fault is stop

    -- what it is fed
    pub fed : (unread : Unread) (messages : List Msg) (h : Held R E) (octets outgoing : List ℕ) → AllByRecursion Is messages → Knows h messages
        → IsWithin limits unread h → OnTheWay unread messages outgoing → outgoing ≡ octets ++ behind → (result ≢ Err why.NoMemory)
        → Fed Hears (with_octets unread octets) h result left k → Arrived Is Knows limits result left k behind
    fed unread messages h octets outgoing are knows within way parts memory is =
        let whole : flat_map message_octets messages ≡ flat_map message_octets is.messages ++ (is.rest.octets ++ behind) =
        way.octets
        ∙ ap (λ l. unread.octets ++ l) parts
        ∙ sym (append_assoc unread.octets octets behind)
        ∙ ap (λ l. l ++ behind) is.taken.octets
        ∙ append_assoc (flat_map message_octets is.messages) is.rest.octets behind in
        let taken : All IsFramed is.messages = λ n d below. framed_by unread.limit _ (is.taken.each n d below) in
        let first = are_first is.messages messages (is.rest.octets ++ behind) taken way.each whole in
        let all_are = subst (AllByRecursion Is) first.split are in
        let went = through is.messages first.rest h k all_are (subst (Knows h) first.split knows) is.heard in
        stopped is.rest first.rest (last_each Is is.messages first.rest all_are) went.knows (record {
          message = is.taken.limit ∙ within.message;
          calls = went.calls ∙ within.calls;
          room = went.room ∙ within.room;
        }) first.octets memory is.stops
