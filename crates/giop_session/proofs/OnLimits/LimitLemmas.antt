-- Events that are within the limits of an end meet none.
use Rattle.std.proofs.Common.{◌≡◌, ◌≢◌, ◌⊎◌, ℕ, ◌+◌, ◌≤◌, ◌==◌, ◌&&◌, ◌||◌, nat_lt, Bool, true, false, cond, List, [], ◌∷◌, ◌++◌, length, sum_by, Option, Some, None, is_some, is_none, Result, Ok, Err, refl, sym, ap, subst, ◌∙◌, arith, inl, inr}
use Rattle.std.proofs.lemmas.Bool.Decides.{nat_tests}
use Rattle.std.proofs.lemmas.List.Sums.{sum_by-cons}
use Rattle.std.proofs.lemmas.List.Sorted.{list_any-IsPermutation, sum_by-IsPermutation}
use Rattle.std.specs.List.{list_any}
use Rattle.std.specs.Option.{option_map, option_or}
use Rattle.std.specs.FinMap as finite
use Rattle.giop_cdr.specs.declared.fault.CdrFault.{CdrFault}
use Rattle.giop_msg.specs.declared.kind.Kind.{Kind}
use Rattle.giop_msg.specs.declared.msg.Msg.{Msg}
use Rattle.giop_msg.specs.RequestId.{request_id_of}
use Rattle.giop_ids.specs.ById.{ById, put, is_listed, HasOnly}
use Rattle.giop_ids.specs.Runs.{Does as DoesAct, RefusedAs, left, refusal_of, within}
use Rattle.giop_ids.proofs.Lengths.{len_within_ids, HasOnly-empty}
use Rattle.giop_ids.proofs.Puts.{eq_itself, get-put, len-put_new}
use Rattle.giop_ids.proofs.Sums.{sum_empty}
use Rattle.giop_frag.specs.Gathered.{Pieces, octets_in, total_of}
use Rattle.giop_frag.proofs.TotalLemmas.{octets_in-grown, total_put}
use Rattle.giop_mux.specs.Calls.{is_one_too_many}
use Rattle.giop_mux.specs.Runs.{Hears as IsTold, IsTaken as TakesOut}
use Rattle.giop_mux.specs.declared.step.Step.{Step}
use Rattle.giop_end.specs.declared.limits.Limits.{Limits}
use Rattle.giop_table.specs.declared.plan.Planned.{Planned}
use Rattle.giop_end.specs.declared.session_fault.SessionFault.{SessionFault}
use Rattle.giop_end.specs.declared.session_fault.SessionFault.TheVariants as session
use Rattle.giop_table.specs.declared.slot.Slot.{Slot}
use Rattle.giop_table.specs.declared.table_fault.TableFault.{TableFault}
use Rattle.giop_table.specs.declared.table_fault.TableFault.TheVariants.{Rule, TooManyCalls, GatherFull, StillOpen, NoMemory}
use Rattle.giop_session.specs.Runs.Alone.{names_by}
use Rattle.giop_end.specs.Ends.Begun.{no_calls}
use Rattle.giop_table.specs.CallTable.{Act, Brings, Call, First, Hears, Held, IsTaken, More, Nothing, Reply, Turned, at, brought, calls_fault, gathers, limit, octets_fault, room_fault, rules_of, taken, turn, turned}
use Rattle.giop_session.specs.Runs.Events.{Accepts, Comes, Does, Event, Meets}
use Rattle.giop_end.specs.Hearing.Heard.{IsHeard, heard_by, SideOf, rules_at}
use Rattle.giop_session.specs.Runs.Limits.{AreWithin, IsNext, Refuses, octets_of, octets_with, opens}
use Rattle.giop_table.specs.Sending.{Sends, sending_step, sends_of, settled_by, unsent_of}
use Rattle.giop_end.specs.Ends.SessionFaults.{of_table}

-- ---- plain facts

-- what is put, if anything is, stands under a listed id
put_only : {V : Type 0} (m : ById V) (ids : List ℕ) (id : ℕ) (held : Option V) → HasOnly m ids
    → (is_some held ≡ true → is_listed ids id ≡ true) → HasOnly (put m id held) ids
put_only m ids id held only listed q there =
    elim (q == id) as (λ b. (q == id) ≡ b → is_listed ids q ≡ true) [
      | true ↦ λ e.
          let same : id ≡ q = grind (arith, nat_tests) in
          ap (is_listed ids) (sym same) ∙ listed (sym (ap is_some (get-put m id held q ∙ ap (λ b. cond b held (finite.get m q)) e)) ∙ there)
      | false ↦ λ e. only q (sym (ap is_some (get-put m id held q ∙ ap (λ b. cond b held (finite.get m q)) e)) ∙ there)
    ] refl

-- how many octets are brought
abbrev pub brought_by : Brings → ℕ
brought_by (First order octets) = length octets
brought_by (More octets) = length octets
brought_by Nothing = 0

brought_grows : (brings : Brings) (pieces : Option Pieces) → octets_in (brought brings pieces) ≤ octets_in pieces + brought_by brings
brought_grows (First order octets) pieces = omega arith
brought_grows (More octets) None = omega arith
brought_grows (More octets) (Some p) = let longer = octets_in-grown (Some p) octets refl in omega arith
brought_grows Nothing pieces = omega arith

kept_grows : (b : Bool) (brings : Brings) (pieces : Option Pieces)
    → octets_in (cond b (brought brings pieces) None) ≤ octets_in pieces + brought_by brings
kept_grows true brings pieces = brought_grows brings pieces
kept_grows false brings pieces = omega arith

not_over : (most n : ℕ) → n ≤ most → nat_lt most n ≡ false
not_over most n fits = grind (arith, nat_tests)

neither : {X : Type 0} (one other : Option X) → one ≡ None → other ≡ None → option_or one other ≡ None
neither None None first second = refl
neither None (Some x) first second = second
neither (Some x) other first second = absurd cc

none_if : {X : Type 0} (b : Bool) (found : Option X) → found ≡ None → cond b found None ≡ None
none_if true found none = none
none_if false found none = refl

-- one too many: an id without a slot gets one, and there are as many as there may be
too_many : {E : Type 0} (held slot : Option E) (full : Bool) → (is_none held && is_some slot && full) ≡ true
    → (held ≡ None) × (is_some slot ≡ true) × (full ≡ true)
too_many None (Some e) true is = (refl, refl, refl)
too_many None (Some e) false is = absurd cc
too_many None None full is = absurd cc
too_many (Some e) slot full is = absurd cc

-- ---- one act

-- the calls have slots under listed ids alone, of which there are few enough, and there is room for n octets more
pub record Fits {R E : Type 0} (h : Held R E) (ids : List ℕ) (n : ℕ) : Type 0 where
  pub only : HasOnly h.table ids
  pub few : length ids ≤ h.calls
  pub room : total_of h.gathered + n ≤ h.room

-- a refusal that is for no limit
abbrev pub IsFree : {F : Type 0} → TableFault F → Type 0
IsFree why = (why ≢ TooManyCalls) × (why ≢ GatherFull)

module _ {E V A F : Type 0} (next : Option E → V → Step E A F) (closed gathering : E → Bool) (begins : V → Bool)
    (begins_only : (v : V) → is_some (next None v).entry ≡ true → begins v ≡ true) where
  -- an act asks for a listed id where a call may begin, and for room for n octets at most
  abbrev pub Asks : List ℕ → ℕ → ℕ → Act V → Type 0
  Asks ids n id (Hears planned brings) = (begins planned.event ≡ true → is_listed ids id ≡ true) × (brought_by brings ≤ n)
  Asks ids n id IsTaken = Unit {0}

  begun : (slot : Option (Slot E)) (planned : Planned V) → is_some (sending_step next slot planned).entry ≡ true
      → (is_some slot ≡ true) ⊎ (begins planned.event ≡ true)
  begun (Some slot) planned is = inl refl
  begun None planned is = inr (begins_only planned.event (by_outcome (next None planned.event).entry (next None planned.event).outcome is))
    where
      by_outcome : (entry : Option E) (outcome : Result A F) → is_some (settled_by entry planned.plan [] outcome).entry ≡ true → is_some entry ≡ true
      by_outcome None (Ok answer) is = is
      by_outcome None (Err fault) is = is
      by_outcome (Some entry) outcome is = refl

  -- where a slot stands then its id is listed
  listed_then : {R : Type 0} (h : Held R E) (ids : List ℕ) (id : ℕ) (planned : Planned V) → HasOnly h.table ids
      → (begins planned.event ≡ true → is_listed ids id ≡ true)
      → is_some (sending_step next (finite.get h.table id) planned).entry ≡ true → is_listed ids id ≡ true
  listed_then h ids id planned only asked is = either (begun (finite.get h.table id) planned is)
    where
      either : (is_some (finite.get h.table id) ≡ true) ⊎ (begins planned.event ≡ true) → is_listed ids id ≡ true
      either (inl had) = only id had
      either (inr begins_so) = asked begins_so

  abbrev call_left : {R : Type 0} → Held R E → ℕ → Act V → Call E
  call_left h id act = left (at h id) (turn next closed gathering (at h id) act)

  slot_left : {R : Type 0} (h : Held R E) (ids : List ℕ) (n id : ℕ) (act : Act V) → HasOnly h.table ids → Asks ids n id act
      → is_some (call_left h id act).slot ≡ true → is_listed ids id ≡ true
  slot_left h ids n id (Hears planned brings) only asks =
      by_outcome (sending_step next (finite.get h.table id) planned).entry
      (sends_of planned.plan (unsent_of (finite.get h.table id)) (sending_step next (finite.get h.table id) planned).outcome)
      (listed_then h ids id planned only asks.0)
    where
      by_outcome : (slot : Option (Slot E)) (outcome : Result (Sends A) F) → (is_some slot ≡ true → is_listed ids id ≡ true)
          → is_some (left (at h id) (turned gathering (brought brings (finite.get h.gathered id)) slot outcome)).slot ≡ true
          → is_listed ids id ≡ true
      by_outcome slot (Ok sends) listed is = listed is
      by_outcome slot (Err fault) listed is = only id is
  slot_left h ids n id IsTaken only asks = by_over (option_map (λ slot. closed slot.entry) (finite.get h.table id))
    where
      by_over : (over : Option Bool) → is_some (left (at h id) (taken {A = A} {F = F} over (at h id))).slot ≡ true → is_listed ids id ≡ true
      by_over None is = absurd cc
      by_over (Some true) is = absurd cc
      by_over (Some false) is = only id is

  pieces_left : {R : Type 0} (h : Held R E) (ids : List ℕ) (n id : ℕ) (act : Act V) → Asks ids n id act
      → octets_in (call_left h id act).pieces ≤ octets_in (finite.get h.gathered id) + n
  pieces_left h ids n id (Hears planned brings) asks =
      by_outcome (sending_step next (finite.get h.table id) planned).entry
      (sends_of planned.plan (unsent_of (finite.get h.table id)) (sending_step next (finite.get h.table id) planned).outcome)
    where
      by_outcome : (slot : Option (Slot E)) (outcome : Result (Sends A) F)
          → octets_in (left (at h id) (turned gathering (brought brings (finite.get h.gathered id)) slot outcome)).pieces
          ≤ octets_in (finite.get h.gathered id) + n
      by_outcome slot (Ok sends) =
          let grows = kept_grows (gathers gathering slot) brings (finite.get h.gathered id) in
          let little = asks.1 in
          omega arith
      by_outcome slot (Err fault) = omega arith
  pieces_left h ids n id IsTaken asks = by_over (option_map (λ slot. closed slot.entry) (finite.get h.table id))
    where
      by_over : (over : Option Bool) → octets_in (left (at h id) (taken {A = A} {F = F} over (at h id))).pieces ≤ octets_in (finite.get h.gathered id) + n
      by_over None = omega arith
      by_over (Some true) = omega arith
      by_over (Some false) = omega arith

  -- so it leaves room for what else was to come
  pub fits_then : {R : Type 0} (h k : Held R E) (ids : List ℕ) (n rest id : ℕ) (act : Act V) (result : Result (Reply E A) (TableFault F))
      → Fits h ids (n + rest) → Asks ids n id act → DoesAct (rules_of next closed gathering) h (record { id = id; what = act }) result k
      → Fits k ids rest
  fits_then h k ids n rest id act (Err why) fits asks does = subst (λ s. Fits s ids rest) (sym does.leaves) (record {
    only = fits.only;
    few = fits.few;
    room = let room = fits.room in omega arith;
  })
  fits_then h k ids n rest id act (Ok reply) fits asks does = subst (λ s. Fits s ids rest) (sym does.leaves) (record {
    only = put_only h.table ids id (call_left h id act).slot fits.only (slot_left h ids n id act fits.only asks);
    few = fits.few;
    room =
        let changes = total_put h.gathered id (call_left h id act).pieces in
        let grows = pieces_left h ids n id act asks in
        let room = fits.room in
        omega arith;
  })

  never_many : {R : Type 0} (h : Held R E) (ids : List ℕ) (id : ℕ) (slot : Option (Slot E)) → HasOnly h.table ids → length ids ≤ h.calls
      → (is_some slot ≡ true → is_listed ids id ≡ true) → is_one_too_many h.table h.calls id slot ≡ true → ⊥
  never_many h ids id None only few listed is =
      let all = too_many {E = Slot E} (finite.get h.table id) None (finite.len h.table == h.calls) is in let wrong = all.1 in cc
  never_many h ids id (Some slot) only few listed is =
      let all = too_many (finite.get h.table id) (Some slot) (finite.len h.table == h.calls) is in
      let most = len_within_ids ids (put h.table id (Some slot)) (put_only h.table ids id (Some slot) only listed) in
      let more = len-put_new h.table id slot all.0 in
      let full : (finite.len h.table == h.calls) ≡ true = all.2 in
      let same : finite.len h.table ≡ h.calls = grind (arith, nat_tests) in
      omega arith

  calls_free : {R : Type 0} (h : Held R E) (ids : List ℕ) (id : ℕ) (slot : Option (Slot E)) → HasOnly h.table ids → length ids ≤ h.calls
      → (is_some slot ≡ true → is_listed ids id ≡ true) → calls_fault {F = F} h id slot ≡ None
  calls_free h ids id slot only few listed = by_many (is_one_too_many h.table h.calls id slot) (never_many h ids id slot only few listed)
    where
      by_many : (many : Bool) → (many ≡ true → ⊥) → ◌≡◌ {A = Option (TableFault F)} (cond many (Some TooManyCalls) None) None
      by_many true never = absurd (never refl)
      by_many false never = refl

  octets_free : {R : Type 0} (h : Held R E) (n : ℕ) → total_of h.gathered + n ≤ h.room → octets_fault {F = F} h n ≡ None
  octets_free h n fits = ap (λ b. cond b (Some GatherFull) None) (not_over h.room (total_of h.gathered + n) fits)

  room_free : {R : Type 0} (h : Held R E) (id n : ℕ) (slot : Option (Slot E)) (brings : Brings) → brought_by brings ≤ n → total_of h.gathered + n ≤ h.room
      → room_fault {F = F} gathering h id slot brings ≡ None
  room_free h id n slot (First order octets) little fits =
      none_if (gathers gathering slot) (octets_fault h (length octets)) (octets_free h (length octets) (omega arith))
  room_free h id n slot (More octets) little fits =
      none_if (gathers gathering (finite.get h.table id)) (octets_fault h (length octets)) (octets_free h (length octets) (omega arith))
  room_free h id n slot Nothing little fits = refl

  -- it meets no limit
  no_limit : {R : Type 0} (h : Held R E) (ids : List ℕ) (n rest id : ℕ) (act : Act V) → Fits h ids (n + rest) → Asks ids n id act
      → limit next closed gathering h id act ≡ None
  no_limit h ids n rest id (Hears planned brings) fits asks =
      let slot = (sending_step next (finite.get h.table id) planned).entry in
      let room = fits.room in
      neither (calls_fault h id slot) (room_fault gathering h id slot brings)
      (calls_free h ids id slot fits.only fits.few (listed_then h ids id planned fits.only asks.0))
      (room_free h id n slot brings asks.1 (omega arith))
  no_limit h ids n rest id IsTaken fits asks = refl

  -- a call's own refusal is for none
  own_free : {R : Type 0} (h : Held R E) (id : ℕ) (act : Act V) (why : TableFault F) → turn next closed gathering (at h id) act ≡ Err why → IsFree why
  own_free h id (Hears planned brings) why =
      by_outcome (sending_step next (finite.get h.table id) planned).entry
      (sends_of planned.plan (unsent_of (finite.get h.table id)) (sending_step next (finite.get h.table id) planned).outcome)
    where
      by_outcome : (slot : Option (Slot E)) (outcome : Result (Sends A) F)
          → turned gathering (brought brings (finite.get h.gathered id)) slot outcome ≡ Err why → IsFree why
      by_outcome slot (Ok sends) is = absurd cc
      by_outcome slot (Err fault) is = (λ same. cc, λ same. cc)
  own_free h id IsTaken why = by_over (option_map (λ slot. closed slot.entry) (finite.get h.table id))
    where
      by_over : (over : Option Bool) → taken {A = A} {F = F} over (at h id) ≡ Err why → IsFree why
      by_over None is = absurd cc
      by_over (Some true) is = absurd cc
      by_over (Some false) is = (λ same. cc, λ same. cc)

  told_free : (why : TableFault F) (done : Turned E A F) → ((fault : TableFault F) → done ≡ Err fault → IsFree fault)
      → RefusedAs NoMemory why (refusal_of (within None done)) → IsFree why
  told_free why (Ok done) own (inl found) = absurd cc
  told_free why (Ok done) own (inr (wanting, none)) = (λ same. cc, λ same. cc)
  told_free why (Err fault) own (inl found) = let same : fault ≡ why = cc in own why (ap Err same)
  told_free why (Err fault) own (inr (wanting, none)) = absurd cc

  pub refused_free : {R : Type 0} (h k : Held R E) (ids : List ℕ) (n rest id : ℕ) (act : Act V) (why : TableFault F)
      → Fits h ids (n + rest) → Asks ids n id act → DoesAct (rules_of next closed gathering) h (record { id = id; what = act }) (Err why) k
      → IsFree why
  refused_free h k ids n rest id act why fits asks does =
      told_free why (turn next closed gathering (at h id) act) (own_free h id act)
      (subst (λ over. RefusedAs NoMemory why (refusal_of (within over (turn next closed gathering (at h id) act))))
      (no_limit h ids n rest id act fits asks) does.refusal)

-- ---- events

-- what a message does to a call begins one only where the message asks for it, and brings at most so many octets
abbrev pub IsSmall : {V : Type 0} → (V → Bool) → Bool → ℕ → Act V → Type 0
IsSmall begins asked n (Hears planned brings) = (begins planned.event ≡ true → asked ≡ true) × (brought_by brings ≤ n)
IsSmall begins asked n IsTaken = Unit {0}

-- what an end tells is for no limit
abbrev pub IsUnlimited : SessionFault → Type 0
IsUnlimited why = (why ≢ session.TooManyCalls) × (why ≢ session.GatherFull)

module _ {R E V A F : Type 0} (side : SideOf R E V A F) (asks : Kind → Bool) (begins : V → Bool)
    (begins_only : (rule : R) (v : V) → is_some (side.next rule None v).entry ≡ true → begins v ≡ true)
    (small : (m : Msg) (call : Call E) → IsSmall begins (asks m.kind) (octets_with m) (side.act_by m call))
    (own : (id : ℕ) (fault : F) → IsUnlimited (side.of_rule id fault))
    (broken : (m : Msg) (why : SessionFault) → side.breaks m ≡ Some why → IsUnlimited why) where
  -- what a message asks of the call that it names
  asked : (ids : List ℕ) (id n : ℕ) (asking : Bool) (act : Act V) (rule : R) → IsSmall begins asking n act
      → (asking ≡ true → is_listed ids id ≡ true) → Asks (side.next rule) (side.closed rule) side.gathering begins (begins_only rule) ids n id act
  asked ids id n asking (Hears planned brings) rule (when, little) listed = (λ begins_so. listed (when begins_so), little)
  asked ids id n asking IsTaken rule all listed = tt

  -- what a table refuses for no limit, its end does
  pub table_free : (id : ℕ) (why : TableFault F) → IsFree why → IsUnlimited (of_table (side.of_rule id) why)
  table_free id (Rule fault) free = own id fault
  table_free id TooManyCalls free = absurd (free.0 refl)
  table_free id GatherFull free = absurd (free.1 refl)
  table_free id StillOpen free = (λ same. cc, λ same. cc)
  table_free id NoMemory free = (λ same. cc, λ same. cc)

  abbrev HeardSo : Msg → Held R E → Option SessionFault → Option (Result ℕ CdrFault) → Result (Unit {0}) SessionFault → Held R E → Type 0
  HeardSo m h breaking name result k =
      IsHeard (rules_at side h.rule) side.of_rule (heard_by breaking name (λ id. side.act_by m (at h id))) h result k

  abbrev ListedBy : List ℕ → Msg → Option (Result ℕ CdrFault) → Type 0
  ListedBy ids m name = (id : ℕ) → (asks m.kind && names_by name id) ≡ true → is_listed ids id ≡ true

  named_so : (asking : Bool) (id : ℕ) → asking ≡ true → (asking && (id == id)) ≡ true
  named_so true id is = eq_itself id
  named_so false id is = is

  asked_named : (ids : List ℕ) (m : Msg) (h : Held R E) (id : ℕ) → ListedBy ids m (Some (Ok id))
      → Asks (side.next h.rule) (side.closed h.rule) side.gathering begins (begins_only h.rule) ids (octets_with m) id (side.act_by m (at h id))
  asked_named ids m h id listed =
      asked ids id (octets_with m) (asks m.kind) (side.act_by m (at h id)) h.rule (small m (at h id)) (λ is. listed id (named_so (asks m.kind) id is))

  -- a message that is heard leaves room for what else was to come
  pub heard_fits : (m : Msg) (h k : Held R E) (ids : List ℕ) (rest : ℕ) (breaking : Option SessionFault) (name : Option (Result ℕ CdrFault))
      → Fits h ids (octets_with m + rest) → ListedBy ids m name → HeardSo m h breaking name (Ok tt) k → Fits k ids rest
  heard_fits m h k ids rest breaking name fits listed (inl both) = absurd cc
  heard_fits m h k ids rest (Some why) name fits listed (inr both) = absurd cc
  heard_fits m h k ids rest None None fits listed (inr both) = absurd cc
  heard_fits m h k ids rest None (Some (Err fault)) fits listed (inr both) = absurd cc
  heard_fits m h k ids rest None (Some (Ok id)) fits listed (inr (Err why, does, is)) = absurd cc
  heard_fits m h k ids rest None (Some (Ok id)) fits listed (inr (Ok sends, does, is)) =
      fits_then (side.next h.rule) (side.closed h.rule) side.gathering begins (begins_only h.rule) h k ids (octets_with m) rest id (side.act_by m (at h id)) _
      fits (asked_named ids m h id listed) does

  -- one that is refused is so for no limit
  pub heard_free : (m : Msg) (h k : Held R E) (ids : List ℕ) (rest : ℕ) (breaking : Option SessionFault) (name : Option (Result ℕ CdrFault))
      (why : SessionFault) → ((other : SessionFault) → breaking ≡ Some other → IsUnlimited other)
      → Fits h ids (octets_with m + rest) → ListedBy ids m name → HeardSo m h breaking name (Err why) k → IsUnlimited why
  heard_free m h k ids rest breaking name why breaks_so fits listed (inl both) = let want = both.0 in (λ same. cc, λ same. cc)
  heard_free m h k ids rest (Some other) name why breaks_so fits listed (inr both) =
      let told = both.0 in let same : other ≡ why = cc in breaks_so why (ap Some same)
  heard_free m h k ids rest None None why breaks_so fits listed (inr both) = let told = both.0 in (λ same. cc, λ same. cc)
  heard_free m h k ids rest None (Some (Err fault)) why breaks_so fits listed (inr both) = let told = both.0 in (λ same. cc, λ same. cc)
  heard_free m h k ids rest None (Some (Ok id)) why breaks_so fits listed (inr (Ok sends, does, is)) = absurd cc
  heard_free m h k ids rest None (Some (Ok id)) why breaks_so fits listed (inr (Err fault, does, is)) =
      let free = table_free id fault
      (refused_free (side.next h.rule) (side.closed h.rule) side.gathering begins (begins_only h.rule) h k ids (octets_with m) rest id
      (side.act_by m (at h id)) fault
      fits (asked_named ids m h id listed) does) in
      let same : of_table (side.of_rule id) fault ≡ why = cc in
      subst IsUnlimited same free

  -- each id under which one of these events may open a call is listed
  abbrev pub Listed : List ℕ → List (Event V) → Type 0
  Listed ids events = (id : ℕ) → list_any (λ e. opens asks begins e id) events ≡ true → is_listed ids id ≡ true

  behind : (b : Bool) {c : Bool} → c ≡ true → (b || c) ≡ true
  behind true is = refl
  behind false is = is

  listed_first : (ids : List ℕ) (e : Event V) (events : List (Event V)) → Listed ids (e ∷ events)
      → (id : ℕ) → opens asks begins e id ≡ true → is_listed ids id ≡ true
  listed_first ids e events listed id is = listed id (ap (λ b. b || list_any (λ one. opens asks begins one id) events) is)

  listed_rest : (ids : List ℕ) (e : Event V) (events : List (Event V)) → Listed ids (e ∷ events) → Listed ids events
  listed_rest ids e events listed id is = listed id (behind (opens asks begins e id) is)

  -- what the end does itself
  asked_own : (ids : List ℕ) (id : ℕ) (planned : Planned V) (rule : R) → ((q : ℕ) → (begins planned.event && (q == id)) ≡ true → is_listed ids q ≡ true)
      → Asks (side.next rule) (side.closed rule) side.gathering begins (begins_only rule) ids 0 id (Hears planned Nothing)
  asked_own ids id planned rule listed = (λ begins_so. listed id (named_so (begins planned.event) id begins_so), omega arith)

  -- an event that is accepted leaves room for the others
  pub first_fits : (h k : Held R E) (ids : List ℕ) (e : Event V) (events : List (Event V)) → Fits h ids (sum_by octets_of (e ∷ events))
      → Listed ids (e ∷ events) → Accepts side e h k → Fits k ids (sum_by octets_of events)
  first_fits h k ids (Comes m) events fits listed accepts =
      heard_fits m h k ids (sum_by octets_of events) (side.breaks m) (request_id_of m)
      (subst (Fits h ids) (sum_by-cons octets_of (Comes m) events) fits) (listed_first ids (Comes m) events listed) accepts
  first_fits h k ids (Does id (IsTold planned)) events fits listed (reply, does) =
      fits_then (side.next h.rule) (side.closed h.rule) side.gathering begins (begins_only h.rule) h k ids 0 (sum_by octets_of events) id
      (Hears planned Nothing) (Ok reply)
      (subst (Fits h ids) (sum_by-cons octets_of (Does id (IsTold planned)) events) fits)
      (asked_own ids id planned h.rule (listed_first ids (Does id (IsTold planned)) events listed)) does
  first_fits h k ids (Does id TakesOut) events fits listed (reply, does) =
      fits_then (side.next h.rule) (side.closed h.rule) side.gathering begins (begins_only h.rule) h k ids 0 (sum_by octets_of events) id IsTaken (Ok reply)
      (subst (Fits h ids) (sum_by-cons octets_of (Does id TakesOut) events) fits) tt does

  -- one that is refused is so for no limit
  first_free : (h : Held R E) (ids : List ℕ) (e : Event V) (events : List (Event V)) (why : SessionFault) → Fits h ids (sum_by octets_of (e ∷ events))
      → Listed ids (e ∷ events) → Refuses side e h why → IsUnlimited why
  first_free h ids (Comes m) events why fits listed (k, heard) =
      heard_free m h k ids (sum_by octets_of events) (side.breaks m) (request_id_of m) why (broken m)
      (subst (Fits h ids) (sum_by-cons octets_of (Comes m) events) fits) (listed_first ids (Comes m) events listed) heard
  first_free h ids (Does id (IsTold planned)) events why fits listed (k, fault, does, is) = subst IsUnlimited (sym is) (table_free id fault
      (refused_free (side.next h.rule) (side.closed h.rule) side.gathering begins (begins_only h.rule) h k ids 0 (sum_by octets_of events) id
      (Hears planned Nothing) fault
      (subst (Fits h ids) (sum_by-cons octets_of (Does id (IsTold planned)) events) fits)
      (asked_own ids id planned h.rule (listed_first ids (Does id (IsTold planned)) events listed)) does))
  first_free h ids (Does id TakesOut) events why fits listed (k, fault, does, is) = subst IsUnlimited (sym is) (table_free id fault
      (refused_free (side.next h.rule) (side.closed h.rule) side.gathering begins (begins_only h.rule) h k ids 0 (sum_by octets_of events) id IsTaken fault
      (subst (Fits h ids) (sum_by-cons octets_of (Does id TakesOut) events) fits) tt does))

  -- whatever came of events that fit
  next_free : (h k : Held R E) (ids : List ℕ) (came rest : List (Event V)) (e : Event V) (why : SessionFault)
      → Fits h ids (sum_by octets_of (came ++ e ∷ rest)) → Listed ids (came ++ e ∷ rest)
      → Meets side h came k → Refuses side e k why → IsUnlimited why
  next_free h k ids [] rest e why fits listed met refuses =
      first_free k ids e rest why (subst (λ s. Fits s ids (sum_by octets_of (e ∷ rest))) (sym met) fits) listed refuses
  next_free h k ids (one ∷ came) rest e why fits listed (mid, first, others) refuses =
      next_free mid k ids came rest e why (first_fits h mid ids one (came ++ e ∷ rest) fits listed first)
      (listed_rest ids one (came ++ e ∷ rest) listed) others refuses

  -- a new end
  pub new_fits : (rule : R) (limits : Limits) (ids : List ℕ) (n : ℕ) → length ids ≤ limits.calls → n ≤ limits.gathered
      → Fits (no_calls {E = E} rule limits) ids n
  new_fits rule limits ids n few room = record {
    only = HasOnly-empty (Slot E) ids;
    few = few;
    room = let none = sum_empty (λ (p : Pieces). length p.octets) in omega arith;
  }

  pub in_any_order : (rule : R) (limits : Limits) (all came : List (Event V)) (e : Event V) (h : Held R E) (why : SessionFault)
      → AreWithin asks begins limits all → IsNext all came e
      → Meets side (no_calls rule limits) came h → Refuses side e h why
      → IsUnlimited why
  in_any_order rule limits all came e h why within_limits (rest, ordered) met refuses =
      let same = sum_by-IsPermutation octets_of all (came ++ e ∷ rest) ordered in
      let room = within_limits.octets in
      next_free (no_calls rule limits) h within_limits.calls.ids came rest e why
      (new_fits rule limits within_limits.calls.ids (sum_by octets_of (came ++ e ∷ rest)) within_limits.calls.few (omega arith))
      (λ id is. within_limits.calls.listed id (list_any-IsPermutation (λ one. opens asks begins one id) all (came ++ e ∷ rest) ordered ∙ is))
      met refuses
