-- A message that its call accepts is heard, and acts on that call alone, unless a limit of its end is met.
use Rattle.std.proofs.Common.{◌≡◌, ◌≢◌, ◌⊎◌, ℕ, ◌+◌, ◌<◌, ◌≤◌, ◌&&◌, ◌==◌, nat_lt, Bool, true, false, cond, List, length, Option, Some, None, is_none, is_some, Result, Ok, Err, IsOk, refl, sym, ap, subst, ◌∙◌, inl, inr, arith}
use Rattle.std.proofs.lemmas.Bool.Decides.{nat_tests}
use Rattle.std.specs.Option.{option_map, option_or}
use Rattle.std.specs.FinMap as finite
use Rattle.giop_cdr.specs.declared.order.Order.{Order}
use Rattle.giop_cdr.specs.declared.order.Order.TheVariants.{Big, Little}
use Rattle.giop_frag.specs.Gathered.{Pieces, total_of}
use Rattle.giop_ids.specs.Runs.{RefusedAs, Rules, left, refusal_of, within}
use Rattle.giop_ids.proofs.Puts.{get-put_other, get-put_same}
use Rattle.giop_msg.specs.declared.msg.Msg.{Msg}
use Rattle.giop_mux.specs.Faults.{no_fault}
use Rattle.giop_mux.specs.Calls.{is_one_too_many}
use Rattle.giop_mux.specs.declared.step.Step.{Step}
use Rattle.giop_calls.specs.Lane.{taken}
use Rattle.giop_calls.specs.Messages.{is_same_order}
use Rattle.giop_calls.specs.declared.fault.CallFault.{CallFault}
use Rattle.giop_table.specs.declared.plan.Planned.{Planned}
use Rattle.giop_end.specs.declared.session_fault.SessionFault.{SessionFault}
use Rattle.giop_end.specs.declared.session_fault.SessionFault.TheVariants as session
use Rattle.giop_table.specs.declared.slot.Slot.{Slot}
use Rattle.giop_table.specs.declared.table_fault.TableFault.{TableFault}
use Rattle.giop_table.specs.declared.table_fault.TableFault.TheVariants.{TooManyCalls, GatherFull, NoMemory}
use Rattle.giop_table.specs.CallTable.{Act, Brings, Call, First, Hears, Held, More, Nothing, Reply, Turned, at, brought, calls_fault, gathers, limit, octets_fault, put_call, room_fault, turn, turned}
use Rattle.giop_end.specs.Hearing.Heard.{ActsOn, IsHeard, heard_by, heard_of, silently, SideOf, turn_at, rules_at, hears}
use Rattle.giop_session.specs.Worlds.OnTheWay.{Names}
use Rattle.giop_table.specs.Sending.{entry_of, sending_step, sends_of, settled_by, slot_of, unsent_of}
use Rattle.giop_end.specs.Ends.SessionFaults.{of_table}
use Rattle.giop_session.proofs.OnItems.ItemLemmas.{call_of, heard}
use Rattle.giop_session.proofs.OnLimits.LimitLemmas.{brought_by}
use Rattle.giop_session.proofs.OnLanes.NextHeard.{IsBeside, IsFull}

-- ---- plain facts

less : (n m : ℕ) → nat_lt n m ≡ true → n < m
less n m is = grind (arith, nat_tests)

pub same_number : (n m : ℕ) → (n == m) ≡ true → n ≡ m
same_number n m is = grind (arith, nat_tests)

third : (one other last : Bool) → (one && other && last) ≡ true → last ≡ true
third one other true is = refl
third true true false is = absurd cc
third true false false is = absurd cc
third false other false is = absurd cc

either : {X : Type 0} (one other : Option X) (x : X) → option_or one other ≡ Some x → (one ≡ Some x) ⊎ (other ≡ Some x)
either None other x is = inr is
either (Some y) other x is = inl is

-- two orders that are one
pub same_orders : (one other : Order) → is_same_order one other ≡ true → one ≡ other
same_orders Big Big is = refl
same_orders Little Little is = refl
same_orders Big Little is = absurd cc
same_orders Little Big is = absurd cc

-- what something comes to by what it is made of
pub mapped : {A B : Type 0} (f : A → B) (o : Option A) (b : B) → option_map f o ≡ Some b → (a : A) × (o ≡ Some a) × (f a ≡ b)
mapped f None b is = absurd cc
mapped f (Some a) b is = (a, refl, cc)

-- an end of a lane takes what its rule accepts
pub accepted : {A : Type 0} (outcome : Result (Unit {0}) CallFault) (a b : A) → taken outcome a ≡ Some b → IsOk outcome × (a ≡ b)
accepted (Ok done) a b is = (refl, cc)
accepted (Err fault) a b is = absurd cc

-- the messages of a call that stays are unsent still
pub unsent_kept : {E : Type 0} (slot : Option (Slot E)) (after : Option E) → (is_some (entry_of slot) ≡ true → is_some after ≡ true)
    → unsent_of (slot_of after (unsent_of slot)) ≡ unsent_of slot
unsent_kept None None stays = refl
unsent_kept None (Some entry) stays = refl
unsent_kept (Some slot) (Some entry) stays = refl
unsent_kept (Some slot) None stays = no_fault (stays refl)

-- ---- one act

module _ {E V A F : Type 0} (next : Option E → V → Step E A F) (closed gathering : E → Bool) where
  -- an event that the rule accepts passes at its call
  pub passes : (call : Call E) (planned : Planned V) (brings : Brings) → IsOk (next (entry_of call.slot) planned.event).outcome
      → IsOk (turn next closed gathering call (Hears planned brings))
  passes call planned brings ok =
      by_outcome (next (entry_of call.slot) planned.event).entry (next (entry_of call.slot) planned.event).outcome ok
    where
      by_outcome : (entry : Option E) (outcome : Result A F) → IsOk outcome
          → IsOk (turned {E = E} gathering (brought brings call.pieces) (settled_by entry planned.plan (unsent_of call.slot) outcome).entry
          (sends_of planned.plan (unsent_of call.slot) outcome))
      by_outcome entry (Ok answer) ok = refl
      by_outcome entry (Err fault) ok = no_fault ok

  -- a limit that refuses a further entry
  many : {R : Type 0} (h : Held R E) (id : ℕ) (slot : Option (Slot E)) (why : TableFault F) → calls_fault {F = F} h id slot ≡ Some why
      → (why ≡ TooManyCalls) × (finite.len h.table ≡ h.calls)
  many h id slot why is = by_test (is_one_too_many h.table h.calls id slot) refl is
    where
      by_test : (b : Bool) → is_one_too_many h.table h.calls id slot ≡ b
          → ◌≡◌ {A = Option (TableFault F)} (cond b (Some TooManyCalls) None) (Some why) → (why ≡ TooManyCalls) × (finite.len h.table ≡ h.calls)
      by_test true here is = (
        let same : TooManyCalls ≡ why = cc in sym same,
        same_number (finite.len h.table) h.calls (third (is_none (finite.get h.table id)) (is_some slot) (finite.len h.table == h.calls) here),
      )
      by_test false here is = absurd cc

  -- and one that refuses octets
  full : {R : Type 0} (h : Held R E) (n : ℕ) (why : TableFault F) → octets_fault {F = F} h n ≡ Some why
      → (why ≡ GatherFull) × (h.room < total_of h.gathered + n)
  full h n why is = by_test (nat_lt h.room (total_of h.gathered + n)) refl is
    where
      by_test : (b : Bool) → nat_lt h.room (total_of h.gathered + n) ≡ b
          → ◌≡◌ {A = Option (TableFault F)} (cond b (Some GatherFull) None) (Some why) → (why ≡ GatherFull) × (h.room < total_of h.gathered + n)
      by_test true here is = (let same : GatherFull ≡ why = cc in sym same, less h.room (total_of h.gathered + n) here)
      by_test false here is = absurd cc

  full_if : {R : Type 0} (h : Held R E) (n : ℕ) (b : Bool) (why : TableFault F) → cond b (octets_fault {F = F} h n) None ≡ Some why
      → (why ≡ GatherFull) × (h.room < total_of h.gathered + n)
  full_if h n true why is = full h n why is
  full_if h n false why is = absurd cc

  no_room : {R : Type 0} (h : Held R E) (id : ℕ) (slot : Option (Slot E)) (brings : Brings) (why : TableFault F)
      → room_fault {F = F} gathering h id slot brings ≡ Some why → (why ≡ GatherFull) × (h.room < total_of h.gathered + brought_by brings)
  no_room h id slot (First order octets) why is = full_if h (length octets) (gathers gathering slot) why is
  no_room h id slot (More octets) why is = full_if h (length octets) (gathers gathering (finite.get h.table id)) why is
  no_room h id slot Nothing why is = absurd cc

  -- which limit refuses an event
  limit_met : {R : Type 0} (of_rule : F → SessionFault) (m : Msg) (h : Held R E) (id : ℕ) (planned : Planned V) (brings : Brings) (why : TableFault F)
      → brought_by brings ≤ length m.payload → limit next closed gathering h id (Hears planned brings) ≡ Some why
      → IsFull m h (of_table of_rule why)
  limit_met of_rule m h id planned brings why small is =
      by_limit (either (calls_fault {F = F} h id slot) (room_fault {F = F} gathering h id slot brings) why is)
    where
      slot : Option (Slot E)
      slot = (sending_step next (finite.get h.table id) planned).entry

      by_limit : (calls_fault {F = F} h id slot ≡ Some why) ⊎ (room_fault {F = F} gathering h id slot brings ≡ Some why)
          → IsFull m h (of_table of_rule why)
      by_limit (inl found) =
          let met = many h id slot why found in
          subst (λ one. IsFull m h (of_table of_rule one)) (sym met.0) met.1
      by_limit (inr found) =
          let met = no_room h id slot brings why found in
          let over = met.1 in
          let more : h.room < total_of h.gathered + length m.payload = omega arith in
          subst (λ one. IsFull m h (of_table of_rule one)) (sym met.0) more

-- ---- one message

module _ {R E V A F : Type 0} (next : R → Option E → V → Step E A F) (closed : R → E → Bool) (gathering : E → Bool) where
  -- what the call of an id is behind an event of a message
  abbrev pub call_behind : Held R E → ℕ → V → Brings → Call E
  call_behind h id event brings =
      call_of (next h.rule) (closed h.rule) gathering (next h.rule (entry_of (finite.get h.table id)) event).entry
      (unsent_of (finite.get h.table id)) (brought brings (finite.get h.gathered id))

  -- it acted on its call, or met a limit, and nothing changed
  abbrev pub Came : ℕ → Msg → V → Brings → Held R E → Result (Unit {0}) SessionFault → Held R E → Type 0
  Came id m event brings h (Ok done) k = k ≡ put_call h id (call_behind h id event brings)
  Came id m event brings h (Err why) k = (k ≡ h) × IsFull m h why

module _ {R E V A F : Type 0} (side : SideOf R E V A F) where
  -- a refusal of what its rule accepts is that of a limit
  refused_for : (over : Option (TableFault F)) (done : Turned E A F) (why : TableFault F) → IsOk done
      → RefusedAs NoMemory why (refusal_of (within over done)) → (over ≡ Some why) ⊎ (why ≡ NoMemory)
  refused_for None (Ok done) why ok (inl found) = absurd cc
  refused_for None (Ok done) why ok (inr (wanting, none)) = inr wanting
  refused_for (Some other) (Ok done) why ok (inl found) = inl found
  refused_for (Some other) (Ok done) why ok (inr (wanting, none)) = absurd cc
  refused_for over (Err fault) why ok refused = no_fault ok

  module _ (id : ℕ) (m : Msg) (event : V) (brings : Brings) (h k : Held R E)
      (small : brought_by brings ≤ length m.payload)
      (ok : IsOk (side.next h.rule (entry_of (finite.get h.table id)) event).outcome) where
    abbrev rules : Rules (Held R E) (Call E) (Act V) (Reply E A) (TableFault F)
    rules = rules_at side h.rule

    abbrev act : Act V
    act = Hears (silently event) brings

    turned_ok : IsOk (turn_at side h.rule (at h id) act)
    turned_ok = passes (side.next h.rule) (side.closed h.rule) side.gathering (at h id) (silently event) brings ok

    on_call : left (at h id) (turn_at side h.rule (at h id) act) ≡ call_behind side.next side.closed side.gathering h id event brings
    on_call = (heard (side.next h.rule) (side.closed h.rule) side.gathering (at h id) (silently event) brings turned_ok).leaves

    by_fault : (result : Result (Unit {0}) SessionFault) (fault : TableFault F) (why : SessionFault) → result ≢ Err session.NoMemory
        → result ≡ Err (of_table (side.of_rule id) fault) → result ≡ Err why
        → (limit (side.next h.rule) (side.closed h.rule) side.gathering h id act ≡ Some fault) ⊎ (fault ≡ NoMemory) → IsFull m h why
    by_fault result fault why memory is told (inl found) =
        let same : of_table (side.of_rule id) fault ≡ why = cc in
        subst (IsFull m h) same
        (limit_met (side.next h.rule) (side.closed h.rule) side.gathering (side.of_rule id) m h id (silently event) brings fault small found)
    by_fault result fault why memory is told (inr wanting) =
        absurd (memory (is ∙ ap (λ one. Err (of_table (side.of_rule id) one)) wanting))

    by_told : (result : Result (Unit {0}) SessionFault) → result ≢ Err session.NoMemory
        → IsHeard rules side.of_rule (ActsOn id act) h result k → Came side.next side.closed side.gathering id m event brings h result k
    by_told (Ok done) memory (inl both) = absurd cc
    by_told (Ok done) memory (inr (Ok sends, does, is)) = does.leaves ∙ ap (put_call h id) on_call
    by_told (Ok done) memory (inr (Err fault, does, is)) = absurd cc
    by_told (Err why) memory (inl both) = absurd (memory both.0)
    by_told (Err why) memory (inr (Ok sends, does, is)) = absurd cc
    by_told (Err why) memory (inr (Err fault, does, is)) = (
      does.leaves,
      by_fault (Err why) fault why memory is refl
          (refused_for (limit (side.next h.rule) (side.closed h.rule) side.gathering h id act) (turn_at side h.rule (at h id) act) fault
          turned_ok does.refusal),
    )

    -- so is an end that hears the message
    pub came : side.breaks m ≡ None → Names id m → side.act_by m (at h id) ≡ act → (result : Result (Unit {0}) SessionFault)
        → result ≢ Err session.NoMemory → hears side m h result k
        → Came side.next side.closed side.gathering id m event brings h result k
    came unbroken names is result memory hears =
        by_told result memory (subst (λ one. IsHeard rules side.of_rule one h result k) does hears)
      where
        does : heard_of side.breaks side.act_by h m ≡ ActsOn id act
        does = (λ i. heard_by (unbroken i) (names i) (λ id. side.act_by m (at h id))) ∙ ap (λ one. ActsOn id one) is

-- ---- what is stored for an id

-- what is put there stands there
pub put_there : {R E : Type 0} (h : Held R E) (id : ℕ) (call : Call E) → at (put_call h id call) id ≡ call
put_there h id call = λ i. record { slot = get-put_same h.table id call.slot i; pieces = get-put_same h.gathered id call.pieces i }

-- and each other id stays
pub put_beside : {R E : Type 0} (h : Held R E) (id : ℕ) (call : Call E) → IsBeside id h (put_call h id call)
put_beside h id call = record {
  others = λ other apart i.
      record { slot = get-put_other h.table id call.slot other apart i; pieces = get-put_other h.gathered id call.pieces other apart i };
  calls = refl;
  room = refl;
}

-- the pieces of a call that gathers are held
pub held_on : {E : Type 0} (gathering : E → Bool) (entry : Option E) (one : E) (unsent : List Msg) (pieces : Option Pieces) → entry ≡ Some one
    → gathering one ≡ true → cond (gathers gathering (slot_of entry unsent)) pieces None ≡ pieces
held_on gathering entry one unsent pieces is so =
    ap (λ b. cond b pieces None) (ap (λ e. gathers gathering (slot_of e unsent)) is ∙ so)
