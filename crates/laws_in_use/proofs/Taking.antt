-- One step of an end that has room.
use Rattle.std.proofs.Common.{◌≡◌, ℕ, ◌+◌, ◌<◌, ◌≤◌, ◌==◌, ◌&&◌, Bool, true, false, nat_lt, if◌then◌else◌, List, length, Option, Some, None, is_some, is_none, Ok, refl, sym, ap, subst, ◌∙◌, inr, arith}
use Rattle.std.proofs.lemmas.Bool.Decides.{nat_tests}
use Rattle.std.specs.FinMap as finite
use Rattle.giop_ids.specs.ById.{HasOnly, is_listed}
use Rattle.giop_ids.specs.Runs.{Does}
use Rattle.giop_ids.proofs.Lengths.{HasOnly-empty, HasOnly-put, len_within_ids}
use Rattle.giop_ids.proofs.Puts.{eq_apart, get-put}
use Rattle.giop_ids.proofs.Sums.{sum_empty, sum_put}
use Rattle.giop_frag.specs.Gathered.{Pieces, octets_in, total_of}
use Rattle.giop_mux.specs.declared.step.Step.{Step}
use Rattle.giop_msg.specs.declared.msg.Msg.{Msg}
use Rattle.giop_msg.specs.RequestId.{request_id_of}
use Rattle.giop_calls.specs.declared.fault.CallFault.{CallFault}
use Rattle.giop_session.specs.declared.Limits.{Limits}
use Rattle.giop_session.specs.declared.Planned.{Planned}
use Rattle.giop_session.specs.Calls.Sending.{Sends}
use Rattle.giop_session.specs.declared.SessionFault.{SessionFault}
use Rattle.giop_session.specs.declared.Slot.{Slot}
use Rattle.giop_session.specs.declared.TableFault.{TableFault}
use Rattle.giop_session.specs.declared.TableFault.TheVariants.{TooManyCalls, GatherFull}
use Rattle.giop_session.specs.Ends.Begun.{no_calls}
use Rattle.giop_session.specs.Calls.CallTable.{Act, Answers, Brings, Call, First, Hears, Held, More, Nothing, at, calls_fault, gathers, octets_fault, put_call, room_fault, rules_of, step_of, turn}
use Rattle.giop_session.specs.Hearing.Heard.{ActsOn, IsHeardAs, heard_of, hears_by, in_call, silent}

-- what is known of the calls of an end: how many there may be, and only these ids have any; how many
-- octets there may be, and how many there are
pub record Stands {R E : Type 0} (h : Held R E) (limits : Limits) (ids : List ℕ) (count : ℕ) : Type 0 where
  pub calls : h.calls ≡ limits.calls
  pub room : h.room ≡ limits.gathered
  pub only : HasOnly h.table ids
  pub total : total_of h.gathered ≡ count

pub stands_none : {R E : Type 0} (rule : R) (limits : Limits) (ids : List ℕ) → Stands (no_calls {E = E} rule limits) limits ids 0
stands_none rule limits ids = record { calls = refl; room = refl; only = HasOnly-empty _ ids; total = sum_empty _ }

-- a call is put there, and so many octets are gathered then
pub stands_more : {R E : Type 0} (h : Held R E) (limits : Limits) (ids : List ℕ) (total now : ℕ) (id : ℕ) (before call : Call E)
    → Stands h limits ids total → is_listed ids id ≡ true → at h id ≡ before → now + octets_in before.pieces ≡ total + octets_in call.pieces
    → Stands (put_call h id call) limits ids now
stands_more {E = E} h limits ids total now id before call stands listed was sums = record {
  calls = stands.calls;
  room = stands.room;
  only = HasOnly-put h.table ids id call.slot stands.only listed;
  total =
      let put = sum_put (λ p. length p.octets) h.gathered id call.pieces in
      let held : octets_in (finite.get h.gathered id) ≡ octets_in before.pieces = ap (λ (c : Call E). octets_in c.pieces) was in
      omega (arith, put, held, sums, stands.total);
}

-- what stands under an id then
pub at-put : {R E : Type 0} (h : Held R E) (id : ℕ) (call : Call E) (q : ℕ)
    → at (put_call h id call) q ≡ (if q == id then call else at h q)
at-put {E = E} h id call q = by_test (q == id) (get-put h.table id call.slot q) (get-put h.gathered id call.pieces q)
  where
    by_test : (b : Bool) {slot : Option (Slot E)} {pieces : Option Pieces}
        → slot ≡ (if b then call.slot else finite.get h.table q) → pieces ≡ (if b then call.pieces else finite.get h.gathered q)
        → record { slot = slot; pieces = pieces } ≡ (if b then call else at h q)
    by_test true e f i = record { slot = e i; pieces = f i }
    by_test false e f i = record { slot = e i; pieces = f i }

few_calls : (a b t : Bool) → t ≡ false → ◌≡◌ {A = Option (TableFault CallFault)} (if a && b && t then Some TooManyCalls else None) None
few_calls a b true is = absurd cc
few_calls true true false is = refl
few_calls true false false is = refl
few_calls false true false is = refl
few_calls false false false is = refl

-- how many octets an event brings
abbrev pub brings_of : Brings → ℕ
brings_of (First order octets) = length octets
brings_of (More octets) = length octets
brings_of Nothing = 0

small : {R E : Type 0} (h : Held R E) (n : ℕ) → total_of h.gathered + n ≤ h.room → octets_fault {F = CallFault} h n ≡ None
small h n within =
    let over : nat_lt h.room (total_of h.gathered + n) ≡ false = grind (arith, nat_tests) in
    ap (λ b. if b then Some GatherFull else None) over

where_gathered : (b : Bool) {fault : Option (TableFault CallFault)} → fault ≡ None → (if b then fault else None) ≡ None
where_gathered true is = is
where_gathered false is = refl

module _ {R E V : Type 0} (next : Option E → V → Step E (Unit {0}) CallFault) (closed gathering : E → Bool) where
  small_brings : (h : Held R E) (id : ℕ) (slot : Option (Slot E)) (brings : Brings)
      → total_of h.gathered + brings_of brings ≤ h.room → room_fault {F = CallFault} gathering h id slot brings ≡ None
  small_brings h id slot (First order octets) within = where_gathered (gathers gathering slot) (small h (length octets) within)
  small_brings h id slot (More octets) within = where_gathered (gathers gathering (finite.get h.table id)) (small h (length octets) within)
  small_brings h id slot Nothing within = refl

  -- an event that a call accepts is done, where its id is one of few enough
  pub done : (h : Held R E) (limits : Limits) (ids : List ℕ) (total : ℕ) (id : ℕ) (planned : Planned V) (brings : Brings)
      (before now : Call E) (sends : Sends (Unit {0}))
      → Stands h limits ids total → length ids < limits.calls → total + brings_of brings ≤ limits.gathered → at h id ≡ before
      → turn next closed gathering before (Hears planned brings) ≡ Ok (record { now = now; answer = Answers sends })
      → Does (rules_of next closed gathering) h (record { id = id; what = Hears planned brings }) (Ok (Answers sends)) (put_call h id now)
  done h limits ids total id planned brings before now sends stands few within was is =
      let turned : turn next closed gathering (at h id) (Hears planned brings) ≡ Ok (record { now = now; answer = Answers sends }) =
      ap (λ call. turn next closed gathering call (Hears planned brings)) was ∙ is in
      let entry = (step_of next closed gathering (finite.get h.table id) planned).entry in
      let less = len_within_ids ids h.table stands.only in
      let apart : (finite.len h.table == h.calls) ≡ false = eq_apart (finite.len h.table) h.calls
      (λ same. absurd (omega (arith, less, few, stands.calls, same))) in
      let calls : calls_fault {F = CallFault} h id entry ≡ None =
      few_calls (is_none (finite.get h.table id)) (is_some entry) (finite.len h.table == h.calls) apart in
      let octets = small_brings h id entry brings (omega (arith, stands.total, stands.room, within)) in
      record { answer = rw calls (rw octets (rw turned refl)); refusal = tt; leaves = rw turned refl }

  module _ (breaks : Msg → Option SessionFault) (act_by : Msg → Call E → Act V) where
    -- a message that a call accepts is heard
    pub heard : (h k : Held R E) (m : Msg) (id : ℕ) (planned : Planned V) (brings : Brings) (before : Call E) (sends : Sends (Unit {0}))
        → breaks m ≡ None → request_id_of m ≡ Some (Ok id) → at h id ≡ before → act_by m before ≡ Hears planned brings
        → Does (rules_of next closed gathering) h (record { id = id; what = Hears planned brings }) (Ok (Answers sends)) k
        → hears_by (λ rule. next) (λ rule. closed) gathering in_call breaks act_by m h (Ok tt) k
    heard h k m id planned brings before sends unbroken named was acts_so does =
        let is : heard_of breaks act_by h m ≡ ActsOn id (Hears planned brings) =
        rw unbroken (rw named (ap (ActsOn id) (ap (act_by m) was ∙ acts_so))) in
        inr (subst (λ what. IsHeardAs (rules_of next closed gathering) in_call what h (Ok tt) k) (sym is) (Ok sends, does, refl))

    -- and so is one that has room
    pub hears : (h : Held R E) (limits : Limits) (ids : List ℕ) (total : ℕ) (m : Msg) (id : ℕ) (planned : Planned V) (brings : Brings)
        (before now : Call E)
        → breaks m ≡ None → request_id_of m ≡ Some (Ok id) → Stands h limits ids total → length ids < limits.calls
        → total + brings_of brings ≤ limits.gathered → at h id ≡ before → act_by m before ≡ Hears planned brings
        → turn next closed gathering before (Hears planned brings) ≡ Ok (record { now = now; answer = Answers silent })
        → hears_by (λ rule. next) (λ rule. closed) gathering in_call breaks act_by m h (Ok tt) (put_call h id now)
    hears h limits ids total m id planned brings before now unbroken named stands few within was acts_so is =
        heard h (put_call h id now) m id planned brings before silent unbroken named was acts_so
        (done h limits ids total id planned brings before now silent stands few within was is)
