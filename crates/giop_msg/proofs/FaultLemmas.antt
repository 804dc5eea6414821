-- The faults of headers: which test fails first, and what holds where none does.
use Rattle.std.proofs.Common.{◌≡◌, ◌≢◌, ℕ, ◌<◌, ◌≤◌, Bool, true, false, not, ◌&&◌, ◌==◌, nat_le, nat_lt, cond, List, [], ◌∷◌, ◌++◌, slice_index, Option, Some, None, refl, sym, ap, ◌∙◌, arith}
use Rattle.std.proofs.lemmas.Bool.Decides.{nat_tests}
use Rattle.std.proofs.lemmas.Bool.{and_parts}
use Rattle.giop_msg.specs.declared.kind.Kind.{Kind}
use Rattle.giop_msg.specs.declared.kind.Kind.TheVariants.{Request, Reply, CancelRequest, LocateRequest, LocateReply, CloseConnection, MessageError, Fragment}
use Rattle.giop_msg.specs.declared.fault.WireFault.{WireFault}
use Rattle.giop_msg.specs.declared.fault.WireKind.TheVariants.{NoMemory}
use Rattle.giop_msg.specs.declared.header.Header.{Header}
use Rattle.giop_msg.specs.Fault.{Test, first_failing, wire_kind_number}
use Rattle.giop_msg.specs.declared.version.Version.{Version}
use Rattle.giop_msg.specs.declared.version.Version.TheVariants.{V10, V11, V12}
use Rattle.giop_msg.specs.Version.{flag_values, kind_count}
use Rattle.giop_msg.specs.Header.{version_at, header_of, octet_tests, octet_fault, field_tests, field_fault, header_fault}
use Rattle.giop_msg.specs.Kind.{has_request_id, can_have_size}

-- where nothing fails, the first test passes and nothing fails after it
pub passes : (fails : Bool) (e : WireFault) (after : Option WireFault) → cond fails (Some e) after ≡ None → (fails ≡ false) × (after ≡ None)
passes true e after h = let no : ⊥ = cc in absurd no
passes false e after h = (refl, h)

pub first_failing-append_passed : (a b : List Test) → first_failing a ≡ None → first_failing (a ++ b) ≡ first_failing b
first_failing-append_passed [] b h = refl
first_failing-append_passed (t ∷ a) b h =
    let p = passes t.fails t.fault_is (first_failing a) h in
    rw p.0 (first_failing-append_passed a b p.1)

pub first_failing-append_failed : (a b : List Test) (e : WireFault) → first_failing a ≡ Some e → first_failing (a ++ b) ≡ Some e
first_failing-append_failed [] b e h = let no : ⊥ = cc in absurd no
first_failing-append_failed (t ∷ a) b e h =
    (elim t.fails as (λ v. cond v (Some t.fault_is) (first_failing a) ≡ Some e → cond v (Some t.fault_is) (first_failing (a ++ b)) ≡ Some e) [
      | true ↦ λ k. k
      | false ↦ λ k. first_failing-append_failed a b e k
    ]) h

-- a fault of the first eight octets is the header's
pub header_fault-of_octets : (limit : ℕ) (octets : List ℕ) (e : WireFault) → octet_fault octets ≡ Some e → header_fault limit octets ≡ Some e
unfolding header_fault octet_fault
header_fault-of_octets limit octets e h = first_failing-append_failed (octet_tests octets) (field_tests limit (header_of octets)) e h

-- where nothing is wrong with the first eight octets, the header's fault is that of its fields
pub header_fault-of_fields : (limit : ℕ) (octets : List ℕ) → octet_fault octets ≡ None → header_fault limit octets ≡ field_fault limit (header_of octets)
unfolding header_fault octet_fault field_fault
header_fault-of_fields limit octets h = first_failing-append_passed (octet_tests octets) (field_tests limit (header_of octets)) h

-- what the first eight octets of a header are
pub record HasFront (octets : List ℕ) : Type 0 where
  pub g : slice_index octets 0 ≡ 71
  pub i : slice_index octets 1 ≡ 73
  pub o : slice_index octets 2 ≡ 79
  pub p : slice_index octets 3 ≡ 80
  pub major : slice_index octets 4 ≡ 1
  pub minor : slice_index octets 5 < 3
  pub flags : slice_index octets 6 < flag_values (version_at octets)
  pub kind : slice_index octets 7 < kind_count (version_at octets)

equal_passed : (a b : ℕ) → not (a == b) ≡ false → a ≡ b
equal_passed a b h = grind (arith, nat_tests)

below_passed : (a b : ℕ) → nat_le b a ≡ false → a < b
below_passed a b h = grind (arith, nat_tests)

within_passed : (a b : ℕ) → nat_lt a b ≡ false → b ≤ a
within_passed a b h = grind (arith, nat_tests)

not_passed : (b : Bool) → not b ≡ false → b ≡ true
not_passed true h = refl
not_passed false h = cc

pub front_of : (octets : List ℕ) → octet_fault octets ≡ None → HasFront octets
unfolding octet_fault
front_of octets h =
    let g = passes _ _ _ h in
    let i = passes _ _ _ g.1 in
    let o = passes _ _ _ i.1 in
    let p = passes _ _ _ o.1 in
    let major = passes _ _ _ p.1 in
    let minor = passes _ _ _ major.1 in
    let flags = passes _ _ _ minor.1 in
    let kind = passes _ _ _ flags.1 in
    record {
      g = equal_passed _ _ g.0;
      i = equal_passed _ _ i.0;
      o = equal_passed _ _ o.0;
      p = equal_passed _ _ p.0;
      major = equal_passed _ _ major.0;
      minor = below_passed _ _ minor.0;
      flags = below_passed _ _ flags.0;
      kind = below_passed _ _ kind.0;
    }

-- where a header has no fault, its first eight octets have none
pub octet_fault-sound : (limit : ℕ) (octets : List ℕ) → header_fault limit octets ≡ None → octet_fault octets ≡ None
octet_fault-sound limit octets sound =
    (elim (octet_fault octets) as (λ o. octet_fault octets ≡ o → o ≡ None) [
      | None ↦ λ e. refl
      | Some fault ↦ λ e. let found = header_fault-of_octets limit octets fault e in let no : ⊥ = cc in absurd no
    ]) refl

eight_kinds : (version : Version) → kind_count version ≤ 8
eight_kinds V10 = omega arith
eight_kinds V11 = omega arith
eight_kinds V12 = omega arith

four_flags : (version : Version) → flag_values version ≤ 4
four_flags V10 = omega arith
four_flags V11 = omega arith
four_flags V12 = omega arith

-- the message type is one of the eight
pub kind_below_8 : (octets : List ℕ) → octet_fault octets ≡ None → slice_index octets 7 < 8
kind_below_8 octets sound = omega (arith, (front_of octets sound).kind, eight_kinds (version_at octets))

-- the flags are below 4
pub flags_below_4 : (octets : List ℕ) → octet_fault octets ≡ None → slice_index octets 6 < 4
flags_below_4 octets sound = omega (arith, (front_of octets sound).flags, four_flags (version_at octets))

-- where nothing is wrong with the fields, the size is within the limit and one of the kind's
pub sizes_of_sound : (limit : ℕ) (h : Header) → field_fault limit h ≡ None → (h.size ≤ limit) × (can_have_size h.kind h.size ≡ true)
unfolding field_fault
sizes_of_sound limit h sound =
    let large = passes _ _ _ sound in
    let sized = passes _ _ _ large.1 in
    (within_passed _ _ large.0, not_passed _ sized.0)

-- the size of a kind with a request id has room for it
pub room_for_id : (k : Kind) (size : ℕ) → can_have_size k size ≡ true → has_request_id k ≡ true → nat_le 4 size ≡ true
room_for_id Request size room has = room
room_for_id Reply size room has = room
room_for_id CancelRequest size room has = grind (arith, nat_tests)
room_for_id LocateRequest size room has = room
room_for_id LocateReply size room has = room
room_for_id CloseConnection size room has = cc
room_for_id MessageError size room has = cc
room_for_id Fragment size room has = room

-- the tests' faults are of octets: their numbers are below want of memory's
abbrev of_octets : List Test → Bool
of_octets [] = true
of_octets (t ∷ ts) = nat_lt (wire_kind_number t.fault_is.kind) 9 && of_octets ts

first_failing-of_octets : (ts : List Test) (e : WireFault) → of_octets ts ≡ true → first_failing ts ≡ Some e → nat_lt (wire_kind_number e.kind) 9 ≡ true
first_failing-of_octets [] e all h = let no : ⊥ = cc in absurd no
first_failing-of_octets (t ∷ ts) e all h =
    (elim t.fails as (λ v. cond v (Some t.fault_is) (first_failing ts) ≡ Some e → nat_lt (wire_kind_number e.kind) 9 ≡ true) [
      | true ↦ λ k. let same : t.fault_is ≡ e = cc in ap (λ (w : WireFault). nat_lt (wire_kind_number w.kind) 9) (sym same) ∙ (and_parts _ _ all).0
      | false ↦ λ k. first_failing-of_octets ts e (and_parts _ _ all).1 k
    ]) h

-- no fault of octets is want of memory
pub not_memory : (limit : ℕ) (octets : List ℕ) (e : WireFault) → header_fault limit octets ≡ Some e → e.kind ≢ NoMemory
unfolding header_fault
not_memory limit octets e h is =
    let below = first_failing-of_octets (octet_tests octets ++ field_tests limit (header_of octets)) e refl h in
    let nine : false ≡ true = ap (λ k. nat_lt (wire_kind_number k) 9) (sym is) ∙ below in
    let no : ⊥ = cc in
    absurd no

-- how the fault of the first eight octets, and that of the fields, are the header's
pub ruleset judging = (header_fault-of_octets, header_fault-of_fields, kind_below_8)
