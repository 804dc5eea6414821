-- Headers and their octets: reading what was written, and writing what was read.
use Rattle.std.proofs.Common.{◌≡◌, ℕ, zero, suc, ◌+◌, ◌<◌, ◌≤◌, ◌^◌, Bool, true, false, not, ◌&&◌, nat_le, cond, List, ◌∷◌, ◌++◌, length, drop, slice_index, slice_index_or, get_or, None, refl, sym, ap, ◌∙◌, inl, inr, arith}
use Rattle.std.proofs.lemmas.List.{length-drop, drop_more, get_or-drop, get_or_past}
use Rattle.std.proofs.lemmas.Nat.{from_be_bytes-to_be_bytes_4, from_le_bytes-to_le_bytes_4, be_bytes_4, le_bytes_4}
use Rattle.std.proofs.lemmas.Bool.{cases_lt}
use Rattle.std.specs.List.{All}
use Rattle.giop_cdr.specs.declared.order.Order.{Order}
use Rattle.giop_cdr.specs.declared.order.Order.TheVariants.{Big, Little}
use Rattle.giop_msg.specs.declared.kind.Kind.{Kind}
use Rattle.giop_msg.specs.declared.kind.Kind.TheVariants.{Request, Reply, CancelRequest, LocateRequest, LocateReply, CloseConnection, MessageError, Fragment}
use Rattle.giop_msg.specs.declared.header.Header.{Header}
use Rattle.giop_msg.specs.declared.version.Version.{Version}
use Rattle.giop_msg.specs.declared.version.Version.TheVariants.{V10, V11, V12}
use Rattle.giop_msg.specs.Fault.{first_failing}
use Rattle.giop_msg.specs.Header.{ulong_octets, ulong_of, order_bit, order_of, is_1_0, header_octets, header_of, octet_tests, octet_fault, field_tests, field_fault, header_fault, fault_of}
use Rattle.giop_msg.specs.Laws.{HeaderRoundTrip}
use Rattle.giop_msg.specs.Kind.{kind_number, kinds, is_fragment}
use Rattle.giop_msg.specs.Version.{minor_of, version_of, flag_values, kind_count, has_fragments}
use Rattle.giop_msg.proofs.FaultLemmas.{header_fault-of_fields, front_of, octet_fault-sound, kind_below_8, flags_below_4}

-- the flags tell the order
order_of-flags : (order : Order) (more : Bool) → order_of (order_bit order + cond more 2 0) ≡ order
order_of-flags Big true = refl
order_of-flags Big false = refl
order_of-flags Little true = refl
order_of-flags Little false = refl

-- the flags tell whether more follows
more_of-flags : (order : Order) (more : Bool) → nat_le 2 (order_bit order + cond more 2 0) ≡ more
more_of-flags Big true = refl
more_of-flags Big false = refl
more_of-flags Little true = refl
more_of-flags Little false = refl

-- the flags are none of the version exactly where 1.0 has a flag for more fragments
flags_out : (version : Version) (order : Order) (more : Bool) →
    nat_le (flag_values version) (order_bit order + cond more 2 0) ≡ (more && is_1_0 version)
flags_out V10 Big true = refl
flags_out V10 Big false = refl
flags_out V10 Little true = refl
flags_out V10 Little false = refl
flags_out V11 Big true = refl
flags_out V11 Big false = refl
flags_out V11 Little true = refl
flags_out V11 Little false = refl
flags_out V12 Big true = refl
flags_out V12 Big false = refl
flags_out V12 Little true = refl
flags_out V12 Little false = refl

version_of-minor_of : (version : Version) → version_of (minor_of version) ≡ version
version_of-minor_of V10 = refl
version_of-minor_of V11 = refl
version_of-minor_of V12 = refl

minor_within : (version : Version) → nat_le 3 (minor_of version) ≡ false
minor_within V10 = refl
minor_within V11 = refl
minor_within V12 = refl

minor_of-version_of : (n : ℕ) → n < 3 → minor_of (version_of n) ≡ n
minor_of-version_of zero h = refl
minor_of-version_of (suc zero) h = refl
minor_of-version_of (suc (suc zero)) h = refl
minor_of-version_of (suc (suc (suc n))) h = absurd (omega arith)

kinds-kind_number : (k : Kind) → slice_index_or kinds (kind_number k) Fragment ≡ k
kinds-kind_number Request = refl
kinds-kind_number Reply = refl
kinds-kind_number CancelRequest = refl
kinds-kind_number LocateRequest = refl
kinds-kind_number LocateReply = refl
kinds-kind_number CloseConnection = refl
kinds-kind_number MessageError = refl
kinds-kind_number Fragment = refl

before_fragment : (k : Kind) → nat_le 7 (kind_number k) ≡ (is_fragment k && true)
before_fragment Request = refl
before_fragment Reply = refl
before_fragment CancelRequest = refl
before_fragment LocateRequest = refl
before_fragment LocateReply = refl
before_fragment CloseConnection = refl
before_fragment MessageError = refl
before_fragment Fragment = refl

no_other_kind : (k : Kind) → nat_le 8 (kind_number k) ≡ (is_fragment k && false)
no_other_kind Request = refl
no_other_kind Reply = refl
no_other_kind CancelRequest = refl
no_other_kind LocateRequest = refl
no_other_kind LocateReply = refl
no_other_kind CloseConnection = refl
no_other_kind MessageError = refl
no_other_kind Fragment = refl

-- the type is none of the version's exactly where it is a Fragment's before 1.2
kind_out : (version : Version) (k : Kind) → nat_le (kind_count version) (kind_number k) ≡ (is_fragment k && not (has_fragments version))
kind_out V10 k = before_fragment k
kind_out V11 k = before_fragment k
kind_out V12 k = no_other_kind k

pub ulong_of-ulong_octets : (order : Order) (n : ℕ) → n < 2 ^ 32 → ulong_of order (ulong_octets order n) ≡ n
ulong_of-ulong_octets Big n h = from_be_bytes-to_be_bytes_4 n h
ulong_of-ulong_octets Little n h = from_le_bytes-to_le_bytes_4 n h

-- the header that is read from a header's octets is the header
pub header_of-header_octets : (h : Header) → h.size < 2 ^ 32 → header_of (header_octets h) ≡ h
unfolding header_of header_octets
header_of-header_octets h sized =
    rw (
      version_of-minor_of h.version,
      order_of-flags h.order h.more,
      more_of-flags h.order h.more,
      kinds-kind_number h.kind,
      ulong_of-ulong_octets h.order
          h.size sized,
    ) refl

length-ulong_octets : (order : Order) (n : ℕ) → length (ulong_octets order n) ≡ 4
length-ulong_octets Big n = refl
length-ulong_octets Little n = refl

pub length-header_octets : (h : Header) → length (header_octets h) ≡ 12
unfolding header_octets
length-header_octets h = rw (length-ulong_octets h.order h.size) refl

-- what is wrong with a header's octets its fields tell
pub header_fault-header_octets : (limit : ℕ) (h : Header) → h.size < 2 ^ 32 → header_fault limit (header_octets h) ≡ fault_of limit h
unfolding header_fault header_octets
header_fault-header_octets limit h sized =
    ap (λ (x : Header). first_failing (octet_tests (header_octets h) ++ field_tests limit x)) (header_of-header_octets h sized)
    ∙ rw (minor_within h.version, version_of-minor_of h.version, flags_out h.version h.order h.more, kind_out h.version h.kind) refl

-- where nothing is wrong with a header's octets, nothing is with its fields
pub sound_fields : (limit : ℕ) (h : Header) → h.size < 2 ^ 32 → header_fault limit (header_octets h) ≡ None → field_fault limit h ≡ None
sound_fields limit h sized sound =
    ap (field_fault limit) (sym (header_of-header_octets h sized))
    ∙ sym (header_fault-of_fields limit (header_octets h) (octet_fault-sound limit (header_octets h) sound)) ∙ sound

-- the flags are those of the order and of whether more follows
flags-order_of : (flags : ℕ) → flags < 4 → order_bit (order_of flags) + cond (nat_le 2 flags) 2 0 ≡ flags
flags-order_of zero h = refl
flags-order_of (suc zero) h = refl
flags-order_of (suc (suc zero)) h = refl
flags-order_of (suc (suc (suc zero))) h = refl
flags-order_of (suc (suc (suc (suc n)))) h = absurd (omega arith)

kind_number-kinds : (n : ℕ) → n < 8 → kind_number (slice_index_or kinds n Fragment) ≡ n
kind_number-kinds zero h = refl
kind_number-kinds (suc zero) h = refl
kind_number-kinds (suc (suc zero)) h = refl
kind_number-kinds (suc (suc (suc zero))) h = refl
kind_number-kinds (suc (suc (suc (suc zero)))) h = refl
kind_number-kinds (suc (suc (suc (suc (suc zero))))) h = refl
kind_number-kinds (suc (suc (suc (suc (suc (suc zero)))))) h = refl
kind_number-kinds (suc (suc (suc (suc (suc (suc (suc zero))))))) h = refl
kind_number-kinds (suc (suc (suc (suc (suc (suc (suc (suc n)))))))) h = absurd (omega arith)

-- each octet is below 256, and so is what is read past the end
pub bounded : (octets : List ℕ) → All (λ o. o < 256) octets → (i : ℕ) → get_or octets i 0 < 256
bounded octets all i = elim (cases_lt i (length octets)) as (λ _. get_or octets i 0 < 256) [
  | inl h ↦ all i 0 h
  | inr h ↦ rw (get_or_past octets i 0 h) (omega arith)
]

ulong_octets-ulong_of : (order : Order) (octets : List ℕ) → length octets ≡ 4 → ((i : ℕ) → get_or octets i 0 < 256) →
    ulong_octets order (ulong_of order octets) ≡ octets
ulong_octets-ulong_of Big octets four below = be_bytes_4 octets _ four below refl
ulong_octets-ulong_of Little octets four below = le_bytes_4 octets _ four below refl

-- the first eight octets one by one, and those after them
eight_and_more : (octets : List ℕ) → 8 ≤ length octets → octets
    ≡ get_or octets 0 0 ∷ get_or octets 1 0 ∷ get_or octets 2 0 ∷ get_or octets 3 0
    ∷ get_or octets 4 0 ∷ get_or octets 5 0 ∷ get_or octets 6 0 ∷ get_or octets 7 0 ∷ drop 8 octets
eight_and_more octets h =
    let e0 : octets ≡ get_or octets 0 0 ∷ drop 1 octets = drop_more octets 0 0 (omega arith) in
    let e1 : drop 1 octets ≡ get_or octets 1 0 ∷ drop 2 octets = drop_more octets 1 0 (omega arith) in
    let e2 : drop 2 octets ≡ get_or octets 2 0 ∷ drop 3 octets = drop_more octets 2 0 (omega arith) in
    let e3 : drop 3 octets ≡ get_or octets 3 0 ∷ drop 4 octets = drop_more octets 3 0 (omega arith) in
    let e4 : drop 4 octets ≡ get_or octets 4 0 ∷ drop 5 octets = drop_more octets 4 0 (omega arith) in
    let e5 : drop 5 octets ≡ get_or octets 5 0 ∷ drop 6 octets = drop_more octets 5 0 (omega arith) in
    let e6 : drop 6 octets ≡ get_or octets 6 0 ∷ drop 7 octets = drop_more octets 6 0 (omega arith) in
    let e7 : drop 7 octets ≡ get_or octets 7 0 ∷ drop 8 octets = drop_more octets 7 0 (omega arith) in
    cc

-- octets with a sound front are those of the header that is read from them
pub header_octets-header_of : (octets : List ℕ) → length octets ≡ 12 → ((i : ℕ) → get_or octets i 0 < 256) → octet_fault octets ≡ None →
    header_octets (header_of octets) ≡ octets
unfolding header_octets header_of
header_octets-header_of octets twelve below sound =
    let front = front_of octets sound in
    let split = eight_and_more octets (omega arith) in
    let four : length (drop 8 octets) ≡ 4 = omega (arith, length-drop 8 octets) in
    let below_four : (i : ℕ) → get_or (drop 8 octets) i 0 < 256 = λ i. rw (get_or-drop 8 octets i 0) (below (8 + i)) in
    let size = ulong_octets-ulong_of (order_of (slice_index octets 6)) (drop 8 octets) four below_four in
    rw (
      minor_of-version_of (slice_index octets 5) front.minor,
      flags-order_of (slice_index octets 6) (flags_below_4 octets sound),
      kind_number-kinds (slice_index octets 7) (kind_below_8 octets sound),
      size,
    )
    (cc (split, front.g, front.i, front.o, front.p, front.major))

-- where nothing is wrong with twelve octets, they are those of the header that is read from them
pub sound_octets : (limit : ℕ) (octets : List ℕ) → length octets ≡ 12 → ((i : ℕ) → get_or octets i 0 < 256) → header_fault limit octets ≡ None →
    header_octets (header_of octets) ≡ octets
sound_octets limit octets twelve below sound = header_octets-header_of octets twelve below (octet_fault-sound limit octets sound)

pub HeaderRoundTrip-holds : HeaderRoundTrip
HeaderRoundTrip-holds = record {
  written = λ limit h sized. (header_of-header_octets h sized, header_fault-header_octets limit h sized);
  read = λ limit octets twelve all sound. sound_octets limit octets twelve (bounded octets all) sound;
}
