-- The header of a GIOP message (CORBA 3.3 Part 2, 9.4.1), twelve octets:
--   magic "GIOP", version 1 MINOR, flags (in 1.0 the byte order), message type, message size (an
--   unsigned long, 9.3.1.1)
use Rattle.std.specs.Prelude.{ℕ, ◌+◌, ◌%◌, Bool, ◌&&◌, ◌==◌, nat_lt, nat_le, not, List, [], ◌∷◌, ◌++◌, codes, Option, true, false, drop, slice_index, slice_index_or, if◌then◌else◌}
use Rattle.std.specs.Int.{w32}
use Rattle.giop_cdr.specs.declared.order.Order.{Order}
use Rattle.giop_cdr.specs.declared.order.Order.TheVariants.{Big, Little}
use Rattle.giop_cdr.specs.Reading.Cursor.{num}
use Rattle.giop_cdr.specs.Writing.Output.{octets_of}
use Rattle.giop_msg.specs.declared.kind.Kind.{Kind}
use Rattle.giop_msg.specs.declared.kind.Kind.TheVariants.{Fragment}
use Rattle.giop_msg.specs.declared.fault.WireFault.{WireFault}
use Rattle.giop_msg.specs.declared.fault.WireKind.TheVariants.{BadMagic, BadVersion, ReservedFlags, BadKind, TooLarge, BadSize, FragmentSize, NotFragmentable}
use Rattle.giop_msg.specs.declared.header.Header.{Header}
use Rattle.giop_msg.specs.declared.version.Version.{Version}
use Rattle.giop_msg.specs.declared.version.Version.TheVariants.{V10}
use Rattle.giop_msg.specs.Fault.{Test, test, first_failing}
use Rattle.giop_msg.specs.Kind.{kind_number, kinds, can_have_size, is_fragment, is_fragmentable}
use Rattle.giop_msg.specs.Version.{minor_of, version_of, flag_values, kind_count, has_fragments}

-- the four octets of an unsigned long
abbrev pub ulong_octets : Order → ℕ → List ℕ
ulong_octets order n = octets_of order w32 n

-- the unsigned long that four octets are
abbrev pub ulong_of : Order → List ℕ → ℕ
ulong_of order octets = num order w32 octets

-- bit 0 of the flags: the byte order of the message, its size included; in 1.0 the whole octet
abbrev pub order_bit : Order → ℕ
order_bit Big = 0
order_bit Little = 1

-- the flags: bit 0, and bit 1 where more fragments follow
abbrev pub flags_of : Header → ℕ
flags_of h = order_bit h.order + (if h.more then 2 else 0)

-- the twelve octets of a header
unfoldable pub header_octets : Header → List ℕ
header_octets h =
    codes "GIOP"
    ++ (1 ∷ minor_of h.version ∷ flags_of h ∷ kind_number h.kind ∷ ulong_octets h.order h.size)

-- the byte order that the flags say
abbrev pub order_of : ℕ → Order
order_of flags = if flags % 2 == 0 then Big else Little

-- whether the version is 1.0
abbrev pub is_1_0 : Version → Bool
is_1_0 V10 = true
is_1_0 _ = false

-- the version that octet 5 says
abbrev pub version_at : List ℕ → Version
version_at octets = version_of (slice_index octets 5)

-- the header that twelve octets are, where they are one
unfoldable pub header_of : List ℕ → Header
header_of octets =
    let order = order_of (slice_index octets 6) in
    record {
      version = version_at octets;
      order = order;
      more = nat_le 2 (slice_index octets 6);
      kind = slice_index_or kinds (slice_index octets 7) Fragment;
      size = ulong_of order (drop 8 octets);
    }

-- the tests of the first eight octets, in their order
abbrev pub octet_tests : List ℕ → List Test
octet_tests octets =
    test (not (slice_index octets 0 == 71)) 0 BadMagic
    ∷ test (not (slice_index octets 1 == 73)) 1 BadMagic
    ∷ test (not (slice_index octets 2 == 79)) 2 BadMagic
    ∷ test (not (slice_index octets 3 == 80)) 3 BadMagic
    ∷ test (not (slice_index octets 4 == 1)) 4 BadVersion
    ∷ test (nat_le 3 (slice_index octets 5)) 5 BadVersion
    ∷ test (nat_le (flag_values (version_at octets)) (slice_index octets 6)) 6 ReservedFlags
    ∷ test (nat_le (kind_count (version_at octets)) (slice_index octets 7)) 7 BadKind
    ∷ []

-- what is wrong with the first eight octets
unfoldable pub octet_fault : List ℕ → Option WireFault
octet_fault octets = first_failing (octet_tests octets)

-- whether Fragments may continue a message of a version and a kind
abbrev pub can_continue : Version → Kind → Bool
can_continue version kind = has_fragments version && is_fragmentable kind

-- the tests of the fields that follow, in their order: in 1.2, with more fragments to come, a
-- message and its header are a multiple of 8 octets long (9.4.9)
abbrev pub field_tests : ℕ → Header → List Test
field_tests limit h =
    test (nat_lt limit h.size) 8 TooLarge
    ∷ test (not (can_have_size h.kind h.size)) 8 BadSize
    ∷ test (h.more && has_fragments h.version && not ((h.size + 12) % 8 == 0)) 8 FragmentSize
    ∷ test (h.more && not (can_continue h.version h.kind)) 6 NotFragmentable
    ∷ []

-- what is wrong with the fields of octets whose version, flags and type are sound, where message
-- sizes are at most a limit
unfoldable pub field_fault : ℕ → Header → Option WireFault
field_fault limit h = first_failing (field_tests limit h)

-- what is wrong with twelve octets as a header
unfoldable pub header_fault : ℕ → List ℕ → Option WireFault
header_fault limit octets =
    first_failing (octet_tests octets ++ field_tests limit (header_of octets))

-- the tests of a header's version against its other fields: 1.0 has no flag for more fragments, and
-- only 1.2 has Fragments
abbrev pub version_tests : Header → List Test
version_tests h =
    test (h.more && is_1_0 h.version) 6 ReservedFlags
    ∷ test (is_fragment h.kind && not (has_fragments h.version)) 7 BadKind
    ∷ []

-- what is wrong with a header, judged by its fields
abbrev pub fault_of : ℕ → Header → Option WireFault
fault_of limit h = first_failing (version_tests h ++ field_tests limit h)
