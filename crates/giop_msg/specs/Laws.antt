-- What holds of every header and of every stream.
use Rattle.std.specs.Prelude.{◌≡◌, ℕ, ◌<◌, ◌^◌, true, false, All, List, Ok, ◌++◌, None, Some, length}
use Rattle.giop_msg.specs.declared.header.Header.{Header}
use Rattle.giop_msg.specs.declared.msg.Msg.{Msg}
use Rattle.giop_msg.specs.Header.{fault_of, header_fault, header_octets, header_of}
use Rattle.giop_msg.specs.Kind.{has_request_id}
use Rattle.giop_msg.specs.Msg.{IsMessage}
use Rattle.giop_msg.specs.RequestId.{begins_with_contexts, request_id_layout, request_id_of}
use Rattle.giop_cdr.specs.declared.order.Order.{Order}
use Rattle.giop_cdr.specs.Writing.Output.{Output}
use Rattle.giop_cdr.specs.Layout.{Layout, AreOctets}
use Rattle.giop_cdr.specs.RoundTrip.{IsReadBack}
use Rattle.giop_cdr.specs.Reading.Exactness.{IsExact, StandsAlone, Took}
use Rattle.giop_msg.specs.declared.kind.Kind.{Kind}
use Rattle.giop_msg.specs.declared.version.Version.{Version}
use Rattle.giop_msg.specs.declared.fault.WireFault.{WireFault}
use Rattle.giop_msg.specs.Stream.{BeginsWithFault, Msgs}

pub record HeaderRoundTrip : Type 0 where
  -- the octets of a header are read as the header, and what is wrong with them is judged by its
  -- fields: 1.0 has no flag for more fragments and only 1.2 has Fragments, or else a test of the
  -- fields fails
  pub written : (limit : ℕ) (h : Header) → h.size < 2 ^ 32 →
      (header_of (header_octets h) ≡ h)
      × (header_fault limit (header_octets h) ≡ fault_of limit h)
  -- twelve octets in which nothing is wrong are those of the header that is read from them
  pub read : (limit : ℕ) (octets : List ℕ) → length octets ≡ 12 → All (λ o. o < 256) octets →
      header_fault limit octets ≡ None → header_octets (header_of octets) ≡ octets

pub record RequestIds : Type 0 where
  -- the id is what the fields up to it spell, and else the first that is refused is reported
  pub exact : (version : Version) (kind : Kind) →
      IsExact (Took (request_id_layout version kind).spells)
      (request_id_layout version kind).refused
      (request_id_layout version kind).read
  -- a message that is accepted and begins with its request id has one
  pub there : (limit : ℕ) (m : Msg) → IsMessage limit m → has_request_id m.kind ≡ true →
      begins_with_contexts m.version m.kind ≡ false → (id : ℕ) × (request_id_of m ≡ Some (Ok id))

-- every stream has a split, where the limit is an unsigned long
abbrev pub EverySplit : Type 0
EverySplit =
    (limit : ℕ) (stream : List ℕ) → limit < 2 ^ 32 → All (λ o. o < 256) stream →
    (messages : List Msg) × (rest : List ℕ) × Msgs limit stream messages rest

-- two splits of one stream are one
abbrev pub OneSplit : Type 0
OneSplit =
    (limit : ℕ) (stream : List ℕ) (one two : List Msg) (rest left : List ℕ) →
    Msgs limit stream one rest → Msgs limit stream two left → (one ≡ two) × (rest ≡ left)

-- a split of a stream, and one of its rest with more octets behind it, are together the split of
-- the stream with these octets behind it
abbrev pub SplitOn : Type 0
SplitOn =
    (limit : ℕ) (stream more : List ℕ) (first second : List Msg) (rest left : List ℕ) →
    Msgs limit stream first rest → Msgs limit (rest ++ more) second left →
    Msgs limit (stream ++ more) (first ++ second) left

-- a fault at the front stands there, however many octets follow
abbrev pub FaultsStand : Type 0
FaultsStand =
    (limit : ℕ) (octets more : List ℕ) (e : WireFault) →
    BeginsWithFault limit octets e → BeginsWithFault limit (octets ++ more) e

-- what holds of a table of fields
pub record IsTable {A : Type 0} (layout : Layout A) : Type 0 where
  -- what is read is what is spelled, field by field, and else the first refused field is reported
  pub exact : IsExact (Took layout.spells) layout.refused layout.read
  -- no spelling begins another
  pub alone : StandsAlone layout.spells
  -- whatever octets spell fits, and its numbers are in the ranges of their types
  pub fits : (order : Order) (at : ℕ) (v : A) (octets : List ℕ) → AreOctets octets →
      layout.spells order at v octets → (layout.fits v ≡ true) × layout.holds v
  -- what is written of a value that fits is read back, with what stands behind it left
  pub back : (v : A) (out : Output) → layout.fits v ≡ true → layout.holds v →
      IsReadBack layout.spells layout.read v out (layout.written v out)
