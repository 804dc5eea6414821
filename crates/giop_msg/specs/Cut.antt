-- Joined octets cut into a message and Fragments, and put together again (CORBA 3.3 Part 2, 9.4.9).
use Rattle.std.specs.Prelude.{◌≡◌, ℕ, ◌+◌, ◌-◌, ◌<◌, ◌≤◌, ◌^◌, ◌%◌, ◌⊎◌, Bool, true, false, List, [], ◌∷◌, ◌++◌, length, take, drop}
use Rattle.std.specs.List.{flat_map}
use Rattle.giop_cdr.specs.declared.order.Order.{Order}
use Rattle.giop_msg.specs.declared.kind.Kind.{Kind}
use Rattle.giop_msg.specs.declared.kind.Kind.TheVariants.{Request, Reply, LocateRequest, LocateReply, Fragment}
use Rattle.giop_msg.specs.declared.msg.Msg.{Msg}
use Rattle.giop_msg.specs.declared.version.Version.{Version}
use Rattle.giop_msg.specs.declared.version.Version.TheVariants.{V12}
use Rattle.giop_msg.specs.Msg.{message_octets}
use Rattle.giop_msg.specs.Stream.{Msgs}
use Rattle.giop_msg.specs.Version.{has_fragments}

-- the octets that a Fragment continues a message with: those behind its request id
abbrev pub continued : Msg → List ℕ
continued m = drop 4 m.payload

-- the joined octets of a message and its Fragments
abbrev pub joined : List Msg → List ℕ
joined [] = []
joined (m ∷ fragments) = m.payload ++ flat_map continued fragments

-- the kinds of message that Fragments may continue
abbrev pub is_continued : Kind → Bool
is_continued Request = true
is_continued Reply = true
is_continued LocateRequest = true
is_continued LocateReply = true
is_continued _ = false

-- a message of a kind
abbrev pub message_of : Version → Kind → Order → Bool → List ℕ → Msg
message_of version kind order more payload =
    record { version = version; order = order; more = more; kind = kind; payload = payload }

-- Fragments of a message of this id that continue it with these octets: each of the piece's size,
-- its header counted, but the last, which is no larger and brings an octet at least
abbrev pub AreFragments : Order → List ℕ → ℕ → List ℕ → List Msg → Type 0
AreFragments order id piece octets [] = ⊥
AreFragments order id piece octets (m ∷ []) =
    (m ≡ message_of V12 Fragment order false (id ++ octets))
    × (0 < length octets) × (length octets ≤ piece - 16)
AreFragments order id piece octets (m ∷ n ∷ ms) =
    (m ≡ message_of V12 Fragment order true (id ++ take (piece - 16) octets))
    × (piece - 16 < length octets)
    × AreFragments order id piece (drop (piece - 16) octets) (n ∷ ms)

-- the messages of a kind that joined octets are cut into: one where its version has no Fragments or
-- it is no larger than the piece; else a first one of the piece's size, and Fragments
abbrev pub IsCut : Version → Kind → Order → List ℕ → ℕ → List Msg → Type 0
IsCut version kind order octets piece [] = ⊥
IsCut version kind order octets piece (m ∷ []) =
    (m ≡ message_of version kind order false octets)
    × ((has_fragments version ≡ false) ⊎ (length octets + 12 ≤ piece))
IsCut version kind order octets piece (m ∷ n ∷ ms) =
    (m ≡ message_of version kind order true (take (piece - 12) octets))
    × (version ≡ V12) × (piece < length octets + 12)
    × AreFragments order (take 4 octets) piece (drop (piece - 12) octets) (n ∷ ms)

-- joined octets, and a piece of which messages may be
pub record CanCut (kind : Kind) (octets : List ℕ) (piece : ℕ) : Type 0 where
  pub continued : is_continued kind ≡ true
  pub id : 4 ≤ length octets
  pub short : length octets < 2 ^ 32
  pub large : 24 ≤ piece
  pub fits : piece < 2 ^ 32
  pub multiple : piece % 8 ≡ 0

-- a limit of message sizes lets through what joined octets are cut into: it is no less than all of
-- them, or than a piece without its header where the version has Fragments
abbrev pub LetsThrough : ℕ → Version → List ℕ → ℕ → Type 0
LetsThrough limit version octets piece =
    (length octets ≤ limit) ⊎ ((has_fragments version ≡ true) × (piece ≤ limit + 12))

-- what holds of messages that joined octets are cut into
pub record CutLaws : Type 0 where
  -- their joined octets are those that were cut
  pub undone : (version : Version) (kind : Kind) (order : Order) (octets : List ℕ) (piece : ℕ)
      (messages : List Msg) →
      CanCut kind octets piece → IsCut version kind order octets piece messages
      → joined messages ≡ octets
  -- a framer reads them back whose limit is the greatest there is
  pub framed : (version : Version) (kind : Kind) (order : Order) (octets : List ℕ) (piece : ℕ)
      (messages : List Msg) →
      CanCut kind octets piece → IsCut version kind order octets piece messages →
      Msgs (2 ^ 32 - 1) (flat_map message_octets messages) messages []
  -- and so does one of any limit that lets them through
  pub within : (limit : ℕ) (version : Version) (kind : Kind) (order : Order) (octets : List ℕ)
      (piece : ℕ) (messages : List Msg) →
      CanCut kind octets piece → IsCut version kind order octets piece messages →
      LetsThrough limit version octets piece →
      Msgs limit (flat_map message_octets messages) messages []
