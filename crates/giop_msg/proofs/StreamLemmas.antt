-- Messages at the front of a stream: there is one at most, and what follows does not matter.
use Rattle.std.proofs.Common.{◌≡◌, ℕ, zero, suc, ◌+◌, List, [], ◌∷◌, ◌++◌, length, take, drop, None, refl, sym, ap, subst, ◌∙◌, append_assoc, length-append, arith}
use Rattle.std.specs.List.{All, flat_map}
use Rattle.std.proofs.lemmas.List.{take_at, drop_at, take-append-le}
use Rattle.std.proofs.lemmas.List.Elements.{All-append}
use Rattle.std.proofs.lemmas.Grind.{flat_map-append}
use Rattle.giop_msg.specs.declared.fault.WireFault.{WireFault}
use Rattle.giop_msg.specs.declared.header.Header.{Header}
use Rattle.giop_msg.specs.declared.msg.Msg.{Msg}
use Rattle.giop_msg.specs.Header.{header_octets, header_of, header_fault}
use Rattle.giop_msg.specs.Laws.{OneSplit, SplitOn}
use Rattle.giop_msg.specs.Msg.{head_of, message_octets, IsMessage}
use Rattle.giop_msg.specs.Stream.{BeginsWithMessage, BeginsWithFault, Msgs}
use Rattle.giop_msg.proofs.HeaderLemmas.{length-header_octets, header_of-header_octets}

pub length-message_octets : (m : Msg) → length (message_octets m) ≡ 12 + length m.payload
length-message_octets m = length-append (header_octets (head_of m)) m.payload ∙ ap (λ n. n + length m.payload) (length-header_octets (head_of m))

-- the first twelve octets are the header's
pub take-message_octets : (m : Msg) (more : List ℕ) → take 12 (message_octets m ++ more) ≡ header_octets (head_of m)
take-message_octets m more = rw append_assoc (take_at (header_octets (head_of m)) (m.payload ++ more) 12 (length-header_octets (head_of m)))

-- the octets after these are the payload's, and then those behind the message
pub drop-message_octets : (m : Msg) (more : List ℕ) → drop 12 (message_octets m ++ more) ≡ m.payload ++ more
drop-message_octets m more = rw append_assoc (drop_at (header_octets (head_of m)) (m.payload ++ more) 12 (length-header_octets (head_of m)))

pub header_of-message_octets : (limit : ℕ) (m : Msg) (more : List ℕ) → IsMessage limit m → header_of (take 12 (message_octets m ++ more)) ≡ head_of m
header_of-message_octets limit m more is = rw (take-message_octets m more) (header_of-header_octets (head_of m) is.sized)

pub header_fault-message_octets : (limit : ℕ) (m : Msg) (more : List ℕ) → IsMessage limit m → header_fault limit (take 12 (message_octets m ++ more)) ≡ None
header_fault-message_octets limit m more is = rw (take-message_octets m more) is.sound

same_fields : (m n : Msg) → head_of m ≡ head_of n → m.payload ≡ n.payload → m ≡ n
same_fields m n heads payload =
    λ i. let h : Header = heads i in record { version = h.version; order = h.order; more = h.more; kind = h.kind; payload = payload i }

same_front : (xs ys more left : List ℕ) → length xs ≡ length ys → xs ++ more ≡ ys ++ left → (xs ≡ ys) × (more ≡ left)
same_front xs ys more left same e = (
  sym (take_at xs more (length xs) refl) ∙ ap (take (length xs)) e ∙ take_at ys left (length xs) (sym same),
  sym (drop_at xs more (length xs) refl) ∙ ap (drop (length xs)) e ∙ drop_at ys left (length xs) (sym same),
)

-- one message at most stands at the front of octets
pub same_message : (limit : ℕ) (m n : Msg) (more left : List ℕ) → IsMessage limit m → IsMessage limit n →
    message_octets m ++ more ≡ message_octets n ++ left → (m ≡ n) × (more ≡ left)
same_message limit m n more left is_m is_n e =
    let heads = sym (header_of-message_octets limit m more is_m) ∙ ap (λ o. header_of (take 12 o)) e ∙ header_of-message_octets limit n left is_n in
    let behind = sym (drop-message_octets m more) ∙ ap (drop 12) e ∙ drop-message_octets n left in
    let payloads = same_front m.payload n.payload more left (ap (λ (h : Header). h.size) heads) behind in
    (same_fields m n heads payloads.0, payloads.1)

-- a fault at the front stands there, however many octets follow
pub fault_stands : (limit : ℕ) (octets more : List ℕ) (e : WireFault) → BeginsWithFault limit octets e → BeginsWithFault limit (octets ++ more) e
fault_stands limit octets more e stands =
    (omega (arith, length-append octets more, stands.0), rw (take-append-le 12 octets more stands.0) stands.1)

-- a message and a fault do not both stand at the front
pub message_or_fault : (limit : ℕ) (octets : List ℕ) (e : WireFault) → BeginsWithMessage limit octets → BeginsWithFault limit octets e → ⊥
message_or_fault limit octets e (m, more, is, eq) stands =
    let sound : header_fault limit (take 12 octets) ≡ None = rw eq (header_fault-message_octets limit m more is) in
    let found = stands.1 in
    cc

-- one fault at most stands at the front
pub one_fault : (limit : ℕ) (octets : List ℕ) (e f : WireFault) → BeginsWithFault limit octets e → BeginsWithFault limit octets f → e ≡ f
one_fault limit octets e f one two = let a = one.1 in let b = two.1 in cc

pub each_head : (limit : ℕ) (m : Msg) (ms : List Msg) → All (IsMessage limit) (m ∷ ms) → IsMessage limit m
each_head limit m ms each = each 0 m (omega arith)

pub each_tail : (limit : ℕ) (m : Msg) (ms : List Msg) → All (IsMessage limit) (m ∷ ms) → All (IsMessage limit) ms
each_tail limit m ms each = λ k d h. each (suc k) d (omega arith)

pub each_one : (limit : ℕ) (m : Msg) → IsMessage limit m → All (IsMessage limit) (m ∷ [])
each_one limit m is zero d h = is
each_one limit m is (suc k) d h = absurd (omega arith)

-- the first message of a split, and then the octets of the others and the rest
split_first : (limit : ℕ) (stream : List ℕ) (m : Msg) (ms : List Msg) (rest : List ℕ) → Msgs limit stream (m ∷ ms) rest →
    stream ≡ message_octets m ++ (flat_map message_octets ms ++ rest)
split_first limit stream m ms rest split = split.whole ∙ append_assoc (message_octets m) (flat_map message_octets ms) rest

split_begins : (limit : ℕ) (stream : List ℕ) (m : Msg) (ms : List Msg) (rest : List ℕ) → Msgs limit stream (m ∷ ms) rest → BeginsWithMessage limit stream
split_begins limit stream m ms rest split =
    (m, flat_map message_octets ms ++ rest, each_head limit m ms split.each, split_first limit stream m ms rest split)

split_others : (limit : ℕ) (stream : List ℕ) (m : Msg) (ms : List Msg) (rest : List ℕ) → Msgs limit stream (m ∷ ms) rest →
    Msgs limit (flat_map message_octets ms ++ rest) ms rest
split_others limit stream m ms rest split = record { whole = refl; each = each_tail limit m ms split.each; partial = split.partial }

-- two splits of one stream are one
pub same_splits : OneSplit
same_splits limit stream [] [] rest left a b = (refl, sym a.whole ∙ b.whole)
same_splits limit stream [] (n ∷ two) rest left a b =
    absurd (a.partial (subst (BeginsWithMessage limit) a.whole (split_begins limit stream n two left b)))
same_splits limit stream (m ∷ one) [] rest left a b =
    absurd (b.partial (subst (BeginsWithMessage limit) b.whole (split_begins limit stream m one rest a)))
same_splits limit stream (m ∷ one) (n ∷ two) rest left a b =
    let firsts = same_message limit m n (flat_map message_octets one ++ rest) (flat_map message_octets two ++ left) (each_head limit m one a.each)
    (each_head limit n two b.each) (sym (split_first limit stream m one rest a) ∙ split_first limit stream n two left b) in
    let others = subst (λ s. Msgs limit s two left) (sym firsts.1) (split_others limit stream n two left b) in
    let same = same_splits limit (flat_map message_octets one ++ rest) one two rest left (split_others limit stream m one rest a) others in
    (let first : m ≡ n = firsts.0 in let later : one ≡ two = same.0 in cc, same.1)

-- a split goes on with the split of its rest and more octets
pub split_goes_on : SplitOn
split_goes_on limit stream more first second rest left a b = record {
  whole =
      ap (λ s. s ++ more) a.whole ∙ append_assoc (flat_map message_octets first) rest more
      ∙ ap (λ s. flat_map message_octets first ++ s) b.whole ∙ sym (append_assoc (flat_map message_octets first) (flat_map message_octets second) left)
      ∙ ap (λ s. s ++ left) (sym (flat_map-append message_octets first second));
  each = All-append (IsMessage limit) first second a.each b.each;
  partial = b.partial;
}
