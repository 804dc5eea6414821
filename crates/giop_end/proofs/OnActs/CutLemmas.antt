-- Messages that joined octets are cut into: their sizes, and how many they are.
use Rattle.std.proofs.Common.{◌≡◌, ℕ, ◌-◌, ◌<◌, ◌≤◌, ◌^◌, List, [], ◌∷◌, ◌++◌, length, take, drop, arith, sym, ap, subst}
use Rattle.std.proofs.lemmas.List.{length-append, length-drop, length-take-le}
use Rattle.giop_cdr.specs.declared.order.Order.{Order}
use Rattle.giop_msg.specs.declared.kind.Kind.{Kind}
use Rattle.giop_msg.specs.declared.msg.Msg.{Msg}
use Rattle.giop_msg.specs.declared.version.Version.{Version}
use Rattle.giop_msg.specs.Cut.{AreFragments, IsCut}
use Rattle.giop_table.specs.Unsent.{AreSized}

-- an id and octets behind it are a payload of the size that a header tells
sized : (m : Msg) (octets : List ℕ) → m.payload ≡ octets → length octets < 2 ^ 32
    → length m.payload < 2 ^ 32
sized m octets is short = subst (λ xs. length xs < 2 ^ 32) (sym is) short

-- Fragments
pub fragments_sized : (order : Order) (id : List ℕ) (piece : ℕ) (octets : List ℕ)
    (messages : List Msg) → length id ≡ 4 → 24 ≤ piece → piece < 2 ^ 32
    → AreFragments order id piece octets messages → AreSized messages
fragments_sized order id piece octets [] four large small are = absurd are
fragments_sized order id piece octets (m ∷ []) four large small are = (
  sized m (id ++ octets) (ap (λ m. m.payload) are.0)
      (omega (arith, length-append id octets, four, are.2)),
  tt,
)
fragments_sized order id piece octets (m ∷ n ∷ ms) four large small are =
    let part = length-take-le (piece - 16) octets (omega (arith, are.1)) in (
      sized m (id ++ take (piece - 16) octets) (ap (λ m. m.payload) are.0)
          (omega (arith, length-append id (take (piece - 16) octets), four, part)),
      fragments_sized order id piece (drop (piece - 16) octets) (n ∷ ms) four large small are.2,
    )

-- all of them
pub cut_sized : (version : Version) (kind : Kind) (order : Order) (octets : List ℕ) (piece : ℕ)
    (messages : List Msg) → 4 ≤ length octets → length octets < 2 ^ 32 → 24 ≤ piece
    → piece < 2 ^ 32 → IsCut version kind order octets piece messages → AreSized messages
cut_sized version kind order octets piece [] long short large small are = absurd are
cut_sized version kind order octets piece (m ∷ []) long short large small are =
    (sized m octets (ap (λ m. m.payload) are.0) short, tt)
cut_sized version kind order octets piece (m ∷ n ∷ ms) long short large small are =
    let part = length-take-le (piece - 12) octets (omega (arith, are.2)) in (
      sized m (take (piece - 12) octets) (ap (λ m. m.payload) are.0) (omega (arith, part)),
      fragments_sized order (take 4 octets) piece (drop (piece - 12) octets) (n ∷ ms)
          (length-take-le 4 octets long) large small are.3,
    )

-- each Fragment brings an octet
pub fragments_few : (order : Order) (id : List ℕ) (piece : ℕ) (octets : List ℕ)
    (messages : List Msg) → 24 ≤ piece → AreFragments order id piece octets messages
    → length messages ≤ length octets
fragments_few order id piece octets [] large are = absurd are
fragments_few order id piece octets (m ∷ []) large are = omega (arith, are.1)
fragments_few order id piece octets (m ∷ n ∷ ms) large are =
    let few = fragments_few order id piece (drop (piece - 16) octets) (n ∷ ms) large are.2 in
    omega (arith, few, are.1, length-drop (piece - 16) octets)

-- so there are fewer messages than an unsigned long counts
pub cut_few : (version : Version) (kind : Kind) (order : Order) (octets : List ℕ) (piece : ℕ)
    (messages : List Msg) → 4 ≤ length octets → 24 ≤ piece
    → IsCut version kind order octets piece messages → length messages ≤ length octets
cut_few version kind order octets piece [] long large are = absurd are
cut_few version kind order octets piece (m ∷ []) long large are = omega (arith, long)
cut_few version kind order octets piece (m ∷ n ∷ ms) long large are =
    let few = fragments_few order (take 4 octets) piece (drop (piece - 12) octets) (n ∷ ms) large
    are.3 in
    omega (arith, few, are.2, length-drop (piece - 12) octets)
