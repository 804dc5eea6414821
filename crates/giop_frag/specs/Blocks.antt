-- How octets lie in blocks of 512, each named by its number.
use Rattle.std.specs.Prelude.{◌≡◌, ℕ, ◌+◌, ◌==◌, ◌*◌, ◌≤◌, ◌<◌, if◌then◌else◌, nat_lt, List, [], ◌∷◌, ◌++◌, take, length, slice_index_or, replicate, refl}
use Rattle.std.specs.Coded.{Coded, code_by, coded×, coded_ℕ, coded_list}

-- all blocks, by their numbers, and the numbers of those that serve no list
pub record Pooled : Type 0 where
  pub blocks : List (List ℕ)
  pub free : List ℕ

-- such a pool is stored as the pair of its fields
abbrev pub pooled_code : Coded Pooled
pooled_code =
    code_by (List (List ℕ) × List ℕ) (coded× (coded_list (coded_list coded_ℕ)) (coded_list coded_ℕ))
    (λ p. (p.blocks, p.free))
    (λ q. record { blocks = q.0; free = q.1 })
    (λ _. refl)

-- the block of this number
abbrev pub block : List (List ℕ) → ℕ → List ℕ
block blocks n = slice_index_or blocks n []

-- these blocks, one behind the other
abbrev pub laid : List (List ℕ) → List ℕ → List ℕ
laid blocks [] = []
laid blocks (n ∷ numbers) = block blocks n ++ laid blocks numbers

-- the first octets of these
abbrev pub octets_at : List (List ℕ) → List ℕ → ℕ → List ℕ
octets_at blocks numbers size = take size (laid blocks numbers)

-- how often a number stands in a list
abbrev pub times : ℕ → List ℕ → ℕ
times n [] = 0
times n (m ∷ numbers) = (if n == m then 1 else 0) + times n numbers

-- once, where a block has this number
abbrev pub once : ℕ → List (List ℕ) → ℕ
once n blocks = if nat_lt n (length blocks) then 1 else 0

-- each block has 512 octets
pub record AreWhole (blocks : List (List ℕ)) : Type 0 where
  pub whole : (n : ℕ) → n < length blocks → length (block blocks n) ≡ 512

-- a pool has whole blocks, and room for the number of each among the free ones
pub record IsRoomy (blocks : List (List ℕ)) (free : List ℕ) (room : ℕ) : Type 0 where
  pub whole : AreWhole blocks
  pub fits : length blocks ≤ room
  pub few : length free ≤ length blocks

-- a block without meaning
abbrev pub blank : List ℕ
blank = replicate 512 0

-- a pool with a block more, which is free
abbrev pub made : Pooled → Pooled
made p = record {
  blocks = p.blocks ++ blank ∷ [];
  free = p.free ++ length p.blocks ∷ [];
}

-- blocks were made, and are free: each number stands there once more that a block has since
pub record HasGrown (old new : Pooled) : Type 0 where
  pub kept : (n : ℕ) → n < length old.blocks → block new.blocks n ≡ block old.blocks n
  pub more : length old.blocks ≤ length new.blocks
  pub free : length new.free + length old.blocks ≡ length old.free + length new.blocks
  pub stands : (n : ℕ)
      → times n new.free + once n old.blocks ≡ times n old.free + once n new.blocks

-- these numbers name blocks, each another
pub record AreApart (blocks : List (List ℕ)) (numbers : List ℕ) : Type 0 where
  pub apart : (n : ℕ) → times n numbers ≤ once n blocks

-- octets lie in the first so many of these blocks' octets
pub record AreChained (blocks : List (List ℕ)) (numbers : List ℕ) (size : ℕ) : Type 0 where
  pub whole : AreWhole blocks
  pub apart : AreApart blocks numbers
  pub within : size ≤ 512 * length numbers

-- octets were written into these blocks and into no others
pub record AreWritten (numbers : List ℕ) (old new : List (List ℕ)) : Type 0 where
  pub others : (n : ℕ) → times n numbers ≡ 0 → block new n ≡ block old n
  pub number : length new ≡ length old
