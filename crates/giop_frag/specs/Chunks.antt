-- How all blocks are kept: in chunks of 64, each full but for the last, so that none ever moves.
use Rattle.std.specs.Prelude.{◌≡◌, ℕ, ◌+◌, ◌-◌, ◌*◌, ◌≤◌, ◌<◌, min, List, [], ◌∷◌, ◌++◌, length, slice_index_or}

-- the blocks of these chunks, by their numbers
abbrev pub in_order : List (List (List ℕ)) → List (List ℕ)
in_order [] = []
in_order (chunk ∷ chunks) = chunk ++ in_order chunks

-- the chunk at this place
abbrev pub chunk : List (List (List ℕ)) → ℕ → List (List ℕ)
chunk chunks i = slice_index_or chunks i []

-- so many blocks are in these chunks, 64 in each but the last, and none is empty
pub record AreChunks (chunks : List (List (List ℕ))) (count : ℕ) : Type 0 where
  pub sizes : (i : ℕ) → i < length chunks → length (chunk chunks i) ≡ min 64 (count - 64 * i)
  pub enough : count ≤ 64 * length chunks
  pub needed : 64 * length chunks < count + 64
