-- What has been written, and what a call adds to it (CORBA 3.3 Part 2, 9.3.1).
use Rattle.std.specs.Prelude.{ℕ, ℤ, ◌+◌, List, [], ◌∷◌, ◌++◌, length, take, replicate}
use Rattle.std.specs.Int.{Width, w32, byte_len, to_be_bytes, to_le_bytes, cast_unsigned}
use Rattle.giop_cdr.specs.declared.order.Order.{Order}
use Rattle.giop_cdr.specs.declared.order.Order.TheVariants.{Big, Little}
use Rattle.giop_cdr.specs.Reading.Cursor.{pad}

-- the octets so far, the offset of the next one, and the order of the numbers
pub record Output : Type 0 where
  pub order : Order
  pub at : ℕ
  pub octets : List ℕ

-- a place in an output: how many octets stand before it, and the order and the offset there
pub record Place : Type 0 where
  pub len : ℕ
  pub order : Order
  pub at : ℕ

-- where an output stands
abbrev pub here : Output → Place
here out = record { len = length out.octets; order = out.order; at = out.at }

-- an output as it was at a place
abbrev pub back_at : Place → Output → Output
back_at p out = record { order = p.order; at = p.at; octets = take p.len out.octets }

-- the octets of an unsigned number of a width
abbrev pub octets_of : Order → Width → ℕ → List ℕ
octets_of Big w n = to_be_bytes w n
octets_of Little w n = to_le_bytes w n

-- some octets more
abbrev pub append : Output → List ℕ → Output
append out octets =
    record { order = out.order; at = out.at + length octets; octets = out.octets ++ octets }

-- as few zeros as lead to a multiple of n, and then octets
abbrev pub aligned : ℕ → Output → List ℕ → List ℕ
aligned n out octets = replicate (pad n out.at) 0 ++ octets

-- ---- what is written of a value

-- nothing but zeros up to a multiple of n
unfoldable pub padding_out : ℕ → Output → Output
padding_out n out = append out (replicate (pad n out.at) 0)

-- an unsigned number
unfoldable pub number_out : Width → ℕ → Output → Output
number_out w n out = append out (aligned (byte_len w) out (octets_of out.order w n))

-- a signed number: two's complement
unfoldable pub signed_out : Width → ℤ → Output → Output
signed_out w z out = number_out w (cast_unsigned w z) out

-- a sequence of octets: its length and the octets
unfoldable pub octets_out : List ℕ → Output → Output
octets_out octets out = append (number_out w32 (length octets) out) octets

-- a string: its length with the null, the octets, the null
unfoldable pub string_out : List ℕ → Output → Output
string_out text out = append (number_out w32 (length text + 1) out) (text ++ 0 ∷ [])

-- values one after the other
unfoldable pub items_out : {A : Type 0} → (A → Output → Output) → List A → Output → Output
items_out item [] out = out
items_out item (x ∷ xs) out = items_out item xs (item x out)

-- a sequence: its count and its values
unfoldable pub sequence_out : {A : Type 0} → (A → Output → Output) → List A → Output → Output
sequence_out item xs out = items_out item xs (number_out w32 (length xs) out)
