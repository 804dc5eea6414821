-- Where a reader stands, and where a value begins (CORBA 3.3 Part 2, 9.3.1: byte order and
-- alignment).
use Rattle.std.specs.Prelude.{ℕ, zero, suc, ◌+◌, ◌-◌, ◌%◌, ◌==◌, ◌||◌, Bool, List, take, drop}
use Rattle.std.specs.Int.{Width, from_be_bytes, from_le_bytes}
use Rattle.giop_cdr.specs.declared.order.Order.{Order}
use Rattle.giop_cdr.specs.declared.order.Order.TheVariants.{Big, Little}

-- the unsigned number of as many octets as its width has: the first octet counts most in Big, least
-- in Little (9.3.1.1)
abbrev pub num : Order → Width → List ℕ → ℕ
num Big w octets = from_be_bytes w octets
num Little w octets = from_le_bytes w octets

-- what is left to read: the octets, the offset of the first of them, and the order of their numbers
pub record Cursor : Type 0 where
  pub order : Order
  pub at : ℕ
  pub rest : List ℕ

-- the order that a number stands for where an order fills a word
abbrev pub order_by : ℕ → Order
order_by zero = Big
order_by (suc n) = Little

-- how many octets lie between an offset and the next multiple of n
abbrev pub pad : ℕ → ℕ → ℕ
pad n at = (n - at % n) % n

-- the alignments of CDR's primitives
abbrev pub is_alignment : ℕ → Bool
is_alignment n = (n == 1) || (n == 2) || (n == 4) || (n == 8)

-- the offset at which a value begins that is aligned to n (9.3.1.1)
abbrev pub place : ℕ → Cursor → ℕ
place n c = c.at + pad n c.at

-- n octets further on
abbrev pub skip : ℕ → Cursor → Cursor
skip n c = record { order = c.order; at = c.at + n; rest = drop n c.rest }

-- the octets of a store from one index up to another
abbrev pub window : ℕ → ℕ → List ℕ → List ℕ
window from to octets = take (to - from) (drop from octets)
