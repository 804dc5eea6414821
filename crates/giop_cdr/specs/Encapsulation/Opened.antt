-- Encapsulations (CORBA 3.3 Part 2, 9.3.3): a sequence of octets of which the first is the byte
-- order of the rest, and in which alignment begins anew at that octet.
use Rattle.std.specs.Prelude.{◌≡◌, ℕ, zero, suc, ◌+◌, ◌-◌, ◌<◌, ◌⊎◌, slice_index, List, [], ◌∷◌, ◌++◌, length, take, drop, replicate, Ok, Err}
use Rattle.std.specs.Int.{w32}
use Rattle.giop_cdr.specs.declared.order.Order.{Order}
use Rattle.giop_cdr.specs.declared.order.Order.TheVariants.{Big, Little}
use Rattle.giop_cdr.specs.declared.fault.CdrKind.TheVariants.{Short, BadOrder}
use Rattle.giop_cdr.specs.Reading.Cursor.{Cursor, pad, place}
use Rattle.giop_cdr.specs.Reading.Values.{Reading, ◌>>=◌, fault, octets_at}
use Rattle.giop_cdr.specs.Spelling.{Spelling, SpellsOctets, Then}
use Rattle.giop_cdr.specs.Reading.Exactness.{Refusal, FirstRefused, Took, RefusedOctets}
use Rattle.giop_cdr.specs.Writing.Output.{Output, Place, aligned, octets_of}

-- the octet of a byte order
abbrev pub order_octet : Order → ℕ
order_octet Big = 0
order_octet Little = 1

-- ---- reading

-- the reader of an encapsulation's content: it stands behind the order octet, whose offset is 0
abbrev pub content_of : Order → List ℕ → Cursor
content_of order octets = record { order = order; at = 1; rest = octets }

-- what the octets of an encapsulation open, of which the first stands at an offset; the second
-- cursor is that of the outer reader
abbrev pub opened_of : ℕ → List ℕ → Cursor → Reading Cursor
opened_of at [] after = Err (fault at Short)
opened_of at (zero ∷ octets) after = Ok (content_of Big octets, after)
opened_of at (suc zero ∷ octets) after = Ok (content_of Little octets, after)
opened_of at (suc (suc _) ∷ octets) after = Err (fault at BadOrder)

-- an encapsulation, opened
unfoldable pub encapsulation_at : Cursor → Reading Cursor
encapsulation_at c = do
  octets ← octets_at 0 c
  opened_of (place 4 c + 4) octets.0 octets.1

-- octets are an order octet and a content, of which the value is the reader
pub record Opens (octets : List ℕ) (v : Cursor) : Type 0 where
  pub order : Order
  pub content : List ℕ
  pub whole : octets ≡ order_octet order ∷ content
  pub value : v ≡ content_of order content

-- an encapsulation: a sequence of octets that opens
abbrev pub SpellsEncapsulation : Spelling Cursor
SpellsEncapsulation = Then SpellsOctets (λ octets o at v b. Opens octets v × (b ≡ []))

-- the sequence of octets is refused, or it has no octet, or its first octet is no byte order
abbrev pub RefusedEncapsulation : Refusal
RefusedEncapsulation c e = FirstRefused (Took SpellsOctets) (RefusedOctets 0)
    (λ octets d f. ((octets ≡ []) × (f ≡ fault (place 4 c + 4) Short))
    ⊎ ((1 < slice_index octets 0) × (f ≡ fault (place 4 c + 4) BadOrder)))
    c e

-- ---- writing

-- a length that isn't known yet, and the order octet, behind which the inner order and alignment
-- hold
unfoldable pub opened : Order → Output → Output
opened order out =
    record {
      order = order;
      at = 1;
      octets = out.octets ++ (aligned 4 out (replicate 4 0) ++ order_octet order ∷ []);
    }

unfoldable pub place_opened : Output → Place
place_opened out =
    record {
      len = length out.octets + (pad 4 out.at + 4);
      order = out.order;
      at = out.at + (pad 4 out.at + 4);
    }

-- the length is known, and the outer order and alignment hold again
unfoldable pub closed : Place → Output → Output
closed p out =
    record {
      order = p.order;
      at = p.at + (length out.octets - p.len);
      octets = take (p.len - 4) out.octets
          ++ (octets_of p.order w32 (length out.octets - p.len) ++ drop p.len out.octets);
    }
