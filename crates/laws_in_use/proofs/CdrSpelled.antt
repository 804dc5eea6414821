-- What octets spell, and how it lies between two cursors.
use Rattle.std.proofs.Common.{◌<◌, ◌&&◌, Bool, true, false, nat_lt, ◌≡◌, ℕ, ◌+◌, ◌%◌, ◌≤◌, List, [], ◌∷◌, ◌++◌, length, codes, negsuc, Ok, refl, sym, ap, subst, ◌∙◌, arith}
use Rattle.std.proofs.lemmas.Bool.Decides.{nat_tests}
use Rattle.std.proofs.lemmas.List.Elements.{All-cons, All-nil}
use Rattle.std.specs.List.{list_all}
use Rattle.giop_cdr.specs.Layout.{AreOctets}
use Rattle.std.specs.Int.{w8, w16, w32, w64}
use Rattle.giop_cdr.specs.declared.order.Order.{Order}
use Rattle.giop_cdr.specs.declared.order.Order.TheVariants.{Big, Little}
use Rattle.giop_cdr.specs.Reading.Cursor.{Cursor}
use Rattle.giop_cdr.specs.Reading.Exactness.{Counts, Took}
use Rattle.giop_cdr.specs.Reading.Values.{Reading}
use Rattle.giop_cdr.specs.RoundTrip.{IsReadBack}
use Rattle.giop_cdr.specs.Spelling.{Spelling, SpellsNumber, SpellsOctets, SpellsSigned, SpellsString}
use Rattle.giop_cdr.specs.Writing.Output.{Output}

-- the only number up to 3 that leads from 13 to a multiple of 8
pub three : (n : ℕ) → (13 + n) % 8 ≡ 0 → n ≤ 3 → n ≡ 3
three n whole few = omega arith

abbrev pub cursor : Order → ℕ → List ℕ → Cursor
cursor order at rest = record { order = order; at = at; rest = rest }

-- what octets spell lies at their front
pub took : {A : Type 0} {P : Spelling A} {order : Order} {at : ℕ} {v : A} (octets rest : List ℕ) → P order at v octets
    → Took P (cursor order at (octets ++ rest)) v (cursor order (at + length octets) rest)
took octets rest spells = record { octets = octets; front = refl; at = refl; order = refl; spells = spells }

-- a number by its octets behind padding
pub word_big : SpellsNumber w32 Big 2 258 (7 ∷ 7 ∷ 0 ∷ 0 ∷ 1 ∷ 2 ∷ [])
word_big = record { pads = 7 ∷ 7 ∷ []; octets = 0 ∷ 0 ∷ 1 ∷ 2 ∷ []; padded = refl; few = refl; whole = refl; value = refl }

pub word_little : SpellsNumber w32 Little 2 258 (7 ∷ 7 ∷ 2 ∷ 1 ∷ 0 ∷ 0 ∷ [])
word_little = record { pads = 7 ∷ 7 ∷ []; octets = 2 ∷ 1 ∷ 0 ∷ 0 ∷ []; padded = refl; few = refl; whole = refl; value = refl }

pub long : SpellsNumber w64 Big 8 256 (0 ∷ 0 ∷ 0 ∷ 0 ∷ 0 ∷ 0 ∷ 1 ∷ 0 ∷ [])
long = record { pads = []; octets = 0 ∷ 0 ∷ 0 ∷ 0 ∷ 0 ∷ 0 ∷ 1 ∷ 0 ∷ []; padded = refl; few = refl; whole = refl; value = refl }

pub minus_two : SpellsSigned w16 Little 4 (negsuc 1) (254 ∷ 255 ∷ [])
minus_two = record { pads = []; octets = 254 ∷ 255 ∷ []; padded = refl; few = refl; whole = refl; value = refl }

pub minus_one : SpellsSigned w8 Big 0 (negsuc 0) (255 ∷ [])
minus_one = record { pads = []; octets = 255 ∷ []; padded = refl; few = refl; whole = refl; value = refl }

pub octet_two : SpellsNumber w8 Big 5 2 (2 ∷ [])
octet_two = record { pads = []; octets = 2 ∷ []; padded = refl; few = refl; whole = refl; value = refl }

-- an unsigned long by its four octets
pub counted : (order : Order) (n : ℕ) (a b c d : ℕ) → SpellsNumber w32 order 0 n (a ∷ b ∷ c ∷ d ∷ [])
    → (rest : List ℕ) → n ≤ length rest → Counts (cursor order 0 (a ∷ b ∷ c ∷ d ∷ rest)) n (cursor order 4 rest)
counted order n a b c d spells rest few = (took (a ∷ b ∷ c ∷ d ∷ []) rest spells, few)

pub three_big : SpellsNumber w32 Big 0 3 (0 ∷ 0 ∷ 0 ∷ 3 ∷ [])
three_big = record { pads = []; octets = 0 ∷ 0 ∷ 0 ∷ 3 ∷ []; padded = refl; few = refl; whole = refl; value = refl }

pub five_big : SpellsNumber w32 Big 0 5 (0 ∷ 0 ∷ 0 ∷ 5 ∷ [])
five_big = record { pads = []; octets = 0 ∷ 0 ∷ 0 ∷ 5 ∷ []; padded = refl; few = refl; whole = refl; value = refl }

pub one_big : SpellsNumber w32 Big 0 1 (0 ∷ 0 ∷ 0 ∷ 1 ∷ [])
one_big = record { pads = []; octets = 0 ∷ 0 ∷ 0 ∷ 1 ∷ []; padded = refl; few = refl; whole = refl; value = refl }

pub none_big : SpellsNumber w32 Big 0 0 (0 ∷ 0 ∷ 0 ∷ 0 ∷ [])
none_big = record { pads = []; octets = 0 ∷ 0 ∷ 0 ∷ 0 ∷ []; padded = refl; few = refl; whole = refl; value = refl }

pub two_big : SpellsNumber w32 Big 0 2 (0 ∷ 0 ∷ 0 ∷ 2 ∷ [])
two_big = record { pads = []; octets = 0 ∷ 0 ∷ 0 ∷ 2 ∷ []; padded = refl; few = refl; whole = refl; value = refl }

pub three_little : SpellsNumber w32 Little 0 3 (3 ∷ 0 ∷ 0 ∷ 0 ∷ [])
three_little = record { pads = []; octets = 3 ∷ 0 ∷ 0 ∷ 0 ∷ []; padded = refl; few = refl; whole = refl; value = refl }

pub two_little : SpellsNumber w32 Little 0 2 (2 ∷ 0 ∷ 0 ∷ 0 ∷ [])
two_little = record { pads = []; octets = 2 ∷ 0 ∷ 0 ∷ 0 ∷ []; padded = refl; few = refl; whole = refl; value = refl }

pub five_little : SpellsNumber w32 Little 0 5 (5 ∷ 0 ∷ 0 ∷ 0 ∷ [])
five_little = record { pads = []; octets = 5 ∷ 0 ∷ 0 ∷ 0 ∷ []; padded = refl; few = refl; whole = refl; value = refl }

-- sequences and strings
pub abc : SpellsOctets Big 0 (codes "abc") (0 ∷ 0 ∷ 0 ∷ 3 ∷ 97 ∷ 98 ∷ 99 ∷ [])
abc = record { first = 3; front = 0 ∷ 0 ∷ 0 ∷ 3 ∷ []; back = 97 ∷ 98 ∷ 99 ∷ []; whole = refl; spells_front = three_big; spells_back = (refl, refl) }

pub just_a : SpellsOctets Big 0 (codes "a") (0 ∷ 0 ∷ 0 ∷ 1 ∷ 97 ∷ [])
just_a = record { first = 1; front = 0 ∷ 0 ∷ 0 ∷ 1 ∷ []; back = 97 ∷ []; whole = refl; spells_front = one_big; spells_back = (refl, refl) }

pub no_octets : SpellsOctets Big 0 [] (0 ∷ 0 ∷ 0 ∷ 0 ∷ [])
no_octets = record { first = 0; front = 0 ∷ 0 ∷ 0 ∷ 0 ∷ []; back = []; whole = refl; spells_front = none_big; spells_back = (refl, refl) }

pub octet_of_two : SpellsOctets Big 0 (2 ∷ []) (0 ∷ 0 ∷ 0 ∷ 1 ∷ 2 ∷ [])
octet_of_two = record { first = 1; front = 0 ∷ 0 ∷ 0 ∷ 1 ∷ []; back = 2 ∷ []; whole = refl; spells_front = one_big; spells_back = (refl, refl) }

pub two_octets : SpellsOctets Big 0 (1 ∷ 0 ∷ []) (0 ∷ 0 ∷ 0 ∷ 2 ∷ 1 ∷ 0 ∷ [])
two_octets = record { first = 2; front = 0 ∷ 0 ∷ 0 ∷ 2 ∷ []; back = 1 ∷ 0 ∷ []; whole = refl; spells_front = two_big; spells_back = (refl, refl) }

pub hi : SpellsString Little 0 (codes "hi") (3 ∷ 0 ∷ 0 ∷ 0 ∷ 104 ∷ 105 ∷ 0 ∷ [])
hi = record { first = 3; front = 3 ∷ 0 ∷ 0 ∷ 0 ∷ []; back = 104 ∷ 105 ∷ 0 ∷ []; whole = refl; spells_front = three_little; spells_back = (refl, refl, refl) }

pub text_a : SpellsString Big 0 (codes "a") (0 ∷ 0 ∷ 0 ∷ 2 ∷ 97 ∷ 0 ∷ [])
text_a = record { first = 2; front = 0 ∷ 0 ∷ 0 ∷ 2 ∷ []; back = 97 ∷ 0 ∷ []; whole = refl; spells_front = two_big; spells_back = (refl, refl, refl) }

-- what was written into nothing is read again
pub again : {A : Type 0} {P : Spelling A} {read : Cursor → Reading A} {v : A} {out done : Output}
    → IsReadBack P read v out done → out.octets ≡ [] → (behind : List ℕ)
    → read (cursor out.order out.at (done.octets ++ behind)) ≡ Ok (v, cursor done.order done.at behind)
again {read = read} {v = v} {out = out} {done = done} back empty behind =
    subst (λ part. read (cursor out.order out.at (part ++ behind)) ≡ Ok (v, cursor done.order done.at behind))
    (sym (back.octets ∙ ap (λ octets. octets ++ back.part) empty)) (back.back behind)

-- octets, by a test of each
pub are_octets : (octets : List ℕ) → list_all (λ octet. nat_lt octet 256) octets ≡ true → AreOctets octets
are_octets [] tested = All-nil (λ octet. octet < 256)
are_octets (octet ∷ octets) tested =
    let parts = both (nat_lt octet 256) (list_all (λ octet. nat_lt octet 256) octets) tested in
    All-cons (λ octet. octet < 256) octet octets (small octet (nat_lt octet 256) refl parts.0) (are_octets octets parts.1)
  where
    both : (a b : Bool) → (a && b) ≡ true → (a ≡ true) × (b ≡ true)
    both true b is = (refl, is)
    both false b is = absurd cc

    small : (n : ℕ) (b : Bool) → nat_lt n 256 ≡ b → b ≡ true → n < 256
    small n b is less = grind (arith, nat_tests)
