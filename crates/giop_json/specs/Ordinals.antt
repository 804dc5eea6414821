-- The names of an enum by their octets: a map that has for each name the first of its ordinals.
use Rattle.std.specs.Prelude.{◌≡◌, ℕ, ◌+◌, if◌then◌else◌, List, [], ◌∷◌, Option, Some, None, bytes_eq}
use Rattle.std.specs.Borrow.{Bor}
use Rattle.std.specs.BTreeMap.{BTreeMap, get}
use Rattle.std.specs.Cmp.Lexicographic.{slice_cmp}
use Rattle.std.specs.Ordering.{nat_cmp}

-- the ordinal of the first name that is these octets, where the ordinals begin at n
abbrev pub ordinal_from : ℕ → List ℕ → List (List ℕ) → Option ℕ
ordinal_from n octets [] = None
ordinal_from n octets (name ∷ names) =
    if bytes_eq name octets then Some n else ordinal_from (n + 1) octets names

-- a map has for any octets the ordinal of the first name that is these, where the ordinals begin
-- at n
abbrev pub HasOrdinals : ℕ → BTreeMap (Bor (List ℕ)) ℕ → List (List ℕ) → Type 0
HasOrdinals n map names = (octets : Bor (List ℕ)) →
    get (λ name other. slice_cmp nat_cmp name.now other.now) map octets
    ≡ ordinal_from n octets.now names
