-- JSON texts, which are UTF-8, and lists of so many items.
use Rattle.std.proofs.Common.{◌≡◌, ◌<◌, ◌≤◌, arith, ℕ, List, [], ◌∷◌, length, Bool, true, false, if◌then◌else◌, Option, Some, None, refl}
use Rattle.std.specs.Str.{is_utf8, IsUtf8}
use Rattle.std.proofs.lemmas.Str.{IsUtf8-from_is_utf8, is_utf8-from_IsUtf8}
use Rattle.serde_json.specs.Data.{Data}
use Rattle.serde_json.specs.Read.{read}
use Rattle.serde_json.specs.View.{items_view}
use Rattle.serde_json.specs.declared.value.Value.{Value as Json}
use Rattle.giop_json.specs.DescFromJson.{json_in, pair_in, triple_in}

pub parsed : (bytes : List ℕ) (d : Data) → IsUtf8 bytes → read bytes ≡ Some d → json_in bytes ≡ Some d
parsed bytes d all is = rw (is_utf8-from_IsUtf8 bytes all) is

unless : (b : Bool) (told : Option Data) → (b ≡ true → told ≡ None) → (if b then told else None) ≡ None
unless true told none = none refl
unless false told none = refl

pub unparsed : (bytes : List ℕ) → (IsUtf8 bytes → read bytes ≡ None) → json_in bytes ≡ None
unparsed bytes none = unless (is_utf8 bytes) (read bytes) (λ is. none (IsUtf8-from_is_utf8 bytes is))

-- ---- lists of so many items

pub short_pair : (list : List Json) → length list < 2 → pair_in (items_view list) ≡ None
short_pair [] h = refl
short_pair (a ∷ []) h = refl
short_pair (a ∷ b ∷ list) h = absurd (omega arith)

pub long_pair : (list : List Json) → 3 ≤ length list → pair_in (items_view list) ≡ None
long_pair [] h = refl
long_pair (a ∷ []) h = refl
long_pair (a ∷ b ∷ []) h = absurd (omega arith)
long_pair (a ∷ b ∷ c ∷ list) h = refl

pub short_triple : (list : List Json) → length list < 3 → triple_in (items_view list) ≡ None
short_triple [] h = refl
short_triple (a ∷ []) h = refl
short_triple (a ∷ b ∷ []) h = refl
short_triple (a ∷ b ∷ c ∷ list) h = absurd (omega arith)

pub long_triple : (list : List Json) → 4 ≤ length list → triple_in (items_view list) ≡ None
long_triple [] h = refl
long_triple (a ∷ []) h = refl
long_triple (a ∷ b ∷ []) h = refl
long_triple (a ∷ b ∷ c ∷ []) h = absurd (omega arith)
long_triple (a ∷ b ∷ c ∷ d ∷ list) h = refl
