-- Members that are put in the order of their keys come last.
use Rattle.std.proofs.Common.{◌≡◌, ℕ, List, [], ◌∷◌, String, Global, string_bytes, string_cmp, nat_cmp, Less, Greater, refl, ap, ◌∙◌}
use Rattle.std.proofs.lemmas.Cmp.{nat_list_cmp_total}
use Rattle.std.specs.Cmp.Lexicographic.{slice_cmp}
use Rattle.std.specs.List.{AllByRecursion}
use Rattle.std.specs.List.Sorted.{IsStrictlySortedBy}
use Rattle.std.specs.Map.{keys_of}
use Rattle.std.specs.Ordering.{ordering_reverse}
use Rattle.std.specs.Prelude.{⊤}
use Rattle.serde_json.specs.Data.{Data, Members, no_members, member, put}
use Rattle.serde_json.proofs.Views.{Entry}

-- members, and more behind them
abbrev pub then_members : Members → Members → Members
then_members no_members more = more
then_members (member k d ms) more = member k d (then_members ms more)

-- each of these keys is below this one
abbrev pub AreBelow : List ℕ → Members → Type 0
AreBelow k no_members = ⊤
AreBelow k (member l d ms) = (slice_cmp nat_cmp k l ≡ Greater) × AreBelow k ms

-- each of these keys is below each of those that are still to come
abbrev pub AreBefore : Members → List Entry → Type 0
AreBefore ms [] = ⊤
AreBefore ms (e ∷ es) = AreBelow (string_bytes e.0) ms × AreBefore ms es

-- no member is before any
pub none_before : (es : List Entry) → AreBefore no_members es
none_before [] = tt
none_before (e ∷ es) = (tt, none_before es)

-- what is above all keys is put last
pub put_behind : (k : List ℕ) (d : Data) (ms : Members) → AreBelow k ms
    → put k d ms ≡ then_members ms (member k d no_members)
put_behind k d no_members h = refl
put_behind k d (member l e ms) h = rw h.0 (ap (member l e) (put_behind k d ms h.1))

below_more : (k l : List ℕ) (d : Data) (ms : Members) → slice_cmp nat_cmp k l ≡ Greater → AreBelow k ms
    → AreBelow k (then_members ms (member l d no_members))
below_more k l d no_members above h = (above, tt)
below_more k l d (member m e ms) above h = (h.0, below_more k l d ms above h.1)

before_more : (k : String Global) (d : Data) (ms : Members) (es : List Entry)
    → AllByRecursion (λ y. string_cmp k y ≡ Less) (keys_of es) → AreBefore ms es
    → AreBefore (then_members ms (member (string_bytes k) d no_members)) es
before_more k d ms [] low h = tt
before_more k d ms (e ∷ es) low h =
    let above : slice_cmp nat_cmp (string_bytes e.0) (string_bytes k) ≡ Greater =
    nat_list_cmp_total.antisymm (string_bytes e.0) (string_bytes k) ∙ ap ordering_reverse low.0 in
    (below_more (string_bytes e.0) (string_bytes k) d ms above h.0, before_more k d ms es low.1 h.1)

-- the first of what is still to come is put behind what was put, and all is before the rest
pub put_next : (e : Entry) (d : Data) (ms : Members) (es : List Entry)
    → IsStrictlySortedBy string_cmp (keys_of (e ∷ es)) → AreBefore ms (e ∷ es)
    → AreBefore (then_members ms (member (string_bytes e.0) d no_members)) es
unfolding IsStrictlySortedBy
put_next e d ms es sorted before = before_more e.0 d ms es sorted.0 before.1

-- what is before all is before the rest
pub passed : (e : Entry) (es : List Entry) (ms : Members) → AreBefore ms (e ∷ es) → AreBefore ms es
passed e es ms before = before.1

-- what is left is in order
pub sorted_rest : (e : Entry) (es : List Entry) → IsStrictlySortedBy string_cmp (keys_of (e ∷ es))
    → IsStrictlySortedBy string_cmp (keys_of es)
unfolding IsStrictlySortedBy
sorted_rest e es sorted = sorted.1

-- members behind members behind members
pub then_then : (a b c : Members) → then_members (then_members a b) c ≡ then_members a (then_members b c)
then_then no_members b c = refl
then_then (member k d ms) b c = ap (member k d) (then_then ms b c)

pub then_none : (ms : Members) → then_members ms no_members ≡ ms
then_none no_members = refl
then_none (member k d ms) = ap (member k d) (then_none ms)
