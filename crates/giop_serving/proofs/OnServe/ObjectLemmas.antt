-- The first object of a key.
use Rattle.std.proofs.Common.{◌≡◌, ℕ, ◌+◌, ◌<◌, ◌≤◌, Bool, true, false, List, drop, get_or, length, map, nat_eq, Option, Some, None, if◌then◌else◌, sym, ap, ◌∙◌}
use Rattle.std.proofs.Math.ListN.{drop_of_length-le}
use Rattle.std.specs.Cmp.Lexicographic.{pointwise}
use Rattle.giop_types.proofs.Coding.MemberLoops.{left_is}
use Rattle.giop_serving.specs.declared.serve.given.ServedObject.{ServedObject}
use Rattle.giop_serving.specs.Serve.Objects.{Object, object_at, object_of}

-- the object that is found, where this one is the first that is left
abbrev pub found_first : Bool → ServedObject → Option Object → Option Object
found_first same object rest = if same then Some (object_of object) else rest

object_left : (os : List ServedObject) (i : ℕ) (o : ServedObject) (key : List ℕ) → i < length os → o ≡ get_or os i o
    → object_at (map object_of (drop i os)) key ≡ found_first (pointwise nat_eq key o.key.now) o (object_at (map object_of (drop (i + 1) os)) key)
object_left os i o key within is = ap (λ rest. object_at (map object_of rest) key) (left_is os i o within is)

pub object_passed : (os : List ServedObject) (i : ℕ) (o : ServedObject) (key : List ℕ) → i < length os → o ≡ get_or os i o
    → pointwise nat_eq key o.key.now ≡ false → object_at (map object_of (drop i os)) key ≡ object_at (map object_of os) key
    → object_at (map object_of (drop (i + 1) os)) key ≡ object_at (map object_of os) key
object_passed os i o key within is other before =
    sym (object_left os i o key within is ∙ ap (λ same. found_first same o (object_at (map object_of (drop (i + 1) os)) key)) other) ∙ before

pub object_found : (os : List ServedObject) (i : ℕ) (o : ServedObject) (key : List ℕ) → i < length os → o ≡ get_or os i o
    → pointwise nat_eq key o.key.now ≡ true → object_at (map object_of (drop i os)) key ≡ object_at (map object_of os) key
    → Some (object_of o) ≡ object_at (map object_of os) key
object_found os i o key within is same before =
    sym (object_left os i o key within is ∙ ap (λ same. found_first same o (object_at (map object_of (drop (i + 1) os)) key)) same) ∙ before

pub object_absent : (os : List ServedObject) (i : ℕ) (key : List ℕ) → length os ≤ i
    → object_at (map object_of (drop i os)) key ≡ object_at (map object_of os) key → None ≡ object_at (map object_of os) key
object_absent os i key all before = sym (ap (λ rest. object_at (map object_of rest) key) (drop_of_length-le os all)) ∙ before
