-- A loop over items that stops at the first one which a set of those before it holds.
use Rattle.std.proofs.Common.{◌≡◌, ℕ, ℤ, Bor, zero, suc, ◌+◌, ◌<◌, ◌≤◌, Bool, true, false, not, ◌||◌, cond, List, [], ◌∷◌, ◌++◌, map, take, drop, get_or, length}
use Rattle.std.proofs.Common.{Ordering, refl, sym, ap, ◌∙◌, arith}
use Rattle.std.proofs.Math.Seq.{take-suc}
use Rattle.std.proofs.lemmas.Bool.{or_from, or_left, both_ways}
use Rattle.std.proofs.lemmas.List.{map-append, take-append-drop}
use Rattle.std.proofs.lemmas.List.Folds.{list_any-append}
use Rattle.std.specs.Bool.{Decides}
use Rattle.std.specs.BTreeMap.{is_at}
use Rattle.std.specs.Cmp.Lexicographic.{slice_cmp}
use Rattle.std.specs.Ordering.{nat_cmp, int_cmp, int_eq}
use Rattle.std.proofs.lemmas.Map.Text.{is_eq-slice_cmp}
use Rattle.std.specs.BTreeSet.{BTreeSet, contains}
use Rattle.std.specs.Cmp as cmp_lemmas
use Rattle.std.specs.List.{list_any}
use Rattle.giop_types.specs.Descriptions.Checked.{has_doubled, same_name}
use Rattle.giop_types.proofs.Coding.MemberLoops.{left_is}

next_place : (i : ℕ) → i + 1 ≡ suc i
next_place i = omega arith

take_whole : {X : Type 0} (i : ℕ) (xs : List X) → length xs ≤ i → take i xs ≡ xs
take_whole zero [] h = refl
take_whole zero (x ∷ xs) h = absurd (omega arith)
take_whole (suc i) [] h = refl
take_whole (suc i) (x ∷ xs) h = ap (λ ys. x ∷ ys) (take_whole i xs (omega arith))

or_right : (a b : Bool) → b ≡ true → (a || b) ≡ true
or_right true b h = refl
or_right false b h = h

either : {P : Type 0} (a b : Bool) → (a || b) ≡ true → (a ≡ true → P) → (b ≡ true → P) → P
either true b h one two = one refl
either false b h one two = two h

regroup : (a b c d : Bool) → ((a || (c || false)) || (b || d)) ≡ ((a || b) || (c || d))
regroup true b c d = refl
regroup false true true d = refl
regroup false true false d = refl
regroup false false true d = refl
regroup false false false d = refl

behind : (a b : Bool) → cond b true a ≡ (a || (b || false))
behind true true = refl
behind true false = refl
behind false true = refl
behind false false = refl

module _ {A : Type 0} (equal : A → A → Bool) (decides : (x y : A) → Decides (equal x y) (x ≡ y)) where
  mirrored : (x y : A) → equal x y ≡ equal y x
  mirrored x y =
      cmp_lemmas.both_ways (equal x y) (equal y x) (λ h. (decides y x).1 (sym ((decides x y).0 h))) (λ h. (decides x y).1 (sym ((decides y x).0 h)))

  -- one item more
  doubled_end : (xs : List A) (x : A) → has_doubled equal (xs ++ x ∷ []) ≡ (has_doubled equal xs || list_any (λ y. equal y x) xs)
  doubled_end [] x = refl
  doubled_end (z ∷ zs) x =
      ap (λ b. b || has_doubled equal (zs ++ x ∷ [])) (list_any-append (λ y. equal y z) zs (x ∷ []))
      ∙ ap (λ b. (list_any (λ y. equal y z) zs || (b || false)) || has_doubled equal (zs ++ x ∷ [])) (mirrored x z)
      ∙ ap (λ b. (list_any (λ y. equal y z) zs || (equal z x || false)) || b) (doubled_end zs x)
      ∙ regroup (list_any (λ y. equal y z) zs) (has_doubled equal zs) (equal z x) (list_any (λ y. equal y x) zs)

  -- an item that stands before, whatever is behind it
  doubled_found : (xs : List A) (x : A) (rest : List A) → list_any (λ y. equal y x) xs ≡ true → has_doubled equal (xs ++ x ∷ rest) ≡ true
  doubled_found [] x rest h = absurd (both_ways false refl h)
  doubled_found (z ∷ zs) x rest h =
      either (equal z x) (list_any (λ y. equal y x) zs) h
      (λ same. or_left (list_any (λ y. equal y z) (zs ++ x ∷ rest)) (has_doubled equal (zs ++ x ∷ rest))
      (list_any-append (λ y. equal y z) zs (x ∷ rest)
      ∙ or_right (list_any (λ y. equal y z) zs) (equal x z || list_any (λ y. equal y z) rest)
      (or_left (equal x z) (list_any (λ y. equal y z) rest) (mirrored x z ∙ same))))
      (λ later. or_right (list_any (λ y. equal y z) (zs ++ x ∷ rest)) (has_doubled equal (zs ++ x ∷ rest)) (doubled_found zs x rest later))

-- what an insertion answers: whether the item is new
pub was_there : (new held : Bool) → new ≡ not held → new ≡ false → held ≡ true
was_there new true is h = refl
was_there new false is h = absurd (both_ways new h is)

pub was_not : (new held : Bool) → new ≡ not held → new ≡ true → held ≡ false
was_not new false is h = refl
was_not new true is h = absurd (both_ways new is h)

-- a set holds what the items so far say, of which no two say the same
pub record Sees {K A : Type 0} (cmp : K → K → Ordering) (says : K → A) (equal : A → A → Bool) (set : BTreeSet K) (seen : List A) : Type 0 where
  pub holds : (q : K) → contains cmp set q ≡ list_any (λ y. equal y (says q)) seen
  pub apart : has_doubled equal seen ≡ false

module _ {X K A : Type 0} (cmp : K → K → Ordering) (says : K → A) (equal : A → A → Bool) (decides : (x y : A) → Decides (equal x y) (x ≡ y))
    (agrees : (k q : K) → is_at (cmp k) q ≡ equal (says k) (says q)) (name : X → A) (xs : List X) (i : ℕ) (x : X) where
  so_far : i < length xs → x ≡ get_or xs i x → map name (take (i + 1) xs) ≡ map name (take i xs) ++ name x ∷ []
  so_far lt is =
      ap (map name) (ap (λ n. take n xs) (next_place i) ∙ take-suc xs i x lt ∙ ap (λ y. take i xs ++ y ∷ []) (sym is)) ∙ map-append name (take i xs) (x ∷ [])

  whole : i < length xs → x ≡ get_or xs i x → map name xs ≡ map name (take i xs) ++ name x ∷ map name (drop (i + 1) xs)
  whole lt is =
      ap (map name) (sym (take-append-drop i xs) ∙ ap (λ ys. take i xs ++ ys) (left_is xs i x lt is)) ∙ map-append name (take i xs) (x ∷ drop (i + 1) xs)

  pub sees_again : (k : K) (set : BTreeSet K) → i < length xs → x ≡ get_or xs i x → says k ≡ name x → contains cmp set k ≡ true
      → Sees cmp says equal set (map name (take i xs)) → true ≡ has_doubled equal (map name xs)
  sees_again k set lt is said held sees =
      sym (ap (has_doubled equal) (whole lt is)
      ∙ doubled_found equal decides (map name (take i xs)) (name x) (map name (drop (i + 1) xs))
      (ap (λ a. list_any (λ y. equal y a) (map name (take i xs))) (sym said) ∙ sym (sees.holds k) ∙ held))

  pub sees_more : (k : K) (old new : BTreeSet K) → i < length xs → x ≡ get_or xs i x → says k ≡ name x → contains cmp old k ≡ false
      → ((q : K) → contains cmp new q ≡ cond (is_at (cmp k) q) true (contains cmp old q))
      → Sees cmp says equal old (map name (take i xs)) → Sees cmp says equal new (map name (take (i + 1) xs))
  sees_more k old new lt is said held updates sees =
      let seen = map name (take i xs) in
      let absent : list_any (λ y. equal y (name x)) seen ≡ false
      = ap (λ a. list_any (λ y. equal y a) seen) (sym said) ∙ sym (sees.holds k) ∙ held in
      record {
        holds = λ q.
            updates q ∙ ap (λ b. cond b true (contains cmp old q)) (agrees k q ∙ ap (λ a. equal a (says q)) said)
            ∙ ap (cond (equal (name x) (says q)) true) (sees.holds q)
            ∙ behind (list_any (λ y. equal y (says q)) seen) (equal (name x) (says q))
            ∙ sym (list_any-append (λ y. equal y (says q)) seen (name x ∷ []))
            ∙ ap (list_any (λ y. equal y (says q))) (sym (so_far lt is));
        apart = ap (has_doubled equal) (so_far lt is) ∙ doubled_end equal decides seen (name x)
            ∙ or_from (has_doubled equal seen) (list_any (λ y. equal y (name x)) seen) sees.apart absent;
      }

  pub sees_all : (set : BTreeSet K) → length xs ≤ i → Sees cmp says equal set (map name (take i xs)) → false ≡ has_doubled equal (map name xs)
  sees_all set le sees = sym (ap (λ ys. has_doubled equal (map name ys)) (sym (take_whole i xs le)) ∙ sees.apart)

-- what the items before say that a set is asked for
pub names_agree : (k q : Bor (List ℕ)) → is_at (λ p. slice_cmp nat_cmp k.now p.now) q ≡ same_name k.now q.now
names_agree k q = is_eq-slice_cmp k.now q.now

pub numbers_agree : (k q : Bor ℤ) → is_at (λ p. int_cmp k.now p.now) q ≡ int_eq k.now q.now
numbers_agree k q = refl
