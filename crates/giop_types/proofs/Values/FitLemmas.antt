-- Whether values fit, variant by variant and one after the other.
use Rattle.std.proofs.Common.{◌≡◌, rules, ℕ, zero, suc, ℤ, ◌+◌, ◌-◌, ◌^◌, nat_lt, not, ◌<◌, ◌≤◌, ◌&&◌, ◌==◌, Bool, true, false, Option, None, Some, is_some}
use Rattle.std.proofs.Common.{List, [], ◌∷◌, map, drop, get_or, length, refl, sym, ap, ◌∙◌, arith}
use Rattle.std.proofs.lemmas.List.{length-map}
use Rattle.std.proofs.Math.ListN.{drop_of_length-le}
use Rattle.std.specs.List.{list_all}
use Rattle.std.proofs.lemmas.Bool.{and_from, lt-ltb, not-false, not-true}
use Rattle.std.proofs.lemmas.Bool.Decides.{nat_tests}
use Rattle.std.specs.Int.{w8}
use mir.Val.{Fits}
use Rattle.std.specs.declared.vec.Vec.{Vec}
use Rattle.std.specs.declared.alloc.Global.{Global}
use Rattle.giop_cdr.specs.Reading.Values.{has_null, passes}
use Rattle.std.specs.declared.boxed.Box.{Box}
use Rattle.giop_types.specs.declared.description.desc.Desc.{Desc}
use Rattle.giop_types.specs.declared.description.desc.Desc.TheVariants as desc
use Rattle.giop_types.specs.declared.description.desc.NamedDesc.{NamedDesc}
use Rattle.giop_types.specs.declared.description.desc.CaseDesc.{CaseDesc}
use Rattle.giop_types.specs.declared.value.Value.{Value, the_lemmas as value_lemmas}
use Rattle.giop_types.specs.declared.value.Value.TheVariants as value
use Rattle.giop_types.specs.Descriptions.Shape.{Shape, members, choice, items, row}
use Rattle.giop_types.specs.Values.Tree.{Tree, members_of, items_of, row_of, choice_of}
use Rattle.giop_types.specs.Coding.Decoding.{is_label}
use Rattle.giop_types.specs.Values.Fits.{list_of, is_unsigned, are_octets, fits_label, is_counted, is_octets_of, is_text_of}
use Rattle.giop_types.specs.Values.Fits.{is_one, fits, fields_fit, branches_fit}
use Rattle.giop_types.specs.Values.Views.{desc_view, named_view, case_view, fallback_view, fields_of, branches_of}
use Rattle.giop_types.specs.Values.Views.{trees_of, value_view, member_view}
use Rattle.giop_types.proofs.Values.ViewLemmas.{view-Members, view-Choice, view-Items, view-Row, view-Named}
use Rattle.giop_types.proofs.Values.ViewLemmas.{chosen_view, bare_view}
use Rattle.giop_types.proofs.Coding.ListLoops.{IsEach}
use Rattle.giop_types.proofs.Coding.MemberLoops.{left_is, fields_left, branches_left}

-- values that a value holds
abbrev Values : Type 0
Values = Vec Value Global

-- what each of them is to be
abbrev Item : Type 0
Item = Box Desc Global

-- ---- the values that a list of trees holds

pub list_back : (ts : List Tree) → list_of (trees_of ts) ≡ ts
list_back [] = refl
list_back (t ∷ ts) = ap (λ us. t ∷ us) (list_back ts)

pub members_view : (vs : _) → value_view (value.Members vs) ≡ members_of (trees_of (map value_view vs.items))
members_view vs = search (rules, value_lemmas)

pub items_view : (vs : _) → value_view (value.Items vs) ≡ items_of (trees_of (map value_view vs.items))
items_view vs = search (rules, value_lemmas)

pub row_view : (vs : _) → value_view (value.Row vs) ≡ row_of (trees_of (map value_view vs.items))
row_view vs = search (rules, value_lemmas)

pub choice_view : (label : ℤ) (m : _) → value_view (value.Choice label m) ≡ choice_of label (trees_of (member_view m))
choice_view label None = bare_view label
choice_view label (Some v) = chosen_view label v

-- ---- variants with parts

pub members_fitting : (ms : _) (vs : _) → fits (desc_view (desc.Members ms)) (value_view (value.Members vs))
    ≡ fields_fit (fields_of (map named_view ms.items)) (map value_view vs.items)
unfolding fits
members_fitting ms vs =
    ap (λ s. fits s (value_view (value.Members vs))) (view-Members ms)
    ∙ ap (fits (members (fields_of (map named_view ms.items)))) (members_view vs)
    ∙ ap (fields_fit (fields_of (map named_view ms.items))) (list_back (map value_view vs.items))

pub items_fitting : (d : _) (bound : ℕ) (vs : _) → fits (desc_view (desc.Items d bound)) (value_view (value.Items vs))
    ≡ (is_counted bound (length (map value_view vs.items)) && list_all (fits (desc_view d.value)) (map value_view vs.items))
unfolding fits
items_fitting d bound vs =
    ap (λ s. fits s (value_view (value.Items vs))) (view-Items d bound)
    ∙ ap (fits (items (desc_view d.value) bound)) (items_view vs)
    ∙ ap (λ ts. is_counted bound (length ts) && list_all (fits (desc_view d.value)) ts) (list_back (map value_view vs.items))

pub row_fitting : (d : _) (n : ℕ) (vs : _) → fits (desc_view (desc.Row d n)) (value_view (value.Row vs))
    ≡ ((length (map value_view vs.items) == n) && list_all (fits (desc_view d.value)) (map value_view vs.items))
unfolding fits
row_fitting d n vs =
    ap (λ s. fits s (value_view (value.Row vs))) (view-Row d n)
    ∙ ap (fits (row (desc_view d.value) n)) (row_view vs)
    ∙ ap (λ ts. (length ts == n) && list_all (fits (desc_view d.value)) ts) (list_back (map value_view vs.items))

pub choice_fitting : (d : _) (cs : _) (f : _) (label : ℤ) (m : _) → fits (desc_view (desc.Choice d cs f)) (value_view (value.Choice label m))
    ≡ (fits_label (desc_view d.value) label && branches_fit (branches_of (map case_view cs.items)) (fields_fit (fallback_view f)) label (member_view m))
unfolding fits
choice_fitting d cs f label m =
    ap (λ s. fits s (value_view (value.Choice label m))) (view-Choice d cs f)
    ∙ ap (fits (choice (desc_view d.value) (branches_of (map case_view cs.items)) (fallback_view f))) (choice_view label m)
    ∙ ap (λ ts. fits_label (desc_view d.value) label && branches_fit (branches_of (map case_view cs.items)) (fields_fit (fallback_view f)) label ts)
    (list_back (member_view m))

-- ---- the values of a list, one after the other

pub values-each : (s : Shape) → IsEach (λ v. fits s (value_view v)) (λ vs. list_all (fits s) (map value_view vs))
values-each s = record { none = refl; more = λ v vs. refl }

-- a value of a member that fits or not
fields_step : (ms : List NamedDesc) (vs : List Value) (i : ℕ) (m : NamedDesc) (v : Value) → i < length ms → i < length vs → m ≡ get_or ms i m
    → v ≡ get_or vs i v
    → fields_fit (fields_of (map named_view (drop i ms))) (map value_view (drop i vs))
    ≡ (fits (desc_view m.desc) (value_view v) && fields_fit (fields_of (map named_view (drop (i + 1) ms))) (map value_view (drop (i + 1) vs)))
unfolding fits
fields_step ms vs i m v lt le is has = rw (fields_left ms i m lt is, left_is vs i v le has) refl

pub fields_failed : (ms : List NamedDesc) (vs : List Value) (i : ℕ) (m : NamedDesc) (v : Value) (total : Bool) → i < length ms → length ms ≡ length vs
    → m ≡ get_or ms i m → v ≡ get_or vs i v → fits (desc_view m.desc) (value_view v) ≡ false
    → fields_fit (fields_of (map named_view (drop i ms))) (map value_view (drop i vs)) ≡ total → false ≡ total
fields_failed ms vs i m v total lt many is has fails so_far =
    sym (sym so_far ∙ fields_step ms vs i m v lt (omega arith) is has
    ∙ ap (λ b. b && fields_fit (fields_of (map named_view (drop (i + 1) ms))) (map value_view (drop (i + 1) vs))) fails)

pub fields_passed : (ms : List NamedDesc) (vs : List Value) (i : ℕ) (m : NamedDesc) (v : Value) (total : Bool) → i < length ms → length ms ≡ length vs
    → m ≡ get_or ms i m → v ≡ get_or vs i v → fits (desc_view m.desc) (value_view v) ≡ true
    → fields_fit (fields_of (map named_view (drop i ms))) (map value_view (drop i vs)) ≡ total
    → fields_fit (fields_of (map named_view (drop (i + 1) ms))) (map value_view (drop (i + 1) vs)) ≡ total
fields_passed ms vs i m v total lt many is has passes so_far =
    sym (fields_step ms vs i m v lt (omega arith) is has
    ∙ ap (λ b. b && fields_fit (fields_of (map named_view (drop (i + 1) ms))) (map value_view (drop (i + 1) vs))) passes) ∙ so_far

pub fields_end : (ms : List NamedDesc) (vs : List Value) (i : ℕ) → length ms ≤ i → length vs ≤ i
    → fields_fit (fields_of (map named_view (drop i ms))) (map value_view (drop i vs)) ≡ true
unfolding fits
fields_end ms vs i le few = rw (drop_of_length-le ms le, drop_of_length-le vs few) refl

and_false : (a b : Bool) → b ≡ false → (a && b) ≡ false
and_false true b h = h
and_false false b h = refl

-- too few values, or too many
pub fields_differ : (ms : List NamedDesc) (vs : List Value) → ((length ms ≡ length vs) → ⊥)
    → fields_fit (fields_of (map named_view ms)) (map value_view vs) ≡ false
unfolding fits
fields_differ [] [] differ = absurd (differ refl)
fields_differ [] (v ∷ vs) differ = refl
fields_differ (m ∷ ms) [] differ = refl
fields_differ (m ∷ ms) (v ∷ vs) differ =
    let rest = fields_differ ms vs (λ same. differ (omega arith)) in
    and_false (fits (named_view m).shape (value_view v)) (fields_fit (fields_of (map named_view ms)) (map value_view vs)) rest

-- ---- the member of a union

-- a case with the label
pub case_fits : (bs : List CaseDesc) (i : ℕ) (b : CaseDesc) (label : ℤ) (other : List Tree → Bool) (ts : List Tree) → i < length bs → b ≡ get_or bs i b
    → is_label label b.labels.items ≡ true
    → branches_fit (branches_of (map case_view (drop i bs))) other label ts ≡ is_one (fits (desc_view b.desc)) ts
unfolding fits
case_fits bs i b label other ts lt is found = rw (branches_left bs i b lt is, found) refl

-- a case without it
pub case_differs : (bs : List CaseDesc) (i : ℕ) (b : CaseDesc) (label : ℤ) (other : List Tree → Bool) (ts : List Tree) → i < length bs → b ≡ get_or bs i b
    → is_label label b.labels.items ≡ false
    → branches_fit (branches_of (map case_view (drop i bs))) other label ts ≡ branches_fit (branches_of (map case_view (drop (i + 1) bs))) other label ts
unfolding fits
case_differs bs i b label other ts lt is passed = rw (branches_left bs i b lt is, passed) refl

-- no case is left
pub cases_end : (bs : List CaseDesc) (i : ℕ) (label : ℤ) (other : List Tree → Bool) (ts : List Tree) → length bs ≤ i
    → branches_fit (branches_of (map case_view (drop i bs))) other label ts ≡ other ts
unfolding fits
cases_end bs i label other ts le = rw (drop_of_length-le bs le) refl

-- the member that is there by default, or none
and_true : (b : Bool) → (b && true) ≡ b
and_true true = refl
and_true false = refl

pub default_fitting : (n : Box NamedDesc Global) (t : Tree) → fields_fit (fallback_view (Some n)) (t ∷ []) ≡ fits (desc_view n.value.desc) t
unfolding fits
default_fitting n t = rw (view-Named n.value) (and_true (fits (desc_view n.value.desc) t))

pub default_bare : (n : Box NamedDesc Global) → fields_fit (fallback_view (Some n)) [] ≡ false
unfolding fits
default_bare n = refl

pub default_absent : (m : Option (Box Value Global)) (b : Bool) → is_some m ≡ not b → fields_fit (fallback_view None) (member_view m) ≡ b
unfolding fits
default_absent None b h = sym (not-false b (sym h))
default_absent (Some v) b h = sym (not-true b (sym h))

-- ---- what the tests of a value's parts tell of it

counted_as : (bound n : ℕ) (vs : List Value) → n ≡ length vs → is_counted bound (length (map value_view vs)) ≡ is_counted bound n
counted_as bound n vs many = ap (is_counted bound) (length-map vs value_view ∙ sym many)

long_as : (k n : ℕ) (vs : List Value) → n ≡ length vs → (length (map value_view vs) == k) ≡ (n == k)
long_as k n vs many = ap (λ l. l == k) (length-map vs value_view ∙ sym many)

pub items_judged : (d : Item) (bound : ℕ) (vs : Values) (n : ℕ) (each : Bool) → n ≡ length vs.items → is_counted bound n ≡ true
    → each ≡ list_all (fits (desc_view d.value)) (map value_view vs.items) → each ≡ fits (desc_view (desc.Items d bound)) (value_view (value.Items vs))
items_judged d bound vs n each many counted same =
    same ∙ sym (items_fitting d bound vs
    ∙ ap (λ b. b && list_all (fits (desc_view d.value)) (map value_view vs.items)) (counted_as bound n vs.items many ∙ counted))

pub items_uncounted : (d : Item) (bound : ℕ) (vs : Values) (n : ℕ) → n ≡ length vs.items → is_counted bound n ≡ false
    → false ≡ fits (desc_view (desc.Items d bound)) (value_view (value.Items vs))
items_uncounted d bound vs n many counted =
    sym (items_fitting d bound vs
    ∙ ap (λ b. b && list_all (fits (desc_view d.value)) (map value_view vs.items)) (counted_as bound n vs.items many ∙ counted))

unequal : (n k : ℕ) → ((n ≡ k) → ⊥) → (n == k) ≡ false
unequal n k differ = grind (arith, nat_tests)

equal : (n k : ℕ) → n ≡ k → (n == k) ≡ true
equal n k same = grind (arith, nat_tests)

pub row_judged : (d : Item) (k : ℕ) (vs : Values) (n : ℕ) (each : Bool) → n ≡ length vs.items → n ≡ k
    → each ≡ list_all (fits (desc_view d.value)) (map value_view vs.items) → each ≡ fits (desc_view (desc.Row d k)) (value_view (value.Row vs))
row_judged d k vs n each many long same =
    same ∙ sym (row_fitting d k vs
    ∙ ap (λ b. b && list_all (fits (desc_view d.value)) (map value_view vs.items)) (long_as k n vs.items many ∙ equal n k long))

pub row_unequal : (d : Item) (k : ℕ) (vs : Values) (n : ℕ) → n ≡ length vs.items → ((n ≡ k) → ⊥)
    → (n == k) ≡ fits (desc_view (desc.Row d k)) (value_view (value.Row vs))
row_unequal d k vs n many differ =
    unequal n k differ ∙ sym (row_fitting d k vs
    ∙ ap (λ b. b && list_all (fits (desc_view d.value)) (map value_view vs.items)) (long_as k n vs.items many ∙ unequal n k differ))

pub choice_judged : (d : Item) (cs : Vec CaseDesc Global) (f : Option (Box NamedDesc Global)) (label : ℤ) (m : Option (Box Value Global))
    (b : Bool) → fits_label (desc_view d.value) label ≡ true
    → branches_fit (branches_of (map case_view cs.items)) (fields_fit (fallback_view f)) label (member_view m) ≡ b
    → b ≡ fits (desc_view (desc.Choice d cs f)) (value_view (value.Choice label m))
choice_judged d cs f label m b fit same =
    sym (choice_fitting d cs f label m
    ∙ ap (λ b. b && branches_fit (branches_of (map case_view cs.items)) (fields_fit (fallback_view f)) label (member_view m)) fit ∙ same)

-- ---- octets

pub all_octets : (bs : List ℕ) → ((i : ℕ) → Fits w8 (get_or bs i 0)) → are_octets bs ≡ true
all_octets [] h = refl
all_octets (b ∷ bs) h = and_from (is_unsigned 8 b) (are_octets bs) (lt-ltb b (2 ^ 8) (h zero).fits) (all_octets bs (λ i. h (suc i)))

pub octets_judged : (bound : ℕ) (bs : List ℕ) → ((i : ℕ) → Fits w8 (get_or bs i 0)) → is_counted bound (length bs) ≡ is_octets_of bound bs
octets_judged bound bs h = sym (ap (λ b. b && is_counted bound (length bs)) (all_octets bs h))

pub text_judged : (bound : ℕ) (t : List ℕ) → ((i : ℕ) → Fits w8 (get_or t i 0)) → has_null t ≡ false → length t < 2 ^ 32 - 1
    → is_counted bound (length t) ≡ is_text_of bound t
text_judged bound t h none short =
    ap (λ b. b && not (passes bound (length t))) (lt-ltb (length t) (2 ^ 32) (omega arith))
    ∙ sym (ap (λ b. b && (not (has_null t) && (nat_lt (length t + 1) (2 ^ 32) && not (passes bound (length t))))) (all_octets t h)
    ∙ ap (λ b. not b && (nat_lt (length t + 1) (2 ^ 32) && not (passes bound (length t)))) none
    ∙ ap (λ b. b && not (passes bound (length t))) (lt-ltb (length t + 1) (2 ^ 32) (omega arith)))
