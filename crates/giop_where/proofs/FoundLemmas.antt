-- What the first part that is at fault is among the parts of a part.
use Rattle.std.proofs.Common.{ℕ, zero, suc, ◌≡◌, ◌≢◌, ◌<◌, ◌+◌, ◌==◌, ◌⊎◌, Bool, true, false, if◌then◌else◌, List, codes, Option, Some, None, unwrap_or, option_and_then, Ordering, Less, Equal, Greater, nat_cmp, inl, inr, refl, sym, ap, subst, ◌∙◌, arith}
use Rattle.std.proofs.lemmas.Bool.Decides.{nat_tests}
use Rattle.std.specs.Cmp.Lexicographic.{slice_cmp}
use Rattle.std.specs.FinMap.{slice_cmp-IsAntisymmetric, nat_cmp-IsAntisymmetric}
use Rattle.std.specs.Option.{option_or}
use Rattle.std.specs.Ordering.{match_ordering}
use Rattle.serde_json.specs.Data as json
use Rattle.serde_json.specs.Data.{Data, Items, Members}
use Rattle.serde_json.specs.Find.{get, get_item, get_member}
use Rattle.giop_where.specs.Alone.{alone}
use Rattle.giop_where.specs.First.{first_item, first_member, first_part, first_union, placed_if, disc_of}
use Rattle.giop_where.specs.Parts.{Portion, Way, key, index, part_under, part_at}
use Rattle.giop_where.specs.declared.role.Role.{Role}
use Rattle.giop_where.specs.declared.role.Role.TheVariants as is
use Rattle.giop_where.specs.Steps.{HasMember, IsStep}

pub part_of_some : {A : Type 0} {x y : A} → Some x ≡ Some y → x ≡ y
part_of_some {y = y} e = ap (λ o. unwrap_or o y) e

-- the first item at fault: how many stand before it from the place on, and that none of them is at fault
pub record FoundItem (number : ℕ) (p : Portion) (from : ℕ) (ds : Items) (w : Way) (q : Portion) : Type 0 where
  pub before : ℕ
  pub place : ℕ
  pub placed : place ≡ from + before
  pub value : Data
  pub stands : get_item before ds ≡ Some value
  pub step : w ≡ index place
  pub part : q ≡ part_at p place value
  pub fault : alone q ≡ number
  pub earlier : (i j : ℕ) (d : Data) → i < before → j ≡ from + i → get_item i ds ≡ Some d → alone (part_at p j d) ≢ number

pub found_item : (number : ℕ) (p : Portion) (from : ℕ) (ds : Items) (w : Way) (q : Portion)
    → first_item number p from ds ≡ Some (w, q) → FoundItem number p from ds w q
found_item number p from json.no_items w q is = absurd cc
found_item number p from (json.item d ds) w q is =
    by_test (found_item number p (suc from) ds w q) (alone (part_at p from d) == number) refl is
  where
    by_test : (first_item number p (suc from) ds ≡ Some (w, q) → FoundItem number p (suc from) ds w q)
        → (b : Bool) → (alone (part_at p from d) == number) ≡ b
        → (if b then Some (index from, part_at p from d) else first_item number p (suc from) ds) ≡ Some (w, q)
        → FoundItem number p from (json.item d ds) w q
    by_test others true e is =
        let same = part_of_some is in
        record {
          before = 0;
          place = from;
          placed = omega arith;
          value = d;
          stands = refl;
          step = sym (ap (λ x. x.0) same);
          part = sym (ap (λ x. x.1) same);
          fault = ap alone (sym (ap (λ x. x.1) same)) ∙ grind (arith, nat_tests);
          earlier = λ i j d less. absurd (omega arith);
        }
    by_test others false e is =
        let rest = others is in
        record {
          before = suc rest.before;
          place = rest.place;
          placed = let placed = rest.placed in omega arith;
          value = rest.value;
          stands = rest.stands;
          step = rest.step;
          part = rest.part;
          fault = rest.fault;
          earlier = behind rest;
        }
      where
        behind : (rest : FoundItem number p (suc from) ds w q) (i j : ℕ) (other : Data) → i < suc rest.before → j ≡ from + i
            → get_item i (json.item d ds) ≡ Some other → alone (part_at p j other) ≢ number
        behind rest zero j other less at_j stands fault =
            let here : j ≡ from = omega arith in
            let same : alone (part_at p from d) ≡ number =
            ap (λ x. alone (part_at p from x)) (part_of_some stands) ∙ ap (λ x. alone (part_at p x other)) (sym here) ∙ fault in
            absurd (grind (arith, nat_tests))
        behind rest (suc i) j other less at_j stands fault =
            rest.earlier i j other (omega arith) (omega arith) stands fault

-- where no item is found none is at fault
pub no_item : (number : ℕ) (p : Portion) (from : ℕ) (ds : Items) → first_item number p from ds ≡ None
    → (i j : ℕ) (d : Data) → j ≡ from + i → get_item i ds ≡ Some d → alone (part_at p j d) ≢ number
no_item number p from json.no_items none i j d at_j stands = absurd cc
no_item number p from (json.item e ds) none i j d at_j stands =
    by_test (no_item number p (suc from) ds) (alone (part_at p from e) == number) refl none i j d at_j stands
  where
    by_test : (first_item number p (suc from) ds ≡ None
        → (i j : ℕ) (d : Data) → j ≡ suc from + i → get_item i ds ≡ Some d → alone (part_at p j d) ≢ number)
        → (b : Bool) → (alone (part_at p from e) == number) ≡ b
        → (if b then Some (index from, part_at p from e) else first_item number p (suc from) ds) ≡ None
        → (i j : ℕ) (d : Data) → j ≡ from + i → get_item i (json.item e ds) ≡ Some d → alone (part_at p j d) ≢ number
    by_test others true is none i j d at_j stands fault = absurd cc
    by_test others false is none zero j d at_j stands fault =
        let here : j ≡ from = omega arith in
        let same : alone (part_at p from e) ≡ number =
        ap (λ x. alone (part_at p from x)) (part_of_some stands) ∙ ap (λ x. alone (part_at p x d)) (sym here) ∙ fault in
        absurd (grind (arith, nat_tests))
    by_test others false is none (suc i) j d at_j stands fault = others none i j d (omega arith) stands fault

-- the first member at fault is one of them
abbrev FoundMember : ℕ → Portion → Members → Way → Portion → Type 0
FoundMember number p ms w q =
    (k : List ℕ) × (d : Data) × (w ≡ key k) × HasMember ms k d × (q ≡ part_under p k d) × (alone q ≡ number)

pub found_member : (number : ℕ) (p : Portion) (ms : Members) (w : Way) (q : Portion) → first_member number p ms ≡ Some (w, q)
    → FoundMember number p ms w q
found_member number p json.no_members w q is = absurd cc
found_member number p (json.member k d ms) w q is =
    by_test (found_member number p ms w q) (alone (part_under p k d) == number) refl is
  where
    by_test : (first_member number p ms ≡ Some (w, q) → FoundMember number p ms w q)
        → (b : Bool) → (alone (part_under p k d) == number) ≡ b
        → (if b then Some (key k, part_under p k d) else first_member number p ms) ≡ Some (w, q)
        → FoundMember number p (json.member k d ms) w q
    by_test others true e is =
        let same = part_of_some is in (
          k,
          d,
          sym (ap (λ x. x.0) same),
          inl (refl, refl),
          sym (ap (λ x. x.1) same),
          ap alone (sym (ap (λ x. x.1) same)) ∙ grind (arith, nat_tests),
        )
    by_test others false e is =
        let (l, other, step, stands, part, fault) = others is in
        (l, other, step, inr stands, part, fault)

pub no_member : (number : ℕ) (p : Portion) (ms : Members) → first_member number p ms ≡ None
    → (k : List ℕ) (d : Data) → HasMember ms k d → alone (part_under p k d) ≢ number
no_member number p json.no_members none k d stands = absurd stands
no_member number p (json.member l e ms) none k d stands =
    by_test (λ none stands. no_member number p ms none k d stands) (alone (part_under p l e) == number) refl none stands
  where
    by_test : (first_member number p ms ≡ None → HasMember ms k d → alone (part_under p k d) ≢ number)
        → (b : Bool) → (alone (part_under p l e) == number) ≡ b
        → (if b then Some (key l, part_under p l e) else first_member number p ms) ≡ None
        → ((l ≡ k) × (e ≡ d)) ⊎ HasMember ms k d → alone (part_under p k d) ≢ number
    by_test others true is none stands fault = absurd cc
    by_test others false is none (inl (same_key, same)) fault =
        let here : alone (part_under p l e) ≡ number = ap (λ x. alone (part_under p x e)) same_key ∙ ap (λ x. alone (part_under p k x)) same ∙ fault in
        absurd (grind (arith, nat_tests))
    by_test others false is none (inr stands) fault = others none stands fault

-- what an object has under a key is one of its members
pub got_member : (k : List ℕ) (d : Data) (ms : Members) → get_member k ms ≡ Some d → HasMember ms k d
got_member k d json.no_members is = absurd cc
got_member k d (json.member l e ms) is = by_order (got_member k d ms) (slice_cmp nat_cmp k l) refl is
  where
    by_order : (get_member k ms ≡ Some d → HasMember ms k d) → (o : Ordering) → slice_cmp nat_cmp k l ≡ o
        → match_ordering o (get_member k ms) (Some e) (get_member k ms) ≡ Some d
        → ((l ≡ k) × (e ≡ d)) ⊎ HasMember ms k d
    by_order others Less same is = inr (others is)
    by_order others Equal same is = inl (sym (slice_cmp-IsAntisymmetric nat_cmp-IsAntisymmetric k l same), part_of_some is)
    by_order others Greater same is = inr (others is)

-- a part at fault that is placed is this one
abbrev placed_by : Bool → List ℕ → Portion → Option (Way × Portion)
placed_by b k q = if b then Some (key k, q) else None

placed : (number : ℕ) (k : List ℕ) (q r : Portion) (w : Way) → placed_if number k q ≡ Some (w, r)
    → (w ≡ key k) × (r ≡ q) × (alone r ≡ number)
placed number k q r w is = by_test (alone q == number) refl is
  where
    by_test : (b : Bool) → (alone q == number) ≡ b → placed_by b k q ≡ Some (w, r)
        → (w ≡ key k) × (r ≡ q) × (alone r ≡ number)
    by_test true e is =
        let same = part_of_some is in
        (sym (ap (λ x. x.0) same), sym (ap (λ x. x.1) same), ap alone (sym (ap (λ x. x.1) same)) ∙ grind (arith, nat_tests))
    by_test false e is = absurd cc

-- and one at fault is placed
is_placed : (number : ℕ) (k : List ℕ) (q : Portion) → alone q ≡ number → placed_if number k q ≡ Some (key k, q)
is_placed number k q fault = by_test (alone q == number) refl
  where
    by_test : (b : Bool) → (alone q == number) ≡ b → placed_by b k q ≡ Some (key k, q)
    by_test true e = refl
    by_test false e = absurd (grind (arith, nat_tests))

abbrev portion : Role → Data → Data → Portion
portion role beside content = record { role = role; beside = beside; content = content }

-- a discriminant stands under its key
disc_stands : (role : Role) (beside content d : Data) → disc_of (portion role beside content) ≡ Some d → get (codes "union") content ≡ Some d
disc_stands is.Description beside content d e = e
disc_stands role beside content d e = absurd cc

-- the discriminant at fault is under its key
found_union : (number : ℕ) (role : Role) (beside : Data) (ms : Members) (w : Way) (q : Portion)
    → first_union number (portion role beside (json.object ms)) ≡ Some (w, q)
    → IsStep (portion role beside (json.object ms)) w q × (alone q ≡ number)
found_union number role beside ms w q = by_disc (disc_of p) refl
  where
    p : Portion
    p = portion role beside (json.object ms)

    by_disc : (o : Option Data) → disc_of p ≡ o
        → option_and_then (λ d. placed_if number (codes "union") (part_under p (codes "union") d)) o ≡ Some (w, q)
        → IsStep p w q × (alone q ≡ number)
    by_disc None e is = absurd cc
    by_disc (Some d) e is =
        let at_fault = placed number (codes "union") (part_under p (codes "union") d) q w is in
        let stands = got_member (codes "union") d ms (disc_stands role beside (json.object ms) d e) in
        (subst (λ x. IsStep p x q) (sym at_fault.0) (d, stands, at_fault.1), at_fault.2)

-- ---- of any part

abbrev FoundIn : ℕ → Portion → Way → Portion → Type 0
FoundIn number p w q = IsStep p w q × (alone q ≡ number)

found_in : (number : ℕ) (role : Role) (beside content : Data) (w : Way) (q : Portion)
    → first_part number (portion role beside content) ≡ Some (w, q) → FoundIn number (portion role beside content) w q
found_in number role beside (json.array ds) w q is =
    let item = found_item number (portion role beside (json.array ds)) 0 ds w q is in
    let here : item.before ≡ item.place = let e = item.placed in omega arith in (
      subst (λ x. IsStep (portion role beside (json.array ds)) x q) (sym item.step)
          (item.value, subst (λ n. get_item n ds ≡ Some item.value) here item.stands, item.part),
      item.fault,
    )
found_in number role beside (json.object ms) w q is = by_union (first_union number p) refl is
  where
    p : Portion
    p = portion role beside (json.object ms)

    by_union : (o : Option (Way × Portion)) → first_union number p ≡ o → option_or o (first_member number p ms) ≡ Some (w, q)
        → FoundIn number p w q
    by_union (Some x) e is = found_union number role beside ms w q (e ∙ is)
    by_union None e is =
        let (k, d, step, stands, part, fault) = found_member number p ms w q is in
        (subst (λ x. IsStep p x q) (sym step) (d, stands, part), fault)
found_in number role beside content w q is = absurd cc

pub found : (number : ℕ) (p q : Portion) (w : Way) → first_part number p ≡ Some (w, q) → FoundIn number p w q
found number p q w is = found_in number p.role p.beside p.content w q is

none_in : (number : ℕ) (role : Role) (beside content : Data) (w : Way) (q : Portion)
    → first_part number (portion role beside content) ≡ None → IsStep (portion role beside content) w q → alone q ≢ number
none_in number role beside (json.array ds) (index i) q is (d, stands, part) fault =
    no_item number (portion role beside (json.array ds)) 0 ds is i i d (omega arith) stands (ap alone (sym part) ∙ fault)
none_in number role beside (json.object ms) (key k) q is (d, stands, part) fault =
    by_union (first_union number p) is
  where
    p : Portion
    p = portion role beside (json.object ms)

    by_union : (o : Option (Way × Portion)) → option_or o (first_member number p ms) ≡ None → ⊥
    by_union (Some x) e = absurd cc
    by_union None e = no_member number p ms e k d stands (ap alone (sym part) ∙ fault)
none_in number role beside content (index i) q is (d, stands, part) fault = absurd cc
none_in number role beside content (key k) q is (d, stands, part) fault = stands

pub none : (number : ℕ) (p q : Portion) (w : Way) → first_part number p ≡ None → IsStep p w q → alone q ≢ number
none number p q w is step = none_in number p.role p.beside p.content w q is step

same_place : (i j : ℕ) → index i ≡ index j → i ≡ j
same_place i j e = ap place_of e where
  place_of : Way → ℕ
  place_of (index n) = n
  place_of (key k) = 0

earlier_in : (number i j : ℕ) (role : Role) (beside content : Data) (q r : Portion)
    → first_part number (portion role beside content) ≡ Some (index i, q) → j < i
    → IsStep (portion role beside content) (index j) r → alone r ≢ number
earlier_in number i j role beside (json.array ds) q r is less (d, stands, part) fault =
    let item = found_item number (portion role beside (json.array ds)) 0 ds (index i) q is in
    let here : i ≡ item.place = same_place i item.place item.step in
    let placed = item.placed in
    item.earlier j j d (omega arith) (omega arith) stands (ap alone (sym part) ∙ fault)
earlier_in number i j role beside content q r is less (d, stands, part) fault = absurd cc

pub earlier : (number i j : ℕ) (p q r : Portion) → first_part number p ≡ Some (index i, q) → j < i → IsStep p (index j) r → alone r ≢ number
earlier number i j p q r is less step = earlier_in number i j p.role p.beside p.content q r is less step

discriminant_in : (number : ℕ) (role : Role) (beside content d : Data) → disc_of (portion role beside content) ≡ Some d
    → alone (part_under (portion role beside content) (codes "union") d) ≡ number
    → first_part number (portion role beside content) ≡ Some (key (codes "union"), part_under (portion role beside content) (codes "union") d)
discriminant_in number role beside (json.object ms) d is fault =
    let p = portion role beside (json.object ms) in
    ap (λ o. option_or (option_and_then (λ e. placed_if number (codes "union") (part_under p (codes "union") e)) o) (first_member number p ms)) is
    ∙ ap (λ o. option_or o (first_member number p ms)) (is_placed number (codes "union") (part_under p (codes "union") d) fault)
discriminant_in number role beside content d is fault =
    let stands = disc_stands role beside content d is in absurd cc

pub discriminant : (number : ℕ) (p : Portion) (d : Data) → disc_of p ≡ Some d → alone (part_under p (codes "union") d) ≡ number
    → first_part number p ≡ Some (key (codes "union"), part_under p (codes "union") d)
discriminant number p d is fault = discriminant_in number p.role p.beside p.content d is fault
