use Rattle.std.proofs.Common.{ℕ, ◌≡◌, List, [], ◌∷◌, None, map, refl, sym, ap, subst, ◌∙◌}
use Rattle.giop_where.specs.Alone.{alone}
use Rattle.giop_where.specs.First.{IsFirst, IsPlace, first_part}
use Rattle.giop_where.specs.Parts.{Portion, Way, step_view}
use Rattle.giop_where.specs.declared.place.Place.{Place}
use Rattle.giop_where.proofs.FoundLemmas.{found, part_of_some}
use Rattle.giop_where.proofs.laws.places_are_unique.Goals as goal

-- one path leads to the first fault
one_path : (number : ℕ) (p q r : Portion) (one other : List Way) → IsFirst number p one q → IsFirst number p other r
    → (one ≡ other) × (q ≡ r)
one_path number p q r [] [] a b = (refl, sym a.led ∙ b.led)
one_path number p q r [] (w ∷ other) a b =
    let own : first_part number p ≡ None = subst (λ x. first_part number x ≡ None) (sym a.led) a.own in
    let step = b.led.1 in absurd cc
one_path number p q r (w ∷ one) [] a b =
    let own : first_part number p ≡ None = subst (λ x. first_part number x ≡ None) (sym b.led) b.own in
    let step = a.led.1 in absurd cc
one_path number p q r (w ∷ one) (v ∷ other) a b =
    let (s, step, led) = a.led in
    let (t, step', led') = b.led in
    let same = part_of_some (sym step ∙ step') in
    let moved : IsFirst number s other r =
    record { led = subst (λ x. Rattle.giop_where.specs.First.Leads number x other r) (sym (ap (λ x. x.1) same)) led'; own = b.own } in
    let rest = one_path number s q r one other (record { led = led; own = a.own }) moved in
    ((λ i. ap (λ x. x.0) same i ∷ rest.0 i), rest.1)

-- and each part on it is at fault alike
at_fault : (number : ℕ) (p q : Portion) (path : List Way) → IsFirst number p path q → alone p ≡ number → alone q ≡ number
at_fault number p q [] first fault = subst (λ x. alone x ≡ number) first.led fault
at_fault number p q (w ∷ path) first fault =
    let (r, step, led) = first.led in
    at_fault number r q path (record { led = led; own = first.own }) (found number p r w step).1

one_place : (number : ℕ) (p : Portion) (one other : Place) → IsPlace number p one → IsPlace number p other
    → (map step_view one.path.items ≡ map step_view other.path.items) × (one.role ≡ other.role)
one_place number p one other (q, first, role) (r, first', role') =
    let same = one_path number p q r _ _ first first' in
    (same.0, role ∙ ap (λ x. x.role) same.1 ∙ sym role')

pub returns-clause-path : goal.returns-clause-path
returns-clause-path c = one_path

pub returns-clause-place : goal.returns-clause-place
returns-clause-place c = one_place

pub returns-clause-at_fault : goal.returns-clause-at_fault
returns-clause-at_fault c = at_fault
