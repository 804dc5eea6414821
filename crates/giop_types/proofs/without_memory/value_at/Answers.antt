use Rattle.std.proofs.Common.{◌≡◌, Bool, true, false, List, ◌∷◌, Some, refl, sym, ◌∙◌}
use Rattle.std.proofs.lemmas.Map.Iter.{rest_more}
use Rattle.std.proofs.lemmas.Map.Text.{is_eq-slice_cmp}
use Rattle.std.specs.BTreeMap.{is_at}
use Rattle.std.specs.Cmp.Lexicographic.{slice_cmp}
use Rattle.std.specs.Map.{lookup}
use Rattle.std.specs.Map.Iter.{deref_pair}
use Rattle.std.specs.Ordering.{nat_cmp}
use Rattle.giop_types.proofs.without_memory.value_at.Goals as goal

found_here : {K X : Type 0} (test : K → Bool) (all left rest : List (K × X)) (k : K) (x : X)
    → left ≡ (k, x) ∷ rest → test k ≡ true → lookup test left ≡ lookup test all
    → Some x ≡ lookup test all
found_here {K} {X} test all left rest k x is same so_far =
    let here : lookup test left ≡ Some x = rw (is, same) refl in
    sym here ∙ so_far

passed_by : {K X : Type 0} (test : K → Bool) (all left rest : List (K × X)) (k : K) (x : X)
    → left ≡ (k, x) ∷ rest → test k ≡ false → lookup test left ≡ lookup test all
    → lookup test rest ≡ lookup test all
passed_by {K} {X} test all left rest k x is other so_far =
    let here : lookup test left ≡ lookup test rest = rw (is, other) refl in
    sym here ∙ so_far

pub returns-then-are_text : goal.returns-then-are_text
returns-then-are_text g c =
    let name = g.S.Octets.octets c.args.octets.now in
    found_here (is_at (λ key. slice_cmp nat_cmp name key.items)) c.args.map.now.entries c.loop-key.key-iterator c.next.new.self
    c.in-Some.key.now c.in-Some.value.now
    (rest_more deref_pair c.loop-key.key-iterator c.next.new.self c.next.result (c.in-Some.key, c.in-Some.value) c.in-Some.is c.next.ensures.steps)
    (is_eq-slice_cmp name c.in-Some.key.now.items ∙ sym (rw c.deref.ensures.value at c.are_text.ensures) ∙ c.if-are_text.true)
    c.loop-key.invariant

pub loop-key-preserved : goal.loop-key-preserved
loop-key-preserved g c =
    let name = g.S.Octets.octets c.args.octets.now in
    passed_by (is_at (λ key. slice_cmp nat_cmp name key.items)) c.args.map.now.entries c.loop-key.key-iterator c.next.new.self
    c.in-Some.key.now c.in-Some.value.now
    (rest_more deref_pair c.loop-key.key-iterator c.next.new.self c.next.result (c.in-Some.key, c.in-Some.value) c.in-Some.is c.next.ensures.steps)
    (is_eq-slice_cmp name c.in-Some.key.now.items ∙ sym (rw c.deref.ensures.value at c.are_text.ensures) ∙ c.if-are_text.false)
    c.loop-key.invariant
