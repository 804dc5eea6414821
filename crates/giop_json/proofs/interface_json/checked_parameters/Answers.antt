use Rattle.std.proofs.Common.{◌≡◌, ◌++◌, ◌∷◌, [], arith, length, ap, sym, ◌∙◌}
use Rattle.std.proofs.lemmas.Grind.{common_steps}
use Rattle.std.specs.Vec.Iter.{into_iter_items}
use Rattle.giop_types.specs.Descriptions.Checked.{desc_fault}
use Rattle.giop_types.specs.Descriptions.CheckedShape.{checked_shape}
use Rattle.giop_types.specs.Values.Views.{desc_view, named_view}
use Rattle.giop_json.proofs.InterfaceLemmas.{judged_well, fault_passed, named_well, parameter_is, parameter_moved, parameters_moved, stay_distinct, nothing_left}
use Rattle.giop_json.proofs.interface_json.checked_parameters.Goals as goal

pub loop-named-preserved : goal.loop-named-preserved
loop-named-preserved c =
    let l = c.loop-named in
    let x = c.in-Some.named in
    let steps : into_iter_items l.named-iterator ≡ x ∷ into_iter_items c.next.new.self = c.in-Some.ensures.steps.0 in
    let pushed : c.push.new.self.items ≡ l.list.items ++ (record { name = x.name; desc = c.in_ok-desc.desc }) ∷ [] = grind (arith, common_steps) in
    let well = judged_well (desc_view x.desc) (checked_shape c.in_ok-desc.desc) (desc_fault 1 (desc_view x.desc)) c.in_ok-desc.ensures.ok in
    record {
      parts = rw pushed (parameter_moved l.list.items _ _ _ x _ steps (parameter_is x c.in_ok-desc.desc well.1) l.invariant.parts);
      judged = fault_passed (λ m. desc_fault 1 m.shape) named_view _ _ x _ steps (named_well x well.0) l.invariant.judged;
      left = let gone = c.in-Some.ensures.steps.1 in let was = l.invariant.left in let short = ap length steps in omega arith;
    }

pub returns-in-None-new-clause-told : goal.returns-in-None-new-clause-told
returns-in-None-new-clause-told c =
    let l = c.loop-named in
    let none = nothing_left (into_iter_items l.named-iterator) (sym l.invariant.left ∙ c.in-None.ensures.steps.0) in
    let all = parameters_moved l.list.items (into_iter_items l.named-iterator) _ none l.invariant.parts in
    let apart = stay_distinct l.list.items c.args.form.list.items all c.args.form.distinct in
    let doubled = c.in-None-new.ensures.none in
    absurd (cc (apart, doubled))
