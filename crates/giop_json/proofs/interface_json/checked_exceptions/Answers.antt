use Rattle.std.proofs.Common.{◌≡◌, ◌∷◌, arith, length, ap, sym}
use Rattle.std.specs.Vec.Iter.{into_iter_items}
use Rattle.giop_json.specs.InterfaceForms.{exception_entry, parameters_form_view}
use Rattle.giop_json.specs.InterfaceFromJson.{parameters_view, parameters_fault}
use Rattle.giop_json.proofs.InterfaceLemmas.{judged_well, fault_passed, one_named, entry_same}
use Rattle.giop_json.proofs.interface_json.checked_exceptions.Goals as goal

pub loop-id-preserved : goal.loop-id-preserved
loop-id-preserved c =
    let l = c.loop-id in
    let steps : into_iter_items l.id-iterator ≡ (c.in-Some.id, c.in-Some.form) ∷ into_iter_items c.next.new.self = c.in-Some.ensures.steps.0 in
    let form = parameters_form_view c.in-Some.form in
    let well = judged_well form (parameters_view c.in_ok-members.members) (parameters_fault form) c.in_ok-members.ensures.told in
    let same = entry_same c.in-Some.id c.into_vec.result.items form (parameters_view c.in_ok-members.members) (sym c.into_vec.ensures) well.1 in
    record {
      named = one_named exception_entry parameters_view l.exceptions.entries c.insert.new.self.entries c.into_vec.result c.in_ok-members.members _ _
          (c.in-Some.id, c.in-Some.form) _ steps
          c.in_ok-insert.ensures.entries same l.invariant.named;
      judged = fault_passed (λ e. parameters_fault e.1) exception_entry _ _ (c.in-Some.id, c.in-Some.form) _ steps well.0 l.invariant.judged;
      left = let gone = c.in-Some.ensures.steps.1 in let was = l.invariant.left in let short = ap length steps in omega arith;
    }
