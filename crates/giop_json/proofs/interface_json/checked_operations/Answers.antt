use Rattle.std.proofs.Common.{◌≡◌, ◌∷◌, arith, length, ap, sym}
use Rattle.std.specs.Vec.Iter.{into_iter_items}
use Rattle.giop_json.specs.InterfaceForms.{operation_entry, operation_form_view}
use Rattle.giop_json.specs.InterfaceFromJson.{operation_view, signature_fault}
use Rattle.giop_json.proofs.InterfaceLemmas.{judged_well, fault_passed, one_named, entry_same}
use Rattle.giop_json.proofs.interface_json.checked_operations.Goals as goal

pub loop-name-preserved : goal.loop-name-preserved
loop-name-preserved c =
    let l = c.loop-name in
    let steps : into_iter_items l.name-iterator ≡ (c.in-Some.name, c.in-Some.form) ∷ into_iter_items c.next.new.self = c.in-Some.ensures.steps.0 in
    let form = operation_form_view c.in-Some.form in
    let well = judged_well form (operation_view c.in_ok-operation.operation) (signature_fault form) c.in_ok-operation.ensures in
    let same = entry_same c.in-Some.name c.into_vec.result.items form (operation_view c.in_ok-operation.operation) (sym c.into_vec.ensures) well.1 in
    record {
      named = one_named operation_entry operation_view l.operations.entries c.insert.new.self.entries c.into_vec.result c.in_ok-operation.operation _
          _ (c.in-Some.name, c.in-Some.form) _ steps
          c.in_ok-insert.ensures.entries same l.invariant.named;
      judged = fault_passed (λ e. signature_fault e.1) operation_entry _ _ (c.in-Some.name, c.in-Some.form) _ steps well.0 l.invariant.judged;
      left = let gone = c.in-Some.ensures.steps.1 in let was = l.invariant.left in let short = ap length steps in omega arith;
    }
