use Rattle.std.proofs.Common.{◌≡◌, ◌++◌, ◌∷◌, [], map, arith, Some, string_bytes}
use Rattle.std.proofs.lemmas.Grind.{common_steps}
use Rattle.std.proofs.lemmas.List.{map-append}
use Rattle.std.proofs.lemmas.Map.Iter.{rest_more, rest_all}
use Rattle.std.specs.Map.Iter.{deref_pair}
use Rattle.serde_json.specs.View.{view, members_view}
use Rattle.giop_json.specs.InterfaceForms.{operation_entry, operation_form_view}
use Rattle.giop_json.specs.InterfaceFromJson.{name_in, entries_in, signature_in}
use Rattle.giop_json.proofs.InterfaceLemmas.{member_made, members_made, tabled}
use Rattle.giop_json.proofs.interface_json.operations_of.Goals as goal

pub loop-key-preserved : goal.loop-key-preserved
loop-key-preserved c =
    let l = c.loop-key in
    let pushed : c.push.new.self.items ≡ l.forms.items ++ (c.in_ok-name.name, c.in_ok-operation.operation) ∷ [] = grind (arith, common_steps) in
    let first = rest_more deref_pair l.key-iterator c.next.new.self c.next.result (c.in-Some.key, c.in-Some.form) c.in-Some.is c.next.ensures.steps in
    let is : name_in (string_bytes c.in-Some.key.now) ≡ Some c.in_ok-name.name = rw c.as_str.ensures.value at c.in_ok-name.ensures in
    rw (pushed, map-append operation_entry l.forms.items ((c.in_ok-name.name, c.in_ok-operation.operation) ∷ []))
    (member_made signature_in (map operation_entry l.forms.items) l.key-iterator c.next.new.self (c.in-Some.key.now, c.in-Some.form.now)
    c.in_ok-name.name (operation_form_view c.in_ok-operation.operation) (entries_in signature_in (members_view c.into_iter-key-iterator.result))
    first is c.in_ok-operation.ensures l.invariant)

pub returns : goal.returns
returns c =
    let l = c.loop-key in
    let none = rest_all deref_pair l.key-iterator c.next.new.self c.next.result c.in-None.is c.next.ensures.steps in
    let start : c.into_iter-key-iterator.result ≡ c.in_ok-operations.operations.now.entries = cc in
    tabled signature_in (view c.args.json.now) c.in_ok-operations.operations.now.entries _ c.in_ok-operations.ensures
    (rw start at (members_made signature_in (map operation_entry l.forms.items) l.key-iterator
    (entries_in signature_in (members_view c.into_iter-key-iterator.result))
    none l.invariant))
