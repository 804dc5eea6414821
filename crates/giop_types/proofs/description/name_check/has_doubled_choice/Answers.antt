use Rattle.std.proofs.Common.{◌≡◌, true, false, ◌||◌, map, sym, ap, ◌∙◌}
use Rattle.std.specs.List.{list_any}
use Rattle.giop_types.specs.Descriptions.Checked.{has_doubled, same_name}
use Rattle.giop_types.proofs.Descriptions.NameLemmas.{branch_names_of}
use Rattle.giop_types.proofs.Values.ViewLemmas.{view-Named}
use Rattle.giop_types.proofs.description.name_check.has_doubled_choice.Goals as goal

pub returns-then-has_name : goal.returns-then-has_name
returns-then-has_name c =
    let cases = c.args.cases.now in
    let member = c.in-Some.member.value in
    let found : list_any (λ other. same_name other member.name) (map (λ b. b.name) cases) ≡ true
    = sym (rw c.deref.ensures at c.has_name.ensures) ∙ c.if-has_name.true in
    rw (c.in-Some.is, view-Named member, branch_names_of cases)
    (c.if-has_name.true ∙ sym (ap (λ b. b || has_doubled same_name (map (λ b. b.name) cases)) found))

pub returns-else-has_name : goal.returns-else-has_name
returns-else-has_name c =
    let cases = c.args.cases.now in
    let member = c.in-Some.member.value in
    let absent : list_any (λ other. same_name other member.name) (map (λ b. b.name) cases) ≡ false
    = sym (rw c.deref.ensures at c.has_name.ensures) ∙ c.if-has_name.false in
    rw (c.in-Some.is, view-Named member, branch_names_of cases)
    (c.is_any_doubled.ensures ∙ sym (ap (λ b. b || has_doubled same_name (map (λ b. b.name) cases)) absent))

pub returns-in-None : goal.returns-in-None
returns-in-None c = rw (c.in-None.is, branch_names_of c.args.cases.now) c.is_any_doubled-in-None.ensures
