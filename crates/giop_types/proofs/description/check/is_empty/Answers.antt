use Rattle.std.proofs.Common.{◌≡◌, ◌==◌, map, not, true, false, ap, sym, ◌∙◌, ◌||◌}
use Rattle.giop_types.specs.Values.Views.{case_view, branches_of}
use Rattle.giop_types.specs.Descriptions.Checked.{has_branches, has_bare_branch}
use Rattle.giop_types.proofs.Values.ViewLemmas.{view-Members, view-Choice}
use Rattle.giop_types.proofs.Descriptions.CheckLemmas.{no_members, no_cases}
use Rattle.giop_types.proofs.description.check.is_empty.Goals as goal

pub returns-in-Members : goal.returns-in-Members
returns-in-Members c =
    let ms = c.in-Members.members in
    rw (c.in-Members.is, view-Members ms) (c.is_empty-in-Members.ensures ∙ ap (λ n. n == 0) ms.ok.0 ∙ no_members ms.items)

pub returns-then-is_empty : goal.returns-then-is_empty
returns-then-is_empty c =
    let u = c.in-Choice in
    let bs = branches_of (map case_view u.cases.items) in
    let bare : not (has_branches bs) ≡ true
    = sym (c.is_empty-in-Choice.ensures ∙ ap (λ n. n == 0) u.cases.ok.0 ∙ no_cases u.cases.items) ∙ c.if-is_empty.true in
    rw (u.is, view-Choice u.disc u.cases u.fallback) (c.if-is_empty.true ∙ sym (ap (λ b. b || has_bare_branch bs) bare))

pub returns-else-is_empty : goal.returns-else-is_empty
returns-else-is_empty c =
    let u = c.in-Choice in
    let bs = branches_of (map case_view u.cases.items) in
    let some : not (has_branches bs) ≡ false
    = sym (c.is_empty-in-Choice.ensures ∙ ap (λ n. n == 0) u.cases.ok.0 ∙ no_cases u.cases.items) ∙ c.if-is_empty.false in
    let found : c.has_bare_case.result ≡ has_bare_branch bs = rw c.deref.ensures.value at c.has_bare_case.ensures in
    rw (u.is, view-Choice u.disc u.cases u.fallback) (found ∙ sym (ap (λ b. b || has_bare_branch bs) some))
