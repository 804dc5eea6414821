use Rattle.std.proofs.Common.{◌+◌, Some, length, sym, ap, ◌∙◌}
use Rattle.std.specs.FinMap as map
use Rattle.giop_frag.specs.Placed.{IsTable}
use Rattle.giop_frag.proofs.TableLemmas.{asked_of, few_left, fits, from_nothing, more_octets, same_octets, within_limit}
use Rattle.giop_frag.proofs.gather.Gather.begin.Goals as goal

pub invariant_of-self : goal.invariant_of-self
invariant_of-self c =
    let room = sym (asked_of _ _ _ _ _ _ c.self.view_is c.is_over.ensures) ∙ c.if-is_over.false in
    let absent = ap (λ g. map.get g.lists c.args.id) c.self.view_is ∙ c.requires in
    let few = few_left _ _ _ _ _ c.in_err-begin_list.ensures.left c.self.invariant.few
    (λ memory. (fits _ _ c.args.id _
    (Some (record { order = c.args.order; octets = c.args.octets.now })) room (from_nothing _ c.args.id c.args.order c.args.octets.now absent)).2) in
    same_octets _ _ _ _ _ _ c.self.invariant c.begin_list.ensures.held c.in_err-begin_list.ensures.kept few

-- where the call begins a list the count is right again
counted : (c : goal.After-self-1) → IsTable c.self.inside.limit (c.self.inside.total + length c.args.octets.now)
    c.begin_list.new.pool c.begin_list.new.table.entries
counted c =
    let room = sym (asked_of _ _ _ _ _ _ c.self.view_is c.is_over.ensures) ∙ c.if-is_over.false in
    let absent = ap (λ g. map.get g.lists c.args.id) c.self.view_is ∙ c.requires in
    more_octets _ _ _ _ _ _ c.args.id _ (Some (record { order = c.args.order; octets = c.args.octets.now }))
    c.self.invariant c.begin_list.ensures.held c.in_ok-begin_list.ensures.ok
    (from_nothing _ c.args.id c.args.order c.args.octets.now absent) c.in_ok-begin_list.ensures.number room

pub invariant_of-self-2 : goal.invariant_of-self-2
invariant_of-self-2 c = counted c

pub returns-clause-within : goal.returns-clause-within
returns-clause-within c = within_limit _ _ _ _ (counted c)
