use Rattle.std.proofs.Common.{◌+◌, length, sym, ◌∙◌}
use Rattle.giop_frag.specs.Placed.{IsTable}
use Rattle.giop_frag.proofs.TableLemmas.{asked_of, few_left, joined_octets, memory_fits, same_octets, small_enough, within_limit}
use Rattle.giop_frag.proofs.gather.Gather.add.Goals as goal

pub add_to_list-requires-clause-small : goal.add_to_list-requires-clause-small
add_to_list-requires-clause-small c = λ within.
    small_enough _ _ c.args.id _ _ _ c.self.invariant (sym (asked_of _ _ _ _ _ _ c.self.view_is c.is_over-over.ensures) ∙ within)

pub invariant_of-self : goal.invariant_of-self
invariant_of-self c =
    let asked = asked_of _ _ _ _ _ _ c.self.view_is c.is_over-over.ensures in
    let few = few_left _ _ _ _ _ c.in_err-add_to_list.ensures.left c.self.invariant.few
    (memory_fits _ _ _ c.args.id c.args.order c.args.octets.now _ asked c.in_err-add_to_list.ensures.err) in
    same_octets _ _ _ _ _ _ c.self.invariant c.add_to_list.ensures.held c.in_err-add_to_list.ensures.kept few

-- where the call grows a list the count is right again
counted : (c : goal.After-self-1) → IsTable c.self.inside.limit (c.self.inside.total + length c.args.octets.now)
    c.add_to_list.new.pool c.add_to_list.new.table.entries
counted c =
    let asked = asked_of _ _ _ _ _ _ c.self.view_is c.is_over-over.ensures in
    joined_octets _ _ _ _ _ _ c.args.id c.args.order c.args.octets.now _ c.self.invariant c.add_to_list.ensures.held
    c.in_ok-add_to_list.ensures.ok c.in_ok-add_to_list.ensures.number asked c.in_ok-add_to_list.ensures.only

pub invariant_of-self-2 : goal.invariant_of-self-2
invariant_of-self-2 c = counted c

pub returns-clause-within : goal.returns-clause-within
returns-clause-within c = within_limit _ _ _ _ (counted c)
