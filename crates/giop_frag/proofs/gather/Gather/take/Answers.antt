use Rattle.std.proofs.Common.{arith}
use Rattle.giop_frag.proofs.TableLemmas.{less_octets, octets_within, within_limit}
use Rattle.giop_frag.proofs.gather.Gather.take.Goals as goal

pub overflow_sub-self : goal.overflow_sub-self
overflow_sub-self c =
    let is = c.take_list.ensures.value in
    let among = octets_within _ _ c.args.id _ _ c.self.invariant in
    let most = among.0 in
    omega arith

pub invariant_of-self : goal.invariant_of-self
invariant_of-self c =
    less_octets _ _ _ c.args.id _ _ _ _ c.self.invariant c.take_list.ensures.held c.take_list.ensures.value c.take_list.ensures.ok c.take_list.ensures.number

pub returns-clause-within : goal.returns-clause-within
returns-clause-within c =
    within_limit _ _ _ _
    (less_octets _ _ _ c.args.id _ _ _ _ c.self.invariant c.take_list.ensures.held c.take_list.ensures.value c.take_list.ensures.ok c.take_list.ensures.number)
