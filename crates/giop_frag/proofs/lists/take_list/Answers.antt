use Rattle.std.proofs.Common.{None, length, sym, ap, ◌∙◌, arith}
use Rattle.giop_frag.specs.Gathered.{octets_in}
use Rattle.giop_frag.proofs.HeldLemmas.{Changes, back_fits, given_back, none_taken, pieces_found, size_found}
use Rattle.giop_frag.proofs.lists.take_list.Goals as goal

pub give_back-requires : goal.give_back-requires
give_back-requires c =
    let fits = back_fits _ _ c.args.id _ c.requires.held (sym c.remove.ensures.value ∙ c.in-Some.is) in
    let as_many = ap length c.numbers.ensures in
    omega arith

-- what the call leaves, where the id has octets
left : (c : goal.After-drop-joined-inside) → Changes c.args.pool.now c.give_back.new.self c.args.table.now.entries c.remove.new.self.entries c.args.id None
left c =
    given_back _ _ _ _ c.args.id c.in-Some.joined _ c.requires.held (sym c.remove.ensures.value ∙ c.in-Some.is)
    c.remove.ensures.updates.0 c.numbers.ensures c.give_back.ensures

pub returns-in-Some-clause-held : goal.returns-in-Some-clause-held
returns-in-Some-clause-held c = (left c).held

pub returns-in-Some-clause-ok : goal.returns-in-Some-clause-ok
returns-in-Some-clause-ok c = (left c).lists

pub returns-in-Some-clause-value : goal.returns-in-Some-clause-value
returns-in-Some-clause-value c =
    c.len.ensures ∙ sym (size_found _ _ c.args.id _ c.requires.held (sym c.remove.ensures.value ∙ c.in-Some.is))

-- and where it has none
none : (c : goal.In-None) → Changes c.args.pool.now c.args.pool.now c.args.table.now.entries c.remove.new.self.entries c.args.id None
none c = none_taken _ _ _ c.args.id c.requires.held (sym c.remove.ensures.value ∙ c.in-None.is) c.remove.ensures.updates.0

pub returns-in-None-clause-held : goal.returns-in-None-clause-held
returns-in-None-clause-held c = (none c).held

pub returns-in-None-clause-ok : goal.returns-in-None-clause-ok
returns-in-None-clause-ok c = (none c).lists

pub returns-in-None-clause-value : goal.returns-in-None-clause-value
returns-in-None-clause-value c = sym (ap octets_in (pieces_found _ _ c.args.id None (sym c.remove.ensures.value ∙ c.in-None.is)))
