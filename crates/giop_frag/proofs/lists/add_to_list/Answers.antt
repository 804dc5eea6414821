use Rattle.std.proofs.Common.{None, IsSome, sym, ap, ◌∙◌, refl, inl, arith}
use Rattle.std.specs.Option.{option_copied_mut}
use Rattle.std.specs.BTreeMap.{get_by}
use Rattle.std.specs.Ordering.{nat_cmp}
use Rattle.giop_frag.proofs.HeldLemmas.{apart_found, pieces_found, size_found}
use Rattle.giop_frag.proofs.GrowLemmas.{Grows, by_append}
use Rattle.giop_frag.proofs.lists.add_to_list.Goals as goal

pub append-requires-clause-apart : goal.append-requires-clause-apart
append-requires-clause-apart c =
    apart_found _ _ c.args.id _ c.requires.held (sym c.get_mut.ensures.value ∙ ap option_copied_mut c.in-Some.is)

pub append-requires-clause-small : goal.append-requires-clause-small
append-requires-clause-small c = λ within.
    let size = size_found _ _ c.args.id _ c.requires.held (sym c.get_mut.ensures.value ∙ ap option_copied_mut c.in-Some.is) in
    let fits = c.requires.small within in
    omega arith

-- what the call leaves, where the id has octets
left : (c : goal.After-table-in-Some-1) → Grows c.args.pool.now c.append.new.pool c.args.table.now.entries (c.get_mut.follows.lender c.append.new.self).entries
    c.args.over c.args.id c.args.order c.args.octets.now c.append.result
left c =
    let there : IsSome (get_by (nat_cmp c.args.id) c.args.table.now) =
    rw (sym c.get_mut.ensures.value ∙ ap option_copied_mut c.in-Some.is) refl in
    let written = (c.get_mut.follows.holds c.append.new.self).3 there in
    let found = sym c.get_mut.ensures.value ∙ ap option_copied_mut c.in-Some.is in
    by_append _ _ _ _ c.args.over c.args.id c.args.order c.args.octets.now c.append.result c.in-Some.joined.now c.append.new.self
    c.requires.held found written.0
    c.append.ensures.ok c.append.ensures.only c.append.ensures.err c.append.ensures.kept c.append.ensures.left

pub returns-in-Some-clause-held : goal.returns-in-Some-clause-held
returns-in-Some-clause-held c = (left c).held

pub returns-in-Some-clause-ok : goal.returns-in-Some-clause-ok
returns-in-Some-clause-ok c = (left c).ok

pub returns-in-Some-clause-number : goal.returns-in-Some-clause-number
returns-in-Some-clause-number c = (left c).number

pub returns-in-Some-clause-only : goal.returns-in-Some-clause-only
returns-in-Some-clause-only c = (left c).only

pub returns-in-Some-clause-err : goal.returns-in-Some-clause-err
returns-in-Some-clause-err c = (left c).err

pub returns-in-Some-clause-kept : goal.returns-in-Some-clause-kept
returns-in-Some-clause-kept c = (left c).kept

pub returns-in-Some-clause-left : goal.returns-in-Some-clause-left
returns-in-Some-clause-left c = (left c).left

pub returns-in-None-clause-err : goal.returns-in-None-clause-err
returns-in-None-clause-err c =
    let none = pieces_found c.args.pool.now.blocks c.args.table.now.entries c.args.id None (sym c.get_mut.ensures.value ∙ ap option_copied_mut c.in-None.is) in
    rw none (inl refl)
