use Rattle.std.proofs.Common.{IsSome, sym, ap, ◌∙◌, refl}
use Rattle.std.specs.Option.{option_copied_mut}
use Rattle.std.specs.BTreeMap.{get_by}
use Rattle.std.specs.Ordering.{nat_cmp}
use Rattle.giop_frag.specs.Gathered.{grown}
use Rattle.giop_frag.proofs.HeldLemmas.{Changes, apart_found, filled}
use Rattle.std.specs.FinMap as map
use Rattle.giop_frag.specs.Placed.{lists_at}
use Rattle.giop_frag.proofs.lists.fill_list.Goals as goal

pub fill-requires-clause-apart : goal.fill-requires-clause-apart
fill-requires-clause-apart c =
    apart_found _ _ c.args.id _ c.requires.held (sym c.get_mut.ensures.value ∙ ap option_copied_mut c.in-Some.is)

-- what the call leaves
left : (c : goal.After-table-in-Some-1) → Changes c.args.pool.now c.fill.new.pool c.args.table.now.entries (c.get_mut.follows.lender c.fill.new.self).entries
    c.args.id (grown (map.get (lists_at c.args.pool.now.blocks c.args.table.now.entries) c.args.id) c.args.octets.now)
left c =
    let there : IsSome (get_by (nat_cmp c.args.id) c.args.table.now) =
    rw (sym c.get_mut.ensures.value ∙ ap option_copied_mut c.in-Some.is) refl in
    let written = (c.get_mut.follows.holds c.fill.new.self).3 there in
    let found = sym c.get_mut.ensures.value ∙ ap option_copied_mut c.in-Some.is in
    filled _ _ _ _ c.args.id c.in-Some.joined.now c.fill.new.self c.args.octets.now c.requires.held found written.0 c.fill.ensures

pub returns-in-Some-clause-held : goal.returns-in-Some-clause-held
returns-in-Some-clause-held c = (left c).held

pub returns-in-Some-clause-ok : goal.returns-in-Some-clause-ok
returns-in-Some-clause-ok c = (left c).lists
