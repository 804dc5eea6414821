use Rattle.std.proofs.Common.{◌≤◌, Some, length, max, rules}
use Rattle.giop_ids.specs.ById.{put}
use Rattle.giop_frag.specs.Gathered.{blocks_of}
use Rattle.giop_frag.specs.Placed.{IsOpened, lists_at}
use Rattle.giop_frag.proofs.HeldLemmas.{Keeps}
use Rattle.giop_frag.proofs.BeginLemmas.{IsBegun, opened, is_ready, begun_by, refused_by, left_by, OnErr_of, ok_part, err_part}
use Rattle.giop_frag.proofs.lists.begin_list.Goals as goal

-- what a refusal leaves
refused : (c : goal.After-from_residual) → Keeps c.args.pool.now c.open_list.new.pool c.args.table.now.entries c.open_list.new.table.entries
    × ((length c.args.pool.now.blocks ≤ length c.open_list.new.pool.blocks)
    × (length c.open_list.new.pool.blocks ≤ max (length c.args.pool.now.blocks)
    (blocks_of (put (lists_at c.args.pool.now.blocks c.args.table.now.entries) c.args.id
    (Some (record { order = c.args.order; octets = c.args.octets.now }))))))
refused c =
    refused_by _ _ _ _ c.args.id c.args.order c.args.octets.now c.blocks_for.result c.requires.held c.requires.absent c.open_list.ensures.provided
    c.blocks_for.ensures.value (err_part _ _ c.in_err-open_list.was c.open_list.ensures.kept)

pub returns-in_err-open_list-clause-held : goal.returns-in_err-open_list-clause-held
returns-in_err-open_list-clause-held c = (refused c).0.held

pub returns-in_err-open_list-clause-kept : goal.returns-in_err-open_list-clause-kept
returns-in_err-open_list-clause-kept c = OnErr_of _ (refused c).0.lists

pub returns-in_err-open_list-clause-left : goal.returns-in_err-open_list-clause-left
returns-in_err-open_list-clause-left c = left_by _ _ _ _ (search rules) (refused c).1

-- the list that was opened
list_opened : (c : goal.After-fill_list-arg-2-1) → IsOpened c.open_list.new.pool c.args.table.now.entries c.open_list.new.table.entries c.args.id
    c.args.order c.blocks_for.result
list_opened c = ok_part _ _ c.in_ok-open_list.was c.open_list.ensures.ok

pub fill_list-requires-clause-held : goal.fill_list-requires-clause-held
fill_list-requires-clause-held c = (opened _ _ _ _ c.args.id _ c.args.order c.requires.held c.requires.absent c.open_list.ensures.provided (list_opened c)).0

pub fill_list-requires-clause-ready : goal.fill_list-requires-clause-ready
fill_list-requires-clause-ready c = is_ready _ _ _ c.args.id c.args.order c.args.octets.now _ (list_opened c) c.blocks_for.ensures.value c.requires.small

-- what the call leaves
begun : (c : goal.After-fill_list) → IsBegun c.args.pool.now c.fill_list.new.pool c.args.table.now.entries c.fill_list.new.table.entries c.args.id
    c.args.order c.args.octets.now
begun c =
    let opens = ok_part _ _ c.in_ok-open_list.was c.open_list.ensures.ok in
    begun_by _ c.open_list.new.pool _ _ c.open_list.new.table.entries _ c.args.id c.args.order c.args.octets.now c.blocks_for.result
    c.requires.held c.requires.absent c.open_list.ensures.provided opens c.blocks_for.ensures.value
    c.fill_list.ensures.held c.fill_list.ensures.ok c.fill_list.ensures.number

pub returns-clause-ok : goal.returns-clause-ok
returns-clause-ok c = (begun c).ok

pub returns-clause-number : goal.returns-clause-number
returns-clause-number c = (begun c).number
