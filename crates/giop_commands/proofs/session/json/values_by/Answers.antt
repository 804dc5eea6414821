use Rattle.std.proofs.Common.{◌≡◌, ◌≢◌, arith, length, map, min, option_map}
use Rattle.giop_types.specs.Values.Views.{value_view}
use Rattle.giop_commands.proofs.OnSession.PartLemmas.{values_unmatched}
use Rattle.giop_commands.proofs.session.json.values_by.Goals as goal

pub returns-then-list-parameters : goal.returns-then-list-parameters
returns-then-list-parameters c =
    let l = c.loop-i in
    let ps = c.args.parameters.now in
    let ds = c.args.list.now in
    let end : l.i ≡ min (length ds) (length ps) = omega arith in
    let differ : length ds ≢ length ps = omega arith in
    values_unmatched (option_map (λ v. map value_view v.items) l.values) ps ds l.i _ end differ l.invariant
