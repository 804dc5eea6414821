use Rattle.std.proofs.Common.{◌≤◌, length, arith}
use Rattle.std.proofs.lemmas.Option.{slice_get_past}
use Rattle.giop_json.proofs.ToJsonLemmas.{view-Null}
use Rattle.giop_json.proofs.leaves.name_json.Goals as goal

pub returns-else-ordinal-names : goal.returns-else-ordinal-names
returns-else-ordinal-names c =
    let le : length c.args.names.now ≤ c.args.ordinal = omega arith in
    rw (slice_get_past c.args.names.now c.args.ordinal le) view-Null
