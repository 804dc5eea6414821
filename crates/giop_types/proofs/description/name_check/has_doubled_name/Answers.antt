use Rattle.std.proofs.Common.{ap, ◌∙◌}
use Rattle.std.proofs.lemmas.List.{map-id}
use Rattle.giop_types.specs.Descriptions.Checked.{has_doubled, same_name}
use Rattle.giop_types.proofs.Descriptions.DoubledLemmas.{names_apart}
use Rattle.giop_types.proofs.description.name_check.has_doubled_name.Goals as goal

pub returns-clause-apart : goal.returns-clause-apart
returns-clause-apart c =
    names_apart c.is_any_doubled.result c.args.names.now (c.is_any_doubled.ensures ∙ ap (has_doubled same_name) (map-id c.args.names.now))
