use Rattle.std.proofs.Common.{sym, ap, ◌∙◌}
use Rattle.giop_types.specs.Descriptions.Checked.{has_doubled, same_name}
use Rattle.giop_types.proofs.Descriptions.NameLemmas.{field_names_of}
use Rattle.giop_types.proofs.description.name_check.has_doubled_member.Goals as goal

pub returns : goal.returns
returns c = c.is_any_doubled.ensures ∙ ap (has_doubled same_name) (sym (field_names_of c.args.members.now))
