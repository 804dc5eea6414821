use Rattle.giop_ids.proofs.RunLemmas.{at-run}
use Rattle.example_end.specs.End.{end_rules, is_of_message}
use Rattle.example_end.proofs.EndLemmas.{end_apart, told_apart}
use Rattle.example_end.proofs.laws.each_message_alone.Goals as goal

pub returns-clause-value : goal.returns-clause-value
returns-clause-value c = λ h k acts results id run free. (at-run end_rules end_apart is_of_message told_apart h k acts results id run free).0

pub returns-clause-told : goal.returns-clause-told
returns-clause-told c = λ h k acts results id run free. (at-run end_rules end_apart is_of_message told_apart h k acts results id run free).1
