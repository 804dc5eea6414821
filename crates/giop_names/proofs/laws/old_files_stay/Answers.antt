use Rattle.giop_names.proofs.OldLemmas.{stays, old_file}
use Rattle.giop_names.proofs.laws.old_files_stay.Goals as goal

pub returns : goal.returns
returns c = record { part = stays; file = old_file }
