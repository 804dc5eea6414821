use Rattle.giop_files.proofs.laws.refused_files_are_no_interfaces.Goals as goal

pub returns : goal.returns
returns c = λ file refused. refused
