use Rattle.giop_call_lines.proofs.server_entry.ServerEntryLineDisplay.fmt.Goals as goal

pub returns-in-LocateAnswered-clause-writes : goal.returns-in-LocateAnswered-clause-writes
returns-in-LocateAnswered-clause-writes g c = rw c.in-LocateAnswered.is c.write-in-LocateAnswered.ensures.writes
