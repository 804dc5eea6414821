use Rattle.giop_c.proofs.laws.failed_ends_stay.Goals as goal

pub returns-clause-client : goal.returns-clause-client
returns-clause-client c = λ old new octets answer why stands feeds. feeds.0 why stands

pub returns-clause-server : goal.returns-clause-server
returns-clause-server c = λ old new octets answer why stands feeds. feeds.0 why stands
