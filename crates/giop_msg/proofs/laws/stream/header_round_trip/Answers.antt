use Rattle.giop_msg.proofs.HeaderLemmas.{HeaderRoundTrip-holds}
use Rattle.giop_msg.proofs.laws.stream.header_round_trip.Goals as goal

pub returns : goal.returns
returns c = HeaderRoundTrip-holds
