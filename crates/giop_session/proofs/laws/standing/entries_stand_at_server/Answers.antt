use Rattle.giop_session.proofs.OnItems.ServerHeadline.{server_stands}
use Rattle.giop_session.proofs.laws.standing.entries_stand_at_server.Goals as goal

pub returns : goal.returns
returns c = server_stands c.server_entry_stands.ensures.value
