use Rattle.giop_session.proofs.OnItems.ClientHeadline.{client_stands}
use Rattle.giop_session.proofs.laws.standing.entries_stand_at_client.Goals as goal

pub returns : goal.returns
returns c = client_stands c.client_entry_stands.ensures.value
