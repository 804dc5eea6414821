use Rattle.std.proofs.Common.{◌∙◌, sym}
use Rattle.giop_session.proofs.OnItems.ClientHeadline.{client_entries}
use Rattle.giop_session.proofs.laws.headline.same_calls_same_entries_at_client.Goals as goal

pub returns-clause-value : goal.returns-clause-value
returns-clause-value c = λ interface limits inputs calls k (takes, holds). client_entries interface limits inputs takes.0 k calls takes.1 holds

pub returns-clause-same : goal.returns-clause-same
returns-clause-same c = λ interface limits limits' one other calls k k' (takes, holds) (takes', holds') id.
    client_entries interface limits one takes.0 k calls takes.1 holds id
    ∙ sym (client_entries interface limits' other takes'.0 k' calls takes'.1 holds' id)
