use Rattle.std.proofs.Common.{◌∙◌, sym}
use Rattle.giop_session.proofs.OnItems.ServerHeadline.{server_entries}
use Rattle.giop_session.proofs.laws.headline.same_calls_same_entries_at_server.Goals as goal

pub returns-clause-value : goal.returns-clause-value
returns-clause-value c = server_entries

pub returns-clause-same : goal.returns-clause-same
returns-clause-same c = λ interface limits limits' one other left left' k k' calls takes takes' holds holds' id.
    server_entries interface limits one left k calls takes holds id ∙ sym (server_entries interface limits' other left' k' calls takes' holds' id)
