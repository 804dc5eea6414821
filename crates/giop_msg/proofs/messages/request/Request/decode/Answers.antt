use Rattle.giop_msg.proofs.WholeMessages.RequestLemmas.{decodes_found, decodes_only}
use Rattle.giop_msg.proofs.messages.request.Request.decode.Goals as goal

pub returns-clause-found : goal.returns-clause-found
returns-clause-found g c =
    decodes_found c.args.interface.now c.args.version c.args.order (g.S.Octets.octets c.args.octets.now) c.decode_request.result c.decode_request.ensures

pub returns-clause-only : goal.returns-clause-only
returns-clause-only g c =
    decodes_only c.args.interface.now c.args.version c.args.order (g.S.Octets.octets c.args.octets.now) c.decode_request.result c.decode_request.ensures
