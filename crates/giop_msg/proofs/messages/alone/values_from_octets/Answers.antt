use Rattle.giop_msg.proofs.WholeMessages.AloneLemmas.{decodes_found, decodes_only}
use Rattle.giop_msg.proofs.messages.alone.values_from_octets.Goals as goal

pub returns-clause-found : goal.returns-clause-found
returns-clause-found c = decodes_found c.args.parameters.now c.args.order c.args.octets.now c.read_alone.result c.read_alone.ensures

pub returns-clause-only : goal.returns-clause-only
returns-clause-only c = decodes_only c.args.parameters.now c.args.order c.args.octets.now c.read_alone.result c.read_alone.ensures
