use Rattle.std.proofs.Common.{length-append, arith}
use Rattle.giop_msg.specs.Header.{header_octets}
use Rattle.giop_msg.proofs.HeaderLemmas.{length-header_octets}
use Rattle.giop_msg.proofs.framer.begun.Begun.len.Goals as goal

pub returns-clause-value : goal.returns-clause-value
returns-clause-value c =
    omega (arith, length-append (header_octets c.args.self.now.header) c.args.self.now.payload.items, length-header_octets c.args.self.now.header)

pub returns-clause-bound : goal.returns-clause-bound
returns-clause-bound c = omega arith
