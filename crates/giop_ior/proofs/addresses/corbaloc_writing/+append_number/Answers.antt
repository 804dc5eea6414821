use Rattle.std.proofs.Common.{arith}
use Rattle.giop_ior.proofs.WritingLemmas.{number_on}
use Rattle.giop_ior.proofs.addresses.corbaloc_writing.+append_number.Goals as goal

pub returns : goal.returns
returns t c =
    number_on c.args.text.now.items c.append_number.new.text.items c.append-2.new.text.items c.args.number c.if-number-lt10.false (omega arith)
    c.in_ok-append_number.ensures c.in_ok-append-2.ensures
