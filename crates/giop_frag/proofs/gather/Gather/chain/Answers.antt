use Rattle.std.proofs.Common.{ap, arith}
use Rattle.giop_frag.proofs.TableLemmas.{found_within, octets_within}
use Rattle.giop_frag.proofs.gather.Gather.chain.Goals as goal

pub returns-clause-within : goal.returns-clause-within
returns-clause-within c =
    let among = octets_within _ _ c.args.id _ _ c.self.invariant in
    let most = among.1 in
    let limit = ap (λ g. g.limit) c.self.view_is in
    found_within c.args.self.now.limit _ _ (omega arith) c.chain_of.ensures

pub returns-clause-most : goal.returns-clause-most
returns-clause-most c =
    let among = octets_within _ _ c.args.id _ _ c.self.invariant in
    let most = among.1 in
    let small = c.self.invariant.small in
    found_within 4611686018427387904 _ _ (omega arith) c.chain_of.ensures
