use Rattle.std.proofs.Common.{rules, ◌+◌, ◌++◌, length, take, drop}
use Rattle.giop_frag.proofs.ChunkLemmas.{read_in, stands_in, written_in}
use Rattle.giop_frag.proofs.blocks.Blocks.write.Goals as goal

pub index_mut-requires : goal.index_mut-requires
index_mut-requires c = let within = (stands_in _ _ _ _ c.self.invariant c.self.view_is c.requires.number).within in search rules

pub write-requires-clause-at : goal.write-requires-clause-at
write-requires-clause-at c =
    let stands = stands_in _ _ _ _ c.self.invariant c.self.view_is c.requires.number in
    (read_in _ _ _ _ stands c.self.view_is c.index_mut.ensures.value).0

pub returns : goal.returns
returns c =
    let stands = stands_in _ _ _ _ c.self.invariant c.self.view_is c.requires.number in
    written_in _ _ _ _ _ (λ b. take c.args.from b ++ c.args.octets.now ++ drop (c.args.from + length c.args.octets.now) b)
    stands c.self.view_is c.index_mut.ensures.value c.write.ensures
