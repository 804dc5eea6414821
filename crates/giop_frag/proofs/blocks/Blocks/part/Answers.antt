use Rattle.std.proofs.Common.{rules, ap, ◌∙◌}
use Rattle.std.specs.List.{slice_range}
use Rattle.giop_frag.proofs.ChunkLemmas.{read_in, stands_in}
use Rattle.giop_frag.proofs.blocks.Blocks.part.Goals as goal

pub index-requires : goal.index-requires
index-requires c = let within = (stands_in _ _ _ _ c.self.invariant c.self.view_is c.requires.number).within in search rules

pub part-requires-clause-at : goal.part-requires-clause-at
part-requires-clause-at c =
    let stands = stands_in _ _ _ _ c.self.invariant c.self.view_is c.requires.number in
    (read_in _ _ _ _ stands c.self.view_is c.index.ensures).0

pub returns : goal.returns
returns c =
    let stands = stands_in _ _ _ _ c.self.invariant c.self.view_is c.requires.number in
    c.part.ensures ∙ ap (λ b. slice_range b c.args.from c.args.to) (read_in _ _ _ _ stands c.self.view_is c.index.ensures).1
