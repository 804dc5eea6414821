use Rattle.std.proofs.Common.{rules, ◌≡◌, true, false, sym, ap, ◌∙◌}
use denote.Enum.Bare.{same_true, sameb}
use Rattle.giop_msg.specs.declared.fault.WireKind.TheVariants.{NoMemory}
use Rattle.giop_msg.specs.contracts.fault.WireKind.{the_type}
use Rattle.giop_msg.proofs.ReadPiecesLemmas.{refused_by_fault, refused_by_memory, stopped_by_fault}
use Rattle.giop_msg.proofs.stream.take_up_to_fault.Goals as goal

pub returns-in-Err-clause-err : goal.returns-in-Err-clause-err
returns-in-Err-clause-err c =
    refused_by_memory _ _ c.in-Err.ensures.err (same_true the_type (search rules) _ _ (sym c.eq.ensures ∙ c.if-eq.true))

pub returns-in-Err-2-clause-ok : goal.returns-in-Err-2-clause-ok
returns-in-Err-2-clause-ok c =
    stopped_by_fault _ _ (refused_by_fault _ _ c.in-Err.ensures.err (λ memory.
    let same : false ≡ true = sym c.if-eq.false ∙ c.eq.ensures ∙ ap (λ k. sameb the_type k NoMemory) memory in
    let no : ⊥ = cc in
    absurd no))
