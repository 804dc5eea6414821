use Rattle.std.proofs.Common.{None, Some, sym, ap, ◌∙◌, refl}
use Rattle.example_end.specs.declared.meter.Entry.TheVariants.{Cancelled}
use Rattle.example_end.proofs.EndLemmas.{held, tied_after, ignores_cancel}
use Rattle.example_end.proofs.end.End.cancel.Goals as goal

pub invariant_of-self : goal.invariant_of-self
invariant_of-self c =
    tied_after (held c.self.inside.mux c.self.inside.gather) _ _ c.args.id (Some Cancelled) None c.self.invariant
    (ap (λ m. m.entries) c.settle.ensures) (ap (λ g. g.lists) c.discard.ensures.ok) refl

pub returns-else-comes : goal.returns-else-comes
returns-else-comes c = ignores_cancel c.args.self.now c.args.id (sym c.comes.ensures ∙ c.if-comes.false)
