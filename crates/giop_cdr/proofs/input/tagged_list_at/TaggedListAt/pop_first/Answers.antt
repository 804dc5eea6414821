use Rattle.std.proofs.Common.{◌≡◌, ◌∙◌, sym, arith, [], ℕ, ap}
use Rattle.giop_cdr.specs.Reading.View.{tagged_at, lying}
use Rattle.giop_cdr.proofs.Reading.ViewLemmas.{walks, walks_not, none_lie}
use Rattle.giop_cdr.proofs.input.tagged_list_at.TaggedListAt.pop_first.Goals as goal

pub returns-then-self-eq0-clause-none : goal.returns-then-self-eq0-clause-none
returns-then-self-eq0-clause-none g c =
    let none : lying g.I.Tagged.made c.self.inside.count c.self.inside.items ≡ []
    = ap (λ (n : ℕ). lying g.I.Tagged.made n c.self.inside.items) c.if-self-eq0.true ∙ none_lie (tagged_at g.I.Tagged.made) c.self.inside.items in
    (sym c.self.view_is ∙ none, sym c.self.view_is ∙ none)

pub returns-in_default-clause-none : goal.returns-in_default-clause-none
returns-in_default-clause-none g c =
    absurd (walks_not (tagged_at g.I.Tagged.made) c.self.inside.count c.self.inside.items c.in_default.field-0
    (omega arith) c.self.invariant c.in_default.ensures.0)

pub invariant_of-self-2 : goal.invariant_of-self-2
invariant_of-self-2 g c =
    (walks (tagged_at g.I.Tagged.made) c.self.inside.count c.self.inside.items _ c.view_tagged.new.input (omega arith) c.self.invariant c.in-Ok.ensures).rest

pub returns-clause-first : goal.returns-clause-first
returns-clause-first g c =
    rw (← c.self.view_is)
    ((walks (tagged_at g.I.Tagged.made) c.self.inside.count c.self.inside.items _ c.view_tagged.new.input
    (omega arith) c.self.invariant c.in-Ok.ensures).values)
