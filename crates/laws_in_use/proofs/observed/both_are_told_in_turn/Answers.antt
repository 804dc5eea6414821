use Rattle.std.proofs.Common.{◌∙◌, None, false, ap}
use Rattle.std.specs.FinMap as finite
use Rattle.giop_trace.specs.Observing.{left_alone, own}
use Rattle.giop_tracing.specs.Trace.Text.{Turn}
use Rattle.laws_in_use.specs.Observed.{answered, asked, in_turn}
use Rattle.laws_in_use.proofs.ObservedOwn.{own_in_turn}
use Rattle.laws_in_use.proofs.ObservedTurns.{told_in_turn}
use Rattle.laws_in_use.proofs.observed.both_are_told_in_turn.Goals as goal

pub returns-clause-order : goal.returns-clause-order
returns-clause-order c = λ flows seven nine. told_in_turn (c.each_call_alone.ensures false) flows seven nine

pub returns-clause-only : goal.returns-clause-only
returns-clause-only c = λ flows seven nine.
    let order = c.one_order.ensures.there flows asked answered in (
      order.0,
      order.1,
      c.one_order.ensures.only flows asked answered order.0 in_turn order.1 (told_in_turn (c.each_call_alone.ensures false) flows seven nine),
    )

pub returns-clause-lines : goal.returns-clause-lines
returns-clause-lines c = λ form interface flows seven nine.
    ap (λ (t : Turn). t.lines)
    (c.one_order.ensures.told form interface flows asked answered in_turn (told_in_turn (c.each_call_alone.ensures false) flows seven nine))

pub returns-clause-over : goal.returns-clause-over
returns-clause-over c = λ form interface flows seven nine.
    ap (λ (t : Turn). finite.get t.flows 7)
    (c.one_order.ensures.told form interface flows asked answered in_turn (told_in_turn (c.each_call_alone.ensures false) flows seven nine))
    ∙ c.each_call_alone.ensures false flows in_turn 7
    ∙ ap (λ flow. left_alone false flow (own 7 in_turn)) seven
    ∙ ap (left_alone false None) own_in_turn
