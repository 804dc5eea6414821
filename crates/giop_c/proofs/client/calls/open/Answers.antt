use Rattle.std.proofs.Common.{Some, inl, refl, ap, ◌∙◌}
use Rattle.giop_c.proofs.client.calls.open.Goals as goal

pub returns : goal.returns
returns c =
    let new = c.new.ensures in
    inl (
      refl,
      c.new.result,
      c.of.ensures ∙ ap Some c.in-Ok-new.ensures.ok,
      (new.interface ∙ c.in-Ok.ensures, new.state, new.limits),
    )
