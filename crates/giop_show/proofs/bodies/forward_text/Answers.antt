use Rattle.std.proofs.Common.{sym, subst, ◌∙◌}
use Rattle.std.specs.Str.{IsAscii}
use Rattle.giop_show.proofs.BodiesLemmas.{IsAscii-prefixed}
use Rattle.giop_show.proofs.bodies.forward_text.Goals as goal

pub ascii_str-requires : goal.ascii_str-requires
ascii_str-requires c = subst IsAscii (sym (c.as_slice.ensures.value ∙ c.in-Ok.ensures.value)) (IsAscii-prefixed _)
