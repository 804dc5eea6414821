use Rattle.std.proofs.Common.{sym, ◌∙◌}
use Rattle.giop_commands.proofs.OnSession.FormLemmas.{ulong_sound}
use Rattle.giop_commands.proofs.session.json.ulong_of.Goals as goal

pub returns-in_default : goal.returns-in_default
returns-in_default c = let fault = sym ulong_sound ∙ c.in_default.ensures.err in absurd (cc fault)
