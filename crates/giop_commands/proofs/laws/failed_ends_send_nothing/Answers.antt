use Rattle.std.proofs.Common.{refl}
use Rattle.giop_commands.proofs.laws.failed_ends_send_nothing.Goals as goal

pub returns : goal.returns
returns c = λ s why id result t acts. acts.failed why refl
