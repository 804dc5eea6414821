use Rattle.std.proofs.Common.{◌≡◌, option_copied, take}
use Rattle.giop_commands.specs.Call.Following.{latest}
use Rattle.giop_commands.proofs.call.following.latest.Given as goal

abbrev pub invariant-ends : goal.invariant-ends
invariant-ends l = option_copied l.found ≡ latest (take l.end-index l.ends) l.id
