use Rattle.std.proofs.Common.{◌≡◌, option_copied, take}
use Rattle.giop_calling.specs.Call.Following.{latest}
use Rattle.giop_calling.proofs.call.following.latest.Given as goal

abbrev pub invariant-ends : goal.invariant-ends
invariant-ends l = option_copied l.found ≡ latest (take l.end-index l.ends) l.id
