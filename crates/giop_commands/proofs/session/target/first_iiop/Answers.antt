use Rattle.std.proofs.Common.{◌≤◌, length, arith}
use Rattle.giop_commands.proofs.OnSession.TargetLemmas.{first_passed, first_found, first_absent}
use Rattle.giop_commands.proofs.session.target.first_iiop.Goals as goal

pub loop-profile-preserved : goal.loop-profile-preserved
loop-profile-preserved c =
    first_passed c.args.profiles.now c.loop-profile.profile-index c.profile-item.result c.loop-profile-test.true c.profile-item.is
    (rw c.in_default.is at c.in_ok-iiop.ensures.ok) c.loop-profile.invariant

pub returns-in-Some-clause-ok : goal.returns-in-Some-clause-ok
returns-in-Some-clause-ok c =
    first_found c.args.profiles.now c.loop-profile.profile-index c.profile-item.result c.in-Some.iiop c.loop-profile-test.true c.profile-item.is
    (rw c.in-Some.is at c.in_ok-iiop.ensures.ok) c.loop-profile.invariant

pub returns-clause-ok : goal.returns-clause-ok
returns-clause-ok c =
    let all : length c.args.profiles.now ≤ c.loop-profile.profile-index = omega arith in
    first_absent c.args.profiles.now c.loop-profile.profile-index all c.loop-profile.invariant
