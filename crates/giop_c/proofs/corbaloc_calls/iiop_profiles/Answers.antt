use Rattle.std.proofs.Common.{◌∙◌}
use Rattle.giop_c.proofs.CorbalocLemmas.{read_on}
use Rattle.giop_c.proofs.corbaloc_calls.iiop_profiles.Goals as goal

pub loop-profile-preserved : goal.loop-profile-preserved
loop-profile-preserved c =
    c.in_ok-append_iiop.ensures
    ∙ read_on c.args.profiles.now c.loop-profile.profile-index c.profile-item.result _ c.loop-profile-test.true c.profile-item.is
    c.loop-profile.invariant
