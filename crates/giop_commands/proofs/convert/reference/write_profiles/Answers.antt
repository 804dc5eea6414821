use Rattle.std.proofs.Common.{length, arith, ap, sym, ◌≡◌, ◌≤◌, ◌+◌, ◌++◌, ◌∷◌, [], ◌∙◌, take}
use Rattle.std.proofs.lemmas.List.{take_more, take_all}
use Rattle.giop_commands.proofs.ConvertLemmas.{profile_told}
use Rattle.giop_commands.proofs.DumpLemmas.{Appends-nil}
use Rattle.giop_commands.proofs.convert.reference.write_profiles.Goals as goal

pub loop-profile-init : goal.loop-profile-init
loop-profile-init g c = Appends-nil (g.W.Write.contents c.args.writer.now)

pub loop-profile-preserved : goal.loop-profile-preserved
loop-profile-preserved g c =
    let one : take (c.loop-profile.profile-index + 1) c.args.profiles.now ≡ take c.loop-profile.profile-index c.args.profiles.now ++ c.profile-item.result ∷ []
    = take_more c.args.profiles.now c.loop-profile.profile-index c.profile-item.result c.loop-profile-test.true
    ∙ ap (λ p. take c.loop-profile.profile-index c.args.profiles.now ++ p ∷ []) (sym c.profile-item.is) in
    profile_told _ _ _ (take c.loop-profile.profile-index c.args.profiles.now) _ c.profile-item.result one
    c.loop-profile.invariant c.in_ok-write_profile.ensures

pub returns : goal.returns
returns g c =
    let all : length c.args.profiles.now ≤ c.loop-profile.profile-index = omega arith in
    let whole : take c.loop-profile.profile-index c.args.profiles.now ≡ c.args.profiles.now = take_all c.loop-profile.profile-index c.args.profiles.now all in
    rw whole at c.loop-profile.invariant
