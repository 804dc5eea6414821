use Rattle.std.proofs.Common.{length, arith, ap, sym, refl, ◌≡◌, ◌≤◌, ◌+◌, ◌++◌, ◌∷◌, [], ◌∙◌, take, true}
use Rattle.std.proofs.lemmas.List.{take_more, take_all}
use Rattle.giop_converting.proofs.ConvertLemmas.{leads, leads_more, profile_told}
use Rattle.giop_show.proofs.AppendsLemmas.{Appends-nil}
use Rattle.giop_converting.proofs.convert.reference.write_profiles.Goals as goal

pub loop-profile-init : goal.loop-profile-init
loop-profile-init g c = record { told = Appends-nil (g.W.Write.contents c.args.writer.now); first = refl }

pub loop-profile-preserved : goal.loop-profile-preserved
loop-profile-preserved g c =
    let before = take c.loop-profile.profile-index c.args.profiles.now in
    let one : take (c.loop-profile.profile-index + 1) c.args.profiles.now ≡ before ++ c.profile-item.result ∷ []
    = take_more c.args.profiles.now c.loop-profile.profile-index c.profile-item.result c.loop-profile-test.true
    ∙ ap (λ p. before ++ p ∷ []) (sym c.profile-item.is) in
    record {
      told =
          profile_told c.args.form _ _ _ _ before _ c.profile-item.result _ one c.loop-profile.invariant.first
          c.loop-profile.invariant.told c.in_ok-write_comma.ensures c.in_ok-write_profile.ensures;
      first = sym (ap (leads true) one ∙ leads_more true before c.profile-item.result);
    }

pub returns : goal.returns
returns g c =
    let all : length c.args.profiles.now ≤ c.loop-profile.profile-index = omega arith in
    let whole : take c.loop-profile.profile-index c.args.profiles.now ≡ c.args.profiles.now = take_all c.loop-profile.profile-index c.args.profiles.now all in
    rw whole at c.loop-profile.invariant.told
