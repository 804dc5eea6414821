-- The first profile of IIOP.
use Rattle.std.proofs.Common.{◌≡◌, ℕ, ◌+◌, ◌<◌, ◌≤◌, List, drop, get_or, length, Some, None, sym, ap, ◌∙◌}
use Rattle.std.proofs.Math.ListN.{drop_of_length-le}
use Rattle.std.specs.Option.{option_or}
use Rattle.giop_ior.specs.declared.references.tagged_profile.TaggedProfile.{TaggedProfile}
use Rattle.giop_ior.specs.Iiop.{Profile}
use Rattle.giop_types.proofs.Coding.MemberLoops.{left_is}
use Rattle.giop_commands.specs.Session.Target.{first_iiop, iiop_in}

first_left : (ps : List TaggedProfile) (i : ℕ) (p : TaggedProfile) → i < length ps → p ≡ get_or ps i p
    → first_iiop (drop i ps) ≡ option_or (iiop_in p) (first_iiop (drop (i + 1) ps))
first_left ps i p within is = ap first_iiop (left_is ps i p within is)

pub first_passed : (ps : List TaggedProfile) (i : ℕ) (p : TaggedProfile) → i < length ps → p ≡ get_or ps i p → None ≡ iiop_in p
    → first_iiop (drop i ps) ≡ first_iiop ps → first_iiop (drop (i + 1) ps) ≡ first_iiop ps
first_passed ps i p within is none before =
    sym (first_left ps i p within is ∙ ap (λ o. option_or o (first_iiop (drop (i + 1) ps))) (sym none)) ∙ before

pub first_found : (ps : List TaggedProfile) (i : ℕ) (p : TaggedProfile) (profile : Profile) → i < length ps → p ≡ get_or ps i p → Some profile ≡ iiop_in p
    → first_iiop (drop i ps) ≡ first_iiop ps → Some profile ≡ first_iiop ps
first_found ps i p profile within is found before =
    sym (first_left ps i p within is ∙ ap (λ o. option_or o (first_iiop (drop (i + 1) ps))) (sym found)) ∙ before

pub first_absent : (ps : List TaggedProfile) (i : ℕ) → length ps ≤ i → first_iiop (drop i ps) ≡ first_iiop ps → None ≡ first_iiop ps
first_absent ps i all before = sym (ap first_iiop (drop_of_length-le ps all)) ∙ before
