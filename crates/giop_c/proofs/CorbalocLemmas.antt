-- The profiles of IIOP that a loop has read so far.
use Rattle.std.proofs.Common.{◌≡◌, ◌++◌, ◌∷◌, [], ◌+◌, ◌<◌, ◌∙◌, ℕ, List, ap, get_or, length, sym, take}
use Rattle.std.specs.List.{filter_map}
use Rattle.std.proofs.lemmas.List.{take_more}
use Rattle.std.proofs.lemmas.List.Elements.{filter_map-append}
use Rattle.giop_ior.specs.declared.references.tagged_profile.TaggedProfile.{TaggedProfile}
use Rattle.giop_ior.specs.Iiop.{Profile}
use Rattle.giop_c.specs.Corbalocs.{iiop_in}

pub read_on : (ps : List TaggedProfile) (i : ℕ) (p : TaggedProfile) (read : List Profile) → i < length ps → p ≡ get_or ps i p
    → read ≡ filter_map iiop_in (take i ps) → read ++ filter_map iiop_in (p ∷ []) ≡ filter_map iiop_in (take (i + 1) ps)
read_on ps i p read within is so_far =
    let one : take (i + 1) ps ≡ take i ps ++ p ∷ [] = take_more ps i p within ∙ ap (λ q. take i ps ++ q ∷ []) (sym is) in
    ap (λ before. before ++ filter_map iiop_in (p ∷ [])) so_far
    ∙ sym (ap (filter_map iiop_in) one ∙ filter_map-append iiop_in (take i ps) (p ∷ []))
