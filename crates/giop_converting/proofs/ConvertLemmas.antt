-- What `convert` writes line by line, and how it tells a refusal.
use Rattle.std.proofs.Common.{◌≡◌, ◌⊎◌, inl, inr, ℕ, Bool, true, false, List, [], ◌∷◌, ◌++◌, append_assoc, refl, get_or, Option, Result, Ok, Err, IfOk, OnOk, sym, ap, subst, ◌∙◌}
use Rattle.std.proofs.lemmas.List.{append-nil}
use Rattle.std.proofs.lemmas.List.Folds.{list_all-append}
use Rattle.std.proofs.lemmas.Bool.{and_parts}
use Rattle.std.specs.Int.{w8}
use mir.Val.{Fits}
use Rattle.std.specs.Io.KnownBytes.{Appends}
use Rattle.giop_ior.specs.declared.references.tagged_profile.TaggedProfile.{TaggedProfile}
use Rattle.giop_ior.specs.Ior.{ior_layout}
use Rattle.giop_ior.proofs.IorTextLemmas.{iors_read}
use Rattle.giop_ior_text.specs.declared.ior_text_fault.IorTextFault.{IorTextFault}
use Rattle.giop_ior_text.specs.declared.ior_text_fault.IorTextFault.TheVariants.{NoMemory}
use Rattle.giop_ior_text.specs.IorText.{ior_text_of}
use Rattle.giop_show.specs.declared.failure.Failure.{Failure}
use Rattle.giop_show.specs.declared.status.Status.{Status}
use Rattle.giop_show.specs.declared.status.Status.TheVariants.{Refused}
use Rattle.giop_cdr.specs.declared.order.Order.{Order}
use Rattle.giop_cdr.specs.Reading.Cursor.{Cursor}
use Rattle.giop_cdr.specs.Reading.Exactness.{Took}
use Rattle.giop_json.specs.declared.form_fault.FormFault.{FormFault}
use Rattle.giop_json.specs.declared.form_fault.FormFault.TheVariants as form
use Rattle.giop_types.specs.Descriptions.Shape.{Shape}
use Rattle.giop_lines.specs.declared.refusal.RefusalLine.TheVariants as refusal
use Rattle.giop_types.specs.Coding.Spells.{Spells}
use Rattle.giop_json.specs.DescFromJson.{json_in, desc_told}
use Rattle.giop_types.specs.Values.Fits.{are_octets, fits, is_unsigned}
use Rattle.giop_types.specs.Values.Tree.{Tree}
use Rattle.giop_types.proofs.Coding.SpelledFits.{shape_fits}
use Rattle.giop_types.proofs.Values.FitLemmas.{all_octets}
use Rattle.giop_forms.specs.declared.way.Way.{Way}
use Rattle.giop_show.specs.FileText.{unended}
use Rattle.giop_converting.specs.Convert.{Tells, comma_in, profile_in, profiles_in, ConvertsIor, RefusedForm, ConvertsEncode, ConvertsValue, reader_of}
use Rattle.giop_show.specs.Refusals.{ior_refusal}
use Rattle.giop_forms.specs.declared.line_form.LineForm.{LineForm}
use Rattle.giop_show.specs.Forms.{ended, refused_in}
use Rattle.giop_show.proofs.AppendsLemmas.{Appends-append}

-- whether what comes behind some profiles comes first
abbrev pub leads : Bool → List TaggedProfile → Bool
leads first [] = first
leads first (p ∷ ps) = false

leads_false : (profiles : List TaggedProfile) → leads false profiles ≡ false
leads_false [] = refl
leads_false (p ∷ ps) = refl

pub leads_more : (first : Bool) (profiles : List TaggedProfile) (p : TaggedProfile) → leads first (profiles ++ p ∷ []) ≡ false
leads_more first [] p = refl
leads_more first (q ∷ qs) p = refl

-- what is told of some profiles and one more
pub profiles_more : (form : LineForm) (first : Bool) (profiles : List TaggedProfile) (p : TaggedProfile)
    → profiles_in form first (profiles ++ p ∷ []) ≡ profiles_in form first profiles ++ (comma_in form (leads first profiles) ++ profile_in form p)
profiles_more form first [] p = ap (λ u. comma_in form first ++ u) (append-nil (profile_in form p))
profiles_more form first (q ∷ qs) p =
    let behind = comma_in form (leads false qs) ++ profile_in form p in
    ap (λ u. comma_in form first ++ (profile_in form q ++ u))
    (profiles_more form false qs p ∙ ap (λ b. profiles_in form false qs ++ (comma_in form b ++ profile_in form p)) (leads_false qs))
    ∙ ap (λ u. comma_in form first ++ u) (sym (append_assoc (profile_in form q) (profiles_in form false qs) (comma_in form false ++ profile_in form p)))
    ∙ sym (append_assoc (comma_in form first) (profile_in form q ++ profiles_in form false qs) (comma_in form false ++ profile_in form p))

pub profile_told : (form : LineForm) (old middle comma new : Option (List ℕ)) (before after : List TaggedProfile) (p : TaggedProfile) (first : Bool)
    → after ≡ before ++ p ∷ [] → first ≡ leads true before
    → Appends old middle (profiles_in form true before) → Appends middle comma (comma_in form first) → Appends comma new (profile_in form p)
    → Appends old new (profiles_in form true after)
profile_told form old middle comma new before after p first is leading told between more =
    subst (Appends old new)
    (ap (λ b. profiles_in form true before ++ (comma_in form b ++ profile_in form p)) leading
    ∙ sym (ap (profiles_in form true) is ∙ profiles_more form true before p))
    (Appends-append old middle new (profiles_in form true before) (comma_in form first ++ profile_in form p) told
    (Appends-append middle comma new (comma_in form first) (profile_in form p) between more))

-- a text of a reference that is refused, as its fault
pub ior_told : (form : LineForm) (octets : List ℕ) (old new : Option (List ℕ)) (r : Result Status Failure) (e : IorTextFault) → IfOk r (λ s. s ≡ Refused)
    → OnOk r (Appends old new (ended (refused_in form (ior_refusal e))))
    → (ior_text_of ior_layout.read (unended octets) ≡ Err e) ⊎ (e ≡ NoMemory) → (e ≡ NoMemory → ⊥) → IfOk r (ConvertsIor form octets old new)
ior_told form octets old new (Ok status) e is told (inl why) some =
    subst (ConvertsIor form octets old new) (sym is) (e, iors_read.refused (unended octets) e why, told)
ior_told form octets old new (Ok status) e is told (inr wants) some = absurd (some wants)
ior_told form octets old new (Err failure) e is told why some = tt

-- a value in JSON that is refused, as its fault
pub form_told : (shape : Shape) (order : Order) (octets : List ℕ) (old new : Option (List ℕ)) (r : Result Status Failure) (e : FormFault)
    → IfOk r (λ s. s ≡ Refused)
    → OnOk r (Tells old new (refusal.Form e)) → RefusedForm shape (unended octets) e ⊎ (e ≡ form.NoMemory) → (e ≡ form.NoMemory → ⊥)
    → IfOk r (ConvertsEncode shape order octets old new)
form_told shape order octets old new (Ok status) e is told (inl why) some = subst (ConvertsEncode shape order octets old new) (sym is) (e, why, told)
form_told shape order octets old new (Ok status) e is told (inr wants) some = absurd (some wants)
form_told shape order octets old new (Err failure) e is told why some = tt

-- a text that is no description is refused, as its fault
pub description_told : (way : Way) (order : Order) (description octets : List ℕ) (old new : Option (List ℕ)) (r : Result Status Failure) (e : FormFault)
    → IfOk r (λ s. s ≡ Refused)
    → OnOk r (Tells old new (refusal.Form e)) → (desc_told (json_in description) ≡ Err e) ⊎ (e ≡ form.NoMemory) → (e ≡ form.NoMemory → ⊥)
    → IfOk r (ConvertsValue way order description octets old new)
description_told way order description octets old new (Ok status) e is told (inl why) some = inr (is, (e, why, told))
description_told way order description octets old new (Ok status) e is told (inr wants) some = absurd (some wants)
description_told way order description octets old new (Err failure) e is told why some = tt

-- a value that was read from octets fits, since they are numbers below 256
pub taken_fits : (shape : Shape) (order : Order) (octets : List ℕ) (tree : Tree) (after : Cursor) → ((i : ℕ) → Fits w8 (get_or octets i 0))
    → Took (Spells shape) (reader_of order octets) tree after → fits shape tree ≡ true
taken_fits shape order octets tree after small taken =
    let parts = and_parts (are_octets taken.octets) (are_octets after.rest)
    (sym (list_all-append (is_unsigned 8) taken.octets after.rest) ∙ ap are_octets (sym taken.front) ∙ all_octets octets small) in
    shape_fits shape order 0 tree taken.octets parts.0 taken.spells

-- one way of converting a value is converting it by a description
pub by_description : {P Q : Status → Type 0} (r : Result Status Failure) → IfOk r P → ((status : Status) → P status → Q status) → IfOk r Q
by_description (Ok status) is so = so status is
by_description (Err failure) is so = tt
