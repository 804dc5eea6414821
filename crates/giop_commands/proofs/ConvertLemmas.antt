-- What `convert` writes line by line, and how it tells a refusal.
use Rattle.std.proofs.Common.{◌≡◌, ◌⊎◌, inl, inr, ℕ, true, List, [], ◌∷◌, ◌++◌, get_or, Option, Result, Ok, Err, IfOk, OnOk, sym, ap, subst, ◌∙◌}
use Rattle.std.proofs.lemmas.Grind.{flat_map-append}
use Rattle.std.proofs.lemmas.List.{append-nil}
use Rattle.std.proofs.lemmas.List.Folds.{list_all-append}
use Rattle.std.proofs.lemmas.Bool.{and_parts}
use Rattle.std.specs.Int.{w8}
use mir.Val.{Fits}
use Rattle.std.specs.Io.KnownBytes.{Appends}
use Rattle.giop_ior.specs.declared.references.tagged_profile.TaggedProfile.{TaggedProfile}
use Rattle.giop_ior.specs.Ior.{ior_layout}
use Rattle.giop_ior.proofs.IorTextLemmas.{iors_read}
use Rattle.giop_types.specs.declared.ior_text_fault.IorTextFault.{IorTextFault}
use Rattle.giop_types.specs.declared.ior_text_fault.IorTextFault.TheVariants.{NoMemory}
use Rattle.giop_types.specs.IorText.{ior_text_of}
use Rattle.giop_commands.specs.declared.failure.Failure.{Failure}
use Rattle.giop_commands.specs.declared.status.Status.{Status}
use Rattle.giop_commands.specs.declared.status.Status.TheVariants.{Refused}
use Rattle.giop_cdr.specs.declared.order.Order.{Order}
use Rattle.giop_cdr.specs.Reading.Cursor.{Cursor}
use Rattle.giop_cdr.specs.Reading.Exactness.{Took}
use Rattle.giop_types.specs.declared.json.form_fault.FormFault.{FormFault}
use Rattle.giop_types.specs.declared.json.form_fault.FormFault.TheVariants as form
use Rattle.giop_types.specs.Descriptions.Shape.{Shape}
use Rattle.giop_lines.specs.declared.refusal.RefusalLine.TheVariants as refusal
use Rattle.giop_types.specs.Coding.Spells.{Spells}
use Rattle.giop_types.specs.JsonForms.DescFromJson.{json_in, desc_told}
use Rattle.giop_types.specs.Values.Fits.{are_octets, fits, is_unsigned}
use Rattle.giop_types.specs.Values.Tree.{Tree}
use Rattle.giop_types.proofs.Coding.SpelledFits.{shape_fits}
use Rattle.giop_types.proofs.Values.FitLemmas.{all_octets}
use Rattle.giop_commands.specs.declared.convert.described.Way.{Way}
use Rattle.giop_commands.specs.Convert.{unended, Tells, line_of_profile, profile_lines, ior_refusal, ConvertsIor, RefusedForm, ConvertsEncode, ConvertsValue, reader_of}
use Rattle.giop_commands.specs.Dump.{ended}
use Rattle.giop_commands.proofs.DumpLemmas.{Appends-append}

-- the lines of some profiles and one more
pub lines_more : (profiles : List TaggedProfile) (p : TaggedProfile) → profile_lines (profiles ++ p ∷ []) ≡ profile_lines profiles ++ ended (line_of_profile p)
lines_more profiles p =
    flat_map-append (λ p. ended (line_of_profile p)) profiles (p ∷ []) ∙ ap (λ u. profile_lines profiles ++ u) (append-nil (ended (line_of_profile p)))

pub profile_told : (old middle new : Option (List ℕ)) (before after : List TaggedProfile) (p : TaggedProfile) → after ≡ before ++ p ∷ []
    → Appends old middle (profile_lines before) → Appends middle new (ended (line_of_profile p)) → Appends old new (profile_lines after)
profile_told old middle new before after p is told more =
    subst (Appends old new) (sym (ap profile_lines is ∙ lines_more before p))
    (Appends-append old middle new (profile_lines before) (ended (line_of_profile p)) told more)

-- a text of a reference that is refused, as its fault
pub ior_told : (octets : List ℕ) (old new : Option (List ℕ)) (r : Result Status Failure) (e : IorTextFault) → IfOk r (λ s. s ≡ Refused)
    → OnOk r (Tells old new (ior_refusal e))
    → (ior_text_of ior_layout.read (unended octets) ≡ Err e) ⊎ (e ≡ NoMemory) → (e ≡ NoMemory → ⊥) → IfOk r (ConvertsIor octets old new)
ior_told octets old new (Ok status) e is told (inl why) some =
    subst (ConvertsIor octets old new) (sym is) (e, iors_read.refused (unended octets) e why, told)
ior_told octets old new (Ok status) e is told (inr wants) some = absurd (some wants)
ior_told octets old new (Err failure) e is told why some = tt

-- a value in JSON that is refused, as its fault
pub form_told : (shape : Shape) (order : Order) (octets : List ℕ) (old new : Option (List ℕ)) (r : Result Status Failure) (e : FormFault)
    → IfOk r (λ s. s ≡ Refused)
    → OnOk r (Tells old new (refusal.Form e)) → RefusedForm shape (unended octets) e ⊎ (e ≡ form.NoMemory) → (e ≡ form.NoMemory → ⊥)
    → IfOk r (ConvertsEncode shape order octets old new)
form_told shape order octets old new (Ok status) e is told (inl why) some = subst (ConvertsEncode shape order octets old new) (sym is) (e, why, told)
form_told shape order octets old new (Ok status) e is told (inr wants) some = absurd (some wants)
form_told shape order octets old new (Err failure) e is told why some = tt

-- a text that is no description is refused, as its fault
pub description_told : (way : Way) (order : Order) (description octets : List ℕ) (old new : Option (List ℕ)) (r : Result Status Failure) (e : FormFault)
    → IfOk r (λ s. s ≡ Refused)
    → OnOk r (Tells old new (refusal.Form e)) → (desc_told (json_in description) ≡ Err e) ⊎ (e ≡ form.NoMemory) → (e ≡ form.NoMemory → ⊥)
    → IfOk r (ConvertsValue way order description octets old new)
description_told way order description octets old new (Ok status) e is told (inl why) some = inr (is, (e, why, told))
description_told way order description octets old new (Ok status) e is told (inr wants) some = absurd (some wants)
description_told way order description octets old new (Err failure) e is told why some = tt

-- a value that was read from octets fits, since they are numbers below 256
pub taken_fits : (shape : Shape) (order : Order) (octets : List ℕ) (tree : Tree) (after : Cursor) → ((i : ℕ) → Fits w8 (get_or octets i 0))
    → Took (Spells shape) (reader_of order octets) tree after → fits shape tree ≡ true
taken_fits shape order octets tree after small taken =
    let parts = and_parts (are_octets taken.octets) (are_octets after.rest)
    (sym (list_all-append (is_unsigned 8) taken.octets after.rest) ∙ ap are_octets (sym taken.front) ∙ all_octets octets small) in
    shape_fits shape order 0 tree taken.octets parts.0 taken.spells

-- one way of converting a value is converting it by a description
pub by_description : {P Q : Status → Type 0} (r : Result Status Failure) → IfOk r P → ((status : Status) → P status → Q status) → IfOk r Q
by_description (Ok status) is so = so status is
by_description (Err failure) is so = tt
