-- The whole text of `convert`, and what a run of it does: by the status that it answers, what its
-- input was and how the writer's contents grew.
use Rattle.std.specs.Prelude.{◌≡◌, ◌≢◌, ◌⊎◌, ℕ, ◌==◌, ◌&&◌, Bool, true, false, if◌then◌else◌, List, [], ◌∷◌, ◌++◌, codes, Option, Some, None, Result, Ok, Err}
use Rattle.std.specs.Io.KnownBytes.{Appends}
use Rattle.hex.specs.declared.error.FromHexError.{FromHexError}
use Rattle.hex.specs.Hex.{decode_of, encode_lower}
use Rattle.serde_json.specs.Data.{Data}
use Rattle.serde_json.specs.Written.{compact_text}
use Rattle.giop_cdr.specs.declared.encode_fault.EncodeFault.TheVariants.{Unfit}
use Rattle.giop_cdr.specs.declared.fault.CdrFault.{CdrFault}
use Rattle.giop_cdr.specs.declared.fault.CdrKind.TheVariants.{Trailing}
use Rattle.giop_cdr.specs.declared.order.Order.{Order}
use Rattle.giop_cdr.specs.Reading.Cursor.{Cursor}
use Rattle.giop_cdr.specs.Writing.Output.{Output}
use Rattle.giop_cdr.specs.Reading.Values.{fault}
use Rattle.giop_ior.specs.declared.addresses.corbaloc.Corbaloc.{Corbaloc}
use Rattle.giop_ior.specs.declared.addresses.corbaloc_fault.CorbalocFault.{CorbalocFault}
use Rattle.giop_ior.specs.declared.references.tagged_profile.TaggedProfile.{TaggedProfile}
use Rattle.giop_ior.specs.Corbaloc.{CorbalocText}
use Rattle.giop_ior.specs.CorbalocReading.{corbaloc_of}
use Rattle.giop_ior.specs.CorbalocWriting.{corbaloc_text}
use Rattle.giop_ior.specs.Iiop.{Profile, iiop_of}
use Rattle.giop_ior.specs.Ior.{Reference, ior_layout}
use Rattle.giop_ior.specs.ToIor.{ior_of, are_profiles}
use Rattle.giop_json.specs.DescFromJson.{json_in, desc_told}
use Rattle.giop_json.specs.declared.form_fault.FormFault.{FormFault}
use Rattle.giop_json.specs.declared.form_fault.FormFault.TheVariants.{BadJson}
use Rattle.giop_ior_text.specs.declared.ior_text_fault.IorTextFault.{IorTextFault}
use Rattle.giop_types.specs.Coding.Decoding.{decode_at}
use Rattle.giop_json.specs.FromJson.{from_data}
use Rattle.giop_ior_text.specs.IorText.{IorText, RefusedText}
use Rattle.giop_types.specs.Descriptions.Shape.{Shape}
use Rattle.giop_json.specs.declared.number_form.NumberForm.{NumberForm}
use Rattle.giop_json.specs.ToJson.{to_data}
use Rattle.giop_types.specs.Values.Tree.{Tree}
use Rattle.giop_types.specs.Coding.Written.{value_out}
use Rattle.giop_lines.specs.declared.refusal.RefusalLine.{RefusalLine}
use Rattle.giop_lines.specs.declared.refusal.RefusalLine.TheVariants as refusal
use Rattle.giop_forms.specs.declared.way.Way.{Way}
use Rattle.giop_forms.specs.declared.way.Way.TheVariants.{Encode, Decode}
use Rattle.giop_show.specs.declared.status.Status.{Status}
use Rattle.giop_show.specs.declared.status.Status.TheVariants.{Done, Refused}
use Rattle.giop_lines.specs.ConvertJson.{corbaloc_json, iiop_json, ior_json, profile_json, type_json}
use Rattle.giop_lines.specs.ConvertLines.{refusal_line, type_line, iiop_line, profile_line}
use Rattle.giop_forms.specs.declared.line_form.LineForm.{LineForm}
use Rattle.giop_forms.specs.declared.line_form.LineForm.TheVariants.{Text, Json}
use Rattle.giop_show.specs.Bodies.{reference_text}
use Rattle.giop_show.specs.FileText.{unended}
use Rattle.giop_show.specs.Forms.{ended, line_in, part_in, refused_in}
use Rattle.giop_show.specs.Refusals.{ior_refusal}

-- the contents grew by the line of a refusal
abbrev pub Tells : Option (List ℕ) → Option (List ℕ) → RefusalLine → Type 0
Tells old new line = Appends old new (ended (refusal_line line))

-- ---- references

-- a profile: as IIOP where it is of tag 0 and has a view
abbrev pub viewed_in : LineForm → TaggedProfile → Result Profile CdrFault → List ℕ
viewed_in form p (Ok view) = part_in form (iiop_line view) (iiop_json view)
viewed_in form p (Err e) = part_in form (profile_line p) (profile_json p)

-- a profile by its tag
abbrev pub profile_in : LineForm → TaggedProfile → List ℕ
profile_in form p =
    if p.tag == 0 then viewed_in form p (iiop_of p.octets)
    else part_in form (profile_line p) (profile_json p)

-- what stands before an item of a list in JSON, but before the first
abbrev pub comma_in : LineForm → Bool → List ℕ
comma_in (Text numbers) first = []
comma_in (Json numbers) first = if first then [] else codes ","

-- each profile, of which the first is the first of all or not
abbrev pub profiles_in : LineForm → Bool → List TaggedProfile → List ℕ
profiles_in form first [] = []
profiles_in form first (p ∷ ps) =
    comma_in form first ++ (profile_in form p ++ profiles_in form false ps)

-- the type id, the profiles, and the text
abbrev pub reference_in : LineForm → Reference → List ℕ
reference_in form ior =
    part_in form (type_line ior.type_id) (type_json ior.type_id)
    ++ (profiles_in form true ior.profiles
    ++ ended (line_in form (reference_text ior) (ior_json (reference_text ior))))

-- `convert ior` of a file's octets, in a form
abbrev pub ConvertsIor : LineForm → List ℕ → Option (List ℕ) → Option (List ℕ) → Status → Type 0
ConvertsIor form octets old new Done =
    (ior : Reference) × IorText ior_layout.spells ior (unended octets)
    × Appends old new (reference_in form ior)
ConvertsIor form octets old new Refused =
    (e : IorTextFault) × RefusedText ior_layout.refused (unended octets) e
    × Appends old new (ended (refused_in form (ior_refusal e)))
ConvertsIor form octets old new _ = ⊥

-- the text of the reference of a corbaloc, where octets spell it
abbrev pub text_of_corbaloc : Corbaloc → Option (List ℕ)
text_of_corbaloc c =
    if are_profiles c && ior_layout.fits (ior_of c) then Some (reference_text (ior_of c)) else None

-- the corbaloc again, and its reference
abbrev pub corbaloc_in : LineForm → Corbaloc → List ℕ → List ℕ
corbaloc_in (Text numbers) c text = ended (corbaloc_text c) ++ ended text
corbaloc_in (Json numbers) c text = ended (corbaloc_json (corbaloc_text c) text)

-- `convert corbaloc` of a file's octets, in a form
abbrev pub ConvertsCorbaloc : LineForm → List ℕ → Option (List ℕ) → Option (List ℕ) → Status → Type 0
ConvertsCorbaloc form octets old new Done =
    (c : Corbaloc) × (text : List ℕ) × CorbalocText c (unended octets)
    × (text_of_corbaloc c ≡ Some text) × Appends old new (corbaloc_in form c text)
ConvertsCorbaloc form octets old new Refused =
    ((e : CorbalocFault) × (corbaloc_of (unended octets) ≡ Err e)
    × Appends old new (ended (refused_in form (refusal.Corbaloc e))))
    ⊎ ((c : Corbaloc) × CorbalocText c (unended octets)
    × (text_of_corbaloc c ≡ None)
    × Appends old new (ended (refused_in form (refusal.Reference Unfit))))
ConvertsCorbaloc form octets old new _ = ⊥

-- ---- values

-- where the writing of a value begins
abbrev pub blank : Order → Output
blank order = record { order = order; at = 0; octets = [] }

-- what is written of a value from offset 0 on
abbrev pub value_octets : Shape → Order → Tree → List ℕ
value_octets shape order tree = (value_out shape tree (blank order)).octets

-- a text is no JSON, or a JSON value of which the description has no value
abbrev pub RefusedForm : Shape → List ℕ → FormFault → Type 0
RefusedForm shape text e =
    ((e ≡ BadJson) × (json_in text ≡ None))
    ⊎ ((d : Data) × (json_in text ≡ Some d) × (from_data shape d ≡ Err e))

-- `convert encode` of a file's octets
abbrev pub ConvertsEncode : Shape → Order → List ℕ → Option (List ℕ) → Option (List ℕ) → Status
    → Type 0
ConvertsEncode shape order octets old new Done =
    (d : Data) × (tree : Tree) × (json_in (unended octets) ≡ Some d) × (from_data shape d ≡ Ok tree)
    × Appends old new (ended (encode_lower (value_octets shape order tree)))
ConvertsEncode shape order octets old new Refused =
    (e : FormFault) × RefusedForm shape (unended octets) e × Tells old new (refusal.Form e)
ConvertsEncode shape order octets old new _ = ⊥

-- the reader of a value's octets
abbrev pub reader_of : Order → List ℕ → Cursor
reader_of order octets = record { order = order; at = 0; rest = octets }

-- why octets are no value: they are refused, or some are left behind one
abbrev pub RefusedOctets : Shape → Order → List ℕ → CdrFault → Type 0
RefusedOctets shape order octets e =
    (decode_at shape (reader_of order octets) ≡ Err e)
    ⊎ ((tree : Tree) × (after : Cursor)
    × (decode_at shape (reader_of order octets) ≡ Ok (tree, after))
    × (after.rest ≢ []) × (e ≡ fault after.at Trailing))

-- `convert decode` of a file's octets
abbrev pub ConvertsDecode : NumberForm → Shape → Order → List ℕ → Option (List ℕ) → Option (List ℕ) → Status
    → Type 0
ConvertsDecode numbers shape order octets old new Done =
    (said : List ℕ) × (tree : Tree) × (after : Cursor) × (decode_of (unended octets) ≡ Ok said)
    × (decode_at shape (reader_of order said) ≡ Ok (tree, after)) × (after.rest ≡ [])
    × Appends old new (ended (compact_text (to_data numbers shape tree)))
ConvertsDecode numbers shape order octets old new Refused =
    ((e : FromHexError) × (decode_of (unended octets) ≡ Err e) × Tells old new refusal.BadHex)
    ⊎ ((said : List ℕ) × (e : CdrFault) × (decode_of (unended octets) ≡ Ok said)
    × RefusedOctets shape order said e × Tells old new (refusal.Octets e))
ConvertsDecode numbers shape order octets old new _ = ⊥

-- ---- values by the text of a description

-- converting a value one of the two ways, by a description
abbrev pub ConvertsBy : Way → Shape → Order → List ℕ → Option (List ℕ) → Option (List ℕ) → Status
    → Type 0
ConvertsBy Encode = ConvertsEncode
ConvertsBy (Decode numbers) = ConvertsDecode numbers

-- `convert encode` or `convert decode`, by the description that a text is; where it is none, its
-- fault is reported, and no other
abbrev pub ConvertsValue : Way → Order → List ℕ → List ℕ → Option (List ℕ) → Option (List ℕ)
    → Status → Type 0
ConvertsValue way order description octets old new status =
    ((shape : Shape) × (desc_told (json_in description) ≡ Ok shape)
    × ConvertsBy way shape order octets old new status)
    ⊎ ((status ≡ Refused) × ((e : FormFault) × (desc_told (json_in description) ≡ Err e)
    × Tells old new (refusal.Form e)))
