-- Profiles and references that are made of the parts of one, as C says them, and the octets that the
-- text of a reference says.
use Rattle.std.specs.Prelude.{◌≡◌, ◌⊎◌, ℕ, ◌&&◌, Bool, true, false, List, [], ◌∷◌, Some, Ok}
use Rattle.giop_cdr.specs.Layout.{is_spellable}
use Rattle.giop_ior_text.specs.IorText.{octets_of, prefixed}
use Rattle.giop_ior.specs.Iiop as iiop
use Rattle.giop_ior.specs.Iiop.{iiop_layout, iiop_octets, iiop_of}
use Rattle.giop_ior.specs.Ior.{Reference}
use Rattle.giop_c.specs.declared.end_records.EndFault.{EndFault}
use Rattle.giop_c.specs.Calls.{no_memory, fault}
use Rattle.giop_c.specs.Client.Entries.{CopiesReference}
use Rattle.giop_c.specs.Copying.{CopiesOctets, CopiesWhere}
use Rattle.giop_c.specs.References.{OfReference}

-- ---- made of their parts

-- the profile of IIOP (9.7.2), of this minor version, that has no components
abbrev pub profile_at : ℕ → List ℕ → ℕ → List ℕ → iiop.Profile
profile_at minor host port key = record {
  major = 1;
  minor = minor;
  host = host;
  port = port;
  key = key;
  components = [];
}

-- the octets of a profile are copied, where it has any, and are read as the profile again
abbrev pub WritesProfile : iiop.Profile → List ℕ → List ℕ → ℕ → ℕ → ℕ → Type 0
WritesProfile p =
    CopiesWhere (iiop_layout.fits p) (iiop_of (iiop_octets p) ≡ Ok p) (iiop_octets p)

-- the reference (7.6.2) of this type id that has this profile alone
abbrev pub reference_at : List ℕ → iiop.Profile → Reference
reference_at type_id p =
    record { type_id = type_id; profiles = record { tag = 0; octets = iiop_octets p } ∷ [] }

-- whether its parts can be written
abbrev pub are_parts : List ℕ → iiop.Profile → Bool
are_parts type_id p = is_spellable type_id && iiop_layout.fits p

-- the text of a reference is copied, or memory ran out; or its parts can't be written
abbrev pub WritesReference : List ℕ → iiop.Profile → List ℕ → List ℕ → ℕ → ℕ → ℕ → Type 0
WritesReference type_id p buffer buffer' size size' status =
    ((are_parts type_id p ≡ true)
    × CopiesReference (Some (reference_at type_id p)) buffer buffer' size size' status)
    ⊎ ((are_parts type_id p ≡ true) × (status ≡ no_memory) × ((buffer' ≡ buffer) × (size' ≡ size)))
    ⊎ ((are_parts type_id p ≡ false) × (status ≡ fault) × ((buffer' ≡ buffer) × (size' ≡ size)))

-- ---- the octets that a text says (7.6.9)

-- the text is no reference, or memory ran out, and C is told so; or the octets that it says are
-- copied
abbrev pub ReadsOctets : List ℕ → List ℕ → List ℕ → ℕ → ℕ → EndFault → EndFault → ℕ → Type 0
ReadsOctets octets buffer buffer' size size' f f' status =
    OfReference octets f f' status ((buffer' ≡ buffer) × (size' ≡ size))
    (λ ior. (said : List ℕ) × (octets_of octets ≡ Ok said)
    × CopiesOctets (Some said) buffer buffer' size size' status)

-- the text that says octets is no reference, or memory ran out, and C is told so; or it is copied
abbrev pub WritesText : List ℕ → List ℕ → List ℕ → ℕ → ℕ → EndFault → EndFault → ℕ → Type 0
WritesText octets buffer buffer' size size' f f' status =
    OfReference (prefixed octets) f f' status ((buffer' ≡ buffer) × (size' ≡ size))
    (λ ior. CopiesOctets (Some (prefixed octets)) buffer buffer' size size' status)
