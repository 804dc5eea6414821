-- Object references on the wire (CORBA 3.3 Part 2, 7.6.2): the table of an IOR's fields.
use Rattle.std.specs.Prelude.{ℕ, List}
use Rattle.giop_cdr.specs.Layout.{Layout, text, field, gives, sequence, tagged}
use Rattle.giop_ior.specs.declared.references.ior.Ior.{Ior}
use Rattle.giop_ior.specs.declared.references.tagged_profile.TaggedProfile.{TaggedProfile}

-- a reference as contracts see it, wherever its octets lie
abbrev pub Reference : Type 0
Reference = Ior (List ℕ) (List TaggedProfile)

-- a profile: an unsigned long tag and a sequence of octets
unfoldable pub tagged_profile : Layout TaggedProfile
tagged_profile =
    tagged (λ profile. profile.tag) (λ profile. profile.octets)
    (λ tag contents. record { tag = tag; octets = contents })

-- a reference: the string type_id and the sequence of profiles
unfoldable pub ior_layout : Layout Reference
ior_layout =
    field (λ ior. ior.type_id) text λ type_id.
    field (λ ior. ior.profiles) (sequence tagged_profile) λ profiles.
    gives (record { type_id = type_id; profiles = profiles })
