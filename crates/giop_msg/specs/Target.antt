-- The target of a Request and of a LocateRequest (CORBA 3.3 Part 2, 9.4.2.1).
use Rattle.std.specs.Prelude.{ℕ, ℤ, pos, ◌||◌, Bool, true, false, List, []}
use Rattle.std.specs.Int.{w16, w32}
use Rattle.std.specs.Ordering.{int_eq}
use Rattle.giop_cdr.specs.declared.fault.CdrKind.TheVariants.{BadLabel}
use Rattle.giop_cdr.specs.Layout.{Layout, number, signed, octets, such, field, gives, chosen}
use Rattle.giop_ior.specs.declared.references.tagged_profile.TaggedProfile.{TaggedProfile}
use Rattle.giop_ior.specs.Ior.{tagged_profile, ior_layout}
use Rattle.giop_ior.specs.Ior.{Reference as IorValue}
use Rattle.giop_msg.specs.declared.target.Target.{Target}
use Rattle.giop_msg.specs.declared.target.Target.TheVariants.{Key, Profile, Reference}
use Rattle.giop_msg.specs.Meaning.{meaning}

-- a target as contracts see it, wherever its octets lie
abbrev pub AnyTarget : Type 0
AnyTarget = Target (List ℕ) TaggedProfile IorValue

-- the addressing disposition: KeyAddr, ProfileAddr or ReferenceAddr
abbrev pub disposition_of : AnyTarget → ℤ
disposition_of (Key key) = pos 0
disposition_of (Profile profile) = pos 1
disposition_of (Reference index ior) = pos 2

-- a short that is one of them
abbrev pub is_disposition : ℤ → Bool
is_disposition d = int_eq d (pos 0) || int_eq d (pos 1) || int_eq d (pos 2)

-- the disposition on the wire
unfoldable pub disposition : Layout ℤ
disposition = such is_disposition 2 BadLabel (signed w16)

-- the object key of a target that is one
abbrev pub key_of : AnyTarget → List ℕ
key_of (Key key) = key
key_of _ = []

-- the profile of a target that is one
abbrev pub profile_of : AnyTarget → TaggedProfile
profile_of (Profile profile) = profile
profile_of _ = record { tag = 0; octets = [] }

-- the selected profile's index in a target that is a reference
abbrev pub index_of : AnyTarget → ℕ
index_of (Reference index ior) = index
index_of _ = 0

-- the reference of a target that is one
abbrev pub ior_of : AnyTarget → IorValue
ior_of (Reference index ior) = ior
ior_of _ = record { type_id = []; profiles = [] }

-- KeyAddr: the object key
unfoldable pub key_target : Layout AnyTarget
key_target = field key_of octets λ key. gives (Key key)

-- ProfileAddr: a tagged profile
unfoldable pub profile_target : Layout AnyTarget
profile_target = field profile_of tagged_profile λ profile. gives (Profile profile)

-- ReferenceAddr: the selected profile's index and a reference
unfoldable pub reference_target : Layout AnyTarget
reference_target =
    field index_of (number w32) λ index.
    field ior_of ior_layout λ ior.
    gives (Reference index ior)

-- what stands behind a disposition
unfoldable pub target_by : ℤ → Layout AnyTarget
target_by d =
    chosen (int_eq d (pos 0)) key_target
    (chosen (int_eq d (pos 1)) profile_target reference_target)

-- a target of 1.2: its disposition, and what that says
unfoldable pub target_layout : Layout AnyTarget
target_layout = field disposition_of disposition λ d. target_by d

-- whether a target is a key
abbrev pub is_key : AnyTarget → Bool
is_key (Key key) = true
is_key _ = false

-- a target before 1.2: the object key alone
unfoldable pub object_key : Layout AnyTarget
object_key = meaning (λ key. Key key) key_of is_key octets
