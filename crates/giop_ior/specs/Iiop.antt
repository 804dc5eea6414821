-- The IIOP profile (CORBA 3.3 Part 2, 9.7.2): an encapsulation, of which the first octet is the
-- byte order and has offset 0; the fields begin at offset 1. Octets behind them are passed over.
use Rattle.std.specs.Prelude.{◌≡◌, ℕ, ◌==◌, Bool, List, [], ◌∷◌, ◌++◌, length, drop, slice_index, if◌then◌else◌, Option, Some, None, Result, Ok, Err, ⊤}
use Rattle.std.specs.Int.{w8, w16}
use Rattle.giop_cdr.specs.declared.order.Order.{Order}
use Rattle.giop_cdr.specs.declared.order.Order.TheVariants.{Big, Little}
use Rattle.giop_cdr.specs.declared.fault.CdrFault.{CdrFault}
use Rattle.giop_cdr.specs.declared.fault.CdrKind.TheVariants.{BadLabel, BadOrder, Short, NoMemory}
use Rattle.giop_cdr.specs.Encapsulation.Opened.{order_octet, content_of}
use Rattle.giop_cdr.specs.Layout.{Layout, number, octets, text, such, field, gives, sequence, tagged, chosen}
use Rattle.giop_cdr.specs.Reading.Cursor.{Cursor}
use Rattle.giop_cdr.specs.Reading.Values.{Reading, fault, ◌>>=◌}
use Rattle.giop_cdr.specs.Reading.Exactness.{NeverRefused}
use Rattle.giop_cdr.specs.Spelling.{Known}
use Rattle.giop_ior.specs.declared.references.profile.IiopProfile.{IiopProfile}
use Rattle.giop_ior.specs.declared.references.tagged_profile.TaggedComponent.{TaggedComponent}

-- a profile as contracts see it, wherever its octets lie
abbrev pub Profile : Type 0
Profile = IiopProfile (List ℕ) (List TaggedComponent)

-- ---- the fields

-- an octet that is 1
abbrev pub is_one : ℕ → Bool
is_one major = major == 1

unfoldable pub major_version : Layout ℕ
major_version = such is_one 1 BadLabel (number w8)

-- a component: an unsigned long tag and a sequence of octets
unfoldable pub tagged_component : Layout TaggedComponent
tagged_component =
    tagged (λ component. component.tag) (λ component. component.octets)
    (λ tag contents. record { tag = tag; octets = contents })

-- no octets, which stand for no components; others don't fit
unfoldable pub no_components : Layout (List TaggedComponent)
no_components = record {
  spells = Known [];
  refused = NeverRefused;
  read = λ c. Ok ([], c);
  written = λ v out. out;
  fits = λ v. length v == 0;
  holds = λ v. ⊤;
}

-- the components: none in version 1.0, a sequence from 1.1 on
unfoldable pub components_of : ℕ → Layout (List TaggedComponent)
components_of minor = chosen (minor == 0) no_components (sequence tagged_component)

-- the fields in their order
unfoldable pub iiop_layout : Layout Profile
iiop_layout =
    field (λ p. p.major) major_version λ major.
    field (λ p. p.minor) (number w8) λ minor.
    field (λ p. p.host) text λ host.
    field (λ p. p.port) (number w16) λ port.
    field (λ p. p.key) octets λ key.
    field (λ p. p.components) (components_of minor) λ components.
    gives (record {
      major = major;
      minor = minor;
      host = host;
      port = port;
      key = key;
      components = components;
    })

-- ---- the encapsulation

-- octets are an order octet, the fields from offset 1 on, and any octets behind them
pub record IiopOctets (p : Profile) (contents : List ℕ) : Type 0 where
  pub order : Order
  pub front : List ℕ
  pub rest : List ℕ
  pub whole : contents ≡ order_octet order ∷ (front ++ rest)
  pub spells : iiop_layout.spells order 1 p front

-- the order that an octet says
abbrev pub order_of_octet : ℕ → Result Order CdrFault
order_of_octet octet =
    if octet == 0 then Ok Big
    else if octet == 1 then Ok Little
    else Err (fault 0 BadOrder)

-- the order that the first octet says
abbrev pub order_in : List ℕ → Result Order CdrFault
order_in contents =
    if length contents == 0 then Err (fault 0 Short) else order_of_octet (slice_index contents 0)

-- the profile that octets are, or the first fault
unfoldable pub iiop_of : List ℕ → Result Profile CdrFault
iiop_of contents = do
  order ← order_in contents
  p ← iiop_layout.read (content_of order (drop 1 contents))
  Ok p.0

-- out of memory, for a profile as a whole
abbrev pub no_memory : CdrFault
no_memory = fault 0 NoMemory

-- this profile is the answer, unless out of memory
abbrev pub IsAnswered : Result Profile CdrFault → Profile → Type 0
IsAnswered (Ok p) profile = p ≡ profile
IsAnswered (Err e) profile = e ≡ no_memory

-- what is written of a profile: big-endian, from the order octet on
unfoldable pub iiop_octets : Profile → List ℕ
iiop_octets p = (iiop_layout.written p (record { order = Big; at = 1; octets = 0 ∷ [] })).octets

-- ---- where the components may be missing

-- the components of a view, which has none in version 1.0
abbrev pub listed : Option (List TaggedComponent) → List TaggedComponent
listed None = []
listed (Some components) = components

-- what contracts see of a view
abbrev pub profile_view : IiopProfile (List ℕ) (Option (List TaggedComponent)) → Profile
profile_view p =
    record {
      major = p.major;
      minor = p.minor;
      host = p.host;
      port = p.port;
      key = p.key;
      components = listed p.components;
    }

-- a call answers what reading gives, and leaves the cursor behind the value; view is what contracts
-- see of it
abbrev pub ExactlyAs : {X A : Type 0} → (X → A) → Result X CdrFault → Cursor → Reading A → Type 0
ExactlyAs view (Ok x) new reading = reading ≡ Ok (view x, new)
ExactlyAs view (Err e) new reading = reading ≡ Err e
