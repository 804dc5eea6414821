-- The first part of a file that is at fault.
use Rattle.std.specs.Prelude.{◌≡◌, ℕ, suc, codes, option_and_then, ◌==◌, if◌then◌else◌, List, [], ◌∷◌, Option, Some, None, map}
use Rattle.std.specs.Option.{option_or}
use Rattle.serde_json.specs.Data as json
use Rattle.serde_json.specs.Find.{get}
use Rattle.serde_json.specs.Data.{Data, Items, Members}
use Rattle.giop_where.specs.Parts.{Portion, Way, key, index, part_under, part_at, part_view, step_view}
use Rattle.giop_where.specs.Alone.{alone}
use Rattle.giop_where.specs.declared.role.Role.{Role}
use Rattle.giop_where.specs.declared.role.Role.TheVariants as is
use Rattle.giop_where.specs.declared.parts.Placed.{Placed}
use Rattle.giop_where.specs.declared.place.Place.{Place}

-- of the items from this place on, the first that alone is refused with a fault of this number
abbrev pub first_item : ℕ → Portion → ℕ → Items → Option (Way × Portion)
first_item number p i json.no_items = None
first_item number p i (json.item d ds) =
    if alone (part_at p i d) == number then Some (index i, part_at p i d)
    else first_item number p (suc i) ds

-- the same of the members of an object, in the order of their keys
abbrev pub first_member : ℕ → Portion → Members → Option (Way × Portion)
first_member number p json.no_members = None
first_member number p (json.member k d ms) =
    if alone (part_under p k d) == number then Some (key k, part_under p k d)
    else first_member number p ms

-- a part behind a key, where it is refused so
abbrev pub placed_if : ℕ → List ℕ → Portion → Option (Way × Portion)
placed_if number k q = if alone q == number then Some (key k, q) else None

-- the discriminant of a description, where it is one of a union
abbrev pub disc_of : Portion → Option Data
disc_of p = disc_in p.role p where
  disc_in : Role → Portion → Option Data
  disc_in is.Description p = get (codes "union") p.content
  disc_in _ p = None

-- the discriminant of a union's description, where it is refused so
abbrev pub first_union : ℕ → Portion → Option (Way × Portion)
first_union number p =
    option_and_then (λ d. placed_if number (codes "union") (part_under p (codes "union") d))
    (disc_of p)

-- of the parts of a part, the first that alone is refused with a fault of this number: items in
-- their order; members in the order of their keys, but a discriminant before what depends on it
abbrev pub first_part : ℕ → Portion → Option (Way × Portion)
first_part number p = first_in p.content number p where
  first_in : Data → ℕ → Portion → Option (Way × Portion)
  first_in (json.array ds) number p = first_item number p 0 ds
  first_in (json.object ms) number p =
      option_or (first_union number p) (first_member number p ms)
  first_in _ number p = None

-- a path leads from a part to another, where each of its steps goes to the first part that alone
-- is refused with a fault of this number
abbrev pub Leads : ℕ → Portion → List Way → Portion → Type 0
Leads number p [] q = p ≡ q
Leads number p (w ∷ path) q =
    (r : Portion) × (first_part number p ≡ Some (w, r)) × Leads number r path q

-- a path leads to the first fault: it ends at a part of which no part is refused so
pub record IsFirst (number : ℕ) (p : Portion) (path : List Way) (q : Portion) : Type 0 where
  pub led : Leads number p path q
  pub own : first_part number q ≡ None

-- what contracts see of a part behind its step
abbrev pub placed_view : Placed → Way × Portion
placed_view x = (step_view x.step, part_view x.part)

-- a place tells the first fault: the path to it, and what the part is
abbrev pub IsPlace : ℕ → Portion → Place → Type 0
IsPlace number p place =
    (q : Portion) × IsFirst number p (map step_view place.path.items) q × (place.role ≡ q.role)
