-- The plain form of a part of an interface file, in which no name stands, but what it stands for.
use Rattle.std.specs.Prelude.{◌≡◌, ◌⊎◌, ⊤, ℕ, zero, suc, ◌-◌, nat_lt, if◌then◌else◌, List, length}
use Rattle.std.specs.Prelude.{Option, Some, None, Result, Ok, Err}
use Rattle.serde_json.specs.Data.{Data, array, object, Items, item, no_items}
use Rattle.serde_json.specs.Data.{Members, member, no_members}
use Rattle.serde_json.specs.Find.{get}
use Rattle.giop_json.specs.declared.form_fault.FormFault.{FormFault}
use Rattle.giop_json.specs.declared.form_fault.FormFault.TheVariants.{BadShape, Unfit, NoMemory}
use Rattle.giop_names.specs.Scopes.{is_left_out, scope_at, scope_under, name_in, text_in}
use Rattle.giop_names.specs.declared.scope.Scope.{Scope}
use Rattle.giop_names.specs.declared.scope.Scope.TheVariants as is

-- what is made, and the room that is left behind it; or the first refusal
abbrev pub Made : Type 0 → Type 0
Made A = Result (A × ℕ) FormFault

-- the refusal of what was to be made was returned, or it is out of memory
abbrev pub Refuses : {A B : Type 0} → Result A FormFault → Result B FormFault → Type 0
Refuses (Ok x) made = ⊤
Refuses (Err e) made = (made ≡ Err e) ⊎ (e ≡ NoMemory)

-- what is made behind something else, with the room that this left
abbrev pub behind : {A B : Type 0} → (A → ℕ → Made B) → Made A → Made B
behind next (Ok made) = next made.0 made.1
behind next (Err e) = Err e

-- the room that is left behind a part or a key with this text: where a name stands for what it is a
-- part of it takes one, and one for each octet
abbrev pub spent : Scope → List ℕ → ℕ → Result ℕ FormFault
spent is.Named text room =
    if nat_lt (length text) room then Ok (room - length text - 1) else Err Unfit
spent _ text room = Ok room

-- what is made with the room that is left
abbrev pub within : {A : Type 0} → (ℕ → Made A) → Result ℕ FormFault → Made A
within make (Ok left) = make left
within make (Err e) = Err e

-- ---- parts, each made by `make`

-- the items of a list
abbrev pub each_item : (Data → ℕ → Made Data) → Items → ℕ → Made Items
each_item make no_items room = Ok (no_items, room)
each_item make (item d ds) room = behind
    (λ e left. behind (λ es rest. Ok (item e es, rest)) (each_item make ds left))
    (make d room)

-- what is under a key
abbrev pub member_at : (Scope → Data → ℕ → Made Data) → Scope → List ℕ → Data → ℕ → Made Data
member_at make scope k d room = within (make (scope_under scope k) d) (spent scope k room)

-- the members of an object, without those that are left out
abbrev pub each_member : (Scope → Data → ℕ → Made Data) → Scope → Members → ℕ → Made Members
each_member make scope no_members room = Ok (no_members, room)
each_member make scope (member k d ms) room =
    if is_left_out scope k then each_member make scope ms room
    else behind
    (λ e left. behind (λ es rest. Ok (member k e es, rest)) (each_member make scope ms left))
    (member_at make scope k d room)

-- a part that is no name
abbrev pub spelled : (Scope → Data → ℕ → Made Data) → Scope → Data → ℕ → Made Data
spelled make scope (array ds) room =
    behind (λ es left. Ok (array es, left)) (each_item (make (scope_at scope)) ds room)
spelled make scope (object ms) room =
    behind (λ es left. Ok (object es, left)) (each_member make scope ms room)
spelled make scope d room = Ok (d, room)

-- what a name stands for
abbrev pub stands_for : (Scope → Data → ℕ → Made Data) → Data → List ℕ → ℕ → Made Data
stands_for make types name room = stands (get name types) where
  stands : Option Data → Made Data
  stands (Some d) = make is.Named d room
  stands None = Err BadShape

-- a part, by the name that it is
abbrev pub by_name : (Scope → Data → ℕ → Made Data) → Data → Scope → Data → Option (List ℕ) → ℕ
    → Made Data
by_name make types scope d (Some name) room = stands_for make types name room
by_name make types scope d None room = spelled make scope d room

-- a part, in which names and parts are nested within one another so deep at most
unfoldable pub plain_at : ℕ → Data → Scope → Data → ℕ → Made Data
plain_at zero types scope d room = Err BadShape
plain_at (suc levels) types scope d room = within
    (by_name (plain_at levels types) types scope d (name_in scope d))
    (spent scope (text_in d) room)
