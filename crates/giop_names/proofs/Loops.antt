-- Loops that make the items of a list, and the members of an object.
use Rattle.std.proofs.Common.{◌≡◌, ◌⊎◌, ℕ, ◌+◌, ◌<◌, ◌≤◌, List, [], ◌∷◌, ◌++◌, length, get_or, drop, add-one, drop-cons, true, false, Ok, Err, inl, inr, refl, sym, ap, ◌∙◌}
use Rattle.std.proofs.Math.ListN.{drop_of_length-le}
use Rattle.serde_json.specs.Data.{Data, Items, item, no_items, Members, member, no_members}
use Rattle.serde_json.specs.View.{view, items_view}
use Rattle.serde_json.specs.declared.value.Value.{Value as Json}
use Rattle.giop_json.specs.declared.form_fault.FormFault.{FormFault}
use Rattle.giop_names.specs.Plain.{Made, behind, each_item, each_member, member_at}
use Rattle.giop_names.specs.Scopes.{is_left_out}
use Rattle.giop_names.specs.declared.scope.Scope.{Scope}
use Rattle.giop_names.proofs.Orders.{then_members, then_then, then_none}

-- what is made, behind what was made before
abbrev pub after : {A : Type 0} → (A → A) → Made A → Made A
after join (Ok made) = Ok (join made.0, made.1)
after join (Err e) = Err e

-- nothing was made before
pub after_none : (made : Made Members) → after (then_members no_members) made ≡ made
after_none (Ok made) = refl
after_none (Err e) = refl

-- ---- items

-- items, and more behind them
abbrev pub then_items : Items → Items → Items
then_items no_items more = more
then_items (item d ds) more = item d (then_items ds more)

items_then : (a b c : Items) → then_items (then_items a b) c ≡ then_items a (then_items b c)
items_then no_items b c = refl
items_then (item d ds) b c = ap (item d) (items_then ds b c)

items_none : (ds : Items) → then_items ds no_items ≡ ds
items_none no_items = refl
items_none (item d ds) = ap (item d) (items_none ds)

-- the items of two lists
pub items_view-append : (a b : List Json) → items_view (a ++ b) ≡ then_items (items_view a) (items_view b)
items_view-append [] b = refl
items_view-append (x ∷ a) b = ap (item (view x)) (items_view-append a b)

regroup_items : (front : Items) (e : Data) (made : Made Items)
    → after (then_items front) (behind (λ es rest. Ok (item e es, rest)) made)
    ≡ after (then_items (then_items front (item e no_items))) made
regroup_items front e (Ok made) = rw (items_then front (item e no_items) made.0) refl
regroup_items front e (Err fault) = refl

left_items : (xs : List Json) (i : ℕ) (x : Json) → i < length xs → x ≡ get_or xs i x
    → items_view (drop i xs) ≡ item (view x) (items_view (drop (i + 1) xs))
left_items xs i x lt is = ap items_view (drop-cons xs i x lt) ∙ rw (add-one, ← is) refl

-- an item that was made
pub item_made : (make : Data → ℕ → Made Data) (front : Items) (xs : List Json) (i : ℕ) (x : Json) (e : Data) (room left : ℕ) (total : Made Items)
    → i < length xs → x ≡ get_or xs i x → make (view x) room ≡ Ok (e, left)
    → after (then_items front) (each_item make (items_view (drop i xs)) room) ≡ total
    → after (then_items (then_items front (item e no_items))) (each_item make (items_view (drop (i + 1) xs)) left) ≡ total
item_made make front xs i x e room left total lt is made so_far =
    sym (regroup_items front e (each_item make (items_view (drop (i + 1) xs)) left))
    ∙ (rw (left_items xs i x lt is, made) at so_far)

-- one that was refused
pub item_refused : (make : Data → ℕ → Made Data) (front : Items) (xs : List Json) (i : ℕ) (x : Json) (fault : FormFault) (room : ℕ) (total : Made Items)
    → i < length xs → x ≡ get_or xs i x → make (view x) room ≡ Err fault
    → after (then_items front) (each_item make (items_view (drop i xs)) room) ≡ total → total ≡ Err fault
item_refused make front xs i x fault room total lt is refused so_far =
    sym (rw (left_items xs i x lt is, refused) at so_far)

-- no item is left
pub items_made : (make : Data → ℕ → Made Data) (front : Items) (xs : List Json) (i room : ℕ) (total : Made Items)
    → length xs ≤ i → after (then_items front) (each_item make (items_view (drop i xs)) room) ≡ total
    → total ≡ Ok (front, room)
items_made make front xs i room total le so_far =
    sym (rw (drop_of_length-le xs le, items_none front) at so_far)

-- ---- members

regroup_members : (front : Members) (k : List ℕ) (e : Data) (made : Made Members)
    → after (then_members front) (behind (λ es rest. Ok (member k e es, rest)) made)
    ≡ after (then_members (then_members front (member k e no_members))) made
regroup_members front k e (Ok made) = rw (then_then front (member k e no_members) made.0) refl
regroup_members front k e (Err fault) = refl

-- a member that was made
pub member_made : (make : Scope → Data → ℕ → Made Data) (scope : Scope) (front : Members) (k : List ℕ) (d e : Data) (ms : Members) (room left : ℕ)
    (total : Made Members)
    → is_left_out scope k ≡ false → member_at make scope k d room ≡ Ok (e, left)
    → after (then_members front) (each_member make scope (member k d ms) room) ≡ total
    → after (then_members (then_members front (member k e no_members))) (each_member make scope ms left) ≡ total
member_made make scope front k d e ms room left total stays made so_far =
    sym (regroup_members front k e (each_member make scope ms left)) ∙ (rw (stays, made) at so_far)

-- one that was refused
pub member_refused : (make : Scope → Data → ℕ → Made Data) (scope : Scope) (front : Members) (k : List ℕ) (d : Data) (ms : Members) (room : ℕ)
    (fault : FormFault) (total : Made Members)
    → is_left_out scope k ≡ false → member_at make scope k d room ≡ Err fault
    → after (then_members front) (each_member make scope (member k d ms) room) ≡ total → total ≡ Err fault
member_refused make scope front k d ms room fault total stays refused so_far =
    sym (rw (stays, refused) at so_far)

-- one that is left out
pub member_left_out : (make : Scope → Data → ℕ → Made Data) (scope : Scope) (front : Members) (k : List ℕ) (d : Data) (ms : Members) (room : ℕ)
    (total : Made Members)
    → is_left_out scope k ≡ true
    → after (then_members front) (each_member make scope (member k d ms) room) ≡ total
    → after (then_members front) (each_member make scope ms room) ≡ total
member_left_out make scope front k d ms room total out so_far = rw out at so_far

-- no member is left
pub members_made : (make : Scope → Data → ℕ → Made Data) (scope : Scope) (front : Members) (room : ℕ) (total : Made Members)
    → after (then_members front) (each_member make scope no_members room) ≡ total → total ≡ Ok (front, room)
members_made make scope front room total so_far = sym (rw (then_none front) at so_far)

-- a refusal is passed on, or it is out of memory
pub passed_on : {A B : Type 0} (a : Made A) (b : Made B) (fault : FormFault) (M : Type 0)
    → (a ≡ Err fault → b ≡ Err fault) → (a ≡ Err fault) ⊎ M → (b ≡ Err fault) ⊎ M
passed_on a b fault M on (inl refused) = inl (on refused)
passed_on a b fault M on (inr m) = inr m
