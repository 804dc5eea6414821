-- What is given to an end, octets in reads of any size and its own acts; and the events that these
-- are: a message is one at the read that brings its last octet.
use Rattle.std.specs.Prelude.{◌≡◌, ℕ, List, [], ◌∷◌, ◌++◌, map, Ok}
use Rattle.giop_msg.specs.declared.msg.Msg.{Msg}
use Rattle.giop_msg.specs.Stream.{TakesMessages, Unread, Waits}
use Rattle.giop_table.specs.CallTable.{Held}
use Rattle.giop_session.specs.Items.Carries.{Carries, Item, Telling}
use Rattle.giop_session.specs.Runs.Events.{Accepts, Event, Comes, Local, own_events, Does as DoesTo}
use Rattle.giop_end.specs.Hearing.Feeding.{Fed, nothing_unread, with_octets}
use Rattle.giop_end.specs.Hearing.Heard.{SideOf, hears}

-- octets are read, or the end itself does something to the call of an id
pub data Input (V : Type 0) : Type 0 where
  Reads : List ℕ → Input V
  Does : ℕ → Local V → Input V

module _ {V : Type 0} where
  -- behind unread octets these inputs are these events, and leave these octets unread
  abbrev pub AreEvents : Unread → List (Input V) → List (Event V) → Unread → Type 0
  AreEvents unread [] events left = (events ≡ []) × (left ≡ unread)
  AreEvents unread (Reads octets ∷ inputs) events left =
      (messages : List Msg) × (mid : Unread) × (rest : List (Event V))
      × TakesMessages (with_octets unread octets) messages mid × Waits mid
      × (events ≡ map Comes messages ++ rest) × AreEvents mid inputs rest left
  AreEvents unread (Does id act ∷ inputs) events left = (rest : List (Event V))
      × (events ≡ DoesTo id act ∷ rest) × AreEvents unread inputs rest left

-- inputs to a new end, where messages may be of this size, hold these items for each id
abbrev pub Holds : {T Message V : Type 0} → Telling T Message V → T → ℕ → List (Input V)
    → (ℕ → List (Item Message V)) → Type 0
Holds {V = V} telling unknown limit inputs calls =
    (events : List (Event V)) × (left : Unread)
    × AreEvents (nothing_unread limit) inputs events left
    × ((id : ℕ) → Carries telling unknown (calls id) (own_events id events))

module _ {R E V A F : Type 0} (side : SideOf R E V A F) where
  -- an end with these unread octets and these calls takes inputs, and refuses none; this is unread
  -- then, and these are its calls
  abbrev pub Takes : Unread → Held R E → List (Input V) → Unread → Held R E → Type 0
  Takes unread h [] left k = (left ≡ unread) × (k ≡ h)
  Takes unread h (Reads octets ∷ inputs) left k = (mid : Unread) × (calls : Held R E)
      × Fed (hears side) (with_octets unread octets) h (Ok tt) mid calls
      × Takes mid calls inputs left k
  Takes unread h (Does id act ∷ inputs) left k = (calls : Held R E)
      × Accepts side (DoesTo id act) h calls
      × Takes unread calls inputs left k
