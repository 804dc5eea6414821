-- What a Fragment comes to at an end of either side, whose rule goes by what its entries know of the messages that are gathered.
use Rattle.std.proofs.Common.{◌≡◌, ℕ, Bool, true, false, cond, not, List, ◌++◌, length, Option, Some, None, is_some, Result, Err, IsOk, refl, sym, ap, subst, ◌∙◌, ◌&&◌, inl}
use Rattle.std.specs.FinMap as finite
use Rattle.giop_cdr.specs.declared.order.Order.{Order}
use Rattle.giop_types.specs.declared.interfaces.interface.Interface.{Interface}
use Rattle.giop_frag.specs.Gathered.{Pieces, is_over, order_fault, same_order}
use Rattle.giop_msg.specs.declared.msg.Msg.{Msg}
use Rattle.giop_mux.specs.declared.step.Step.{Step}
use Rattle.giop_calls.specs.declared.fault.CallFault.{CallFault}
use Rattle.giop_table.specs.declared.plan.Plan.TheVariants.{Leave}
use Rattle.giop_table.specs.declared.plan.Planned.{Planned}
use Rattle.giop_table.specs.declared.slot.Slot.{Slot}
use Rattle.giop_table.specs.declared.table_fault.TableFault.{TableFault}
use Rattle.giop_table.specs.declared.table_fault.TableFault.TheVariants as table
use Rattle.giop_table.specs.CallTable.{Held, Hears, More, Stays, answered, gathers, limit, rules_of}
use Rattle.giop_table.specs.Sending.{entry_of, sending_step, settled_by, slot_of}
use Rattle.giop_table.proofs.TableLemmas.{DoesSo, does_over}
use Rattle.giop_end.specs.declared.session_fault.SessionFault.{SessionFault}
use Rattle.giop_end.specs.declared.session_fault.SessionFault.TheVariants.{GatherFull}
use Rattle.giop_end.specs.Hearing.Heard.{ActsOn, IsHeard, behind_id, in_call, result_of, silently}
use Rattle.giop_end.specs.Hearing.Pieces.{JoinsBy, PiecesOf, completes, continued, continued_at, continues, gathers_in, goes_on, known_at, whole_with}
use Rattle.giop_end.proofs.OnHearing.EventLemmas.{event_heard}

-- what isn't false is true
pub is_full : (b : Bool) → not b ≡ false → b ≡ true
is_full true is = refl
is_full false is = absurd cc

pub isnt_full : (full : Bool) → not full ≡ true → full ≡ false
isnt_full true free = absurd cc
isnt_full false free = refl

-- a slot gathers where its entry does
pub slot_gathers : {E : Type 0} (gathering : E → Bool) (entry : Option E) (unsent : List Msg)
    → gathers gathering (slot_of entry unsent) ≡ gathers_in gathering entry
slot_gathers gathering None unsent = refl
slot_gathers gathering (Some entry) unsent = refl

pub entry_gathers : {E : Type 0} (gathering : E → Bool) (slot : Option (Slot E)) → gathers gathering slot ≡ gathers_in gathering (entry_of slot)
entry_gathers gathering None = refl
entry_gathers gathering (Some slot) = refl

-- pieces that are continued are those of a message of which something is known, in its byte order
pub record Continues {Known : Type 0} (order : Order) (known : Option Known) (pieces : Option Pieces) : Type 0 where
  pub one : Known
  pub held : Pieces
  pub knows : known ≡ Some one
  pub holds : pieces ≡ Some held
  pub same : same_order order held.order ≡ true
  pub is : continued order known pieces ≡ Some (one, held.octets)

continues_is : {Known : Type 0} (order : Order) (known : Option Known) (pieces : Option Pieces)
    → is_some (continued order known pieces) ≡ true → Continues order known pieces
continues_is order None pieces is = absurd cc
continues_is order (Some one) None is = absurd cc
continues_is {Known} order (Some one) (Some held) is = by_order (same_order order held.order) refl is
  where
    by_order : (same : Bool) → same_order order held.order ≡ same → is_some {T = Known × List ℕ} (cond same (Some (one, held.octets)) None) ≡ true
        → Continues order (Some one) (Some held)
    by_order true here is = record { one = one; held = held; knows = refl; holds = refl; same = here; is = rw here refl }
    by_order false here is = absurd cc

pub continues_here : {R E V Known Whole : Type 0} (side : PiecesOf E V Known Whole) (h : Held R E) (id : ℕ) (order : Order)
    → is_some (continued_at side h id order) ≡ true → Continues order (known_at side.known (finite.get h.table id)) (finite.get h.gathered id)
continues_here side h id order is = continues_is order (known_at side.known (finite.get h.table id)) (finite.get h.gathered id) is

-- they are in order
pub in_order : {Known : Type 0} {order : Order} {known : Option Known} {pieces : Option Pieces} → Continues order known pieces
    → order_fault pieces order ≡ None
in_order {order = order} is = ap (λ pieces. order_fault pieces order) is.holds ∙ rw is.same refl

-- whether pieces are continued, by what is there
pub continued_none : {Known : Type 0} (order : Order) (known : Option Known) → is_some (continued order known None) ≡ false
continued_none order None = refl
continued_none order (Some one) = refl

pub continued_some : {Known : Type 0} (order : Order) (known : Option Known) (held : Pieces)
    → is_some (continued order known (Some held)) ≡ (same_order order held.order && is_some known)
continued_some {Known} order None held = by_order (same_order order held.order)
  where
    by_order : (same : Bool) → false ≡ (same && false)
    by_order true = refl
    by_order false = refl
continued_some {Known} order (Some one) held = by_order (same_order order held.order)
  where
    by_order : (same : Bool) → is_some {T = Known × List ℕ} (cond same (Some (one, held.octets)) None) ≡ (same && true)
    by_order true = refl
    by_order false = refl

module _ {E V Known Whole : Type 0} (next : Option E → V → Step E (Unit {0}) CallFault) (closed gathering : E → Bool)
    (side : PiecesOf E V Known Whole) (joins : JoinsBy next gathering side) where
  -- something is known of a message by the entry of its call
  record KnownBy (slot : Option (Slot E)) (known : Known) : Type 0 where
    entry : E
    unsent : List Msg
    stands : slot ≡ Some (record { entry = entry; unsent = unsent })
    knows : side.known entry ≡ Some known

  known_by : (slot : Option (Slot E)) (known : Known) → known_at side.known slot ≡ Some known → KnownBy slot known
  known_by None known is = absurd cc
  known_by (Some slot) known is = record { entry = slot.entry; unsent = slot.unsent; stands = refl; knows = is }

  -- a further piece changes nothing at what is gathered
  pub more_stays : (slot : Option (Slot E)) (known : Known) → known_at side.known slot ≡ Some known
      → Stays (sending_step next slot (silently side.more)) slot tt
  more_stays slot known is =
      let by = known_by slot known is in
      subst (λ (s : Option (Slot E)). Stays (sending_step next s (silently side.more)) s tt) (sym by.stands)
      (ap (λ (step : Step E (Unit {0}) CallFault). settled_by step.entry Leave by.unsent step.outcome) (joins.more by.entry known by.knows))

  -- what is gathered has pieces
  pub known_gathers : (slot : Option (Slot E)) (known : Known) → known_at side.known slot ≡ Some known → gathers gathering slot ≡ true
  known_gathers slot known is =
      let by = known_by slot known is in ap (gathers gathering) by.stands ∙ joins.gathered by.entry known by.knows

  -- the last piece is accepted, and nothing is gathered behind it
  module _ (interface : Interface) (known : Known) (m : Msg) (octets : List ℕ) where
    abbrev last_step : Option (Slot E) → Step (Slot E) (Unit {0}) CallFault
    last_step slot = sending_step next slot (silently (side.last (side.whole interface known m octets)))

    pub last_accepted : (slot : Option (Slot E)) → known_at side.known slot ≡ Some known → IsOk (last_step slot).outcome
    last_accepted slot is =
        let by = known_by slot known is in
        subst (λ s. IsOk (last_step s).outcome) (sym by.stands) (joins.last by.entry known interface m octets by.knows).0

    pub last_ends : (slot : Option (Slot E)) → known_at side.known slot ≡ Some known → gathers gathering (last_step slot).entry ≡ false
    last_ends slot is =
        let by = known_by slot known is in
        subst (λ s. gathers gathering (last_step s).entry ≡ false) (sym by.stands)
        (slot_gathers gathering _ _ ∙ (joins.last by.entry known interface m octets by.knows).1)

  -- a piece that continues nothing begins nothing
  pub stray_quiet : (slot : Option (Slot E)) (m : Msg) → gathers gathering slot ≡ false
      → gathers gathering (sending_step next slot (silently (side.stray m))).entry ≡ false
  stray_quiet slot m idle =
      slot_gathers gathering (next (entry_of slot) (side.stray m)).entry _
      ∙ joins.stray (entry_of slot) m (sym (entry_gathers gathering slot) ∙ idle)

  -- there is no room for the last piece
  full : {R : Type 0} (h : Held R E) (id : ℕ) (known : Known) (planned : Planned V) (octets : List ℕ) (entry : E) (unsent : List Msg)
      → finite.get h.table id ≡ Some (record { entry = entry; unsent = unsent }) → gathering entry ≡ true
      → is_over h.room h.gathered (length octets) ≡ true
      → limit next closed gathering h id (Hears planned (More octets)) ≡ Some table.GatherFull
  full h id known planned octets entry unsent at here over = rw (at, here, over) refl

  pub complete_refused : {R : Type 0} (h : Held R E) (id : ℕ) (interface : Interface) (known : Known) (m : Msg) (octets : List ℕ)
      → known_at side.known (finite.get h.table id) ≡ Some known → is_over h.room h.gathered (length (behind_id m)) ≡ true
      → IsHeard (rules_of next closed gathering) in_call (ActsOn id (completes side interface known m octets)) h (Err GatherFull) h
  complete_refused h id interface known m octets is over =
      let by = known_by (finite.get h.table id) known is in
      let planned = silently (side.last (whole_with side interface known m octets)) in
      event_heard next closed gathering h h id planned (More (behind_id m)) (Err table.GatherFull) (Err GatherFull)
      (does_over next closed gathering h h id planned (More (behind_id m)) table.GatherFull
      (last_accepted interface known m (octets ++ behind_id m) (finite.get h.table id) is)
      (inl (full h id known planned (behind_id m) by.entry by.unsent by.stands (joins.gathered by.entry known by.knows) over)) refl) refl

  -- octets are joined by an event that changes nothing at their call: so a message that brings them is heard
  pub joined : {R : Type 0} (h k : Held R E) (id : ℕ) (m : Msg) (brought : List ℕ) (given : Result (Unit {0}) (TableFault CallFault))
      (result : Result (Unit {0}) SessionFault)
      → DoesSo next closed gathering h id (silently side.more) (More brought) (answered {A = Unit {0}} tt given) k
      → brought ≡ behind_id m → result ≡ result_of (in_call id) (answered {A = Unit {0}} tt given)
      → IsHeard (rules_of next closed gathering) in_call (ActsOn id (goes_on side m)) h result k
  joined h k id m brought given result does same is =
      event_heard next closed gathering h k id (silently side.more) (More (behind_id m)) (answered {A = Unit {0}} tt given) result
      (subst (λ (octets : List ℕ). DoesSo next closed gathering h id (silently side.more) (More octets) (answered {A = Unit {0}} tt given) k) same does) is

  -- a Fragment that continues pieces, and with which no more come, is the last of them
  pub continues_last : (interface : Interface) (m : Msg) (known : Known) (octets : List ℕ) → m.more ≡ false
      → continues side interface m (Some (known, octets)) ≡ completes side interface known m octets
  continues_last interface m known octets last = rw last refl

  pub continues_more : (interface : Interface) (m : Msg) (pieces : Known × List ℕ) → m.more ≡ true
      → continues side interface m (Some pieces) ≡ goes_on side m
  continues_more interface m pieces more = rw more refl
