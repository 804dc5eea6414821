-- What each act leaves of both structures, and that they stay tied.
use Rattle.std.proofs.Common.{◌≡◌, ◌≢◌, ℕ, ◌+◌, ◌==◌, Bool, true, false, cond, List, length, Option, Some, None, is_some, Result, Ok, Err, refl, sym, ap, ◌∙◌, inr}
use Rattle.std.specs.Option.{option_map}
use Rattle.std.specs.FinMap as finite
use Rattle.giop_cdr.specs.declared.order.Order.{Order}
use Rattle.giop_ids.specs.ById.{ById, put}
use Rattle.giop_ids.specs.Runs.{Does, told, within, left, refusal_of, IsApart, Distinguishes}
use Rattle.giop_ids.proofs.Puts.{get-put, get-put_same, put_same}
use Rattle.giop_mux.specs.Calls.{Calls, is_one_too_many}
use Rattle.giop_frag.specs.Gathered.{Gathered, Pieces, Lists, grown, octets_in, is_over, room_fault, order_fault, first_fault, begin_fault, add_fault}
use Rattle.giop_frag.proofs.TotalLemmas.{octets_in-grown, no_fault}
use Rattle.giop_frag.specs.declared.fault.GatherFault.{GatherFault}
use Rattle.giop_frag.specs.declared.fault.GatherFault.TheVariants.{GatherFull}
use Rattle.example_end.specs.declared.meter.Meter.{Meter}
use Rattle.example_end.specs.declared.meter.Entry.{Entry}
use Rattle.example_end.specs.declared.meter.Entry.TheVariants.{Arriving, Whole, Cancelled}
use Rattle.example_end.specs.declared.fault.EndFault.{EndFault}
use Rattle.example_end.specs.declared.fault.EndFault.TheVariants.{InUse, TooManyCalls, NoMemory, StillOpen}
use Rattle.example_end.specs.Faults.{fault_of}
use Rattle.example_end.specs.Meter.{is_closed}
use Rattle.example_end.specs.End.{Held, Call, at, put_call, is_arriving, IsTied, Act, First, More, Last, IsCancelled, IsTaken, IsDone, Gives, Turned, becomes, unless, first, further, turn, room_of, limit, may_begin, end_rules, is_of_message}

-- both structures, as the end
abbrev pub held : Calls Meter Entry → Gathered → Held
held m g = record { calls = m.limit; room = g.limit; table = m.entries; gathered = g.lists }

-- a change of one id under both leaves them tied where it ties that id
pub tied_after : (h : Held) (table : ById Entry) (gathered : Lists) (id : ℕ) (entry : Option Entry) (pieces : Option Pieces)
    → IsTied h → table ≡ put h.table id entry → gathered ≡ put h.gathered id pieces → is_some pieces ≡ is_arriving entry
    → (q : ℕ) → is_some (finite.get gathered q) ≡ is_arriving (finite.get table q)
tied_after h table gathered id entry pieces tied is_table is_gathered same q =
    ap (λ g. is_some (finite.get g q)) is_gathered ∙ ap is_some (get-put h.gathered id pieces q)
    ∙ by_id (q == id) ∙ sym (ap (λ m. is_arriving (finite.get m q)) is_table ∙ ap is_arriving (get-put h.table id entry q))
  where
    by_id : (b : Bool) → is_some (cond b pieces (finite.get h.gathered q)) ≡ is_arriving (cond b entry (finite.get h.table q))
    by_id true = same
    by_id false = tied q

-- what stands there already changes nothing
pub put_itself : {V : Type 0} (m : ById V) (id : ℕ) → m ≡ put m id (finite.get m id)
put_itself m id = sym (put_same m id (finite.get m id) refl)

stays : (h : Held) (id : ℕ) → h ≡ put_call h id (at h id)
stays h id = λ i. record h { table = put_itself h.table id i; gathered = put_itself h.gathered id i }

-- an act that is ignored
pub does_ignored : (h : Held) (id : ℕ) (act : Act) → turn (at h id) act ≡ becomes (finite.get h.table id) (finite.get h.gathered id)
    → limit h id act ≡ None → Does end_rules h (record { id = id; what = act }) (Ok IsDone) h
does_ignored h id act is none = record {
  answer = ap told (ap (λ over. within over (turn (at h id) act)) none ∙ ap (within None) is);
  refusal = tt;
  leaves = stays h id ∙ ap (put_call h id) (sym (ap (left (at h id)) is));
}

-- an act that is done
pub does_done : (h h' : Held) (id : ℕ) (act : Act) (entry : Option Entry) (pieces : Option Pieces) → turn (at h id) act ≡ becomes entry pieces
    → limit h id act ≡ None → h' ≡ put_call h id (record { entry = entry; pieces = pieces })
    → Does end_rules h (record { id = id; what = act }) (Ok IsDone) h'
does_done h h' id act entry pieces is none after = record {
  answer = ap told (ap (λ over. within over (turn (at h id) act)) none ∙ ap (within None) is);
  refusal = tt;
  leaves = after ∙ ap (put_call h id) (sym (ap (left (at h id)) is));
}

-- an act of a message that does not come, cancelled
pub ignores_cancel : (h : Held) (id : ℕ) → is_arriving (finite.get h.table id) ≡ false
    → Does end_rules h (record { id = id; what = IsCancelled }) (Ok IsDone) h
ignores_cancel h id away = does_ignored h id IsCancelled
    (ap (λ b. cond b (becomes (Some Cancelled) None) (becomes (finite.get h.table id) (finite.get h.gathered id))) away) refl

pub ignores_more : (h : Held) (id : ℕ) (order : Order) (octets : List ℕ) → finite.get h.table id ≡ Some Cancelled
    → Does end_rules h (record { id = id; what = More order octets }) (Ok IsDone) h
ignores_more h id order octets found = does_ignored h id (More order octets)
    (ap (λ e. further e (finite.get h.gathered id) order (becomes (Some Arriving) (grown (finite.get h.gathered id) octets))) found
    ∙ ap (λ e. becomes e (finite.get h.gathered id)) (sym found))
    (ap (λ e. cond (is_arriving e) (room_of h (length octets)) None) found)

pub ignores_last : (h : Held) (id : ℕ) (order : Order) (octets : List ℕ) → finite.get h.table id ≡ Some Cancelled
    → Does end_rules h (record { id = id; what = Last order octets }) (Ok IsDone) h
ignores_last h id order octets found = does_ignored h id (Last order octets)
    (ap (λ e. further e (finite.get h.gathered id) order (becomes (Some (Whole (octets_in (finite.get h.gathered id) + length octets))) None)) found
    ∙ ap (λ e. becomes e (finite.get h.gathered id)) (sym found))
    (ap (λ e. cond (is_arriving e) (room_of h (length octets)) None) found)

-- where the gatherer accepts octets of a message that comes, so does the end
no_order_fault : (one two : Option GatherFault) → first_fault one two ≡ None → (one ≡ None) × (two ≡ None)
no_order_fault None two none = (refl, none)
no_order_fault (Some fault) two none = absurd cc

has_room : (h : Held) (g : Gathered) (id : ℕ) (order : Order) (octets : List ℕ) → g.limit ≡ h.room → g.lists ≡ h.gathered
    → add_fault g id order (length octets) ≡ None
    → (order_fault (finite.get h.gathered id) order ≡ None) × (room_of h (length octets) ≡ None)
has_room h g id order octets same_limit same_lists none =
    let both = no_order_fault _ _ none in (
      ap (λ m. order_fault (finite.get m id) order) (sym same_lists) ∙ both.0,
      ap (option_map fault_of) (ap (λ b. room_fault b) (λ i. is_over (sym same_limit i) (sym same_lists i) (length octets)) ∙ both.1),
    )

pub does_more : (h h' : Held) (g : Gathered) (id : ℕ) (order : Order) (octets : List ℕ) → g.limit ≡ h.room → g.lists ≡ h.gathered
    → finite.get h.table id ≡ Some Arriving → add_fault g id order (length octets) ≡ None
    → h' ≡ record h { gathered = put h.gathered id (grown (finite.get h.gathered id) octets) }
    → Does end_rules h (record { id = id; what = More order octets }) (Ok IsDone) h'
does_more h h' g id order octets same_limit same_lists found none after =
    let room = has_room h g id order octets same_limit same_lists none in
    let pieces = grown (finite.get h.gathered id) octets in
    does_done h h' id (More order octets) (Some Arriving) pieces
    (ap (λ e. further e (finite.get h.gathered id) order (becomes (Some Arriving) pieces)) found
    ∙ ap (λ f. unless f (becomes (Some Arriving) pieces)) room.0)
    (ap (λ e. cond (is_arriving e) (room_of h (length octets)) None) found ∙ room.1)
    (after ∙ ap (λ (m : ById Entry). record h { table = m; gathered = put h.gathered id pieces }) (sym (put_same h.table id (Some Arriving) found)))

pub does_last : (h h' : Held) (g : Gathered) (id count : ℕ) (order : Order) (octets : List ℕ) → g.limit ≡ h.room → g.lists ≡ h.gathered
    → finite.get h.table id ≡ Some Arriving → add_fault g id order (length octets) ≡ None
    → count ≡ octets_in (finite.get h.gathered id) + length octets
    → h' ≡ put_call h id (record { entry = Some (Whole count); pieces = None })
    → Does end_rules h (record { id = id; what = Last order octets }) (Ok IsDone) h'
does_last h h' g id count order octets same_limit same_lists found none counted after =
    let room = has_room h g id order octets same_limit same_lists none in
    let done = becomes (Some (Whole (octets_in (finite.get h.gathered id) + length octets))) None in
    does_done h h' id (Last order octets) (Some (Whole count)) None
    (ap (λ e. further e (finite.get h.gathered id) order done) found
    ∙ ap (λ f. unless f done) room.0
    ∙ ap (λ n. becomes (Some (Whole n)) None) (sym counted))
    (ap (λ e. cond (is_arriving e) (room_of h (length octets)) None) found ∙ room.1)
    after

-- octets that go on behind those of a message that comes
pub counted : (g g' : Gathered) (id count : ℕ) (order : Order) (octets : List ℕ) → add_fault g id order (length octets) ≡ None
    → g'.lists ≡ put g.lists id (grown (finite.get g.lists id) octets) → count ≡ octets_in (finite.get g'.lists id)
    → count ≡ octets_in (finite.get g.lists id) + length octets
counted g g' id count order octets none puts is =
    is ∙ ap (λ m. octets_in (finite.get m id)) puts ∙ ap octets_in (get-put_same g.lists id (grown (finite.get g.lists id) octets))
    ∙ octets_in-grown (finite.get g.lists id) octets (no_fault (is_over g.limit g.lists (length octets)) (finite.get g.lists id) order none).0

-- octets that are added leave an id with pieces, or without
pub still_some : (pieces : Option Pieces) (octets : List ℕ) → is_some (grown pieces octets) ≡ is_some pieces
still_some None octets = refl
still_some (Some pieces) octets = refl

-- a first piece, where the table and the gatherer have room
first_is : (entry : Option Entry) (pieces : Option Pieces) → is_arriving entry ≡ false → first entry pieces ≡ becomes (Some Arriving) pieces
first_is (Some Arriving) pieces away = absurd cc
first_is (Some (Whole n)) pieces away = refl
first_is (Some Cancelled) pieces away = refl
first_is None pieces away = refl

pub begins : (h : Held) (id : ℕ) → may_begin h id ≡ Ok tt
    → (is_arriving (finite.get h.table id) ≡ false) × (is_one_too_many h.table h.calls id (Some Arriving) ≡ false)
begins h id may = by_tests (is_arriving (finite.get h.table id)) (is_one_too_many h.table h.calls id (Some Arriving)) may
  where
    by_tests : (a b : Bool) → ◌≡◌ {A = Result (Unit {0}) EndFault} (cond a (Err InUse) (cond b (Err TooManyCalls) (Ok tt))) (Ok tt) → (a ≡ false) × (b ≡ false)
    by_tests true b e = absurd cc
    by_tests false true e = absurd cc
    by_tests false false e = (refl, refl)

pub wants_memory : (h h' : Held) (g : Gathered) (id : ℕ) (order : Order) (octets : List ℕ) → g.limit ≡ h.room → g.lists ≡ h.gathered
    → may_begin h id ≡ Ok tt → begin_fault g (length octets) ≡ None → h' ≡ h
    → Does end_rules h (record { id = id; what = First order octets }) (Err NoMemory) h'
wants_memory h h' g id order octets same_limit same_lists may none after =
    let pieces : Option Pieces = Some (record { order = order; octets = octets }) in
    let test = begins h id may in
    let room : room_of h (length octets) ≡ None =
    ap (option_map fault_of) (ap (λ b. room_fault b) (λ i. is_over (sym same_limit i) (sym same_lists i) (length octets)) ∙ none) in
    let limits : limit h id (First order octets) ≡ None = ap (λ b. cond b (Some TooManyCalls) (room_of h (length octets))) test.1 ∙ room in
    let is = first_is (finite.get h.table id) pieces test.0 in
    record {
      answer = tt;
      refusal = inr (refl, ap refusal_of (ap (λ over. within over (first (finite.get h.table id) pieces)) limits ∙ ap (within None) is));
      leaves = after;
    }

-- a message that is over has no pieces, and its entry goes alone
pub away : (entry : Option Entry) → option_map is_closed entry ≢ Some false → is_arriving entry ≡ false
away None over = refl
away (Some Arriving) over = absurd (over refl)
away (Some (Whole n)) over = refl
away (Some Cancelled) over = refl

pub does_take : (h h' : Held) (id : ℕ) (given : Option Entry) → is_arriving (finite.get h.table id) ≡ false → given ≡ finite.get h.table id
    → h' ≡ record h { table = put h.table id None } → Does end_rules h (record { id = id; what = IsTaken }) (Ok (Gives given)) h'
does_take h h' id given shut is after =
    let taken : Turned = Ok (record { now = record { entry = None; pieces = finite.get h.gathered id }; answer = Gives (finite.get h.table id) }) in
    let turned : turn (at h id) IsTaken ≡ taken = ap (λ b. cond b (Err StillOpen) taken) shut in
    record {
      answer = ap told (ap (within None) turned) ∙ ap (λ e. Ok (Gives e)) (sym is);
      refusal = tt;
      leaves = after ∙ ap (λ (g : Lists). record h { table = put h.table id None; gathered = g }) (put_itself h.gathered id)
          ∙ ap (put_call h id) (sym (ap (left (at h id)) turned));
    }

-- no piece where none is
pub no_pieces : (pieces : Option Pieces) → is_some pieces ≡ false → pieces ≡ None
no_pieces None none = refl
no_pieces (Some pieces) none = absurd cc

-- a change of one call leaves each other
pub end_apart : IsApart end_rules
end_apart h id call q =
    (λ i. record { entry = get-put h.table id call.entry q i; pieces = get-put h.gathered id call.pieces q i }) ∙ by_id (q == id)
  where
    by_id : (b : Bool) → ◌≡◌ {A = Call} (record { entry = cond b call.entry (finite.get h.table q); pieces = cond b call.pieces (finite.get h.gathered q) })
        (cond b call (at h q))
    by_id true = refl
    by_id false = refl

-- a message's own refusals are told from those of the limits and of memory
pub told_apart : Distinguishes end_rules is_of_message
told_apart = record {
  limits = λ h act why is. by_act h act.id act.what why is;
  memory = refl;
}
  where
    by_room : (over : Bool) (why : EndFault) → option_map fault_of (room_fault over) ≡ Some why → is_of_message why ≡ false
    by_room true why is = let same : fault_of GatherFull ≡ why = cc in ap is_of_message (sym same)
    by_room false why is = absurd cc

    by_tests : (many over : Bool) (why : EndFault)
        → cond many (Some TooManyCalls) (option_map fault_of (room_fault over)) ≡ Some why → is_of_message why ≡ false
    by_tests true over why is = let same : TooManyCalls ≡ why = cc in ap is_of_message (sym same)
    by_tests false over why is = by_room over why is

    by_coming : (coming over : Bool) (why : EndFault) → cond coming (option_map fault_of (room_fault over)) None ≡ Some why → is_of_message why ≡ false
    by_coming true over why is = by_room over why is
    by_coming false over why is = absurd cc

    by_act : (h : Held) (id : ℕ) (act : Act) (why : EndFault) → limit h id act ≡ Some why → is_of_message why ≡ false
    by_act h id (First order octets) why is =
        by_tests (is_one_too_many h.table h.calls id (Some Arriving)) (is_over h.room h.gathered (length octets)) why is
    by_act h id (More order octets) why is = by_coming (is_arriving (finite.get h.table id)) (is_over h.room h.gathered (length octets)) why is
    by_act h id (Last order octets) why is = by_coming (is_arriving (finite.get h.table id)) (is_over h.room h.gathered (length octets)) why is
    by_act h id IsCancelled why is = absurd cc
    by_act h id IsTaken why is = absurd cc
