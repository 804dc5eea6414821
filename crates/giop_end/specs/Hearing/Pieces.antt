-- What both ends make of the pieces of a message (CORBA 3.3 Part 2, 9.4.9). Of a message that is
-- gathered a side knows something: a server its kind, a client the call that it answers.
use Rattle.std.specs.Prelude.{◌≡◌, ℕ, Bool, true, false, if◌then◌else◌, List, ◌++◌, Option, Some, None, Ok, IsOk}
use Rattle.std.specs.FinMap as finite
use Rattle.giop_cdr.specs.declared.order.Order.{Order}
use Rattle.giop_types.specs.declared.interfaces.interface.Interface.{Interface}
use Rattle.giop_msg.specs.declared.msg.Msg.{Msg}
use Rattle.giop_mux.specs.declared.step.Step.{Step}
use Rattle.giop_calls.specs.declared.fault.CallFault.{CallFault}
use Rattle.giop_frag.specs.Gathered.{Pieces, same_order}
use Rattle.giop_table.specs.declared.slot.Slot.{Slot}
use Rattle.giop_table.specs.CallTable.{Act, Call, Held, Hears, More, Nothing, at}
use Rattle.giop_end.specs.Hearing.Heard.{behind_id, silently}

-- how a side joins pieces: what an entry knows of the message that is gathered for it; what joined
-- octets come to, at the message that brings the last of them; and the events of a further piece,
-- of the last one, and of one that continues nothing
pub record PiecesOf (E V Known Whole : Type 0) : Type 0 where
  pub known : E → Option Known
  pub whole : Interface → Known → Msg → List ℕ → Whole
  pub more : V
  pub last : Whole → V
  pub stray : Msg → V

-- what is known of the message that is gathered under an id
abbrev pub known_at : {E Known : Type 0} → (E → Option Known) → Option (Slot E) → Option Known
known_at known None = None
known_at known (Some slot) = known slot.entry

-- the pieces that a Fragment of this byte order continues, with what is known of their message
abbrev pub continued : {Known : Type 0} → Order → Option Known → Option Pieces
    → Option (Known × List ℕ)
continued order (Some known) (Some pieces) =
    if same_order order pieces.order then Some (known, pieces.octets) else None
continued order known pieces = None

module _ {E V Known Whole : Type 0} (side : PiecesOf E V Known Whole) where
  -- those of a call, and those under an id
  abbrev pub continued_in : Order → Call E → Option (Known × List ℕ)
  continued_in order call = continued order (known_at side.known call.slot) call.pieces

  abbrev pub continued_at : {R : Type 0} → Held R E → ℕ → Order → Option (Known × List ℕ)
  continued_at h id order = continued_in order (at h id)

  -- of a message that is gathered under an id, and of its pieces, this is said, if one is
  abbrev pub OfGathered : {R : Type 0} → Held R E → ℕ → (Known → Pieces → Type 0) → Type 0
  OfGathered h id Says = (known : Known) (pieces : Pieces)
      → known_at side.known (finite.get h.table id) ≡ Some known
      → finite.get h.gathered id ≡ Some pieces → Says known pieces

  -- a piece comes that continues what is gathered, and more are to come
  abbrev pub goes_on : Msg → Act V
  goes_on m = Hears (silently side.more) (More (behind_id m))

  -- what these octets come to with those of the last piece
  abbrev pub whole_with : Interface → Known → Msg → List ℕ → Whole
  whole_with interface known m octets = side.whole interface known m (octets ++ behind_id m)

  -- that one comes
  abbrev pub completes : Interface → Known → Msg → List ℕ → Act V
  completes interface known m octets =
      Hears (silently (side.last (whole_with interface known m octets))) (More (behind_id m))

  -- a Fragment comes, whose first four octets are its request id; it continues these pieces, or
  -- none
  abbrev pub continues : Interface → Msg → Option (Known × List ℕ) → Act V
  continues interface m None = Hears (silently (side.stray m)) Nothing
  continues interface m (Some pieces) =
      if m.more then goes_on m else completes interface pieces.0 m pieces.1

  -- one comes for a call, and for an id
  abbrev pub continues_in : Interface → Msg → Call E → Act V
  continues_in interface m call = continues interface m (continued_in m.order call)

  abbrev pub continues_at : {R : Type 0} → Interface → Msg → Held R E → ℕ → Act V
  continues_at interface m h id = continues_in interface m (at h id)

-- whether an entry gathers pieces, if there is one
abbrev pub gathers_in : {E : Type 0} → (E → Bool) → Option E → Bool
gathers_in gathering None = false
gathers_in gathering (Some entry) = gathering entry

-- a step is accepted, and nothing is gathered behind it
abbrev pub Ends : {E : Type 0} → (E → Bool) → Step E (Unit {0}) CallFault → Type 0
Ends gathering step = IsOk step.outcome × (gathers_in gathering step.entry ≡ false)

-- the rule of a side goes by what its entries know. What they know of is gathered; a further piece
-- of it changes nothing; the last one is accepted, and then nothing is gathered; and a piece that
-- continues nothing begins nothing
pub record JoinsBy {E V Known Whole : Type 0} (next : Option E → V → Step E (Unit {0}) CallFault)
    (gathering : E → Bool) (side : PiecesOf E V Known Whole) : Type 0 where
  pub gathered : (entry : E) (known : Known)
      → side.known entry ≡ Some known → gathering entry ≡ true
  pub more : (entry : E) (known : Known) → side.known entry ≡ Some known
      → next (Some entry) side.more ≡ record { entry = Some entry; outcome = Ok tt }
  pub last : (entry : E) (known : Known) (interface : Interface) (m : Msg) (octets : List ℕ)
      → side.known entry ≡ Some known
      → Ends gathering (next (Some entry) (side.last (side.whole interface known m octets)))
  pub stray : (entry : Option E) (m : Msg) → gathers_in gathering entry ≡ false
      → gathers_in gathering (next entry (side.stray m)).entry ≡ false
