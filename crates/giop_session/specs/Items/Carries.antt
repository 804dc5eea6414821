-- What is said of one call on a connection, in items, and the events of an end that carry them: a
-- message counts by the value that it spells, in however many Fragments and in whatever byte order
-- it comes (CORBA 3.3 Part 2, 9.4 and 9.4.9).
use Rattle.std.specs.Prelude.{◌≡◌, ℕ, Bool, true, false, not, List, [], ◌∷◌, ◌++◌, map}
use Rattle.giop_cdr.specs.declared.order.Order.{Order}
use Rattle.giop_cdr.specs.Ending.{Ending}
use Rattle.giop_msg.specs.declared.kind.Kind.{Kind}
use Rattle.giop_msg.specs.declared.kind.Kind.TheVariants.{Fragment}
use Rattle.giop_msg.specs.declared.msg.Msg.{Msg}
use Rattle.giop_msg.specs.declared.version.Version.{Version}
use Rattle.giop_msg.specs.Cut.{CanCut, IsCut, joined, message_of}
use Rattle.giop_msg.specs.Messages.Outcome.{joined_into}
use Rattle.giop_mux.specs.Runs.{Happening}
use Rattle.giop_mux.specs.Runs.{Hears as IsTold, IsTaken as TakesOut}
use Rattle.giop_calls.specs.declared.kind.CallKind.{CallKind}
use Rattle.giop_session.specs.Runs.Events.{Event, Comes, Local, Does as DoesTo}

-- a message of this kind and the Fragments behind it, all in one version and one byte order: more
-- are announced by each but the last; and by the last, where some are still to come (9.4.1)
abbrev pub IsSeries : Kind → Version → Order → Bool → List Msg → Type 0
IsSeries kind version order more [] = ⊥
IsSeries kind version order more (m ∷ []) = m ≡ message_of version kind order more m.payload
IsSeries kind version order more (m ∷ n ∷ messages) =
    (m ≡ message_of version kind order true m.payload)
    × IsSeries Fragment version order more (n ∷ messages)

-- these messages are a value of a kind, written in a byte order and cut into pieces of a size
pub record IsWrittenAs {A : Type 0} (layout : Ending A) (order : Order) (value : A) (kind : Kind)
    (piece : ℕ) (version : Version) (messages : List Msg) : Type 0 where
  pub fits : layout.fits value ≡ true
  pub holds : layout.holds value
  pub can_cut : CanCut kind (layout.written value (joined_into order)).octets piece
  pub is_cut : IsCut version kind order (layout.written value (joined_into order)).octets piece
      messages

-- Fragments that continue what nobody asks for, in any byte order: any number, of which more are
-- announced by each; or some with the last one
abbrev pub AreFragments : Bool → List Msg → Type 0
AreFragments ends [] = ends ≡ false
AreFragments ends (m ∷ []) = (m.kind ≡ Fragment) × (m.more ≡ not ends)
AreFragments ends (m ∷ n ∷ messages) =
    (m.kind ≡ Fragment) × (m.more ≡ true) × AreFragments ends (n ∷ messages)

-- what is said of one call, and what the end does with it; V is what its own acts are
pub data Item (Message V : Type 0) : Type 0 where
  -- a message came that spells this value
  Got : Message → Item Message V
  -- one of this kind, version and byte order came whose joined octets are these and spell no value
  Bad : CallKind → Version → Order → List ℕ → Item Message V
  -- one of this kind began to come, and its last piece didn't
  Begun : CallKind → Item Message V
  -- Fragments came behind a cancel, with the last one or without
  Rest : Bool → Item Message V
  -- a CancelRequest came (9.4.4)
  Cancel : Item Message V
  -- the end did this
  Did : Happening V → Item Message V

-- what an end did, its messages aside
abbrev pub done_by : {V : Type 0} → Local V → Happening V
done_by (IsTold planned) = IsTold planned.event
done_by TakesOut = TakesOut

-- how what an end meets says what becomes of its calls, where T is what is known of one
pub record Telling (T Message V : Type 0) : Type 1 where
  -- the message type that asks, or answers, so
  pub type_of : CallKind → Kind
  -- joined octets of this kind, version and byte order spell a value, to this call
  pub Spells : T → CallKind → Version → Order → List ℕ → Message → Type 0
  -- a message by which the peer cancels its call
  pub Cancels : Msg → Type 0
  -- the call was cancelled
  pub WasCancelled : T → Type 0
  -- what is known behind an item
  pub behind : T → Item Message V → T

module _ {T Message V : Type 0} (telling : Telling T Message V) where
  -- these events carry an item of a call of which this is known
  abbrev pub CarriesItem : T → Item Message V → List (Event V) → Type 0
  CarriesItem t (Got message) events =
      (kind : CallKind) × (version : Version) × (order : Order) × (messages : List Msg)
      × (events ≡ map Comes messages)
      × IsSeries (telling.type_of kind) version order false messages
      × telling.Spells t kind version order (joined messages) message
  CarriesItem t (Bad kind version order octets) events =
      (messages : List Msg) × (events ≡ map Comes messages)
      × IsSeries (telling.type_of kind) version order false messages
      × (joined messages ≡ octets)
      × ((message : Message) → telling.Spells t kind version order octets message → ⊥)
  CarriesItem t (Begun kind) events =
      (version : Version) × (order : Order) × (messages : List Msg)
      × (events ≡ map Comes messages)
      × IsSeries (telling.type_of kind) version order true messages
  CarriesItem t (Rest ends) events =
      telling.WasCancelled t × (messages : List Msg) × (events ≡ map Comes messages)
      × AreFragments ends messages
  CarriesItem t Cancel events =
      (m : Msg) × telling.Cancels m × (events ≡ Comes m ∷ [])
  CarriesItem t (Did act) events =
      (id : ℕ) × (local : Local V) × (done_by local ≡ act) × (events ≡ DoesTo id local ∷ [])

  -- these events carry the items in turn
  abbrev pub Carries : T → List (Item Message V) → List (Event V) → Type 0
  Carries t [] events = events ≡ []
  Carries t (item ∷ items) events = (one rest : List (Event V)) × (events ≡ one ++ rest)
      × CarriesItem t item one × Carries (telling.behind t item) items rest

  -- what is known behind all of them
  abbrev pub behind_all : T → List (Item Message V) → T
  behind_all t [] = t
  behind_all t (item ∷ items) = behind_all (telling.behind t item) items
