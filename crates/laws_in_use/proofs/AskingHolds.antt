-- Both ways of being answered hold the same calls.
use Rattle.std.proofs.Common.{◌≡◌, ℕ, ◌==◌, Bool, true, false, List, [], ◌∷◌, ◌++◌, map, take, Some, refl}
use Rattle.giop_types.specs.declared.interfaces.interface.Interface.{Interface}
use Rattle.giop_cdr.specs.Layout.{number, chosen}
use Rattle.giop_cdr.specs.Reading.Values.{field_at, number_at}
use Rattle.giop_cdr.specs.declared.order.Order.TheVariants.{Big, Little}
use Rattle.giop_msg.specs.Joined.{joined_from}
use Rattle.giop_msg.specs.Messages.Laws.{IsWhole}
use Rattle.giop_msg.specs.Messages.LocateReply.{locate_reply}
use Rattle.giop_msg.specs.RequestId.{request_id_layout}
use Rattle.giop_msg.specs.Stream.{Unread}
use Rattle.giop_msg.specs.declared.version.Version.TheVariants.{V10, V12}
use Rattle.giop_mux.specs.Runs.{Hears}
use Rattle.giop_calls.specs.declared.client.call.Call.TheVariants as asked
use Rattle.giop_calls.specs.declared.client.event.ClientEvent.{ClientEvent}
use Rattle.giop_calls.specs.declared.client.event.ClientEvent.TheVariants as event
use Rattle.giop_calls.specs.declared.client.heard.HeardReply.{HeardReply}
use Rattle.giop_calls.specs.declared.client.heard.HeardReply.TheVariants as heard
use Rattle.giop_calls.specs.declared.kind.CallKind.TheVariants as kind
use Rattle.giop_session.specs.Items.Carries.{Carries, CarriesItem, Got, behind_all, done_by}
use Rattle.giop_session.specs.Items.ClientCarries.{ClientItem, Known, SpellsReply, client_telling, unknown}
use Rattle.giop_session.specs.Runs.Events.{Comes, Event, own_events, Does as DoesTo}
use Rattle.giop_session.specs.Runs.Inputs.{AreEvents, Holds, Input}
use Rattle.giop_session.specs.Hearing.Feeding.{nothing_unread}
use Rattle.laws_in_use.specs.Asking.{Acts, asking, asking_key, cancelling, here, here_begins, here_ends, one_way, one_way_by, other_way, own_acts, sending, short, short_octets, told, told_of_nine, told_of_seven, unknown_big, unknown_key, unknown_little}
use Rattle.laws_in_use.specs.Locating.{cancel_big, door, here_little, key, key_big, key_little, limits, tight_limits}
use Rattle.laws_in_use.proofs.AskingMessages as message
use Rattle.laws_in_use.proofs.AskingReads as read
use Rattle.laws_in_use.proofs.ByIds.{by_id, if_is}
use Rattle.laws_in_use.proofs.LocatingReads.{tight, wide}

-- these acts are what is told of them
pub record AreTold (acts : Acts) : Type 0 where
  pub asks : done_by acts.asks ≡ Hears (event.Call (asked.Locate door) 2)
  pub asks_key : done_by acts.asks_key ≡ Hears (event.Call (asked.Locate key) 1)
  pub cancels : done_by acts.cancels ≡ Hears event.Cancel
  pub sends : done_by acts.sends ≡ Hears event.Send
  pub asks_again : done_by acts.asks_again ≡ Hears (event.Call (asked.Locate key) 1)

pub own_told : AreTold own_acts
own_told = record { asks = refl; asks_key = refl; cancels = refl; sends = refl; asks_again = refl }

-- the events of both ways
abbrev pub one_events_by : Acts → List (Event ClientEvent)
one_events_by acts =
    DoesTo 7 acts.asks ∷ DoesTo 9 acts.asks_key ∷ DoesTo 9 acts.cancels ∷ DoesTo 7 acts.sends ∷ Comes here_begins ∷ Comes unknown_little
    ∷ DoesTo 9 acts.asks_again ∷ Comes here_ends ∷ Comes short ∷ []

abbrev pub other_events : List (Event ClientEvent)
other_events =
    DoesTo 9 (asking_key key_big) ∷ DoesTo 9 (cancelling cancel_big) ∷ Comes unknown_big ∷ DoesTo 9 (asking_key key_little)
    ∷ DoesTo 7 asking ∷ DoesTo 7 sending ∷ Comes short ∷ Comes here_little ∷ []

-- the first, and more behind it
pub one_are_then : (acts : Acts) (behind : List (Input ClientEvent)) (events : List (Event ClientEvent)) (left : Unread)
    → AreEvents (wide []) behind events left
    → AreEvents (nothing_unread limits.message) (one_way_by acts ++ behind) (one_events_by acts ++ events) left
one_are_then acts behind events left more = (
  _,
  refl,
  (
    _,
    refl,
    (
      _,
      refl,
      (
        [],
        _,
        _,
        read.first.takes,
        read.first.waits,
        refl,
        (
          _,
          refl,
          (
            here_begins ∷ unknown_little ∷ [],
            _,
            _,
            read.second.takes,
            read.second.waits,
            refl,
            (
              _,
              refl,
              (here_ends ∷ short ∷ [], _, events, read.third.takes, read.third.waits, refl, more),
            ),
          ),
        ),
      ),
    ),
  ),
)

pub other_are : AreEvents (nothing_unread tight_limits.message) other_way other_events (tight [])
other_are = (
  _,
  refl,
  (
    _,
    refl,
    (
      unknown_big ∷ [],
      _,
      _,
      read.late.takes,
      read.late.waits,
      refl,
      (
        _,
        refl,
        (
          _,
          refl,
          (
            _,
            refl,
            (short ∷ here_little ∷ [], _, [], read.last.takes, read.last.waits, refl, (refl, refl)),
          ),
        ),
      ),
    ),
  ),
)

-- those of an id, where it is 7, or 9
abbrev pub one_by : Acts → List (Event ClientEvent) → Bool → Bool → List (Event ClientEvent)
one_by acts behind seven nine =
    if_is seven (DoesTo 7 acts.asks) (if_is nine (DoesTo 9 acts.asks_key) (if_is nine (DoesTo 9 acts.cancels)
    (if_is seven (DoesTo 7 acts.sends) (if_is seven (Comes here_begins) (if_is nine (Comes unknown_little)
    (if_is nine (DoesTo 9 acts.asks_again) (if_is seven (Comes here_ends) (if_is nine (Comes short) behind))))))))

abbrev other_by : Bool → Bool → List (Event ClientEvent)
other_by seven nine =
    if_is nine (DoesTo 9 (asking_key key_big)) (if_is nine (DoesTo 9 (cancelling cancel_big)) (if_is nine (Comes unknown_big)
    (if_is nine (DoesTo 9 (asking_key key_little)) (if_is seven (DoesTo 7 asking) (if_is seven (DoesTo 7 sending)
    (if_is nine (Comes short) (if_is seven (Comes here_little) [])))))))

pub one_own : (acts : Acts) (behind : List (Event ClientEvent)) (id : ℕ)
    → own_events id (one_events_by acts ++ behind) ≡ one_by acts (own_events id behind) (id == 7) (id == 9)
unfolding request_id_layout chosen number number_at field_at
one_own acts behind id = refl

other_own : (id : ℕ) → own_events id other_events ≡ other_by (id == 7) (id == 9)
unfolding request_id_layout chosen number number_at field_at
other_own id = refl

-- octets that spell no LocateReply
short_spells_none : (interface : Interface) → IsWhole (locate_reply V10) → (told : HeardReply)
    → SpellsReply interface (Some (asked.Locate key)) kind.Locate V10 Big short_octets told → ⊥
short_spells_none interface old (heard.Locate told) spelled =
    let found = (old.exact (joined_from Big short_octets)).only told spelled in
    let refused = message.read.short in
    absurd cc
short_spells_none interface old (heard.Reply told) spelled = spelled
short_spells_none interface old (heard.Undecoded fault) spelled = spelled
short_spells_none interface old heard.Unread spelled = spelled

module _ (interface : Interface) (old : IsWhole (locate_reply V10)) (table : IsWhole (locate_reply V12)) where
  abbrev pub CarriesTold : List ClientItem → List (Event ClientEvent) → Type 0
  CarriesTold items events = Carries (client_telling interface) unknown items events

  module _ (acts : Acts) (are : AreTold acts) where
    pub one_seven : CarriesTold told_of_seven (one_by acts [] true false)
    one_seven = (
      DoesTo 7 acts.asks ∷ [],
      _,
      refl,
      (7, acts.asks, are.asks, refl),
      (
        DoesTo 7 acts.sends ∷ [],
        _,
        refl,
        (7, acts.sends, are.sends, refl),
        (
          Comes here_begins ∷ Comes here_ends ∷ [],
          [],
          refl,
          (
            kind.Locate,
            V12,
            Big,
            here_begins ∷ here_ends ∷ [],
            refl,
            (refl, refl),
            (table.exact (joined_from Big _)).found here message.read.here_joined,
          ),
          refl,
        ),
      ),
    )

    -- what is told of 9, and what more is told behind it
    pub one_nine_then : (items : List ClientItem) (behind : List (Event ClientEvent))
        → Carries (client_telling interface) (behind_all (client_telling interface) unknown told_of_nine) items behind
        → CarriesTold (told_of_nine ++ items) (one_by acts behind false true)
    one_nine_then items behind more = (
      DoesTo 9 acts.asks_key ∷ [],
      _,
      refl,
      (9, acts.asks_key, are.asks_key, refl),
      (
        DoesTo 9 acts.cancels ∷ [],
        _,
        refl,
        (9, acts.cancels, are.cancels, refl),
        (
          Comes unknown_little ∷ [],
          _,
          refl,
          (
            kind.Locate,
            V10,
            Little,
            unknown_little ∷ [],
            refl,
            refl,
            (old.exact (joined_from Little _)).found unknown_key message.read.unknown_little,
          ),
          (
            DoesTo 9 acts.asks_again ∷ [],
            _,
            refl,
            (9, acts.asks_again, are.asks_again, refl),
            (Comes short ∷ [], behind, refl, (short ∷ [], refl, refl, refl, short_spells_none interface old), more),
          ),
        ),
      ),
    )

  other_nine : CarriesTold told_of_nine (other_by false true)
  other_nine = (
    DoesTo 9 (asking_key key_big) ∷ [],
    _,
    refl,
    (9, asking_key key_big, refl, refl),
    (
      DoesTo 9 (cancelling cancel_big) ∷ [],
      _,
      refl,
      (9, cancelling cancel_big, refl, refl),
      (
        Comes unknown_big ∷ [],
        _,
        refl,
        (kind.Locate, V10, Big, unknown_big ∷ [], refl, refl, (old.exact (joined_from Big _)).found unknown_key message.read.unknown_big),
        (
          DoesTo 9 (asking_key key_little) ∷ [],
          _,
          refl,
          (9, asking_key key_little, refl, refl),
          (Comes short ∷ [], [], refl, (short ∷ [], refl, refl, refl, short_spells_none interface old), refl),
        ),
      ),
    ),
  )

  pub one_holds : Holds (client_telling interface) unknown limits.message one_way told
  one_holds = (
    one_events_by own_acts,
    wide [],
    one_are_then own_acts [] [] (wide []) (refl, refl),
    by_id CarriesTold told_of_seven told_of_nine (one_by own_acts []) (one_seven own_acts own_told) (one_nine_then own_acts own_told [] [] refl) refl
        (λ id. own_events id (one_events_by own_acts)) (one_own own_acts []),
  )

  -- what is known where the answer under 7 comes
  abbrev pub asked_then : Known
  asked_then = behind_all (client_telling interface) unknown (take 2 told_of_seven)

  module _ (uncut : CarriesItem (client_telling interface) asked_then (Got (heard.Locate here)) (map Comes (here_little ∷ []))) where
    other_seven : CarriesTold told_of_seven (other_by true false)
    other_seven = (
      DoesTo 7 asking ∷ [],
      _,
      refl,
      (7, asking, refl, refl),
      (
        DoesTo 7 sending ∷ [],
        _,
        refl,
        (7, sending, refl, refl),
        (Comes here_little ∷ [], [], refl, uncut, refl),
      ),
    )

    pub other_holds : Holds (client_telling interface) unknown tight_limits.message other_way told
    other_holds = (
      other_events,
      tight [],
      other_are,
      by_id CarriesTold told_of_seven told_of_nine other_by other_seven other_nine refl (λ id. own_events id other_events) other_own,
    )
