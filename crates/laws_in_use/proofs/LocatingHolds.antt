-- Both ways of locating hold the same calls.
use Rattle.std.proofs.Common.{◌≡◌, ℕ, ◌==◌, Bool, true, false, List, [], ◌∷◌, ◌++◌, map, None, refl}
use Rattle.giop_types.specs.declared.interfaces.interface.Interface.{Interface}
use Rattle.giop_cdr.specs.Layout.{number, chosen}
use Rattle.giop_cdr.specs.Reading.Values.{field_at, number_at}
use Rattle.giop_cdr.specs.declared.order.Order.TheVariants.{Big, Little}
use Rattle.giop_msg.specs.Laws.{IsTable}
use Rattle.giop_msg.specs.Locate.{locate_request}
use Rattle.giop_msg.specs.RequestId.{request_id_layout}
use Rattle.giop_msg.specs.Stream.{Unread}
use Rattle.giop_msg.specs.declared.version.Version.TheVariants.{V10, V12}
use Rattle.giop_mux.specs.Runs.{Hears}
use Rattle.giop_calls.specs.declared.kind.CallKind.TheVariants as kind
use Rattle.giop_calls.specs.declared.server.event.ServerEvent.{ServerEvent}
use Rattle.giop_calls.specs.declared.server.event.ServerEvent.TheVariants.{AnswerLocate}
use Rattle.giop_calls.specs.declared.server.heard.HeardCall.TheVariants as heard
use Rattle.giop_session.specs.Items.Carries.{Carries, CarriesItem, Got, behind_all, done_by}
use Rattle.giop_session.specs.Runs.Events.{Comes, Event, Local, own_events, Does as DoesTo}
use Rattle.giop_session.specs.Runs.Inputs.{AreEvents, Holds, Input}
use Rattle.giop_session.specs.Hearing.Feeding.{nothing_unread}
use Rattle.giop_session.specs.Items.ServerCarries.{ServerItem, server_telling}
use Rattle.laws_in_use.specs.Locating.{answering, bad, cancel_big, cancel_little, door, door_begins, door_ends, door_whole, here_big, here_little, key_big, key_little, limits, one_way, one_way_by, other_way, said, said_of_nine, said_of_seven, tight_limits}
use Rattle.laws_in_use.proofs.ByIds.{by_id, if_is}
use Rattle.laws_in_use.proofs.LocatingReads.{first, last, only, second, third, tight, wide}
use Rattle.laws_in_use.proofs.LocatingSpelled.{bad_spells_none, door_spelled, key_big_spelled, key_little_spelled}

-- the events of both ways; this act answers
abbrev pub one_events_by : Local ServerEvent → List (Event ServerEvent)
one_events_by act =
    Comes door_begins ∷ Comes key_little ∷ Comes door_ends ∷ Comes cancel_big ∷ DoesTo 7 act ∷ Comes bad ∷ []

abbrev pub other_events : List (Event ServerEvent)
other_events = Comes key_big ∷ Comes cancel_little ∷ Comes bad ∷ Comes door_whole ∷ DoesTo 7 (answering here_little) ∷ []

-- the first, and more behind it
pub one_are_then : (act : Local ServerEvent) (acts : List (Input ServerEvent)) (events : List (Event ServerEvent)) (left : Unread)
    → AreEvents (wide []) acts events left
    → AreEvents (nothing_unread limits.message) (one_way_by act ++ acts) (one_events_by act ++ events) left
one_are_then act acts events left more = (
  [],
  _,
  one_events_by act ++ events,
  first.takes,
  first.waits,
  refl,
  (
    door_begins ∷ key_little ∷ [],
    _,
    Comes door_ends ∷ Comes cancel_big ∷ DoesTo 7 act ∷ Comes bad ∷ events,
    second.takes,
    second.waits,
    refl,
    (
      door_ends ∷ cancel_big ∷ [],
      _,
      DoesTo 7 act ∷ Comes bad ∷ events,
      third.takes,
      third.waits,
      refl,
      (Comes bad ∷ events, refl, (bad ∷ [], _, events, last.takes, last.waits, refl, more)),
    ),
  ),
)

pub other_are : AreEvents (nothing_unread tight_limits.message) other_way other_events (tight [])
other_are = (
  key_big ∷ cancel_little ∷ bad ∷ door_whole ∷ [],
  _,
  DoesTo 7 (answering here_little) ∷ [],
  only.takes,
  only.waits,
  refl,
  ([], refl, (refl, refl)),
)

-- those of an id, where it is 7, or 9
abbrev pub one_by : Local ServerEvent → List (Event ServerEvent) → Bool → Bool → List (Event ServerEvent)
one_by act behind seven nine =
    if_is seven (Comes door_begins) (if_is nine (Comes key_little) (if_is seven (Comes door_ends) (if_is nine (Comes cancel_big)
    (if_is seven (DoesTo 7 act) (if_is nine (Comes bad) behind)))))

abbrev other_by : Bool → Bool → List (Event ServerEvent)
other_by seven nine =
    if_is nine (Comes key_big) (if_is nine (Comes cancel_little) (if_is nine (Comes bad) (if_is seven (Comes door_whole)
    (if_is seven (DoesTo 7 (answering here_little)) []))))

pub one_own : (act : Local ServerEvent) (behind : List (Event ServerEvent)) (id : ℕ)
    → own_events id (one_events_by act ++ behind) ≡ one_by act (own_events id behind) (id == 7) (id == 9)
unfolding request_id_layout chosen number number_at field_at
one_own act behind id = refl

other_own : (id : ℕ) → own_events id other_events ≡ other_by (id == 7) (id == 9)
unfolding request_id_layout chosen number number_at field_at
other_own id = refl

module _ (interface : Interface) (old : IsTable (locate_request V10)) (table : IsTable (locate_request V12))
    (cut : CarriesItem (server_telling interface) None (Got (heard.Locate door)) (map Comes (door_begins ∷ door_ends ∷ []))) where
  abbrev pub CarriesSaid : List ServerItem → List (Event ServerEvent) → Type 0
  CarriesSaid items events = Carries (server_telling interface) None items events

  module _ (act : Local ServerEvent) (answers : done_by act ≡ Hears (AnswerLocate true)) where
    -- what is said of 7, and what more is said behind it
    pub one_seven_then : (items : List ServerItem) (behind : List (Event ServerEvent))
        → Carries (server_telling interface) (behind_all (server_telling interface) None said_of_seven) items behind
        → CarriesSaid (said_of_seven ++ items) (one_by act behind true false)
    one_seven_then items behind more = (
      Comes door_begins ∷ Comes door_ends ∷ [],
      DoesTo 7 act ∷ behind,
      refl,
      cut,
      (DoesTo 7 act ∷ [], behind, refl, (7, act, answers, refl), more),
    )

    pub one_nine : CarriesSaid said_of_nine (one_by act [] false true)
    one_nine = (
      Comes key_little ∷ [],
      Comes cancel_big ∷ Comes bad ∷ [],
      refl,
      (kind.Locate, V10, Little, key_little ∷ [], refl, refl, key_little_spelled old),
      (
        Comes cancel_big ∷ [],
        Comes bad ∷ [],
        refl,
        (cancel_big, refl, refl),
        (Comes bad ∷ [], [], refl, (bad ∷ [], refl, refl, refl, bad_spells_none interface old), refl),
      ),
    )

  other_seven : CarriesSaid said_of_seven (other_by true false)
  other_seven = (
    Comes door_whole ∷ [],
    DoesTo 7 (answering here_little) ∷ [],
    refl,
    (kind.Locate, V12, Little, door_whole ∷ [], refl, refl, door_spelled table),
    (DoesTo 7 (answering here_little) ∷ [], [], refl, (7, answering here_little, refl, refl), refl),
  )

  other_nine : CarriesSaid said_of_nine (other_by false true)
  other_nine = (
    Comes key_big ∷ [],
    Comes cancel_little ∷ Comes bad ∷ [],
    refl,
    (kind.Locate, V10, Big, key_big ∷ [], refl, refl, key_big_spelled old),
    (
      Comes cancel_little ∷ [],
      Comes bad ∷ [],
      refl,
      (cancel_little, refl, refl),
      (Comes bad ∷ [], [], refl, (bad ∷ [], refl, refl, refl, bad_spells_none interface old), refl),
    ),
  )

  pub one_holds : Holds (server_telling interface) None limits.message one_way said
  one_holds = (
    one_events_by (answering here_big),
    wide [],
    one_are_then (answering here_big) [] [] (wide []) (refl, refl),
    by_id CarriesSaid said_of_seven said_of_nine (one_by (answering here_big) []) (one_seven_then (answering here_big) refl [] [] refl)
        (one_nine (answering here_big) refl) refl (λ id. own_events id (one_events_by (answering here_big))) (one_own (answering here_big) []),
  )

  pub other_holds : Holds (server_telling interface) None tight_limits.message other_way said
  other_holds = (
    other_events,
    tight [],
    other_are,
    by_id CarriesSaid said_of_seven said_of_nine other_by other_seven other_nine refl (λ id. own_events id other_events) other_own,
  )
