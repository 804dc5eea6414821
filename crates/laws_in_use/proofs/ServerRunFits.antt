-- What a server's end is given in a run fits it in either order, and each call alone says what the run says of it.
use Rattle.std.proofs.Common.{◌≡◌, ◌⊎◌, ℕ, ◌==◌, Bool, true, false, if◌then◌else◌, List, [], ◌∷◌, map, None, refl, sym, subst, arith, inl, inr}
use Rattle.std.proofs.lemmas.Bool.Decides.{nat_tests}
use Rattle.giop_types.specs.declared.interfaces.interface.Interface.{Interface}
use Rattle.giop_cdr.specs.Layout.{number, chosen}
use Rattle.giop_cdr.specs.Reading.Values.{field_at, number_at}
use Rattle.giop_cdr.specs.declared.order.Order.TheVariants.{Big}
use Rattle.giop_msg.specs.Laws.{IsTable}
use Rattle.giop_msg.specs.Locate.{locate_request}
use Rattle.giop_msg.specs.RequestId.{request_id_layout}
use Rattle.giop_msg.specs.declared.version.Version.TheVariants.{V10, V12}
use Rattle.giop_calls.specs.declared.server.event.ServerEvent.{ServerEvent}
use Rattle.giop_session.specs.declared.laws.inputs.ServerInput.{ServerInput}
use Rattle.giop_session.specs.Items.Carries.{Carries, CarriesItem, Got}
use Rattle.giop_session.specs.Items.ServerCarries.{ServerItem, server_telling}
use Rattle.giop_session.specs.Ends.Begun.{new_end}
use Rattle.giop_session.specs.Runs.Events.{Event, Comes as Came}
use Rattle.giop_session.specs.Runs.Fits.{Fits, SaysAlone}
use Rattle.giop_session.specs.Runs.ServerRuns.{at_server, server_run}
use Rattle.giop_session.specs.Hearing.Feeding.{nothing_unread}
use Rattle.giop_session.specs.Runs.Met.{AreMet, Comes, Does, Met, own_met}
use Rattle.laws_in_use.specs.Locating.{bad, cancel_big, door, door_begins, door_ends, key_little, limits, said_of_nine}
use Rattle.laws_in_use.specs.Runs.{said_and_taken, server_given, server_given_otherwise, server_said}
use Rattle.laws_in_use.proofs.ByIds.{apart, if_is}
use Rattle.laws_in_use.proofs.LocatingMessages.{messages, named}
use Rattle.laws_in_use.proofs.LocatingReads.{first, last, second, third, wide}
use Rattle.laws_in_use.proofs.ServerRunWithin.{run_within, run_within_otherwise}
use Rattle.giop_calls.specs.declared.server.heard.HeardCall.TheVariants as heard
use Rattle.giop_session.specs.declared.laws.inputs.ServerInput.TheVariants as input
use Rattle.laws_in_use.proofs.ShownAlone.{ServerIsShown, one_read, two_read}
use Rattle.laws_in_use.proofs.ServerNineAlone.{nine_shown}
use Rattle.laws_in_use.proofs.ServerSevenAlone.{seven_shown}

-- what is given is this
abbrev answers_door : ServerInput
answers_door = input.AnswerLocate 7 true Big

abbrev all : List (Met ServerInput)
all =
    Comes door_begins ∷ Comes key_little ∷ Comes door_ends ∷ Comes cancel_big ∷ Does answers_door ∷ Comes bad ∷ Does (input.Take 7) ∷ []

are_all : AreMet at_server (nothing_unread limits.message) server_given all (wide [])
are_all = (
  [],
  all,
  _,
  refl,
  ([], first.takes, first.waits, refl),
  (
    Comes door_begins ∷ Comes key_little ∷ [],
    Comes door_ends ∷ Comes cancel_big ∷ Does answers_door ∷ Comes bad ∷ Does (input.Take 7) ∷ [],
    _,
    refl,
    (door_begins ∷ key_little ∷ [], second.takes, second.waits, refl),
    (
      Comes door_ends ∷ Comes cancel_big ∷ [],
      Does answers_door ∷ Comes bad ∷ Does (input.Take 7) ∷ [],
      _,
      refl,
      (door_ends ∷ cancel_big ∷ [], third.takes, third.waits, refl),
      (
        Does answers_door ∷ [],
        Comes bad ∷ Does (input.Take 7) ∷ [],
        wide [],
        refl,
        (refl, refl),
        (
          Comes bad ∷ [],
          Does (input.Take 7) ∷ [],
          _,
          refl,
          (bad ∷ [], last.takes, last.waits, refl),
          (Does (input.Take 7) ∷ [], [], wide [], refl, (refl, refl), (refl, refl)),
        ),
      ),
    ),
  ),
)

-- what of it is of an id, where that is 7, or 9
abbrev all_by : Bool → Bool → List (Met ServerInput)
all_by seven nine =
    if_is seven (Comes door_begins) (if_is nine (Comes key_little) (if_is seven (Comes door_ends) (if_is nine (Comes cancel_big)
    (if_is seven (Does answers_door) (if_is nine (Comes bad) (if_is seven (Does (input.Take 7)) []))))))

all_own : (id : ℕ) → own_met at_server id all ≡ all_by (id == 7) (id == 9)
unfolding request_id_layout chosen number number_at field_at
all_own id = refl

-- and in the other order
abbrev all_otherwise : List (Met ServerInput)
all_otherwise =
    Comes key_little ∷ Comes door_begins ∷ Comes cancel_big ∷ Comes bad ∷ Comes door_ends ∷ Does answers_door ∷ Does (input.Take 7) ∷ []

abbrev otherwise_by : Bool → Bool → List (Met ServerInput)
otherwise_by seven nine =
    if_is nine (Comes key_little) (if_is seven (Comes door_begins) (if_is nine (Comes cancel_big) (if_is nine (Comes bad)
    (if_is seven (Comes door_ends) (if_is seven (Does answers_door) (if_is seven (Does (input.Take 7)) []))))))

otherwise_own : (id : ℕ) → own_met at_server id all_otherwise ≡ otherwise_by (id == 7) (id == 9)
unfolding request_id_layout chosen number number_at field_at
otherwise_own id = refl

are_otherwise : AreMet at_server (nothing_unread limits.message) server_given_otherwise all_otherwise (wide [])
are_otherwise = (
  Comes key_little ∷ [],
  _,
  wide [],
  refl,
  (key_little ∷ [], (one_read key_little messages.key_little).takes, (one_read key_little messages.key_little).waits, refl),
  (
    Comes door_begins ∷ Comes cancel_big ∷ [],
    _,
    wide [],
    refl,
    (
      door_begins ∷ cancel_big ∷ [],
      (two_read door_begins cancel_big messages.door_begins messages.cancel_big).takes,
      (two_read door_begins cancel_big messages.door_begins messages.cancel_big).waits,
      refl,
    ),
    (
      Comes bad ∷ Comes door_ends ∷ [],
      _,
      wide [],
      refl,
      (
        bad ∷ door_ends ∷ [],
        (two_read bad door_ends messages.bad_wide messages.door_ends).takes,
        (two_read bad door_ends messages.bad_wide messages.door_ends).waits,
        refl,
      ),
      (
        Does answers_door ∷ [],
        _,
        wide [],
        refl,
        (refl, refl),
        (Does (input.Take 7) ∷ [], [], wide [], refl, (refl, refl), (refl, refl)),
      ),
    ),
  ),
)

module _ (interface : Interface) where
  module _ (old : IsTable (locate_request V10)) (table : IsTable (locate_request V12))
      (cut : CarriesItem (server_telling interface) None (Got (heard.Locate door)) (map Came (door_begins ∷ door_ends ∷ []))) where
    abbrev CarriesAll : List ServerItem → List (Event ServerEvent) → Type 0
    CarriesAll items events = Carries (server_telling interface) None items events

    -- of any other id nothing is given
    none_shown : (id : ℕ) → ServerIsShown interface id [] []
    none_shown id = (
      [],
      new_end (record {}) limits,
      refl,
      tt,
      record { acts = []; taken = (refl, refl, refl); holds = ([], wide [], (refl, refl), λ q. by_own (q == id)) },
    )
      where
        by_own : (own : Bool) → CarriesAll (if own then [] else []) []
        by_own true = refl
        by_own false = refl

    shown_by : (id : ℕ) (seven nine : Bool) → (id == 7) ≡ seven → (id == 9) ≡ nine
        → ServerIsShown interface id (all_by seven nine) (if seven then said_and_taken else if nine then said_of_nine else [])
    shown_by id true true is_seven is_nine = absurd (apart id is_seven is_nine)
    shown_by id true false is_seven is_nine =
        let to : 7 ≡ id = grind (arith, nat_tests) in subst (λ q. ServerIsShown interface q (all_by true false) said_and_taken) to
        (seven_shown interface old table cut)
    shown_by id false true is_seven is_nine =
        let to : 9 ≡ id = grind (arith, nat_tests) in subst (λ q. ServerIsShown interface q (all_by false true) said_of_nine) to
        (nine_shown interface old table cut)
    shown_by id false false is_seven is_nine = none_shown id

    shown : (id : ℕ) → ServerIsShown interface id (own_met at_server id all) (server_said id)
    shown id = subst (λ own. ServerIsShown interface id own (server_said id)) (sym (all_own id)) (shown_by id (id == 7) (id == 9) refl refl)

    pub run_fits : (fits : Fits (server_run interface) limits server_given) × ((id : ℕ) → SaysAlone (fits.alone id) (server_said id))
    run_fits = (
      record {
        met = all;
        rest = wide [];
        are = are_all;
        of_calls = (
          (7, named.door_begins),
          ((9, named.key_little), ((7, named.door_ends), ((9, named.cancel_big), ((7, refl), ((9, named.bad), ((7, refl), tt)))))),
        );
        within = run_within;
        alone = λ id. record { answers = (shown id).0; end = (shown id).1; runs = (shown id).2; none_refused = (shown id).3 };
      },
      λ id. (shown id).4,
    )

    -- in the other order each call is the same
    shown_otherwise : (id : ℕ) → ServerIsShown interface id (own_met at_server id all_otherwise) (server_said id)
    shown_otherwise id =
        subst (λ own. ServerIsShown interface id own (server_said id)) (sym (otherwise_own id)) (by_tests (id == 7) (id == 9) refl refl)
      where
        by_tests : (seven nine : Bool) → (id == 7) ≡ seven → (id == 9) ≡ nine
            → ServerIsShown interface id (otherwise_by seven nine) (if seven then said_and_taken else if nine then said_of_nine else [])
        by_tests true true is_seven is_nine = absurd (apart id is_seven is_nine)
        by_tests true false is_seven is_nine = shown_by id true false is_seven is_nine
        by_tests false true is_seven is_nine = shown_by id false true is_seven is_nine
        by_tests false false is_seven is_nine = shown_by id false false is_seven is_nine

    pub otherwise_fits : (fits : Fits (server_run interface) limits server_given_otherwise) × ((id : ℕ) → SaysAlone (fits.alone id) (server_said id))
    otherwise_fits = (
      record {
        met = all_otherwise;
        rest = wide [];
        are = are_otherwise;
        of_calls = (
          (9, named.key_little),
          ((7, named.door_begins), ((9, named.cancel_big), ((9, named.bad), ((7, named.door_ends), ((7, refl), ((7, refl), tt)))))),
        );
        within = run_within_otherwise;
        alone = λ id. record {
          answers = (shown_otherwise id).0;
          end = (shown_otherwise id).1;
          runs = (shown_otherwise id).2;
          none_refused = (shown_otherwise id).3;
        };
      },
      λ id. (shown_otherwise id).4,
    )

    -- so what is given in either order fits
    pub either_fits : (inputs : List ServerInput) → (inputs ≡ server_given) ⊎ (inputs ≡ server_given_otherwise)
        → (fits : Fits (server_run interface) limits inputs) × ((id : ℕ) → SaysAlone (fits.alone id) (server_said id))
    either_fits inputs (inl given) =
        subst (λ (all : List ServerInput). (fits : Fits (server_run interface) limits all) × ((id : ℕ) → SaysAlone (fits.alone id) (server_said id)))
        (sym given) run_fits
    either_fits inputs (inr given) =
        subst (λ (all : List ServerInput). (fits : Fits (server_run interface) limits all) × ((id : ℕ) → SaysAlone (fits.alone id) (server_said id)))
        (sym given) otherwise_fits
