-- What a client's end is given in a run fits it, and each call alone says what the run says of it.
use Rattle.std.proofs.Common.{◌≡◌, ℕ, ◌==◌, Bool, true, false, if◌then◌else◌, List, [], ◌∷◌, refl, sym, subst, arith}
use Rattle.std.proofs.lemmas.Bool.Decides.{nat_tests}
use Rattle.giop_types.specs.declared.interfaces.interface.Interface.{Interface}
use Rattle.giop_cdr.specs.Layout.{number, chosen}
use Rattle.giop_cdr.specs.Reading.Values.{field_at, number_at}
use Rattle.giop_cdr.specs.declared.order.Order.TheVariants.{Little}
use Rattle.giop_msg.specs.Messages.Laws.{IsWhole}
use Rattle.giop_msg.specs.Messages.LocateReply.{locate_reply}
use Rattle.giop_msg.specs.RequestId.{request_id_layout}
use Rattle.giop_msg.specs.declared.version.Version.TheVariants.{V10, V12}
use Rattle.giop_calls.specs.declared.client.event.ClientEvent.{ClientEvent}
use Rattle.giop_session.specs.declared.laws.inputs.ClientInput.{ClientInput}
use Rattle.giop_session.specs.Items.Carries.{Carries}
use Rattle.giop_session.specs.Items.ClientCarries.{ClientItem, client_telling, unknown}
use Rattle.giop_session.specs.Ends.Begun.{new_end}
use Rattle.giop_session.specs.Runs.Events.{Event}
use Rattle.giop_session.specs.Runs.ClientRuns.{at_client, client_run}
use Rattle.giop_session.specs.Runs.Fits.{Fits, SaysAlone}
use Rattle.giop_session.specs.Hearing.Feeding.{nothing_unread}
use Rattle.giop_session.specs.Runs.Met.{AreMet, Comes, Does, Met, own_met}
use Rattle.laws_in_use.specs.Asking.{here_begins, here_ends, short, told_of_seven, unknown_little}
use Rattle.laws_in_use.specs.Locating.{door, key, limits}
use Rattle.laws_in_use.specs.Runs.{Forms, client_given, client_told, told_and_taken}
use Rattle.laws_in_use.proofs.AskingMessages.{named}
use Rattle.laws_in_use.proofs.ByIds.{apart, if_is}
use Rattle.laws_in_use.proofs.LocatingReads.{wide}
use Rattle.giop_session.specs.declared.laws.inputs.ClientInput.TheVariants as input
use Rattle.laws_in_use.proofs.AskingReads as read
use Rattle.laws_in_use.proofs.ClientRunWithin as within
use Rattle.laws_in_use.proofs.ShownAlone.{ClientIsShown}
use Rattle.laws_in_use.proofs.ClientNineAlone.{nine_shown}
use Rattle.laws_in_use.proofs.ClientSevenAlone.{seven_shown}

module _ (interface : Interface) (forms : Forms) where
  -- what is given is this
  abbrev all : List (Met ClientInput)
  all =
      Does (input.Locate door forms.cut) ∷ Does (input.Locate key forms.little) ∷ Does (input.Cancel 9 Little) ∷ Does (input.Send 7)
      ∷ Comes here_begins ∷ Comes unknown_little ∷ Does (input.Locate key forms.big) ∷ Comes here_ends ∷ Comes short
      ∷ Does (input.Take 9) ∷ []

  are_all : AreMet at_client (nothing_unread limits.message) (client_given forms) all (wide [])
  are_all = (
    Does (input.Locate door forms.cut) ∷ [],
    _,
    wide [],
    refl,
    (refl, refl),
    (
      Does (input.Locate key forms.little) ∷ [],
      _,
      wide [],
      refl,
      (refl, refl),
      (
        Does (input.Cancel 9 Little) ∷ [],
        _,
        wide [],
        refl,
        (refl, refl),
        (
          [],
          _,
          _,
          refl,
          ([], read.first.takes, read.first.waits, refl),
          (
            Does (input.Send 7) ∷ [],
            _,
            _,
            refl,
            (refl, refl),
            (
              Comes here_begins ∷ Comes unknown_little ∷ [],
              _,
              _,
              refl,
              (here_begins ∷ unknown_little ∷ [], read.second.takes, read.second.waits, refl),
              (
                Does (input.Locate key forms.big) ∷ [],
                _,
                _,
                refl,
                (refl, refl),
                (
                  Comes here_ends ∷ Comes short ∷ [],
                  _,
                  _,
                  refl,
                  (here_ends ∷ short ∷ [], read.third.takes, read.third.waits, refl),
                  (Does (input.Take 9) ∷ [], [], wide [], refl, (refl, refl), (refl, refl)),
                ),
              ),
            ),
          ),
        ),
      ),
    ),
  )

  -- what of it is of an id, where that is 7, or 9
  abbrev all_by : Bool → Bool → List (Met ClientInput)
  all_by seven nine =
      if_is seven (Does (input.Locate door forms.cut)) (if_is nine (Does (input.Locate key forms.little)) (if_is nine (Does (input.Cancel 9 Little))
      (if_is seven (Does (input.Send 7)) (if_is seven (Comes here_begins) (if_is nine (Comes unknown_little)
      (if_is nine (Does (input.Locate key forms.big)) (if_is seven (Comes here_ends) (if_is nine (Comes short)
      (if_is nine (Does (input.Take 9)) [])))))))))

  all_own : (id : ℕ) → own_met at_client id all ≡ all_by (id == 7) (id == 9)
  unfolding request_id_layout chosen number number_at field_at
  all_own id = refl

  module _ (old : IsWhole (locate_reply V10)) (table : IsWhole (locate_reply V12)) where
    abbrev CarriesAll : List ClientItem → List (Event ClientEvent) → Type 0
    CarriesAll items events = Carries (client_telling interface) unknown items events

    -- of any other id nothing is given
    none_shown : (id : ℕ) → ClientIsShown interface id [] []
    none_shown id = (
      [],
      new_end (record {}) limits,
      refl,
      tt,
      record { acts = []; taken = (refl, refl, refl); holds = ([], wide [], (refl, refl), λ q. by_own (q == id)) },
    )
      where
        by_own : (own : Bool) → CarriesAll (if own then [] else []) []
        by_own true = refl
        by_own false = refl

    shown_by : (id : ℕ) (seven nine : Bool) → (id == 7) ≡ seven → (id == 9) ≡ nine
        → ClientIsShown interface id (all_by seven nine) (if seven then told_of_seven else if nine then told_and_taken else [])
    shown_by id true true is_seven is_nine = absurd (apart id is_seven is_nine)
    shown_by id true false is_seven is_nine =
        let to : 7 ≡ id = grind (arith, nat_tests) in subst (λ q. ClientIsShown interface q (all_by true false) told_of_seven) to
        (seven_shown interface forms old table)
    shown_by id false true is_seven is_nine =
        let to : 9 ≡ id = grind (arith, nat_tests) in subst (λ q. ClientIsShown interface q (all_by false true) told_and_taken) to
        (nine_shown interface forms old table)
    shown_by id false false is_seven is_nine = none_shown id

    shown : (id : ℕ) → ClientIsShown interface id (own_met at_client id all) (client_told id)
    shown id = subst (λ own. ClientIsShown interface id own (client_told id)) (sym (all_own id)) (shown_by id (id == 7) (id == 9) refl refl)

    pub run_fits : (fits : Fits (client_run interface) limits (client_given forms)) × ((id : ℕ) → SaysAlone (fits.alone id) (client_told id))
    run_fits = (
      record {
        met = all;
        rest = wide [];
        are = are_all;
        of_calls = (
          (7, refl),
          (
            (9, refl),
            (
              (9, refl),
              (
                (7, refl),
                (
                  (7, named.here_begins),
                  (
                    (9, named.unknown_little),
                    (
                      (9, refl),
                      ((7, named.here_ends), ((9, named.short), ((9, refl), tt))),
                    ),
                  ),
                ),
              ),
            ),
          ),
        );
        within = within.run_within forms;
        alone = λ id. record { answers = (shown id).0; end = (shown id).1; runs = (shown id).2; none_refused = (shown id).3 };
      },
      λ id. (shown id).4,
    )

    -- so what is given so fits
    pub given_fits : (inputs : List ClientInput) → inputs ≡ client_given forms
        → (fits : Fits (client_run interface) limits inputs) × ((id : ℕ) → SaysAlone (fits.alone id) (client_told id))
    given_fits inputs given =
        subst (λ (all : List ClientInput). (fits : Fits (client_run interface) limits all) × ((id : ℕ) → SaysAlone (fits.alone id) (client_told id)))
        (sym given) run_fits
