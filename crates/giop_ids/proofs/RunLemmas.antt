-- What stands under an id after a run is its own acts folded alone, and so is what they are told.
use Rattle.std.proofs.Common.{◌≡◌, ℕ, ◌==◌, Bool, true, false, cond, List, [], ◌∷◌, ◌++◌, Option, Some, None, Result, Ok, Err, IsOk, inl, inr, refl, sym, ap, subst, ◌∙◌, arith}
use Rattle.std.proofs.lemmas.Bool.Decides.{nat_tests}
use Rattle.std.specs.List.{AllByRecursion}
use Rattle.giop_ids.specs.declared.addressed.Addressed.{Addressed}
use Rattle.giop_ids.specs.Runs.{own, Done, left, told, alone, told_alone, Rules, within, refusal_of, RefusedAs, turn_of, judged, after, all_after, all_told, Does, Runs, addressed, accepted, IsApart, is_own, Distinguishes, MeetsNoLimit}

-- a list in two parts, for one id
pub own-append : {X : Type 0} (id : ℕ) (one other : List (Addressed X)) → own id (one ++ other) ≡ own id one ++ own id other
own-append id [] other = refl
own-append id (first ∷ one) other =
    elim (first.id == id) as (λ b. cond b (first.what ∷ own id (one ++ other)) (own id (one ++ other))
    ≡ cond b (first.what ∷ own id one) (own id one) ++ own id other) [
      | true ↦ ap (λ l. first.what ∷ l) (own-append id one other)
      | false ↦ own-append id one other
    ]

module _ {V Act Answer Why : Type 0} (turn : V → Act → Result (Done V Answer) Why) where
  pub alone-append : (v : V) (one other : List Act) → alone turn v (one ++ other) ≡ alone turn (alone turn v one) other
  alone-append v [] other = refl
  alone-append v (act ∷ one) other = alone-append (left v (turn v act)) one other

  pub told_alone-append : (v : V) (one other : List Act)
      → told_alone turn v (one ++ other) ≡ told_alone turn v one ++ told_alone turn (alone turn v one) other
  told_alone-append v [] other = refl
  told_alone-append v (act ∷ one) other = ap (λ l. told (turn v act) ∷ l) (told_alone-append (left v (turn v act)) one other)

-- what is done within a limit is done without it
pub done_within : {V Answer Why : Type 0} (over : Option Why) (done : Result (Done V Answer) Why) (answer : Answer)
    → told (within over done) ≡ Ok answer → told done ≡ Ok answer
done_within over (Err why) answer e = e
done_within None (Ok done) answer e = e
done_within (Some why) (Ok done) answer e = absurd cc

-- accepted acts met no limit
pub accepted_free : {Act Answer Why : Type 0} (of_id : Why → Bool) (id : ℕ) (acts : List (Addressed Act)) (results : List (Result Answer Why))
    → AllByRecursion IsOk results → MeetsNoLimit of_id id acts results
accepted_free of_id id [] results ok = tt
accepted_free of_id id (act ∷ acts) [] ok = tt
accepted_free of_id id (act ∷ acts) (Err why ∷ results) ok = absurd cc
accepted_free of_id id (act ∷ acts) (Ok answer ∷ results) ok =
    elim (act.id == id) as (λ b. AllByRecursion (λ r. is_own of_id r ≡ true)
    (cond b (Ok answer ∷ own id (addressed acts results)) (own id (addressed acts results)))) [
      | true ↦ (refl, accepted_free of_id id acts results ok.1)
      | false ↦ accepted_free of_id id acts results ok.1
    ]

module _ {S V Act Answer Why : Type 0} (rules : Rules S V Act Answer Why) where
  pub all_after-append : (s : S) (one other : List (Addressed Act))
      → all_after rules s (one ++ other) ≡ all_after rules (all_after rules s one) other
  all_after-append s [] other = refl
  all_after-append s (act ∷ one) other = all_after-append (after rules s act) one other

  pub all_told-append : (s : S) (one other : List (Addressed Act))
      → all_told rules s (one ++ other) ≡ all_told rules s one ++ all_told rules (all_after rules s one) other
  all_told-append s [] other = refl
  all_told-append s (act ∷ one) other =
      ap (λ l. record { id = act.id; what = told (turn_of rules s act) } ∷ l) (all_told-append (after rules s act) one other)

  -- a run and one that goes on from it are one run
  pub Runs-append : (s mid t : S) (one other : List (Addressed Act)) (results more : List (Result Answer Why))
      → Runs rules s one results mid → Runs rules mid other more t → Runs rules s (one ++ other) (results ++ more) t
  Runs-append s mid t [] other [] more run rest = subst (λ (k : S). Runs rules k other more t) run rest
  Runs-append s mid t [] other (result ∷ results) more run rest = absurd run
  Runs-append s mid t (act ∷ one) other [] more run rest = absurd run
  Runs-append s mid t (act ∷ one) other (result ∷ results) more run rest =
      (run.0, run.1, Runs-append run.0 mid t one other results more run.2 rest)

  -- a run leaves what its accepted acts leave
  pub leaves_accepted : (s t : S) (acts : List (Addressed Act)) (results : List (Result Answer Why))
      → Runs rules s acts results t → t ≡ all_after rules s (accepted acts results)
  leaves_accepted s t [] [] run = run
  leaves_accepted s t [] (result ∷ results) run = absurd run
  leaves_accepted s t (act ∷ acts) [] run = absurd run
  leaves_accepted s t (act ∷ acts) (Ok answer ∷ results) run =
      leaves_accepted run.0 t acts results run.2 ∙ ap (λ k. all_after rules k (accepted acts results)) run.1.leaves
  leaves_accepted s t (act ∷ acts) (Err why ∷ results) run =
      leaves_accepted run.0 t acts results run.2 ∙ ap (λ k. all_after rules k (accepted acts results)) run.1.leaves

  -- what each call keeps, of what is still to come, a run keeps; and of each result there is what each call says
  pub run_keeps : (Holds : S → List (Addressed Act) → Type 0) (Says : Result Answer Why → Type 0)
      → ((s t : S) (act : Addressed Act) (acts : List (Addressed Act)) (result : Result Answer Why)
      → Holds s (act ∷ acts) → Does rules s act result t → Holds t acts × Says result)
      → (s t : S) (acts : List (Addressed Act)) (results : List (Result Answer Why)) → Holds s acts → Runs rules s acts results t
      → Holds t [] × AllByRecursion Says results
  run_keeps Holds Says step s t [] [] holds run = (subst (λ (k : S). Holds k []) (sym run) holds, tt)
  run_keeps Holds Says step s t [] (result ∷ results) holds run = absurd run
  run_keeps Holds Says step s t (act ∷ acts) [] holds run = absurd run
  run_keeps Holds Says step s t (act ∷ acts) (result ∷ results) holds run =
      let one = step s run.0 act acts result holds run.1 in
      let rest = run_keeps Holds Says step run.0 t acts results one.0 run.2 in
      (rest.0, (one.1, rest.1))

  module _ (apart : IsApart rules) where
    -- an act changes what stands under its id
    pub at_own : (s : S) (act : Addressed Act) (id : ℕ) → (act.id == id) ≡ true
        → rules.at (after rules s act) id ≡ left (rules.at s id) (rules.turn (rules.at s id) act.what)
    at_own s act id e =
        let same : act.id ≡ id = grind (arith, nat_tests) in
        let here : (id == act.id) ≡ true = grind (arith, nat_tests) in
        apart s act.id _ id
        ∙ ap (λ b. cond b (left (rules.at s act.id) (turn_of rules s act)) (rules.at s id)) here
        ∙ ap (λ k. left (rules.at s k) (rules.turn (rules.at s k) act.what)) same

    -- and what stands under each other id stays
    pub at_other : (s : S) (act : Addressed Act) (id : ℕ) → (act.id == id) ≡ false → rules.at (after rules s act) id ≡ rules.at s id
    at_other s act id e =
        let elsewhere : (id == act.id) ≡ false = grind (arith, nat_tests) in
        apart s act.id _ id ∙ ap (λ b. cond b (left (rules.at s act.id) (turn_of rules s act)) (rules.at s id)) elsewhere

    told_own : (s : S) (act : Addressed Act) (id : ℕ) → (act.id == id) ≡ true
        → told (turn_of rules s act) ≡ told (rules.turn (rules.at s id) act.what)
    told_own s act id e =
        let same : act.id ≡ id = grind (arith, nat_tests) in ap (λ k. told (rules.turn (rules.at s k) act.what)) same

    -- what stands under an id after any acts is its own acts folded alone
    pub at-all_after : (s : S) (acts : List (Addressed Act)) (id : ℕ)
        → rules.at (all_after rules s acts) id ≡ alone rules.turn (rules.at s id) (own id acts)
    at-all_after s [] id = refl
    at-all_after s (act ∷ acts) id =
        at-all_after (after rules s act) acts id
        ∙ elim (act.id == id) as (λ b. (act.id == id) ≡ b
        → alone rules.turn (rules.at (after rules s act) id) (own id acts)
        ≡ alone rules.turn (rules.at s id) (cond b (act.what ∷ own id acts) (own id acts))) [
          | true ↦ λ e. ap (λ v. alone rules.turn v (own id acts)) (at_own s act id e)
          | false ↦ λ e. ap (λ v. alone rules.turn v (own id acts)) (at_other s act id e)
        ] refl

    -- and what they are told is what they are told alone
    pub own-all_told : (s : S) (acts : List (Addressed Act)) (id : ℕ)
        → own id (all_told rules s acts) ≡ told_alone rules.turn (rules.at s id) (own id acts)
    own-all_told s [] id = refl
    own-all_told s (act ∷ acts) id =
        elim (act.id == id) as (λ b. (act.id == id) ≡ b
        → cond b (told (turn_of rules s act) ∷ own id (all_told rules (after rules s act) acts)) (own id (all_told rules (after rules s act) acts))
        ≡ told_alone rules.turn (rules.at s id) (cond b (act.what ∷ own id acts) (own id acts))) [
          | true ↦ λ e.
              ap (λ r. r ∷ own id (all_told rules (after rules s act) acts)) (told_own s act id e)
              ∙ ap (λ l. told (rules.turn (rules.at s id) act.what) ∷ l)
              (own-all_told (after rules s act) acts id ∙ ap (λ v. told_alone rules.turn v (own id acts)) (at_own s act id e))
          | false ↦ λ e.
              own-all_told (after rules s act) acts id ∙ ap (λ v. told_alone rules.turn v (own id acts)) (at_other s act id e)
        ] refl

    -- a call under another id leaves what stands under this one
    pub other_call : (s t : S) (act : Addressed Act) (result : Result Answer Why) (id : ℕ) → (act.id == id) ≡ false
        → Does rules s act result t → rules.at t id ≡ rules.at s id
    other_call s t act (Ok answer) id e does = ap (λ k. rules.at k id) does.leaves ∙ at_other s act id e
    other_call s t act (Err why) id e does = ap (λ k. rules.at k id) does.leaves

    -- a refusal that is the id's own is that of its turn
    own_refusal : (of_id : Why → Bool) → Distinguishes rules of_id → (s : S) (act : Addressed Act) (why : Why) → of_id why ≡ true
        → RefusedAs rules.memory why (refusal_of (judged rules s act)) → turn_of rules s act ≡ Err why
    own_refusal of_id apart_from s act why mine (inr wanting) =
        let memory : of_id why ≡ false = ap of_id wanting.0 ∙ apart_from.memory in absurd cc
    own_refusal of_id apart_from s act why mine (inl found) =
        by_limit (rules.limit s act) (turn_of rules s act) (λ over limit. apart_from.limits s act over limit) found
      where
        by_limit : (over : Option Why) (done : Result (Done V Answer) Why)
            → ((other : Why) → over ≡ Some other → of_id other ≡ false) → refusal_of (within over done) ≡ Some why → done ≡ Err why
        by_limit over (Err own) limits e = cc
        by_limit None (Ok done) limits e = absurd cc
        by_limit (Some other) (Ok done) limits e =
            let same : other ≡ why = cc in let foreign = limits other refl in absurd cc

    -- a call that meets no limit does what its id's turn does, and is told so
    own_call : (of_id : Why → Bool) → Distinguishes rules of_id → (s t : S) (act : Addressed Act) (result : Result Answer Why) (id : ℕ)
        → (act.id == id) ≡ true → is_own of_id result ≡ true → Does rules s act result t
        → (rules.at t id ≡ left (rules.at s id) (rules.turn (rules.at s id) act.what)) × (result ≡ told (rules.turn (rules.at s id) act.what))
    own_call of_id apart_from s t act (Ok answer) id e mine does = (
      ap (λ k. rules.at k id) does.leaves ∙ at_own s act id e,
      sym (done_within (rules.limit s act) (turn_of rules s act) answer does.answer) ∙ told_own s act id e,
    )
    own_call of_id apart_from s t act (Err why) id e mine does =
        let same : act.id ≡ id = grind (arith, nat_tests) in
        let refused = sym (ap (λ k. rules.turn (rules.at s k) act.what) same) ∙ own_refusal of_id apart_from s act why mine does.refusal in
        (ap (λ k. rules.at k id) does.leaves ∙ sym (ap (left (rules.at s id)) refused), sym (ap told refused))

    -- in any run that meets no limit at this id, its acts do and are told what they do and are told alone
    pub at-run : (of_id : Why → Bool) → Distinguishes rules of_id → (s t : S) (acts : List (Addressed Act)) (results : List (Result Answer Why)) (id : ℕ)
        → Runs rules s acts results t → MeetsNoLimit of_id id acts results
        → (rules.at t id ≡ alone rules.turn (rules.at s id) (own id acts))
        × (own id (addressed acts results) ≡ told_alone rules.turn (rules.at s id) (own id acts))
    at-run of_id apart_from s t [] [] id run free = (ap (λ k. rules.at k id) run, refl)
    at-run of_id apart_from s t [] (result ∷ results) id run free = absurd run
    at-run of_id apart_from s t (act ∷ acts) [] id run free = absurd run
    at-run of_id apart_from s t (act ∷ acts) (result ∷ results) id run free =
        let replies = own id (addressed acts results) in
        elim (act.id == id) as (λ b. (act.id == id) ≡ b
        → AllByRecursion (λ r. is_own of_id r ≡ true) (cond b (result ∷ replies) replies)
        → (rules.at t id ≡ alone rules.turn (rules.at s id) (cond b (act.what ∷ own id acts) (own id acts)))
        × (cond b (result ∷ replies) replies ≡ told_alone rules.turn (rules.at s id) (cond b (act.what ∷ own id acts) (own id acts)))) [
          | true ↦ λ e mine.
              let one = own_call of_id apart_from s run.0 act result id e mine.0 run.1 in
              let rest = at-run of_id apart_from run.0 t acts results id run.2 mine.1 in (
                rest.0 ∙ ap (λ v. alone rules.turn v (own id acts)) one.0,
                ap (λ r. r ∷ replies) one.1 ∙ ap (λ l. told (rules.turn (rules.at s id) act.what) ∷ l)
                    (rest.1 ∙ ap (λ v. told_alone rules.turn v (own id acts)) one.0),
              )
          | false ↦ λ e mine.
              let same = other_call s run.0 act result id e run.1 in
              let rest = at-run of_id apart_from run.0 t acts results id run.2 mine in (
                rest.0 ∙ ap (λ v. alone rules.turn v (own id acts)) same,
                rest.1 ∙ ap (λ v. told_alone rules.turn v (own id acts)) same,
              )
        ] refl free
