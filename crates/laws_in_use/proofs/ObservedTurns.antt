-- In which order the messages of two files are told.
use Rattle.std.proofs.Common.{◌≡◌, ℕ, true, false, not, List, [], ◌∷◌, Some, None, Ok, refl, sym, ap, ◌∙◌}
use Rattle.std.specs.FinMap as finite
use Rattle.giop_ids.specs.ById.{ById}
use Rattle.giop_msg.specs.declared.msg.Msg.{Msg}
use Rattle.giop_trace.specs.declared.flow.Flow.{Flow}
use Rattle.giop_trace.specs.Flows.{is_waiting}
use Rattle.giop_trace.specs.Observing.{Brought, is_early, is_early_by, left_alone, left_of_all, own}
use Rattle.giop_tracing.specs.Trace.Order.{IsOrder, of_client, of_server}
use Rattle.giop_tracing.proofs.OrderLemmas.{order_begins}
use Rattle.laws_in_use.specs.Asking.{here_begins, here_ends, unknown_little}
use Rattle.laws_in_use.specs.Locating.{door_begins, key_big}
use Rattle.laws_in_use.specs.Observed.{answered, asked, in_turn}
use Rattle.laws_in_use.proofs.ObservedOwn.{nine_is, own_nine, own_nine_before, own_seven, seven_is}

-- what stands under an id is what its own messages leave there
abbrev pub EachAlone : Type 0
EachAlone =
    (flows : ById Flow) (all : List Brought) (id : ℕ)
    → finite.get (left_of_all false flows all) id ≡ left_alone false (finite.get flows id) (own id all)

-- whether an answer comes early goes by the messages of its id alone
early_alone : EachAlone → (flows : ById Flow) (all mine : List Brought) (id : ℕ) → finite.get flows id ≡ None → own id all ≡ mine
    → is_early_by (left_of_all false flows all) (Some (Ok id)) ≡ not (is_waiting (left_alone false None mine))
early_alone alone flows all mine id none own_is =
    ap (λ flow. not (is_waiting flow))
    (alone flows all id ∙ ap (λ flow. left_alone false flow (own id all)) none ∙ ap (left_alone false None) own_is)

nine_waits : EachAlone → (flows : ById Flow) → finite.get flows 9 ≡ None
    → is_early (left_of_all false flows (of_client door_begins ∷ [])) unknown_little ≡ true
nine_waits alone flows none =
    ap (is_early_by (left_of_all false flows (of_client door_begins ∷ []))) nine_is
    ∙ early_alone alone flows (of_client door_begins ∷ []) [] 9 none own_nine_before

nine_is_told : EachAlone → (flows : ById Flow) → finite.get flows 9 ≡ None
    → is_early (left_of_all false flows (of_client door_begins ∷ of_client key_big ∷ [])) unknown_little ≡ false
nine_is_told alone flows none =
    ap (is_early_by (left_of_all false flows (of_client door_begins ∷ of_client key_big ∷ []))) nine_is
    ∙ early_alone alone flows (of_client door_begins ∷ of_client key_big ∷ []) (of_client key_big ∷ []) 9 none own_nine

seven_waits : EachAlone → (flows : ById Flow) → finite.get flows 7 ≡ None
    → is_early (left_of_all false flows (of_client door_begins ∷ of_client key_big ∷ of_server unknown_little ∷ [])) here_begins ≡ true
seven_waits alone flows none =
    ap (is_early_by (left_of_all false flows (of_client door_begins ∷ of_client key_big ∷ of_server unknown_little ∷ []))) seven_is
    ∙ early_alone alone flows (of_client door_begins ∷ of_client key_big ∷ of_server unknown_little ∷ []) (of_client door_begins ∷ []) 7 none
    own_seven

-- the next of a list
next_is : (x y : Msg) (xs ys : List Msg) → x ∷ xs ≡ y ∷ ys → x ≡ y
next_is x y xs ys same = cc

pub told_in_turn : EachAlone → (flows : ById Flow) → finite.get flows 7 ≡ None → finite.get flows 9 ≡ None → IsOrder flows asked answered in_turn
told_in_turn alone flows seven nine =
    order_begins flows asked answered in_turn refl refl (
      tt,
      (
        (λ next later is.
            ap (is_early (left_of_all false flows (of_client door_begins ∷ [])))
            (sym (next_is unknown_little next (here_begins ∷ here_ends ∷ []) later is)) ∙ nine_waits alone flows nine),
        (
          (λ more. nine_is_told alone flows nine),
          (
            (λ next later is.
                ap (is_early (left_of_all false flows (of_client door_begins ∷ of_client key_big ∷ of_server unknown_little ∷ [])))
                (sym (next_is here_begins next (here_ends ∷ []) later is)) ∙ seven_waits alone flows seven),
            (
              (λ more. absurd (more refl)),
              ((λ more. absurd (more refl)), tt),
            ),
          ),
        ),
      ),
    )
