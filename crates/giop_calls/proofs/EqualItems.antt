-- Equal items leave the same and are answered the same, at either end.
use Rattle.std.specs.Prelude.{◌≡◌, Bool, true, false, if◌then◌else◌, List, [], ◌∷◌, ◌++◌, Result, IsOk, refl}
use Rattle.std.specs.List.{AllByRecursion}
use Rattle.std.proofs.Common.{sym, subst, ap, ◌∙◌, inl, inr, append-nil}
use Rattle.giop_ids.specs.Runs.{Done, alone, told_alone, left, told}
use Rattle.giop_calls.specs.Items.{Wording, Item, Got, Began, Rest, Does, Spells, Carries, answers, Says, AreAlike}

module _ {V Act Answer Why Beginning Message : Type 0} (turn : V → Act → Result (Done V Answer) Why)
    (words : Wording V Act Beginning Message) where
  -- what an act leaves
  abbrev pub after : V → Act → V
  after v act = left v (turn v act)

  abbrev pub Accepts : V → Act → Type 0
  Accepts v act = IsOk (told (turn v act))

  abbrev AllAccepted : V → List Act → Type 0
  AllAccepted v acts = AllByRecursion IsOk (told_alone turn v acts)

  -- what an end's steps have to keep: pieces leave what the whole message leaves
  pub record Gathers : Type 0 where
    pub further : (v : V) (b : Beginning) (act : Act) → Accepts v (words.first b) → words.Further act
        → Accepts (after v (words.first b)) act
        → after (after v (words.first b)) act ≡ after v (words.first b)
    pub last : (v : V) (b : Beginning) (m : Message) (act : Act) → Accepts v (words.first b)
        → words.Begins b m → words.Last m act → Accepts (after v (words.first b)) act
        → after (after v (words.first b)) act ≡ after v (words.whole m)
    pub ignores : (v : V) (act : Act) → words.WasCancelled v → words.Further act → after v act ≡ v
    pub ended : V → V
    pub ends : (v : V) (act : Act) → words.WasCancelled v → words.Ends act → after v act ≡ ended v
    pub whole_heard : (m : Message) → words.is_own (words.whole m) ≡ false
    pub first_heard : (b : Beginning) → words.is_own (words.first b) ≡ false
    pub further_heard : (act : Act) → words.Further act → words.is_own act ≡ false
    pub last_heard : (m : Message) (act : Act) → words.Last m act → words.is_own act ≡ false
    pub end_heard : (act : Act) → words.Ends act → words.is_own act ≡ false

  -- lists one behind the other
  alone_join : (v : V) (one rest : List Act)
      → alone turn v (one ++ rest) ≡ alone turn (alone turn v one) rest
  alone_join v [] rest = refl
  alone_join v (act ∷ one) rest = alone_join (after v act) one rest

  adds : (own : Bool) (told_one : Result Answer Why) (xs ys zs : List (Result Answer Why)) → xs ≡ ys ++ zs
      → (if own then told_one ∷ xs else xs) ≡ (if own then told_one ∷ ys else ys) ++ zs
  adds true told_one xs ys zs e = ap (λ l. told_one ∷ l) e
  adds false told_one xs ys zs e = e

  answers_join : (v : V) (one rest : List Act) → answers turn words v (one ++ rest)
      ≡ answers turn words v one ++ answers turn words (alone turn v one) rest
  answers_join v [] rest = refl
  answers_join v (act ∷ one) rest =
      adds (words.is_own act) _ _ _ _ (answers_join (after v act) one rest)

  accepted_join : (v : V) (one rest : List Act) → AllAccepted v (one ++ rest)
      → AllAccepted v one × AllAccepted (alone turn v one) rest
  accepted_join v [] rest ok = (tt, ok)
  accepted_join v (act ∷ one) rest ok =
      let both = accepted_join (after v act) one rest ok.1 in ((ok.0, both.0), both.1)

  -- what is left and answered
  abbrev Leaves : V → List Act → V → List (Result Answer Why) → Type 0
  Leaves v acts w given = (alone turn v acts ≡ w) × (answers turn words v acts ≡ given)

  module _ (law : Gathers) where
    -- what an item leaves, and what it is answered, whatever acts spell it
    leaves : V → Item Act Beginning Message → V
    leaves v (Got message) = after v (words.whole message)
    leaves v (Began begun) = after v (words.first begun)
    leaves v (Rest false) = v
    leaves v (Rest true) = law.ended v
    leaves v (Does act) = after v act

    says : V → Item Act Beginning Message → List (Result Answer Why)
    says v (Does act) = answers turn words v (act ∷ [])
    says v (Got message) = []
    says v (Began begun) = []
    says v (Rest ended) = []

    -- an act that isn't the end's own is answered nothing
    heard : (v w : V) (act : Act) (acts : List Act) (given : List (Result Answer Why)) → words.is_own act ≡ false
        → Leaves (after v act) acts w given → Leaves v (act ∷ acts) w given
    heard v w act acts given e (l, a) = (l, rw e a)

    -- further Fragments change nothing, and then comes the rest
    keeps : (v w : V) (b : Beginning) (more rest : List Act) → Accepts v (words.first b)
        → AllByRecursion words.Further more → AllAccepted (after v (words.first b)) (more ++ rest)
        → (AllAccepted (after v (words.first b)) rest → Leaves (after v (words.first b)) rest w [])
        → Leaves (after v (words.first b)) (more ++ rest) w []
    keeps v w b [] rest first are ok next = next ok
    keeps v w b (act ∷ more) rest first are ok next =
        let same = law.further v b act first are.0 ok.0 in
        heard _ w act (more ++ rest) [] (law.further_heard act are.0)
        (subst (λ x. Leaves x (more ++ rest) w []) (sym same)
        (keeps v w b more rest first are.1 (subst (λ x. AllAccepted x (more ++ rest)) same ok.1) next))

    ignored : (v w : V) (more rest : List Act) → words.WasCancelled v → AllByRecursion words.Further more
        → Leaves v rest w [] → Leaves v (more ++ rest) w []
    ignored v w [] rest was are next = next
    ignored v w (act ∷ more) rest was are next =
        heard v w act (more ++ rest) [] (law.further_heard act are.0)
        (subst (λ x. Leaves x (more ++ rest) w []) (sym (law.ignores v act was are.0))
        (ignored v w more rest was are.1 next))

    spelled : (v : V) (item : Item Act Beginning Message) (acts other : List Act) (w : V) (given : List (Result Answer Why))
        → acts ≡ other → (AllAccepted v other → Leaves v other w given)
        → AllAccepted v acts → Leaves v acts w given
    spelled v item acts other w given e next ok =
        subst (λ l. Leaves v l w given) (sym e) (next (subst (λ l. AllAccepted v l) e ok))

    item_leaves : (v : V) (item : Item Act Beginning Message) (acts : List Act)
        → Spells turn words v item acts → AllAccepted v acts → Leaves v acts (leaves v item) (says v item)
    unfolding leaves says
    item_leaves v (Got m) acts (inl e) = spelled v (Got m) acts _ _ _ e
        (λ ok. heard v _ (words.whole m) [] [] (law.whole_heard m) (refl, refl))
    item_leaves v (Got m) acts (inr (b, more, last, begins, are, is, e)) = spelled v (Got m) acts _ _ _ e
        (λ ok. heard v _ (words.first b) _ [] (law.first_heard b) (keeps v _ b more (last ∷ []) ok.0 are ok.1
        (λ end. heard _ _ last [] [] (law.last_heard m last is) (law.last v b m last ok.0 begins is end.0, refl))))
    item_leaves v (Began b) acts (more, are, e) = spelled v (Began b) acts _ _ _ (e ∙ ap (λ l. words.first b ∷ l) (sym (append-nil more)))
        (λ ok. heard v _ (words.first b) _ [] (law.first_heard b) (keeps v _ b more [] ok.0 are ok.1 (λ end. (refl, refl))))
    item_leaves v (Rest false) acts (was, are) = spelled v (Rest false) acts _ _ _ (sym (append-nil acts))
        (λ ok. ignored v v acts [] was are (refl, refl))
    item_leaves v (Rest true) acts (more, last, was, are, is, e) = spelled v (Rest true) acts _ _ _ e
        (λ ok. ignored v _ more (last ∷ []) was are
        (heard v _ last [] [] (law.end_heard last is) (law.ends v last was is, refl)))
    item_leaves v (Does act) acts e = spelled v (Does act) acts _ _ _ e (λ ok. (refl, refl))

    all_leave : V → List (Item Act Beginning Message) → V
    all_leave v [] = v
    all_leave v (item ∷ items) = all_leave (leaves v item) items

    all_say : V → List (Item Act Beginning Message) → List (Result Answer Why)
    all_say v [] = []
    all_say v (item ∷ items) = says v item ++ all_say (leaves v item) items

    items_leave : (items : List (Item Act Beginning Message)) (v : V) (acts : List Act)
        → Carries turn words v items acts → AllAccepted v acts → Leaves v acts (all_leave v items) (all_say v items)
    unfolding all_leave all_say
    items_leave [] v acts e = spelled v (Rest false) acts _ _ _ e (λ ok. (refl, refl))
    items_leave (item ∷ items) v acts (one, rest, e, spells, carries) = spelled v item acts _ _ _ e (λ ok.
        let both = accepted_join v one rest ok in
        let first = item_leaves v item one spells both.0 in
        let next = items_leave items (alone turn v one) rest carries both.1 in
        let moved = subst (λ x. (alone turn (alone turn v one) rest ≡ all_leave x items)
        × (answers turn words (alone turn v one) rest ≡ all_say x items)) first.0 next in (
          alone_join v one rest ∙ moved.0,
          answers_join v one rest ∙ ap (λ l. l ++ answers turn words (alone turn v one) rest) first.1 ∙ ap (λ l. says v item ++ l) moved.1,
        ))

    -- equal items leave the same, and are answered the same
    pub equal_items : (v : V) (items : List (Item Act Beginning Message)) (one other : List Act)
        → Says turn words v items one → Says turn words v items other → AreAlike turn words v one other
    equal_items v items one other a b =
        let m = items_leave items v one a.0 a.1 in
        let n = items_leave items v other b.0 b.1 in
        (m.0 ∙ sym n.0, m.1 ∙ sym n.1)
