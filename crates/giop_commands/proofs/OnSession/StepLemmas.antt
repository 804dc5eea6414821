-- Steps that are taken one after another.
use Rattle.std.proofs.Common.{◌≡◌, ℕ, ◌+◌, ◌<◌, ◌≤◌, List, [], ◌∷◌, ◌++◌, length, take, drop, get_or, Option, Some, None, Result, Ok, Err, IfOk, inr, refl, sym, ap, subst, ◌∙◌, length-append, take-append-drop, append_assoc}
use Rattle.std.proofs.lemmas.List.{append-nil, drop_more, take_more, take_all}
use Rattle.giop_commands.specs.Session.Steps.{AndThen, Each, Times, Upto}

-- one more step
each_more : {A S : Type 0} (Step : A → S → S → Type 0) (items : List A) (item : A) (s mid t : S) → Each Step items s mid → Step item mid t
    → Each Step (items ++ item ∷ []) s t
each_more Step [] item s mid t each step = (t, subst (λ u. Step item u t) each step, refl)
each_more Step (one ∷ items) item s mid t each step = (each.0, each.1, each_more Step items item each.0 mid t each.2 step)

-- steps for the first so many items of a list
pub record Sofar {A S : Type 0} (Step : A → S → S → Type 0) (items : List A) (i : ℕ) (s t : S) : Type 0 where
  pub each : Each Step (take i items) s t

pub sofar_none : {A S : Type 0} (Step : A → S → S → Type 0) (items : List A) (s : S) → Sofar Step items 0 s s
sofar_none Step items s = record { each = refl }

pub sofar_more : {A S : Type 0} (Step : A → S → S → Type 0) (items : List A) (i : ℕ) (d : A) (s mid t : S) → i < length items
    → Sofar Step items i s mid → Step (get_or items i d) mid t → Sofar Step items (i + 1) s t
sofar_more Step items i d s mid t within before step =
    record {
      each = subst (λ l. Each Step l s t) (sym (take_more items i d within))
          (each_more Step (take i items) (get_or items i d) s mid t before.each step);
    }

pub sofar_all : {A S F : Type 0} (Step : A → S → Option F → S → Type 0) (items : List A) (i : ℕ) (s t : S) → length items ≤ i
    → Sofar (λ item s t. Step item s None t) items i s t → Upto Step items s None t
sofar_all Step items i s t all before = subst (λ l. Each (λ item s t. Step item s None t) l s t) (take_all i items all) before.each

pub stopped : {A S F : Type 0} (Step : A → S → Option F → S → Type 0) (items : List A) (i : ℕ) (d : A) (s mid t : S) (why : F) → i < length items
    → Sofar (λ item s t. Step item s None t) items i s mid → Step (get_or items i d) mid (Some why) t → Upto Step items s (Some why) t
stopped Step items i d s mid t why within before step = record {
  before = take i items;
  item = get_or items i d;
  behind = drop (i + 1) items;
  mid = mid;
  parts = sym (take-append-drop i items) ∙ ap (λ l. take i items ++ l) (drop_more items i d within);
  each = before.each;
  stops = step;
}

-- so many steps
pub record Counted {S : Type 0} (Step : ℕ → S → S → Type 0) (n : ℕ) (s t : S) : Type 0 where
  pub steps : List ℕ
  pub count : length steps ≡ n
  pub each : Each Step steps s t

pub counted_none : {S : Type 0} (Step : ℕ → S → S → Type 0) (s : S) → Counted Step 0 s s
counted_none Step s = record { steps = []; count = refl; each = refl }

pub counted_more : {S : Type 0} (Step : ℕ → S → S → Type 0) (n : ℕ) (s mid t : S) → Counted Step n s mid → Step n mid t → Counted Step (n + 1) s t
counted_more Step n s mid t before step = record {
  steps = before.steps ++ n ∷ [];
  count = length-append before.steps (n ∷ []) ∙ ap (λ k. k + 1) before.count;
  each = each_more Step before.steps n s mid t before.each step;
}

pub counted_all : {S F : Type 0} (Step : ℕ → S → Option F → S → Type 0) (n : ℕ) (s t : S)
    → Counted (λ step s t. Step step s None t) n s t → Times Step n s None t
counted_all Step n s t before = (before.steps, before.count, before.each)

pub counted_stops : {S F : Type 0} (Step : ℕ → S → Option F → S → Type 0) (n all : ℕ) (s mid t : S) (why : F) → n < all
    → Counted (λ step s t. Step step s None t) n s mid → Step n mid (Some why) t → Times Step all s (Some why) t
counted_stops Step n all s mid t why within before step =
    (before.steps, mid, subst (λ k. k < all) (sym before.count) within, before.each, subst (λ k. Step k mid (Some why) t) (sym before.count) step)

-- steps for the items before the rest of a list
pub record Before {A S : Type 0} (Step : A → S → S → Type 0) (items rest : List A) (s t : S) : Type 0 where
  pub before : List A
  pub parts : items ≡ before ++ rest
  pub each : Each Step before s t

pub before_none : {A S : Type 0} (Step : A → S → S → Type 0) (items : List A) (s : S) → Before Step items items s s
before_none Step items s = record { before = []; parts = refl; each = refl }

pub before_more : {A S : Type 0} (Step : A → S → S → Type 0) (items left rest : List A) (item : A) (s mid t : S) → left ≡ item ∷ rest
    → Before Step items left s mid → Step item mid t → Before Step items rest s t
before_more Step items left rest item s mid t is front step = record {
  before = front.before ++ item ∷ [];
  parts = front.parts ∙ ap (λ l. front.before ++ l) is ∙ sym (append_assoc front.before (item ∷ []) rest);
  each = each_more Step front.before item s mid t front.each step;
}

pub before_all : {A S F : Type 0} (Step : A → S → Option F → S → Type 0) (items left : List A) (s t : S) → left ≡ []
    → Before (λ item s t. Step item s None t) items left s t → Upto Step items s None t
before_all Step items left s t none front =
    subst (λ l. Each (λ item s t. Step item s None t) l s t)
    (sym (front.parts ∙ ap (λ l. front.before ++ l) none ∙ append-nil front.before)) front.each

pub before_stops : {A S F : Type 0} (Step : A → S → Option F → S → Type 0) (items left rest : List A) (item : A) (s mid t : S) (why : F)
    → left ≡ item ∷ rest → Before (λ item s t. Step item s None t) items left s mid → Step item mid (Some why) t → Upto Step items s (Some why) t
before_stops Step items left rest item s mid t why is front step = record {
  before = front.before;
  item = item;
  behind = rest;
  mid = mid;
  parts = front.parts ∙ ap (λ l. front.before ++ l) is;
  each = front.each;
  stops = step;
}

-- one thing went well, and then another is done
pub and_then : {S F E : Type 0} (First Then : S → Option F → S → Type 0) (s mid t : S) (r : Result (Option F) E) → First s None mid
    → IfOk r (λ stops. Then mid stops t) → IfOk r (λ stops. AndThen First Then s stops t)
and_then First Then s mid t (Ok None) first next = (mid, first, next)
and_then First Then s mid t (Ok (Some why)) first next = inr (mid, first, next)
and_then First Then s mid t (Err failure) first next = tt
