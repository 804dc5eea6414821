-- A list of answers is given in turn.
use Rattle.std.proofs.Common.{◌≡◌, ℕ, zero, suc, ◌+◌, ◌&&◌, nat_eq, Bool, true, false, cond, List, [], ◌∷◌, ◌++◌, count_by, Some, is_some, option_and_then, refl, sym, ap, ◌∙◌, arith}
use Rattle.std.proofs.lemmas.Bool.{eq-eqb}
use Rattle.std.proofs.lemmas.List.Sums.{sum_by-append}
use Rattle.std.specs.Cmp.Lexicographic.{pointwise, same_text}
use Rattle.serde_json.specs.Data.{Data, Items, array, item, no_items}
use Rattle.serde_json.specs.Find.{at, get, get_item}
use Rattle.giop_json.specs.JsonText.{text_of}
use Rattle.giop_serving.specs.declared.serve.in_turn.AnswerName.{AnswerName}
use Rattle.giop_serving.specs.Serve.InTurn.{ListsAreGivenInTurn, ObjectsPassApart, due_in, has_next, item_or_last, passed_by, passed_of, passed_through}
use Rattle.giop_serving.specs.Serve.Objects.{Object}

-- how many items of a list are passed behind so many calls
abbrev pub place : Items → ℕ → ℕ
place no_items n = 0
place (item second more) zero = 0
place (item second more) (suc n) = suc (place more n)

place_zero : (more : Items) → place more 0 ≡ 0
place_zero no_items = refl
place_zero (item second more) = refl

there : (first : Data) (more : Items) (n : ℕ) → get_item (place more n) (item first more) ≡ Some (item_or_last first more n)
there first no_items n = refl
there first (item second more) zero = refl
there first (item second more) (suc n) = there second more n

-- one is passed where another stands behind it
next : (first : Data) (more : Items) (n : ℕ)
    → cond (is_some (get_item (suc (place more n)) (item first more))) (suc (place more n)) (place more n) ≡ place more (suc n)
next first no_items n = refl
next first (item second more) zero = ap suc (sym (place_zero more))
next first (item second more) (suc n) = pushed (is_some (get_item (suc (place more n)) (item second more))) (place more n) ∙ ap suc (next second more n)
  where
    pushed : (b : Bool) (k : ℕ) → cond b (suc (suc k)) (suc k) ≡ suc (cond b (suc k) k)
    pushed true k = refl
    pushed false k = refl

one : (n : ℕ) → n + 1 ≡ suc n
one n = omega arith

-- ---- counting

abbrev is_of : List ℕ → List ℕ → AnswerName → Bool
is_of key name other = pointwise nat_eq other.key key && pointwise nat_eq other.operation name

counted : (p : AnswerName → Bool) (xs : List AnswerName) (x : AnswerName)
    → count_by p (xs ++ x ∷ []) ≡ count_by p xs + cond (p x) 1 0
counted p xs x = sum_by-append (λ y. cond (p y) 1 0) xs (x ∷ []) ∙ omega arith

same_octets : (xs : List ℕ) → pointwise nat_eq xs xs ≡ true
same_octets [] = refl
same_octets (x ∷ xs) = rw (eq-eqb x x refl) (same_octets xs)

-- ---- calls

-- a call of another operation
apart : (key name : List ℕ) (passed : List AnswerName) (other : List ℕ) → pointwise nat_eq other name ≡ false
    → (b : Bool) → count_by (is_of key name) (cond b (passed ++ (record { key = key; operation = other }) ∷ []) passed)
    ≡ count_by (is_of key name) passed
apart key name passed other differs false = refl
apart key name passed other differs true =
    counted (is_of key name) passed (record { key = key; operation = other })
    ∙ ap (λ b. count_by (is_of key name) passed + cond b 1 0)
    (ap (λ b. b && pointwise nat_eq other name) (same_octets key) ∙ differs)
    ∙ omega arith

-- one of this
own : (key name : List ℕ) (passed : List AnswerName) (b : Bool)
    → count_by (is_of key name) (cond b (passed ++ (record { key = key; operation = name }) ∷ []) passed)
    ≡ cond b (count_by (is_of key name) passed + 1) (count_by (is_of key name) passed)
own key name passed false = refl
own key name passed true =
    counted (is_of key name) passed (record { key = key; operation = name })
    ∙ ap (λ b. count_by (is_of key name) passed + cond b 1 0)
    (ap (λ b. b && pointwise nat_eq name name) (same_octets key) ∙ same_octets name)

module _ (object : Object) (name : List ℕ) (first : Data) (more : Items)
    (listed : get (text_of name) object.answers ≡ Some (array (item first more))) where
  -- what is passed behind a call of this operation
  passes : (passed : List AnswerName) (n : ℕ) → passed_of passed object.key name ≡ place more n
      → passed_of (passed_by object passed name) object.key name ≡ place more (suc n)
  passes passed n is =
      own object.key name passed (has_next object passed name)
      ∙ ap (λ found. cond (is_some (option_and_then (at (passed_of passed object.key name + 1)) found))
      (passed_of passed object.key name + 1) (passed_of passed object.key name)) listed
      ∙ ap (λ k. cond (is_some (get_item (k + 1) (item first more))) (k + 1) k) is
      ∙ ap (λ k. cond (is_some (get_item k (item first more))) k (place more n)) (one (place more n))
      ∙ next first more n

  abbrev calls_of : List (List ℕ) → ℕ
  calls_of calls = count_by (λ call. pointwise nat_eq call name) calls

  calls_more : (call : List ℕ) (calls : List (List ℕ)) → calls_of (call ∷ calls) ≡ cond (pointwise nat_eq call name) 1 0 + calls_of calls
  calls_more call calls = sum_by-append (λ it. cond (pointwise nat_eq it name) 1 0) (call ∷ []) calls ∙ omega arith

  abbrev Through : List (List ℕ) → Type 0
  Through calls = (passed : List AnswerName) (n : ℕ) → passed_of passed object.key name ≡ place more n
      → passed_of (passed_through object passed calls) object.key name ≡ place more (calls_of calls + n)

  -- behind a call that is one of this operation, or isn't
  behind : (call : List ℕ) (calls : List (List ℕ)) → Through calls → (passed : List AnswerName) (n : ℕ)
      → passed_of passed object.key name ≡ place more n → (b : Bool) → pointwise nat_eq call name ≡ b
      → passed_of (passed_through object passed (call ∷ calls)) object.key name ≡ place more ((cond b 1 0 + calls_of calls) + n)
  behind call calls more_calls passed n is true same =
      more_calls (passed_by object passed call) (suc n)
      (ap (λ it. passed_of (passed_by object passed it) object.key name) (same_text call name (sym same)) ∙ passes passed n is)
      ∙ ap (place more) (ap (λ k. calls_of calls + k) (sym (one n)) ∙ omega arith)
  behind call calls more_calls passed n is false differs =
      more_calls (passed_by object passed call) n
      (apart object.key name passed call differs (has_next object passed call) ∙ is)
      ∙ ap (place more) (omega arith)

  through : (calls : List (List ℕ)) → Through calls
  through [] passed n is = is ∙ ap (place more) (omega arith)
  through (call ∷ calls) passed n is =
      behind call calls (through calls) passed n is (pointwise nat_eq call name) refl
      ∙ ap (λ k. place more (k + n)) (sym (calls_more call calls))

  pub in_turn_at : (calls : List (List ℕ))
      → due_in (passed_of (passed_through object [] calls) object.key name) (array (item first more))
      ≡ Some (item_or_last first more (calls_of calls))
  in_turn_at calls =
      ap (λ k. get_item k (item first more)) (through calls [] 0 (sym (place_zero more)) ∙ ap (place more) (omega arith))
      ∙ there first more (calls_of calls)

pub in_turn : ListsAreGivenInTurn
in_turn object name first more calls listed = in_turn_at object name first more listed calls

-- ---- another object

pub objects_apart : ObjectsPassApart
objects_apart object other passed name called differs = by_next (has_next other passed called)
  where
    by_next : (b : Bool)
        → passed_of (cond b (passed ++ (record { key = other.key; operation = called }) ∷ []) passed) object.key name
        ≡ passed_of passed object.key name
    by_next false = refl
    by_next true =
        counted (is_of object.key name) passed (record { key = other.key; operation = called })
        ∙ ap (λ b. passed_of passed object.key name + cond (b && pointwise nat_eq called name) 1 0) differs
        ∙ omega arith
