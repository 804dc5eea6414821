-- Texts that are the same up to a mark, and the piece of a text that is one address.
use Rattle.std.proofs.Common.{◌≡◌, ℕ, zero, suc, ◌+◌, ◌==◌, Bool, true, false, if◌then◌else◌, List, [], ◌∷◌, ◌++◌, length, take, refl, sym, ap, subst, ◌∙◌, arith, append_assoc, inl, inr, ◌⊎◌}
use Rattle.std.specs.List.{AllByRecursion, position_or_len}
use Rattle.std.proofs.lemmas.Bool.{eqb-true}
use Rattle.std.proofs.lemmas.List.Elements.{All-from_recursion, recursion_from_All}
use Rattle.giop_ior.specs.FirstFault.{ends_address}
use Rattle.giop_ior.proofs.CutLemmas.{Lacks}

-- no octet of a text is such a mark
abbrev pub Free : (ℕ → Bool) → List ℕ → Type 0
Free is_mark = AllByRecursion (λ x. is_mark x ≡ false)

pub head_is : {x y : ℕ} {xs ys : List ℕ} → x ∷ xs ≡ y ∷ ys → x ≡ y
head_is e = cc

tail_is : {x y : ℕ} {xs ys : List ℕ} → x ∷ xs ≡ y ∷ ys → xs ≡ ys
tail_is e = cc

-- a text that begins as another does
pub record GoesOn (l z other : List ℕ) (n : ℕ) : Type 0 where
  pub rest : List ℕ
  pub whole : other ≡ l ++ rest
  pub same : take n rest ≡ take n z

pub goes_on : (l z other : List ℕ) (n k : ℕ) → k ≡ length l + n → take k other ≡ take k (l ++ z) → GoesOn l z other n
goes_on [] z other n k count same =
    let all : k ≡ n = omega (arith, count) in
    record { rest = other; whole = refl; same = subst (λ u. take u other ≡ take u z) all same }
goes_on (x ∷ l) z other n zero count same = absurd (omega (arith, count))
goes_on (x ∷ l) z [] n (suc k) count same = absurd (cc)
goes_on (x ∷ l) z (y ∷ other) n (suc k) count same =
    let on = goes_on l z other n k (omega (arith, count)) (tail_is same) in
    record { rest = on.rest; whole = ap (λ u. u ∷ other) (head_is same) ∙ ap (λ u. x ∷ u) on.whole; same = on.same }

-- two texts that are the same up to the first mark
pub record AreMarked (is_mark : ℕ → Bool) (z other : List ℕ) : Type 0 where
  pub front : List ℕ
  pub mark : ℕ
  pub back : List ℕ
  pub other_back : List ℕ
  pub whole : z ≡ front ++ mark ∷ back
  pub other_whole : other ≡ front ++ mark ∷ other_back
  pub free : Free is_mark front
  pub marks : is_mark mark ≡ true

pub same_to_mark : (is_mark : ℕ → Bool) (z other : List ℕ) (k : ℕ) → k ≡ position_or_len is_mark z + 1
    → take k other ≡ take k z → (other ≡ z) ⊎ AreMarked is_mark z other
same_to_mark is_mark z other zero count same = absurd (omega (arith, count))
same_to_mark is_mark [] [] (suc k) count same = inl refl
same_to_mark is_mark [] (y ∷ other) (suc k) count same = absurd (cc)
same_to_mark is_mark (x ∷ z) [] (suc k) count same = absurd (cc)
same_to_mark is_mark (x ∷ z) (y ∷ other) (suc k) count same =
    go (λ fewer. same_to_mark is_mark z other k (omega (arith, fewer)) (tail_is same)) (is_mark x) refl
  where
    first : y ≡ x
    first = head_is same

    onto : is_mark x ≡ false → (other ≡ z) ⊎ AreMarked is_mark z other → (y ∷ other ≡ x ∷ z) ⊎ AreMarked is_mark (x ∷ z) (y ∷ other)
    onto is (inl all) = inl (ap (λ u. u ∷ other) first ∙ ap (λ u. x ∷ u) all)
    onto is (inr m) = inr (record {
      front = x ∷ m.front;
      mark = m.mark;
      back = m.back;
      other_back = m.other_back;
      whole = ap (λ u. x ∷ u) m.whole;
      other_whole = ap (λ u. u ∷ other) first ∙ ap (λ u. x ∷ u) m.other_whole;
      free = (is, m.free);
      marks = m.marks;
    })

    go : (suc k ≡ 1 + position_or_len is_mark z + 1 → (other ≡ z) ⊎ AreMarked is_mark z other)
        → (b : Bool) → is_mark x ≡ b → (y ∷ other ≡ x ∷ z) ⊎ AreMarked is_mark (x ∷ z) (y ∷ other)
    go rest true is = inr (record {
      front = [];
      mark = x;
      back = z;
      other_back = other;
      whole = refl;
      other_whole = ap (λ u. u ∷ other) first;
      free = tt;
      marks = is;
    })
    go rest false is = onto is (rest (count ∙ rw is refl))

-- ---- the piece of a text that is one address

-- what stands before the first "," or "/"
abbrev pub piece : List ℕ → List ℕ
piece [] = []
piece (x ∷ text) = if ends_address x then [] else x ∷ piece text

pub piece_behind : (front text : List ℕ) → Free ends_address front → piece (front ++ text) ≡ front ++ piece text
piece_behind [] text free = refl
piece_behind (x ∷ front) text free = rw free.0 (ap (λ u. x ∷ u) (piece_behind front text free.1))

pub piece_whole : (text : List ℕ) → Free ends_address text → piece text ≡ text
piece_whole [] free = refl
piece_whole (x ∷ text) free = rw free.0 (ap (λ u. x ∷ u) (piece_whole text free.1))

pub piece_ends : (front : List ℕ) (mark : ℕ) (text : List ℕ) → Free ends_address front → ends_address mark ≡ true → piece (front ++ mark ∷ text) ≡ front
piece_ends [] mark text free is = rw is refl
piece_ends (x ∷ front) mark text free is = rw free.0 (ap (λ u. x ∷ u) (piece_ends front mark text free.1 is))

-- a "/" behind a text ends its piece at the latest
pub piece_slash : (text key : List ℕ) → piece (text ++ 47 ∷ key) ≡ piece text
piece_slash [] key = refl
piece_slash (x ∷ text) key = ap (λ u. if ends_address x then [] else x ∷ u) (piece_slash text key)

pub piece_free : (text : List ℕ) → Free ends_address (piece text)
piece_free [] = tt
piece_free (x ∷ text) = go (piece_free text) (ends_address x) refl
  where
    go : Free ends_address (piece text) → (b : Bool) → ends_address x ≡ b → Free ends_address (if b then [] else x ∷ piece text)
    go rest true is = tt
    go rest false is = (is, rest)

-- a text is its piece, and what follows
pub record IsEnded (text : List ℕ) : Type 0 where
  pub mark : ℕ
  pub back : List ℕ
  pub whole : text ≡ piece text ++ mark ∷ back
  pub marks : ends_address mark ≡ true

pub piece_and_rest : (text : List ℕ) → (text ≡ piece text) ⊎ IsEnded text
piece_and_rest [] = inl refl
piece_and_rest (x ∷ text) = go (ends_address x) refl (piece_and_rest text)
  where
    go : (b : Bool) → ends_address x ≡ b → (text ≡ piece text) ⊎ IsEnded text → (x ∷ text ≡ piece (x ∷ text)) ⊎ IsEnded (x ∷ text)
    go true is rest = inr (record { mark = x; back = text; whole = rw is refl; marks = is })
    go false is (inl all) = inl (rw is (ap (λ u. x ∷ u) all))
    go false is (inr ended) =
        inr (record { mark = ended.mark; back = ended.back; whole = rw is (ap (λ u. x ∷ u) ended.whole); marks = ended.marks })

-- what a piece begins with, its text begins with
pub piece_splits : (front back text : List ℕ) → piece text ≡ front ++ back → (rest : List ℕ) × (text ≡ front ++ rest)
piece_splits front back text is = go (piece_and_rest text)
  where
    go : (text ≡ piece text) ⊎ IsEnded text → (rest : List ℕ) × (text ≡ front ++ rest)
    go (inl all) = (back, all ∙ is)
    go (inr ended) = (
      back ++ ended.mark ∷ ended.back,
      ended.whole ∙ ap (λ u. u ++ ended.mark ∷ ended.back) is ∙ append_assoc front back (ended.mark ∷ ended.back),
    )

-- ---- freedom from marks

pub free_front : (is_mark : ℕ → Bool) (front back : List ℕ) → Free is_mark (front ++ back) → Free is_mark front
free_front is_mark [] back free = tt
free_front is_mark (x ∷ front) back free = (free.0, free_front is_mark front back free.1)

pub free_lacks : (is_mark : ℕ → Bool) (octet : ℕ) (text : List ℕ) → is_mark octet ≡ true → Free is_mark text → Lacks octet text
free_lacks is_mark octet text marks free = All-from_recursion _ text (go text free)
  where
    other : (x : ℕ) (t : Bool) → (x == octet) ≡ t → is_mark x ≡ false → t ≡ false
    other x false is not_so = refl
    other x true is not_so = let wrong : false ≡ true = sym not_so ∙ ap is_mark (eqb-true x octet is) ∙ marks in absurd (cc)

    go : (text : List ℕ) → Free is_mark text → AllByRecursion (λ x. (x == octet) ≡ false) text
    go [] free = tt
    go (x ∷ text) free = (other x (x == octet) refl free.0, go text free.1)

pub lacks_free : (text : List ℕ) → Lacks 44 text → Lacks 47 text → Free ends_address text
lacks_free text comma slash = go text (recursion_from_All _ text comma) (recursion_from_All _ text slash)
  where
    go : (text : List ℕ) → AllByRecursion (λ x. (x == 44) ≡ false) text → AllByRecursion (λ x. (x == 47) ≡ false) text → Free ends_address text
    go [] comma slash = tt
    go (x ∷ text) comma slash = (rw (comma.0, slash.0) refl, go text comma.1 slash.1)
