-- One list that grows: free blocks become its own, and octets are written into them.
use Rattle.std.proofs.Common.{◌≡◌, ℕ, ◌+◌, ◌-◌, ◌%◌, ◌<◌, ◌≤◌, ◌++◌, List, length, take, drop, sym, ap, ◌∙◌, subst, arith, lit<, append-nil, length-append, length-drop}
use Rattle.std.proofs.Math.ListN.{drop_of_length-le}
use Rattle.std.proofs.Math.Nat.{mod-lt}
use Rattle.std.proofs.lemmas.List.{length-take-le, take_all}
use Rattle.std.proofs.lemmas.Nat.{div-add-mod'}
use Rattle.giop_frag.specs.Gathered.{blocks_for}
use Rattle.giop_frag.specs.Blocks.{Pooled, AreApart, AreChained, AreWhole, AreWritten, HasGrown, block, octets_at, times}
use Rattle.giop_frag.specs.Placed.{Placed, IsFilled, IsJoinedTo, lacking}
use Rattle.giop_frag.proofs.MadeLemmas.{no_growth}
use Rattle.giop_frag.proofs.CountLemmas.{once_same, times-append, times_parts}
use Rattle.giop_frag.proofs.LaidLemmas.{octets_at-append}
use Rattle.giop_frag.proofs.TotalLemmas.{blocks_for_more, blocks_hold}

-- numbers are apart where, with others behind them, they are
pub first_part : (blocks : List (List ℕ)) (one two : List ℕ) → AreApart blocks (one ++ two) → AreApart blocks one
first_part blocks one two apart = record {
  apart = λ n. let most = apart.apart n in let both = times-append n one two in omega arith;
}

-- so they are where some of the others are left out
pub taken_apart : (old numbers : List ℕ) (from taken : Pooled) (k : ℕ) → AreApart from.blocks (old ++ from.free)
    → numbers ≡ old ++ drop k from.free → taken ≡ record from { free = take k from.free } → AreApart taken.blocks numbers
taken_apart old numbers from taken k apart is now = record {
  apart = λ n.
      let most = apart.apart n in
      let both = times-append n old from.free in
      let own = ap (times n) is ∙ times-append n old (drop k from.free) in
      let parts = times_parts n k from.free in
      let same = once_same n taken.blocks from.blocks (ap (λ p. length p.blocks) now) in
      omega arith;
}

-- and where blocks were made that are free
pub grown_apart : (old numbers : List ℕ) (from to : Pooled) → AreApart from.blocks (old ++ from.free) → numbers ≡ old → HasGrown from to
    → AreApart to.blocks (numbers ++ to.free)
grown_apart old numbers from to apart is grown = record {
  apart = λ n.
      let most = apart.apart n in
      let before = times-append n old from.free in
      let after = times-append n numbers to.free in
      let same = ap (times n) is in
      let stands = grown.stands n in
      omega arith;
}

-- a list in whole blocks of its own, as many as it needs
pub chained_by : (blocks : List (List ℕ)) (numbers : List ℕ) (size : ℕ) → AreWhole blocks → AreApart blocks numbers
    → length numbers ≡ blocks_for size → AreChained blocks numbers size
chained_by blocks numbers size whole apart count = record {
  whole = whole;
  apart = apart;
  within = let hold = blocks_hold size in omega arith;
}

-- the last k free blocks became the list's, and octets were written behind its own
pub filled_by : (old new : Placed) (from taken to : Pooled) (k : ℕ) (more : List ℕ)
    → AreApart from.blocks (old.numbers ++ from.free) → length old.numbers ≡ blocks_for old.size
    → k ≡ lacking old (length more) → k ≤ length from.free
    → new.numbers ≡ old.numbers ++ drop (length from.free - k) from.free
    → taken ≡ record from { free = take (length from.free - k) from.free } → AreWhole taken.blocks
    → octets_at to.blocks new.numbers (old.size + length more) ≡ octets_at taken.blocks new.numbers old.size ++ more
    → AreWritten new.numbers taken.blocks to.blocks → to.free ≡ taken.free → AreWhole to.blocks
    → new.order ≡ old.order → new.size ≡ old.size + length more → IsFilled old from new to more
filled_by old new from taken to k more apart count is_k enough is now whole value written free whole_to order size =
    let left = length from.free - k in
    let blocks : taken.blocks ≡ from.blocks = ap (λ p. p.blocks) now in
    let frees : to.free ≡ take left from.free = free ∙ ap (λ p. p.free) now in
    let numbers = ap length is ∙ length-append old.numbers (drop left from.free) in
    let those = length-drop left from.free in
    let these = ap length frees ∙ length-take-le left from.free (omega arith) in
    let no_fewer = blocks_for_more old.size (length more) in
    let bigger = ap blocks_for size in
    let as_many = ap length blocks in
    let number = written.number in
    let chained = chained_by from.blocks old.numbers old.size (rw blocks at whole) (first_part from.blocks old.numbers from.free apart) count in
    record {
      order = order;
      size = size;
      octets =
          ap (octets_at to.blocks new.numbers) size ∙ value
          ∙ ap (λ b. octets_at b new.numbers old.size ++ more) blocks
          ∙ ap (λ l. octets_at from.blocks l old.size ++ more) is
          ∙ ap (λ l. l ++ more) (octets_at-append from.blocks old.numbers (drop left from.free) old.size chained);
      count = omega arith;
      stands = λ n.
          let own = ap (times n) is ∙ times-append n old.numbers (drop left from.free) in
          let rest = ap (times n) frees in
          let parts = times_parts n left from.free in
          omega arith;
      free = omega arith;
      number = omega arith;
      others = λ n none.
          let own = ap (times n) is ∙ times-append n old.numbers (drop left from.free) in
          let parts = times_parts n left from.free in
          written.others n (omega arith) ∙ ap (λ b. block b n) blocks;
      whole = whole_to;
    }

-- octets were written behind its own, in its last block
pub joined_last : (old new : Placed) (from to : Pooled) (more : List ℕ)
    → AreApart from.blocks (old.numbers ++ from.free) → length old.numbers ≡ blocks_for old.size
    → 0 < old.size % 512 → old.size % 512 + length more ≤ 512 → AreWhole from.blocks
    → octets_at to.blocks old.numbers (old.size + length more) ≡ octets_at from.blocks old.numbers old.size ++ more
    → AreWritten old.numbers from.blocks to.blocks → to.free ≡ from.free → AreWhole to.blocks
    → new ≡ record old { size = old.size + length more } → IsJoinedTo old from new to more
joined_last old new from to more apart count behind within whole value written free whole_to is =
    let none = lacks_none old.size (length more) (length old.numbers) count behind within in
    let kept : old.numbers ≡ old.numbers ++ drop (length from.free - 0) from.free =
    sym (ap (λ l. old.numbers ++ l) (drop_of_length-le from.free (omega arith)) ∙ append-nil old.numbers) in
    let taken : from ≡ record from { free = take (length from.free - 0) from.free } =
    ap (λ l. record from { free = l }) (sym (take_all (length from.free - 0) from.free (omega arith))) in
    let numbers : new.numbers ≡ old.numbers = ap (λ p. p.numbers) is in
    record {
      between = from;
      provided = record { grown = no_growth from; few = omega arith; whole = whole };
      filled =
          filled_by old new from from to 0 more apart count none (omega arith) (numbers ∙ kept) taken whole
          (subst (λ l. octets_at to.blocks l (old.size + length more) ≡ octets_at from.blocks l old.size ++ more) (sym numbers) value)
          (subst (λ l. AreWritten l from.blocks to.blocks) (sym numbers) written)
          free whole_to (ap (λ p. p.order) is) (ap (λ p. p.size) is);
    }
  where
    lacks_none : (size more count : ℕ) → count ≡ blocks_for size → 0 < size % 512 → size % 512 + more ≤ 512 → 0 ≡ blocks_for (size + more) - count
    lacks_none size more count is behind within =
        let place = div-add-mod' size 512 in
        let own = div-add-mod' (size + 511) 512 in
        let all = div-add-mod' (size + more + 511) 512 in
        let one = mod-lt (size + 511) {m = 512} (lit< tt) in
        omega arith

-- a list that is another grows as it does
pub filled_as : (inside old new : Placed) (from to : Pooled) (more : List ℕ) → inside ≡ old → IsFilled inside from new to more
    → IsFilled old from new to more
filled_as inside old new from to more is filled =
    let P : Placed → Type 0 = λ p. IsFilled p from new to more in
    subst P is filled

pub joined_as : (inside old new : Placed) (from to : Pooled) (more : List ℕ) → inside ≡ old → IsJoinedTo inside from new to more
    → IsJoinedTo old from new to more
joined_as inside old new from to more is joined =
    let P : Placed → Type 0 = λ p. IsJoinedTo p from new to more in
    subst P is joined
