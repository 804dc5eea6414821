-- Calls that are told and taken out one after the other: each has the line that it had at first.
use Rattle.std.proofs.Common.{◌≡◌, ℕ, ◌+◌, ◌<◌, Bool, true, false, ◌&&◌, T, List, [], ◌∷◌, ◌++◌, length, map, take, get_or, Option, None, refl, sym, ap, subst, ◌∙◌, zero, suc, arith, if◌then◌else◌, cond}
use Rattle.std.proofs.lemmas.Grind.{flat_map-append}
use Rattle.std.proofs.lemmas.List.{append-nil, take_more}
use Rattle.std.proofs.lemmas.Map.Keys.{IsDistinct-tail, apart_from_distinct}
use Rattle.std.specs.declared.cmp.Ordering.{Ordering}
use Rattle.std.specs.declared.cmp.Ordering.TheVariants.{Less, Equal, Greater}
use Rattle.std.specs.Ordering.{nat_cmp, eq_by_cmp, is_eq, is_lt}
use Rattle.std.specs.Cmp.{nat_cmp_total, eq_by_cmp_equiv}
use Rattle.std.specs.FinMap as finite
use Rattle.std.specs.FinMap.Entries.{below_all}
use Rattle.std.specs.List.{AllByRecursion, IsDistinct, flat_map}
use Rattle.std.specs.Io.KnownBytes.{Appends}
use Rattle.giop_ids.specs.ById.{ById, put}
use Rattle.giop_ids.proofs.Puts.{get-put_tied}
use Rattle.giop_table.specs.declared.slot.Slot.{Slot}
use Rattle.giop_table.specs.Sending.{entry_of}
use Rattle.giop_commands.specs.Session.Streaming.{ended_at, has_ended, over_at, without_ended, without_over}
use Rattle.giop_commands.specs.Session.Tables.Table.{entry_text}
use Rattle.giop_show.proofs.AppendsLemmas.{Appends-append}

-- ---- the ids of a table are apart

both_parts : (a b : Bool) → T (a && b) → T a × T b
both_parts true b both = (tt, both)
both_parts false b both = absurd both

apart_below : (r : Ordering) → T (is_lt r) → is_eq r ≡ false
apart_below Less below = refl
apart_below Equal below = absurd below
apart_below Greater below = absurd below

apart_from : {V : Type 0} (id : ℕ) (entries : List (ℕ × V)) → T (below_all nat_cmp id entries)
    → AllByRecursion (λ other. eq_by_cmp nat_cmp id other ≡ false) (map (λ e. e.0) entries)
apart_from id [] below = tt
apart_from id (e ∷ entries) below =
    let parts = both_parts _ _ below in (apart_below (nat_cmp id e.0) parts.0, apart_from id entries parts.1)

entries_apart : {V : Type 0} (entries : List (ℕ × V)) → T (finite.is_sorted nat_cmp entries)
    → IsDistinct (eq_by_cmp nat_cmp) (map (λ e. e.0) entries)
unfolding IsDistinct
entries_apart [] sorted = tt
entries_apart (e ∷ entries) sorted =
    let parts = both_parts _ _ sorted in (apart_from e.0 entries parts.0, entries_apart entries parts.1)

pub keys_apart : {V : Type 0} (table : ById V) → IsDistinct (eq_by_cmp nat_cmp) (finite.keys table)
keys_apart table = entries_apart (finite.entries table) (finite.entries_sorted table)

-- ---- what stands under an id stays while the calls of others are taken out
module _ {E : Type 0} (closed : E → Bool) where
  kept_by_other : (id other : ℕ) (table : ById (Slot E)) → eq_by_cmp nat_cmp other id ≡ false
      → finite.get (without_ended closed other table) id ≡ finite.get table id
  kept_by_other id other table apart =
      elim (ended_at closed table other) as (λ b. finite.get (if b then put table other None else table) id ≡ finite.get table id) [
        | true ↦ get-put_tied table other None id
            ∙ ap (λ b. cond b None (finite.get table id)) ((eq_by_cmp_equiv nat_cmp_total).symm id other ∙ apart)
        | false ↦ refl
      ]

  kept_at : (ids : List ℕ) (i d : ℕ) (table : ById (Slot E)) → IsDistinct (eq_by_cmp nat_cmp) ids → i < length ids
      → finite.get (without_over closed (take i ids) table) (get_or ids i d) ≡ finite.get table (get_or ids i d)
  kept_at [] i d table apart within = absurd (omega arith)
  kept_at (id ∷ ids) zero d table apart within = refl
  kept_at (id ∷ ids) (suc i) d table apart within =
      kept_at ids i d (without_ended closed id table) (IsDistinct-tail (eq_by_cmp nat_cmp) id ids apart) (omega arith)
      ∙ kept_by_other (get_or ids i d) id table
      (apart_from_distinct (eq_by_cmp nat_cmp) (id ∷ ids) 0 (suc i) d apart (omega arith) within)

  -- so its line is the one that it had at first
  pub same_line : (line : ℕ → E → List ℕ) (ids : List ℕ) (i d : ℕ) (table now : ById (Slot E))
      → IsDistinct (eq_by_cmp nat_cmp) ids → i < length ids → without_over closed (take i ids) table ≡ now
      → over_at closed line now (get_or ids i d) ≡ over_at closed line table (get_or ids i d)
  same_line line ids i d table now apart within is =
      let id = get_or ids i d in
      ap (λ held. if has_ended closed (entry_of held) then entry_text (line id) (entry_of held) else [])
      (ap (λ t. finite.get t id) (sym is) ∙ kept_at ids i d table apart within)

  without_over-append : (ids more : List ℕ) (table : ById (Slot E))
      → without_over closed (ids ++ more) table ≡ without_over closed more (without_over closed ids table)
  without_over-append [] more table = refl
  without_over-append (id ∷ ids) more table = without_over-append ids more (without_ended closed id table)

  -- one more is taken out
  pub one_more_out : (ids : List ℕ) (i d : ℕ) (table now next : ById (Slot E)) → i < length ids
      → without_over closed (take i ids) table ≡ now → next ≡ without_ended closed (get_or ids i d) now
      → without_over closed (take (i + 1) ids) table ≡ next
  one_more_out ids i d table now next within is step =
      ap (λ l. without_over closed l table) (take_more ids i d within)
      ∙ without_over-append (take i ids) (get_or ids i d ∷ []) table
      ∙ ap (without_ended closed (get_or ids i d)) is
      ∙ sym step

  -- ---- the lines that were written so far
  lines_more : (line : ℕ → List ℕ) (ids : List ℕ) (i d : ℕ) → i < length ids
      → flat_map line (take (i + 1) ids) ≡ flat_map line (take i ids) ++ line (get_or ids i d)
  lines_more line ids i d within =
      ap (flat_map line) (take_more ids i d within)
      ∙ flat_map-append line (take i ids) (get_or ids i d ∷ [])
      ∙ ap (λ last. flat_map line (take i ids) ++ last) (append-nil (line (get_or ids i d)))

  -- one more has its line, which is the one that it had at first
  pub one_more_told : (line : ℕ → E → List ℕ) (ids : List ℕ) (i d : ℕ) (table now : ById (Slot E)) (was before after : Option (List ℕ))
      → IsDistinct (eq_by_cmp nat_cmp) ids → i < length ids → without_over closed (take i ids) table ≡ now
      → Appends was before (flat_map (over_at closed line table) (take i ids))
      → Appends before after (over_at closed line now (get_or ids i d))
      → Appends was after (flat_map (over_at closed line table) (take (i + 1) ids))
  one_more_told line ids i d table now was before after apart within is told more =
      subst (Appends was after) (sym (lines_more (over_at closed line table) ids i d within))
      (Appends-append was before after _ _ told (subst (Appends before after) (same_line line ids i d table now apart within is) more))
