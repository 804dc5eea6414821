-- Slots and the entries that they hold.
use Rattle.std.proofs.Common.{◌≡◌, ◌≢◌, ℕ, ◌+◌, ◌≤◌, ◌<◌, ◌&&◌, Bool, true, false, cond, List, [], ◌∷◌, ◌++◌, length, map, take, drop, get_or, Option, Some, None, refl, sym, ap, ◌∙◌, ◌==◌, arith, Result, Ok, Err, is_ok, OnOk, OnErr, is_some, append_assoc}
use Rattle.std.proofs.lemmas.Bool.{and_parts}
use Rattle.std.proofs.lemmas.Bool.Decides.{nat_tests}
use Rattle.std.proofs.lemmas.List.{drop_all, drop_more, take_more}
use Rattle.std.specs.Prelude.{nat_lt}
use Rattle.std.specs.Cmp.{nat_cmp_total, ranked}
use Rattle.std.specs.Ordering.{nat_cmp}
use Rattle.std.specs.declared.cmp.Ordering.TheVariants.{Less, Equal, Greater}
use Rattle.std.specs.FinMap as finite
use Rattle.std.specs.FinMap.{entries-insert, get-entries}
use Rattle.std.specs.Map.{lookup}
use Rattle.std.specs.BTreeMap.{is_at}
use Rattle.giop_ids.specs.ById.{ById, put}
use Rattle.giop_ids.specs.Slots.{Becomes}
use Rattle.giop_ids.proofs.Puts.{get-put, get-put_other, get-put_same, put-put, put-put_other, put_absent, len-put_new, len-put_none, len-put_old, len-put_within}
use Rattle.giop_ids.proofs.SlotLemmas as slots
use Rattle.giop_mux.specs.Slots.{entries_of, as_slot, held, IsWhole, NoneEmpty, placed}
use Rattle.giop_mux.specs.declared.slots.Slots.{Slots}

-- an entry under another id than the one in front
pub is_other : {E : Type 0} (m : ById E) (front id : ℕ) (entry : E) → finite.get m front ≡ None
    → finite.get m id ≡ Some entry → id ≢ front
is_other m front id entry none some same =
    let there : finite.get m front ≡ Some entry = ap (finite.get m) (sym same) ∙ some in absurd cc

-- what is put in another slot is put beside the one in front
pub put_beside : {E : Type 0} (m : ById E) (front id : ℕ) (slot entry : Option E) → id ≢ front
    → put (put m id entry) front slot ≡ put (put m front slot) id entry
put_beside m front id slot entry apart = put-put_other m id front entry slot (λ same. apart (sym same))

-- what is put in front takes the place of what was there
pub put_front : {E : Type 0} (m : ById E) (front id : ℕ) (old new : Option E) → front ≡ id
    → put m front new ≡ put (put m front old) id new
put_front m front id old new same = sym (put-put m front old new) ∙ ap (λ n. put (put m front old) n new) same

-- under the id in front stands what is there
pub get_front : {E : Type 0} (m : ById E) (front id : ℕ) (slot : Option E) → front ≡ id
    → finite.get (put m front slot) id ≡ slot
get_front m front id slot same = ap (finite.get (put m front slot)) (sym same) ∙ get-put_same m front slot

-- an id that is in front has the entry there
pub in_front : {E : Type 0} (m : ById E) (front id : ℕ) (slot : Option E) → ((front == id) && is_some slot) ≡ true
    → (front ≡ id) × ((entry : E) × (finite.get (put m front slot) id ≡ Some entry))
in_front {E} m front id slot is =
    let parts = and_parts (front == id) (is_some slot) is in
    let same : front ≡ id = grind (arith, nat_tests, parts.0) in
    (same, from slot parts.1 (get_front m front id slot same))
  where
    from : (slot : Option E) → is_some slot ≡ true → finite.get (put m front slot) id ≡ slot
        → (entry : E) × (finite.get (put m front slot) id ≡ Some entry)
    from (Some entry) some found = (entry, found)
    from None some found = absurd cc

-- an id that no slot shows an entry for has none
pub not_held : {E : Type 0} (m : ById E) (front id : ℕ) (slot : Option E) → ((front == id) && is_some slot) ≡ false
    → finite.get m id ≡ None → finite.get (put m front slot) id ≡ None
not_held m front id None other absent = get-put m front None id ∙ either (id == front)
  where
    either : (b : Bool) → cond b None (finite.get m id) ≡ None
    either true = refl
    either false = absent
not_held m front id (Some entry) other absent =
    let apart : id ≢ front = λ same. absurd (grind (arith, nat_tests, same, other)) in
    get-put_other m front (Some entry) id apart ∙ absent

-- an id under which a new entry comes isn't in front, where something is there
pub is_behind : {E : Type 0} (m : ById E) (front id : ℕ) (slot : Option E) → is_some slot ≡ true
    → finite.get (put m front slot) id ≡ None → id ≢ front
is_behind m front id slot some absent same = never slot some (sym (get_front m front id slot (sym same)) ∙ absent)
  where
    never : {E : Type 0} (slot : Option E) → is_some slot ≡ true → slot ≡ None → ⊥
    never (Some entry) some none = absurd cc
    never None some none = absurd cc

-- taking an entry out leaves no more entries
pub len-removed : {E : Type 0} (m : ById E) (id : ℕ) → finite.len (finite.remove m id) ≤ finite.len m
len-removed {E} m id = by_entry (finite.get m id) refl
  where
    by_entry : (found : Option E) → finite.get m id ≡ found → finite.len (finite.remove m id) ≤ finite.len m
    by_entry None is = let same = ap finite.len (put_absent m id is) in omega (arith, same)
    by_entry (Some entry) is = let fewer = len-put_none m id entry is in omega (arith, fewer)

-- one more entry where something is in front
pub len_front : {E : Type 0} (m : ById E) (front : ℕ) (slot : Option E) (entry : E) → finite.get m front ≡ None → slot ≡ Some entry
    → finite.len m + 1 ≡ finite.len (put m front slot)
len_front m front slot entry absent is = rw is (sym (len-put_new m front entry absent))

pub len_no_front : {E : Type 0} (m : ById E) (front : ℕ) (slot : Option E) → finite.get m front ≡ None → slot ≡ None
    → finite.len m ≡ finite.len (put m front slot)
len_no_front m front slot absent is = rw is (ap finite.len (sym (put_absent m front absent)))

-- nor does another entry, or none, in the place of one
pub len-put_held : {E : Type 0} (m : ById E) (id : ℕ) (entry : Option E) → (held : E) → finite.get m id ≡ Some held
    → finite.len (put m id entry) ≤ finite.len m
len-put_held m id None held found = let fewer = len-put_none m id held found in omega (arith, fewer)
len-put_held m id (Some entry) held found = let same = len-put_old m id held entry found in omega (arith, same)

-- the ids with a new one among them are those of the entries with its own
keys-placed : {E : Type 0} (m : ById E) (id : ℕ) (entry : E) → finite.get m id ≡ None
    → finite.keys (put m id (Some entry)) ≡ placed id (finite.keys m)
keys-placed {E} m id entry absent =
    ap (map (λ e. e.0)) (entries-insert nat_cmp_total m id entry) ∙ among (finite.entries m) (sym (get-entries m id) ∙ absent)
  where
    among : (es : List (ℕ × E)) → finite.find nat_cmp id es ≡ None
        → map (λ e. e.0) (finite.put nat_cmp id entry es) ≡ placed id (map (λ e. e.0) es)
    among [] none = refl
    among (other ∷ es) none =
        elim (nat_cmp id other.0) as (λ r. nat_cmp id other.0 ≡ r → map (λ e. e.0) (finite.put nat_cmp id entry (other ∷ es))
        ≡ placed id (map (λ e. e.0) (other ∷ es))) [
          | Less ↦ λ p.
              let below : id < other.0 = ranked id other.0 Less (sym p) in
              let over : nat_lt other.0 id ≡ false = grind (arith, nat_tests, below) in
              rw (p, over) refl
          | Equal ↦ λ p. let some : Some other.1 ≡ None = rw p at none in absurd cc
          | Greater ↦ λ p.
              let above : other.0 < id = ranked id other.0 Greater (sym p) in
              let under : nat_lt other.0 id ≡ true = grind (arith, nat_tests, above) in
              rw (p, under) (ap (λ ids. other.0 ∷ ids) (among es (rw p at none)))
        ] refl

-- so do all ids, with that of the slot in front among those of the others, if it has an entry
pub keys-with : {E : Type 0} (m : ById E) (id : ℕ) (slot : Option E) → is_some slot ≡ true → finite.get m id ≡ None
    → finite.keys (put m id slot) ≡ placed id (finite.keys m)
keys-with m id (Some entry) some absent = keys-placed m id entry absent
keys-with m id None some absent = absurd cc

-- nothing in front leaves the others as they are
pub no_front : {E : Type 0} (m : ById E) (id : ℕ) (slot : Option E) → is_some slot ≡ false → finite.get m id ≡ None
    → put m id slot ≡ m
no_front m id None none absent = put_absent m id absent
no_front m id (Some entry) none absent = absurd cc

-- an id that is passed over stands before the place
pub one_passed : (id at : ℕ) (ids : List ℕ) → at < length ids → get_or ids at 0 < id
    → placed id ids ≡ take at ids ++ placed id (drop at ids)
    → placed id ids ≡ take (at + 1) ids ++ placed id (drop (at + 1) ids)
one_passed id at ids within below so_far =
    let smaller : nat_lt (get_or ids at 0) id ≡ true = grind (arith, nat_tests, below) in
    so_far
    ∙ ap (λ rest. take at ids ++ placed id rest) (drop_more ids at 0 within)
    ∙ ap (λ b. take at ids ++ cond b (get_or ids at 0 ∷ placed id (drop (at + 1) ids)) (id ∷ get_or ids at 0 ∷ drop (at + 1) ids)) smaller
    ∙ sym (append_assoc (take at ids) (get_or ids at 0 ∷ []) (placed id (drop (at + 1) ids)))
    ∙ ap (λ front. front ++ placed id (drop (at + 1) ids)) (sym (take_more ids at 0 within))

-- the place is before the first id that isn't smaller
pub placed_before : (id at : ℕ) (ids : List ℕ) → at < length ids → id ≤ get_or ids at 0
    → placed id (drop at ids) ≡ id ∷ drop at ids
placed_before id at ids within least =
    let over : nat_lt (get_or ids at 0) id ≡ false = grind (arith, nat_tests, least) in
    let next = drop_more ids at 0 within in
    rw next (ap (λ b. cond b (get_or ids at 0 ∷ placed id (drop (at + 1) ids)) (id ∷ get_or ids at 0 ∷ drop (at + 1) ids)) over)

-- or behind all
pub placed_last : (id at : ℕ) (ids : List ℕ) → length ids ≤ at → placed id (drop at ids) ≡ id ∷ drop at ids
placed_last id at ids all = rw (drop_all at ids all) refl

-- slots that change at one id hold the entries with that one put
pub one_put : {E : Type 0} (old new : List (ℕ × Option E)) (id : ℕ) (entry : Option E)
    → Becomes old new id (as_slot entry) → entries_of new ≡ put (entries_of old) id entry
one_put old new id (Some entry) becomes = slots.one_put (λ slot. slot) old new id (Some (Some entry)) becomes
one_put old new id None becomes = slots.one_put (λ slot. slot) old new id None becomes

-- and each slot is still full
pub still_full : {E : Type 0} (old new : List (ℕ × Option E)) (id : ℕ) (entry : Option E)
    → Becomes old new id (as_slot entry) → NoneEmpty old → NoneEmpty new
still_full old new id (Some entry) becomes full =
    slots.still_full (λ slot. slot) old new id (Some (Some entry)) becomes (λ x is. let same : Some entry ≡ x = cc in ap is_some (sym same)) full
still_full old new id None becomes full =
    slots.still_full (λ slot. slot) old new id None becomes (λ x is. absurd cc) full

-- one entry more, or none, is within a limit that wasn't reached
pub stays_within : {T F E : Type 0} (result : Result T F) (old new : ById E) (calls id : ℕ) (entry : E)
    → OnOk result (new ≡ put old id (Some entry)) → OnErr result (new ≡ old) → finite.len old ≤ calls → finite.len old ≢ calls
    → finite.len new ≤ calls
stays_within (Ok x) old new calls id entry added kept within room =
    let is = ap finite.len added in let more = len-put_within old id (Some entry) in omega (arith, is, more, within, room)
stays_within (Err e) old new calls id entry added kept within room = let is = ap finite.len kept in omega (arith, is, within)

-- what holds where a result is Ok, of one that is
pub ok_part : {T E P : Type 0} (r : Result T E) → is_ok r ≡ true → OnOk r P → P
ok_part (Ok x) is h = h
ok_part (Err e) is h = absurd cc

-- an entry written into its slot is put
pub Becomes-written : {E : Type 0} (old new : List (ℕ × Option E)) (id : ℕ) (entry : Option E) → is_some entry ≡ true
    → ((q : ℕ) → lookup (is_at (nat_cmp q)) new ≡ cond (is_at (nat_cmp id) q) (Some entry) (lookup (is_at (nat_cmp q)) old))
    → Becomes old new id (as_slot entry)
Becomes-written old new id (Some entry) full written = written
Becomes-written old new id None full written = absurd cc

-- a slot that was emptied and then taken out is gone
pub Becomes-removed : {E : Type 0} (old mid new : List (ℕ × Option E)) (id : ℕ) (entry : Option E) → is_some entry ≡ false
    → ((q : ℕ) → lookup (is_at (nat_cmp q)) mid ≡ cond (is_at (nat_cmp id) q) (Some entry) (lookup (is_at (nat_cmp q)) old))
    → ((q : ℕ) → lookup (is_at (nat_cmp q)) new ≡ cond (is_at (nat_cmp id) q) None (lookup (is_at (nat_cmp q)) mid))
    → Becomes old new id (as_slot entry)
Becomes-removed old mid new id (Some entry) empty written removed = absurd cc
Becomes-removed {E} old mid new id None empty written removed = λ q.
    removed q ∙ ap (cond (is_at (nat_cmp id) q) None) (written q)
    ∙ twice (is_at (nat_cmp id) q) (lookup (is_at (nat_cmp q)) old)
  where
    twice : (b : Bool) (rest : Option (Option E)) → cond b None (cond b (Some None) rest) ≡ cond b None rest
    twice true rest = refl
    twice false rest = refl

-- slots of which one behind the front changes hold the entries with that one put
pub one_behind : {E : Type 0} (old new : Slots E) (id : ℕ) (entry : Option E) → new.id ≡ old.id → new.front ≡ old.front
    → Becomes old.others.entries new.others.entries id (as_slot entry) → id ≢ old.id → held new ≡ put (held old) id entry
one_behind {E} old new id entry same_id same_front becomes apart =
    ap (λ (n : ℕ). put (entries_of new.others.entries) n new.front) same_id
    ∙ ap (put (entries_of new.others.entries) old.id) same_front
    ∙ ap (λ (m : ById E). put m old.id old.front) (one_put _ _ id entry becomes)
    ∙ put_beside _ _ _ _ _ apart

-- and are whole still
pub still_whole : {E : Type 0} (old new : Slots E) (id : ℕ) (entry : Option E) → new.id ≡ old.id
    → Becomes old.others.entries new.others.entries id (as_slot entry) → id ≢ old.id → IsWhole old → IsWhole new
still_whole {E} old new id entry same_id becomes apart whole = record {
  full = still_full _ _ id entry becomes whole.full;
  apart =
      ap (finite.get (entries_of new.others.entries)) same_id
      ∙ ap (λ (m : ById E). finite.get m old.id) (one_put _ _ id entry becomes)
      ∙ get-put_other _ _ _ _ (λ same. apart (sym same))
      ∙ whole.apart;
}
