-- Runs of a table of calls, as runs by id.
use Rattle.std.proofs.Common.{◌≡◌, ◌≢◌, ℕ, ◌==◌, ◌≤◌, ◌&&◌, Bool, true, false, cond, List, [], ◌∷◌, ◌++◌, length, map, Option, Some, None, is_some, is_none, Result, Ok, Err, OnOk, OnErr, inl, inr, refl, sym, ap, subst, ◌∙◌, arith, append-nil}
use Rattle.std.proofs.lemmas.Bool.Decides.{nat_tests}
use Rattle.std.proofs.lemmas.List.{map-append}
use Rattle.std.specs.Option.{option_map}
use Rattle.std.specs.List.{AllByRecursion}
use Rattle.std.specs.FinMap as finite
use Rattle.giop_ids.specs.declared.addressed.Addressed.{Addressed}
use Rattle.giop_ids.specs.ById.{ById, put, is_listed, HasOnly, AddressesOnly}
use Rattle.giop_ids.specs.Runs.{own, alone, told_alone, within, refusal_of, RefusedAs, Does, Runs, addressed, IsApart, Distinguishes, MeetsNoLimit}
use Rattle.giop_ids.proofs.Puts.{get-put, len-put_new}
use Rattle.giop_ids.proofs.Lengths.{len_within_ids, HasOnly-put, addresses_first}
use Rattle.giop_ids.proofs.RunLemmas.{at-run, run_keeps, Runs-append}
use Rattle.giop_mux.specs.declared.step.Step.{Step}
use Rattle.giop_mux.specs.declared.refusal.Refusal.{Refusal}
use Rattle.giop_mux.specs.declared.refusal.Refusal.TheVariants.{TooManyCalls, NoMemory}
use Rattle.giop_mux.specs.Calls.{Calls, is_one_too_many}
use Rattle.giop_mux.specs.Runs.{Happening, Hears, IsTaken, Reply, Denial, Refuses, Turned, stepped, taken, turn, room, call_rules, is_of_call, acts_of, event_reply}

pub acts_of-append : {Event : Type 0} (one other : List (Addressed Event)) → acts_of (one ++ other) ≡ acts_of one ++ acts_of other
acts_of-append [] other = refl
acts_of-append (told ∷ one) other = ap (λ acts. record { id = told.id; what = Hears told.what } ∷ acts) (acts_of-append one other)

-- where nothing is to come, what was is all
pub all_done : {A : Type 0} (done rest all : List A) → done ++ rest ≡ all → length rest ≡ 0 → done ≡ all
all_done done [] all parts none = sym (append-nil done) ∙ parts
all_done done (x ∷ rest) all parts none = absurd (omega arith)

-- a step leaves the rule and the limit of a table
pub same_rule : {R E T F : Type 0} (old new : Calls R E) (entries : ById E) (result : Result T F)
    → OnOk result (new ≡ record old { entries = entries }) → OnErr result (new ≡ old) → (new.rule ≡ old.rule) × (new.limit ≡ old.limit)
same_rule old new entries (Ok x) ok kept = (ap (λ c. c.rule) ok, ap (λ c. c.limit) ok)
same_rule old new entries (Err e) ok kept = (ap (λ c. c.rule) kept, ap (λ c. c.limit) kept)

module _ {Entry Event Answer Fault : Type 0} (next : Option Entry → Event → Step Entry Answer Fault) (closed : Entry → Bool) (limit : ℕ) where
  -- one event more
  pub one_more : (m mid n : ById Entry) (events : List (Addressed Event)) (told : Addressed Event)
      (outcomes more : List (Result Answer (Refusal Fault))) (result : Result Answer (Refusal Fault))
      → Runs (call_rules next closed limit) m (acts_of events) (map (event_reply {E = Entry}) outcomes) mid
      → Does (call_rules next closed limit) mid (record { id = told.id; what = Hears told.what }) (event_reply {E = Entry} result) n
      → more ≡ outcomes ++ result ∷ []
      → Runs (call_rules next closed limit) m (acts_of (events ++ told ∷ [])) (map (event_reply {E = Entry}) more) n
  one_more m mid n events told outcomes more result run does longer =
      let acts = acts_of-append events (told ∷ []) in
      let replies = ap (map (event_reply {E = Entry})) longer ∙ map-append (event_reply {E = Entry}) outcomes (result ∷ []) in
      let all = Runs-append (call_rules next closed limit) m mid n (acts_of events) (acts_of (told ∷ []))
      (map (event_reply {E = Entry}) outcomes) (map (event_reply {E = Entry}) (result ∷ [])) run (n, does, refl) in
      rw (acts, replies) all

  pub calls_apart : IsApart (call_rules next closed limit)
  calls_apart m id entry q = get-put m id entry q

  -- a call's own refusals are told from those of the table
  pub told_apart : Distinguishes (call_rules next closed limit) is_of_call
  told_apart = record {
    limits = λ m act why is. by_act m act.id act.what why is;
    memory = refl;
  }
    where
      by_room : (many : Bool) (why : Denial Fault) → option_map Refuses (cond many (Some TooManyCalls) None) ≡ Some why → is_of_call why ≡ false
      by_room true why is = let same : Refuses TooManyCalls ≡ why = cc in ap is_of_call (sym same)
      by_room false why is = absurd cc

      by_act : (m : ById Entry) (id : ℕ) (what : Happening Event) (why : Denial Fault) → room next closed limit m id what ≡ Some why → is_of_call why ≡ false
      by_act m id (Hears event) why is = by_room (is_one_too_many m limit id (next (finite.get m id) event).entry) why is
      by_act m id IsTaken why is = absurd cc

  -- what a run leaves and tells where no limit is met
  pub run_alone : (m n : ById Entry) (acts : List (Addressed (Happening Event))) (results : List (Result (Reply Answer Entry) (Denial Fault))) (id : ℕ)
      → Runs (call_rules next closed limit) m acts results n → MeetsNoLimit is_of_call id acts results
      → (finite.get n id ≡ alone (turn next closed) (finite.get m id) (own id acts))
      × (own id (addressed acts results) ≡ told_alone (turn next closed) (finite.get m id) (own id acts))
  run_alone m n acts results id run free = at-run (call_rules next closed limit) calls_apart is_of_call told_apart m n acts results id run free

  -- one too many: an id without an entry gets one, and there are as many as the limit
  too_many : (m : ById Entry) (id : ℕ) (held entry : Option Entry) (many : Bool) → finite.get m id ≡ held → (is_none held && is_some entry && many) ≡ true
      → (finite.get m id ≡ None) × (is_some entry ≡ true) × (many ≡ true)
  too_many m id None (Some e) true is all = (is, refl, refl)
  too_many m id None (Some e) false is all = absurd cc
  too_many m id None None many is all = absurd cc
  too_many m id (Some e) entry many is all = absurd cc

  -- a table that meets its limit has an entry for each of at least as many ids
  is_within : (m : ById Entry) (ids : List ℕ) (id : ℕ) (entry : Option Entry) → HasOnly m ids → is_listed ids id ≡ true → length ids ≤ limit
      → is_one_too_many m limit id entry ≡ true → ⊥
  is_within m ids id entry only listed most many =
      let all = too_many m id (finite.get m id) entry (finite.len m == limit) refl many in
      by_entry entry all.1 (len_within_ids ids (put m id entry) (HasOnly-put m ids id entry only listed)) all.0 all.2
    where
      by_entry : (entry : Option Entry) → is_some entry ≡ true → finite.len (put m id entry) ≤ length ids → finite.get m id ≡ None
          → (finite.len m == limit) ≡ true → ⊥
      by_entry None some fits absent full = cc
      by_entry (Some e) some fits absent full =
          let more = len-put_new m id e absent in
          let same : finite.len m ≡ limit = grind (arith, nat_tests) in
          omega arith

  -- the limit is told
  abbrev TellsLimit : Denial Fault → Option (Denial Fault) → Turned Entry Answer Fault → Type 0
  TellsLimit why over turned = RefusedAs (Refuses NoMemory) why (refusal_of (within over turned))

  no_limit : (m : ById Entry) (ids : List ℕ) (act : Addressed (Happening Event)) → HasOnly m ids → is_listed ids act.id ≡ true → length ids ≤ limit
      → (result : Result (Reply Answer Entry) (Denial Fault)) (n : ById Entry) → Does (call_rules next closed limit) m act result n
      → result ≢ Err (Refuses TooManyCalls)
  no_limit m ids act only listed most (Ok answer) n does is = absurd cc
  no_limit m ids act only listed most (Err why) n does is =
      let same : why ≡ Refuses TooManyCalls = cc in
      by_act act.what
      (subst (λ (w : Denial Fault). TellsLimit w (room next closed limit m act.id act.what)
      (turn next closed (finite.get m act.id) act.what)) same does.refusal)
    where
      by_outcome : (many : Bool) (entry : Option Entry) (outcome : Result Answer Fault)
          → TellsLimit (Refuses TooManyCalls) (option_map Refuses (cond many (Some TooManyCalls) None)) (stepped next closed entry outcome)
          → many ≡ true
      by_outcome true entry outcome refused = refl
      by_outcome false entry (Ok answer) (inl found) = absurd cc
      by_outcome false entry (Err fault) (inl found) = absurd cc
      by_outcome false entry outcome (inr wanting) = let wrong = wanting.0 in absurd cc

      by_closed : (over : Option Bool) (held : Option Entry)
          → TellsLimit (Refuses TooManyCalls) None (taken next closed over held) → ⊥
      by_closed None held (inl found) = cc
      by_closed (Some true) held (inl found) = cc
      by_closed (Some false) held (inl found) = cc
      by_closed over held (inr wanting) = let wrong = wanting.0 in cc

      by_act : (what : Happening Event)
          → TellsLimit (Refuses TooManyCalls) (room next closed limit m act.id what) (turn next closed (finite.get m act.id) what) → ⊥
      by_act (Hears event) refused =
          let entry = (next (finite.get m act.id) event).entry in
          is_within m ids act.id entry only listed most
          (by_outcome (is_one_too_many m limit act.id entry) entry (next (finite.get m act.id) event).outcome refused)
      by_act IsTaken refused = by_closed (option_map closed (finite.get m act.id)) (finite.get m act.id) refused

  -- what a call leaves has no other ids
  still_only : (m n : ById Entry) (ids : List ℕ) (act : Addressed (Happening Event)) (result : Result (Reply Answer Entry) (Denial Fault))
      → HasOnly m ids → is_listed ids act.id ≡ true → Does (call_rules next closed limit) m act result n → HasOnly n ids
  still_only m n ids act (Ok answer) only listed does =
      subst (λ (k : ById Entry). HasOnly k ids) (sym does.leaves) (HasOnly-put m ids act.id _ only listed)
  still_only m n ids act (Err why) only listed does = subst (λ (k : ById Entry). HasOnly k ids) (sym does.leaves) only

  -- where the ids are few enough no run meets the limit
  pub never_too_many : (m n : ById Entry) (acts : List (Addressed (Happening Event)))
      (results : List (Result (Reply Answer Entry) (Denial Fault))) (ids : List ℕ)
      → HasOnly m ids → AddressesOnly acts ids → length ids ≤ limit → Runs (call_rules next closed limit) m acts results n
      → AllByRecursion (λ result. result ≢ Err (Refuses TooManyCalls)) results
  never_too_many m n acts results ids only listed most run =
      (run_keeps (call_rules next closed limit) (λ k rest. HasOnly k ids × AddressesOnly rest ids) (λ result. result ≢ Err (Refuses TooManyCalls))
      (λ s t act rest result holds does.
      let first = addresses_first act rest ids holds.1 in
      ((still_only s t ids act result holds.0 first.0 does, first.1), no_limit s ids act holds.0 first.0 most result t does))
      m n acts results (only, listed) run).1
