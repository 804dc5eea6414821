-- Over any run each id's octets are those of its own calls, and the total stays within the limit.
use Rattle.std.proofs.Common.{◌≡◌, ◌≢◌, ℕ, ◌≤◌, ◌+◌, ◌==◌, Bool, true, false, cond, List, [], ◌∷◌, ◌++◌, length, Option, Some, None, Result, Ok, Err, inl, inr, refl, sym, ap, subst, ◌∙◌, arith, append-nil, append_assoc}
use Rattle.std.proofs.lemmas.Bool.Decides.{nat_tests}
use Rattle.std.specs.List.{AllByRecursion}
use Rattle.std.specs.FinMap as finite
use Rattle.giop_cdr.specs.declared.order.Order.{Order}
use Rattle.giop_cdr.specs.declared.order.Order.TheVariants.{Big, Little}
use Rattle.giop_ids.specs.declared.addressed.Addressed.{Addressed}
use Rattle.giop_ids.specs.Runs.{own, alone, told_alone, left, told, within, refusal_of, RefusedAs, after, Does, Runs, addressed, accepted, IsApart, Distinguishes, MeetsNoLimit}
use Rattle.giop_ids.proofs.Puts.{get-put}
use Rattle.giop_ids.proofs.RunLemmas.{alone-append, at-run, run_keeps, at-all_after, leaves_accepted, at_own, other_call}
use Rattle.giop_frag.specs.declared.fault.GatherFault.{GatherFault}
use Rattle.giop_frag.specs.declared.fault.GatherFault.TheVariants.{OrderDiffers, GatherFull, NoMemory}
use Rattle.giop_frag.specs.Gathered.{Pieces, Lists, grown, octets_in, total_of, is_over, room_fault, first_fault, same_order, add_fault_by}
use Rattle.giop_frag.specs.Runs.{Happening, Begins, Adds, IsFinished, IsDiscarded, Reply, Turned, unless, turn, octets_with, room, gather_rules, is_of_id, joined, added, IsJoined, all_octets}
use Rattle.giop_frag.proofs.TotalLemmas.{octets_in-grown, total_put}

joined-append : (one : List (List ℕ)) (octets : List ℕ) → joined (one ++ octets ∷ []) ≡ joined one ++ octets
joined-append [] octets = append-nil octets
joined-append (first ∷ one) octets = ap (λ rest. first ++ rest) (joined-append one octets) ∙ sym (append_assoc first (joined one) octets)

added-append : (order : Order) (one : List (List ℕ)) (octets : List ℕ)
    → added order (one ++ octets ∷ []) ≡ added order one ++ Adds order octets ∷ []
added-append order [] octets = refl
added-append order (first ∷ one) octets = ap (λ rest. Adds order first ∷ rest) (added-append order one octets)

order_itself : (order : Order) → same_order order order ≡ true
order_itself Big = refl
order_itself Little = refl

alone-added : (order : Order) (octets : List ℕ) (rest : List (List ℕ))
    → alone turn (Some (record { order = order; octets = octets })) (added order rest)
    ≡ Some (record { order = order; octets = octets ++ joined rest })
alone-added order octets [] = ap (λ all. Some (record { order = order; octets = all })) (sym (append-nil octets))
alone-added order octets (more ∷ rest) =
    let held : Pieces = record { order = order; octets = octets } in
    ap (λ b. alone turn (left (Some held) (unless (cond b None (Some OrderDiffers)) (grown (Some held) more))) (added order rest)) (order_itself order)
    ∙ alone-added order (octets ++ more) rest
    ∙ ap (λ all. Some (record { order = order; octets = all })) (append_assoc octets more (joined rest))

-- an id that hears of these has them joined
pub alone_joined : (held : Option Pieces) (pieces : Pieces) (heard : List Happening) → IsJoined pieces heard
    → alone turn held heard ≡ Some pieces
alone_joined held pieces heard is =
    ap (alone turn held) is.parts
    ∙ alone-append turn held is.before (Begins pieces.order is.first ∷ added pieces.order is.rest)
    ∙ alone-added pieces.order is.first is.rest
    ∙ ap (λ all. Some (record { order = pieces.order; octets = all })) (sym is.octets)

pub one_order : (one other : Order) → same_order one other ≡ true → one ≡ other
one_order Big Big e = refl
one_order Little Little e = refl
one_order Big Little e = cc
one_order Little Big e = cc

-- octets are added in the order that the id began with
pub same_order_added : (over : Bool) (pieces : Pieces) (order : Order) → add_fault_by over (Some pieces) order ≡ None → order ≡ pieces.order
same_order_added over pieces order none = one_order order pieces.order (by_test (same_order order pieces.order) none)
  where
    by_test : (same : Bool) → first_fault (cond same None (Some OrderDiffers)) (room_fault over) ≡ None → same ≡ true
    by_test true e = refl
    by_test false e = absurd cc

-- what an id has is joined from what it heard of
abbrev Traced : Option Pieces → List Happening → Type 0
Traced held heard = (pieces : Pieces) → held ≡ Some pieces → IsJoined pieces heard

traced_begin : (order : Order) (octets : List ℕ) (heard : List Happening)
    → Traced (Some (record { order = order; octets = octets })) (heard ++ Begins order octets ∷ [])
traced_begin order octets heard pieces is =
    let same : record { order = order; octets = octets } ≡ pieces = cc in
    subst (λ (p : Pieces). IsJoined p (heard ++ Begins order octets ∷ [])) same (record {
      before = heard;
      first = octets;
      rest = [];
      parts = refl;
      octets = sym (append-nil octets);
    })

traced_add : (held : Pieces) (order : Order) (octets : List ℕ) (heard : List Happening) → order ≡ held.order → IsJoined held heard
    → IsJoined (record held { octets = held.octets ++ octets }) (heard ++ Adds order octets ∷ [])
traced_add held order octets heard same is = record {
  before = is.before;
  first = is.first;
  rest = is.rest ++ octets ∷ [];
  parts =
      ap (λ h. h ++ Adds order octets ∷ []) is.parts
      ∙ append_assoc is.before _ _
      ∙ ap (λ o. is.before ++ Begins held.order is.first ∷ (added held.order is.rest ++ Adds o octets ∷ [])) same
      ∙ ap (λ r. is.before ++ Begins held.order is.first ∷ r) (sym (added-append held.order is.rest octets));
  octets =
      ap (λ all. all ++ octets) is.octets
      ∙ append_assoc is.first (joined is.rest) octets
      ∙ ap (λ r. is.first ++ r) (sym (joined-append is.rest octets));
}

-- an accepted call too
traced_step : (over : Option GatherFault) (held : Option Pieces) (what : Happening) (answer : Reply) (heard : List Happening)
    → told (within over (turn held what)) ≡ Ok answer → Traced held heard → Traced (left held (turn held what)) (heard ++ what ∷ [])
traced_step over held (Begins order octets) answer heard accepts traced = traced_begin order octets heard
traced_step over None (Adds order octets) answer heard accepts traced = absurd cc
traced_step over (Some p) (Adds order octets) answer heard accepts traced =
    elim (same_order order p.order) as (λ b. same_order order p.order ≡ b
    → told (within over (unless (cond b None (Some OrderDiffers)) (grown (Some p) octets))) ≡ Ok answer
    → Traced (left (Some p) (unless (cond b None (Some OrderDiffers)) (grown (Some p) octets))) (heard ++ Adds order octets ∷ [])) [
      | true ↦ λ same taken. λ pieces is.
          let now : record p { octets = p.octets ++ octets } ≡ pieces = cc in
          subst (λ (q : Pieces). IsJoined q (heard ++ Adds order octets ∷ [])) now
          (traced_add p order octets heard (one_order order p.order same) (traced p refl))
      | false ↦ λ differs taken. absurd cc
    ] refl accepts
traced_step over None IsFinished answer heard accepts traced = absurd cc
traced_step over (Some p) IsFinished answer heard accepts traced = λ pieces is. absurd cc
traced_step over held IsDiscarded answer heard accepts traced = λ pieces is. absurd cc

module _ (limit : ℕ) where
  pub gather_apart : IsApart (gather_rules limit)
  gather_apart m id held q = get-put m id held q

  -- an id's own refusals are told from those of the limit and of memory
  pub told_apart : Distinguishes (gather_rules limit) is_of_id
  told_apart = record {
    limits = λ m act why is. by_act m act.what why is;
    memory = refl;
  }
    where
      by_room : (over : Bool) (why : GatherFault) → room_fault over ≡ Some why → is_of_id why ≡ false
      by_room true why is = let same : GatherFull ≡ why = cc in ap is_of_id (sym same)
      by_room false why is = absurd cc

      by_act : (m : Lists) (what : Happening) (why : GatherFault) → room limit m what ≡ Some why → is_of_id why ≡ false
      by_act m (Begins order octets) why is = by_room (is_over limit m (length octets)) why is
      by_act m (Adds order octets) why is = by_room (is_over limit m (length octets)) why is
      by_act m IsFinished why is = absurd cc
      by_act m IsDiscarded why is = absurd cc

  -- what a run leaves and tells where no limit is met
  pub run_alone : (m n : Lists) (acts : List (Addressed Happening)) (results : List (Result Reply GatherFault)) (id : ℕ)
      → Runs (gather_rules limit) m acts results n → MeetsNoLimit is_of_id id acts results
      → (finite.get n id ≡ alone turn (finite.get m id) (own id acts))
      × (own id (addressed acts results) ≡ told_alone turn (finite.get m id) (own id acts))
  run_alone m n acts results id run free = at-run (gather_rules limit) gather_apart is_of_id told_apart m n acts results id run free

  -- over a run what an id has is joined from its accepted calls
  traced_run : (m n : Lists) (acts : List (Addressed Happening)) (results : List (Result Reply GatherFault)) (id : ℕ) (heard : List Happening)
      → Runs (gather_rules limit) m acts results n → Traced (finite.get m id) heard
      → Traced (finite.get n id) (heard ++ own id (accepted acts results))
  traced_run m n [] [] id heard run traced =
      subst (λ (h : List Happening). Traced (finite.get n id) h) (sym (append-nil heard))
      (subst (λ (k : Lists). Traced (finite.get k id) heard) (sym run) traced)
  traced_run m n [] (result ∷ results) id heard run traced = absurd run
  traced_run m n (act ∷ acts) [] id heard run traced = absurd run
  traced_run m n (act ∷ acts) (Err why ∷ results) id heard run traced =
      traced_run run.0 n acts results id heard run.2 (subst (λ (k : Lists). Traced (finite.get k id) heard) (sym run.1.leaves) traced)
  traced_run m n (act ∷ acts) (Ok answer ∷ results) id heard run traced =
      let rules = gather_rules limit in
      let mine = own id (accepted acts results) in
      elim (act.id == id) as (λ b. (act.id == id) ≡ b → Traced (finite.get n id) (heard ++ cond b (act.what ∷ mine) mine)) [
        | true ↦ λ e.
            let same : act.id ≡ id = grind (arith, nat_tests) in
            let here = ap (λ k. finite.get k id) run.1.leaves ∙ at_own rules gather_apart m act id e in
            let accepts = sym (ap (λ k. told (within (room limit m act.what) (turn (finite.get m k) act.what))) same) ∙ run.1.answer in
            let step = traced_step (room limit m act.what) (finite.get m id) act.what answer heard accepts traced in
            let all = traced_run run.0 n acts results id (heard ++ act.what ∷ []) run.2
            (subst (λ (h : Option Pieces). Traced h (heard ++ act.what ∷ [])) (sym here) step) in
            subst (Traced (finite.get n id)) (append_assoc heard (act.what ∷ []) mine) all
        | false ↦ λ e.
            let elsewhere = other_call rules gather_apart m run.0 act (Ok answer) id e run.1 in
            traced_run run.0 n acts results id heard run.2 (subst (λ (h : Option Pieces). Traced h heard) (sym elsewhere) traced)
      ] refl

  -- what is there after a run is joined from the id's own accepted calls
  pub run_joined : (m n : Lists) (acts : List (Addressed Happening)) (results : List (Result Reply GatherFault)) (id : ℕ) (pieces : Pieces)
      → Runs (gather_rules limit) m acts results n → finite.get m id ≡ None
      → finite.get n id ≡ Some pieces → IsJoined pieces (own id (accepted acts results))
  run_joined m n acts results id pieces run none is = traced_run m n acts results id [] run (λ p there. absurd cc) pieces is

  pub joined_run : (m n : Lists) (acts : List (Addressed Happening)) (results : List (Result Reply GatherFault)) (id : ℕ) (pieces : Pieces)
      → Runs (gather_rules limit) m acts results n → IsJoined pieces (own id (accepted acts results)) → finite.get n id ≡ Some pieces
  joined_run m n acts results id pieces run is =
      let rules = gather_rules limit in
      ap (λ k. finite.get k id) (leaves_accepted rules m n acts results run)
      ∙ at-all_after rules gather_apart m (accepted acts results) id
      ∙ alone_joined (finite.get m id) pieces (own id (accepted acts results)) is

  -- what an id has grows by no more than what comes with a call
  octets_left : (held : Option Pieces) (what : Happening) → octets_in (left held (turn held what)) ≤ octets_in held + octets_with what
  octets_left held (Begins order octets) = omega arith
  octets_left None (Adds order octets) = omega arith
  octets_left (Some p) (Adds order octets) =
      elim (same_order order p.order) as (λ b. octets_in (left (Some p) (unless (cond b None (Some OrderDiffers)) (grown (Some p) octets)))
      ≤ octets_in (Some p) + length octets) [
        | true ↦ let longer = octets_in-grown (Some p) octets refl in omega arith
        | false ↦ omega arith
      ]
  octets_left None IsFinished = omega arith
  octets_left (Some p) IsFinished = omega arith
  octets_left held IsDiscarded = omega arith

  total_left : (m : Lists) (act : Addressed Happening) → total_of (after (gather_rules limit) m act) ≤ total_of m + octets_with act.what
  total_left m act =
      let held = finite.get m act.id in
      let changes = total_put m act.id (left held (turn held act.what)) in
      let grows = octets_left held act.what in
      omega arith

  total_grows : (m n : Lists) (act : Addressed Happening) (result : Result Reply GatherFault) → Does (gather_rules limit) m act result n
      → total_of n ≤ total_of m + octets_with act.what
  total_grows m n act (Ok answer) does = let same = ap total_of does.leaves in let grows = total_left m act in omega arith
  total_grows m n act (Err why) does = let same = ap total_of does.leaves in omega arith

  fits : (m : Lists) (n : ℕ) → is_over limit m n ≡ false → total_of m + n ≤ limit
  fits m n room = grind (arith, nat_tests)

  -- an accepted call has room for what comes with it
  has_room : (m : Lists) (act : Addressed Happening) (answer : Reply) → told (within (room limit m act.what) (turn (finite.get m act.id) act.what)) ≡ Ok answer
      → total_of m ≤ limit → total_of m + octets_with act.what ≤ limit
  has_room m act answer = by_act act.what
    where
      no_fault : (over : Bool) (turned : Turned) → told (within (room_fault over) turned) ≡ Ok answer → over ≡ false
      no_fault false turned e = refl
      no_fault true (Ok done) e = absurd cc
      no_fault true (Err fault) e = absurd cc

      by_act : (what : Happening) → told (within (room limit m what) (turn (finite.get m act.id) what)) ≡ Ok answer → total_of m ≤ limit
          → total_of m + octets_with what ≤ limit
      by_act (Begins order octets) accepts within_limit =
          fits m (length octets) (no_fault (is_over limit m (length octets)) (turn (finite.get m act.id) (Begins order octets)) accepts)
      by_act (Adds order octets) accepts within_limit =
          fits m (length octets) (no_fault (is_over limit m (length octets)) (turn (finite.get m act.id) (Adds order octets)) accepts)
      by_act IsFinished accepts within_limit = omega arith
      by_act IsDiscarded accepts within_limit = omega arith

  total_after : (m n : Lists) (act : Addressed Happening) (result : Result Reply GatherFault) → Does (gather_rules limit) m act result n
      → total_of m ≤ limit → total_of n ≤ limit
  total_after m n act (Ok answer) does fitting =
      let same = ap total_of does.leaves in let grows = total_left m act in let room = has_room m act answer does.answer fitting in omega arith
  total_after m n act (Err why) does fitting = let same = ap total_of does.leaves in omega arith

  pub total_within : (m n : Lists) (acts : List (Addressed Happening)) (results : List (Result Reply GatherFault))
      → Runs (gather_rules limit) m acts results n → total_of m ≤ limit → total_of n ≤ limit
  total_within m n acts results run fitting =
      (run_keeps (gather_rules limit) (λ k rest. total_of k ≤ limit) (λ result. Unit {0})
      (λ s t act rest result holds does. (total_after s t act result does holds, tt)) m n acts results fitting run).0

  -- the limit is told only where it is met
  told_full : (m n : Lists) (act : Addressed Happening) (result : Result Reply GatherFault) → Does (gather_rules limit) m act result n
      → total_of m + octets_with act.what ≤ limit → result ≢ Err GatherFull
  told_full m n act (Ok answer) does fitting is = absurd cc
  told_full m n act (Err why) does fitting is =
      let same : why ≡ GatherFull = cc in
      by_act act.what fitting
      (subst (λ (w : GatherFault). RefusedAs NoMemory w (refusal_of (within (room limit m act.what) (turn (finite.get m act.id) act.what)))) same does.refusal)
    where
      is_full : (over : Bool) (held : Option Pieces) (what : Happening)
          → RefusedAs NoMemory GatherFull (refusal_of (within (room_fault over) (turn held what))) → over ≡ true
      is_full true held what refused = refl
      is_full false held (Begins order octets) (inl found) = absurd cc
      is_full false None (Adds order octets) (inl found) = absurd cc
      is_full false (Some p) (Adds order octets) (inl found) = by_order (same_order order p.order) found
        where
          by_order : (b : Bool) → refusal_of (within None (unless (cond b None (Some OrderDiffers)) (grown (Some p) octets))) ≡ Some GatherFull → false ≡ true
          by_order true found = absurd cc
          by_order false found = absurd cc
      is_full false None IsFinished (inl found) = absurd cc
      is_full false (Some p) IsFinished (inl found) = absurd cc
      is_full false held IsDiscarded (inl found) = absurd cc
      is_full false held what (inr wanting) = let wrong = wanting.0 in absurd cc

      contradicts : (k : ℕ) → is_over limit m k ≡ true → total_of m + k ≤ limit → ⊥
      contradicts k over fitting = grind (arith, nat_tests)

      by_act : (what : Happening) → total_of m + octets_with what ≤ limit
          → RefusedAs NoMemory GatherFull (refusal_of (within (room limit m what) (turn (finite.get m act.id) what))) → ⊥
      by_act (Begins order octets) fitting refused =
          contradicts (length octets) (is_full (is_over limit m (length octets)) (finite.get m act.id) (Begins order octets) refused) fitting
      by_act (Adds order octets) fitting refused =
          contradicts (length octets) (is_full (is_over limit m (length octets)) (finite.get m act.id) (Adds order octets) refused) fitting
      by_act IsFinished fitting refused = let wrong = is_full false (finite.get m act.id) IsFinished refused in cc
      by_act IsDiscarded fitting refused = let wrong = is_full false (finite.get m act.id) IsDiscarded refused in cc

  -- where all octets fit no run meets the limit
  pub never_full : (m n : Lists) (acts : List (Addressed Happening)) (results : List (Result Reply GatherFault))
      → Runs (gather_rules limit) m acts results n → total_of m + all_octets acts ≤ limit
      → AllByRecursion (λ result. result ≢ Err GatherFull) results
  never_full m n acts results run fitting =
      (run_keeps (gather_rules limit) (λ k rest. total_of k + all_octets rest ≤ limit) (λ result. result ≢ Err GatherFull)
      (λ s t act rest result holds does.
      let grows = total_grows s t act result does in
      (omega arith, told_full s t act result does (omega arith))) m n acts results fitting run).1
