-- `of`: the call hands over the pointer, the allocator and what lies behind the pointer. That is all
-- that a raw box owns.
use Rattle.std.proofs.Common.{◌≡◌, List, [], ◌∷◌, ◌++◌, refl, sym, ap, ◌∙◌, subst}
use mir.MapTy.{inst_fn}
use mir.Raw.{raw as bare}
use mir.Val.{Val, vstruct, of_list}
use base.Logic.{SProp, emp, ent, never, id⊢, fst∗}
use base.Fml.{ftrue, fsep, flft}
use prog.Wp.{WpFn}
use contract.Monad.{fact, fact_i}
use contract.Running.{tables}
use types.Logic.{sem}
use types.Kit.{Item, ‵, raw, ◌⊛◌, some, later, ◌$◌, ◌∵◌, !, qed, by, move, keep, drop, split, split3, join, fsplit, fjoin, fpick, pick, suffices, use0, use1, await, rewrite, feq_l}
use types.Run.{stop, fld, of_opd, no_more, and_then, enter, returns}
use types.ByLocal.{alloc_all, pass_all, free_all, look_at, get, get_in, sets, lands_as}
use types.Part.{agg, sub, whole}
use denote.Builtin.{RawPtr}
use denote.Exit.{no}
use denote.RattleType.{owns}
use denote.RawPtr.{Ptr, block_ptr, null_ptr, ptr_val, in_a_block}
use denote.Signature.{types_at, plain}
use denote.Steps.{nothing, only, heard}
use denote.Struct.Tuple.{Tuple}
use denote.Triple.Call.{calls_at}
use denote.Triple.Spec.{triple_of}
use denote.Triple.Walked.{Stays, stay_dropped, walk_of}
use Rattle.core.proofs.alloc.Calls.{Goes-blank, handle_tells, token}
use Rattle.core.proofs.atomic.Steps.{fm}
use Rattle.std.proofs.raw_atomic.Walks.{proved_at, leaves}
use Rattle.std_alloc.specs.Box.Ownership.{box_owns}
use Rattle.std_alloc.specs.contracts.boxed.Box.into_raw_with_allocator as taken
use Rattle.std_alloc.proofs.boxed.Box.into_raw_with_allocator.Met.{met}
use Rattle.std_alloc.proofs.BoxSteps.Form.{Bx, B, P, R, τ, word, box_typed}
use Rattle.std_alloc.proofs.BoxSteps.Steps.{box_out, box_in}
use Rattle.handle.proofs.Forms.{box_of, raw_row, passed}
use Rattle.handle.specs.contracts.raw_box.RawBox.of as this
use Rattle.handle.proofs.raw_box.RawBox.of.Statement.{statement}
use Rattle.handle.proofs.raw_box.RawBox.of.Code as code

pub of_spec : {M : Type 1} → statement M
of_spec 𝓤 𝓛 𝓜 𝓡 wired T A of_T of_A g does drops_T drops_A allocates frees_T frees_A =
    let 𝓣 = tables 𝓤 𝓛.H 𝓜 𝓡 𝓡.env in
    let E : Bx = box_of T A of_T of_A g does drops_A in
    let args = passed T A does drops_T drops_A in
    let fn = inst_fn args code.function in
    let ended = this.ended T A g does drops_T drops_A in
    let says = this.clauses T A g does drops_T drops_A 𝓛 𝓜.mem 𝓡.returns in
    let stays : Stays ended.signature.params ended.kept = (stay_dropped (plain (λ _. B E)) no, tt) in
    let W = walk_of 𝓛 ended stays says in
    let call = triple_of 𝓛 (taken.signature T A g does drops_A drops_T) (taken.spec T A g does drops_A drops_T 𝓛 𝓜.mem 𝓡.returns) in
    let answers = met 𝓤 𝓛 𝓜 𝓡 (code.calls-std_alloc::boxed::Box::into_raw_with_allocator 𝓡.env wired)
    T A of_T of_A g does drops_A drops_T allocates frees_A frees_T in
    proved_at 𝓛 ended stays says 𝓜 𝓡 (Goes-blank 𝓛 2 (plain (λ _. B E)) no (λ _ _ _. tt), tt)
    (this.Key.name args) fn (code.unfolded 𝓤 𝓛.H 𝓜 𝓡 wired (T, (A, tt)) does drops_T drops_A) (λ z are.
    let κs = z.0.0 in let qs = z.0.1 in let boxed = z.0.3.0 in let heap = boxed.alloc in
    let run : List Val → SProp 𝓤 = λ words. WpFn 𝓤 𝓛.H 𝓣.C 𝓣.Λ fn words (W.post z) in
    let alive : Item 𝓤 = ‵ (flft κs.0 qs.0) ⊛ ‵ (flft κs.1.0 qs.1.0) ⊛ ‵ ftrue in
    qed 𝓛 ((alive ⊛ ‵ (owns (types_at ended.signature.params κs) z.0.3 z.0.4)) ∷ raw ((says κs z.0.3).requires z.1) ∷ []) ∵
    split ! $ move ! (1 ∷ []) $ fsplit ! $
    -- the box's two words are known, and the box is whole again
    box_out E ! boxed z.0.4.0 (λ b o h at words fits. box_in E ! boxed b o boxed.value at refl $
    let given = word E h b o in
    let y : call.Ghost = ((κs, qs, tt, (boxed, tt), (given ∷ [], tt)), tt) in
    -- [the box; no more parameters; the lifetimes; the bounds]
    fjoin ! $ move ! (1 ∷ 0 ∷ []) $ join ! $ join ! $ use1 𝓛 (raw (call.pre y)) (id⊢ 𝓤 _) $
    suffices ! (run (given ∷ [])) (subst (λ (us : List Val). ent 𝓤 (run (given ∷ [])) (run us)) (sym (λ i. words i ++ [])) (id⊢ 𝓤 (run (given ∷ [])))) $
    enter ! 𝓣.C 𝓣.Λ fn (given ∷ []) (W.post z) $ alloc_all ! (λ l. pass_all ! refl (box_typed E h b o fits, tt) $
    sets ! (of_opd ! (get ! refl)) refl (box_typed E h b o fits) $
    calls_at ! (fm 𝓛 𝓜 𝓡) call answers y (and_then ! (get ! refl) (no_more !)) (λ pair.
    use1 𝓛 (later (some (λ (r : Ptr × A.Denot). (alive ⊛ ‵ ((Tuple (RawPtr ∷ P E ∷ [])).own_val r (pair ∷ [])))
    ⊛ some (λ (_ : (Unit {0} × (Unit {0} × Unit {0})) × Unit {0}). ‵ (fsep (fsep ftrue (fsep ftrue ftrue)) ftrue)
    ⊛ (raw (fact 𝓤 (r.1 ≡ heap)) ⊛ ‵ (box_owns (token E.al heap) (R E) r.0 boxed.value)))))) (id⊢ 𝓤 _) $
    await ! tt $ pick ! (λ r. split ! $ move ! (1 ∷ []) $ pick ! (λ _. split3 ! $ drop ! $ heard ! (r.1 ≡ heap) (λ same.
    in_a_block ! r.0 (λ p. box_owns (token E.al heap) (R E) p boxed.value) (fst∗ 𝓤 (never 𝓤) (sem 𝓛 (token E.al heap (bare (τ E)) null_ptr))) (λ b' o' at'.
    -- [what lies there; the lifetimes and the pair]
    move ! (1 ∷ []) $ split ! $ move ! (1 ∷ []) $ fpick ! (λ parts. fsplit ! $ feq_l ! (λ is_pair. fsplit ! $ feq_l ! (λ is_ptr. fsplit ! $
    rewrite ! 0 (λ (a : A.Denot). ‵ (A.own_val a parts.1.0)) same refl $ handle_tells E.al ! heap parts.1.0 (λ h' is_heap fits'.
    let made : (raw_row E).Denot = record { at = block_ptr b' o'; alloc = heap; value = boxed.value } in
    let two = word E h' b' o' in let typed = box_typed E h' b' o' fits' in
    lands_as ! (ap only (is_pair ∙ (λ j. vstruct (of_list ((is_ptr ∙ ap (λ (p : Ptr). ptr_val p ∷ []) at') j ++ (is_heap j ++ []))) ∷ []))) refl typed $
    sets ! (of_opd ! (get_in ! (fld ! refl (stop !)) (sub ! 0 refl (whole !)))) refl (tt, tt) $
    sets ! (of_opd ! (get_in ! (fld ! refl (stop !)) (sub ! 1 refl (whole !)))) refl fits' $
    sets ! (of_opd ! (get ! refl)) refl fits' $
    sets ! (agg ! (and_then ! (get ! refl) (and_then ! (get ! refl) (no_more !)))) refl typed $
    -- [the allocator; nothing; the lifetimes; what lies there]
    move ! (3 ∷ 0 ∷ []) $ fsplit ! $ box_in E ! (record { ptr = block_ptr b' o'; alloc = heap; value = boxed.value }) b' o' boxed.value refl refl $
    use1 𝓛 (‵ ((raw_row E).own_val made (two ∷ []))) (id⊢ 𝓤 _) $
    use0 𝓛 (raw (fact 𝓤 (boxed.value ≡ boxed.value))) (fact_i 𝓤 (boxed.value ≡ boxed.value) (emp 𝓤) refl) $ nothing ! $ nothing ! $ fjoin ! $
    returns ! (look_at ! 0 refl) $ free_all ! refl $
    -- [what is left of the parameter; the promise; the raw box; nothing; the lifetimes]
    keep ! (4 ∷ 0 ∷ 2 ∷ 1 ∷ []) $ by ! (leaves 𝓛 ended stays says z two made ((tt, (tt, tt)), tt) (tt, tt))))))))))))))
