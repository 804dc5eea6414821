-- `into_box`: the raw box owns what its box would, so the pointer and the allocator are all that the
-- call is passed.
use Rattle.std.proofs.Common.{◌≡◌, List, [], ◌∷◌, ◌++◌, refl, sym, ap, subst}
use mir.MapTy.{inst_fn}
use mir.Val.{Val, vptr}
use base.Logic.{SProp, ent, id⊢}
use base.Fml.{ftrue, flft}
use prog.Wp.{WpFn}
use contract.BorrowLft.{◌⊑◌}
use contract.Monad.{fact}
use contract.Running.{tables}
use types.Kit.{Item, ‵, raw, ◌⊛◌, some, later, at_ret, ◌$◌, ◌∵◌, !, qed, by, move, keep, drop, split, split3, join, fsplit, fjoin, pick, suffices, use1, await, rewrite, feq_i}
use types.Run.{stop, fld, of_opd, no_more, and_then, first, blocks, exec, enter, returns}
use types.ByLocal.{alloc_all, pass_all, free_all, look_at, get, get_in, sets, lands_last, env}
use types.Part.{sub, whole}
use denote.Exit.{no}
use denote.Param.{layout}
use denote.RattleType.{owns}
use denote.RawPtr.{block_ptr}
use denote.Signature.{types_at, plain}
use denote.Steps.{nothing, only}
use denote.Triple.Call.{calls_at_last}
use denote.Triple.Clauses.{Lasts, lasts}
use denote.Triple.Spec.{triple_of}
use denote.Triple.Walked.{Stays, stay_dropped, walk_of}
use Rattle.core.proofs.alloc.Calls.{Goes-blank}
use Rattle.core.proofs.alloc.Shapes.{after}
use Rattle.core.proofs.atomic.Steps.{fm}
use Rattle.core.proofs.cell.Inside.{Good}
use Rattle.std.proofs.raw_atomic.Walks.{proved_at, leaves}
use Rattle.std_alloc.specs.contracts.boxed.Box.from_raw as made
use Rattle.std_alloc.proofs.boxed.Box.from_raw.Met.{met}
use Rattle.std_alloc.proofs.BoxSteps.Form.{Bx, D, B, word, box_typed}
use Rattle.std_alloc.proofs.BoxSteps.Steps.{box_out, box_in}
use Rattle.handle.proofs.Forms.{box_of, raw_row, passed}
use Rattle.handle.specs.contracts.raw_box.RawBox.into_box as this
use Rattle.handle.proofs.raw_box.RawBox.into_box.Statement.{statement}
use Rattle.handle.proofs.raw_box.RawBox.into_box.Code as code

pub into_box_spec : {M : Type 1} → statement M
into_box_spec 𝓤 𝓛 𝓜 𝓡 wired T A of_T of_A g does drops_T drops_A allocates frees_T frees_A =
    let 𝓣 = tables 𝓤 𝓛.H 𝓜 𝓡 𝓡.env in
    let E : Bx = box_of T A of_T of_A g does drops_A in
    let args = passed T A does drops_T drops_A in
    let fn = inst_fn args code.function in
    let ended = this.ended T A g does drops_T drops_A in
    let says = this.clauses T A g does drops_T drops_A 𝓛 𝓜.mem 𝓡.returns in
    let stays : Stays ended.signature.params ended.kept = (stay_dropped (plain (λ _. raw_row E)) no, tt) in
    let W = walk_of 𝓛 ended stays says in
    let call = triple_of 𝓛 (made.signature T A g does drops_A) (made.spec T A g does drops_A 𝓛 𝓜.mem 𝓡.returns) in
    let answers = met 𝓤 𝓛 𝓜 𝓡 (code.calls-std_alloc::boxed::Box::from_raw 𝓡.env wired) T A of_T of_A g does drops_A allocates frees_A in
    proved_at 𝓛 ended stays says 𝓜 𝓡 (Goes-blank 𝓛 2 (plain (λ _. raw_row E)) no (λ _ _ _. tt), tt)
    (this.Key.name args) fn (code.unfolded 𝓤 𝓛.H 𝓜 𝓡 wired (T, (A, tt)) does drops_T drops_A) (λ z are.
    let κs = z.0.0 in let qs = z.0.1 in let held = z.0.3.0 in let heap = held.alloc in
    let run : List Val → SProp 𝓤 = λ words. WpFn 𝓤 𝓛.H 𝓣.C 𝓣.Λ fn words (W.post z) in
    let alive : Item 𝓤 = ‵ (flft κs.0 qs.0) ⊛ ‵ (flft κs.1.0 qs.1.0) ⊛ ‵ ftrue in
    let boxed : D E = record { ptr = held.at; alloc = heap; value = held.value } in
    qed 𝓛 ((alive ⊛ ‵ (owns (types_at ended.signature.params κs) z.0.3 z.0.4)) ∷ raw ((says κs z.0.3).requires z.1) ∷ []) ∵
    split ! $ move ! (1 ∷ []) $ fsplit ! $ use1 𝓛 (‵ ((B E).own_val boxed z.0.4.0)) (id⊢ 𝓤 _) $
    box_out E ! boxed z.0.4.0 (λ b o h at words fits.
    let given = word E h b o in let typed = box_typed E h b o fits in
    let y : call.Ghost = ((κs, qs, tt, (heap, (block_ptr b o, tt)), (h ∷ [], (vptr b o ∷ [], tt))), held.value) in
    -- what lies there, with the bounds before it: what the call asks for
    fjoin ! $ move ! (4 ∷ []) $ use1 𝓛 (raw (fact 𝓤 (κs.0 ⊑ T.lives)) ⊛ raw (fact 𝓤 (κs.1.0 ⊑ A.lives)) ⊛ ‵ ftrue) (id⊢ 𝓤 _) $ split3 ! $
    move ! (2 ∷ []) $ drop ! $ move ! (1 ∷ 2 ∷ []) $ join ! $ move ! (1 ∷ 0 ∷ []) $ join ! $
    -- [that; the allocator; no more parameters; the lifetimes]
    move ! (2 ∷ []) $ feq_i ! (List Val) (vptr b o ∷ []) (vptr b o ∷ []) refl $ fjoin ! $ move ! (2 ∷ 0 ∷ []) $ fjoin ! $
    move ! (2 ∷ 0 ∷ []) $ join ! $ join ! $ use1 𝓛 (raw (call.pre y)) (id⊢ 𝓤 _) $
    suffices ! (run (given ∷ [])) (subst (λ (us : List Val). ent 𝓤 (run (given ∷ [])) (run us)) (sym (λ i. words i ++ [])) (id⊢ 𝓤 (run (given ∷ [])))) $
    enter ! 𝓣.C 𝓣.Λ fn (given ∷ []) (W.post z) $ alloc_all ! (λ l. pass_all ! refl (typed, tt) $
    let locals = env fn.locals l in
    sets ! (of_opd ! (get_in ! (fld ! refl (stop !)) (sub ! 0 refl (whole !)))) refl (tt, tt) $
    sets ! (of_opd ! (get_in ! (fld ! refl (stop !)) (sub ! 1 refl (whole !)))) refl fits $
    first ! $ blocks ! $ sets ! (of_opd ! (get ! refl)) refl fits $
    calls_at_last ! (fm 𝓛 𝓜 𝓡) call answers y (and_then ! (get ! refl) (and_then ! (get ! refl) (no_more !))) (λ back.
    use1 𝓛 (later (some (λ (r : D E). (alive ⊛ ‵ ((B E).own_val r (back ∷ [])))
    ⊛ some (λ (ends : Lasts (made.ended T A g does drops_A) κs y.0.3). ‵ (lasts (made.ended T A g does drops_A) κs y.0.3 ends)
    ⊛ (raw (fact 𝓤 (r.value ≡ held.value)) ⊛ raw (fact 𝓤 (r.alloc ≡ heap))))))) (id⊢ 𝓤 (call.post y back)) $
    await ! tt $ pick ! (λ r. split ! $ move ! (1 ∷ []) $ pick ! (λ _. split3 ! $ drop ! $ move ! (2 ∷ []) $ split ! $ move ! (1 ∷ []) $
    -- [the box; the lifetimes; its value; its allocator]
    box_out E ! r (back ∷ []) (λ b' o' h' at' is_box fits'. box_in E ! r b' o' r.value at' refl $
    rewrite ! 0 (λ (us : List Val). ‵ ((B E).own_val r us)) (sym is_box) refl $
    let good : Good (layout (B E)) back = subst (Good (layout (B E))) (sym (ap only is_box)) (box_typed E h' b' o' fits') in
    lands_last ! refl good $ exec ! 𝓣.C 𝓣.Λ locals (after 3 fn.body) (at_ret locals (W.post z)) $
    sets ! (of_opd ! (get ! refl)) refl good $ nothing ! $ nothing ! $ fjoin ! $
    returns ! (look_at ! 0 refl) $ free_all ! refl $
    -- [what is left of the parameter; the box; the lifetimes; its value]
    keep ! (2 ∷ 0 ∷ 1 ∷ 3 ∷ []) $ by ! (leaves 𝓛 ended stays says z back r ((tt, (tt, tt)), tt) (tt, tt)))))))))
