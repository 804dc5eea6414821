-- `into_raw`: where the pointer is null nothing was held; else what lies behind it is the raw box's.
use Rattle.std.proofs.Common.{◌≡◌, List, [], ◌∷◌, ◌++◌, refl, sym, ap, subst, lit<}
use mir.Val.{Val, vcons, vnil}
use base.Logic.{SProp, emp, ent, id⊢}
use base.Fml.{ftrue, fsep}
use prog.Wp.{WpFn}
use contract.Monad.{fact, fact_i}
use contract.Running.{tables}
use types.Kit.{‵, raw, at_ret, ◌⊛◌, ◌$◌, ◌∵◌, !, qed, by, move, keep, split, fsplit, fjoin, suffices, use0, use1}
use types.Match.{live}
use types.Run.{stop, fld, lit, bin, of_opd, no_more, and_then, first, branches, exec, enter, returns}
use types.ByLocal.{alloc_all, pass_all, free_all, look_at, get, get_in, is, sets, sets_last, env}
use types.Part.{agg, sub, whole}
use denote.Exit.{yes}
use denote.Param.{layout}
use denote.RattleType.{owns}
use denote.RawPtr.{block_ptr, null_ptr, ptr_val, tests_null}
use denote.Signature.{types_at, type_at, plain}
use denote.Steps.{nothing}
use denote.Triple.Walked.{Stays, stay_dropped, walk_of, Goes-dropped}
use Rattle.core.proofs.alloc.Shapes.{after}
use Rattle.core.proofs.atomic.Steps.{Ptr-Good}
use Rattle.core.proofs.cell.Inside.{Good}
use Rattle.core.proofs.option.Made.{Some-of, none_of}
use Rattle.std.proofs.raw_atomic.Walks.{proved_at, leaves}
use Rattle.std.specs.contracts.impls.GlobalAllocator.TheImpl.{ghosts}
use Rattle.std.specs.declared.option.Option.TheVariants.{None, Some}
use Rattle.std_alloc.proofs.ResultValues.{and_tt}
use Rattle.handle.specs.Held.{held_at}
use Rattle.handle.proofs.Words.{Words, two, two_good, words_in, words_out, by_held}
use Rattle.giop_c.specs.contracts.client.caller.Caller as caller
use Rattle.giop_c.proofs.HandleRows.{Heap, heap_laws, RawCaller}
use Rattle.giop_c.specs.contracts.client.client_handle.ClientHandle.{the_row as Handle}
use Rattle.giop_c.specs.contracts.client.client_handle.ClientHandle.into_raw as this
use Rattle.giop_c.proofs.client.client_handle.ClientHandle.into_raw.Statement.{statement}
use Rattle.giop_c.proofs.client.client_handle.ClientHandle.into_raw.Code as code

abbrev stays : Stays this.ended.signature.params this.ended.kept
stays = (stay_dropped (plain (λ _. Handle)) yes, tt)

pub into_raw_spec : {M : Type 1} → statement M
into_raw_spec 𝓤 𝓛 𝓜 𝓡 wired =
    let 𝓣 = tables 𝓤 𝓛.H 𝓜 𝓡 𝓡.env in
    let fn = code.function in
    let says = this.clauses 𝓛 𝓜.mem 𝓡.returns in
    let W = walk_of 𝓛 this.ended stays says in
    proved_at 𝓛 this.ended stays says 𝓜 𝓡 (Goes-dropped 𝓛 0 (plain (λ _. Handle)) yes (λ _ _ _. refl), tt)
    this.Key.name fn (code.unfolded 𝓤 𝓛.H 𝓜 𝓡 wired) (λ z are.
    let κs = z.0.0 in let handle = z.0.3.0 in let at = handle.at in let heap = handle.alloc in
    let run : List Val → SProp 𝓤 = λ words. WpFn 𝓤 𝓛.H 𝓣.C 𝓣.Λ fn words (W.post z) in
    let Out = type_at this.ended.signature.result κs in
    qed 𝓛 ((‵ ftrue ⊛ ‵ (owns (types_at this.ended.signature.params κs) z.0.3 z.0.4)) ∷ ‵ ftrue ∷ []) ∵
    split ! $ move ! (1 ∷ []) $ fsplit ! $
    use1 𝓛 (‵ (fsep ((Words Heap heap_laws ghosts).own_val (at, (heap, tt)) z.0.4.0) (held_at heap caller.the_row at handle.value))) (id⊢ 𝓤 _) $ fsplit ! $
    words_out Heap heap_laws ghosts ! at heap z.0.4.0 (λ h words fits.
    -- [the allocator; what is held; no more parameters; no lifetimes; nothing]
    let given = two at h in
    suffices ! (run (given ∷ [])) (subst (λ (us : List Val). ent 𝓤 (run (given ∷ [])) (run us)) (sym (λ i. words i ++ [])) (id⊢ 𝓤 (run (given ∷ [])))) $
    enter ! 𝓣.C 𝓣.Λ fn (given ∷ []) (W.post z) $ alloc_all ! (λ l. pass_all ! refl (two_good Heap heap_laws ghosts at h fits, tt) $
    let locals = env fn.locals l in
    move ! (1 ∷ []) $ by_held heap caller.the_row ! at handle.value
    (λ is_null was.
    let v : Val = live 0 vnil in let good : Good (layout Out) v = (tt, (record { fits = lit< tt }, tt)) in
    sets ! (is ! (of_opd ! (get_in ! (fld ! refl (stop !)) (sub ! 0 refl (whole !)))) (ap ptr_val is_null)) refl (Ptr-Good null_ptr) $
    sets ! (of_opd ! (get_in ! (fld ! refl (stop !)) (sub ! 1 refl (whole !)))) refl fits $
    sets ! (bin ! (get ! refl) (lit ! tt) tt) refl (tt, tt) $ first ! $ branches ! (get ! refl)
    (λ _. sets_last ! (agg ! (and_then ! (lit ! tt) (no_more !))) refl good $
    exec ! 𝓣.C 𝓣.Λ locals (after 4 fn.body) (at_ret locals (W.post z)) $ sets ! (of_opd ! (get ! refl)) refl good $
    use0 𝓛 (‵ (Out.own_val None (v ∷ []))) (none_of 𝓛 RawCaller) $
    use0 𝓛 (raw (fact 𝓤 (handle.value ≡ None))) (fact_i 𝓤 (handle.value ≡ None) (emp 𝓤) was) $ nothing ! $ nothing ! $ fjoin ! $
    returns ! (look_at ! 0 refl) $ free_all ! refl $
    -- [what is left of the parameter; the promise; None; the allocator; no more parameters; no lifetimes]
    keep ! (5 ∷ 0 ∷ 2 ∷ 1 ∷ []) $ by ! (leaves 𝓛 this.ended stays says z v None (tt, tt) (tt, tt)))
    (λ wrong. absurd wrong))
    (λ b o x is_at was may.
    let p = block_ptr b o in let w = two p h in let typed = two_good Heap heap_laws ghosts p h fits in
    let made : RawCaller.Denot = record { at = p; alloc = heap; value = x } in
    let v : Val = live 1 (vcons w vnil) in
    let good : Good (layout Out) v = (and_tt _ typed.0, (record { fits = lit< tt }, (typed.1, tt))) in
    sets ! (is ! (of_opd ! (get_in ! (fld ! refl (stop !)) (sub ! 0 refl (whole !)))) (ap ptr_val is_at)) refl (tt, tt) $
    sets ! (of_opd ! (get_in ! (fld ! refl (stop !)) (sub ! 1 refl (whole !)))) refl fits $
    sets ! (bin ! (get ! refl) (lit ! tt) (tests_null p may)) refl (tt, tt) $ first ! $ branches ! (get ! refl)
    (λ wrong. absurd wrong)
    (λ _. sets ! (of_opd ! (get ! refl)) refl (tt, tt) $
    sets ! (agg ! (and_then ! (get ! refl) (and_then ! (get ! refl) (no_more !)))) refl typed $
    sets_last ! (agg ! (and_then ! (lit ! tt) (and_then ! (get ! refl) (no_more !)))) refl good $
    exec ! 𝓣.C 𝓣.Λ locals (after 4 fn.body) (at_ret locals (W.post z)) $ sets ! (of_opd ! (get ! refl)) refl good $
    -- [what is held; the allocator; no more parameters; no lifetimes; nothing]
    move ! (1 ∷ []) $ words_in Heap heap_laws ghosts ! p heap h $ fjoin ! $
    use1 𝓛 (‵ (RawCaller.own_val made (w ∷ []))) (id⊢ 𝓤 _) $ use1 𝓛 (‵ (Out.own_val (Some made) (v ∷ []))) (Some-of 𝓛 RawCaller made w) $
    use0 𝓛 (raw (fact 𝓤 (handle.value ≡ Some x))) (fact_i 𝓤 (handle.value ≡ Some x) (emp 𝓤) was) $ nothing ! $ nothing ! $ fjoin ! $
    returns ! (look_at ! 0 refl) $ free_all ! refl $
    -- [what is left of the parameter; the promise; the raw box; no more parameters; no lifetimes]
    keep ! (4 ∷ 0 ∷ 2 ∷ 1 ∷ []) $ by ! (leaves 𝓛 this.ended stays says z v (Some made) (tt, tt) (tt, tt)))))))
