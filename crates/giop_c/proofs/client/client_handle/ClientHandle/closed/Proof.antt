-- `closed`: the pointer is null, where nothing is held.
use Rattle.std.proofs.Common.{◌≡◌, List, [], ◌∷◌, ◌++◌, refl, sym, subst}
use mir.Val.{Val}
use base.Logic.{SProp, emp, ent, id⊢}
use base.Fml.{ftrue}
use prog.Wp.{WpFn}
use contract.Monad.{fact, fact_i}
use contract.Running.{tables}
use types.Kit.{‵, raw, ◌⊛◌, ◌$◌, ◌∵◌, !, qed, by, move, keep, split, fsplit, fjoin, fpack, suffices, use0, use1}
use types.Run.{lit, no_more, and_then, enter, returns}
use types.ByLocal.{alloc_all, pass_all, free_all, look_at, get, sets}
use types.Part.{agg}
use denote.Exit.{yes}
use denote.RattleType.{owns}
use denote.RawPtr.{null_ptr}
use denote.Signature.{types_at, type_at, plain}
use denote.Steps.{nothing}
use denote.Triple.Walked.{Stays, stay_dropped, walk_of, Goes-dropped}
use Rattle.core.proofs.alloc.Calls.{handle_tells}
use Rattle.std.proofs.raw_atomic.Walks.{proved_at, leaves}
use Rattle.std.specs.contracts.impls.GlobalAllocator.TheImpl.{ghosts}
use Rattle.std.specs.declared.option.Option.TheVariants.{None}
use Rattle.handle.proofs.Words.{two, two_good, words_in, allocator}
use Rattle.giop_c.proofs.HandleRows.{Heap, heap_laws}
use Rattle.giop_c.specs.contracts.client.client_handle.ClientHandle.closed as this
use Rattle.giop_c.proofs.client.client_handle.ClientHandle.closed.Statement.{statement}
use Rattle.giop_c.proofs.client.client_handle.ClientHandle.closed.Code as code

abbrev stays : Stays this.ended.signature.params this.ended.kept
stays = (stay_dropped (plain (λ _. Heap)) yes, tt)

pub closed_spec : {M : Type 1} → statement M
closed_spec 𝓤 𝓛 𝓜 𝓡 wired =
    let 𝓣 = tables 𝓤 𝓛.H 𝓜 𝓡 𝓡.env in
    let fn = code.function in
    let says = this.clauses 𝓛 𝓜.mem 𝓡.returns in
    let W = walk_of 𝓛 this.ended stays says in
    proved_at 𝓛 this.ended stays says 𝓜 𝓡 (Goes-dropped 𝓛 0 (plain (λ _. Heap)) yes (λ _ _ _. refl), tt)
    this.Key.name fn (code.unfolded 𝓤 𝓛.H 𝓜 𝓡 wired) (λ z are.
    let κs = z.0.0 in let heap = z.0.3.0 in
    let run : List Val → SProp 𝓤 = λ words. WpFn 𝓤 𝓛.H 𝓣.C 𝓣.Λ fn words (W.post z) in
    let Handle = type_at this.ended.signature.result κs in
    let made : Handle.Denot = record { at = null_ptr; alloc = heap; value = None } in
    qed 𝓛 ((‵ ftrue ⊛ ‵ (owns (types_at this.ended.signature.params κs) z.0.3 z.0.4)) ∷ ‵ ftrue ∷ []) ∵
    split ! $ move ! (1 ∷ []) $ fsplit ! $
    handle_tells (allocator Heap heap_laws ghosts) ! heap z.0.4.0 (λ h words fits.
    -- [the allocator; no more parameters; no lifetimes; nothing]
    suffices ! (run (h ∷ [])) (subst (λ (us : List Val). ent 𝓤 (run (h ∷ [])) (run us)) (sym (λ i. words i ++ [])) (id⊢ 𝓤 (run (h ∷ [])))) $
    enter ! 𝓣.C 𝓣.Λ fn (h ∷ []) (W.post z) $ alloc_all ! (λ l. pass_all ! refl (fits, tt) $
    let typed = two_good Heap heap_laws ghosts null_ptr h fits in
    sets ! (agg ! (and_then ! (lit ! tt) (and_then ! (get ! refl) (no_more !)))) refl typed $
    words_in Heap heap_laws ghosts ! null_ptr heap h $ nothing ! $ fpack ! (null_ptr ≡ null_ptr) (λ _. ftrue) refl $ move ! (1 ∷ 0 ∷ []) $ fjoin ! $
    use1 𝓛 (‵ (Handle.own_val made (two null_ptr h ∷ []))) (id⊢ 𝓤 _) $
    use0 𝓛 (raw (fact 𝓤 (made.value ≡ None))) (fact_i 𝓤 (made.value ≡ None) (emp 𝓤) refl) $ nothing ! $ nothing ! $ fjoin ! $
    returns ! (look_at ! 0 refl) $ free_all ! refl $
    -- [what is left of the parameter; the promise; the handle; no more parameters; no lifetimes]
    keep ! (4 ∷ 0 ∷ 2 ∷ 1 ∷ []) $ by ! (leaves 𝓛 this.ended stays says z (two null_ptr h) made (tt, tt) (tt, tt)))))
