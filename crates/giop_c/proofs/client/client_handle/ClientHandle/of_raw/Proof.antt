-- `of_raw`: the pointer of the raw box is the handle's, and so is what lies behind it.
use Rattle.std.proofs.Common.{◌≡◌, List, [], ◌∷◌, ◌++◌, refl, sym, subst}
use mir.Val.{Val}
use base.Logic.{SProp, emp, ent, id⊢}
use base.Fml.{ftrue, fsep}
use prog.Wp.{WpFn}
use contract.Monad.{fact, fact_i}
use contract.Running.{tables}
use types.Kit.{‵, raw, ◌⊛◌, ◌$◌, ◌∵◌, !, qed, by, move, keep, split, fsplit, fjoin, suffices, use0, use1}
use types.Run.{stop, fld, of_opd, no_more, and_then, enter, returns}
use types.ByLocal.{alloc_all, pass_all, free_all, look_at, get, get_in, sets}
use types.Part.{agg, sub, whole}
use denote.Exit.{yes}
use denote.RattleType.{owns}
use denote.Signature.{types_at, type_at, plain}
use denote.Steps.{nothing}
use denote.Triple.Walked.{Stays, stay_dropped, walk_of, Goes-dropped}
use Rattle.core.proofs.atomic.Steps.{Ptr-Good}
use Rattle.std.proofs.raw_atomic.Walks.{proved_at, leaves}
use Rattle.std.specs.contracts.impls.GlobalAllocator.TheImpl.{ghosts}
use Rattle.std.specs.declared.option.Option.TheVariants.{Some}
use Rattle.handle.specs.Held.{held_at}
use Rattle.handle.proofs.Words.{Words, two, two_good, words_in, words_out}
use Rattle.giop_c.specs.contracts.client.caller.Caller as caller
use Rattle.giop_c.proofs.HandleRows.{Heap, heap_laws, RawCaller}
use Rattle.giop_c.specs.contracts.client.client_handle.ClientHandle.of_raw as this
use Rattle.giop_c.proofs.client.client_handle.ClientHandle.of_raw.Statement.{statement}
use Rattle.giop_c.proofs.client.client_handle.ClientHandle.of_raw.Code as code

abbrev stays : Stays this.ended.signature.params this.ended.kept
stays = (stay_dropped (plain (λ _. RawCaller)) yes, tt)

pub of_raw_spec : {M : Type 1} → statement M
of_raw_spec 𝓤 𝓛 𝓜 𝓡 wired =
    let 𝓣 = tables 𝓤 𝓛.H 𝓜 𝓡 𝓡.env in
    let fn = code.function in
    let says = this.clauses 𝓛 𝓜.mem 𝓡.returns in
    let W = walk_of 𝓛 this.ended stays says in
    proved_at 𝓛 this.ended stays says 𝓜 𝓡 (Goes-dropped 𝓛 0 (plain (λ _. RawCaller)) yes (λ _ _ _. refl), tt)
    this.Key.name fn (code.unfolded 𝓤 𝓛.H 𝓜 𝓡 wired) (λ z are.
    let κs = z.0.0 in let raw_box = z.0.3.0 in let at = raw_box.at in let heap = raw_box.alloc in
    let run : List Val → SProp 𝓤 = λ words. WpFn 𝓤 𝓛.H 𝓣.C 𝓣.Λ fn words (W.post z) in
    let Handle = type_at this.ended.signature.result κs in
    let made : Handle.Denot = record { at = at; alloc = heap; value = Some raw_box.value } in
    let lies = held_at heap caller.the_row at (Some raw_box.value) in
    qed 𝓛 ((‵ ftrue ⊛ ‵ (owns (types_at this.ended.signature.params κs) z.0.3 z.0.4)) ∷ ‵ ftrue ∷ []) ∵
    split ! $ move ! (1 ∷ []) $ fsplit ! $
    use1 𝓛 (‵ (fsep ((Words Heap heap_laws ghosts).own_val (at, (heap, tt)) z.0.4.0) lies)) (id⊢ 𝓤 _) $ fsplit ! $
    words_out Heap heap_laws ghosts ! at heap z.0.4.0 (λ h words fits.
    -- [the allocator; what lies there; no more parameters; no lifetimes; nothing]
    let given = two at h in let typed = two_good Heap heap_laws ghosts at h fits in
    suffices ! (run (given ∷ [])) (subst (λ (us : List Val). ent 𝓤 (run (given ∷ [])) (run us)) (sym (λ i. words i ++ [])) (id⊢ 𝓤 (run (given ∷ [])))) $
    enter ! 𝓣.C 𝓣.Λ fn (given ∷ []) (W.post z) $ alloc_all ! (λ l. pass_all ! refl (typed, tt) $
    sets ! (of_opd ! (get_in ! (fld ! refl (stop !)) (sub ! 0 refl (whole !)))) refl (Ptr-Good at) $
    sets ! (of_opd ! (get_in ! (fld ! refl (stop !)) (sub ! 1 refl (whole !)))) refl fits $
    sets ! (of_opd ! (get ! refl)) refl (Ptr-Good at) $
    sets ! (agg ! (and_then ! (get ! refl) (and_then ! (get ! refl) (no_more !)))) refl typed $
    words_in Heap heap_laws ghosts ! at heap h $ fjoin ! $
    use1 𝓛 (‵ (Handle.own_val made (given ∷ []))) (id⊢ 𝓤 _) $
    use0 𝓛 (raw (fact 𝓤 (Some raw_box.value ≡ Some raw_box.value))) (fact_i 𝓤 (Some raw_box.value ≡ Some raw_box.value) (emp 𝓤) refl) $
    nothing ! $ nothing ! $ fjoin ! $
    returns ! (look_at ! 0 refl) $ free_all ! refl $
    -- [what is left of the parameter; the promise; the handle; no more parameters; no lifetimes]
    keep ! (4 ∷ 0 ∷ 2 ∷ 1 ∷ []) $ by ! (leaves 𝓛 this.ended stays says z given made (tt, tt) (tt, tt)))))
