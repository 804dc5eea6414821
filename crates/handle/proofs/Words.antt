-- A struct of a pointer and an allocator, and what lies behind its pointer. Assumes `Logic`.
use Rattle.std.proofs.Common.{◌≡◌, List, [], ◌∷◌, ◌++◌, refl, ◌∙◌}
use mathlib.Core.Bool.{Bool, true, false, ◌&&◌}
use lib.Dec.{T}
use seplogic.Ra.Ura.{Ura}
use mir.Raw.{raw as bare}
use mir.Syntax.{ty_ptr, impl, tnil, dnil}
use mir.Val.{Val, vstruct, vcons, vnil, of_list, has_ty, WT}
use base.Logic.{ent, guard, guard_i, via, snd∗, fst∗, never}
use contract.Monad.{fact_use}
use types.Logic.{Logic, sem}
use types.Kit.{Item, Goal, Seq, Step, step, given, learn, ‵, ◌$◌, move, drop, use1, fsplit, fjoin, fpick, fpack, feq_i, feq_l}
use denote.Builtin.{RawPtr}
use denote.Memory.{lone}
use denote.Param.{layout}
use denote.Param.Laws.{Laws}
use denote.RattleType.{RattleType, Valss}
use denote.RawPtr.{Ptr, block_ptr, null_ptr, ptr_val, in_a_block, Testable}
use denote.Steps.{nothing}
use denote.Struct.Struct.{Struct, within}
use Rattle.core.specs.declared.alloc.Allocator.{Ghosts}
use Rattle.core.proofs.alloc.Calls.{Al, handle_tells}
use Rattle.core.proofs.atomic.Steps.{Ptr-Good}
use Rattle.core.proofs.cell.Inside.{Good}
use Rattle.std.proofs.GlobalToken.{dealloc_token-Testable}
use Rattle.std.specs.declared.alloc.Global.{Global}
use Rattle.std.specs.declared.option.Option.{Option}
use Rattle.std.specs.declared.option.Option.TheVariants.{None, Some}
use Rattle.std.specs.contracts.impls.GlobalAllocator.TheImpl.{ghosts}
use Rattle.core.specs.Ptr.{points_to}
use Rattle.handle.specs.Held.{held_at}

all_three : (x y : Bool) → T x → T y → T (x && (y && true))
all_three true true s t = tt
all_three true false s t = absurd t
all_three false y s t = absurd s

-- the machine value of the struct
abbrev pub two : Ptr → Val → Val
two at heap = vstruct (vcons (ptr_val at) (vcons heap vnil))

module _ (Z : RattleType) (L : Laws Z) (g : Ghosts Z.Denot) where
  abbrev pub Words : RattleType
  Words = Struct (record { name = []; args = []; types = []; fields = RawPtr ∷ Z ∷ [] })

  abbrev pub allocator : Al
  allocator = record { row = Z; laws = L; g = g; d = impl [] tnil dnil; drops = impl [] tnil dnil }

  pub two_good : (at : Ptr) (h : Val) → Good (layout Z) h
      → T (has_ty ty_ptr (ptr_val at) && (has_ty (layout Z) h && true)) × WT (two at h)
  two_good at h fits =
      (all_three (has_ty ty_ptr (ptr_val at)) (has_ty (layout Z) h) (Ptr-Good at).0 fits.0, ((Ptr-Good at).1, (fits.1, tt)))

  module _ {M : Type 1} {𝓤 : Ura M} {𝓛 : Logic 𝓤} {K : Type 0} {Γ : List (Item 𝓤)} {G : Goal 𝓤 𝓛.H} where
    -- the struct is taken apart: its pointer is told, and the allocator is left
    pub words_out : K → (at : Ptr) (a : Z.Denot) (vs : List Val)
        → ((h : Val) → vs ≡ two at h ∷ [] → Good (layout Z) h → Seq K 𝓛 (‵ (Z.own_val a (h ∷ [])) ∷ Γ) G)
        → Seq K 𝓛 (‵ (Words.own_val (at, (a, tt)) vs) ∷ Γ) G
    words_out t at a vs then =
        fpick t (λ parts. fsplit t $ feq_l t (λ is_two. fsplit t $ feq_l t (λ is_at. fsplit t $ handle_tells allocator t a parts.1.0 (λ h is_h fits.
        move t (1 ∷ []) $ drop t $ then h (is_two ∙ (λ j. vstruct (of_list (is_at j ++ (is_h j ++ []))) ∷ [])) fits))))

    -- and it is made of both
    pub words_in : K → (at : Ptr) (a : Z.Denot) (h : Val)
        → Step K 𝓛 (‵ (Words.own_val (at, (a, tt)) (two at h ∷ [])) ∷ Γ) G (‵ (Z.own_val a (h ∷ [])) ∷ Γ) G
    words_in t at a h = step (λ s.
        nothing t $ move t (1 ∷ 0 ∷ []) $ fjoin t $ feq_i t (List Val) (ptr_val at ∷ []) (ptr_val at ∷ []) refl $ fjoin t $
        feq_i t (List Val) (two at h ∷ []) (two at h ∷ []) refl $ fjoin t $
        fpack t (Valss (RawPtr ∷ Z ∷ [])) (within (record { name = []; args = []; types = []; fields = RawPtr ∷ Z ∷ [] }) (at, (a, tt)) (two at h ∷ []))
        (ptr_val at ∷ [], (h ∷ [], tt)) $ s)

module _ {M : Type 1} {𝓤 : Ura M} (𝓛 : Logic 𝓤) (heap : Global) (R : RattleType) (p : Ptr) (x : R.Denot) where
  -- what may be freed starts its block, so its pointer may be compared with null
  tested : ent 𝓤 (sem 𝓛 (held_at heap R p (Some x))) (guard 𝓤 (Testable p) (sem 𝓛 (held_at heap R p (Some x))))
  tested =
      let may_free = ghosts.dealloc_token heap (bare (lone R.mir)) p in
      fact_use 𝓤 (Testable p) (via 𝓤 (sem 𝓛 may_free) (snd∗ 𝓤 (sem 𝓛 (points_to R p x)) (sem 𝓛 may_free)) (dealloc_token-Testable 𝓛 heap (bare (lone R.mir)) p))
      (guard_i 𝓤 (Testable p) (sem 𝓛 (held_at heap R p (Some x))))

module _ (heap : Global) (R : RattleType) {M : Type 1} {𝓤 : Ura M} {𝓛 : Logic 𝓤} {K : Type 0} {Γ : List (Item 𝓤)} {G : Goal 𝓤 𝓛.H} where
  -- the two cases of what is held
  pub by_held : K → (at : Ptr) (held : Option R.Denot)
      → (at ≡ null_ptr → held ≡ None → Seq K 𝓛 Γ G)
      → ((b o : Prim.Native.Nat.ℕ) (x : R.Denot) → at ≡ block_ptr b o → held ≡ Some x → Testable (block_ptr b o)
      → Seq K 𝓛 (‵ (held_at heap R (block_ptr b o) (Some x)) ∷ Γ) G)
      → Seq K 𝓛 (‵ (held_at heap R at held) ∷ Γ) G
  by_held t at None empty full = fpick t (λ is. drop t $ empty is refl)
  by_held t at (Some x) empty full =
      in_a_block t at (λ p. held_at heap R p (Some x)) (fst∗ 𝓤 (never 𝓤) (sem 𝓛 (ghosts.dealloc_token heap (bare (lone R.mir)) null_ptr))) (λ b o is.
      use1 𝓛 (given (Testable (block_ptr b o)) (‵ (held_at heap R (block_ptr b o) (Some x)))) (tested 𝓛 heap R (block_ptr b o) x) $
      learn t (λ may. full b o x is refl may))
