-- What a handle owns: a box's contents behind a pointer, or nothing where the pointer is null.
use Rattle.std.specs.Prelude.{◌≡◌, Option, Some, None}
use base.Fml.{Fml, ftrue, fex}
use denote.RattleType.{RattleType}
use denote.RawPtr.{Ptr, null_ptr}
use Rattle.std.specs.declared.alloc.Global.{Global}
use Rattle.std.specs.contracts.impls.GlobalAllocator.TheImpl.{ghosts}
use Rattle.std_alloc.specs.Box.Ownership.{box_owns}

-- at the pointer lies a value with the right to free it, or the pointer is null
abbrev pub held_at : Global → (R : RattleType) → Ptr → Option R.Denot → Fml
held_at heap R at None = fex (at ≡ null_ptr) (λ _. ftrue)
held_at heap R at (Some x) = box_owns (ghosts.dealloc_token heap) R at x
