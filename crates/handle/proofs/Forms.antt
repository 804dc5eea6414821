-- A raw box and a box have one form: a pointer, an allocator, and behind the pointer the value with
-- the right to free it. So what a box owns is what its raw box owns, by computation.
use mir.Syntax.{Args, Dict, a_type, dcons, dnil}
use denote.RattleType.{RattleType}
use mathlib.Core.List.{[], ◌∷◌}
use denote.Param.{bounded}
use denote.Param.Laws.{Laws}
use Rattle.core.specs.declared.alloc.Allocator.{Ghosts}
use Rattle.std_alloc.proofs.BoxSteps.Form.{Bx, R, P}
use Rattle.handle.specs.contracts.raw_box.RawBox.{the_row}

-- a box by its two type parameters, with the tables of what they can do
abbrev pub box_of : (T A : RattleType) → Laws T → Laws A → Ghosts A.Denot → Dict → Dict → Bx
box_of T A of_T of_A g does drops =
    record { row = T; laws = of_T; al = record { row = A; laws = of_A; g = g; d = does; drops = drops } }

-- the raw box of a box
abbrev pub raw_row : Bx → RattleType
raw_row E = the_row (R E) (P E) E.al.g

-- what is passed for the two type parameters
abbrev pub passed : (T A : RattleType) → Dict → Dict → Dict → Args
passed T A does drops_T drops_A =
    bounded (a_type ∷ a_type ∷ []) (T, (A, tt)) (dcons does (dcons drops_T (dcons drops_A dnil)))
