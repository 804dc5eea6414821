-- Values that are read one after another, and the room that was made for them.
use Rattle.std.specs.Prelude.{ℕ, List}
use Rattle.std.specs.Coded.{Coded, code_by, coded×, coded_list, coded_ℕ}
use Rattle.std.proofs.Common.{refl}
use Rattle.giop_types.specs.Values.Tree.{Tree}
use Rattle.giop_types.specs.Values.TreeCode.{coded_tree}

-- the values that have come, in their order, and for how many there is room
pub record Arriving : Type 0 where
  pub come : List Tree
  pub room : ℕ

-- a code, by which contracts tell such values apart
abbrev pub coded_arriving : Coded Arriving
coded_arriving =
    code_by (List Tree × ℕ) (coded× (coded_list coded_tree) coded_ℕ)
    (λ a. (a.come, a.room)) (λ p. record { come = p.0; room = p.1 }) (λ _. refl)
