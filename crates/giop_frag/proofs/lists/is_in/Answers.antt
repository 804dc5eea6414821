use Rattle.std.proofs.Common.{◌≡◌, sym, ap, ◌∙◌, is_some, Option, Some, None, option_and_then, refl, List, ℕ}
use Rattle.giop_frag.specs.Placed.{Placed, pieces_at}
use Rattle.giop_frag.proofs.PlacedLemmas.{lists-get}
use Rattle.giop_frag.proofs.lists.is_in.Goals as goal

-- each slot has a list
is_shown : (blocks : List (List ℕ)) (slot : Option Placed) → is_some (option_and_then (λ p. Some (pieces_at blocks p)) slot) ≡ is_some slot
is_shown blocks None = refl
is_shown blocks (Some p) = refl

pub returns : goal.returns
returns c =
    c.contains_key.ensures
    ∙ sym (ap is_some (lists-get c.args.pool.now.blocks c.args.table.now.entries c.args.id) ∙ is_shown c.args.pool.now.blocks _)
