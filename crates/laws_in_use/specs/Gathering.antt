-- Pieces under two ids come in turn to a gatherer of eight octets.
use Rattle.std.specs.Prelude.{ℕ, List, [], ◌∷◌, Some, None, Result, Ok, Err}
use Rattle.std.specs.FinMap as finite
use Rattle.giop_cdr.specs.declared.order.Order.TheVariants.{Big, Little}
use Rattle.giop_ids.specs.declared.addressed.Addressed.{Addressed}
use Rattle.giop_ids.specs.ById.{put}
use Rattle.giop_frag.specs.declared.fault.GatherFault.{GatherFault}
use Rattle.giop_frag.specs.declared.fault.GatherFault.TheVariants.{GatherFull, OrderDiffers}
use Rattle.giop_frag.specs.Gathered.{Lists, Pieces}
use Rattle.giop_frag.specs.Runs.{Adds, Begins, Gives, Happening, IsDiscarded, IsDone, IsFinished, Reply}

abbrev pub under : ℕ → Happening → Addressed Happening
under id what = record { id = id; what = what }

-- 7 begins big-endian with three octets, and 9 little-endian with one; more for 7 comes in the
-- other order, and too much for 9; two octets more are joined to 7, and 9 is handed out
abbrev pub acts : List (Addressed Happening)
acts =
    under 7 (Begins Big (1 ∷ 2 ∷ 3 ∷ []))
    ∷ under 9 (Begins Little (4 ∷ []))
    ∷ under 7 (Adds Little (5 ∷ []))
    ∷ under 9 (Adds Little (6 ∷ 6 ∷ 6 ∷ 6 ∷ 6 ∷ []))
    ∷ under 7 (Adds Big (5 ∷ 6 ∷ []))
    ∷ under 9 IsFinished
    ∷ []

abbrev pub of_nine : Pieces
of_nine = record { order = Little; octets = 4 ∷ [] }

abbrev pub results : List (Result Reply GatherFault)
results =
    Ok IsDone ∷ Ok IsDone ∷ Err OrderDiffers ∷ Err GatherFull ∷ Ok IsDone ∷ Ok (Gives of_nine) ∷ []

-- what 7 has then
abbrev pub of_seven : Pieces
of_seven = record { order = Big; octets = 1 ∷ 2 ∷ 3 ∷ 5 ∷ 6 ∷ [] }

-- the lists, as they become
abbrev pub none : Lists
none = finite.empty

abbrev pub begun : Pieces
begun = record { order = Big; octets = 1 ∷ 2 ∷ 3 ∷ [] }

abbrev pub one_begun : Lists
one_begun = put none 7 (Some begun)

abbrev pub both_begun : Lists
both_begun = put one_begun 9 (Some of_nine)

abbrev pub joined : Lists
joined = put both_begun 7 (Some of_seven)

abbrev pub handed_out : Lists
handed_out = put joined 9 None

-- what isn't refused of these, in this order and in another
abbrev pub in_turn : List (Addressed Happening)
in_turn =
    under 7 (Begins Big (1 ∷ 2 ∷ 3 ∷ []))
    ∷ under 9 (Begins Little (4 ∷ []))
    ∷ under 7 (Adds Big (5 ∷ 6 ∷ []))
    ∷ under 9 IsDiscarded
    ∷ []

abbrev pub one_by_one : List (Addressed Happening)
one_by_one =
    under 9 (Begins Little (4 ∷ []))
    ∷ under 9 IsDiscarded
    ∷ under 7 (Begins Big (1 ∷ 2 ∷ 3 ∷ []))
    ∷ under 7 (Adds Big (5 ∷ 6 ∷ []))
    ∷ []
