-- Places that are told of a whole in which a part stands.
use Rattle.std.proofs.Common.{◌≡◌, ℕ, List, ◌∷◌, map, ap, ◌∙◌}
use Rattle.giop_where.specs.First.{IsPlace}
use Rattle.giop_where.specs.Parts.{Portion, key, step_view}
use Rattle.giop_where.specs.declared.place.Place.{Place}
use Rattle.giop_where.specs.declared.step.Step.{Step}
use Rattle.giop_files.specs.Places.{IsPlaceUnder}

pub placed_under : (name : List ℕ) (number : ℕ) (part : Portion) (inner place : Place) (step : Step) → IsPlace number part inner → step_view step ≡ key name
    → map step_view place.path.items ≡ step_view step ∷ map step_view inner.path.items → place.role ≡ inner.role → IsPlaceUnder name number part place
placed_under name number part inner place step is named path role =
    (inner, is, path ∙ ap (λ way. way ∷ map step_view inner.path.items) named, role)
