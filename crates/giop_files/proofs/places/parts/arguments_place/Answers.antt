use Rattle.std.proofs.Common.{inl}
use Rattle.giop_files.proofs.PlacesLemmas.{placed_under}
use Rattle.giop_files.proofs.places.parts.arguments_place.Goals as goal

pub returns : goal.returns
returns c =
    inl
    (placed_under c.args.name.now c.args.number _ c.in_ok-place.place c.in_ok-under.field-0 c.in_ok-key.field-0 c.in_ok-place.ensures c.in_ok-key.ensures
    c.in_ok-under.ensures.path c.in_ok-under.ensures.role)
