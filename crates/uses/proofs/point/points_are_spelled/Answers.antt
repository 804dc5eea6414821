use Rattle.giop_cdr.proofs.LayoutLemmas.{alone_of}
use Rattle.uses.proofs.PointLemmas.{point_is}
use Rattle.uses.proofs.point.points_are_spelled.Goals as goal

pub returns : goal.returns
returns c = record {
  exact = point_is.exact;
  alone = alone_of point_is;
}
