use Rattle.giop_types.specs.Values.SameLaws.{same_decides, same_list_decides}
use Rattle.giop_types.specs.Values.Views.{value_view}
use Rattle.giop_types.proofs.laws.values.equal_values_are_the_same.Goals as goal

pub returns : goal.returns
returns c = record {
  values = λ one other. same_decides (value_view one) (value_view other);
  lists = λ one other. same_list_decides one other;
}
