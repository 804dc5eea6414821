use Rattle.giop_types.specs.Values.Views.{value_view}
use Rattle.giop_json.proofs.JsonBack.{given_back}
use Rattle.giop_json.proofs.laws.json.written_and_read_as_json.Goals as goal

pub returns-clause-back : goal.returns-clause-back
returns-clause-back c = given_back (value_view c.args.value.now) c.value_from_json.result _ c.in_ok-json.ensures.back c.value_from_json.ensures
