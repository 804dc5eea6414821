use Rattle.serde_json.specs.View.{view}
use Rattle.giop_json.proofs.NumberShownLemmas.{number_shown}
use Rattle.giop_json.proofs.from_json.show_leaf.Goals as goal

pub returns-in_default : goal.returns-in_default
returns-in_default c =
    let d = c.in_default in
    rw (number_shown c.args.desc.now (view c.args.json.now) d.not-Boolean d.not-Char d.not-Text d.not-Octets d.not-Labels c.requires) c.number_of.ensures
