use Rattle.std.proofs.Common.{◌≡◌, ◌++◌, ◌∷◌, [], string_bytes, ◌∙◌, arith}
use Rattle.std.proofs.lemmas.Grind.{common_steps}
use Rattle.giop_json.proofs.ValuesTextLemmas.{none_left}
use Rattle.giop_json.proofs.appending.append_values.Goals as goal

pub returns : goal.returns
returns c =
    let pushed : string_bytes c.push_str-2.new.self ≡ string_bytes c.loop-i.text ++ 93 ∷ [] = grind (arith, common_steps) in
    let none = none_left c.args.numbers c.args.parameters.now c.args.values.now c.loop-i.i c.min-i-end.result c.min-i-end.ensures c.loop-i-test.false in
    pushed ∙ (rw none at c.loop-i.invariant)
