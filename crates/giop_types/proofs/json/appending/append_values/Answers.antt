use Rattle.std.proofs.Common.{◌≡◌, ◌++◌, ◌∷◌, [], string_bytes, OnOk, subst}
use Rattle.giop_types.proofs.JsonForms.ValuesTextLemmas.{none_left}
use Rattle.giop_types.proofs.json.appending.append_values.Goals as goal

pub returns : goal.returns
returns c =
    let none = none_left c.args.numbers c.args.parameters.now c.args.values.now c.loop-i.i c.min-i-end.result c.min-i-end.ensures c.loop-i-test.false in
    let pushed : OnOk c.push_str-2.result (string_bytes c.push_str-2.new.self ≡ string_bytes c.loop-i.text ++ 93 ∷ []) = search in
    subst (λ octets. OnOk c.push_str-2.result (string_bytes c.push_str-2.new.self ≡ octets)) (rw none at c.loop-i.invariant) pushed
