use Rattle.std.proofs.Common.{◌≡◌, ◌≤◌, ◌^◌, ◌++◌, ◌∷◌, [], Some, length, chars, ap, arith, sym, ◌∙◌}
use Rattle.std.proofs.lemmas.Iterator.{YieldsList-from_chars}
use Rattle.std.proofs.lemmas.Iterator.Consumers.{YieldsList-turn, YieldsList-end}
use Rattle.std.proofs.lemmas.List.{length_push}
use Rattle.giop_json.specs.JsonText.{octets_of_chars}
use Rattle.giop_types.proofs.Coding.PartLoops.{part_made, part_missing, parts_made}
use Rattle.giop_json.proofs.JsonTextLemmas.{octets_of_chars-each, low_char, high_char}
use Rattle.giop_json.proofs.texts.octets_in.Goals as goal

pub returns-in_default : goal.returns-in_default
returns-in_default c =
    let cs = chars c.args.text.now in
    let t = YieldsList-turn
    (YieldsList-from_chars c.args.text.now c.utf8.text cc) c.loop-c.yielded _ c.loop-c.yielded_by _ _ c.in-Some.c c.in-Some.is c.next.ensures.steps in
    let high : 2 ^ 8 ≤ c.in-Some.c = grind (arith, c.in_default.ensures, c.from.ensures) in
    sym (part_missing octets_of_chars-each c.loop-c.octets.items cs (length c.loop-c.yielded) c.in-Some.c (octets_of_chars cs) t.0 t.1
    (high_char c.in-Some.c high) c.loop-c.invariant)

pub loop-c-preserved : goal.loop-c-preserved
loop-c-preserved c =
    let cs = chars c.args.text.now in
    let t = YieldsList-turn
    (YieldsList-from_chars c.args.text.now c.utf8.text cc) c.loop-c.yielded _ c.loop-c.yielded_by _ _ c.in-Some.c c.in-Some.is c.next.ensures.steps in
    let pushed : c.push.new.self.items ≡ c.loop-c.octets.items ++ c.in-Some.c ∷ [] = grind (arith, c.in_ok-push.ensures, c.in-Ok.ensures, c.from.ensures) in
    rw (pushed, length_push c.loop-c.yielded c.in-Some.c)
    (part_made octets_of_chars-each c.loop-c.octets.items cs (length c.loop-c.yielded) c.in-Some.c c.in-Some.c (octets_of_chars cs) t.0 t.1
    (low_char c.in-Some.c (grind (arith, c.in-Ok.ensures, c.from.ensures))) c.loop-c.invariant)

pub returns : goal.returns
returns c =
    let cs = chars c.args.text.now in
    let t =
    YieldsList-end (YieldsList-from_chars c.args.text.now c.utf8.text cc) c.loop-c.yielded _ c.loop-c.yielded_by _ _ c.in-None.is c.next.ensures.steps in
    let done : length cs ≤ length c.loop-c.yielded = omega (arith, t.1) in
    sym (parts_made octets_of_chars-each c.loop-c.octets.items cs (length c.loop-c.yielded) (octets_of_chars cs) done c.loop-c.invariant
    ∙ ap (λ o. Some o) (sym c.from-2.ensures))
