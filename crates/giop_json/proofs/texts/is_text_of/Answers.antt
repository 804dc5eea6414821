use Rattle.std.proofs.Common.{◌≤◌, length, chars, arith, sym, ◌∙◌}
use Rattle.std.proofs.lemmas.Iterator.{YieldsList-from_chars}
use Rattle.std.proofs.lemmas.Iterator.Consumers.{YieldsList-turn, YieldsList-end}
use Rattle.std.proofs.lemmas.List.{length_push}
use Rattle.giop_json.proofs.JsonTextLemmas.{goes_on, parts_here, place_bound, at_end, same_texts}
use Rattle.giop_json.proofs.texts.is_text_of.Goals as goal

pub returns-then-not-is_at : goal.returns-then-not-is_at
returns-then-not-is_at c =
    let l = c.loop-c in
    let cs = chars c.args.text.now in
    let t = YieldsList-turn (YieldsList-from_chars c.args.text.now c.utf8.text cc) l.yielded _ l.yielded_by _ _ c.in-Some.c c.in-Some.is c.next.ensures.steps in
    let same = l.invariant.0 in
    let parted = parts_here l.passed c.args.octets.now cs c.in-Some.c (rw same t.0) (rw same t.1) (sym c.is_at.ensures ∙ c.if-not-is_at.true) in
    sym (sym (same_texts c.args.octets.now c.args.text.now c.utf8.text) ∙ sym l.invariant.1 ∙ parted)

pub loop-c-preserved : goal.loop-c-preserved
loop-c-preserved c =
    let l = c.loop-c in
    let cs = chars c.args.text.now in
    let t = YieldsList-turn (YieldsList-from_chars c.args.text.now c.utf8.text cc) l.yielded _ l.yielded_by _ _ c.in-Some.c c.in-Some.is c.next.ensures.steps in
    let same = l.invariant.0 in
    let passed = goes_on l.passed c.args.octets.now cs c.in-Some.c (rw same t.0) (rw same t.1) (sym c.is_at.ensures ∙ c.if-not-is_at.false) in
    let below = place_bound l.passed c.args.octets.now c.in-Some.c (sym c.is_at.ensures ∙ c.if-not-is_at.false) in
    (rw (length_push l.yielded c.in-Some.c) (omega arith), sym passed ∙ l.invariant.1, omega arith)

pub returns : goal.returns
returns c =
    let l = c.loop-c in
    let t = YieldsList-end (YieldsList-from_chars c.args.text.now c.utf8.text cc) l.yielded _ l.yielded_by _ _ c.in-None.is c.next.ensures.steps in
    let os = c.args.octets.now in
    let done : length (chars c.args.text.now) ≤ l.passed = omega (arith, t.1, l.invariant.0) in
    sym (at_end l.passed os (chars c.args.text.now) done l.invariant.2) ∙ l.invariant.1 ∙ same_texts os c.args.text.now c.utf8.text
