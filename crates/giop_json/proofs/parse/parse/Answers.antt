use Rattle.std.proofs.Common.{◌≡◌, Bool, true, false, refl, inl}
use Rattle.std.specs.Bool.{IsTrue}
use Rattle.giop_json.proofs.ParseLemmas.{parsed, unparsed}
use Rattle.giop_json.proofs.parse.parse.Goals as goal

not_true : (b : Bool) → b ≡ false → IsTrue b → ⊥
not_true true is h = absurd cc
not_true false is h = absurd cc

pub returns-in-Ok : goal.returns-in-Ok
returns-in-Ok c = parsed c.args.text.now _ c.in-Ok.ensures.ok.0 c.in-Ok.ensures.ok.1

pub returns-in-Err-2 : goal.returns-in-Err-2
returns-in-Err-2 c =
    inl (refl, unparsed c.args.text.now (c.in-Err.ensures.err (λ m. not_true c.is_memory.result c.if-is_memory.false (c.is_memory.ensures.1 m))))
