-- Longer writings, step by step: what is there has grown by each step.
use Rattle.std.proofs.Common.{◌≡◌, Result, Ok, Err, IsErr, sym, subst}
use Rattle.giop_cdr.specs.Writing.Output.{Output}
use Rattle.giop_cdr.specs.Writing.Outcome.{Grows, Appends}

-- a step that left what was there
pub still_grown : (out mid new : Output) → Grows out mid → new ≡ mid → Grows out new
still_grown out mid new grown is = subst (λ it. Grows out it) (sym is) grown

-- a writing that stops at a refusal leaves what has grown until then
pub stopped : {X E : Type 0} (result : Result X E) (out new done : Output) → IsErr result → Grows out new → Appends out result new done
stopped (Ok x) out new done refused grown = absurd (cc)
stopped (Err e) out new done refused grown = grown
