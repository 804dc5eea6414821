-- Longer writings, step by step, and back again: for the crates above, which compose theirs of these.
use Rattle.std.proofs.Common.{◌≡◌, ℕ, List, [], ◌++◌, length, take, ◌≤◌, refl, sym, ap, ◌∙◌, append_assoc, length-append, arith}
use Rattle.std.proofs.lemmas.List.{take_at, append-nil}
use Rattle.giop_cdr.specs.Output.{Output, append, here, back_at}
use Rattle.giop_cdr.specs.Writing.{Grows}

pub grows_not : (out : Output) → Grows out out
grows_not out = record { part = []; octets = sym (append-nil out.octets) }

pub grows_by : (out : Output) (octets : List ℕ) → Grows out (append out octets)
grows_by out octets = record { part = octets; octets = refl }

pub grows_then : (out mid done : Output) → Grows out mid → Grows mid done → Grows out done
grows_then out mid done one two = record {
  part = one.part ++ two.part;
  octets = two.octets ∙ (ap (λ (octets : List ℕ). octets ++ two.part) one.octets ∙ append_assoc out.octets one.part two.part);
}

pub taken_back : (old new : Output) → Grows old new → take (length old.octets) new.octets ≡ old.octets
taken_back old new g = ap (take (length old.octets)) g.octets ∙ take_at old.octets g.part (length old.octets) refl

-- a writing that is taken back leaves what was there
pub grown_back : (old new : Output) → Grows old new → back_at (here old) new ≡ old
grown_back old new g = rw (taken_back old new g) refl

pub grown_is_longer : (old new : Output) → Grows old new → length old.octets ≤ length new.octets
grown_is_longer old new g = omega (arith, ap length g.octets, length-append old.octets g.part)
