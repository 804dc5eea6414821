-- What a call does at a handle that holds something.
use Rattle.std.proofs.Common.{◌≡◌, ℕ, Option, Some}
use Rattle.giop_c.specs.Calls.{At}

pub at_open : {T : Type 0} (old new : Option T) (a b : T) (status : ℕ) (kept : Type 0)
    (Does : T → T → Type 0) → old ≡ Some a → new ≡ Some b → Does a b → At old new status kept Does
at_open old new a b status kept Does was is done = rw (was, is) done
