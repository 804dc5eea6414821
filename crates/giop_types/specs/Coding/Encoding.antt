-- What a call says that writes a value where it fits.
use Rattle.std.specs.Prelude.{◌≡◌, Bool, true, false, Result, Ok, Err}
use Rattle.giop_cdr.specs.declared.encode_fault.EncodeFault.{EncodeFault}
use Rattle.giop_cdr.specs.declared.encode_fault.EncodeFault.TheVariants.{Unfit}
use Rattle.giop_cdr.specs.Writing.Output.{Output}
use Rattle.giop_cdr.specs.Writing.Outcome.{Grows}

-- a step of a longer writing: what is written of a value that fits; where it returns Unfit the
-- value doesn't fit; where it fails, a part of it may be left
abbrev pub AppendsFitting : {X : Type 0} → Bool → Output → Result X EncodeFault → Output → Output
    → Type 0
AppendsFitting fit old (Ok _) new done = (fit ≡ true) × (new ≡ done) × Grows old new
AppendsFitting fit old (Err e) new done = (e ≡ Unfit → fit ≡ false) × Grows old new

-- a step that writes a union's member: it was written by a case, or no case has the label, and what
-- fits and what is written is as by default
abbrev pub AppendsCase : Bool → Bool → Output → Result Bool EncodeFault → Output → Output → Output
    → Type 0
AppendsCase fit other old (Ok true) new done more = (fit ≡ true) × (new ≡ done) × Grows old new
AppendsCase fit other old (Ok false) new done more = (fit ≡ other) × (done ≡ more) × (new ≡ old)
AppendsCase fit other old (Err e) new done more = (e ≡ Unfit → fit ≡ false) × Grows old new
