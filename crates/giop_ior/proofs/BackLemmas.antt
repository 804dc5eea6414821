-- What a call appended of a value by a lawful layout is read back, whatever octets follow.
use Rattle.std.proofs.Common.{◌≡◌, true, false, Result, Ok, Err, is_err, OnOk, sym, subst}
use Rattle.giop_cdr.specs.Layout.{Layout, IsLawful}
use Rattle.giop_cdr.specs.RoundTrip.{IsReadBack}
use Rattle.giop_cdr.specs.Writing.Output.{Output}
use Rattle.giop_cdr.specs.Writing.Outcome.{Appends}
use Rattle.giop_cdr.proofs.LayoutLemmas.{back_of}

pub appended_back : {A X E : Type 0} {f : Layout A} → IsLawful f → (v : A) (out done : Output) (r : Result X E)
    → is_err r ≡ false → f.fits v ≡ true → OnOk r (f.holds v) → Appends out r done (f.written v out)
    → IsReadBack f.spells f.read v out done
appended_back {f = f} one v out done (Ok x) ok fits held put =
    subst (λ (d : Output). IsReadBack f.spells f.read v out d) (sym put.0) (back_of one v out fits held)
appended_back one v out done (Err e) ok fits held put = absurd cc
