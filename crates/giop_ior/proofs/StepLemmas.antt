-- What a step of a reading says where it gave a value.
use Rattle.std.proofs.Common.{◌≡◌, Bool, true, false, Option, Some, None, Ok, Err, if◌then◌else◌, refl, ◌⊎◌, inl, inr}
use Rattle.std.specs.Option.{ok_or}
use Rattle.giop_ior.specs.declared.addresses.corbaloc_fault.CorbalocFault.{CorbalocFault}
use Rattle.giop_ior.specs.CorbalocFault.{Read, ◌>>=◌}

pub if_ok : {A : Type 0} (test : Bool) (x y : A) (e : CorbalocFault)
    → ◌≡◌ {A = Read A} (if test then Ok x else Err e) (Ok y) → (test ≡ true) × (x ≡ y)
if_ok true x y e is = (refl, cc)
if_ok false x y e is = absurd (cc)

pub if_some : {A : Type 0} (test : Bool) (x y : A)
    → ◌≡◌ {A = Option A} (if test then Some x else None) (Some y) → (test ≡ true) × (x ≡ y)
if_some true x y is = (refl, cc)
if_some false x y is = absurd (cc)

pub then_some : {A : Type 0} (test : Bool) (o : Option A) (y : A)
    → ◌≡◌ {A = Option A} (if test then o else None) (Some y) → (test ≡ true) × (o ≡ Some y)
then_some true o y is = (refl, is)
then_some false o y is = absurd (cc)

pub then_none : {A : Type 0} (test : Bool) (o : Option A) (e : A)
    → ◌≡◌ {A = Option A} (if test then o else Some e) None → (test ≡ true) × (o ≡ None)
then_none true o e is = (refl, is)
then_none false o e is = absurd (cc)

pub step_ok : {A B : Type 0} (r : Read A) (f : A → Read B) (y : B) → (r >>= f) ≡ Ok y → (x : A) × (r ≡ Ok x) × (f x ≡ Ok y)
step_ok (Ok x) f y is = (x, refl, is)
step_ok (Err e) f y is = absurd (cc)

pub ok_or_ok : {A : Type 0} (o : Option A) (e : CorbalocFault) (x : A) → ok_or o e ≡ Ok x → o ≡ Some x
ok_or_ok None e x is = absurd (cc)
ok_or_ok (Some y) e x is = let same : y ≡ x = cc in cc

pub ok_is : {A : Type 0} {x y : A} → ◌≡◌ {A = Read A} (Ok x) (Ok y) → x ≡ y
ok_is is = cc

pub some_is : {A : Type 0} {x y : A} → ◌≡◌ {A = Option A} (Some x) (Some y) → x ≡ y
some_is is = cc

-- what a step says where it gave none
pub step_err : {A B : Type 0} (r : Read A) (f : A → Read B) (e : CorbalocFault) → (r >>= f) ≡ Err e
    → (r ≡ Err e) ⊎ ((x : A) × (r ≡ Ok x) × (f x ≡ Err e))
step_err (Ok x) f e is = inr (x, refl, is)
step_err (Err d) f e is = inl (cc)

pub ok_or_err : {A B : Type 0} (o : Option A) (d : CorbalocFault) (f : A → Read B) (e : CorbalocFault) → (ok_or o d >>= f) ≡ Err e
    → ((o ≡ None) × (e ≡ d)) ⊎ ((x : A) × (o ≡ Some x) × (f x ≡ Err e))
ok_or_err None d f e is = inl (refl, cc)
ok_or_err (Some x) d f e is = inr (x, refl, is)

pub then_err : {A B : Type 0} (r : Read A) (f : A → B) (e : CorbalocFault) → (r >>= λ x. Ok (f x)) ≡ Err e → r ≡ Err e
then_err (Ok x) f e is = absurd (cc)
then_err (Err d) f e is = cc

pub if_err : {A : Type 0} (test : Bool) (x : A) (d e : CorbalocFault)
    → ◌≡◌ {A = Read A} (if test then Ok x else Err d) (Err e) → (test ≡ false) × (d ≡ e)
if_err true x d e is = absurd (cc)
if_err false x d e is = (refl, cc)

pub ok_or_none : {A : Type 0} (o : Option A) (d e : CorbalocFault) → ok_or o d ≡ Err e → (o ≡ None) × (e ≡ d)
ok_or_none None d e is = (refl, cc)
ok_or_none (Some x) d e is = absurd (cc)
