-- What an encoder leaves as joined octets, and how these are read back.
use Rattle.std.proofs.Common.{◌≡◌, true, false, List, ℕ, Result, Ok, Err, is_err, OnOk, sym, subst, ap, ◌∙◌}
use Rattle.giop_cdr.specs.declared.order.Order.{Order}
use Rattle.giop_cdr.specs.Writing.Output.{Output}
use Rattle.giop_cdr.specs.Writing.Outcome.{Appends}
use Rattle.giop_cdr.specs.Layout.{Layout, IsLawful}
use Rattle.giop_msg.specs.Joined.{whole_of_joined}
use Rattle.giop_msg.specs.Messages.Outcome.{joined_into}
use Rattle.giop_msg.proofs.JoinedLemmas.{whole_only}

-- the octets that a call returns of a value, where the writing of it went well
pub joined_written : {X E : Type 0} (r : Result X E) (write : Output → Output) (order : Order) (out done : Output) (octets : List ℕ)
    → is_err r ≡ false → Appends out r done (write out) → out ≡ joined_into order → octets ≡ done.octets
    → octets ≡ (write (joined_into order)).octets
joined_written (Ok x) write order out done octets ok put from whole =
    whole ∙ ap (λ (o : Output). o.octets) (put.0 ∙ ap write from)
joined_written (Err e) write order out done octets ok put from whole = absurd cc

-- and that the value is in the ranges of its types
pub held_where_ok : {X E : Type 0} (r : Result X E) (Held : Type 0) → is_err r ≡ false → OnOk r Held → Held
held_where_ok (Ok x) Held ok held = held
held_where_ok (Err e) Held ok held = absurd cc

-- a value whose layout is that of a whole message
pub whole_back : {A : Type 0} {f : Layout A} → IsLawful f → (order : Order) (v : A) (octets : List ℕ)
    → f.fits v ≡ true → f.holds v → octets ≡ (f.written v (joined_into order)).octets
    → whole_of_joined f order octets ≡ Ok v
whole_back {A} {f} one order v octets fits held is =
    let s = one.written v (joined_into order) fits held in
    whole_only one order octets v (record { spells = subst (λ (b : List ℕ). f.spells order 12 v b) (sym (is ∙ s.octets)) s.spells })

-- what holds anyway holds where a call went well
pub where_ok : {X E : Type 0} (r : Result X E) (Held : Type 0) → Held → OnOk r Held
where_ok (Ok x) Held held = held
where_ok (Err e) Held held = tt

-- what follows of what holds where a call went well
pub follows_where_ok : {X E : Type 0} (r : Result X E) (One Two : Type 0) → (One → Two) → OnOk r One → OnOk r Two
follows_where_ok (Ok x) One Two leads one = leads one
follows_where_ok (Err e) One Two leads one = tt
