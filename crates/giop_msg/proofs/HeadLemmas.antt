-- What a call says of a head, by what reading its table gives.
use Rattle.std.proofs.Common.{◌≡◌, ℕ, List, Result, Ok, Err, IsOk, inl, inr, sym, refl, ◌∙◌, subst}
use Rattle.giop_cdr.specs.declared.fault.CdrFault.{CdrFault}
use Rattle.giop_cdr.specs.declared.order.Order.{Order}
use Rattle.giop_cdr.specs.Layout.{Layout, IsLawful}
use Rattle.giop_cdr.specs.Reading.Cursor.{Cursor}
use Rattle.giop_msg.specs.Heads.{DecodesHead, ViewsHead}
use Rattle.giop_msg.specs.Joined.{head_of_joined, joined_from, no_memory}
use Rattle.giop_msg.proofs.JoinedLemmas.{copy_is, head_found, head_is, head_only, head_refused}

-- a head that was read, and the place behind it
pub head_viewed : {A : Type 0} {layout : Layout A} → IsLawful layout → (place : ℕ → ℕ) (order : Order) (octets : List ℕ)
    (start after : Cursor) (head : A) (at : ℕ)
    → start ≡ joined_from order octets → layout.read start ≡ Ok (head, after) → at ≡ place after.at
    → ViewsHead layout place order octets (Ok (head, at))
head_viewed {A} {layout} lawful place order octets start after head at from read behind =
    let found : head_of_joined layout place order octets ≡ Ok (head, at) =
    head_found layout place order octets head after (rw from at read) ∙ rw behind refl in
    record {
      found = head_is lawful place order octets head at found;
      only = λ other body begins. sym found ∙ head_only lawful place order octets other body begins;
      exact = sym found;
    }

-- the fault of one that wasn't
pub head_not_viewed : {A : Type 0} {layout : Layout A} → IsLawful layout → (place : ℕ → ℕ) (order : Order) (octets : List ℕ) (start : Cursor) (e : CdrFault)
    → start ≡ joined_from order octets → layout.read start ≡ Err e → ViewsHead layout place order octets (Err e)
head_not_viewed {A} {layout} lawful place order octets start e from read =
    let refused : head_of_joined layout place order octets ≡ Err e = head_refused layout place order octets e (rw from at read) in
    record {
      found = tt;
      only = λ other body begins. sym refused ∙ head_only lawful place order octets other body begins;
      exact = sym refused;
    }

abbrev viewed : {A : Type 0} → A → ℕ → Result (A × ℕ) CdrFault
viewed head body = Ok (head, body)

-- a copy of a head that was viewed
pub head_copied : {A : Type 0} {layout : Layout A} {place : ℕ → ℕ} {order : Order} {octets : List ℕ} (copy head : A) (body : ℕ) → copy ≡ head
    → ViewsHead layout place order octets (viewed head body) → DecodesHead layout place order octets (viewed copy body)
head_copied copy head body same view = rw same (record {
  found = view.found;
  only = λ other at begins. copy_is head head other body at refl (view.only other at begins);
  exact = sym view.exact;
  err = tt;
})

-- one for which there was no memory
pub head_wanted : {A : Type 0} {layout : Layout A} {place : ℕ → ℕ} {order : Order} {octets : List ℕ} (head : A) (body : ℕ)
    → ViewsHead layout place order octets (viewed head body) → DecodesHead {A = A} layout place order octets (Err no_memory)
head_wanted {A} {layout} {place} {order} {octets} head body view = record {
  found = tt;
  only = λ other at begins. refl;
  exact = tt;
  err = inr (refl, subst (λ (r : Result (A × ℕ) CdrFault). IsOk r) view.exact refl);
}

-- and a fault that was viewed
pub fault_copied : {A : Type 0} {layout : Layout A} {place : ℕ → ℕ} {order : Order} {octets : List ℕ} (e : CdrFault)
    → ViewsHead {A = A} layout place order octets (Err e) → DecodesHead {A = A} layout place order octets (Err e)
fault_copied e view = record {
  found = tt;
  only = λ other at begins. absurd (cc (view.only other at begins));
  exact = tt;
  err = inl (sym view.exact);
}
