-- What is answered by reading is what the octets spell, and what they spell is answered.
use Rattle.std.proofs.Common.{◌≡◌, ℕ, inl, inr, List, Result, Ok, Err, IfOk, ◌∙◌, sym}
use Rattle.giop_cdr.specs.declared.order.Order.{Order}
use Rattle.giop_cdr.specs.declared.fault.CdrFault.{CdrFault}
use Rattle.giop_cdr.specs.Ending.{Ending, IsLawfulEnding}
use Rattle.giop_cdr.proofs.Reading.Answers.{ok_same}
use Rattle.giop_msg.specs.Joined.{joined_from}
use Rattle.giop_msg.specs.Messages.Outcome.{Decodes, DecodesMessage, IsTold}

abbrev value_of : {A : Type 0} → A → Result A CdrFault
value_of x = Ok x

decodes_found : {A : Type 0} {f : Ending A} → IsLawfulEnding f
    → (order : Order) (octets : List ℕ) (result : Result A CdrFault)
    → Decodes result (f.read (joined_from order octets))
    → IfOk result (λ v. f.spells order 12 v octets)
decodes_found one order octets (Ok v) h = (one.exact (joined_from order octets)).found v h
decodes_found one order octets (Err e) h = tt

decodes_only : {A : Type 0} {f : Ending A} → IsLawfulEnding f
    → (order : Order) (octets : List ℕ) (result : Result A CdrFault)
    → Decodes result (f.read (joined_from order octets)) → (v : A) → f.spells order 12 v octets
    → IsTold result v
decodes_only one order octets (Ok w) h v s =
    ok_same w v (sym h ∙ (one.exact (joined_from order octets)).only v s)
decodes_only {A} {f} one order octets (Err e) h v s =
    let told : f.read (joined_from order octets)
    ≡ Ok v = (one.exact (joined_from order octets)).only v s in
    elim h [
      | inl refused ↦ absurd (never v e (sym told ∙ refused))
      | inr want ↦ want.0
    ]
  where
    never : {B : Type 0} (x : B) (e : CdrFault) → value_of x ≡ Err e → ⊥
    never x e h = absurd cc

-- a call that decodes a message returns what the octets spell, and what they spell is returned
pub message_decoded : {A : Type 0} {f : Ending A} → IsLawfulEnding f → (order : Order) (octets : List ℕ) (result : Result A CdrFault)
    → Decodes result (f.read (joined_from order octets)) → DecodesMessage f order octets result
message_decoded one order octets result h = record {
  found = decodes_found one order octets result h;
  only = decodes_only one order octets result h;
  exact = h;
}

-- a copy of what was told is what the octets are
pub told_copy : {A : Type 0} (copy found v : A) → copy ≡ found → value_of found ≡ value_of v
    → copy ≡ v
told_copy copy found v same told = same ∙ ok_same found v told
