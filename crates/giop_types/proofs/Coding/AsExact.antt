-- Exact readers of the parts that shapes are made of.
use Rattle.std.proofs.Common.{◌≡◌, inl, inr, ℕ, nat_lt, Bool, true, false, if◌then◌else◌, Ok, Err, refl}
use Rattle.std.specs.Int.{w32}
use Rattle.giop_cdr.specs.declared.fault.CdrFault.{CdrFault}
use Rattle.giop_cdr.specs.declared.fault.CdrKind.TheVariants.{BadLabel}
use Rattle.giop_cdr.specs.Reading.Cursor.{Cursor}
use Rattle.giop_cdr.specs.Reading.Values.{Reading, fault, number_at}
use Rattle.giop_cdr.specs.Spelling.{Spelling, SpellsNumber, Known}
use Rattle.giop_cdr.specs.Reading.Exactness.{Refusal, Took, IsExact, FirstRefused, NeverRefused, RefusedShort}
use Rattle.giop_cdr.proofs.Reading.Answers.{exact_by}
use Rattle.giop_cdr.proofs.Spelling.Composing.{then_exact, nothing_exact, such_exact}
use Rattle.giop_cdr.proofs.Spelling.FieldSpelling.{number_exact}
use Rattle.giop_types.specs.Coding.Decoding.{as_read, ordinal_at}
use Rattle.giop_types.specs.Coding.Spells.{As, Nothing, SpellsOrdinal, Chosen}
use Rattle.giop_types.specs.Coding.Refusals.{RefusedOrdinal, RefusedBy}

refused_to : {A : Type 0} (P : Spelling A) (R : Refusal) (c : Cursor) (e : CdrFault) → FirstRefused (Took P) R (λ _. NeverRefused) c e → R c e
refused_to P R c e why = elim why [
  | inl first ↦ first
  | inr behind ↦ absurd behind.back
]

-- a value that is read as another is spelled as the other
pub as_exact : {A B : Type 0} (f : A → B) (P : Spelling A) (R : Refusal) (read : Cursor → Reading A)
    → IsExact (Took P) R read → IsExact (Took (As f P)) R (λ c. as_read f (read c))
as_exact f P R read exact c = exact_by (Took (As f P) c) (Took (As f P) c) (FirstRefused (Took P) R (λ _. NeverRefused) c) (R c)
    (as_read f (read c)) (λ v d t. t) (λ v d t. t) (refused_to P R c) (λ e why. inl why)
    (then_exact P (λ v. Known (f v)) R (λ _. NeverRefused) read (λ v d. Ok (f v, d)) exact (λ v. nothing_exact (f v)) c)

pub ordinal_exact : (n : ℕ) → IsExact (Took (SpellsOrdinal n)) (RefusedOrdinal n) (ordinal_at n)
unfolding ordinal_at
ordinal_exact n = such_exact (λ ordinal. nat_lt ordinal n) 4 BadLabel (SpellsNumber w32) (RefusedShort 4) (number_at w32) (number_exact w32)

-- where nothing is spelled, one fault is the answer
pub none_exact : {A : Type 0} → IsExact (Took {A = A} Nothing) (λ c e. e ≡ fault c.at BadLabel) (λ c. Err (fault c.at BadLabel))
none_exact c = record {
  found = λ v d h. absurd cc;
  only = λ v d t. absurd t.spells;
  refused = λ e h. cc;
  refuses = λ e why. rw why refl;
}

pub chosen_exact : {A : Type 0} (b : Bool) (P Q : Spelling A) (R S : Refusal) (read other : Cursor → Reading A)
    → IsExact (Took P) R read → IsExact (Took Q) S other
    → IsExact (Took (Chosen b P Q)) (RefusedBy b R S) (λ c. if b then read c else other c)
chosen_exact true P Q R S read other one two = one
chosen_exact false P Q R S read other one two = two
