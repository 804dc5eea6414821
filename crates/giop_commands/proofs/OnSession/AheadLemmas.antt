-- What is read ahead is kept, and what is written is appended, from one try to the next.
use Rattle.std.proofs.Common.{◌≡◌, ℕ, List, Option, Some, None, Result, Ok, Err, refl, ◌∙◌, ◌++◌, subst}
use Rattle.std.specs.Io.KnownBytes.{Appends, Keeps, WriteAppends}

-- known octets are themselves
pub kept : (known : Option (List ℕ)) → Keeps known known
kept None = tt
kept (Some octets) = refl

-- what is kept twice is kept
pub kept_on : (old mid new : Option (List ℕ)) → Keeps old mid → Keeps mid new → Keeps old new
kept_on None mid new first second = tt
kept_on (Some octets) None new first second = absurd first
kept_on (Some octets) (Some mid) None first second = absurd second
kept_on (Some octets) (Some mid) (Some new) first second = second ∙ first

-- what is appended to what was kept is appended to what stood before
pub appended_on : (old mid new : Option (List ℕ)) (octets : List ℕ) → Keeps old mid → Appends mid new octets → Appends old new octets
appended_on None mid new octets first second = tt
appended_on (Some before) None new octets first second = absurd first
appended_on (Some before) (Some mid) None octets first second = absurd second
appended_on (Some before) (Some mid) (Some new) octets first second = subst (λ l. new ≡ l ++ octets) first second

pub written_on : {E : Type 0} (old mid new : Option (List ℕ)) (r : Result ℕ E) (octets : List ℕ) → Keeps old mid → WriteAppends mid new r octets
    → WriteAppends old new r octets
written_on old mid new (Ok n) octets first second = appended_on old mid new _ first second
written_on old mid new (Err error) octets first second = kept_on old mid new first second
