-- Service contexts (CORBA 3.3 Part 2, 7.7), as C asks for them: one after the other.
use Rattle.std.specs.Prelude.{◌≡◌, ℕ, List, Option, Some, None, length, slice_get}
use Rattle.giop_ior.specs.declared.references.service_context.ServiceContext.{ServiceContext}
use Rattle.giop_c.specs.Calls.{At}
use Rattle.giop_c.specs.Copying.{CopiesOctets}

-- how many there are; 0 where there is no message
abbrev pub count_in : Option (List ServiceContext) → ℕ
count_in None = 0
count_in (Some contexts) = length contexts

-- the one at an index, the first at 0
abbrev pub context_at : ℕ → Option (List ServiceContext) → Option ServiceContext
context_at i None = None
context_at i (Some contexts) = slice_get contexts i

-- its id is told and its octets are copied; or there is none
abbrev pub CopiesContext : Option ServiceContext → ℕ → ℕ → List ℕ → List ℕ → ℕ → ℕ → ℕ → Type 0
CopiesContext None id id' buffer buffer' size size' status =
    (id' ≡ id) × CopiesOctets None buffer buffer' size size' status
CopiesContext (Some context) id id' buffer buffer' size size' status =
    (id' ≡ context.id) × CopiesOctets (Some context.octets) buffer buffer' size size' status

-- such a call at a handle that holds something with a context; where it holds nothing, what would be
-- written is kept
abbrev pub CopiesContextAt : {T : Type 0} → Option T → Option T → (T → Option ServiceContext)
    → (id id' : ℕ) → (buffer buffer' : List ℕ) → (size size' status : ℕ) → Type 0
CopiesContextAt held held' context id id' buffer buffer' size size' status =
    At held held' status ((id' ≡ id) × (buffer' ≡ buffer) × (size' ≡ size))
    (λ old new. (new ≡ old)
    × CopiesContext (context old) id id' buffer buffer' size size' status)
