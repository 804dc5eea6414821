-- What is copied into the caller's buffers.
use Rattle.std.specs.Prelude.{◌≡◌, ◌⊎◌, ℕ, ◌≤◌, ◌<◌, ◌++◌, Bool, true, false, List, Option, Some, None, drop, length, take}
use Rattle.giop_c.specs.Calls.{At, fault, no_memory, ok, small, waits}

-- the first items of a list are copied to the front of a buffer, as many as it has room for, and the
-- number of all is told
abbrev pub CopiesFront : {A : Type 0} → List A → List A → List A → ℕ → Type 0
CopiesFront items buffer buffer' size' =
    (size' ≡ length items)
    × (buffer' ≡ take (length buffer) items ++ drop (length items) buffer)

-- octets are copied to the front of a buffer that has room for them, and their number told; there
-- may be none to copy
abbrev pub CopiesOctets : Option (List ℕ) → List ℕ → List ℕ → ℕ → ℕ → ℕ → Type 0
CopiesOctets None buffer buffer' size size' status =
    (status ≡ waits) × (buffer' ≡ buffer) × (size' ≡ size)
CopiesOctets (Some octets) buffer buffer' size size' status =
    (size' ≡ length octets)
    × (((status ≡ ok) × (length octets ≤ length buffer)
    × (buffer' ≡ octets ++ drop (length octets) buffer))
    ⊎ ((status ≡ small) × (length buffer < length octets) × (buffer' ≡ buffer)))

-- octets of which this is true are copied, where a value has any, or memory ran out; else they are
-- refused
abbrev pub CopiesWhere : Bool → Type 0 → List ℕ → List ℕ → List ℕ → ℕ → ℕ → ℕ → Type 0
CopiesWhere fits Is octets buffer buffer' size size' status =
    ((fits ≡ true) × Is × CopiesOctets (Some octets) buffer buffer' size size' status)
    ⊎ ((fits ≡ true) × (status ≡ no_memory) × ((buffer' ≡ buffer) × (size' ≡ size)))
    ⊎ ((fits ≡ false) × (status ≡ fault) × ((buffer' ≡ buffer) × (size' ≡ size)))

-- a call that reads what a handle holds, leaves it as it is, and copies something of it to the front
-- of a buffer and its size beside
abbrev pub CopiesAt : {T : Type 0} → Option T → Option T
    → (T → (buffer buffer' : List ℕ) → (size size' status : ℕ) → Type 0)
    → (buffer buffer' : List ℕ) → (size size' status : ℕ) → Type 0
CopiesAt held held' Copies buffer buffer' size size' status =
    At held held' status ((buffer' ≡ buffer) × (size' ≡ size))
    (λ old new. (new ≡ old) × Copies old buffer buffer' size size' status)

-- a call that tells ids so, as many as a buffer has room for, and how many there are; or memory ran
-- out, and nothing is told
abbrev pub TellsIds : List ℕ → (buffer buffer' : List ℕ) → (count count' status : ℕ) → Type 0
TellsIds ids buffer buffer' count count' status =
    ((status ≡ ok) × CopiesFront ids buffer buffer' count')
    ⊎ ((status ≡ no_memory) × (buffer' ≡ buffer) × (count' ≡ count))
