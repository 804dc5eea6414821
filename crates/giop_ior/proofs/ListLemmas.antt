-- A list of addresses, read one after the other.
use Rattle.std.proofs.Common.{◌≡◌, ℕ, ◌+◌, List, [], ◌∷◌, ◌++◌, length, Some, None, Ok, Err, refl, ◌∙◌, ◌⊎◌, inl, inr, append_assoc}
use Rattle.giop_ior.specs.declared.addresses.address.Address.{Address}
use Rattle.giop_ior.specs.declared.addresses.corbaloc_fault.CorbalocFault.{CorbalocFault}
use Rattle.giop_ior.specs.CorbalocFault.{Read, ◌>>=◌, no_memory}
use Rattle.giop_ior.specs.CorbalocReading.{cut, address_at, addresses_at}
use Rattle.giop_ior.proofs.CutLemmas.{split_some, split_none}

-- addresses that were read, and those behind them
abbrev pub behind : List Address → Read (List Address) → Read (List Address)
behind front (Ok back) = Ok (front ++ back)
behind front (Err e) = Err e

behind_one : (front : List Address) (a : Address) (r : Read (List Address))
    → behind front (r >>= λ more. Ok (a ∷ more)) ≡ behind (front ++ a ∷ []) r
behind_one front a (Ok more) = rw append_assoc refl
behind_one front a (Err e) = refl

-- one address more
pub reads_on : (at next : ℕ) (text first more : List ℕ) (front : List Address) (a : Address) (whole : Read (List Address))
    → whole ≡ behind front (addresses_at at text) → cut 44 text ≡ Some (first, more) → address_at at first ≡ Ok a
    → next ≡ at + length first + 1 → whole ≡ behind (front ++ a ∷ []) (addresses_at next more)
reads_on at next text first more front a whole is parted one place =
    is ∙ rw (split_some 44 text first more parted, one, place) (behind_one front a (addresses_at (at + length first + 1) more))

-- an address that is none
pub stops : (at : ℕ) (text first more : List ℕ) (front : List Address) (e : CorbalocFault) (whole : Read (List Address))
    → whole ≡ behind front (addresses_at at text) → cut 44 text ≡ Some (first, more) → address_at at first ≡ Err e
    → whole ≡ Err e
stops at text first more front e whole is parted one = is ∙ rw (split_some 44 text first more parted, one) refl

-- the last address
pub ends : (at : ℕ) (text : List ℕ) (front : List Address) (a : Address) (whole : Read (List Address))
    → whole ≡ behind front (addresses_at at text) → cut 44 text ≡ None → address_at at text ≡ Ok a
    → whole ≡ Ok (front ++ a ∷ [])
ends at text front a whole is parted one = is ∙ rw (split_none 44 text parted, one) refl

pub stops_at_end : (at : ℕ) (text : List ℕ) (front : List Address) (e : CorbalocFault) (whole : Read (List Address))
    → whole ≡ behind front (addresses_at at text) → cut 44 text ≡ None → address_at at text ≡ Err e
    → whole ≡ Err e
stops_at_end at text front e whole is parted one = is ∙ rw (split_none 44 text parted, one) refl

-- the same, where memory may be wanting
pub stops_or_wants : (at : ℕ) (text first more : List ℕ) (front : List Address) (e : CorbalocFault) (whole : Read (List Address))
    → whole ≡ behind front (addresses_at at text) → cut 44 text ≡ Some (first, more)
    → (address_at at first ≡ Err e) ⊎ (e ≡ no_memory) → (whole ≡ Err e) ⊎ (e ≡ no_memory)
stops_or_wants at text first more front e whole is parted (inl one) = inl (stops at text first more front e whole is parted one)
stops_or_wants at text first more front e whole is parted (inr wanting) = inr wanting

pub stops_at_end_or_wants : (at : ℕ) (text : List ℕ) (front : List Address) (e : CorbalocFault) (whole : Read (List Address))
    → whole ≡ behind front (addresses_at at text) → cut 44 text ≡ None
    → (address_at at text ≡ Err e) ⊎ (e ≡ no_memory) → (whole ≡ Err e) ⊎ (e ≡ no_memory)
stops_at_end_or_wants at text front e whole is parted (inl one) = inl (stops_at_end at text front e whole is parted one)
stops_at_end_or_wants at text front e whole is parted (inr wanting) = inr wanting
