-- What is wrong with a corbaloc text, and how it is reported.
use Rattle.std.specs.Prelude.{◌≡◌, ◌⊎◌, ℕ, List, ◌++◌, codes, Result, Ok, Err, IsOk}
use Rattle.std.specs.Fmt.{decimal}
use Rattle.giop_ior.specs.declared.addresses.corbaloc_fault.CorbalocFault.{CorbalocFault}
use Rattle.giop_ior.specs.declared.addresses.corbaloc_fault.CorbalocKind.{CorbalocKind}
use Rattle.giop_ior.specs.declared.addresses.corbaloc_fault.CorbalocKind.TheVariants.{BadPrefix, BadProtocol, BadHost, BadPort, BadVersion, BadEscape, BadChar, NoMemory}

-- the number of a kind of fault
abbrev pub corbaloc_kind_number : CorbalocKind → ℕ
corbaloc_kind_number BadPrefix = 1
corbaloc_kind_number BadProtocol = 2
corbaloc_kind_number BadHost = 3
corbaloc_kind_number BadPort = 4
corbaloc_kind_number BadVersion = 5
corbaloc_kind_number BadEscape = 6
corbaloc_kind_number BadChar = 7
corbaloc_kind_number NoMemory = 8

-- the name of a kind of fault
abbrev pub corbaloc_kind_name : CorbalocKind → List ℕ
corbaloc_kind_name BadPrefix = codes "BadPrefix"
corbaloc_kind_name BadProtocol = codes "BadProtocol"
corbaloc_kind_name BadHost = codes "BadHost"
corbaloc_kind_name BadPort = codes "BadPort"
corbaloc_kind_name BadVersion = codes "BadVersion"
corbaloc_kind_name BadEscape = codes "BadEscape"
corbaloc_kind_name BadChar = codes "BadChar"
corbaloc_kind_name NoMemory = codes "NoMemory"

-- what is shown of a fault: NAME at PLACE
abbrev pub corbaloc_fault_text : CorbalocFault → List ℕ
corbaloc_fault_text e = corbaloc_kind_name e.kind ++ (codes " at " ++ decimal e.at)

-- a fault of this kind at this offset
abbrev pub fault : ℕ → CorbalocKind → CorbalocFault
fault at kind = record { at = at; kind = kind }

-- out of memory: it says nothing of the text
abbrev pub no_memory : CorbalocFault
no_memory = fault 0 NoMemory

-- what a reading of text gives: a value, or the first fault
abbrev pub Read : Type 0 → Type 0
Read A = Result A CorbalocFault

-- the second step, where the first gave a value
infixl 10 ◌>>=◌
abbrev pub ◌>>=◌ : {A B : Type 0} → Read A → (A → Read B) → Read B
Ok x >>= f = f x
Err e >>= f = Err e

-- a call without memory answers what reading gives; view is what contracts see of the value
abbrev pub Answers : {X A : Type 0} → (X → A) → Read X → Read A → Type 0
Answers view (Ok x) reading = reading ≡ Ok (view x)
Answers view (Err e) reading = reading ≡ Err e

-- a call that takes memory answers what reading gives; out of memory, nothing else is known
abbrev pub AnswersOrWants : {X A : Type 0} → (X → A) → Read X → Read A → Type 0
AnswersOrWants view (Ok x) reading = reading ≡ Ok (view x)
AnswersOrWants view (Err e) reading = (reading ≡ Err e) ⊎ (e ≡ no_memory)

-- a call answers whether reading gives a value, or its fault
abbrev pub Tells : {X A : Type 0} → Read X → Read A → Type 0
Tells (Ok _) reading = IsOk reading
Tells (Err e) reading = reading ≡ Err e

-- a call answers this value, unless out of memory
abbrev pub IsAnswered : {A : Type 0} → Read A → A → Type 0
IsAnswered (Ok x) value = x ≡ value
IsAnswered (Err e) value = e ≡ no_memory
