-- What is wrong with the text of a reference (CORBA 3.3 Part 2, 7.6.9), and how it is reported.
use Rattle.std.specs.Prelude.{◌≡◌, ◌⊎◌, ℕ, List, codes, Result, Ok, Err}
use Rattle.giop_ior_text.specs.declared.ior_text_fault.IorTextFault.{IorTextFault}
use Rattle.giop_ior_text.specs.declared.ior_text_fault.IorTextFault.TheVariants.{BadPrefix, BadHex, Cdr, NoMemory}

-- the number of a fault
abbrev pub ior_text_fault_number : IorTextFault → ℕ
ior_text_fault_number BadPrefix = 1
ior_text_fault_number BadHex = 2
ior_text_fault_number (Cdr fault) = 3
ior_text_fault_number NoMemory = 4

-- the name of a fault
abbrev pub ior_text_fault_name : IorTextFault → List ℕ
ior_text_fault_name BadPrefix = codes "BadPrefix"
ior_text_fault_name BadHex = codes "BadHex"
ior_text_fault_name (Cdr fault) = codes "Cdr"
ior_text_fault_name NoMemory = codes "NoMemory"

-- what a reading of text gives: a value, or the first fault
abbrev pub TextReading : Type 0 → Type 0
TextReading A = Result A IorTextFault

-- the second step, where the first gave a value
infixl 10 ◌>>=◌
abbrev pub ◌>>=◌ : {A B : Type 0} → TextReading A → (A → TextReading B) → TextReading B
Ok x >>= f = f x
Err e >>= f = Err e

-- a call returns what reading gives, or is out of memory; view is what contracts see of a value
abbrev pub AnswersOrWants : {X A : Type 0} → (X → A) → TextReading X → TextReading A → Type 0
AnswersOrWants view (Ok x) reading = reading ≡ Ok (view x)
AnswersOrWants view (Err e) reading = (reading ≡ Err e) ⊎ (e ≡ NoMemory)

-- a call returns this value, or is out of memory
abbrev pub IsAnswered : {A : Type 0} → TextReading A → A → Type 0
IsAnswered (Ok x) value = x ≡ value
IsAnswered (Err e) value = e ≡ NoMemory
