-- Texts that are no JSON.
use Rattle.std.specs.Prelude.{◌≡◌, ◌⊎◌, ℕ, List, None, IsUtf8}
use Rattle.serde_json.specs.Read.{read}
use Rattle.giop_types.specs.declared.form_fault.FormFault.{FormFault}
use Rattle.giop_types.specs.declared.form_fault.FormFault.TheVariants.{BadJson, NoMemory}

-- a text is no JSON, or memory is wanting
abbrev pub IsNotJson : FormFault → List ℕ → Type 0
IsNotJson e text = ((e ≡ BadJson) × (IsUtf8 text → read text ≡ None)) ⊎ (e ≡ NoMemory)
