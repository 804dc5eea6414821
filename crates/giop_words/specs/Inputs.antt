-- How many of the files that are named are the standard input, which is read once.
use Rattle.std.specs.Prelude.{ℕ, List, codes, bytes_eq, count_by, Bool, if◌then◌else◌}
use Rattle.giop_words.specs.declared.convert.ConvertKind.{ConvertKind}
use Rattle.giop_words.specs.declared.convert.ConvertKind.TheVariants.{Ior, Corbaloc, Value}
use Rattle.giop_words.specs.declared.words.file.FileWord.{FileWord}

-- "-" is the standard input
abbrev pub is_input : List ℕ → Bool
is_input name = bytes_eq name (codes "-")

-- 1 where a file is the standard input, else 0
abbrev pub input : List ℕ → ℕ
input name = if is_input name then 1 else 0

-- 1 where the target's text is in the standard input, else 0
abbrev pub target_input : List ℕ → ℕ
target_input target = if bytes_eq target (codes "@-") then 1 else 0

-- how many files of an option are
abbrev pub inputs_among : List FileWord → ℕ
inputs_among words = count_by (λ word. is_input word.file.now) words

-- how many of the files of a kind of `convert` are the standard input
abbrev pub kind_inputs : ConvertKind → ℕ
kind_inputs (Ior form) = 0
kind_inputs (Corbaloc form) = 0
kind_inputs (Value way desc order) = input desc.now
