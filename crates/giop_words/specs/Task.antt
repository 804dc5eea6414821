-- What a task's words are good for, beside what the fields of each say.
use Rattle.std.specs.Prelude.{ℕ, ◌+◌, ◌≤◌}
use Rattle.std.specs.Option.{option_map_or}
use Rattle.giop_words.specs.declared.task.Task.{Task}
use Rattle.giop_words.specs.declared.task.Task.TheVariants.{Dump, Check, Trace, Convert, Call, Locate, Ping, Serve}
use Rattle.giop_words.specs.Inputs.{input, inputs_among, kind_inputs, target_input}

-- how many of a task's files are the standard input
abbrev pub inputs : Task → ℕ
inputs (Dump words) =
    option_map_or (λ name. input name.now) words.interface 0 + input words.file.now
inputs (Check words) = inputs_among words.interfaces.items + input words.file.now
inputs (Trace words) =
    inputs_among words.interfaces.items
    + (input words.client.now + option_map_or (λ name. input name.now) words.server 0)
inputs (Convert file kind) = kind_inputs kind + input file.now
inputs (Call words) =
    inputs_among words.interfaces.items + (input words.file.now + target_input words.target.now)
inputs (Locate words) = target_input words.target.now
inputs (Ping words) = target_input words.target.now
inputs (Serve words) = inputs_among words.interfaces.items + inputs_among words.answers.items

-- no two of its files are the standard input
abbrev pub ReadsOnce : Task → Type 0
ReadsOnce task = inputs task ≤ 1
