use Rattle.std.proofs.Common.{◌≡◌, ◌&&◌, option_map}
use Rattle.serde_json.specs.View.{view}
use Rattle.giop_serving.specs.Serve.AnswerFiles.{are_fit}
use Rattle.giop_serving.proofs.serve.answers.fitting.are_fit.Given as goal

-- whether what was read so far fits, and what is still to be read
abbrev pub invariant-loop-name : goal.invariant-loop-name
invariant-loop-name l =
    option_map (λ more. l.fit && more) (are_fit l.interface l.sending (view l.json) l.name-iterator) ≡ are_fit l.interface l.sending (view l.json)
    l.interface.general.operations.entries
