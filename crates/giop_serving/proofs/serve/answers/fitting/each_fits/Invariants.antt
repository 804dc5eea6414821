use Rattle.std.proofs.Common.{◌≡◌, ◌&&◌, drop, option_map}
use Rattle.serde_json.specs.View.{items_view}
use Rattle.giop_serving.specs.Serve.AnswerFiles.{each_fits}
use Rattle.giop_serving.proofs.serve.answers.fitting.each_fits.Given as goal

-- whether what was read so far fits, and what is still to be read
abbrev pub invariant-loop-json : goal.invariant-loop-json
invariant-loop-json l =
    option_map (λ more. l.all && more)
    (each_fits l.wanted.interface.now l.wanted.sending l.wanted.name.now l.wanted.operation.now.outs.list.items (items_view (drop l.json-index l.list)))
    ≡ each_fits l.wanted.interface.now l.wanted.sending l.wanted.name.now l.wanted.operation.now.outs.list.items (items_view l.list)
