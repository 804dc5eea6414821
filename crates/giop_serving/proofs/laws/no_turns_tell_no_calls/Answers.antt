use Rattle.std.proofs.Common.{◌≡◌, ℕ, List, ◌∙◌, ap, subst}
use Rattle.giop_commands.specs.Session.Steps.{Each}
use Rattle.giop_serving.specs.Serve.Streaming.{Shown, TurnTells}
use Rattle.giop_serving.proofs.laws.no_turns_tell_no_calls.Goals as goal

pub returns : goal.returns
returns c = λ served limits lines s refused t streams none.
    let same : streams.mid ≡ s = subst (λ turns. Each (λ turn s t. TurnTells served limits lines s t) turns s streams.mid) none streams.each in
    streams.text ∙ ap (λ (shown : Shown). shown.text) same
