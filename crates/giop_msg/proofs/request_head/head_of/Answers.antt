use Rattle.std.proofs.Common.{◌≡◌, ◌⊎◌, inl, inr, Ok, Err, refl, ap, ◌∙◌, sym}
use Rattle.std.proofs.lemmas.Result.{err_from_is_err_and}
use Rattle.giop_msg.specs.RequestHead.{request_head_at, joined}
use Rattle.giop_msg.proofs.RequestHeadLemmas.{head_found, head_refused, head_is_there}
use Rattle.giop_msg.proofs.request_head.head_of.Goals as goal

pub returns-in-Ok-clause-value : goal.returns-in-Ok-clause-value
returns-in-Ok-clause-value g c =
    let octets = g.S.Octets.octets c.args.octets.now in
    rw c.place.ensures.value (head_found c.args.order octets c.in-Ok.head c.read_head.new.input
    (ap request_head_at (sym c.new-input.ensures) ∙ c.in-Ok.ensures))

pub returns-in_err-skip_head-in-NoMemory-clause-err : goal.returns-in_err-skip_head-in-NoMemory-clause-err
returns-in_err-skip_head-in-NoMemory-clause-err g c =
    let octets = g.S.Octets.octets c.args.octets.now in
    let p = err_from_is_err_and c.from_residual.result c.from_residual.ensures.1 in
    rw (p.1, p.2) (inl (head_refused c.args.order octets c.in_err-skip_head-in-NoMemory.field-0.0
    (ap request_head_at (sym c.new.ensures) ∙ c.in_err-skip_head-in-NoMemory.ensures)))

pub returns-in_ok-skip_head-in-NoMemory-clause-err : goal.returns-in_ok-skip_head-in-NoMemory-clause-err
returns-in_ok-skip_head-in-NoMemory-clause-err g c =
    let octets = g.S.Octets.octets c.args.octets.now in
    inr (
      rw c.in-NoMemory.is refl,
      head_is_there c.args.order octets c.skip_head.new.input
          (rw (← c.new.ensures) c.in_ok-skip_head-in-NoMemory.ensures),
    )

pub returns-in_default : goal.returns-in_default
returns-in_default g c =
    let octets = g.S.Octets.octets c.args.octets.now in
    record {
      value = tt;
      err = elim c.in-Err.ensures [
        | inl refused ↦ inl (head_refused c.args.order octets c.in-Err.fault (ap request_head_at (sym c.new-input.ensures) ∙ refused))
        | inr memory ↦ absurd (c.in_default.not-NoMemory memory)
      ];
    }
