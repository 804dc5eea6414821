use Rattle.giop_serving.specs.Serve.Serving.{Served, served_of}
use Rattle.giop_serving.proofs.OnServe.StreamingLemmas.{is_streamed}
use Rattle.giop_serving.proofs.serve.streaming.stream_with.Goals as goal

pub returns-in-Ok : goal.returns-in-Ok
returns-in-Ok g c =
    let it : Served = served_of c.args.serving in
    is_streamed c.args.number it c.args.serving.lines _ _ _ _ _ _ _ _ c.in-Ok.refused
    c.stream_answers.new.end.outgoing c.stream_answers.new.end.framer c.stream_answers.new.end.calls
    c.stream_answers.new.end.fault c.tell_end.result c.in_ok-tell_begin.ensures
    (rw (
      c.requires.limits,
      c.requires.fault,
      c.requires.calls,
      c.requires.outgoing,
      c.requires.unread,
    )
    at c.in-Ok.ensures)
    (rw (c.told-ended.ensures, c.fault.ensures) at c.tell_end.ensures.text) (rw (c.told-ended.ensures, c.fault.ensures) at c.tell_end.ensures.ok)
    (rw (c.told-ended.ensures, c.fault.ensures) at c.tell_end.ensures.ends)
