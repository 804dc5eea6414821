use Rattle.giop_serving.specs.Serve.Serving.{Served, served_of}
use Rattle.giop_serving.proofs.OnServe.PrintedLemmas.{served}
use Rattle.giop_serving.proofs.serve.serve_with.Goals as goal

pub returns-in-Ok : goal.returns-in-Ok
returns-in-Ok g c =
    let it : Served = served_of c.args.serving in
    served c.args.number it c.args.serving.lines _ _ _ _ _ _ c.in-Ok.refused c.converse.new.end.outgoing c.converse.new.end.framer c.converse.new.end.calls
    c.converse.new.end.fault c.tell.result
    (rw (
      c.requires.limits,
      c.requires.fault,
      c.requires.calls,
      c.requires.outgoing,
      c.requires.unread,
    )
    at c.in-Ok.ensures.converses)
    (rw (c.told-ended.ensures, c.fault.ensures, c.converse.ensures.out) at c.tell.ensures.text) (rw (c.told-ended.ensures, c.fault.ensures) at c.tell.ensures.ok)
    (rw (c.told-ended.ensures, c.fault.ensures) at c.tell.ensures.ends)
