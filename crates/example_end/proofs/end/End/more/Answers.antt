use Rattle.std.proofs.Common.{Some, sym, ap, ◌∙◌}
use Rattle.std.specs.FinMap as finite
use Rattle.giop_ids.specs.ById.{put}
use Rattle.giop_frag.specs.Gathered.{grown}
use Rattle.example_end.specs.End.{Held}
use Rattle.example_end.proofs.EndLemmas.{held, tied_after, put_itself, still_some, ignores_more, does_more}
use Rattle.example_end.proofs.end.End.more.Goals as goal

pub returns-in-Some-Cancelled : goal.returns-in-Some-Cancelled
returns-in-Some-Cancelled c =
    ignores_more c.args.self.now c.args.id c.args.order c.args.octets.now
    (sym c.entry.ensures ∙ c.in-Some-Cancelled.is ∙ ap Some c.in-Some-Cancelled.field-0-is)

pub invariant_of-self-2 : goal.invariant_of-self-2
invariant_of-self-2 c =
    let h = held c.self.inside.mux c.self.inside.gather in
    let pieces = finite.get h.gathered c.args.id in
    tied_after h _ _ c.args.id (finite.get h.table c.args.id) (grown pieces c.args.octets.now) c.self.invariant
    (put_itself h.table c.args.id) (ap (λ g. g.lists) c.in_ok-add.ensures.ok) (still_some pieces c.args.octets.now ∙ c.self.invariant c.args.id)

pub returns : goal.returns
returns c =
    does_more c.args.self.now _ c.self.inside.gather c.args.id c.args.order c.args.octets.now
    (ap (λ h. h.room) c.self.view_is) (ap (λ h. h.gathered) c.self.view_is)
    (sym c.entry.ensures ∙ c.in-Some-Arriving.is ∙ ap Some c.in-Some-Arriving.field-0-is) c.in_ok-add.ensures.only
    (ap (held c.self.inside.mux) c.in_ok-add.ensures.ok
    ∙ ap (λ (h : Held). record h { gathered = put h.gathered c.args.id (grown (finite.get h.gathered c.args.id) c.args.octets.now) }) c.self.view_is)
