use Rattle.std.proofs.Common.{◌≡◌, None, Some, sym, ap, ◌∙◌, ◌+◌, length, refl}
use Rattle.std.specs.FinMap as finite
use Rattle.giop_ids.specs.ById.{put}
use Rattle.giop_ids.proofs.Puts.{put-put}
use Rattle.giop_frag.specs.Gathered.{octets_in}
use Rattle.example_end.specs.declared.meter.Entry.TheVariants.{Whole}
use Rattle.example_end.specs.End.{Held, Call, put_call}
use Rattle.example_end.proofs.EndLemmas.{held, tied_after, counted, ignores_last, does_last}
use Rattle.example_end.proofs.end.End.last.Goals as goal

pub returns-in-Some-Cancelled : goal.returns-in-Some-Cancelled
returns-in-Some-Cancelled c =
    ignores_last c.args.self.now c.args.id c.args.order c.args.octets.now
    (sym c.entry.ensures ∙ c.in-Some-Cancelled.is ∙ ap Some c.in-Some-Cancelled.field-0-is)

-- what was gathered with the last piece is gone again
gone : (c : goal.After-discard) → c.discard.new.self.lists ≡ put c.self.inside.gather.lists c.args.id None
gone c =
    ap (λ g. g.lists) c.discard.ensures.ok
    ∙ ap (λ g. put g.lists c.args.id None) c.in_ok-add.ensures.ok
    ∙ put-put c.self.inside.gather.lists c.args.id _ None

pub invariant_of-self-2 : goal.invariant_of-self-2
invariant_of-self-2 c =
    tied_after (held c.self.inside.mux c.self.inside.gather) _ _ c.args.id (Some (Whole c.count_of-count.result)) None c.self.invariant
    (ap (λ m. m.entries) c.settle.ensures) (gone c) refl

pub returns : goal.returns
returns c =
    let seen = c.self.view_is in
    let grows = counted c.self.inside.gather c.add.new.self c.args.id c.count_of-count.result c.args.order c.args.octets.now
    c.in_ok-add.ensures.only (ap (λ g. g.lists) c.in_ok-add.ensures.ok) c.count_of-count.ensures in
    let call : Call = record { entry = Some (Whole c.count_of-count.result); pieces = None } in
    let limit = ap (λ m. m.limit) c.settle.ensures in
    let room = ap (λ g. g.limit) c.discard.ensures.ok ∙ ap (λ g. g.limit) c.in_ok-add.ensures.ok in
    let entries = ap (λ m. m.entries) c.settle.ensures in
    let lists = gone c in
    does_last c.args.self.now _ c.self.inside.gather c.args.id c.count_of-count.result c.args.order c.args.octets.now
    (ap (λ h. h.room) seen) (ap (λ h. h.gathered) seen)
    (sym c.entry.ensures ∙ c.in-Some-Arriving.is ∙ ap Some c.in-Some-Arriving.field-0-is) c.in_ok-add.ensures.only
    (grows ∙ ap (λ h. octets_in (finite.get h.gathered c.args.id) + length c.args.octets.now) seen)
    ((λ i. record { calls = limit i; room = room i; table = entries i; gathered = lists i }) ∙ ap (λ (h : Held). put_call h c.args.id call) seen)
