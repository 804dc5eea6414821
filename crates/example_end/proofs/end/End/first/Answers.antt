use Rattle.std.proofs.Common.{◌≡◌, None, Some, Ok, sym, ap, ◌∙◌, refl}
use Rattle.std.specs.FinMap as finite
use Rattle.giop_ids.specs.ById.{put}
use Rattle.giop_ids.proofs.Puts.{put-put, put_absent}
use Rattle.example_end.specs.declared.meter.Entry.TheVariants.{Arriving}
use Rattle.example_end.specs.End.{may_begin, is_arriving}
use Rattle.example_end.proofs.EndLemmas.{held, tied_after, put_itself, begins, no_pieces, wants_memory}
use Rattle.example_end.proofs.end.End.first.Goals as goal

pub invariant_of-self-then-open : goal.invariant_of-self-then-open
invariant_of-self-then-open c =
    tied_after (held c.self.inside.mux c.self.inside.gather) _ _ c.args.id (Some Arriving)
    (Some (record { order = c.args.order; octets = c.args.octets.now })) c.self.invariant
    (ap (λ m. m.entries) c.if-open.ensures.ok) (ap (λ g. g.lists) c.in_ok-begin.ensures.ok) refl

-- a message may begin there
may : (c : goal.After-discard) → may_begin c.args.self.now c.args.id ≡ Ok tt
may c = sym c.may_begin.ensures ∙ c.in_ok-may_begin.was

-- what was begun is gone again
gone : (c : goal.After-discard) → c.discard.new.self.lists ≡ c.self.inside.gather.lists
gone c =
    let away = ap (λ h. is_arriving (finite.get h.table c.args.id)) c.self.view_is ∙ (begins c.args.self.now c.args.id (may c)).0 in
    let none = no_pieces (finite.get c.self.inside.gather.lists c.args.id) (c.self.invariant c.args.id ∙ away) in
    ap (λ g. g.lists) c.discard.ensures.ok
    ∙ ap (λ g. put g.lists c.args.id None) c.in_ok-begin.ensures.ok
    ∙ put-put c.self.inside.gather.lists c.args.id (Some (record { order = c.args.order; octets = c.args.octets.now })) None
    ∙ put_absent c.self.inside.gather.lists c.args.id none

pub invariant_of-self-2 : goal.invariant_of-self-2
invariant_of-self-2 c =
    let h = held c.self.inside.mux c.self.inside.gather in
    tied_after h _ _ c.args.id (finite.get h.table c.args.id) (finite.get h.gathered c.args.id) c.self.invariant
    (ap (λ m. m.entries) c.if-open.ensures.kept ∙ put_itself h.table c.args.id) (gone c ∙ put_itself h.gathered c.args.id)
    (c.self.invariant c.args.id)

pub returns : goal.returns
returns c =
    let calls = ap (λ m. m.limit) c.if-open.ensures.kept in
    let room = ap (λ g. g.limit) c.discard.ensures.ok ∙ ap (λ g. g.limit) c.in_ok-begin.ensures.ok in
    let entries = ap (λ m. m.entries) c.if-open.ensures.kept in
    let lists = gone c in
    wants_memory c.args.self.now _ c.self.inside.gather c.args.id c.args.order c.args.octets.now
    (ap (λ h. h.room) c.self.view_is) (ap (λ h. h.gathered) c.self.view_is) (may c) c.in_ok-begin.ensures.only
    ((λ i. record { calls = calls i; room = room i; table = entries i; gathered = lists i }) ∙ c.self.view_is)
