use Rattle.std.proofs.Common.{◌≡◌, None, false, sym, ap, ◌∙◌}
use Rattle.std.specs.FinMap as finite
use Rattle.giop_ids.specs.ById.{put}
use Rattle.example_end.specs.End.{Held, is_arriving}
use Rattle.example_end.proofs.EndLemmas.{held, tied_after, put_itself, away, does_take}
use Rattle.example_end.proofs.end.End.take.Goals as goal

-- what was taken out was over
shut : (c : goal.In-Ok) → is_arriving (finite.get c.self.inside.mux.entries c.args.id) ≡ false
shut c = away (finite.get c.self.inside.mux.entries c.args.id) (λ open_yet. let wrong = c.in-Ok.ensures.err.1 open_yet in absurd cc)

pub invariant_of-self-2 : goal.invariant_of-self-2
invariant_of-self-2 c =
    let h = held c.self.inside.mux c.self.inside.gather in
    tied_after h _ _ c.args.id None (finite.get h.gathered c.args.id) c.self.invariant
    (ap (λ m. m.entries) c.in-Ok.ensures.ok) (put_itself h.gathered c.args.id) (c.self.invariant c.args.id ∙ shut c)

pub returns : goal.returns
returns c =
    let seen = c.self.view_is in
    does_take c.args.self.now _ c.args.id c.in-Ok.taken (sym (ap (λ h. is_arriving (finite.get h.table c.args.id)) seen) ∙ shut c)
    (c.in-Ok.ensures.value ∙ ap (λ h. finite.get h.table c.args.id) seen)
    (ap (λ m. held m c.self.inside.gather) c.in-Ok.ensures.ok ∙ ap (λ (h : Held). record h { table = put h.table c.args.id None }) seen)
