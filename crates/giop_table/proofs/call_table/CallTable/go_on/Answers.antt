use Rattle.std.proofs.Common.{◌≡◌, Bool, true, false, Option, Some, None, length, sym, ap, subst, ◌∙◌, refl}
use Rattle.std.specs.FinMap as finite
use Rattle.giop_frag.specs.declared.fault.GatherFault.{GatherFault}
use Rattle.giop_frag.specs.declared.fault.GatherFault.TheVariants.{NoMemory}
use Rattle.giop_ids.specs.ById.{put}
use Rattle.giop_ids.specs.Runs.{RefusedAs}
use Rattle.giop_frag.specs.Gathered.{first_fault, grown, is_over, order_fault, room_fault}
use Rattle.giop_table.specs.CallTable.{Held, gathers}
use Rattle.giop_table.proofs.TableLemmas.{does_stay, put_itself, tied_after, still_some, goes_on, enough_blocks, refused_piece}
use Rattle.giop_table.proofs.call_table.CallTable.go_on.Goals as goal

-- there was room, where the gatherer found no fault
not_over : (order : Option GatherFault) (over : Bool) → first_fault order (room_fault over) ≡ None → over ≡ false
not_over (Some fault) over found = absurd cc
not_over None true found = absurd cc
not_over None false found = refl

pub invariant_of-self : goal.invariant_of-self
invariant_of-self g c =
    let m = c.self.inside.mux in
    let lists = c.self.inside.gather.lists in
    let n = length c.args.octets.now in
    let in_order = ap (λ h. order_fault (finite.get h.gathered c.args.id) c.args.order) c.self.view_is ∙ c.requires.in_order in
    let comes = goes_on g.R.Side.gathering m c.self.inside.gather c.args.id c.args.octets.now c.self.invariant
    (ap (λ h. gathers g.R.Side.gathering (finite.get h.table c.args.id)) c.self.view_is ∙ c.requires.comes) in
    refused_piece g.R.Side.gathering m c.self.inside.gather _ c.args.id (grown (finite.get lists c.args.id) c.args.octets.now) n c.in-Err.fault comes
    (subst (λ order. RefusedAs NoMemory c.in-Err.fault (first_fault order (room_fault (is_over c.self.inside.gather.limit lists n)))) in_order
    c.in-Err.ensures.err)
    c.in-Err.ensures.blocks c.in-Err.ensures.kept

pub invariant_of-self-2 : goal.invariant_of-self-2
invariant_of-self-2 g c =
    let m = c.self.inside.mux in
    let lists = c.self.inside.gather.lists in
    let pieces = finite.get lists c.args.id in
    let n = length c.args.octets.now in
    let comes = goes_on g.R.Side.gathering m c.self.inside.gather c.args.id c.args.octets.now c.self.invariant
    (ap (λ h. gathers g.R.Side.gathering (finite.get h.table c.args.id)) c.self.view_is ∙ c.requires.comes) in
    record {
      tied = tied_after g.R.Side.gathering m.entries _ lists _ c.args.id (finite.get m.entries c.args.id) (grown pieces c.args.octets.now)
          c.self.invariant.tied (put_itself m.entries c.args.id) (ap (λ g. g.lists) c.in_default.ensures.ok)
          (still_some pieces c.args.octets.now ∙ c.self.invariant.tied c.args.id);
      within = c.self.invariant.within;
      blocks = enough_blocks g.R.Side.gathering m c.self.inside.gather c.args.id (grown pieces c.args.octets.now) n _ _ _ comes
          (not_over (order_fault pieces c.args.order) (is_over c.self.inside.gather.limit lists n) c.in_default.ensures.only)
          (ap (λ g. g.limit) c.in_default.ensures.ok) refl (ap (λ g. g.blocks) c.in_default.ensures.ok);
    }

pub returns : goal.returns
returns g c planned answer stays =
    let m = c.self.inside.mux in
    let lists = c.self.inside.gather.lists in
    let id = c.args.id in
    let octets = c.args.octets.now in
    let room = ap (λ g. g.limit) c.in_default.ensures.ok in
    let gathered = ap (λ g. g.lists) c.in_default.ensures.ok in
    does_stay (g.R.CallRule.next c.args.self.now.rule) (g.R.CallRule.closed c.args.self.now.rule) g.R.Side.gathering c.args.self.now _ id planned octets
    answer stays c.requires.comes
    (ap (λ h. is_over h.room h.gathered (length octets)) (sym c.self.view_is)
    ∙ not_over (order_fault (finite.get lists id) c.args.order) (is_over c.self.inside.gather.limit lists (length octets)) c.in_default.ensures.only)
    ((λ i. record { rule = m.rule.rule; calls = m.limit; room = room i; table = m.entries; gathered = gathered i })
    ∙ ap (λ (h : Held g.row.R.Denot g.row.R-Entry.Denot). record h { gathered = put h.gathered id (grown (finite.get h.gathered id) octets) })
    c.self.view_is)
