use Rattle.std.proofs.Common.{◌≡◌, Bool, true, false, Option, Some, None, is_some, length, sym, ap, ◌∙◌, refl, List, ℕ}
use Rattle.std.specs.FinMap as finite
use Rattle.giop_frag.specs.declared.fault.GatherFault.{GatherFault}
use Rattle.giop_ids.specs.ById.{put}
use Rattle.giop_frag.specs.Gathered.{Pieces, first_fault, grown, is_over, order_fault, room_fault}
use Rattle.giop_session.specs.CallTable.{Held}
use Rattle.giop_session.proofs.TableLemmas.{does_stay, put_itself, tied_after}
use Rattle.giop_session.proofs.call_table.CallTable.go_on.Goals as goal

-- octets that are added leave an id with pieces, or without
still_some : (pieces : Option Pieces) (octets : List ℕ) → is_some (grown pieces octets) ≡ is_some pieces
still_some None octets = refl
still_some (Some pieces) octets = refl

pub invariant_of-self-2 : goal.invariant_of-self-2
invariant_of-self-2 g c =
    let m = c.self.inside.mux in
    let pieces = finite.get c.self.inside.gather.lists c.args.id in
    tied_after g.R.Side.gathering m.entries _ c.self.inside.gather.lists _ c.args.id (finite.get m.entries c.args.id) (grown pieces c.args.octets.now)
    c.self.invariant (put_itself m.entries c.args.id) (ap (λ g. g.lists) c.in_default.ensures.ok)
    (still_some pieces c.args.octets.now ∙ c.self.invariant c.args.id)

-- there was room, where the gatherer found no fault
not_over : (order : Option GatherFault) (over : Bool) → first_fault order (room_fault over) ≡ None → over ≡ false
not_over (Some fault) over found = absurd cc
not_over None true found = absurd cc
not_over None false found = refl

pub returns : goal.returns
returns g c planned sends stays =
    let m = c.self.inside.mux in
    let lists = c.self.inside.gather.lists in
    let id = c.args.id in
    let octets = c.args.octets.now in
    let room = ap (λ g. g.limit) c.in_default.ensures.ok in
    let gathered = ap (λ g. g.lists) c.in_default.ensures.ok in
    does_stay (g.R.CallRule.next c.args.self.now.rule) (g.R.CallRule.closed c.args.self.now.rule) g.R.Side.gathering c.args.self.now _ id planned octets
    sends stays c.requires.comes
    (ap (λ h. is_over h.room h.gathered (length octets)) (sym c.self.view_is)
    ∙ not_over (order_fault (finite.get lists id) c.args.order) (is_over c.self.inside.gather.limit lists (length octets)) c.in_default.ensures.only)
    ((λ i. record { rule = m.rule.rule; calls = m.limit; room = room i; table = m.entries; gathered = gathered i })
    ∙ ap (λ (h : Held g.row.R.Denot g.row.R-Entry.Denot). record h { gathered = put h.gathered id (grown (finite.get h.gathered id) octets) })
    c.self.view_is)
