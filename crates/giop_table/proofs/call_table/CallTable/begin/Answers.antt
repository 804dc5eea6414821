use Rattle.std.proofs.Common.{◌≡◌, true, Some, sym, ap, subst, ◌∙◌, refl, inr, length}
use Rattle.std.specs.FinMap as finite
use Rattle.giop_frag.specs.Gathered.{is_over}
use Rattle.giop_table.specs.Sending.{sending_step}
use Rattle.giop_table.specs.declared.table_fault.TableFault.TheVariants.{NoMemory}
use Rattle.giop_table.specs.CallTable.{Held, gathers, First}
use Rattle.giop_table.proofs.TableLemmas.{tied_after, put_itself, begins, enough_blocks, refused_piece, no_pieces, dropped, none_wanting, many_is, does_over, not_over}
use Rattle.giop_table.proofs.call_table.CallTable.begin.Goals as goal

pub invariant_of-self : goal.invariant_of-self
invariant_of-self g c =
    let m = c.self.inside.mux in
    let comes = begins g.R.Side.gathering m.rule.rule m c.self.inside.gather c.args.self.now c.args.id
    (λ h. (sending_step (g.R.CallRule.next h.rule) (finite.get h.table c.args.id) c.args.planned).entry) c.args.order c.args.octets.now
    c.is_one_too_many.result c.self.view_is c.self.invariant c.requires.away c.requires.gathers c.is_one_too_many.ensures c.if-is_one_too_many.false in
    refused_piece g.R.Side.gathering m c.self.inside.gather _ c.args.id (Some (record { order = c.args.order; octets = c.args.octets.now }))
    (length c.args.octets.now) c.in-Err.fault comes c.in-Err.ensures.err c.in-Err.ensures.blocks c.in-Err.ensures.kept

pub invariant_of-self-in-Some : goal.invariant_of-self-in-Some
invariant_of-self-in-Some g c =
    let m = c.self.inside.mux in
    let step = sending_step (g.R.CallRule.next m.rule.rule) (finite.get m.entries c.args.id) c.args.planned in
    let comes = begins g.R.Side.gathering m.rule.rule m c.self.inside.gather c.args.self.now c.args.id
    (λ h. (sending_step (g.R.CallRule.next h.rule) (finite.get h.table c.args.id) c.args.planned).entry) c.args.order c.args.octets.now
    c.is_one_too_many.result c.self.view_is c.self.invariant c.requires.away c.requires.gathers c.is_one_too_many.ensures c.if-is_one_too_many.false in
    record {
      tied = tied_after g.R.Side.gathering m.entries _ c.self.inside.gather.lists _ c.args.id step.entry
          (Some (record { order = c.args.order; octets = c.args.octets.now })) c.self.invariant.tied
          (ap (λ m. m.entries) c.in-Some.ensures.after) (ap (λ g. g.lists) c.in_default.ensures.ok)
          (sym (subst (λ (h : Held g.row.R.Denot g.row.R-Entry.Denot).
          gathers g.R.Side.gathering (sending_step (g.R.CallRule.next h.rule) (finite.get h.table c.args.id) c.args.planned).entry ≡ true)
          (sym c.self.view_is) c.requires.gathers));
      within = c.in-Some.ensures.within;
      blocks = enough_blocks g.R.Side.gathering m c.self.inside.gather c.args.id (Some (record { order = c.args.order; octets = c.args.octets.now }))
          (length c.args.octets.now) _ _ _ comes
          (not_over (is_over c.self.inside.gather.limit c.self.inside.gather.lists (length c.args.octets.now)) c.in_default.ensures.only)
          (ap (λ g. g.limit) c.in_default.ensures.ok) (ap (λ m. m.limit) c.in-Some.ensures.after) (ap (λ g. g.blocks) c.in_default.ensures.ok);
    }

pub invariant_of-self-2 : goal.invariant_of-self-2
invariant_of-self-2 g c =
    let m = c.self.inside.mux in
    let lists = c.self.inside.gather.lists in
    let away = ap (λ h. gathers g.R.Side.gathering (finite.get h.table c.args.id)) c.self.view_is ∙ c.requires.away in
    let none = no_pieces (finite.get lists c.args.id) (gathers g.R.Side.gathering (finite.get m.entries c.args.id)) (c.self.invariant.tied c.args.id) away in
    let gone = dropped lists _ _ c.args.id (Some (record { order = c.args.order; octets = c.args.octets.now })) none
    (ap (λ g. g.lists) c.in_default.ensures.ok) (ap (λ g. g.lists) c.discard.ensures.ok) in
    let comes = begins g.R.Side.gathering m.rule.rule m c.self.inside.gather c.args.self.now c.args.id
    (λ h. (sending_step (g.R.CallRule.next h.rule) (finite.get h.table c.args.id) c.args.planned).entry) c.args.order c.args.octets.now
    c.is_one_too_many.result c.self.view_is c.self.invariant c.requires.away c.requires.gathers c.is_one_too_many.ensures c.if-is_one_too_many.false in
    record {
      tied = tied_after g.R.Side.gathering m.entries _ lists _ c.args.id (finite.get m.entries c.args.id) (finite.get lists c.args.id) c.self.invariant.tied
          (ap (λ m. m.entries) c.in_default-enter.ensures.none ∙ put_itself m.entries c.args.id) (gone ∙ put_itself lists c.args.id)
          (c.self.invariant.tied c.args.id);
      within = c.in_default-enter.ensures.within;
      blocks = enough_blocks g.R.Side.gathering m c.self.inside.gather c.args.id (Some (record { order = c.args.order; octets = c.args.octets.now }))
          (length c.args.octets.now) _ _ _ comes
          (not_over (is_over c.self.inside.gather.limit c.self.inside.gather.lists (length c.args.octets.now)) c.in_default.ensures.only)
          (ap (λ g. g.limit) c.discard.ensures.ok ∙ ap (λ g. g.limit) c.in_default.ensures.ok)
          (ap (λ m. m.limit) c.in_default-enter.ensures.none)
          (ap (λ g. g.blocks) c.discard.ensures.ok ∙ ap (λ g. g.blocks) c.in_default.ensures.ok);
    }

pub returns : goal.returns
returns g c =
    let m = c.self.inside.mux in
    let lists = c.self.inside.gather.lists in
    let away = ap (λ h. gathers g.R.Side.gathering (finite.get h.table c.args.id)) c.self.view_is ∙ c.requires.away in
    let none = no_pieces (finite.get lists c.args.id) (gathers g.R.Side.gathering (finite.get m.entries c.args.id)) (c.self.invariant.tied c.args.id) away in
    let gone = dropped lists _ _ c.args.id (Some (record { order = c.args.order; octets = c.args.octets.now })) none
    (ap (λ g. g.lists) c.in_default.ensures.ok) (ap (λ g. g.lists) c.discard.ensures.ok) in
    let rule = ap (λ m. m.rule.rule) c.in_default-enter.ensures.none in
    let calls = ap (λ m. m.limit) c.in_default-enter.ensures.none in
    let entries = ap (λ m. m.entries) c.in_default-enter.ensures.none in
    let room = ap (λ g. g.limit) c.discard.ensures.ok ∙ ap (λ g. g.limit) c.in_default.ensures.ok in
    let after = (λ i. record { rule = rule i; calls = calls i; room = room i; table = entries i; gathered = gone i }) ∙ c.self.view_is in
    does_over (g.R.CallRule.next c.args.self.now.rule) (g.R.CallRule.closed c.args.self.now.rule) g.R.Side.gathering c.args.self.now _ c.args.id c.args.planned
    (First c.args.order c.args.octets.now) NoMemory c.requires.accepted
    (inr (
      refl,
      none_wanting g.R.Side.gathering c.args.self.now c.args.id _ c.args.order c.args.octets.now c.requires.gathers
          (many_is g.R.Side.gathering c.args.self.now.table c.args.self.now.calls c.args.id _ c.requires.gathers
          ∙ sym c.is_one_too_many.ensures ∙ c.if-is_one_too_many.false)
          (ap (λ h. is_over h.room h.gathered (length c.args.octets.now)) (sym c.self.view_is)
          ∙ not_over (is_over c.self.inside.gather.limit lists (length c.args.octets.now)) c.in_default.ensures.only),
    ))
    after
