use Rattle.std.proofs.Common.{◌∙◌, None, ap, sym}
use Rattle.std.specs.FinMap as map
use Rattle.giop_ids.specs.ById.{ById, put}
use Rattle.giop_ids.proofs.Puts.{get-put_other}
use Rattle.giop_mux.specs.Slots.{entries_of}
use Rattle.giop_mux.proofs.SlotLemmas.{get_front, put_beside, put_front}
use Rattle.giop_mux.proofs.slots.take_slot.Goals as goal

pub returns-then-slots-id-clause-value : goal.returns-then-slots-id-clause-value
returns-then-slots-id-clause-value g c =
    let old = c.args.slots.now in
    c.take.ensures.value ∙ sym (get_front (entries_of old.others.entries) old.id c.args.id old.front c.if-slots-id.true)

pub returns-then-slots-id-clause-ok : goal.returns-then-slots-id-clause-ok
returns-then-slots-id-clause-ok g c =
    let old = c.args.slots.now in
    ap (put (entries_of old.others.entries) old.id) c.take.ensures.after
    ∙ put_front (entries_of old.others.entries) old.id c.args.id old.front None c.if-slots-id.true

pub returns-else-slots-id-clause-value : goal.returns-else-slots-id-clause-value
returns-else-slots-id-clause-value g c =
    let old = c.args.slots.now in
    c.take_among.ensures.value
    ∙ sym (get-put_other (entries_of old.others.entries) old.id old.front c.args.id (λ same. c.if-slots-id.false (sym same)))

pub returns-else-slots-id-clause-ok : goal.returns-else-slots-id-clause-ok
returns-else-slots-id-clause-ok g c =
    let old = c.args.slots.now in
    ap (λ (m : ById g.row.E.Denot). put m old.id old.front) c.take_among.ensures.ok
    ∙ put_beside (entries_of old.others.entries) old.id c.args.id old.front None (λ same. c.if-slots-id.false (sym same))

pub returns-else-slots-id-clause-whole : goal.returns-else-slots-id-clause-whole
returns-else-slots-id-clause-whole g c =
    let old = c.args.slots.now in
    record {
      full = c.take_among.ensures.full;
      apart =
          ap (λ (m : ById g.row.E.Denot). map.get m old.id) c.take_among.ensures.ok
          ∙ get-put_other (entries_of old.others.entries) c.args.id None old.id c.if-slots-id.false
          ∙ c.requires.apart;
    }
