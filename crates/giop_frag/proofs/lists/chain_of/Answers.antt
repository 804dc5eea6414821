use Rattle.std.proofs.Common.{None, sym, ap, ◌∙◌}
use Rattle.std.specs.Option.{option_copied, option_map}
use Rattle.giop_frag.proofs.HeldLemmas.{chain_shown, chained_as, pieces_found}
use Rattle.giop_frag.proofs.lists.chain_of.Goals as goal

pub new-requires : goal.new-requires
new-requires c =
    chained_as c.args.pool.now c.args.table.now.entries c.args.id c.in_ok-joined.joined.now _ _ c.requires.held
    (sym c.get.ensures.value ∙ ap option_copied c.in_ok-joined.was) c.numbers.ensures c.len.ensures

pub returns-in_err-joined : goal.returns-in_err-joined
returns-in_err-joined c =
    c.from_residual.ensures
    ∙ sym (ap (option_map (λ p. (p.order, p.octets))) (pieces_found _ c.args.table.now.entries c.args.id None
    (sym c.get.ensures.value ∙ ap option_copied c.in_err-joined.was)))

pub returns : goal.returns
returns c =
    chain_shown _ c.args.table.now.entries c.args.id c.in_ok-joined.joined.now c.order.result c.numbers.result.now c.len.result c.new.result
    (sym c.get.ensures.value ∙ ap option_copied c.in_ok-joined.was)
    c.order.ensures c.numbers.ensures c.len.ensures c.new.ensures
