use Rattle.std.proofs.Common.{sym, subst}
use Rattle.std.proofs.lemmas.List.{take_all}
use Rattle.giop_msg.proofs.ReadPiecesLemmas.{ReadSoFar, read_nothing, read_more, pieces_more}
use Rattle.giop_msg.proofs.stream.read_pieces.Goals as goal

pub loop-piece-init : goal.loop-piece-init
loop-piece-init c = rw (c.new-messages.ensures.items, c.new-framer.ensures) (read_nothing c.args.message_limit)

pub loop-piece-preserved : goal.loop-piece-preserved
loop-piece-preserved c =
    let more = read_more _ _ _ _ _ _ _ _ _ _ c.loop-piece.invariant c.in_ok-feed.ensures.ok c.in_ok-fault.ensures.found c.in_ok-fault.ensures.ok in
    subst (λ s. ReadSoFar c.args.message_limit s c.take_up_to_fault.new.messages.items c.in_ok-fault.fault c.take_up_to_fault.new.framer)
    (sym (pieces_more c.args.pieces.now c.loop-piece.piece-index _ c.loop-piece-test.true)) more

pub returns-clause-split : goal.returns-clause-split
returns-clause-split c =
    let all = take_all c.loop-piece.piece-index c.args.pieces.now c.loop-piece-test.false in
    rw all at c.loop-piece.invariant.split

pub returns-clause-fault : goal.returns-clause-fault
returns-clause-fault c = rw c.loop-piece.invariant.limit_is at c.loop-piece.invariant.stopped.fault_is
