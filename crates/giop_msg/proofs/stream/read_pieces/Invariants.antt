use Rattle.std.proofs.Common.{List, ℕ, take}
use Rattle.std.specs.Borrow.{Bor}
use Rattle.std.specs.List.{flat_map}
use Rattle.giop_msg.proofs.ReadPiecesLemmas.{ReadSoFar}
use Rattle.giop_msg.proofs.stream.read_pieces.Given as goal

abbrev pub invariant-loop-piece : goal.invariant-loop-piece
invariant-loop-piece l = ReadSoFar l.message_limit (flat_map (λ (p : Bor (List ℕ)). p.now) (take l.piece-index l.pieces)) l.messages.items l.fault l.framer
