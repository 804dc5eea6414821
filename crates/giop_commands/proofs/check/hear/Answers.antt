use Rattle.std.proofs.Common.{◌≡◌, length, sym, refl, ap, ◌∙◌}
use Rattle.std.proofs.lemmas.Bool.{eqb-true}
use Rattle.giop_commands.proofs.CheckLemmas.{of_none, of_more, of_end, of_fault}
use Rattle.giop_commands.proofs.check.hear.Goals as goal

pub pieces-init : goal.pieces-init
pieces-init g c = record {
  heard = of_none _ (g.R.Read.remaining c.args.reader.now) c.args.end.now.framer c.args.end.now.calls c.requires.begins;
  sound = c.requires.sound;
  interface = refl;
}

pub returns-then-is_empty-clause-heard : goal.returns-then-is_empty-clause-heard
returns-then-is_empty-clause-heard g c =
    let piece = c.in_ok-piece.piece in
    let empty : length piece.now ≡ 0 = eqb-true _ _ (sym c.is_empty.ensures ∙ c.if-is_empty.true) in
    rw c.pieces.invariant.sound
    (of_end _ _ _ _ piece.now _ _ _ _ c.pieces.invariant.heard c.in_ok-piece.ensures.ok empty (c.in_ok-piece.ensures.end empty))

pub returns-in-Err-clause-heard : goal.returns-in-Err-clause-heard
returns-in-Err-clause-heard g c =
    let sound = c.pieces.invariant.sound in
    let fed = rw c.pieces.invariant.interface at (c.in-Err.ensures.fed sound) in
    rw (c.in-Err.ensures.stands sound)
    (of_fault _ _ _ _ c.in_ok-piece.piece.now _ _ _ _ _ _ _ c.pieces.invariant.heard c.in_ok-piece.ensures.ok fed)

pub pieces-preserved : goal.pieces-preserved
pieces-preserved g c =
    let sound = c.pieces.invariant.sound in
    let fed = rw c.pieces.invariant.interface at (c.in_default.ensures.fed sound) in
    record {
      heard = of_more _ _ _ _ c.in_ok-piece.piece.now _ _ _ _ _ _ c.pieces.invariant.heard c.in_ok-piece.ensures.ok fed;
      sound = c.in_default.ensures.stands sound;
      interface = ap (λ e. e.interface.now) c.in_default.ensures.others ∙ c.pieces.invariant.interface;
    }
