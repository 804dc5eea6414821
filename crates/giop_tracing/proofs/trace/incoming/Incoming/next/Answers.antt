use Rattle.std.proofs.Common.{◌≡◌, ◌++◌, Some, false, true, inl, inr, ap, sym, subst, ◌∙◌, length}
use Rattle.std.proofs.lemmas.Bool.{eqb-true}
use Rattle.std.proofs.lemmas.List.{append-nil}
use Rattle.giop_msg.specs.declared.fault.WireFault.{WireFault}
use Rattle.giop_msg.specs.Stream.{TakesMessage, Unread, Waits}
use Rattle.giop_tracing.specs.Trace.Incoming.{IsLast, unheard}
use Rattle.giop_show.proofs.RestLemmas.{nothing_left}
use Rattle.giop_tracing.proofs.IncomingLemmas.{fed_kept, is_last, is_last_fault, is_next, last_kept, next_kept}
use Rattle.giop_tracing.proofs.trace.incoming.Incoming.next.Goals as goal

pub returns-in-Ok-Some-clause-found : goal.returns-in-Ok-Some-clause-found
returns-in-Ok-Some-clause-found g c =
    let before = c.pieces.invariant in
    let takes : TakesMessage c.pieces.self.framer c.in-Ok-Some.message c.next.new.self =
    rw (c.in-Ok-Some.is, c.in-Ok-Some.field-0-is) at c.next.ensures.found in
    next_kept c.args.self.now.framer.limit _ _ _ c.in-Ok-Some.message before.octets
    (is_next c.args.self.now.framer.limit c.pieces.self.framer c.next.new.self (g.R.Read.remaining c.pieces.reader) c.in-Ok-Some.message before.limit takes)

pub returns-in-Err-2-clause-last : goal.returns-in-Err-2-clause-last
returns-in-Err-2-clause-last g c =
    let before = c.pieces.invariant in
    let fault = c.in-Err.fault in
    let left = g.R.Read.remaining c.pieces.reader in
    let same : c.next.new.self ≡ c.pieces.self.framer = c.in-Err-2.ensures.kept in
    let last : IsLast c.args.self.now.framer.limit (unheard c.pieces.self.framer left) (unheard c.pieces.self.framer left) (Some fault)
    c.pieces.self.framer.octets =
    elim c.in-Err.ensures.err [
      | inl stands ↦ is_last_fault c.args.self.now.framer.limit c.pieces.self.framer left fault before.limit stands
      | inr want ↦ (let no : false ≡ true = rw (ap (λ (e : WireFault). e.kind) want.0) at c.if-eq.ensures in absurd cc)
    ]
    in
    rw same (last_kept c.args.self.now.framer.limit _ _ _ _ _ before.octets last)

pub returns-then-is_empty-clause-last : goal.returns-then-is_empty-clause-last
returns-then-is_empty-clause-last g c =
    let before = c.pieces.invariant in
    let piece = c.in_ok-piece.piece.now in
    let waits = rw (c.in-Ok-None.is, c.in-Ok-None.field-0-is) at c.next.ensures.waits in
    let empty : length piece ≡ 0 = eqb-true _ _ (sym c.is_empty.ensures ∙ c.if-is_empty.true) in
    let fed : c.next.new.self.octets ≡ c.pieces.self.framer.octets ++ piece =
    ap (λ (u : Unread). u.octets) waits.1 ∙ sym (append-nil c.pieces.self.framer.octets)
    ∙ ap (λ p. c.pieces.self.framer.octets ++ p) (sym (nothing_left piece empty)) in
    let kept = fed_kept _ c.pieces.self.framer c.next.new.self (g.R.Read.remaining c.pieces.reader) (g.R.Read.remaining c.fill.new.reader) piece
    before.octets fed c.in_ok-piece.ensures.ok in
    last_kept c.args.self.now.framer.limit _ _ _ _ _ kept
    (is_last c.args.self.now.framer.limit c.next.new.self (g.R.Read.remaining c.fill.new.reader) (ap (λ (u : Unread). u.limit) waits.1 ∙ before.limit)
    (subst Waits (sym waits.1) waits.0) (c.in_ok-piece.ensures.end empty))
