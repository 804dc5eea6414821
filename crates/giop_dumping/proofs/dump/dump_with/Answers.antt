use Rattle.std.proofs.Common.{◌≡◌, ◌+◌, ◌++◌, ap, refl, sym, ◌∙◌, length, option_copied}
use Rattle.std.proofs.lemmas.Bool.{eqb-true}
use Rattle.std.proofs.lemmas.List.{append-nil}
use Rattle.giop_msg.specs.Stream.{Unread, TakesMessage}
use Rattle.giop_dumping.specs.Dump.Bodies.{telling_by}
use Rattle.giop_show.proofs.RestLemmas.{nothing_left}
use Rattle.giop_dumping.proofs.DumpLemmas.{of_none, of_message, of_piece, of_rest, of_fault, of_kept}
use Rattle.giop_dumping.proofs.dump.dump_with.Goals as goal

pub messages-init : goal.messages-init
messages-init g c =
    let teller = c.args.teller.now in
    record {
      shown =
          rw (c.requires.unread, c.requires.lists)
          (of_none (telling_by (option_copied teller.interface) teller.form teller.gather.limit) c.args.framer.now.limit (g.R.Read.remaining c.args.reader.now)
          (g.W.Write.contents c.args.writer.now));
      limit = refl;
      form = refl;
      interface = refl;
      gathered = refl;
    }

pub messages-preserved-in-Ok-Some : goal.messages-preserved-in-Ok-Some
messages-preserved-in-Ok-Some g c =
    let before = c.messages.invariant in
    let takes : TakesMessage c.messages.framer c.in-Ok-Some.message c.next.new.self = rw c.in-Ok-Some.field-0-is at c.in-Ok-Some.ensures.found in
    let told = c.in_ok-tell-in-Ok-Some.ensures in
    let text = rw (before.interface, before.form, before.gathered) at told.text in
    let lists = rw (before.interface, before.gathered) at told.lists in
    let shown = of_message _ _ _ _ _ before.shown before.limit takes text lists in
    let next : c.in-Some.next ≡ c.messages.at + (12 + length c.in-Ok-Some.message.payload) =
    c.in-Some.ensures.1 ∙ ap (λ n. c.messages.at + (12 + n)) c.len.ensures in
    record {
      shown = rw next shown;
      limit = takes.limit ∙ before.limit;
      form = told.form ∙ before.form;
      interface = told.interface ∙ before.interface;
      gathered = told.limit ∙ before.gathered;
    }

pub messages-preserved : goal.messages-preserved
messages-preserved g c =
    let before = c.messages.invariant in
    let piece = c.in_ok-piece-in-Ok-None.piece.now in
    let waits = rw c.in-Ok-None.field-0-is at c.in-Ok-None.ensures.waits in
    let fed = c.in_ok-feed-in-Ok-None.ensures.ok in
    let octets : c.feed.new.framer.octets ≡ c.messages.framer.octets ++ piece =
    ap (λ (u : Unread). u.octets) fed ∙ ap (λ (u : Unread). u.octets ++ piece) waits.1
    in
    record {
      shown = rw octets (of_piece _ piece (of_kept _ before.shown c.flush.ensures.bytes) c.in_ok-piece-in-Ok-None.ensures.ok);
      limit = ap (λ (u : Unread). u.limit) fed ∙ ap (λ (u : Unread). u.limit) waits.1 ∙ before.limit;
      form = before.form;
      interface = before.interface;
      gathered = before.gathered;
    }

pub returns-then-is_empty-clause-text : goal.returns-then-is_empty-clause-text
returns-then-is_empty-clause-text g c =
    let before = c.messages.invariant in
    let piece = c.in_ok-piece-in-Ok-None.piece in
    let waits = rw c.in-Ok-None.field-0-is at c.in-Ok-None.ensures.waits in
    let n : c.rest.result ≡ length c.messages.framer.octets = c.rest.ensures ∙ ap (λ (u : Unread). length u.octets) waits.1 in
    let empty : length piece.now ≡ 0 = eqb-true _ _ (sym c.is_empty.ensures ∙ c.if-is_empty.true) in
    let all : c.messages.framer.octets ++ piece.now ≡ c.messages.framer.octets =
    ap (λ u. c.messages.framer.octets ++ u) (nothing_left piece.now empty) ∙ append-nil c.messages.framer.octets in
    let shown = rw all at (of_piece _ piece.now (of_kept _ before.shown c.flush.ensures.bytes) c.in_ok-piece-in-Ok-None.ensures.ok) in
    of_rest c.messages.framer _ _ shown before.limit (c.in_ok-piece-in-Ok-None.ensures.end empty) waits.0 (rw (← n, ← before.form) c.write_rest.ensures.text)
    (rw (← n) c.write_rest.ensures.ok)

pub returns-in-Err-clause-text : goal.returns-in-Err-clause-text
returns-in-Err-clause-text g c =
    of_fault c.messages.framer _ _ _ c.messages.invariant.shown c.messages.invariant.limit c.in-Err.ensures.err
    (rw c.messages.invariant.form at c.write_fault.ensures.text)
    c.write_fault.ensures.ok
