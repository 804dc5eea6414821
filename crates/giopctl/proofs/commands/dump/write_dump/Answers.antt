use Rattle.std.proofs.Common.{rules, ◌≡◌, ◌+◌, ◌++◌, ◌∷◌, [], refl, arith, ap, sym, ◌∙◌, length, length-append}
use Rattle.std.proofs.lemmas.Bool.{eqb-true}
use Rattle.giop_msg.specs.Stream.{Unread, TakesMessage}
use Rattle.giop_msg.specs.Msg.{message_octets}
use Rattle.giop_msg.proofs.StreamLemmas.{length-message_octets}
use Rattle.giopctl.proofs.DumpLemmas.{Shown, shows_message, shows_piece, none_shown, ends_at_rest, ends_at_fault}
use Rattle.giopctl.proofs.commands.dump.write_dump.Goals as goal

pub messages-preserved-in-Ok-Some : goal.messages-preserved-in-Ok-Some
messages-preserved-in-Ok-Some g c =
    let takes : TakesMessage c.messages.framer c.in-Ok-Some.message c.next.new.self = rw c.in-Ok-Some.field-0-is at c.in-Ok-Some.ensures.found in
    let shown = shows_message _ _ _ _ c.messages.invariant.1 c.messages.invariant.2 takes c.in_ok-write_message-in-Ok-Some.ensures in
    (c.messages.invariant.0 ++ c.in-Ok-Some.message ∷ [], rw c.len.ensures shown, takes.limit ∙ c.messages.invariant.2)

pub messages-smaller-in-Ok-Some : goal.messages-smaller-in-Ok-Some
messages-smaller-in-Ok-Some g c =
    let takes : TakesMessage c.messages.framer c.in-Ok-Some.message c.next.new.self = rw c.in-Ok-Some.field-0-is at c.in-Ok-Some.ensures.found in
    omega (
      arith,
      ap length takes.octets,
      length-append (message_octets c.in-Ok-Some.message) c.next.new.self.octets,
      length-message_octets c.in-Ok-Some.message,
    )

pub returns-in-Ok-None : goal.returns-in-Ok-None
returns-in-Ok-None g c =
    let waits = rw c.in-Ok-None.field-0-is at c.in-Ok-None.ensures.waits in
    let n : c.rest.result ≡ length c.messages.framer.octets = c.rest.ensures ∙ ap (λ (u : Unread). length u.octets) waits.1 in
    let empty : length c.messages.left.now ≡ 0 = eqb-true _ _ (sym c.is_empty.ensures ∙ c.if-is_empty.true) in
    ends_at_rest c.messages.framer _ _ _ c.messages.invariant.1 c.messages.invariant.2 empty waits.0
    (rw (← n) c.write_rest.ensures.text) (rw (← n) c.write_rest.ensures.ok)

pub returns-in-Err : goal.returns-in-Err
returns-in-Err g c =
    ends_at_fault c.messages.framer _ _ _ _ c.messages.invariant.1 c.messages.invariant.2 c.in-Err.ensures.err
    c.write_fault.ensures.text c.write_fault.ensures.ok
