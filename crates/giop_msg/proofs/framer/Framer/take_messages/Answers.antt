use Rattle.std.proofs.Common.{◌≡◌, refl, inr, rules, length, ◌<◌, ◌≤◌}
use Rattle.std.proofs.lemmas.Result.{err_from_is_err_and}
use Rattle.giop_msg.specs.Framing.{payload_so_far}
use Rattle.giop_msg.specs.Stream.{AppendsTaken}
use Rattle.giop_msg.proofs.FramerLemmas.{begun_is_taken, begun_waits, stands, taken_more, taken_none, taken_then}
use Rattle.giop_msg.proofs.framer.Framer.take_messages.Goals as goal

pub returns-then-not-is_whole-clause-ok : goal.returns-then-not-is_whole-clause-ok
returns-then-not-is_whole-clause-ok c =
    let part : length (payload_so_far c.in-Some.begun) < c.in-Some.begun.header.size = search rules in
    begun_waits _ _ _ (stands _ _ _ _ c.in-Some.is c.self.invariant c.self.view_is) part

pub returns-in_err-reserve-clause-err : goal.returns-in_err-reserve-clause-err
returns-in_err-reserve-clause-err c =
    let whole : c.in-Some.begun.header.size ≤ length (payload_so_far c.in-Some.begun) = search rules in
    let taken = begun_is_taken _ _ _ (stands _ _ _ _ c.in-Some.is c.self.invariant c.self.view_is) whole in
    let p = err_from_is_err_and c.from_residual.result c.from_residual.ensures.1 in
    rw (p.1, p.2) (inr (refl, (_, _, taken.is_message, taken.octets)))

pub returns-clause-found : goal.returns-clause-found
returns-clause-found c =
    let whole : c.in-Some.begun.header.size ≤ length (payload_so_far c.in-Some.begun) = search rules in
    let taken = begun_is_taken _ _ _ (stands _ _ _ _ c.in-Some.is c.self.invariant c.self.view_is) whole in
    let same : c.in-Some.begun ≡ c.unwrap.result = cc in
    let first : AppendsTaken c.args.self.now c.args.messages.now.items c.self.inside.buffer c.push.new.self.items =
    rw (c.push.ensures.items, c.unwrap-2.ensures, c.into_message-message.ensures, ← same, c.reserve.ensures.items)
    (taken_more _ _ _ _ _ _ (taken_none _ _) taken) in
    rw c.take.ensures.after (taken_then _ _ _ _ _ _ first c.take_messages-2.ensures.found)
