use Rattle.std.proofs.Common.{refl, rules, length, ◌<◌}
use Rattle.giop_msg.specs.Framing.{payload_so_far}
use Rattle.giop_msg.proofs.FramerLemmas.{begun_is_sound, begun_waits, stands}
use Rattle.giop_msg.proofs.framer.Framer.next.Goals as goal

pub returns-then-not-is_whole-clause-waits : goal.returns-then-not-is_whole-clause-waits
returns-then-not-is_whole-clause-waits c =
    let part : length (payload_so_far c.in-Some.begun) < c.in-Some.begun.header.size = search rules in
    (begun_waits _ _ _ (stands _ _ _ _ c.in-Some.is c.self.invariant c.self.view_is) part, refl)

pub returns-then-not-is_whole-clause-exact : goal.returns-then-not-is_whole-clause-exact
returns-then-not-is_whole-clause-exact c =
    λ e fault. absurd (begun_is_sound _ _ _ e (stands _ _ _ _ c.in-Some.is c.self.invariant c.self.view_is) fault)

pub returns-clause-exact : goal.returns-clause-exact
returns-clause-exact c = λ e fault. absurd (begun_is_sound _ _ _ e (stands _ _ _ _ c.in-Some.is c.self.invariant c.self.view_is) fault)
