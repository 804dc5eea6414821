use Rattle.std.proofs.Common.{refl}
use Rattle.giop_msg.specs.declared.version.Version.TheVariants.{V12}
use Rattle.laws_in_use.specs.Exchange.{ping}
use Rattle.laws_in_use.specs.Framed.{refusing}
use Rattle.laws_in_use.specs.Pinged.{ping_whole, refusal_whole}
use Rattle.laws_in_use.proofs.PingPlans.{pings_in_one, refuses_in_one}
use Rattle.laws_in_use.proofs.pinged.a_lane_comes_to_a_reply.Goals as goal

pub returns-clause-answered : goal.returns-clause-answered
returns-clause-answered c = refuses_in_one

pub returns-clause-answerable : goal.returns-clause-answerable
returns-clause-answerable c = (refl, refl)

pub returns-clause-sent : goal.returns-clause-sent
returns-clause-sent c = λ interface has. (pings_in_one interface has, refuses_in_one interface)

pub returns-clause-replied : goal.returns-clause-replied
returns-clause-replied c = λ interface has.
    c.own_lanes_come_to_replies.ensures.replied interface (ping V12) refusing ping_whole refusal_whole (refl, refl)
    (returns-clause-sent c interface has)
