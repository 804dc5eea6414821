use Rattle.std.proofs.Common.{true, [], ◌∷◌, Some, refl, inl, ap, sym, arith}
use Rattle.giop_cdr.specs.declared.order.Order.TheVariants.{Big}
use Rattle.giop_msg.specs.declared.version.Version.TheVariants.{V10, V12}
use Rattle.giop_calls.specs.declared.server.event.ServerEvent.TheVariants as event
use Rattle.giop_session.specs.Acts.Sent.{sends_one}
use Rattle.laws_in_use.specs.Exchange.{ping, pong}
use Rattle.laws_in_use.specs.Left.{form, pong_sent, sends}
use Rattle.laws_in_use.proofs.PingPlans.{pong_holds}
use Rattle.laws_in_use.proofs.ServerRunTaken.{here_is}
use Rattle.laws_in_use.proofs.left.what_a_server_plans.Goals as goal

pub returns-clause-answers : goal.returns-clause-answers
returns-clause-answers c = λ interface. record {
  in_range = record { holds = pong_holds interface; piece = omega arith };
  sent = (pong_sent interface ∷ [], (refl, inl refl), refl);
}

pub returns-clause-locates : goal.returns-clause-locates
returns-clause-locates c = (omega arith, ap (sends_one (event.AnswerLocate true)) (sym here_is))

pub returns-clause-answered : goal.returns-clause-answered
returns-clause-answered c = λ interface n messages is.
    c.what_is_left_is_unsent_at_server.ensures.answered interface (Some (ping V10)) (pong V10) form (sends (event.Answer (pong V10) n) messages) is

pub returns-clause-located : goal.returns-clause-located
returns-clause-located c = λ messages is.
    c.what_is_left_is_unsent_at_server.ensures.located 7 true Big V12 (sends (event.AnswerLocate true) messages) is
