use Rattle.std.proofs.Common.{[], ◌∷◌, inl, inr, refl, arith}
use Rattle.giop_cdr.specs.declared.order.Order.TheVariants.{Big}
use Rattle.giop_msg.specs.declared.kind.Kind.TheVariants.{LocateRequest}
use Rattle.giop_msg.specs.declared.version.Version.TheVariants.{V10, V12}
use Rattle.laws_in_use.specs.Framed.{cut_begins, cut_ends, cut_octets}
use Rattle.laws_in_use.proofs.messages.a_message_in_two.Goals as goal

pub returns-clause-can : goal.returns-clause-can
returns-clause-can c = record {
  continued = refl;
  id = omega arith;
  short = omega arith;
  large = omega arith;
  fits = omega arith;
  multiple = refl;
}

pub returns-clause-cut : goal.returns-clause-cut
returns-clause-cut c = (refl, refl, omega arith, (refl, omega arith, omega arith))

pub returns-clause-again : goal.returns-clause-again
returns-clause-again c =
    c.cuts_are_undone.ensures.undone V12 LocateRequest Big cut_octets 24 (cut_begins ∷ cut_ends ∷ []) (returns-clause-can c) (returns-clause-cut c)

pub returns-clause-framed : goal.returns-clause-framed
returns-clause-framed c = λ messages cut.
    (c.cuts_are_undone.ensures.framed V12 LocateRequest Big cut_octets 24 messages (returns-clause-can c) cut)

pub returns-clause-within : goal.returns-clause-within
returns-clause-within c = λ messages cut.
    c.cuts_are_undone.ensures.within 12 V12 LocateRequest Big cut_octets 24 messages (returns-clause-can c) cut (inr (refl, omega arith))

pub returns-clause-early : goal.returns-clause-early
returns-clause-early c = λ messages cut.
    c.cuts_are_undone.ensures.within 16 V10 LocateRequest Big cut_octets 24 messages (returns-clause-can c) cut (inl (omega arith))
