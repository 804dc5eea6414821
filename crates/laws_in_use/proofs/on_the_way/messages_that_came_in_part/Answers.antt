use Rattle.std.proofs.Common.{[], ◌∷◌, refl, arith}
use Rattle.std.proofs.lemmas.List.Elements.{All-cons, All-nil}
use Rattle.giop_msg.specs.Header.{header_octets, header_of, header_fault}
use Rattle.giop_msg.proofs.FramerLemmas.{waits_for_header}
use Rattle.giop_session.specs.Hearing.Feeding.{nothing_unread}
use Rattle.giop_session.specs.Worlds.OnTheWay.{IsFramed}
use Rattle.laws_in_use.specs.Asking.{here_begins, here_ends}
use Rattle.laws_in_use.specs.Locating.{door_begins}
use Rattle.laws_in_use.proofs.on_the_way.messages_that_came_in_part.Goals as goal

begins_framed : IsFramed here_begins
unfolding header_octets header_of header_fault
begins_framed = record { sized = omega arith; sound = refl }

ends_framed : IsFramed here_ends
unfolding header_octets header_of header_fault
ends_framed = record { sized = omega arith; sound = refl }

pub returns-clause-there : goal.returns-clause-there
unfolding header_octets
returns-clause-there c = record {
  each = All-cons IsFramed here_begins (here_ends ∷ []) begins_framed (All-cons IsFramed here_ends [] ends_framed (All-nil IsFramed));
  octets = refl;
  waits = waits_for_header 64 _ (omega arith);
}

pub returns-clause-no_others : goal.returns-clause-no_others
returns-clause-no_others c = λ messages on_way. c.what_is_on_its_way.ensures.one _ messages _ _ on_way (returns-clause-there c)

pub returns-clause-empty : goal.returns-clause-empty
returns-clause-empty c = record { each = All-nil IsFramed; octets = refl; waits = waits_for_header 64 [] (omega arith) }

pub returns-clause-none : goal.returns-clause-none
returns-clause-none c = λ messages on_way. c.what_is_on_its_way.ensures.none (nothing_unread 64) messages on_way

pub returns-clause-framed : goal.returns-clause-framed
unfolding header_octets header_of header_fault
returns-clause-framed c = record { sized = omega arith; sound = refl }

pub returns-clause-large : goal.returns-clause-large
unfolding header_octets header_of header_fault
returns-clause-large c = (omega arith, refl)

pub returns-clause-fault : goal.returns-clause-fault
returns-clause-fault c = λ more e begins. (c.what_is_on_its_way.ensures.fault 8 door_begins more e (returns-clause-framed c) begins).0
