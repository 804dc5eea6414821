use Rattle.std.proofs.Common.{◌∙◌, ap, [], refl, true}
use Rattle.giop_calls.specs.declared.kind.CallKind.TheVariants as kind
use Rattle.giop_calls.specs.declared.server.event.ServerEvent.TheVariants as event
use Rattle.giop_session.specs.Calls.CallTable.{Hears, More, Nothing}
use Rattle.giop_session.specs.Hearing.Heard.{behind_id, silently}
use Rattle.laws_in_use.specs.Hearing.{door_begun, door_goes_on}
use Rattle.laws_in_use.specs.Locating.{door_begins, door_ends, key_big}
use Rattle.laws_in_use.proofs.LocatingMessages.{decoded}
use Rattle.laws_in_use.proofs.hearing.what_a_server_hears.Goals as goal

pub returns-clause-whole : goal.returns-clause-whole
returns-clause-whole c = λ interface call.
    c.servers_read_as_coding.ensures.whole interface kind.Locate key_big call refl refl
    ∙ ap (λ read. Hears (silently (event.Whole read)) Nothing) (decoded interface).key_big

pub returns-clause-first : goal.returns-clause-first
returns-clause-first c = λ interface call. c.servers_read_as_coding.ensures.first interface kind.Locate door_begins call refl refl

pub returns-clause-goes_on : goal.returns-clause-goes_on
returns-clause-goes_on c = (refl, refl)

pub returns-clause-more : goal.returns-clause-more
returns-clause-more c = λ interface. c.servers_read_as_coding.ensures.more interface kind.Locate door_begun door_goes_on [] (refl, refl) refl

pub returns-clause-last : goal.returns-clause-last
returns-clause-last c = λ interface.
    c.servers_read_as_coding.ensures.last interface kind.Locate door_begun door_ends [] refl (refl, refl) refl
    ∙ ap (λ read. Hears (silently (event.Last true read)) (More (behind_id door_ends))) (decoded interface).door_joined
