use Rattle.std.proofs.Common.{◌∙◌, ap, [], refl, true}
use Rattle.giop_msg.specs.declared.version.Version.TheVariants.{V12}
use Rattle.giop_calls.specs.declared.client.call.Call.TheVariants as asked
use Rattle.giop_calls.specs.declared.client.event.ClientEvent.TheVariants as event
use Rattle.giop_calls.specs.declared.kind.CallKind.TheVariants as kind
use Rattle.giop_session.specs.Calls.CallTable.{Hears, More, Nothing}
use Rattle.giop_session.specs.Hearing.Heard.{behind_id, silently}
use Rattle.laws_in_use.specs.Asking.{here_begins, here_ends}
use Rattle.laws_in_use.specs.Hearing.{door_goes_on, here_begun, waits}
use Rattle.laws_in_use.specs.Locating.{door, here_little}
use Rattle.laws_in_use.proofs.AskingMessages.{decoded}
use Rattle.laws_in_use.proofs.hearing.what_a_client_hears.Goals as goal

pub returns-clause-whole : goal.returns-clause-whole
returns-clause-whole c = λ interface.
    c.clients_read_as_coding.ensures.whole interface kind.Locate (asked.Locate door) here_little waits refl refl refl
    ∙ ap (λ read. Hears (silently (event.Whole kind.Locate V12 read)) Nothing) (decoded interface).here_little

pub returns-clause-first : goal.returns-clause-first
returns-clause-first c = λ interface.
    c.clients_read_as_coding.ensures.first interface kind.Locate (asked.Locate door) here_begins waits refl refl refl

pub returns-clause-more : goal.returns-clause-more
returns-clause-more c = λ interface.
    c.clients_read_as_coding.ensures.more interface (asked.Locate door) here_begun door_goes_on [] (refl, refl) refl

pub returns-clause-last : goal.returns-clause-last
returns-clause-last c = λ interface.
    c.clients_read_as_coding.ensures.last interface (asked.Locate door) here_begun here_ends [] (refl, refl) refl
    ∙ ap (λ read. Hears (silently (event.Last true read)) (More (behind_id here_ends))) (decoded interface).here_joined
