-- What a server's end is given in a run, and what an input is to it.
use Rattle.std.specs.Prelude.{◌≡◌, ℕ, List, Option, None, Some}
use Rattle.giop_types.specs.declared.interfaces.interface.Interface.{Interface}
use Rattle.giop_calls.specs.declared.fault.CallFault.{CallFault}
use Rattle.giop_calls.specs.declared.server.entry.ServerEntry.{ServerEntry}
use Rattle.giop_calls.specs.declared.server.event.ServerEvent.{ServerEvent}
use Rattle.giop_calls.specs.declared.server.event.ServerEvent.TheVariants as event
use Rattle.giop_calls.specs.declared.server.heard.HeardCall.{HeardCall}
use Rattle.giop_calls.specs.declared.server.rule.ServerRule.{ServerRule}
use Rattle.giop_calls.specs.ServerStanding.{standing}
use Rattle.giop_session.specs.declared.laws.inputs.ServerInput.{ServerInput}
use Rattle.giop_session.specs.declared.laws.inputs.ServerInput.TheVariants as input
use Rattle.giop_end.specs.declared.limits.Limits.{Limits}
use Rattle.giop_table.specs.declared.plan.Plan.TheVariants.{Next}
use Rattle.giop_table.specs.CallTable.{Held, entry_at}
use Rattle.giop_session.specs.Runs.Driven.{Closes, Deed, Feeds, PutsOut, TakesOut}
use Rattle.giop_session.specs.Runs.Met.{Sorting}
use Rattle.giop_session.specs.Runs.RunLimits.{ServerIsGivenWithin}
use Rattle.giop_session.specs.Runs.SideRuns.{RunOf}
use Rattle.giop_end.specs.Acts.ServerAnswers.{IsAnswer, IsLocateAnswer, answer_fault, locate_of, question_of}
use Rattle.giop_session.specs.Items.ServerCarries.{server_telling}
use Rattle.giop_end.specs.Hearing.ServerHears.{server_side}

-- the id whose call an input is about, if it is about one
abbrev pub server_named : ServerInput → Option ℕ
server_named (input.Feed octets) = None
server_named (input.Answer reply form) = Some reply.id
server_named (input.AnswerLocate id here order) = Some id
server_named (input.Send id) = Some id
server_named (input.Take id) = Some id
server_named input.Close = None

-- what an input is to a server's end with these calls
abbrev pub server_deed : Interface → Limits → Held ServerRule ServerEntry → ServerInput
    → Deed ServerEvent CallFault
server_deed interface limits h (input.Feed octets) = Feeds octets
server_deed interface limits h (input.Answer reply form) = PutsOut reply.id
    (answer_fault interface limits (question_of (entry_at h reply.id)) reply form.form)
    (IsAnswer interface (question_of (entry_at h reply.id)) reply form.form)
server_deed interface limits h (input.AnswerLocate id here order) = PutsOut id None
    (IsLocateAnswer id here order (locate_of here (entry_at h id)))
server_deed interface limits h (input.Send id) = PutsOut id None
    (λ planned. planned ≡ record { event = event.Send; plan = Next })
server_deed interface limits h (input.Take id) = TakesOut id
server_deed interface limits h input.Close = Closes

-- its inputs told apart
abbrev pub read_by_server : ServerInput → Option (List ℕ)
read_by_server (input.Feed octets) = Some octets
read_by_server given = None

abbrev pub at_server : Sorting ServerInput
at_server = record { fed = read_by_server; named = server_named; feeds = input.Feed }

-- a run of a server's end
abbrev pub server_run : Interface → RunOf ServerRule ServerEntry ServerEvent (Unit {0}) CallFault
    ServerInput (Option ServerEntry) HeardCall
server_run interface = record {
  side = server_side interface;
  rule = record {};
  deed = server_deed interface;
  sorting = at_server;
  Within = ServerIsGivenWithin;
  telling = server_telling interface;
  unknown = None;
  entry_in = λ entry. entry;
  standing = standing;
}
