-- What a client's end is given in a run, and what an input is to it.
use Rattle.std.specs.Prelude.{◌≡◌, ℕ, List, Option, None, Some}
use Rattle.giop_types.specs.declared.interfaces.interface.Interface.{Interface}
use Rattle.giop_calls.specs.declared.fault.CallFault.{CallFault}
use Rattle.giop_calls.specs.declared.client.entry.ClientEntry.{ClientEntry}
use Rattle.giop_calls.specs.declared.client.event.ClientEvent.{ClientEvent}
use Rattle.giop_calls.specs.declared.client.event.ClientEvent.TheVariants as event
use Rattle.giop_calls.specs.declared.client.heard.HeardReply.{HeardReply}
use Rattle.giop_calls.specs.declared.client.rule.ClientRule.{ClientRule}
use Rattle.giop_calls.specs.ClientStanding.{standing}
use Rattle.giop_session.specs.declared.laws.inputs.ClientInput.{ClientInput}
use Rattle.giop_session.specs.declared.laws.inputs.ClientInput.TheVariants as input
use Rattle.giop_end.specs.declared.limits.Limits.{Limits}
use Rattle.giop_table.specs.declared.plan.Plan.TheVariants.{Next}
use Rattle.giop_table.specs.CallTable.{Held, entry_at}
use Rattle.giop_end.specs.Acts.ClientCalls.{IsCall, IsCancel, IsLocate, call_fault, cancel_fault, locate_fault, open_version}
use Rattle.giop_session.specs.Items.ClientCarries.{Known, client_telling, unknown}
use Rattle.giop_end.specs.Hearing.ClientHears.{client_side}
use Rattle.giop_session.specs.Runs.Driven.{Closes, Deed, Feeds, PutsOut, TakesOut}
use Rattle.giop_session.specs.Runs.Met.{Sorting}
use Rattle.giop_session.specs.Runs.RunLimits.{ClientIsGivenWithin}
use Rattle.giop_session.specs.Runs.SideRuns.{RunOf}

-- the id whose call an input is about, if it is about one
abbrev pub client_named : ClientInput → Option ℕ
client_named (input.Feed octets) = None
client_named (input.Call request form) = Some request.head.id
client_named (input.Locate request form) = Some request.id
client_named (input.Cancel id order) = Some id
client_named (input.Send id) = Some id
client_named (input.Take id) = Some id
client_named input.Close = None

-- what an input is to a client's end with these calls
abbrev pub client_deed : Interface → Limits → Held ClientRule ClientEntry → ClientInput
    → Deed ClientEvent CallFault
client_deed interface limits h (input.Feed octets) = Feeds octets
client_deed interface limits h (input.Call request form) = PutsOut request.head.id
    (call_fault interface limits (entry_at h request.head.id) request form.form)
    (IsCall interface request form.form)
client_deed interface limits h (input.Locate request form) = PutsOut request.id
    (locate_fault limits (entry_at h request.id) request form.form)
    (IsLocate request form.form)
client_deed interface limits h (input.Cancel id order) = PutsOut id
    (cancel_fault (open_version (entry_at h id)))
    (IsCancel id order (open_version (entry_at h id)))
client_deed interface limits h (input.Send id) = PutsOut id None
    (λ planned. planned ≡ record { event = event.Send; plan = Next })
client_deed interface limits h (input.Take id) = TakesOut id
client_deed interface limits h input.Close = Closes

-- its inputs told apart
abbrev pub read_by_client : ClientInput → Option (List ℕ)
read_by_client (input.Feed octets) = Some octets
read_by_client given = None

abbrev pub at_client : Sorting ClientInput
at_client = record { fed = read_by_client; named = client_named; feeds = input.Feed }

-- a run of a client's end
abbrev pub client_run : Interface → RunOf ClientRule ClientEntry ClientEvent (Unit {0}) CallFault
    ClientInput Known HeardReply
client_run interface = record {
  side = client_side interface;
  rule = record {};
  deed = client_deed interface;
  sorting = at_client;
  Within = ClientIsGivenWithin;
  telling = client_telling interface;
  unknown = unknown;
  entry_in = λ known. known.entry;
  standing = standing;
}
