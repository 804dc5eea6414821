-- How an end hears what comes as `coding` reads it, piece by piece (CORBA 3.3 Part 2, 9.4.1 and
-- 9.4.9).
use Rattle.std.specs.Prelude.{◌≡◌, List, [], ◌∷◌, ◌++◌, Some, true}
use Rattle.giop_types.specs.declared.interfaces.interface.Interface.{Interface}
use Rattle.giop_msg.specs.declared.kind.Kind.TheVariants.{Fragment}
use Rattle.giop_msg.specs.declared.msg.Msg.{Msg}
use Rattle.giop_calls.specs.Lane.{Cut, Standing, client_event, pieces_of, server_event}
use Rattle.giop_calls.specs.declared.client.call.Call.{Call as Asked}
use Rattle.giop_calls.specs.declared.client.entry.ClientEntry.{ClientEntry}
use Rattle.giop_calls.specs.declared.client.entry.ClientEntry.TheVariants.{Gathering}
use Rattle.giop_calls.specs.declared.client.event.ClientEvent.{ClientEvent}
use Rattle.giop_calls.specs.declared.client.event.ClientEvent.TheVariants as at_client
use Rattle.giop_calls.specs.declared.kind.CallKind.{CallKind}
use Rattle.giop_calls.specs.declared.server.entry.ServerEntry.{ServerEntry}
use Rattle.giop_calls.specs.declared.server.event.ServerEvent.{ServerEvent}
use Rattle.giop_calls.specs.declared.server.event.ServerEvent.TheVariants as at_server
use Rattle.giop_table.specs.declared.plan.Planned.{Planned}
use Rattle.giop_table.specs.CallTable.{Act, Brings, Call, Hears, More}
use Rattle.giop_end.specs.Hearing.ClientHears.{client_act}
use Rattle.giop_end.specs.Hearing.Heard.{behind_id, silently}
use Rattle.giop_end.specs.Hearing.ServerHears.{server_act}
use Rattle.giop_session.specs.Worlds.Coding.{coding}
use Rattle.giop_session.specs.Worlds.LaneAtEnds.{seen}

-- a Fragment comes in the byte order of these pieces
abbrev pub IsContinuedBy : Cut → Msg → Type 0
IsContinuedBy cut m = (m.kind ≡ Fragment) × (m.order ≡ cut.first.order)

-- a call that comes in one piece, and one whose last piece this is: the pieces before it are
-- gathered
abbrev pub whole_call : Interface → Msg → Planned ServerEvent
whole_call interface m = silently (at_server.Whole ((coding interface).read_call (m ∷ [])))

abbrev pub last_of_call : Interface → Cut → Msg → Act ServerEvent
last_of_call interface cut m =
    let read = (coding interface).read_call (pieces_of cut ++ m ∷ []) in
    Hears (silently (at_server.Last true read)) (More (behind_id m))

-- a reply that comes in one piece, and one whose last piece this is
abbrev pub whole_reply : Interface → CallKind → Asked → Msg → Planned ClientEvent
whole_reply interface kind call m =
    silently (at_client.Whole kind m.version ((coding interface).read_reply call (m ∷ [])))

abbrev pub last_of_reply : Interface → Asked → Cut → Msg → Act ClientEvent
last_of_reply interface call cut m =
    let read = (coding interface).read_reply call (pieces_of cut ++ m ∷ []) in
    Hears (silently (at_client.Last true read)) (More (behind_id m))

-- what a server's end hears of a message, behind these pieces, is the event that its lane has
abbrev pub ServerHearsEvent : Interface → List Msg → Msg → Call ServerEntry → Brings → Type 0
ServerHearsEvent interface pieces m call brings = server_act interface m call
    ≡ Hears (silently (server_event (coding interface) pieces (seen m))) brings

-- and so of a client's end, where this stands at the client of the lane
abbrev pub ClientHearsEvent : Interface → Standing ClientEntry → Msg → Call ClientEntry → Brings
    → Type 0
ClientHearsEvent interface c m call brings = (event : ClientEvent)
    × (client_event (coding interface) c (seen m) ≡ Some event)
    × (client_act interface m call ≡ Hears (silently event) brings)

-- a client's call whose reply has come so far in these pieces
abbrev pub IsGathering : Asked → Cut → Standing ClientEntry → Type 0
IsGathering call cut c = (c.entry ≡ Some (Gathering call)) × (c.pieces ≡ pieces_of cut)
