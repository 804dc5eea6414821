-- What `trace` tells of the messages of a connection, in the order in which they are heard.
use Rattle.std.specs.Prelude.{◌≡◌, ◌⊎◌, ℕ, ◌&&◌, Bool, true, false, List, [], ◌∷◌, ◌++◌, length, Option, Some, None, Ok, Err, if◌then◌else◌}
use Rattle.std.specs.FinMap as finite
use Rattle.std.specs.List.{flat_map}
use Rattle.std.specs.Io.KnownBytes.{Appends}
use Rattle.giop_ids.specs.ById.{ById}
use Rattle.giop_msg.specs.declared.msg.Msg.{Msg}
use Rattle.giop_msg.specs.Stream.{Msgs}
use Rattle.giop_trace.specs.declared.direction.Direction.{Direction}
use Rattle.giop_trace.specs.declared.direction.Direction.TheVariants.{Client, Server}
use Rattle.giop_trace.specs.declared.flow.Flow.{Flow}
use Rattle.giop_trace.specs.declared.heard.Heard.{Heard as Told}
use Rattle.giop_trace.specs.Observing.{heard as heard_of, is_early, left}
use Rattle.giop_json.specs.declared.form_fault.FormFault.{FormFault}
use Rattle.giop_types.specs.declared.interfaces.interface.Interface.{Interface}
use Rattle.giop_json.specs.DescFromJson.{json_in}
use Rattle.giop_json.specs.InterfaceFromJson.{interface_told, interface_view}
use Rattle.giop_lines.specs.declared.refusal.RefusalLine.TheVariants.{Form}
use Rattle.giop_forms.specs.declared.line_form.LineForm.{LineForm}
use Rattle.giop_show.specs.declared.status.Status.{Status}
use Rattle.giop_show.specs.declared.status.Status.TheVariants.{Refused}
use Rattle.giop_tracing.specs.declared.trace.Heard.{Heard}
use Rattle.giop_tracing.specs.declared.trace.Heard.TheVariants as heard
use Rattle.giop_tracing.specs.declared.trace.call_line.Unanswered.{Unanswered}
use Rattle.giop_tracing.specs.declared.trace.call_line.Unanswered.TheVariants.{Oneway, NoAnswer, Untold}
use Rattle.giop_show.specs.Forms.{ended, refused_in}
use Rattle.giop_show.specs.Rest.{rest_fault}
use Rattle.giop_tracing.specs.Trace.Outcome.{direction_end_in}
use Rattle.giop_tracing.specs.Trace.Json.{call_line}

-- what is said of a call without an answer that is open at its end: nothing, where the client is
-- heard alone
abbrev pub still_open : Bool → Unanswered
still_open alone = if alone then Untold else NoAnswer

-- and of one that is over: no reply is expected
abbrev pub over_as : Bool → Option ℕ → Unanswered
over_as alone None = still_open alone
over_as alone (Some id) = if alone then Untold else Oneway

-- the line of a call, if there is one
abbrev pub flow_line : LineForm → Interface → Option ℕ → Unanswered → Option Flow → List ℕ
flow_line form interface id unanswered None = []
flow_line form interface id unanswered (Some flow) =
    ended (call_line form interface id flow unanswered)

-- the lines of the calls that are over by a message
abbrev pub heard_lines : LineForm → Interface → Bool → Told → List ℕ
heard_lines form interface alone told =
    flow_line form interface told.id (still_open alone) told.earlier
    ++ flow_line form interface told.id (over_as alone told.id) told.over

-- the line of the call of an id that is open
abbrev pub open_line : LineForm → Interface → Bool → ById Flow → ℕ → List ℕ
open_line form interface alone flows id =
    flow_line form interface (Some id) (still_open alone) (finite.get flows id)

-- ---- both directions

-- what comes of messages of the server: their lines, the calls that are open then, and the messages
-- that wait
pub record Turn : Type 0 where
  pub lines : List ℕ
  pub flows : ById Flow
  pub later : List Msg

-- the same behind these lines
abbrev pub behind : List ℕ → Turn → Turn
behind lines turn = record turn { lines = lines ++ turn.lines }

-- messages of the server, to their end or, where the client's go on, up to the first Reply whose
-- request isn't whole yet
abbrev pub server_turn : LineForm → Interface → Bool → ById Flow → List Msg → Turn
server_turn form interface waits flows [] = record { lines = []; flows = flows; later = [] }
server_turn form interface waits flows (m ∷ ms) = if waits && is_early flows m
    then record { lines = []; flows = flows; later = m ∷ ms }
    else behind (heard_lines form interface false (heard_of false flows Server m))
    (server_turn form interface waits (left false flows Server m) ms)

-- what comes of messages of both: after each message of the client those of the server that don't
-- wait are heard, and after the last one all that are left
abbrev pub both_turn : LineForm → Interface → ById Flow → List Msg → List Msg → Turn
both_turn form interface flows [] server = server_turn form interface false flows server
both_turn form interface flows (m ∷ client) server =
    let turn = server_turn form interface true (left false flows Client m) server in
    behind (heard_lines form interface false (heard_of false flows Client m) ++ turn.lines)
    (both_turn form interface turn.flows client turn.later)

-- what comes of messages of the client, where it is heard alone
abbrev pub client_turn : LineForm → Interface → ById Flow → List Msg → Turn
client_turn form interface flows [] = record { lines = []; flows = flows; later = [] }
client_turn form interface flows (m ∷ ms) =
    behind (heard_lines form interface true (heard_of true flows Client m))
    (client_turn form interface (left true flows Client m) ms)

-- ---- the whole text

-- whether the client is heard alone
abbrev pub is_alone : Heard → Bool
is_alone heard.Client = true
is_alone heard.Both = false

-- the lines of calls that are open at the end, in ascending order of their ids
abbrev pub all_open : LineForm → Interface → Bool → ById Flow → List ℕ
all_open form interface alone flows =
    flat_map (open_line form interface alone flows) (finite.keys flows)

-- the lines of calls of a connection, and then of those that are open
abbrev pub calls_text : LineForm → Interface → Bool → Turn → List ℕ
calls_text form interface alone turn =
    turn.lines ++ all_open form interface alone turn.flows

-- the last line of a direction, behind whose messages these octets are left
abbrev pub end_text : LineForm → ℕ → Direction → List ℕ → List ℕ
end_text form limit direction rest =
    ended (direction_end_in form direction (rest_fault limit rest) (length rest))

-- the text of a connection of which the client is heard alone, by its messages and a rest
abbrev pub client_text : LineForm → Interface → ℕ → List Msg → List ℕ → List ℕ
client_text form interface limit client rest =
    calls_text form interface true (client_turn form interface finite.empty client)
    ++ end_text form limit Client rest

-- and of one of which both are heard
abbrev pub both_text : LineForm → Interface → ℕ → List Msg → List ℕ → List Msg → List ℕ → List ℕ
both_text form interface limit client rest server left_over =
    calls_text form interface false (both_turn form interface finite.empty client server)
    ++ (end_text form limit Client rest ++ end_text form limit Server left_over)

-- known octets are these messages and a rest; of octets that aren't known nothing is said
abbrev pub AreMessages : ℕ → Option (List ℕ) → List Msg → List ℕ → Type 0
AreMessages limit None messages rest = ⊥
AreMessages limit (Some octets) messages rest = Msgs limit octets messages rest

-- what a run of `trace` does to the writer's contents, by the octets that two readers give, where
-- they are known; each stream has one split into messages and a rest
abbrev pub Traces : LineForm → Interface → ℕ → Heard → Option (List ℕ) → Option (List ℕ)
    → Option (List ℕ) → Option (List ℕ) → Type 0
Traces form interface limit heard.Client client server old new =
    (messages : List Msg) (rest : List ℕ) → AreMessages limit client messages rest
    → Appends old new (client_text form interface limit messages rest)
Traces form interface limit heard.Both client server old new =
    (asked answered : List Msg) (rest left_over : List ℕ) → AreMessages limit client asked rest
    → AreMessages limit server answered left_over
    → Appends old new (both_text form interface limit asked rest answered left_over)

-- a trace by the interface that a JSON text is; where it is none, its fault is reported alone
abbrev pub TracesText : List ℕ → ℕ → LineForm → Heard → Option (List ℕ) → Option (List ℕ)
    → Option (List ℕ) → Option (List ℕ) → Status → Type 0
TracesText text limit form heard client server old new status =
    ((interface : Interface) × (interface_told (json_in text) ≡ Ok (interface_view interface))
    × (interface.objects.entries ≡ [])
    × Traces form interface limit heard client server old new)
    ⊎ ((status ≡ Refused) × ((e : FormFault) × (interface_told (json_in text) ≡ Err e)
    × Appends old new (ended (refused_in form (Form e)))))
