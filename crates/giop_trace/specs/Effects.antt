-- What each message does to what stands under its id (CORBA 3.3 Part 2, 9.4).
use Rattle.std.specs.Prelude.{Bool, true, false, not, if◌then◌else◌, Option, Some, None, is_none}
use Rattle.giop_msg.specs.declared.kind.Kind.{Kind}
use Rattle.giop_msg.specs.declared.kind.Kind.TheVariants.{Request, LocateRequest, CancelRequest, Reply, LocateReply, Fragment}
use Rattle.giop_msg.specs.declared.msg.Msg.{Msg}
use Rattle.giop_trace.specs.declared.direction.Direction.{Direction}
use Rattle.giop_trace.specs.declared.direction.Direction.TheVariants.{Client, Server}
use Rattle.giop_trace.specs.declared.flow.Flow.{Flow}
use Rattle.giop_trace.specs.declared.heard.Heard.{Heard}
use Rattle.giop_trace.specs.Flows.{continues, is_over, is_whole, joined}

-- what one message does to the flow of its id
pub record Effect : Type 0 where
  -- the call that had the id before, where the message begins another
  pub earlier : Option Flow
  -- what stands under the id then
  pub stays : Option Flow
  -- the call that is over by the message
  pub over : Option Flow

-- a call of which a message of the client came alone, and one of which one of the server did
abbrev pub asked_by : Msg → Flow
asked_by m = record { asked = Some m; answer = None; cancelled = false }

abbrev pub answered_by : Msg → Flow
answered_by m = record { asked = None; answer = Some m; cancelled = false }

-- a message by itself
abbrev pub lone : Direction → Msg → Flow
lone Client m = asked_by m
lone Server m = answered_by m

-- this stays under the id, and nothing is over
abbrev pub stays : Option Flow → Effect
stays flow = record { earlier = None; stays = flow; over = None }

-- a message that has no place in the call under its id, nor begins one: it is told by itself
abbrev pub strays : Direction → Option Flow → Msg → Effect
strays direction entry m = record {
  earlier = None;
  stays = entry;
  over = Some (lone direction m);
}

-- a call goes on, or is over, and there was another before it
abbrev pub goes_on : Bool → Option Flow → Flow → Effect
goes_on alone earlier flow = if is_over alone flow
    then record { earlier = earlier; stays = None; over = Some flow }
    else record { earlier = earlier; stays = Some flow; over = None }

-- a message with a Fragment behind it, where there is one
abbrev pub extended : Option Msg → Msg → Option Msg
extended None fragment = None
extended (Some m) fragment = Some (joined m fragment)

-- a Fragment of the client
abbrev pub asks_on : Bool → Option Flow → Msg → Effect
asks_on alone None m = strays Client None m
asks_on alone (Some flow) m = if continues flow.asked m
    then goes_on alone None (record flow { asked = extended flow.asked m })
    else strays Client (Some flow) m

-- a CancelRequest: an answer may still come where the request came whole (9.4.4)
abbrev pub cancels : Option Flow → Effect
cancels None = stays None
cancels (Some flow) = if is_whole flow.asked
    then stays (Some (record flow { cancelled = true }))
    else record { earlier = None; stays = None; over = Some (record flow { cancelled = true }) }

-- a message of the client; a request begins a call, whatever stood under its id
abbrev pub asks : Bool → Option Flow → Kind → Msg → Effect
asks alone entry Request m = goes_on alone entry (asked_by m)
asks alone entry LocateRequest m = goes_on alone entry (asked_by m)
asks alone entry CancelRequest m = cancels entry
asks alone entry Fragment m = asks_on alone entry m
asks alone entry _ m = strays Client entry m

-- a Reply or a LocateReply: of the call under its id, or of none where that has an answer
abbrev pub answers_call : Bool → Option Flow → Msg → Effect
answers_call alone None m = goes_on alone None (answered_by m)
answers_call alone (Some flow) m = if is_none flow.answer
    then goes_on alone None (record flow { answer = Some m })
    else goes_on alone (Some flow) (answered_by m)

-- a Fragment of the server
abbrev pub answers_on : Bool → Option Flow → Msg → Effect
answers_on alone None m = strays Server None m
answers_on alone (Some flow) m = if continues flow.answer m
    then goes_on alone None (record flow { answer = extended flow.answer m })
    else strays Server (Some flow) m

-- a message of the server
abbrev pub answers : Bool → Option Flow → Kind → Msg → Effect
answers alone entry Reply m = answers_call alone entry m
answers alone entry LocateReply m = answers_call alone entry m
answers alone entry Fragment m = answers_on alone entry m
answers alone entry _ m = strays Server entry m

-- a message of either
abbrev pub effect : Bool → Direction → Option Flow → Msg → Effect
effect alone Client entry m = asks alone entry m.kind m
effect alone Server entry m = answers alone entry m.kind m

-- whether a message of a direction that is no Fragment has a place in a call, by its kind
abbrev pub has_place : Direction → Kind → Bool
has_place Client Request = true
has_place Client LocateRequest = true
has_place Client CancelRequest = true
has_place Server Reply = true
has_place Server LocateReply = true
has_place _ _ = false

-- whether a Fragment of a direction continues what stands under its id
abbrev pub continues_in : Direction → Option Flow → Msg → Bool
continues_in direction None m = false
continues_in Client (Some flow) m = continues flow.asked m
continues_in Server (Some flow) m = continues flow.answer m

-- whether a message has no place in the call under its id, nor begins one
abbrev pub is_stray : Direction → Option Flow → Kind → Msg → Bool
is_stray direction entry Fragment m = not (continues_in direction entry m)
is_stray direction entry kind m = not (has_place direction kind)

-- what a message does that leaves a flow in what is told of it: the flow goes on, or is over
abbrev pub effect_left : Bool → Heard → Effect
effect_left stays told = if stays
    then record { earlier = told.earlier; stays = told.over; over = None }
    else record { earlier = told.earlier; stays = None; over = told.over }
