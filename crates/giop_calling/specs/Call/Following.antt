-- What `call --follow` does: a call that is forwarded is made again at the first IIOP profile of
-- the reference that its Reply has (CORBA 3.3 Part 2, 9.4.3.1: LOCATION_FORWARD,
-- LOCATION_FORWARD_PERM).
use Rattle.std.specs.Prelude.{ℕ, ◌==◌, Bool, List, [], ◌∷◌, ◌++◌, Option, Some, None, option_and_then}
use Rattle.std.specs.FinMap as finite
use Rattle.std.specs.List.{flat_map, fold, filter, list_all, list_any}
use Rattle.std.specs.Option.{option_or}
use Rattle.giop_calls.specs.declared.client.entry.ClientEntry.{ClientEntry}
use Rattle.giop_calls.specs.declared.client.entry.ClientEntry.TheVariants.{Done as done}
use Rattle.giop_msg.specs.declared.messages.reply_body.ReplyBody.{ReplyBody}
use Rattle.giop_msg.specs.declared.messages.reply_body.ReplyBody.TheVariants.{Forward as forward, ForwardPerm}
use Rattle.giop_types.specs.declared.interfaces.interface.Interface.{Interface}
use Rattle.giop_end.specs.declared.session_fault.SessionFault.{SessionFault}
use Rattle.giop_end.specs.Ends.View.{end_between}
use Rattle.giop_end.specs.Pumping.{Between}
use Rattle.giop_asked_calls.specs.declared.calls.CallLine.{CallLine}
use Rattle.giop_calling.specs.declared.call.following.Forward.{Forward}
use Rattle.giop_calling.specs.declared.call.given.Calling.{Calling}
use Rattle.giop_forms.specs.declared.line_form.LineForm.{LineForm}
use Rattle.giop_commands.specs.declared.session.target.Endpoint.{Endpoint}
use Rattle.giop_commands.specs.Session.Acts.{Outbox}
use Rattle.giop_calling.specs.Call.Streaming.{box_of, with_box}
use Rattle.giop_calling.specs.Call.Calling.{Asked, CallsAll, ClientCalls, ClientSide, Talks, asked_of, entry_at}
use Rattle.giop_commands.specs.Session.Printed.{fault_text}
use Rattle.giop_calling.specs.Call.Printed.{is_well}
use Rattle.giop_commands.specs.Session.Tables.Table.{client_entry_in, entry_text}
use Rattle.giop_commands.specs.Session.Target.{place_in}

-- ---- where a call is forwarded to

-- where a Reply forwards its call to, for this call or for good
abbrev pub body_place : ReplyBody → Option Endpoint
body_place (forward ior) = place_in ior
body_place (ForwardPerm ior) = place_in ior
body_place _ = None

-- where the call of an entry is to be made again, if it is forwarded
abbrev pub entry_place : ClientEntry → Option Endpoint
entry_place (done request reply) = body_place reply.body
entry_place _ = None

-- ---- sessions, one after the other

-- what the call of an id came to where it was made last
abbrev pub latest : List ClientSide → ℕ → Option ClientEntry
latest ends id = fold (λ found end. option_or (entry_at end.calls id) found) None ends

-- the ids of the calls, ascending: those of the first session
abbrev pub ids_of : List ClientSide → List ℕ
ids_of [] = []
ids_of (end ∷ ends) = finite.keys end.calls.table

-- the call of an id, where it is forwarded
abbrev pub forward_to : ℕ → Option Endpoint → List Forward
forward_to id (Some to) = record { id = id; to = to } ∷ []
forward_to id None = []

abbrev pub forward_at : List ClientSide → ℕ → List Forward
forward_at ends id = forward_to id (option_and_then entry_place (latest ends id))

-- the calls that are to be made again, ascending
abbrev pub forwards_of : List ClientSide → List Forward
forwards_of ends = flat_map (forward_at ends) (ids_of ends)

-- whether an id is one of these
abbrev pub is_one_of : List ℕ → ℕ → Bool
is_one_of ids id = list_any (λ one. one == id) ids

-- the calls of these ids
abbrev pub calls_of : List ℕ → List CallLine → List CallLine
calls_of ids calls = filter (λ call. is_one_of ids call.id) calls

-- these calls are made at an end, which then talks over the wire
module _ (asked : Asked) where
  pub record CallsAt (s : Between ClientCalls) (refused : Option SessionFault) (t : Between ClientCalls) : Type 0 where
    pub box : Outbox ClientCalls
    pub calls : CallsAll asked s.state.fault (box_of s) refused box
    pub talks : Talks asked.interface refused (with_box s box) t

-- between a reader and a writer of these octets
abbrev pub CallsBetween : Calling → List CallLine → (input output : Option (List ℕ)) → ClientSide
    → Option SessionFault → (input' output' : Option (List ℕ)) → ClientSide → Type 0
CallsBetween calling calls input output e refused input' output' e' =
    CallsAt (asked_of calling calls) (end_between input output e) refused
    (end_between input' output' e')

-- ---- what is told

-- the line of a call, by what it came to where it was made last
abbrev pub latest_at : LineForm → Interface → List ClientSide → ℕ → List ℕ
latest_at lines interface ends id =
    entry_text (client_entry_in lines interface id) (latest ends id)

-- the line of each, ascending
abbrev pub latest_text : LineForm → Interface → List ClientSide → List ℕ
latest_text lines interface ends = flat_map (latest_at lines interface ends) (ids_of ends)

-- and the fault that ended the last session, where one did
abbrev pub followed_text : LineForm → Interface → List ClientSide → Option SessionFault → List ℕ
followed_text lines interface ends fault =
    latest_text lines interface ends ++ fault_text lines fault

-- whether all calls went well where they were made last
abbrev pub latest_well : List ClientSide → Bool
latest_well ends = list_all (λ id. is_well (latest ends id)) (ids_of ends)
