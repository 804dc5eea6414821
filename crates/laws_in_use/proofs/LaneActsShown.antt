-- Lanes on which a message of `door` is next to arrive: their acts lead there, and ends show them.
use Rattle.std.proofs.Common.{◌≡◌, ◌<◌, ◌+◌, ℕ, [], ◌∷◌, List, Option, Some, None, Ok, refl, sym, ap, subst, inl, inr, arith}
use Rattle.std.specs.FinMap as finite
use Rattle.std.specs.Ordering.{nat_cmp}
use Rattle.giop_ids.proofs.Lengths.{len_within_ids}
use Rattle.giop_types.specs.declared.interfaces.interface.Interface.{Interface}
use Rattle.giop_cdr.specs.Ending.{leads, made_of, remainder}
use Rattle.giop_cdr.specs.Layout.{number, signed, octets, such, field, gives, reserved, chosen}
use Rattle.giop_cdr.specs.Reading.Values.{count_at, field_at, number_at, octets_at, signed_at, such_at}
use Rattle.giop_msg.specs.Header.{header_octets, header_of, header_fault}
use Rattle.giop_msg.specs.Joined.{whole_of_joined}
use Rattle.giop_msg.specs.Locate.{locate_reply_head, locate_request, locate_status, located}
use Rattle.giop_msg.specs.Meaning.{meaning}
use Rattle.giop_msg.specs.Messages.LocateReply.{locate_reply}
use Rattle.giop_msg.specs.RequestId.{request_id_layout}
use Rattle.giop_msg.specs.Target.{disposition, key_target, object_key, target_by, target_layout}
use Rattle.giop_msg.specs.declared.version.Version.TheVariants.{V12}
use Rattle.giop_frag.specs.Gathered.{total_of}
use Rattle.giop_calls.specs.Lane.{Lane, Runs, ToClient, ToServer, new, step}
use Rattle.giop_calls.specs.ClientTable as client
use Rattle.giop_calls.specs.declared.client.entry.ClientEntry.{ClientEntry}
use Rattle.giop_calls.specs.declared.client.entry.ClientEntry.TheVariants.{LocateDone}
use Rattle.giop_calls.specs.declared.client.event.ClientEvent.TheVariants as event
use Rattle.giop_calls.specs.declared.client.heard.HeardReply.TheVariants as reply
use Rattle.giop_calls.specs.declared.kind.CallKind.TheVariants as kind
use Rattle.giop_calls.specs.declared.server.entry.ServerEntry.{ServerEntry}
use Rattle.giop_calls.specs.declared.server.entry.ServerEntry.TheVariants.{Gathering}
use Rattle.giop_session.specs.declared.SessionFault.{SessionFault}
use Rattle.giop_session.specs.declared.SessionFault.TheVariants.{NoMemory}
use Rattle.giop_session.specs.Calls.CallTable.{Call, Hears, Nothing, at, put_call}
use Rattle.giop_session.specs.Hearing.ClientHears.{client_act, client_breaks, client_side}
use Rattle.giop_session.specs.Worlds.Coding.{coding}
use Rattle.giop_session.specs.Hearing.Heard.{silently, hears as hears_at}
use Rattle.giop_session.specs.Worlds.LaneAtEnds.{IsOfLimit}
use Rattle.giop_session.specs.Worlds.Tracks.{ClientShows, IsToClient, IsToServer, ServerShows}
use Rattle.laws_in_use.specs.Asking.{here}
use Rattle.laws_in_use.specs.Hearing.{waits}
use Rattle.laws_in_use.specs.LaneActs.{answered_acts, answered_lane, asked_acts, asked_lane, awaiting}
use Rattle.laws_in_use.specs.Left.{new_client}
use Rattle.laws_in_use.specs.Limited.{new_server}
use Rattle.laws_in_use.specs.Locating.{door, door_begins, here_big, limits}
use Rattle.laws_in_use.proofs.AskingRuns as asking
use Rattle.laws_in_use.proofs.LocatingMessages.{named}
use Rattle.laws_in_use.proofs.LocatingRuns as locating
use Rattle.laws_in_use.proofs.OwnLaneRuns.{door_is_read, suits}
use Rattle.laws_in_use.proofs.Taking.{Stands, at-put, hears, stands_more, stands_none}

abbrev ids : List ℕ
ids = 7 ∷ 9 ∷ []

-- what stands at either end of a lane that an act leads to, if it does
abbrev server_of : Option Lane → Option ServerEntry
server_of None = None
server_of (Some lane) = lane.server.entry

abbrev client_of : Option Lane → Option ClientEntry
client_of None = None
client_of (Some lane) = lane.client.entry

-- a server
pub runs_asked : (interface : Interface) → Runs (coding interface) new asked_acts asked_lane
runs_asked interface = (door_is_read interface, (_, refl, refl))

shows_none : ServerShows 7 locating.none asked_lane
shows_none = record { entry = refl; each = tt; unsent = refl; gathered = λ k is. absurd cc }

pub shows_asked : ServerShows 7 (at (new_server limits) 7) asked_lane
shows_asked = subst (λ (call : Call ServerEntry). ServerShows 7 call asked_lane) (sym (locating.none_at limits 7)) shows_none

pub next_asked : IsToServer 7 door_begins
unfolding header_octets header_of header_fault
next_asked = record { framed = record { sized = omega arith; sound = refl }; names = named.door_begins; unbroken = refl }

pub gathers_then : (interface : Interface) (after : Lane) → step (coding interface) asked_lane ToServer ≡ Some after
    → after.server.entry ≡ Some (Gathering kind.Locate)
gathers_then interface after is = sym (ap server_of is)

new_stands : Stands (new_server limits) limits ids 0
new_stands = stands_none (record {}) limits ids

pub server_memory_alone : (why : SessionFault) → IsOfLimit door_begins (new_server limits) why → why ≡ NoMemory
server_memory_alone why (inl met) =
    let less = len_within_ids ids (new_server limits).table new_stands.only in
    let full : finite.len (new_server limits).table ≡ 3 = met.1 in
    absurd (omega (arith, less, full))
server_memory_alone why (inr (inl met)) =
    let held : total_of (new_server limits).gathered ≡ 0 = new_stands.total in
    let over : 20 < total_of (new_server limits).gathered + 12 = met.1 in
    absurd (omega (arith, held, over))
server_memory_alone why (inr (inr is)) = is

-- a client
pub runs_answered : (interface : Interface) → Runs (coding interface) new answered_acts answered_lane
unfolding whole_of_joined locate_request located object_key meaning target_layout target_by disposition key_target
    number signed octets such field gives reserved chosen count_at field_at number_at octets_at signed_at such_at
runs_answered interface = (
  door_is_read interface,
  (_, refl, (tt, (_, refl, (tt, (_, refl, (tt, (_, refl, (suits interface, (_, refl, refl))))))))),
)

shows_waits : ClientShows 7 waits answered_lane
shows_waits = record { entry = refl; each = tt; unsent = refl; gathered = λ q is. absurd cc }

waits_at : at awaiting 7 ≡ waits
waits_at = at-put (new_client limits) 7 waits 7

pub shows_answered : ClientShows 7 (at awaiting 7) answered_lane
shows_answered = subst (λ (call : Call ClientEntry). ClientShows 7 call answered_lane) (sym waits_at) shows_waits

pub next_answered : IsToClient 7 here_big
unfolding header_octets header_of header_fault request_id_layout chosen number number_at field_at
next_answered = record { framed = record { sized = omega arith; sound = refl }; names = refl; unbroken = refl }

none_at : at (new_client limits) 7 ≡ asking.none
none_at i = record { slot = finite.get-empty nat_cmp 7 i; pieces = finite.get-empty nat_cmp 7 i }

stands : Stands awaiting limits ids 0
stands = stands_more (new_client limits) limits ids 0 0 7 asking.none waits (stands_none (record {}) limits ids) refl none_at refl

act_by : (interface : Interface) → client_act interface here_big waits ≡ Hears (silently (event.Whole kind.Locate V12 (reply.Locate here))) Nothing
unfolding locate_reply locate_reply_head locate_status leads made_of remainder number such field gives field_at number_at such_at
act_by interface = refl

pub heard_answer : (interface : Interface)
    → hears_at (client_side interface)
    here_big awaiting (Ok tt) (put_call awaiting 7 (asking.located))
heard_answer interface =
    hears client.client_step client.is_closed client.is_gathering client_breaks (client_act interface) awaiting limits ids 0 here_big 7
    (silently (event.Whole kind.Locate V12 (reply.Locate here))) Nothing waits asking.located refl next_answered.names stands (omega arith)
    (omega arith) waits_at (act_by interface) refl

pub answered_then : (interface : Interface) (after : Lane) → step (coding interface) answered_lane ToClient ≡ Some after
    → after.client.entry ≡ Some (LocateDone door here)
unfolding locate_reply locate_reply_head locate_status leads made_of remainder number such field gives field_at number_at such_at
answered_then interface after is = sym (ap client_of is)

pub client_memory_alone : (why : SessionFault) → IsOfLimit here_big awaiting why → why ≡ NoMemory
client_memory_alone why (inl met) =
    let less = len_within_ids ids awaiting.table stands.only in
    let full : finite.len awaiting.table ≡ 3 = met.1 in
    absurd (omega (arith, less, full))
client_memory_alone why (inr (inl met)) =
    let over : 20 < total_of awaiting.gathered + 8 = met.1 in
    absurd (omega (arith, stands.total, over))
client_memory_alone why (inr (inr is)) = is
