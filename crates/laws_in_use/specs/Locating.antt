-- A client asks where two objects are, under the ids 7 and 9, and its server is given that in two
-- ways: other reads, other pieces, another byte order, and the messages of the one id elsewhere
-- between those of the other.
use Rattle.std.specs.Prelude.{ℕ, true, false, ◌==◌, if◌then◌else◌, List, [], ◌∷◌, ◌++◌, codes, take, drop}
use Rattle.giop_cdr.specs.declared.order.Order.TheVariants.{Big, Little}
use Rattle.giop_msg.specs.declared.kind.Kind.TheVariants.{CancelRequest, Fragment, LocateReply, LocateRequest}
use Rattle.giop_msg.specs.declared.msg.Msg.{Msg}
use Rattle.giop_msg.specs.declared.target.Target.TheVariants.{Key}
use Rattle.giop_msg.specs.declared.version.Version.TheVariants.{V10, V12}
use Rattle.giop_msg.specs.Cut.{message_of}
use Rattle.giop_msg.specs.Locate.{AnyLocateRequest}
use Rattle.giop_msg.specs.Msg.{message_octets}
use Rattle.giop_mux.specs.Runs.{Hears}
use Rattle.giop_calls.specs.declared.kind.CallKind.TheVariants as kind
use Rattle.giop_calls.specs.declared.server.event.ServerEvent.{ServerEvent}
use Rattle.giop_calls.specs.declared.server.event.ServerEvent.TheVariants.{AnswerLocate}
use Rattle.giop_calls.specs.declared.server.heard.HeardCall.TheVariants as heard
use Rattle.giop_session.specs.declared.Limits.{Limits}
use Rattle.giop_session.specs.declared.Plan.TheVariants.{Put}
use Rattle.giop_session.specs.Items.Carries.{Bad, Cancel, Did, Got}
use Rattle.giop_session.specs.Runs.Events.{Local}
use Rattle.giop_session.specs.Runs.Inputs.{Does, Input, Reads}
use Rattle.giop_session.specs.Items.ServerCarries.{ServerItem}

-- under 7, in 1.2: where `door` is; big-endian in two messages
abbrev pub door_begins : Msg
door_begins = message_of V12 LocateRequest Big true
    (0 ∷ 0 ∷ 0 ∷ 7 ∷ 0 ∷ 0 ∷ 0 ∷ 0 ∷ 0 ∷ 0 ∷ 0 ∷ 4 ∷ [])

-- its Fragment, with the octets of the key
abbrev pub door_ends : Msg
door_ends = message_of V12 Fragment Big false (0 ∷ 0 ∷ 0 ∷ 7 ∷ codes "door")

-- and little-endian in one, with other octets of padding
abbrev pub door_whole : Msg
door_whole = message_of V12 LocateRequest Little false
    (7 ∷ 0 ∷ 0 ∷ 0 ∷ 0 ∷ 0 ∷ 255 ∷ 255 ∷ 4 ∷ 0 ∷ 0 ∷ 0 ∷ codes "door")

-- under 9, in 1.0: where `k` is, big-endian
abbrev pub key_big : Msg
key_big = message_of V10 LocateRequest Big false (0 ∷ 0 ∷ 0 ∷ 9 ∷ 0 ∷ 0 ∷ 0 ∷ 1 ∷ codes "k")

-- and little-endian
abbrev pub key_little : Msg
key_little = message_of V10 LocateRequest Little false
    (9 ∷ 0 ∷ 0 ∷ 0 ∷ 1 ∷ 0 ∷ 0 ∷ 0 ∷ codes "k")

-- it is cancelled, big-endian in 1.2
abbrev pub cancel_big : Msg
cancel_big = message_of V12 CancelRequest Big false (0 ∷ 0 ∷ 0 ∷ 9 ∷ [])

-- and little-endian in 1.0
abbrev pub cancel_little : Msg
cancel_little = message_of V10 CancelRequest Little false (9 ∷ 0 ∷ 0 ∷ 0 ∷ [])

-- and the id is used again, by octets that spell no LocateRequest: five octets of a key are
-- announced, and none is there
abbrev pub bad_octets : List ℕ
bad_octets = 0 ∷ 0 ∷ 0 ∷ 9 ∷ 0 ∷ 0 ∷ 0 ∷ 5 ∷ []

-- they come as a message of 1.0
abbrev pub bad : Msg
bad = message_of V10 LocateRequest Big false bad_octets

-- the server answers that the object is here, by this message
abbrev pub answering : Msg → Local ServerEvent
answering m = Hears (record { event = AnswerLocate true; plan = Put (m ∷ []) })

-- under 7, big-endian: the id and the status OBJECT_HERE
abbrev pub here_big : Msg
here_big = message_of V12 LocateReply Big false (0 ∷ 0 ∷ 0 ∷ 7 ∷ 0 ∷ 0 ∷ 0 ∷ 1 ∷ [])

-- and little-endian
abbrev pub here_little : Msg
here_little = message_of V12 LocateReply Little false (7 ∷ 0 ∷ 0 ∷ 0 ∷ 1 ∷ 0 ∷ 0 ∷ 0 ∷ [])

-- three calls may be open, of which messages have up to 64 octets and gather 20 in all
abbrev pub limits : Limits
limits = record { calls = 3; message = 64; gathered = 20 }

-- and at the other end, whose messages have up to 16 and which gathers none
abbrev pub tight_limits : Limits
tight_limits = record { calls = 3; message = 16; gathered = 0 }

-- the first way: `door` is cut, a read ends within its header and another within its Fragment, and
-- what the id 9 asks comes between its pieces; this answers it
abbrev pub one_way_by : Local ServerEvent → List (Input ServerEvent)
one_way_by act =
    Reads (take 5 (message_octets door_begins))
    ∷ Reads (drop 5 (message_octets door_begins) ++ message_octets key_little
    ++ take 7 (message_octets door_ends))
    ∷ Reads (drop 7 (message_octets door_ends) ++ message_octets cancel_big)
    ∷ Does 7 act
    ∷ Reads (message_octets bad)
    ∷ []

-- by the answer that the object is here
abbrev pub one_way : List (Input ServerEvent)
one_way = one_way_by (answering here_big)

-- the other: all that the id 9 asks comes first, in one read
abbrev pub other_way : List (Input ServerEvent)
other_way =
    Reads (message_octets key_big ++ message_octets cancel_little ++ message_octets bad
    ++ message_octets door_whole)
    ∷ Does 7 (answering here_little)
    ∷ []

-- the LocateRequest that the messages of 7 spell
abbrev pub door : AnyLocateRequest
door = record { version = V12; id = 7; target = Key (codes "door") }

-- and the first one of 9
abbrev pub key : AnyLocateRequest
key = record { version = V10; id = 9; target = Key (codes "k") }

-- what both ways say of 7: it is asked, and answered
abbrev pub said_of_seven : List ServerItem
said_of_seven = Got (heard.Locate door) ∷ Did (Hears (AnswerLocate true)) ∷ []

-- of 9: it is asked and cancelled, and asked again by octets that spell nothing
abbrev pub said_of_nine : List ServerItem
said_of_nine = Got (heard.Locate key) ∷ Cancel ∷ Bad kind.Locate V10 Big bad_octets ∷ []

-- and of no other id anything
abbrev pub said : ℕ → List ServerItem
said id = if id == 7 then said_of_seven else if id == 9 then said_of_nine else []
