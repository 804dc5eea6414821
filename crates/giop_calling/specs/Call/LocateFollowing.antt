-- What `locate --follow` does: the object is asked for again at the first IIOP profile of the
-- reference that stands behind the status of a LocateReply (CORBA 3.3 Part 2, 9.4.6:
-- OBJECT_FORWARD, OBJECT_FORWARD_PERM).
use Rattle.std.specs.Prelude.{ℕ, ◌==◌, ◌||◌, if◌then◌else◌, Bool, List, [], ◌∷◌, Option, Some, None, Ok, Err}
use Rattle.std.specs.Option.{option_or}
use Rattle.giop_cdr.specs.declared.order.Order.{Order}
use Rattle.giop_cdr.specs.declared.order.Order.TheVariants.{Big, Little}
use Rattle.giop_cdr.specs.Reading.Values.{Reading}
use Rattle.giop_ior.specs.Ior.{Reference, ior_layout}
use Rattle.giop_calls.specs.declared.client.entry.ClientEntry.{ClientEntry}
use Rattle.giop_calls.specs.declared.client.entry.ClientEntry.TheVariants.{LocateDone}
use Rattle.giop_end.specs.declared.session_fault.SessionFault.{SessionFault}
use Rattle.giop_end.specs.Ends.View.{end_between}
use Rattle.giop_end.specs.Pumping.{Between}
use Rattle.giop_calling.specs.declared.call.given.Calling.{Calling}
use Rattle.giop_commands.specs.declared.session.target.Endpoint.{Endpoint}
use Rattle.giop_commands.specs.Session.Acts.{Outbox}
use Rattle.giop_calling.specs.Call.Streaming.{box_of, with_box}
use Rattle.giop_calling.specs.Call.Calling.{Asked, ClientCalls, ClientSide, Talks, asked_of}
use Rattle.giop_calling.specs.Call.Locating.{Locates}
use Rattle.giop_commands.specs.Session.Target.{place_in}

-- where an object is by octets that were read as a reference, where nothing stands behind it
abbrev pub place_before : List ℕ → Reference → Option Endpoint
place_before [] ior = place_in ior
place_before (octet ∷ octets) ior = None

abbrev pub place_read : Reading Reference → Option Endpoint
place_read (Ok read) = place_before read.1.rest read.0
place_read (Err e) = None

-- where an object is by the octets behind a status, which end the 20th octet, in a byte order
abbrev pub place_by : List ℕ → Order → Option Endpoint
place_by octets order =
    place_read (ior_layout.read (record { order = order; at = 20; rest = octets }))

-- and in that in which they are a reference: a LocateReply that is kept has no byte order
abbrev pub place_behind : List ℕ → Option Endpoint
place_behind octets = option_or (place_by octets Big) (place_by octets Little)

-- whether a status says that the object is elsewhere, for now or for good
abbrev pub is_elsewhere : ℕ → Bool
is_elsewhere status = (status == 2) || (status == 3)

-- where the object of an entry is to be asked for again, if it is forwarded
abbrev pub located_place : Option ClientEntry → Option Endpoint
located_place (Some (LocateDone request reply)) =
    if is_elsewhere reply.head.status then place_behind reply.rest else None
located_place _ = None

-- a LocateRequest is made at an end, which then talks over the wire
module _ (asked : Asked) where
  pub record LocatesAt (s : Between ClientCalls) (refused : Option SessionFault) (t : Between ClientCalls) : Type 0 where
    pub box : Outbox ClientCalls
    pub locates : Locates asked s.state.fault (box_of s) refused box
    pub talks : Talks asked.interface refused (with_box s box) t

-- between a reader and a writer of these octets
abbrev pub LocatesBetween : Calling → (input output : Option (List ℕ)) → ClientSide
    → Option SessionFault → (input' output' : Option (List ℕ)) → ClientSide → Type 0
LocatesBetween calling input output e refused input' output' e' =
    LocatesAt (asked_of calling []) (end_between input output e) refused
    (end_between input' output' e')
