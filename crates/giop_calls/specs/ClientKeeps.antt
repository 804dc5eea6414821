-- A refused event leaves the entry at a client.
use Rattle.std.specs.Prelude.{◌≡◌, Bool, true, false, Option, Some, None, IsErr, refl, if◌then◌else◌}
use Rattle.giop_mux.specs.Faults.{no_fault}
use Rattle.giop_calls.specs.declared.fault.CallFault.{CallFault}
use Rattle.giop_calls.specs.declared.client.call.Call.TheVariants as asked
use Rattle.giop_calls.specs.declared.client.late.Late.TheVariants as late
use Rattle.giop_calls.specs.declared.client.heard.HeardReply.TheVariants as heard
use Rattle.giop_calls.specs.declared.client.entry.ClientEntry.{ClientEntry}
use Rattle.giop_calls.specs.declared.client.entry.ClientEntry.TheVariants.{Sending, Waiting, Gathering, Done, LocateDone, Undecoded, OnewaySent, Cancelled}
use Rattle.giop_calls.specs.declared.client.event.ClientEvent.{ClientEvent}
use Rattle.giop_calls.specs.declared.client.event.ClientEvent.TheVariants as event
use Rattle.giop_calls.specs.ClientTable.{ClientStep, becomes, refused, is_free, send, cancel, answers, settles, first, whole, more, last, client_step, is_gathering, is_closed}

-- a step leaves the entry where it is refused
abbrev pub Keeps : Option ClientEntry → ClientStep → Type 0
Keeps before step = IsErr step.outcome → step.entry ≡ before

choice_keeps : (test : Bool) (before : Option ClientEntry) (after : ClientEntry) (fault : CallFault)
    → Keeps before (if test then becomes after else refused before fault)
choice_keeps true before after fault err = no_fault err
choice_keeps false before after fault err = refl

send_keeps : (entry : Option ClientEntry) → Keeps entry (send entry)
send_keeps (Some (Sending call left)) err = no_fault err
send_keeps (Some (Waiting call)) err = refl
send_keeps (Some (Gathering call)) err = refl
send_keeps (Some (Done request reply)) err = refl
send_keeps (Some (LocateDone request reply)) err = refl
send_keeps (Some (Undecoded call fault)) err = refl
send_keeps (Some (OnewaySent request)) err = refl
send_keeps (Some (Cancelled l)) err = refl
send_keeps None err = refl

cancel_keeps : (entry : Option ClientEntry) → Keeps entry (cancel entry)
cancel_keeps (Some (Sending call left)) err = no_fault err
cancel_keeps (Some (Waiting call)) err = no_fault err
cancel_keeps (Some (Gathering call)) err = no_fault err
cancel_keeps (Some (Done request reply)) err = refl
cancel_keeps (Some (LocateDone request reply)) err = refl
cancel_keeps (Some (Undecoded call fault)) err = refl
cancel_keeps (Some (OnewaySent request)) err = refl
cancel_keeps (Some (Cancelled l)) err = refl
cancel_keeps None err = refl

settles_keeps : (before : ClientEntry) (call : _) (reply : _)
    → Keeps (Some before) (settles before call reply)
settles_keeps before (asked.Request request) (heard.Reply reply) err = no_fault err
settles_keeps before (asked.Request request) (heard.Locate reply) err = refl
settles_keeps before (asked.Request request) (heard.Undecoded fault) err = no_fault err
settles_keeps before (asked.Request request) heard.Unread err = refl
settles_keeps before (asked.Locate request) (heard.Reply reply) err = refl
settles_keeps before (asked.Locate request) (heard.Locate reply) err = no_fault err
settles_keeps before (asked.Locate request) (heard.Undecoded fault) err = no_fault err
settles_keeps before (asked.Locate request) heard.Unread err = refl

first_keeps : (entry : Option ClientEntry) (k : _) (version : _)
    → Keeps entry (first entry k version)
first_keeps (Some (Waiting call)) k version err = choice_keeps (answers k version call) _ _ _ err
first_keeps (Some (Cancelled late.None)) k version err = no_fault err
first_keeps (Some (Cancelled late.Begun)) k version err = refl
first_keeps (Some (Cancelled late.Seen)) k version err = refl
first_keeps (Some (Sending call left)) k version err = refl
first_keeps (Some (Gathering call)) k version err = refl
first_keeps (Some (Done request reply)) k version err = refl
first_keeps (Some (LocateDone request reply)) k version err = refl
first_keeps (Some (Undecoded call fault)) k version err = refl
first_keeps (Some (OnewaySent request)) k version err = refl
first_keeps None k version err = refl

settles_if_keeps : (test : Bool) (before : ClientEntry) (call : _) (reply : _) (fault : CallFault)
    → Keeps (Some before)
    (if test then settles before call reply else refused (Some before) fault)
settles_if_keeps true before call reply fault err = settles_keeps before call reply err
settles_if_keeps false before call reply fault err = refl

whole_keeps : (entry : Option ClientEntry) (k : _) (version : _) (reply : _)
    → Keeps entry (whole entry k version reply)
whole_keeps (Some (Waiting call)) k version reply err =
    settles_if_keeps (answers k version call) (Waiting call) call reply _ err
whole_keeps (Some (Cancelled late.None)) k version reply err = no_fault err
whole_keeps (Some (Cancelled late.Begun)) k version reply err = refl
whole_keeps (Some (Cancelled late.Seen)) k version reply err = refl
whole_keeps (Some (Sending call left)) k version reply err = refl
whole_keeps (Some (Gathering call)) k version reply err = refl
whole_keeps (Some (Done request r)) k version reply err = refl
whole_keeps (Some (LocateDone request r)) k version reply err = refl
whole_keeps (Some (Undecoded call fault)) k version reply err = refl
whole_keeps (Some (OnewaySent request)) k version reply err = refl
whole_keeps None k version reply err = refl

more_keeps : (entry : Option ClientEntry) (in_order : Bool) → Keeps entry (more entry in_order)
more_keeps (Some (Gathering call)) in_order err = choice_keeps in_order _ _ _ err
more_keeps (Some (Cancelled l)) in_order err = no_fault err
more_keeps (Some (Sending call left)) in_order err = refl
more_keeps (Some (Waiting call)) in_order err = refl
more_keeps (Some (Done request r)) in_order err = refl
more_keeps (Some (LocateDone request r)) in_order err = refl
more_keeps (Some (Undecoded call fault)) in_order err = refl
more_keeps (Some (OnewaySent request)) in_order err = refl
more_keeps None in_order err = refl

last_keeps : (entry : Option ClientEntry) (in_order : Bool) (reply : _)
    → Keeps entry (last entry in_order reply)
last_keeps (Some (Gathering call)) in_order reply err =
    settles_if_keeps in_order (Gathering call) call reply _ err
last_keeps (Some (Cancelled late.None)) in_order reply err = no_fault err
last_keeps (Some (Cancelled late.Begun)) in_order reply err = no_fault err
last_keeps (Some (Cancelled late.Seen)) in_order reply err = no_fault err
last_keeps (Some (Sending call left)) in_order reply err = refl
last_keeps (Some (Waiting call)) in_order reply err = refl
last_keeps (Some (Done request r)) in_order reply err = refl
last_keeps (Some (LocateDone request r)) in_order reply err = refl
last_keeps (Some (Undecoded call fault)) in_order reply err = refl
last_keeps (Some (OnewaySent request)) in_order reply err = refl
last_keeps None in_order reply err = refl

-- the law of every rule
pub fault_keeps : (entry : Option ClientEntry) (event : ClientEvent)
    → IsErr (client_step entry event).outcome → (client_step entry event).entry ≡ entry
fault_keeps entry (event.Call call pieces) err = choice_keeps (is_free entry) entry _ _ err
fault_keeps entry event.Send err = send_keeps entry err
fault_keeps entry event.Cancel err = cancel_keeps entry err
fault_keeps entry (event.First k version) err = first_keeps entry k version err
fault_keeps entry (event.Whole k version reply) err = whole_keeps entry k version reply err
fault_keeps entry (event.More in_order) err = more_keeps entry in_order err
fault_keeps entry (event.Last in_order reply) err = last_keeps entry in_order reply err

-- a call whose pieces are gathered is not over
pub gathering_is_open : (entry : ClientEntry) → is_gathering entry ≡ true
    → is_closed entry ≡ false
gathering_is_open (Gathering call) here = refl
gathering_is_open (Sending call left) here = absurd cc
gathering_is_open (Waiting call) here = absurd cc
gathering_is_open (Done request reply) here = absurd cc
gathering_is_open (LocateDone request reply) here = absurd cc
gathering_is_open (Undecoded call fault) here = absurd cc
gathering_is_open (OnewaySent request) here = absurd cc
gathering_is_open (Cancelled late) here = absurd cc
