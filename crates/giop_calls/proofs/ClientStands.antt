-- What stands at a client is what its steps leave.
use Rattle.std.specs.Prelude.{◌≡◌, ℕ, ◌-◌, ◌==◌, Bool, true, false, if◌then◌else◌, List, [], ◌∷◌, Option, Some, None, Result, Ok, Err, IsOk, refl}
use Rattle.std.specs.List.{AllByRecursion}
use Rattle.std.proofs.Common.{arith, sym}
use Rattle.giop_ids.specs.Runs.{alone, told_alone, told, left}
use Rattle.giop_mux.specs.Faults.{no_fault}
use Rattle.giop_mux.specs.Runs.{Happening, Hears, IsTaken, turn, stepped, taken}
use Rattle.giop_msg.specs.declared.version.Version.{Version}
use Rattle.giop_calls.specs.declared.kind.CallKind.{CallKind}
use Rattle.giop_calls.specs.declared.fault.CallFault.{CallFault}
use Rattle.giop_calls.specs.declared.fault.CallFault.TheVariants.{IdInUse}
use Rattle.giop_calls.specs.declared.client.call.Call.{Call}
use Rattle.giop_calls.specs.declared.client.call.Call.TheVariants as asked
use Rattle.giop_calls.specs.declared.client.late.Late.TheVariants as late
use Rattle.giop_calls.specs.declared.client.heard.HeardReply.{HeardReply}
use Rattle.giop_calls.specs.declared.client.heard.HeardReply.TheVariants as heard
use Rattle.giop_calls.specs.declared.client.entry.ClientEntry.{ClientEntry}
use Rattle.giop_calls.specs.declared.client.entry.ClientEntry.TheVariants.{Sending, Waiting, Gathering, Done, LocateDone, Undecoded, OnewaySent, Cancelled}
use Rattle.giop_calls.specs.declared.client.event.ClientEvent.{ClientEvent}
use Rattle.giop_calls.specs.declared.client.event.ClientEvent.TheVariants as event
use Rattle.giop_calls.specs.Messages.{is_oneway}
use Rattle.giop_calls.specs.ClientTable.{becomes, refused, is_free, is_closed, sent, sending, send, cancel, answers, settles, first, whole, more, last, client_step}
use Rattle.giop_calls.specs.Histories.{latest, latest_first, onto}
use Rattle.giop_calls.specs.ClientStanding.{Past, Came, Nothing, Begun, Ended, begins_call, call_of, pieces_of, sends_of, was_cancelled, ended_by, came_of, was_taken, late_of, replied, shown, shown_by, shown_of, standing}

-- what the acts of a call that stands tell of it
record Tells (past : Past) (c : Bool) (called : Call) (m : Came) : Type 0 where
  taken : was_taken past ≡ false
  cancelled : was_cancelled past ≡ c
  call : call_of past ≡ Some called
  came : came_of past ≡ m

-- how many pieces of the call are left
abbrev left_in : Past → ℕ
left_in past = pieces_of past - 1 - sends_of past

-- all of it was sent
abbrev IsSent : Past → Type 0
IsSent past = (left_in past == 0) ≡ true

-- an entry, and the acts that it stands for
abbrev Stands : ClientEntry → Past → Type 0
Stands (Sending call n) past =
    Tells past false call Nothing × (n ≡ left_in past) × ((left_in past == 0) ≡ false)
Stands (Waiting call) past =
    Tells past false call Nothing × IsSent past × (sent call ≡ Waiting call)
Stands (OnewaySent request) past = Tells past false (asked.Request request) Nothing
    × IsSent past × (is_oneway request ≡ true)
Stands (Gathering call) past = Tells past false call Begun × IsSent past
Stands (Done request reply) past =
    Tells past false (asked.Request request) (Ended (heard.Reply reply)) × IsSent past
Stands (LocateDone request reply) past =
    Tells past false (asked.Locate request) (Ended (heard.Locate reply)) × IsSent past
Stands (Undecoded call fault) past =
    Tells past false call (Ended (heard.Undecoded fault)) × IsSent past
Stands (Cancelled l) past = (call : Call) × (m : Came)
    × Tells past true call m × (late_of m ≡ l)

undecoded_shows : (call : Call) (fault : _) → replied call (heard.Undecoded fault) ≡ Undecoded call fault
undecoded_shows (asked.Request request) fault = refl
undecoded_shows (asked.Locate request) fault = refl

-- the entry is the one that is shown
shown_from : (past : Past) (c : Bool) (call : Call) (m : Came) (entry : ClientEntry)
    → Tells past c call m → shown call past ≡ entry → shown_of past ≡ Some entry
shown_from past c call m entry t e = rw (t.call, t.taken, e) refl

shown_is : (entry : ClientEntry) (past : Past) → Stands entry past → shown_of past ≡ Some entry
shown_is (Sending call n) past (t, l, e) =
    shown_from past _ call _ _ t (rw (t.cancelled, e, l) refl)
shown_is (Waiting call) past (t, l, s) =
    shown_from past _ call _ _ t (rw (t.cancelled, l, t.came, s) refl)
shown_is (OnewaySent request) past (t, l, o) =
    shown_from past _ (asked.Request request) _ _ t (rw (t.cancelled, l, t.came, o) refl)
shown_is (Gathering call) past (t, l) =
    shown_from past _ call _ _ t (rw (t.cancelled, l, t.came) refl)
shown_is (Done request reply) past (t, l) =
    shown_from past _ (asked.Request request) _ _ t (rw (t.cancelled, l, t.came) refl)
shown_is (LocateDone request reply) past (t, l) =
    shown_from past _ (asked.Locate request) _ _ t (rw (t.cancelled, l, t.came) refl)
shown_is (Undecoded call fault) past (t, l) =
    shown_from past _ call _ _ t (rw (t.cancelled, l, t.came) (undecoded_shows call fault))
shown_is (Cancelled x) past (call, m, t, e) =
    shown_from past _ call _ _ t (rw (t.cancelled, t.came, e) refl)

-- what each act adds to what they tell
send_tells : {c : Bool} {past : Past} {call : Call} {m : Came}
    → Tells past c call m → Tells (Hears event.Send ∷ past) c call m
send_tells t = record { taken = t.taken; cancelled = t.cancelled; call = t.call; came = t.came }

cancel_tells : {c : Bool} {past : Past} {call : Call} {m : Came}
    → Tells past c call m → Tells (Hears event.Cancel ∷ past) true call m
cancel_tells t = record { taken = t.taken; cancelled = refl; call = t.call; came = t.came }

first_tells : {c : Bool} {past : Past} {call : Call} {m : Came} {k : CallKind} {v : Version}
    → Tells past c call m → Tells (Hears (event.First k v) ∷ past) c call Begun
first_tells t = record { taken = t.taken; cancelled = t.cancelled; call = t.call; came = refl }

whole_tells : {c : Bool} {past : Past} {call : Call} {m : Came} {k : CallKind} {v : Version}
    {reply : HeardReply}
    → Tells past c call m → Tells (Hears (event.Whole k v reply) ∷ past) c call (Ended reply)
whole_tells t = record { taken = t.taken; cancelled = t.cancelled; call = t.call; came = refl }

more_tells : {c o : Bool} {past : Past} {call : Call} {m : Came}
    → Tells past c call m → Tells (Hears (event.More o) ∷ past) c call m
more_tells t = record { taken = t.taken; cancelled = t.cancelled; call = t.call; came = t.came }

last_tells : {c o : Bool} {past : Past} {call : Call} {m : Came} {reply : HeardReply}
    → Tells past c call m → Tells (Hears (event.Last o reply) ∷ past) c call (ended_by m reply)
last_tells t = record { taken = t.taken; cancelled = t.cancelled; call = t.call; came = rw t.came refl }

-- a call that is sent, whole or in part
sent_request : (request : _) (past : Past) → Tells past false (asked.Request request) Nothing
    → IsSent past → (b : Bool) → is_oneway request ≡ b
    → Stands (if b then OnewaySent request else Waiting (asked.Request request)) past
sent_request request past t l true e = (t, l, e)
sent_request request past t l false e = (t, l, rw e refl)

sent_stands : (call : Call) (past : Past) → Tells past false call Nothing → IsSent past
    → Stands (sent call) past
sent_stands (asked.Request request) past t l = sent_request request past t l (is_oneway request) refl
sent_stands (asked.Locate request) past t l = (t, l, refl)

sending_by : (call : Call) (n : ℕ) (past : Past) → Tells past false call Nothing
    → n ≡ left_in past → (b : Bool) → (n == 0) ≡ b
    → Stands (if b then sent call else Sending call n) past
sending_by call n past t l true e = sent_stands call past t (rw l at e)
sending_by call n past t l false e = (t, l, rw l at e)

sending_stands : (call : Call) (n : ℕ) (past : Past) → Tells past false call Nothing
    → n ≡ left_in past → Stands (sending call n) past
sending_stands call n past t l = sending_by call n past t l (n == 0) refl

-- what a step leaves stands for the acts
abbrev Shows : Option ClientEntry → Past → Type 0
Shows None past = ⊥
Shows (Some entry) past = Stands entry past

choice_stands : (test : Bool) (before : Option ClientEntry) (after : ClientEntry) (fault : CallFault) (past : Past)
    → Stands after past → IsOk (if test then becomes after else refused before fault).outcome
    → Shows (if test then becomes after else refused before fault).entry past
choice_stands true before after fault past st ok = st
choice_stands false before after fault past st ok = no_fault ok

one_less : (past : Past) (n : ℕ) → n ≡ left_in past → n - 1 ≡ left_in (Hears event.Send ∷ past)
one_less past n l = omega arith

send_stands : (entry : ClientEntry) (past : Past) → Stands entry past
    → IsOk (send (Some entry)).outcome → Shows (send (Some entry)).entry (Hears event.Send ∷ past)
send_stands (Sending call n) past (t, l, e) ok = sending_stands call (n - 1) _ (send_tells t) (one_less past n l)
send_stands (Waiting call) past st ok = no_fault ok
send_stands (Gathering call) past st ok = no_fault ok
send_stands (Done request reply) past st ok = no_fault ok
send_stands (LocateDone request reply) past st ok = no_fault ok
send_stands (Undecoded call fault) past st ok = no_fault ok
send_stands (OnewaySent request) past st ok = no_fault ok
send_stands (Cancelled l) past st ok = no_fault ok

cancel_stands : (entry : ClientEntry) (past : Past) → Stands entry past
    → IsOk (cancel (Some entry)).outcome → Shows (cancel (Some entry)).entry (Hears event.Cancel ∷ past)
cancel_stands (Sending call n) past (t, l, e) ok = (call, Nothing, cancel_tells t, refl)
cancel_stands (Waiting call) past (t, l, s) ok = (call, Nothing, cancel_tells t, refl)
cancel_stands (Gathering call) past (t, l) ok = (call, Begun, cancel_tells t, refl)
cancel_stands (Done request reply) past st ok = no_fault ok
cancel_stands (LocateDone request reply) past st ok = no_fault ok
cancel_stands (Undecoded call fault) past st ok = no_fault ok
cancel_stands (OnewaySent request) past st ok = no_fault ok
cancel_stands (Cancelled l) past st ok = no_fault ok

settles_stands : (before : ClientEntry) (call : Call) (reply : HeardReply) (past : Past)
    → Tells past false call (Ended reply) → IsSent past
    → IsOk (settles before call reply).outcome → Shows (settles before call reply).entry past
settles_stands before (asked.Request request) (heard.Reply reply) past t l ok = (t, l)
settles_stands before (asked.Request request) (heard.Locate reply) past t l ok = no_fault ok
settles_stands before (asked.Request request) (heard.Undecoded fault) past t l ok = (t, l)
settles_stands before (asked.Request request) heard.Unread past t l ok = no_fault ok
settles_stands before (asked.Locate request) (heard.Reply reply) past t l ok = no_fault ok
settles_stands before (asked.Locate request) (heard.Locate reply) past t l ok = (t, l)
settles_stands before (asked.Locate request) (heard.Undecoded fault) past t l ok = (t, l)
settles_stands before (asked.Locate request) heard.Unread past t l ok = no_fault ok

settles_if_stands : (test : Bool) (before : ClientEntry) (call : Call) (reply : HeardReply) (fault : CallFault) (past : Past)
    → Tells past false call (Ended reply) → IsSent past
    → IsOk (if test then settles before call reply else refused (Some before) fault).outcome
    → Shows (if test then settles before call reply else refused (Some before) fault).entry past
settles_if_stands true before call reply fault past t l ok = settles_stands before call reply past t l ok
settles_if_stands false before call reply fault past t l ok = no_fault ok

first_stands : (entry : ClientEntry) (k : CallKind) (v : Version) (past : Past) → Stands entry past
    → IsOk (first (Some entry) k v).outcome
    → Shows (first (Some entry) k v).entry (Hears (event.First k v) ∷ past)
first_stands (Waiting call) k v past (t, l, s) ok = choice_stands (answers k v call) _ _ _ _ (first_tells t, l) ok
first_stands (Cancelled late.None) k v past (call, m, t, e) ok = (call, Begun, first_tells t, refl)
first_stands (Cancelled late.Begun) k v past st ok = no_fault ok
first_stands (Cancelled late.Seen) k v past st ok = no_fault ok
first_stands (Sending call n) k v past st ok = no_fault ok
first_stands (Gathering call) k v past st ok = no_fault ok
first_stands (Done request reply) k v past st ok = no_fault ok
first_stands (LocateDone request reply) k v past st ok = no_fault ok
first_stands (Undecoded call fault) k v past st ok = no_fault ok
first_stands (OnewaySent request) k v past st ok = no_fault ok

whole_stands : (entry : ClientEntry) (k : CallKind) (v : Version) (reply : HeardReply) (past : Past) → Stands entry past
    → IsOk (whole (Some entry) k v reply).outcome
    → Shows (whole (Some entry) k v reply).entry (Hears (event.Whole k v reply) ∷ past)
whole_stands (Waiting call) k v reply past (t, l, s) ok =
    settles_if_stands (answers k v call) (Waiting call) call reply _ _ (whole_tells t) l ok
whole_stands (Cancelled late.None) k v reply past (call, m, t, e) ok = (call, Ended reply, whole_tells t, refl)
whole_stands (Cancelled late.Begun) k v reply past st ok = no_fault ok
whole_stands (Cancelled late.Seen) k v reply past st ok = no_fault ok
whole_stands (Sending call n) k v reply past st ok = no_fault ok
whole_stands (Gathering call) k v reply past st ok = no_fault ok
whole_stands (Done request r) k v reply past st ok = no_fault ok
whole_stands (LocateDone request r) k v reply past st ok = no_fault ok
whole_stands (Undecoded call fault) k v reply past st ok = no_fault ok
whole_stands (OnewaySent request) k v reply past st ok = no_fault ok

more_stands : (entry : ClientEntry) (o : Bool) (past : Past) → Stands entry past
    → IsOk (more (Some entry) o).outcome → Shows (more (Some entry) o).entry (Hears (event.More o) ∷ past)
more_stands (Gathering call) o past (t, l) ok = choice_stands o _ _ _ _ (more_tells t, l) ok
more_stands (Cancelled x) o past (call, m, t, e) ok = (call, m, more_tells t, e)
more_stands (Sending call n) o past st ok = no_fault ok
more_stands (Waiting call) o past st ok = no_fault ok
more_stands (Done request r) o past st ok = no_fault ok
more_stands (LocateDone request r) o past st ok = no_fault ok
more_stands (Undecoded call fault) o past st ok = no_fault ok
more_stands (OnewaySent request) o past st ok = no_fault ok

-- a last Fragment ends a late reply that has begun, and changes no other
ends_begun : (m : Came) (reply : HeardReply) → late_of m ≡ late.Begun → late_of (ended_by m reply) ≡ late.Seen
ends_begun Nothing reply e = absurd cc
ends_begun Begun reply e = refl
ends_begun (Ended one) reply e = absurd cc

keeps_none : (m : Came) (reply : HeardReply) → late_of m ≡ late.None → late_of (ended_by m reply) ≡ late.None
keeps_none Nothing reply e = refl
keeps_none Begun reply e = absurd cc
keeps_none (Ended one) reply e = absurd cc

keeps_seen : (m : Came) (reply : HeardReply) → late_of m ≡ late.Seen → late_of (ended_by m reply) ≡ late.Seen
keeps_seen Nothing reply e = absurd cc
keeps_seen Begun reply e = absurd cc
keeps_seen (Ended one) reply e = refl

last_stands : (entry : ClientEntry) (o : Bool) (reply : HeardReply) (past : Past) → Stands entry past
    → IsOk (last (Some entry) o reply).outcome
    → Shows (last (Some entry) o reply).entry (Hears (event.Last o reply) ∷ past)
last_stands (Gathering call) o reply past (t, l) ok =
    settles_if_stands o (Gathering call) call reply _ _ (last_tells t) l ok
last_stands (Cancelled late.None) o reply past (call, m, t, e) ok = (call, _, last_tells t, keeps_none m reply e)
last_stands (Cancelled late.Begun) o reply past (call, m, t, e) ok = (call, _, last_tells t, ends_begun m reply e)
last_stands (Cancelled late.Seen) o reply past (call, m, t, e) ok = (call, _, last_tells t, keeps_seen m reply e)
last_stands (Sending call n) o reply past st ok = no_fault ok
last_stands (Waiting call) o reply past st ok = no_fault ok
last_stands (Done request r) o reply past st ok = no_fault ok
last_stands (LocateDone request r) o reply past st ok = no_fault ok
last_stands (Undecoded call fault) o reply past st ok = no_fault ok
last_stands (OnewaySent request) o reply past st ok = no_fault ok

-- an entry stands for the acts of the latest call; where none stands, none is shown
abbrev Holds : Option ClientEntry → Past → Type 0
Holds None past = shown_of (latest begins_call past) ≡ None
Holds (Some entry) past = (act : Happening ClientEvent) × (acts : Past)
    × (latest begins_call past ≡ act ∷ acts) × Stands entry (act ∷ acts)

goes_on : (step : Option ClientEntry) (new act : Happening ClientEvent) (past acts : Past)
    → begins_call new ≡ false → latest begins_call past ≡ act ∷ acts
    → Shows step (new ∷ act ∷ acts) → Holds step (new ∷ past)
goes_on None new act past acts none e st = absurd st
goes_on (Some entry) new act past acts none e st = (new, act ∷ acts, rw (none, e) refl, st)

begin_holds : (test : Bool) (entry : Option ClientEntry) (after : ClientEntry) (act : Happening ClientEvent) (past : Past)
    → begins_call act ≡ true → Stands after (act ∷ [])
    → IsOk (if test then becomes after else refused entry IdInUse).outcome
    → Holds (if test then becomes after else refused entry IdInUse).entry (act ∷ past)
begin_holds true entry after act past b st ok = (act, [], rw b refl, st)
begin_holds false entry after act past b st ok = no_fault ok

hears : (entry : Option ClientEntry) (e : ClientEvent) (past : Past) → Holds entry past
    → IsOk (client_step entry e).outcome → Holds (client_step entry e).entry (Hears e ∷ past)
hears entry (event.Call call n) past holds ok = begin_holds (is_free entry) entry _ _ past refl
    (sending_stands call (n - 1) _ (record { taken = refl; cancelled = refl; call = refl; came = refl }) (omega arith)) ok
hears (Some entry) event.Send past (act, acts, e, st) ok = goes_on _ _ act past acts refl e (send_stands entry _ st ok)
hears (Some entry) event.Cancel past (act, acts, e, st) ok = goes_on _ _ act past acts refl e (cancel_stands entry _ st ok)
hears (Some entry) (event.First k v) past (act, acts, e, st) ok = goes_on _ _ act past acts refl e (first_stands entry k v _ st ok)
hears (Some entry) (event.Whole k v reply) past (act, acts, e, st) ok = goes_on _ _ act past acts refl e (whole_stands entry k v reply _ st ok)
hears (Some entry) (event.More o) past (act, acts, e, st) ok = goes_on _ _ act past acts refl e (more_stands entry o _ st ok)
hears (Some entry) (event.Last o reply) past (act, acts, e, st) ok = goes_on _ _ act past acts refl e (last_stands entry o reply _ st ok)
hears None event.Send past holds ok = no_fault ok
hears None event.Cancel past holds ok = no_fault ok
hears None (event.First k v) past holds ok = no_fault ok
hears None (event.Whole k v reply) past holds ok = no_fault ok
hears None (event.More o) past holds ok = no_fault ok
hears None (event.Last o reply) past holds ok = no_fault ok

-- a step, as the table takes it
stepped_holds : (before entry : Option ClientEntry) (outcome : Result (Unit {0}) CallFault) (past : Past)
    → (IsOk outcome → Holds entry past)
    → IsOk (told (stepped client_step is_closed entry outcome))
    → Holds (left before (stepped client_step is_closed entry outcome)) past
stepped_holds before entry (Ok answer) past holds ok = holds refl
stepped_holds before entry (Err fault) past holds ok = no_fault ok

-- an entry that was taken out isn't shown
taken_shows : (acts : Past) → shown_of (IsTaken ∷ acts) ≡ None
taken_shows acts = by (call_of acts)
  where
    by : (call : Option Call) → shown_by call (IsTaken ∷ acts) ≡ None
    by None = refl
    by (Some call) = refl

absent_taken : (acts : Past) → shown_of (onto IsTaken acts) ≡ None
absent_taken [] = refl
absent_taken (act ∷ acts) = taken_shows (act ∷ acts)

taken_holds : (entry : ClientEntry) (b : Bool) (past : Past)
    → IsOk (told (taken client_step is_closed (Some b) (Some entry)))
    → Holds (left (Some entry) (taken client_step is_closed (Some b) (Some entry))) (IsTaken ∷ past)
taken_holds entry true past ok = absent_taken (latest begins_call past)
taken_holds entry false past ok = no_fault ok

turn_holds : (entry : Option ClientEntry) (act : Happening ClientEvent) (past : Past)
    → Holds entry past → IsOk (told (turn client_step is_closed entry act))
    → Holds (left entry (turn client_step is_closed entry act)) (act ∷ past)
turn_holds entry (Hears e) past holds ok = stepped_holds entry _ _ _ (hears entry e past holds) ok
turn_holds None IsTaken past holds ok = absent_taken (latest begins_call past)
turn_holds (Some entry) IsTaken past holds ok = taken_holds entry (is_closed entry) past ok

-- many acts
run_holds : (acts past : Past) (entry : Option ClientEntry) → Holds entry past
    → AllByRecursion IsOk (told_alone (turn client_step is_closed) entry acts)
    → Holds (alone (turn client_step is_closed) entry acts) (latest_first past acts)
run_holds [] past entry holds ok = holds
run_holds (act ∷ acts) past entry holds ok =
    run_holds acts (act ∷ past) _ (turn_holds entry act past holds ok.0) ok.1

shown_at : (entry : Option ClientEntry) (past : Past) → Holds entry past
    → entry ≡ shown_of (latest begins_call past)
shown_at None past holds = sym holds
shown_at (Some entry) past (act, acts, e, st) = rw (e, shown_is entry (act ∷ acts) st) refl

-- what stands is what the acts show
pub entry_stands : (acts : List (Happening ClientEvent))
    → AllByRecursion IsOk (told_alone (turn client_step is_closed) None acts)
    → alone (turn client_step is_closed) None acts ≡ standing acts
entry_stands acts ok = shown_at _ _ (run_holds acts [] None refl ok)
