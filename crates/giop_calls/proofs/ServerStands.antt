-- What stands at a server is what its steps leave.
use Rattle.std.specs.Prelude.{◌≡◌, ℕ, ◌-◌, ◌==◌, ◌&&◌, ◌||◌, Bool, true, false, if◌then◌else◌, List, [], ◌∷◌, Option, Some, None, is_some, Result, Ok, Err, IsOk, refl}
use Rattle.std.specs.List.{AllByRecursion}
use Rattle.std.proofs.Common.{arith, sym}
use Rattle.giop_ids.specs.Runs.{alone, told_alone, told, left}
use Rattle.giop_mux.specs.Faults.{no_fault}
use Rattle.giop_mux.specs.Runs.{Happening, Hears, IsTaken, turn, stepped, taken}
use Rattle.giop_msg.specs.declared.messages.reply.Reply.{Reply}
use Rattle.giop_calls.specs.declared.kind.CallKind.{CallKind}
use Rattle.giop_calls.specs.declared.kind.CallKind.TheVariants as kind
use Rattle.giop_calls.specs.declared.fault.CallFault.{CallFault}
use Rattle.giop_calls.specs.declared.fault.CallFault.TheVariants.{IdInUse}
use Rattle.giop_calls.specs.declared.server.question.Question.TheVariants as question
use Rattle.giop_calls.specs.declared.server.undecoded.UndecodedCall.{UndecodedCall}
use Rattle.giop_calls.specs.declared.server.heard.HeardCall.{HeardCall}
use Rattle.giop_calls.specs.declared.server.heard.HeardCall.TheVariants as heard
use Rattle.giop_calls.specs.declared.server.entry.ServerEntry.{ServerEntry}
use Rattle.giop_calls.specs.declared.server.entry.ServerEntry.TheVariants.{Gathering, Asked, Undecoded, LocateAsked, Answered, LocateAnswered, Delivered, Cancelled}
use Rattle.giop_calls.specs.declared.server.event.ServerEvent.{ServerEvent}
use Rattle.giop_calls.specs.declared.server.event.ServerEvent.TheVariants as event
use Rattle.giop_calls.specs.Messages.{is_oneway, is_same_version, is_system_exception}
use Rattle.giop_calls.specs.ServerTable.{becomes, refused, becomes_if, is_free, is_closed, arrived, more, last, cancel, answer, answer_undecoded, answer_locate, answer_locate_undecoded, send, server_step}
use Rattle.giop_calls.specs.Histories.{earlier, latest, latest_first, onto}
use Rattle.giop_calls.specs.ServerStanding.{Past, begins_call, kind_of, whole_of, may_cancel, was_cancelled, reply_of, pieces_of, here_of, sends_of, was_taken, answered, shown, shown_of, standing}

-- what the acts of a call that stands tell of it
record Tells (past : Past) (c : Bool) (w : Option HeardCall) (r : Option Reply) (h : Option Bool)
    : Type 0 where
  taken : was_taken past ≡ false
  cancelled : was_cancelled past ≡ c
  whole : whole_of past ≡ w
  reply : reply_of past ≡ r
  here : here_of past ≡ h

-- nothing of a reply was sent
record IsSilent (past : Past) : Type 0 where
  pieces : pieces_of past ≡ 0
  sends : sends_of past ≡ 0

-- how many pieces of the reply are left
abbrev left_in : Past → ℕ
left_in past = pieces_of past - 1 - sends_of past

-- an entry, and the acts that it stands for
abbrev Stands : ServerEntry → Past → Type 0
Stands (Gathering kind) past =
    Tells past false None None None × IsSilent past × (kind_of past ≡ kind)
Stands (Asked request) past = Tells past false (Some (heard.Request request)) None None
    × IsSilent past × (is_oneway request ≡ false)
Stands (Delivered request) past = Tells past false (Some (heard.Request request)) None None
    × IsSilent past × (is_oneway request ≡ true)
Stands (LocateAsked request) past =
    Tells past false (Some (heard.Locate request)) None None × IsSilent past
Stands (Undecoded call) past =
    Tells past false (Some (heard.Undecoded call)) None None × IsSilent past
Stands (Answered (question.Request request) reply n) past =
    Tells past false (Some (heard.Request request)) (Some reply) None
    × (n ≡ left_in past) × (is_oneway request ≡ false)
Stands (Answered (question.Undecoded fault) reply n) past = (call : UndecodedCall)
    × Tells past false (Some (heard.Undecoded call)) (Some reply) None
    × (n ≡ left_in past) × (is_some call.expects ≡ true) × (call.fault ≡ fault)
Stands (LocateAnswered target here) past = (call : HeardCall)
    × Tells past false (Some call) None (Some here) × IsSilent past
    × (may_cancel (Some call) ≡ true)
    × ((n : ℕ) → answered call None (Some here) n ≡ LocateAnswered target here)
Stands (Cancelled was n) past = (w : Option HeardCall) × (r : Option Reply) × (h : Option Bool)
    × Tells past true w r h × (was ≡ (is_some r || is_some h)) × (n ≡ left_in past)

silent_left : (past : Past) → IsSilent past → 0 ≡ left_in past
silent_left past silent = rw (silent.pieces, silent.sends) refl

first_left : (past : Past) (n : ℕ) → IsSilent past → n - 1 ≡ n - 1 - sends_of past
first_left past n silent = rw silent.sends (omega arith)

-- it wasn't taken out
taken_of : (entry : ServerEntry) (past : Past) → Stands entry past → was_taken past ≡ false
taken_of (Gathering kind) past st = st.0.taken
taken_of (Asked request) past st = st.0.taken
taken_of (Delivered request) past st = st.0.taken
taken_of (LocateAsked request) past st = st.0.taken
taken_of (Undecoded call) past st = st.0.taken
taken_of (Answered (question.Request request) reply n) past st = st.0.taken
taken_of (Answered (question.Undecoded fault) reply n) past st = st.1.taken
taken_of (LocateAnswered target here) past st = st.1.taken
taken_of (Cancelled was n) past st = st.3.taken

-- the entry is the one that is shown
shown_is : (entry : ServerEntry) (past : Past) → Stands entry past → shown past ≡ entry
shown_is (Gathering kind) past (t, silent, k) = simp (t.cancelled, t.whole, k)
shown_is (Asked request) past (t, silent, o) = simp (t.cancelled, t.whole, t.reply, t.here, o)
shown_is (Delivered request) past (t, silent, o) = simp (t.cancelled, t.whole, t.reply, t.here, o)
shown_is (LocateAsked request) past (t, silent) = simp (t.cancelled, t.whole, t.reply, t.here)
shown_is (Undecoded call) past (t, silent) = simp (t.cancelled, t.whole, t.reply, t.here)
shown_is (Answered (question.Request request) reply n) past (t, l, o) =
    rw (t.cancelled, t.whole, t.reply, l) refl
shown_is (Answered (question.Undecoded fault) reply n) past (call, t, l, e, f) =
    rw (t.cancelled, t.whole, t.reply, l, f) refl
shown_is (LocateAnswered target here) past (call, t, silent, m, a) =
    rw (t.cancelled, t.whole, t.reply, t.here) (a _)
shown_is (Cancelled was n) past (w, r, h, t, a, l) = rw (t.cancelled, t.reply, t.here, a, l) refl

-- what each act adds to what they tell
more_tells : {o c : Bool} {past : Past} {w : Option HeardCall} {r : Option Reply} {h : Option Bool}
    → Tells past c w r h → Tells (Hears (event.More o) ∷ past) c w r h
more_tells t = record { taken = t.taken; cancelled = t.cancelled; whole = t.whole; reply = t.reply; here = t.here }

last_tells : {o c : Bool} {call : HeardCall} {past : Past} {w : Option HeardCall} {r : Option Reply}
    {h : Option Bool} → Tells past c w r h
    → Tells (Hears (event.Last o call) ∷ past) c (earlier w call) r h
last_tells t = record { taken = t.taken; cancelled = t.cancelled; whole = rw t.whole refl; reply = t.reply; here = t.here }

send_tells : {c : Bool} {past : Past} {w : Option HeardCall} {r : Option Reply} {h : Option Bool}
    → Tells past c w r h → Tells (Hears event.Send ∷ past) c w r h
send_tells t = record { taken = t.taken; cancelled = t.cancelled; whole = t.whole; reply = t.reply; here = t.here }

answer_tells : {c : Bool} {past : Past} {w : Option HeardCall} {r : Option Reply} {h : Option Bool}
    {reply : Reply} {n : ℕ} → Tells past c w r h
    → Tells (Hears (event.Answer reply n) ∷ past) c w (Some reply) h
answer_tells t = record { taken = t.taken; cancelled = t.cancelled; whole = t.whole; reply = refl; here = t.here }

locate_tells : {c here : Bool} {past : Past} {w : Option HeardCall} {r : Option Reply}
    {h : Option Bool} → Tells past c w r h
    → Tells (Hears (event.AnswerLocate here) ∷ past) c w r (Some here)
locate_tells t = record { taken = t.taken; cancelled = t.cancelled; whole = t.whole; reply = t.reply; here = refl }

cancel_tells : {past : Past} {w : Option HeardCall} {r : Option Reply} {h : Option Bool} (c : Bool)
    → Tells past false w r h → may_cancel w ≡ c → Tells (Hears event.Cancel ∷ past) c w r h
cancel_tells c t m = record { taken = t.taken; cancelled = rw (t.cancelled, t.whole, m) refl; whole = t.whole; reply = t.reply; here = t.here }

again_tells : {past : Past} {w : Option HeardCall} {r : Option Reply} {h : Option Bool}
    → Tells past true w r h → Tells (Hears event.Cancel ∷ past) true w r h
again_tells t = record { taken = t.taken; cancelled = rw t.cancelled refl; whole = t.whole; reply = t.reply; here = t.here }

-- a whole message
arrived_request : (request : _) (past : Past)
    → Tells past false (Some (heard.Request request)) None None → IsSilent past
    → (b : Bool) → is_oneway request ≡ b → Stands (if b then Delivered request else Asked request) past
arrived_request request past t s true e = (t, s, e)
arrived_request request past t s false e = (t, s, e)

arrived_stands : (call : HeardCall) (past : Past) → Tells past false (Some call) None None
    → IsSilent past → Stands (arrived call) past
arrived_stands (heard.Request request) past t s = arrived_request request past t s (is_oneway request) refl
arrived_stands (heard.Locate request) past t s = (t, s)
arrived_stands (heard.Undecoded call) past t s = (t, s)

-- what a step leaves stands for the acts
abbrev Shows : Option ServerEntry → Past → Type 0
Shows None past = ⊥
Shows (Some entry) past = Stands entry past

choice_stands : (test : Bool) (before after : ServerEntry) (fault : CallFault) (past : Past)
    → Stands after past → IsOk (becomes_if test before after fault).outcome
    → Shows (becomes_if test before after fault).entry past
choice_stands true before after fault past st ok = st
choice_stands false before after fault past st ok = no_fault ok

denial_stands : (test : Bool) (before : Option ServerEntry) (after : ServerEntry) (fault : CallFault) (past : Past)
    → Stands after past → IsOk (if test then refused before fault else becomes after).outcome
    → Shows (if test then refused before fault else becomes after).entry past
denial_stands true before after fault past st ok = no_fault ok
denial_stands false before after fault past st ok = st

more_stands : (entry : ServerEntry) (o : Bool) (past : Past) → Stands entry past
    → IsOk (more (Some entry) o).outcome → Shows (more (Some entry) o).entry (Hears (event.More o) ∷ past)
more_stands (Gathering kind) true past (t, s, k) ok = (more_tells t, record { pieces = s.pieces; sends = s.sends }, k)
more_stands (Gathering kind) false past st ok = no_fault ok
more_stands (Cancelled was n) o past (w, r, h, t, a, l) ok = (w, r, h, more_tells t, a, l)
more_stands (Asked request) o past st ok = no_fault ok
more_stands (Undecoded call) o past st ok = no_fault ok
more_stands (LocateAsked request) o past st ok = no_fault ok
more_stands (Answered asked reply n) o past st ok = no_fault ok
more_stands (LocateAnswered target here) o past st ok = no_fault ok
more_stands (Delivered request) o past st ok = no_fault ok

last_stands : (entry : ServerEntry) (o : Bool) (call : HeardCall) (past : Past) → Stands entry past
    → IsOk (last (Some entry) o call).outcome
    → Shows (last (Some entry) o call).entry (Hears (event.Last o call) ∷ past)
last_stands (Gathering kind) true call past (t, s, k) ok =
    arrived_stands call _ (last_tells t) (record { pieces = s.pieces; sends = s.sends })
last_stands (Gathering kind) false call past st ok = no_fault ok
last_stands (Cancelled was n) o call past (w, r, h, t, a, l) ok = (earlier w call, r, h, last_tells t, a, l)
last_stands (Asked request) o call past st ok = no_fault ok
last_stands (Undecoded c) o call past st ok = no_fault ok
last_stands (LocateAsked request) o call past st ok = no_fault ok
last_stands (Answered asked reply n) o call past st ok = no_fault ok
last_stands (LocateAnswered target here) o call past st ok = no_fault ok
last_stands (Delivered request) o call past st ok = no_fault ok

cancel_undecoded : (call : UndecodedCall) (past : Past)
    → Tells past false (Some (heard.Undecoded call)) None None → IsSilent past
    → (b : Bool) → is_some call.expects ≡ b
    → Stands (if b then Cancelled false 0 else Undecoded call) (Hears event.Cancel ∷ past)
cancel_undecoded call past t s true e =
    (Some (heard.Undecoded call), None, None, cancel_tells true t e, refl, silent_left past s)
cancel_undecoded call past t s false e = (cancel_tells false t e, record { pieces = s.pieces; sends = s.sends })

cancel_stands : (entry : ServerEntry) (past : Past) → Stands entry past
    → Shows (cancel (Some entry)).entry (Hears event.Cancel ∷ past)
cancel_stands (Gathering kind) past (t, s, k) = (None, None, None, cancel_tells true t refl, refl, silent_left past s)
cancel_stands (Asked request) past (t, s, o) =
    (Some (heard.Request request), None, None, cancel_tells true t (rw o refl), refl, silent_left past s)
cancel_stands (LocateAsked request) past (t, s) =
    (Some (heard.Locate request), None, None, cancel_tells true t refl, refl, silent_left past s)
cancel_stands (Undecoded call) past (t, s) = cancel_undecoded call past t s (is_some call.expects) refl
cancel_stands (Answered (question.Request request) reply n) past (t, l, o) =
    (Some (heard.Request request), Some reply, None, cancel_tells true t (rw o refl), refl, l)
cancel_stands (Answered (question.Undecoded fault) reply n) past (call, t, l, e, f) =
    (Some (heard.Undecoded call), Some reply, None, cancel_tells true t e, refl, l)
cancel_stands (LocateAnswered target here) past (call, t, s, m, a) =
    (Some call, None, Some here, cancel_tells true t m, refl, silent_left past s)
cancel_stands (Delivered request) past (t, s, o) =
    (cancel_tells false t (rw o refl), record { pieces = s.pieces; sends = s.sends }, o)
cancel_stands (Cancelled was n) past (w, r, h, t, a, l) = (w, r, h, again_tells t, a, l)

answer_undecoded_stands : (expects : Option CallKind) (call : UndecodedCall) (reply : Reply) (n : ℕ) (past : Past)
    → Tells past false (Some (heard.Undecoded call)) None None → IsSilent past
    → call.expects ≡ expects → IsOk (answer_undecoded expects call reply n).outcome
    → Shows (answer_undecoded expects call reply n).entry (Hears (event.Answer reply n) ∷ past)
answer_undecoded_stands None call reply n past t s e ok = no_fault ok
answer_undecoded_stands (Some kind.Locate) call reply n past t s e ok = no_fault ok
answer_undecoded_stands (Some kind.Request) call reply n past t s e ok =
    choice_stands (is_system_exception reply.body && is_same_version call.version reply.version) _ _ _ _
    (call, answer_tells t, first_left past n s, rw e refl, refl) ok

answer_stands : (entry : ServerEntry) (reply : Reply) (n : ℕ) (past : Past) → Stands entry past
    → IsOk (answer (Some entry) reply n).outcome
    → Shows (answer (Some entry) reply n).entry (Hears (event.Answer reply n) ∷ past)
answer_stands (Asked request) reply n past (t, s, o) ok =
    choice_stands (is_same_version request.head.version reply.version) _ _ _ _ (answer_tells t, first_left past n s, o) ok
answer_stands (Undecoded call) reply n past (t, s) ok =
    answer_undecoded_stands call.expects call reply n past t s refl ok
answer_stands (Gathering kind) reply n past st ok = no_fault ok
answer_stands (LocateAsked request) reply n past st ok = no_fault ok
answer_stands (Answered asked r m) reply n past st ok = no_fault ok
answer_stands (LocateAnswered target here) reply n past st ok = no_fault ok
answer_stands (Delivered request) reply n past st ok = no_fault ok
answer_stands (Cancelled was m) reply n past st ok = no_fault ok

locate_undecoded_stands : (expects : Option CallKind) (call : UndecodedCall) (here : Bool) (past : Past)
    → Tells past false (Some (heard.Undecoded call)) None None → IsSilent past
    → call.expects ≡ expects → IsOk (answer_locate_undecoded expects call here).outcome
    → Shows (answer_locate_undecoded expects call here).entry (Hears (event.AnswerLocate here) ∷ past)
locate_undecoded_stands None call here past t s e ok = no_fault ok
locate_undecoded_stands (Some kind.Request) call here past t s e ok = no_fault ok
locate_undecoded_stands (Some kind.Locate) call true past t s e ok = no_fault ok
locate_undecoded_stands (Some kind.Locate) call false past t s e ok =
    (heard.Undecoded call, locate_tells t, record { pieces = s.pieces; sends = s.sends }, rw e refl, λ n. refl)

locate_stands : (entry : ServerEntry) (here : Bool) (past : Past) → Stands entry past
    → IsOk (answer_locate (Some entry) here).outcome
    → Shows (answer_locate (Some entry) here).entry (Hears (event.AnswerLocate here) ∷ past)
locate_stands (LocateAsked request) here past (t, s) ok =
    (heard.Locate request, locate_tells t, record { pieces = s.pieces; sends = s.sends }, refl, λ n. refl)
locate_stands (Undecoded call) here past (t, s) ok = locate_undecoded_stands call.expects call here past t s refl ok
locate_stands (Gathering kind) here past st ok = no_fault ok
locate_stands (Asked request) here past st ok = no_fault ok
locate_stands (Answered asked r m) here past st ok = no_fault ok
locate_stands (LocateAnswered target h) here past st ok = no_fault ok
locate_stands (Delivered request) here past st ok = no_fault ok
locate_stands (Cancelled was m) here past st ok = no_fault ok

one_less : (past : Past) (n : ℕ) → n ≡ left_in past → n - 1 ≡ left_in (Hears event.Send ∷ past)
one_less past n l = omega arith

send_stands : (entry : ServerEntry) (past : Past) → Stands entry past
    → IsOk (send (Some entry)).outcome → Shows (send (Some entry)).entry (Hears event.Send ∷ past)
send_stands (Answered (question.Request request) reply n) past (t, l, o) ok =
    denial_stands (n == 0) _ _ _ _ (send_tells t, one_less past n l, o) ok
send_stands (Answered (question.Undecoded fault) reply n) past (call, t, l, e, f) ok =
    denial_stands (n == 0) _ _ _ _ (call, send_tells t, one_less past n l, e, f) ok
send_stands (Cancelled was n) past (w, r, h, t, a, l) ok =
    denial_stands (n == 0) _ _ _ _ (w, r, h, send_tells t, a, one_less past n l) ok
send_stands (Gathering kind) past st ok = no_fault ok
send_stands (Asked request) past st ok = no_fault ok
send_stands (Undecoded call) past st ok = no_fault ok
send_stands (LocateAsked request) past st ok = no_fault ok
send_stands (LocateAnswered target here) past st ok = no_fault ok
send_stands (Delivered request) past st ok = no_fault ok

-- an entry stands for the acts of the latest call; where none stands, none is shown
abbrev Holds : Option ServerEntry → Past → Type 0
Holds None past = shown_of (latest begins_call past) ≡ None
Holds (Some entry) past = (act : Happening ServerEvent) × (acts : Past)
    × (latest begins_call past ≡ act ∷ acts) × Stands entry (act ∷ acts)

goes_on : (step : Option ServerEntry) (new act : Happening ServerEvent) (past acts : Past)
    → begins_call new ≡ false → latest begins_call past ≡ act ∷ acts
    → Shows step (new ∷ act ∷ acts) → Holds step (new ∷ past)
goes_on None new act past acts none e st = absurd st
goes_on (Some entry) new act past acts none e st = (new, act ∷ acts, rw (none, e) refl, st)

absent_onto : (new : Happening ServerEvent) (acts : Past)
    → (was_taken acts ≡ true → was_taken (new ∷ acts) ≡ true)
    → shown_of acts ≡ None → shown_of (onto new acts) ≡ None
absent_onto new [] stays none = refl
absent_onto new (act ∷ acts) stays none = by (was_taken (act ∷ acts)) refl none
  where
    by : (b : Bool) → was_taken (act ∷ acts) ≡ b
        → (if b then None else Some (shown (act ∷ acts))) ≡ None
        → shown_of (new ∷ act ∷ acts) ≡ None
    by true e n = rw (stays e) refl
    by false e n = absurd cc

begin_holds : (test : Bool) (entry : Option ServerEntry) (after : ServerEntry) (act : Happening ServerEvent) (past : Past)
    → begins_call act ≡ true → Stands after (act ∷ [])
    → IsOk (if test then becomes after else refused entry IdInUse).outcome
    → Holds (if test then becomes after else refused entry IdInUse).entry (act ∷ past)
begin_holds true entry after act past b st ok = (act, [], rw b refl, st)
begin_holds false entry after act past b st ok = no_fault ok

hears : (entry : Option ServerEntry) (e : ServerEvent) (past : Past) → Holds entry past
    → IsOk (server_step entry e).outcome → Holds (server_step entry e).entry (Hears e ∷ past)
hears entry (event.First kind) past holds ok = begin_holds (is_free entry) entry _ _ past refl
    (record { taken = refl; cancelled = refl; whole = refl; reply = refl; here = refl }, record { pieces = refl; sends = refl }, refl) ok
hears entry (event.Whole call) past holds ok = begin_holds (is_free entry) entry _ _ past refl
    (arrived_stands call _ (record { taken = refl; cancelled = refl; whole = refl; reply = refl; here = refl }) (record { pieces = refl; sends = refl })) ok
hears (Some entry) (event.More o) past (act, acts, e, st) ok = goes_on _ _ act past acts refl e (more_stands entry o _ st ok)
hears (Some entry) (event.Last o call) past (act, acts, e, st) ok = goes_on _ _ act past acts refl e (last_stands entry o call _ st ok)
hears (Some entry) event.Cancel past (act, acts, e, st) ok = goes_on _ _ act past acts refl e (cancel_stands entry _ st)
hears (Some entry) (event.Answer reply n) past (act, acts, e, st) ok = goes_on _ _ act past acts refl e (answer_stands entry reply n _ st ok)
hears (Some entry) (event.AnswerLocate here) past (act, acts, e, st) ok = goes_on _ _ act past acts refl e (locate_stands entry here _ st ok)
hears (Some entry) event.Send past (act, acts, e, st) ok = goes_on _ _ act past acts refl e (send_stands entry _ st ok)
hears None (event.More o) past holds ok = no_fault ok
hears None (event.Last o call) past holds ok = no_fault ok
hears None event.Cancel past holds ok = absent_onto (Hears event.Cancel) (latest begins_call past) (λ t. t) holds
hears None (event.Answer reply n) past holds ok = no_fault ok
hears None (event.AnswerLocate here) past holds ok = no_fault ok
hears None event.Send past holds ok = no_fault ok

-- a step, as the table takes it
stepped_holds : (before entry : Option ServerEntry) (outcome : Result (Unit {0}) CallFault) (past : Past)
    → (IsOk outcome → Holds entry past)
    → IsOk (told (stepped server_step is_closed entry outcome))
    → Holds (left before (stepped server_step is_closed entry outcome)) past
stepped_holds before entry (Ok answer) past holds ok = holds refl
stepped_holds before entry (Err fault) past holds ok = no_fault ok

-- a take
taken_holds : (entry : ServerEntry) (b : Bool) (act : Happening ServerEvent) (past acts : Past)
    → latest begins_call past ≡ act ∷ acts
    → IsOk (told (taken server_step is_closed (Some b) (Some entry)))
    → Holds (left (Some entry) (taken server_step is_closed (Some b) (Some entry))) (IsTaken ∷ past)
taken_holds entry true act past acts e ok = rw e refl
taken_holds entry false act past acts e ok = no_fault ok

turn_holds : (entry : Option ServerEntry) (act : Happening ServerEvent) (past : Past)
    → Holds entry past → IsOk (told (turn server_step is_closed entry act))
    → Holds (left entry (turn server_step is_closed entry act)) (act ∷ past)
turn_holds entry (Hears e) past holds ok = stepped_holds entry _ _ _ (hears entry e past holds) ok
turn_holds None IsTaken past holds ok = absent_onto IsTaken (latest begins_call past) (λ t. refl) holds
turn_holds (Some entry) IsTaken past (act, acts, e, st) ok =
    taken_holds entry (is_closed entry) act past acts e ok

-- many acts
run_holds : (acts past : Past) (entry : Option ServerEntry) → Holds entry past
    → AllByRecursion IsOk (told_alone (turn server_step is_closed) entry acts)
    → Holds (alone (turn server_step is_closed) entry acts) (latest_first past acts)
run_holds [] past entry holds ok = holds
run_holds (act ∷ acts) past entry holds ok =
    run_holds acts (act ∷ past) _ (turn_holds entry act past holds ok.0) ok.1

shown_from : (entry : Option ServerEntry) (past : Past) → Holds entry past
    → entry ≡ shown_of (latest begins_call past)
shown_from None past holds = sym holds
shown_from (Some entry) past (act, acts, e, st) =
    rw (e, taken_of entry (act ∷ acts) st, shown_is entry (act ∷ acts) st) refl

-- what stands is what the acts show
pub entry_stands : (acts : List (Happening ServerEvent))
    → AllByRecursion IsOk (told_alone (turn server_step is_closed) None acts)
    → alone (turn server_step is_closed) None acts ≡ standing acts
entry_stands acts ok = shown_from _ _ (run_holds acts [] None refl ok)
