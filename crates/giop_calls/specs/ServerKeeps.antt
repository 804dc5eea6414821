-- A refused event leaves the entry at a server.
use Rattle.std.specs.Prelude.{◌≡◌, ◌==◌, Bool, true, false, Option, Some, None, IsErr, refl}
use Rattle.giop_mux.specs.Faults.{no_fault}
use Rattle.giop_calls.specs.declared.kind.CallKind.TheVariants as kind
use Rattle.giop_calls.specs.declared.fault.CallFault.{CallFault}
use Rattle.giop_calls.specs.declared.server.entry.ServerEntry.{ServerEntry}
use Rattle.giop_calls.specs.declared.server.entry.ServerEntry.TheVariants.{Gathering, Asked, Undecoded, LocateAsked, Answered, LocateAnswered, Delivered, Cancelled}
use Rattle.giop_calls.specs.declared.server.event.ServerEvent.{ServerEvent}
use Rattle.giop_calls.specs.declared.server.event.ServerEvent.TheVariants as event
use Rattle.giop_calls.specs.Messages.{is_same_version, is_system_exception}
use Rattle.giop_calls.specs.ServerTable.{ServerStep, becomes, refused, is_free, more, last, cancel, answer, answer_undecoded, answer_locate, answer_locate_undecoded, send, server_step, is_gathering, is_closed}
use Rattle.std.specs.Prelude.{◌&&◌, if◌then◌else◌}

-- a step leaves the entry where it is refused
abbrev pub Keeps : Option ServerEntry → ServerStep → Type 0
Keeps before step = IsErr step.outcome → step.entry ≡ before

choice_keeps : (test : Bool) (before : Option ServerEntry) (after : ServerEntry) (fault : CallFault)
    → Keeps before (if test then becomes after else refused before fault)
choice_keeps true before after fault err = no_fault err
choice_keeps false before after fault err = refl

denial_keeps : (test : Bool) (before : Option ServerEntry) (after : ServerEntry) (fault : CallFault)
    → Keeps before (if test then refused before fault else becomes after)
denial_keeps true before after fault err = refl
denial_keeps false before after fault err = no_fault err

more_keeps : (entry : Option ServerEntry) (in_order : Bool) → Keeps entry (more entry in_order)
more_keeps (Some (Gathering kind)) true err = no_fault err
more_keeps (Some (Gathering kind)) false err = refl
more_keeps (Some (Cancelled answered left)) in_order err = no_fault err
more_keeps (Some (Asked request)) in_order err = refl
more_keeps (Some (Undecoded call)) in_order err = refl
more_keeps (Some (LocateAsked request)) in_order err = refl
more_keeps (Some (Answered asked reply left)) in_order err = refl
more_keeps (Some (LocateAnswered target here)) in_order err = refl
more_keeps (Some (Delivered request)) in_order err = refl
more_keeps None in_order err = refl

last_keeps : (entry : Option ServerEntry) (in_order : Bool) (call : _)
    → Keeps entry (last entry in_order call)
last_keeps (Some (Gathering kind)) true call err = no_fault err
last_keeps (Some (Gathering kind)) false call err = refl
last_keeps (Some (Cancelled answered left)) in_order call err = no_fault err
last_keeps (Some (Asked request)) in_order call err = refl
last_keeps (Some (Undecoded c)) in_order call err = refl
last_keeps (Some (LocateAsked request)) in_order call err = refl
last_keeps (Some (Answered asked reply left)) in_order call err = refl
last_keeps (Some (LocateAnswered target here)) in_order call err = refl
last_keeps (Some (Delivered request)) in_order call err = refl
last_keeps None in_order call err = refl

cancel_keeps : (entry : Option ServerEntry) → Keeps entry (cancel entry)
cancel_keeps (Some (Gathering kind)) err = no_fault err
cancel_keeps (Some (Cancelled answered left)) err = no_fault err
cancel_keeps (Some (Asked request)) err = no_fault err
cancel_keeps (Some (Undecoded call)) err = no_fault err
cancel_keeps (Some (LocateAsked request)) err = no_fault err
cancel_keeps (Some (Answered asked reply left)) err = no_fault err
cancel_keeps (Some (LocateAnswered target here)) err = no_fault err
cancel_keeps (Some (Delivered request)) err = no_fault err
cancel_keeps None err = no_fault err

undecoded_answer_keeps : (expects : _) (call : _) (reply : _) (pieces : _)
    → Keeps (Some (Undecoded call)) (answer_undecoded expects call reply pieces)
undecoded_answer_keeps None call reply pieces err = refl
undecoded_answer_keeps (Some kind.Locate) call reply pieces err = refl
undecoded_answer_keeps (Some kind.Request) call reply pieces err = choice_keeps
    (is_system_exception reply.body && is_same_version call.version reply.version) _ _ _ err

answer_keeps : (entry : Option ServerEntry) (reply : _) (pieces : _)
    → Keeps entry (answer entry reply pieces)
answer_keeps (Some (Asked request)) reply pieces err =
    choice_keeps (is_same_version request.head.version reply.version) _ _ _ err
answer_keeps (Some (Undecoded call)) reply pieces err =
    undecoded_answer_keeps call.expects call reply pieces err
answer_keeps (Some (Gathering kind)) reply pieces err = refl
answer_keeps (Some (LocateAsked request)) reply pieces err = refl
answer_keeps (Some (Answered asked r left)) reply pieces err = refl
answer_keeps (Some (LocateAnswered target here)) reply pieces err = refl
answer_keeps (Some (Delivered request)) reply pieces err = refl
answer_keeps (Some (Cancelled answered left)) reply pieces err = refl
answer_keeps None reply pieces err = refl

undecoded_locate_keeps : (expects : _) (call : _) (here : Bool)
    → Keeps (Some (Undecoded call)) (answer_locate_undecoded expects call here)
undecoded_locate_keeps None call here err = refl
undecoded_locate_keeps (Some kind.Request) call here err = refl
undecoded_locate_keeps (Some kind.Locate) call true err = refl
undecoded_locate_keeps (Some kind.Locate) call false err = no_fault err

locate_keeps : (entry : Option ServerEntry) (here : Bool) → Keeps entry (answer_locate entry here)
locate_keeps (Some (LocateAsked request)) here err = no_fault err
locate_keeps (Some (Undecoded call)) here err =
    undecoded_locate_keeps call.expects call here err
locate_keeps (Some (Gathering kind)) here err = refl
locate_keeps (Some (Asked request)) here err = refl
locate_keeps (Some (Answered asked r left)) here err = refl
locate_keeps (Some (LocateAnswered target h)) here err = refl
locate_keeps (Some (Delivered request)) here err = refl
locate_keeps (Some (Cancelled answered left)) here err = refl
locate_keeps None here err = refl

send_keeps : (entry : Option ServerEntry) → Keeps entry (send entry)
send_keeps (Some (Answered asked reply left)) err = denial_keeps (left == 0) _ _ _ err
send_keeps (Some (Cancelled answered left)) err = denial_keeps (left == 0) _ _ _ err
send_keeps (Some (Gathering kind)) err = refl
send_keeps (Some (Asked request)) err = refl
send_keeps (Some (Undecoded call)) err = refl
send_keeps (Some (LocateAsked request)) err = refl
send_keeps (Some (LocateAnswered target here)) err = refl
send_keeps (Some (Delivered request)) err = refl
send_keeps None err = refl

-- the law of every rule
pub fault_keeps : (entry : Option ServerEntry) (event : ServerEvent)
    → IsErr (server_step entry event).outcome → (server_step entry event).entry ≡ entry
fault_keeps entry (event.First kind) err = choice_keeps (is_free entry) entry _ _ err
fault_keeps entry (event.Whole call) err = choice_keeps (is_free entry) entry _ _ err
fault_keeps entry (event.More in_order) err = more_keeps entry in_order err
fault_keeps entry (event.Last in_order call) err = last_keeps entry in_order call err
fault_keeps entry event.Cancel err = cancel_keeps entry err
fault_keeps entry (event.Answer reply pieces) err = answer_keeps entry reply pieces err
fault_keeps entry (event.AnswerLocate here) err = locate_keeps entry here err
fault_keeps entry event.Send err = send_keeps entry err

-- a call whose pieces are gathered is not over
pub gathering_is_open : (entry : ServerEntry) → is_gathering entry ≡ true
    → is_closed entry ≡ false
gathering_is_open (Gathering kind) here = refl
gathering_is_open (Asked request) here = absurd cc
gathering_is_open (Undecoded call) here = absurd cc
gathering_is_open (LocateAsked request) here = absurd cc
gathering_is_open (Answered asked reply left) here = absurd cc
gathering_is_open (LocateAnswered target here') here = absurd cc
gathering_is_open (Delivered request) here = absurd cc
gathering_is_open (Cancelled answered left) here = absurd cc
