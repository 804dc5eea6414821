-- At a client pieces leave what the whole message leaves.
use Rattle.std.specs.Prelude.{◌≡◌, Bool, true, false, if◌then◌else◌, Option, Some, None, IsOk, refl}
use Rattle.std.proofs.Common.{sym, subst}
use Rattle.giop_mux.specs.Faults.{no_fault}
use Rattle.giop_mux.specs.Runs.{Hears, Turned, stepped}
use Rattle.giop_ids.specs.Runs.{told, left}
use Rattle.giop_msg.specs.declared.version.Version.{Version}
use Rattle.giop_calls.specs.declared.kind.CallKind.{CallKind}
use Rattle.giop_calls.specs.declared.fault.CallFault.{CallFault}
use Rattle.giop_calls.specs.declared.fault.CallFault.TheVariants.{WrongKind}
use Rattle.giop_calls.specs.declared.client.call.Call.{Call}
use Rattle.giop_calls.specs.declared.client.call.Call.TheVariants as asked
use Rattle.giop_calls.specs.declared.client.late.Late.TheVariants as late
use Rattle.giop_calls.specs.declared.client.heard.HeardReply.{HeardReply}
use Rattle.giop_calls.specs.declared.client.heard.HeardReply.TheVariants as heard
use Rattle.giop_calls.specs.declared.client.entry.ClientEntry.{ClientEntry}
use Rattle.giop_calls.specs.declared.client.entry.ClientEntry.TheVariants.{Sending, Waiting, Gathering, Done, LocateDone, Undecoded, OnewaySent, Cancelled}
use Rattle.giop_calls.specs.declared.client.event.ClientEvent.TheVariants as event
use Rattle.giop_calls.specs.ClientTable.{client_step, is_closed, answers, settles, becomes, refused, ClientStep}
use Rattle.giop_calls.specs.ClientItems.{Act, client_turn, client_words}
use Rattle.giop_calls.proofs.EqualItems.{Gathers, Accepts, after}

-- what an act leaves, and that it is accepted
abbrev behind : Option ClientEntry → Act → Option ClientEntry
behind = after client_turn client_words

abbrev Passes : Option ClientEntry → Act → Type 0
Passes = Accepts client_turn client_words

-- what a step makes of a call
abbrev turned : ClientStep → Turned ClientEntry (Unit {0}) CallFault
turned step = stepped client_step is_closed step.entry step.outcome

-- a reply settles its call, whatever of it stood before
settled : (call : Call) (one other : ClientEntry) (reply : HeardReply)
    → IsOk (told (turned (settles one call reply)))
    → left (Some one) (turned (settles one call reply)) ≡ left (Some other) (turned (settles other call reply))
settled (asked.Request request) one other (heard.Reply reply) ok = refl
settled (asked.Request request) one other (heard.Locate reply) ok = no_fault ok
settled (asked.Request request) one other (heard.Undecoded fault) ok = refl
settled (asked.Request request) one other heard.Unread ok = no_fault ok
settled (asked.Locate request) one other (heard.Reply reply) ok = no_fault ok
settled (asked.Locate request) one other (heard.Locate reply) ok = refl
settled (asked.Locate request) one other (heard.Undecoded fault) ok = refl
settled (asked.Locate request) one other heard.Unread ok = no_fault ok

more_keeps : (call : Call) (in_order : Bool)
    → Passes (Some (Gathering call)) (Hears (event.More in_order))
    → behind (Some (Gathering call)) (Hears (event.More in_order)) ≡ Some (Gathering call)
more_keeps call true ok = refl
more_keeps call false ok = no_fault ok

last_settles : (call : Call) (in_order : Bool) (reply : HeardReply)
    → Passes (Some (Gathering call)) (Hears (event.Last in_order reply))
    → behind (Some (Gathering call)) (Hears (event.Last in_order reply))
    ≡ left (Some (Waiting call)) (turned (settles (Waiting call) call reply))
last_settles call true reply ok = settled call (Gathering call) (Waiting call) reply ok
last_settles call false reply ok = no_fault ok

-- the first piece of a reply to a call that waits for it
abbrev begins : Call → Bool → ClientStep
begins call b = if b then becomes (Gathering call) else refused (Some (Waiting call)) WrongKind

-- a Fragment behind the first piece of a reply to a call that waits for it, where the first piece is
-- accepted and where it isn't
further_by : (call : Call) (o b : Bool)
    → IsOk (told (turned (begins call b)))
    → Passes (left (Some (Waiting call)) (turned (begins call b))) (Hears (event.More o))
    → behind (left (Some (Waiting call)) (turned (begins call b))) (Hears (event.More o))
    ≡ left (Some (Waiting call)) (turned (begins call b))
further_by call o true first ok = more_keeps call o ok
further_by call o false first ok = no_fault first

last_by : (call : Call) (o b : Bool) (reply : HeardReply)
    → IsOk (told (turned (begins call b)))
    → Passes (left (Some (Waiting call)) (turned (begins call b))) (Hears (event.Last o reply))
    → behind (left (Some (Waiting call)) (turned (begins call b))) (Hears (event.Last o reply))
    ≡ left (Some (Waiting call)) (turned (if b then settles (Waiting call) call reply else refused (Some (Waiting call)) WrongKind))
last_by call o true reply first ok = last_settles call o reply ok
last_by call o false reply first ok = no_fault first

-- the same at every entry
further : (v : Option ClientEntry) (k : CallKind) (version : Version) (o : Bool)
    → Passes v (Hears (event.First k version))
    → Passes (behind v (Hears (event.First k version))) (Hears (event.More o))
    → behind (behind v (Hears (event.First k version))) (Hears (event.More o))
    ≡ behind v (Hears (event.First k version))
further (Some (Waiting call)) k version o first ok = further_by call o (answers k version call) first ok
further (Some (Cancelled late.None)) k version o first ok = refl
further (Some (Cancelled late.Begun)) k version o first ok = no_fault first
further (Some (Cancelled late.Seen)) k version o first ok = no_fault first
further (Some (Sending call left)) k version o first ok = no_fault first
further (Some (Gathering call)) k version o first ok = no_fault first
further (Some (Done request r)) k version o first ok = no_fault first
further (Some (LocateDone request r)) k version o first ok = no_fault first
further (Some (Undecoded call fault)) k version o first ok = no_fault first
further (Some (OnewaySent request)) k version o first ok = no_fault first
further None k version o first ok = no_fault first

last : (v : Option ClientEntry) (k : CallKind) (version : Version) (o : Bool) (reply : HeardReply)
    → Passes v (Hears (event.First k version))
    → Passes (behind v (Hears (event.First k version))) (Hears (event.Last o reply))
    → behind (behind v (Hears (event.First k version))) (Hears (event.Last o reply))
    ≡ behind v (Hears (event.Whole k version reply))
last (Some (Waiting call)) k version o reply first ok = last_by call o (answers k version call) reply first ok
last (Some (Cancelled late.None)) k version o reply first ok = refl
last (Some (Cancelled late.Begun)) k version o reply first ok = no_fault first
last (Some (Cancelled late.Seen)) k version o reply first ok = no_fault first
last (Some (Sending call left)) k version o reply first ok = no_fault first
last (Some (Gathering call)) k version o reply first ok = no_fault first
last (Some (Done request r)) k version o reply first ok = no_fault first
last (Some (LocateDone request r)) k version o reply first ok = no_fault first
last (Some (Undecoded call fault)) k version o reply first ok = no_fault first
last (Some (OnewaySent request)) k version o reply first ok = no_fault first
last None k version o reply first ok = no_fault first

-- what the last Fragment behind a cancel leaves
ended : Option ClientEntry → Option ClientEntry
ended (Some (Cancelled late.Begun)) = Some (Cancelled late.Seen)
ended v = v

ends : (l : _) (o : Bool) (reply : HeardReply)
    → behind (Some (Cancelled l)) (Hears (event.Last o reply)) ≡ ended (Some (Cancelled l))
unfolding ended
ends late.None o reply = refl
ends late.Begun o reply = refl
ends late.Seen o reply = refl

pub client_gathers : Gathers client_turn client_words
client_gathers = record {
  further = λ v b act first is. subst (λ a. Passes (behind v (client_words.first b)) a
      → behind (behind v (client_words.first b)) a ≡ behind v (client_words.first b))
      (sym is.1) (further v b.kind b.version is.0 first);
  last = λ v b m act first begun is. subst (λ a. Passes (behind v (client_words.first b)) a
      → behind (behind v (client_words.first b)) a ≡ behind v (client_words.whole m))
      (sym is.1) (subst (λ x. Passes v (client_words.first x)
      → Passes (behind v (client_words.first x)) (Hears (event.Last is.0 m.reply))
      → behind (behind v (client_words.first x)) (Hears (event.Last is.0 m.reply)) ≡ behind v (client_words.whole m))
      (sym begun) (last v m.begun.kind m.begun.version is.0 m.reply) first);
  ignores = λ v act was is. rw (was.1, is.1) refl;
  ended = ended;
  ends = λ v act was is. rw (was.1, is.1.1) (ends was.0 is.1.0 is.0);
  whole_heard = λ m. refl;
  first_heard = λ b. refl;
  further_heard = λ act is. rw is.1 refl;
  last_heard = λ m act is. rw is.1 refl;
  end_heard = λ act is. rw is.1.1 refl;
}
