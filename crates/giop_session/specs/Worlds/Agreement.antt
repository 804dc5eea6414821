-- What two ends that hear one another agree on, call by call, and why one of them may fail (CORBA
-- 3.3 Part 2, 9.4).
use Rattle.std.specs.Prelude.{◌≡◌, ℕ, ◌+◌, ◌<◌, if◌then◌else◌, Bool, [], Option, Some}
use Rattle.std.specs.FinMap as finite
use Rattle.std.specs.Option.{option_map}
use Rattle.giop_frag.specs.Gathered.{total_of}
use Rattle.giop_msg.specs.Fault.{fault}
use Rattle.giop_msg.specs.Locate.{AnyLocateRequest}
use Rattle.giop_msg.specs.Stream.{BeginsWithFault, Unread}
use Rattle.giop_msg.specs.declared.fault.WireKind.TheVariants.{TooLarge}
use Rattle.giop_msg.specs.declared.messages.locate_reply.LocateReply.{LocateReply}
use Rattle.giop_msg.specs.declared.messages.reply.Reply.{Reply}
use Rattle.giop_msg.specs.declared.messages.request.Request.{Request}
use Rattle.giop_calls.specs.ClientTable as client_table
use Rattle.giop_calls.specs.ServerTable as server_table
use Rattle.giop_calls.specs.declared.client.entry.ClientEntry.TheVariants.{Done, LocateDone}
use Rattle.giop_calls.specs.declared.outcome.Outcome.{Outcome}
use Rattle.giop_calls.specs.declared.server.entry.ServerEntry.TheVariants.{Answered, LocateAnswered}
use Rattle.giop_calls.specs.declared.server.question.Question.TheVariants as question
use Rattle.giop_end.specs.declared.limits.Limits.{Limits}
use Rattle.giop_end.specs.declared.session_fault.SessionFault.{SessionFault}
use Rattle.giop_end.specs.declared.session_fault.SessionFault.TheVariants.{GatherFull, TooManyCalls, Wire}
use Rattle.giop_table.specs.CallTable.{Held, entry_at}
use Rattle.giop_session.specs.Worlds.World.{WorldState}

-- what the call of an id came to, at either end of a world
abbrev pub client_outcome : WorldState → ℕ → Option (Outcome Reply)
client_outcome w id = option_map client_table.outcome (entry_at w.client.calls id)

abbrev pub server_outcome : WorldState → ℕ → Option (Outcome Reply)
server_outcome w id = option_map server_table.outcome (entry_at w.server.calls id)

-- both ends agree: once nothing is on its way, each call came to the same at both; and at any time
-- a Reply that the client has is the one that the server gave to this Request, all of which is
-- sent, and so for a LocateReply, which has nothing behind its head
pub record Agreed (w : WorldState) : Type 0 where
  pub outcomes : w.client.outgoing ≡ [] → w.server.outgoing ≡ [] → (id : ℕ)
      → client_outcome w id ≡ server_outcome w id
  pub replied : (id : ℕ) (q : Request) (r : Reply)
      → entry_at w.client.calls id ≡ Some (Done q r)
      → entry_at w.server.calls id ≡ Some (Answered (question.Request q) r 0)
  pub located : (id : ℕ) (q : AnyLocateRequest) (r : LocateReply)
      → entry_at w.client.calls id ≡ Some (LocateDone q r)
      → (here : Bool)
      × (entry_at w.server.calls id ≡ Some (LocateAnswered (Some q.target) here))
      × (r.head.status ≡ (if here then 1 else 0)) × (r.rest ≡ [])

-- a limit of an end is met, for which it fails so: the header of a message that is too large stands
-- in front of what is unread; there are as many calls as there may be; or so much is gathered that
-- a message of the largest size would be too much
abbrev pub IsMet : {R E : Type 0} → Limits → Unread → Held R E → SessionFault → Type 0
IsMet limits unread k (Wire e) =
    (e ≡ fault 8 TooLarge) × BeginsWithFault limits.message unread.octets e
IsMet limits unread k TooManyCalls = finite.len k.table ≡ limits.calls
IsMet limits unread k GatherFull = limits.gathered < total_of k.gathered + limits.message
IsMet limits unread k why = ⊥

-- an end of a world fails at its own limits alone
pub record FailsByLimits (client_limits server_limits : Limits) (w : WorldState) : Type 0 where
  pub client : (why : SessionFault) → w.client.fault ≡ Some why
      → IsMet client_limits w.client.unread w.client.calls why
  pub server : (why : SessionFault) → w.server.fault ≡ Some why
      → IsMet server_limits w.server.unread w.server.calls why
