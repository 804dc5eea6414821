-- The second piece of an answer, at an end that stands and at one that its peer has closed.
use Rattle.std.proofs.Common.{◌≡◌, ℕ, List, [], ◌∷◌, map, Option, Some, None, Result, Ok, Err, refl, sym, ap, subst, inr, arith}
use Rattle.std.specs.FinMap as finite
use Rattle.std.specs.FinMap.{get-empty}
use Rattle.std.specs.Ordering.{nat_cmp}
use Rattle.giop_calls.specs.declared.server.entry.ServerEntry.{ServerEntry}
use Rattle.giop_calls.specs.declared.server.event.ServerEvent.TheVariants as event
use Rattle.giop_calls.specs.ServerTable.{is_closed, is_gathering, left_of, server_step}
use Rattle.giop_table.specs.CallTable.{Call, Nothing, at}
use Rattle.giop_table.specs.Sending.{entry_of, left_in}
use Rattle.giop_table.specs.declared.plan.Plan.TheVariants.{Next}
use Rattle.giop_table.specs.declared.slot.Slot.{Slot}
use Rattle.giop_end.specs.Ends.Begun.{no_calls}
use Rattle.giop_end.specs.Hearing.Heard.{in_call}
use Rattle.giop_end.specs.declared.session_fault.SessionFault.{SessionFault}
use Rattle.giop_end.specs.declared.session_fault.SessionFault.TheVariants.{Closed}
use Rattle.giop_commands.specs.Session.Acts.{Outbox, SendsPiece, SendsRound, most}
use Rattle.giop_commands.specs.Session.Steps.{Times}
use Rattle.giop_serving.specs.Serve.Serving.{AnswersSent, ServerCalls}
use Rattle.laws_in_use.specs.Pinged.{refusal_ends, room}
use Rattle.laws_in_use.specs.Serving.{answering, has_answered, none_left, one_left}
use Rattle.laws_in_use.proofs.OneCall.{keys_one}
use Rattle.laws_in_use.proofs.Taking.{Stands, at-put, done, stands_more, stands_none}

abbrev new : ServerCalls
new = no_calls (record {}) room

none_at : at new 7 ≡ record { slot = None; pieces = None }
none_at i = record { slot = get-empty nat_cmp 7 i; pieces = get-empty nat_cmp 7 i }

left_at_7 : at answering.calls 7 ≡ one_left
left_at_7 = at-put new 7 one_left 7

stands : Stands answering.calls room (7 ∷ []) 0
stands = stands_more new room (7 ∷ []) 0 0 7 (record { slot = None; pieces = None }) one_left (stands_none (record {}) room (7 ∷ [])) refl none_at refl

abbrev Piece : Option SessionFault → ℕ → Outbox ServerCalls → Result (Unit {0}) SessionFault → Outbox ServerCalls → Type 0
Piece fault = SendsPiece (λ rule. server_step) (λ rule. is_closed) is_gathering in_call event.Send fault

pub sends : Piece None 7 answering (Ok tt) has_answered
sends = record {
  failed = λ why is. absurd cc;
  puts = λ none. inr (
    record { event = event.Send; plan = Next },
    refl,
    record {
      answered = Ok (record { answer = tt; message = Some refusal_ends });
      does = done server_step is_closed is_gathering answering.calls room (7 ∷ []) 0 7 (record { event = event.Send; plan = Next }) Nothing
          one_left none_left (record { answer = tt; message = Some refusal_ends }) stands (omega arith) (omega arith) left_at_7 refl;
      returned = refl;
      puts = refl;
    },
  );
}

pub fails : Piece (Some Closed) 7 answering (Err Closed) answering
fails = record { failed = λ why is. (let same : Closed ≡ why = cc in ap Err same, refl); puts = λ none. absurd cc }

-- one is left of 7, and no other id is there
abbrev lefts : ℕ → ℕ
lefts id = left_in left_of (entry_of (finite.get answering.calls.table id))

one_of_7 : lefts 7 ≡ 1
one_of_7 = ap (λ (call : Call ServerEntry). left_in left_of (entry_of call.slot)) left_at_7

only_7 : finite.keys answering.calls.table ≡ 7 ∷ []
only_7 = keys_one (Slot ServerEntry) 7 _

abbrev Round : Option SessionFault → List ℕ → ℕ → Outbox ServerCalls → Option SessionFault → Outbox ServerCalls → Type 0
Round fault = SendsRound (λ rule. server_step) (λ rule. is_closed) is_gathering in_call event.Send fault left_of

-- what is so of 7 alone is so of all ids
of_all : (fault refused : Option SessionFault) (t : Outbox ServerCalls)
    → Times (Round fault (7 ∷ [])) (most (map lefts (7 ∷ []))) answering refused t → AnswersSent fault answering refused t
of_all fault refused t times =
    subst (λ ids. Times (Round fault ids) (most (map lefts ids)) answering refused t) (sym only_7) times

pub all_sent : AnswersSent None answering None has_answered
all_sent = of_all None None has_answered (
  0 ∷ [],
  sym (ap (λ n. most (n ∷ [])) one_of_7),
  (has_answered, (has_answered, inr (omega (arith, one_of_7), sends, λ is. cc), refl), refl),
)

pub none_sent : AnswersSent (Some Closed) answering (Some Closed) answering
none_sent = of_all (Some Closed) (Some Closed) answering (
  [],
  answering,
  (let one : most (lefts 7 ∷ []) ≡ 1 = ap (λ n. most (n ∷ [])) one_of_7 in omega (arith, one)),
  refl,
  record {
    before = [];
    item = 7;
    behind = [];
    mid = answering;
    parts = refl;
    each = refl;
    stops = inr (omega (arith, one_of_7), fails, λ is. cc);
  },
)
