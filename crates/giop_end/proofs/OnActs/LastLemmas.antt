-- Out of memory comes last: an act that is refused for it would have been accepted, and one that would not is refused for its own fault.
use Rattle.std.proofs.Common.{◌≡◌, ◌↔◌, ℕ, ◌==◌, ◌-◌, not, Bool, true, false, cond, List, Option, Some, None, Result, Ok, Err, IsOk, is_ok, IsErrOf, refl, sym, ap, inl, inr, append-nil}
use Rattle.std.specs.FinMap as finite
use Rattle.giop_cdr.specs.declared.encode_fault.EncodeFault.{EncodeFault}
use Rattle.giop_cdr.specs.declared.encode_fault.EncodeFault.TheVariants as encode
use Rattle.giop_frag.specs.Gathered.{Pieces}
use Rattle.giop_ids.specs.Runs.{RefusedAs, refusal_of, within}
use Rattle.giop_types.specs.declared.interfaces.interface.Interface.{Interface}
use Rattle.giop_msg.specs.declared.messages.reply.Reply.{Reply}
use Rattle.giop_msg.specs.declared.messages.request.Request.{Request}
use Rattle.giop_msg.specs.declared.msg.Msg.{Msg}
use Rattle.giop_msg.specs.declared.version.Version.{Version}
use Rattle.giop_msg.specs.Messages.Reply as replies
use Rattle.giop_mux.specs.declared.step.Step.{Step}
use Rattle.giop_calls.specs.declared.kind.CallKind.{CallKind}
use Rattle.giop_calls.specs.declared.kind.CallKind.TheVariants as kind
use Rattle.giop_calls.specs.declared.fault.CallFault.{CallFault}
use Rattle.giop_calls.specs.declared.fault.CallFault.TheVariants.{NotOpen, NothingToSend, Unfit, WrongKind}
use Rattle.giop_calls.specs.declared.server.entry.ServerEntry.{ServerEntry}
use Rattle.giop_calls.specs.declared.server.entry.ServerEntry.TheVariants as server
use Rattle.giop_calls.specs.declared.server.event.ServerEvent.{ServerEvent}
use Rattle.giop_calls.specs.declared.server.event.ServerEvent.TheVariants as event
use Rattle.giop_calls.specs.ServerTable as server_table
use Rattle.giop_end.specs.declared.acts.form.Form.{Form}
use Rattle.giop_end.specs.declared.limits.Limits.{Limits}
use Rattle.giop_table.specs.declared.plan.Plan.{Plan}
use Rattle.giop_table.specs.declared.plan.Plan.TheVariants.{Next}
use Rattle.giop_table.specs.declared.plan.Planned.{Planned}
use Rattle.giop_table.specs.declared.table_fault.TableFault.{TableFault}
use Rattle.giop_table.specs.declared.table_fault.TableFault.TheVariants as table
use Rattle.giop_end.specs.declared.session_fault.SessionFault.{SessionFault}
use Rattle.giop_end.specs.declared.session_fault.SessionFault.TheVariants.{NoMemory}
use Rattle.giop_end.specs.Acts.InPieces.{SendsBy}
use Rattle.giop_end.specs.Acts.Putting.{ActsOnCall, Puts}
use Rattle.giop_end.specs.Acts.ServerAnswers.{IsAnswer, IsFitAnswer, answer_fault, expects_locate, locate_of, question_of, unasked_fault, undecoded_locate, undecoded_question}
use Rattle.giop_table.specs.CallTable.{Held, Hears, Nothing, at, brought, limit, rules_of, turned}
use Rattle.giop_table.proofs.TableLemmas.{DoesSo}
use Rattle.giop_table.specs.Sending.{entry_of, sends_of, settled_by, unsent_of}
use Rattle.giop_end.specs.Hearing.Heard.{in_call, silently, result_of}

-- ---- what the rule refuses is refused for that

module _ {E V A : Type 0} (next : Option E → V → Step E A CallFault) (closed gathering : E → Bool) where
  -- the refusal of an act whose rule refuses it
  found_by : (over : Option (TableFault CallFault)) (pieces : Option Pieces) (entry : Option E) (plan : Plan) (unsent : List Msg)
      (outcome : Result A CallFault) (why : CallFault) → outcome ≡ Err why
      → refusal_of (within over (turned gathering pieces (settled_by entry plan unsent outcome).entry (sends_of plan unsent outcome)))
      ≡ Some (table.Rule why)
  found_by over pieces entry plan unsent (Ok answer) why is = absurd cc
  found_by over pieces entry plan unsent (Err fault) why is = let same : fault ≡ why = cc in ap (λ why. Some (table.Rule why)) same

  pub act_refused : {R : Type 0} (h : Held R E) (id : ℕ) (planned : Planned V) (why : CallFault) (out : List ℕ)
      (result : Result (Unit {0}) SessionFault) → (next (entry_of (finite.get h.table id)) planned.event).outcome ≡ Err why
      → result ≡ Err (in_call id why) → ActsOnCall (rules_of next closed gathering) in_call id planned h out result h out
  act_refused h id planned why out result is told = record {
    answered = Err (table.Rule why);
    does = record {
      answer = tt;
      refusal = inl (found_by (limit next closed gathering h id (Hears planned Nothing)) (brought Nothing (at h id).pieces)
          (next (entry_of (finite.get h.table id)) planned.event).entry planned.plan (unsent_of (finite.get h.table id))
          (next (entry_of (finite.get h.table id)) planned.event).outcome why is);
      leaves = refl;
    };
    returned = told;
    puts = sym (append-nil out);
  }

  -- ---- and what is refused as out of memory, its rule accepts

  accepted_by : (over : Option (TableFault CallFault)) (pieces : Option Pieces) (entry : Option E) (plan : Plan) (unsent : List Msg)
      (outcome : Result A CallFault)
      → RefusedAs table.NoMemory table.NoMemory (refusal_of (within over
      (turned gathering pieces (settled_by entry plan unsent outcome).entry (sends_of plan unsent outcome))))
      → IsOk outcome
  accepted_by over pieces entry plan unsent (Ok answer) refused = refl
  accepted_by over pieces entry plan unsent (Err fault) (inl found) = absurd cc
  accepted_by over pieces entry plan unsent (Err fault) (inr want) = absurd (let none = want.1 in cc)

  pub wanted_by : {R : Type 0} (h k : Held R E) (id : ℕ) (planned : Planned V) (answered : Result A (TableFault CallFault))
      → DoesSo next closed gathering h id planned Nothing answered k → Err NoMemory ≡ result_of (in_call id) answered
      → IsOk (next (entry_of (finite.get h.table id)) planned.event).outcome
  wanted_by h k id planned (Ok answer) does told = absurd cc
  wanted_by h k id planned (Err (table.Rule why)) does told = absurd cc
  wanted_by h k id planned (Err table.TooManyCalls) does told = absurd cc
  wanted_by h k id planned (Err table.GatherFull) does told = absurd cc
  wanted_by h k id planned (Err table.StillOpen) does told = absurd cc
  wanted_by h k id planned (Err table.NoMemory) does told =
      accepted_by (limit next closed gathering h id (Hears planned Nothing)) (brought Nothing (at h id).pieces)
      (next (entry_of (finite.get h.table id)) planned.event).entry planned.plan (unsent_of (finite.get h.table id))
      (next (entry_of (finite.get h.table id)) planned.event).outcome does.refusal

-- ---- at either

-- a piece that isn't left isn't sent
pub sends_none : {R E V A : Type 0} (next : R → Option E → V → Step E A CallFault) (closed : R → E → Bool) (gathering : E → Bool) (send : V)
    (h : Held R E) (id : ℕ) (out : List ℕ) (result : Result (Unit {0}) SessionFault) → SendsBy (next h.rule) gathering send
    → is_ok (next h.rule (entry_of (finite.get h.table id)) send).outcome ≡ false → result ≡ Err (in_call id NothingToSend)
    → Puts (rules_of (next h.rule) (closed h.rule) gathering) in_call id None (λ planned. planned ≡ record { event = send; plan = Next }) h out result h out
sends_none next closed gathering send h id out result by none told =
    inr (
      record { event = send; plan = Next },
      refl,
      act_refused (next h.rule) (closed h.rule) gathering h id (record { event = send; plan = Next }) NothingToSend out result
          (by.nothing (entry_of (finite.get h.table id)) none) told,
    )

-- ---- at a server

abbrev ServerPuts : {R : Type 0} → ℕ → Option CallFault → (Planned ServerEvent → Type 0) → Held R ServerEntry → List ℕ
    → Result (Unit {0}) SessionFault → Held R ServerEntry → List ℕ → Type 0
ServerPuts = Puts (rules_of server_table.server_step server_table.is_closed server_table.is_gathering) in_call

pub server_has_piece : (entry : ServerEntry)
    → not (server_table.left_of entry == 0) ≡ is_ok (server_table.server_step (Some entry) event.Send).outcome
server_has_piece (server.Gathering kind) = refl
server_has_piece (server.Asked request) = refl
server_has_piece (server.Undecoded call) = refl
server_has_piece (server.LocateAsked request) = refl
server_has_piece (server.LocateAnswered target here) = refl
server_has_piece (server.Delivered request) = refl
server_has_piece (server.Answered asked reply left) = by_left (left == 0)
  where
    by_left : (b : Bool) → not b ≡ is_ok (cond b (server_table.refused (Some (server.Answered asked reply left)) NothingToSend)
        (server_table.becomes (server.Answered asked reply (left - 1)))).outcome
    by_left true = refl
    by_left false = refl
server_has_piece (server.Cancelled answered left) = by_left (left == 0)
  where
    by_left : (b : Bool) → not b ≡ is_ok (cond b (server_table.refused (Some (server.Cancelled answered left)) NothingToSend)
        (server_table.becomes (server.Cancelled answered (left - 1)))).outcome
    by_left true = refl
    by_left false = refl

-- where no Request waits, the table refuses the Reply for this
unasked : (entry : Option ServerEntry) (answer : Reply) (pieces : ℕ) → question_of entry ≡ None
    → (server_table.server_step entry (event.Answer answer pieces)).outcome ≡ Err (unasked_fault entry)
unasked None answer pieces is = refl
unasked (Some (server.Gathering kind)) answer pieces is = refl
unasked (Some (server.Asked request)) answer pieces is = absurd cc
unasked (Some (server.Undecoded call)) answer pieces is = by_kind call.expects is
  where
    by_kind : (expects : Option CallKind) → undecoded_question expects ≡ None
        → (server_table.answer_undecoded expects call answer pieces).outcome
        ≡ Err (cond (expects_locate expects) WrongKind NotOpen)
    by_kind None is = refl
    by_kind (Some kind.Locate) is = refl
    by_kind (Some kind.Request) is = absurd cc
unasked (Some (server.LocateAsked request)) answer pieces is = refl
unasked (Some (server.Answered asked reply left)) answer pieces is = refl
unasked (Some (server.LocateAnswered target here)) answer pieces is = refl
unasked (Some (server.Delivered request)) answer pieces is = refl
unasked (Some (server.Cancelled answered left)) answer pieces is = refl

pub unasked_answer : {R : Type 0} (interface : Interface) (limits : Limits) (answer : Reply) (form : Form) (h : Held R ServerEntry)
    (out : List ℕ) (result : Result (Unit {0}) SessionFault) → question_of (entry_of (finite.get h.table answer.id)) ≡ None
    → result ≡ Err (in_call answer.id (unasked_fault (entry_of (finite.get h.table answer.id))))
    → ServerPuts answer.id (answer_fault interface limits (question_of (entry_of (finite.get h.table answer.id))) answer form)
    (IsAnswer interface (question_of (entry_of (finite.get h.table answer.id))) answer form) h out result h out
unasked_answer interface limits answer form h out result none told =
    rw none (inr (
      silently (event.Answer answer 1),
      refl,
      act_refused server_table.server_step server_table.is_closed server_table.is_gathering h answer.id (silently (event.Answer answer 1))
          (unasked_fault (entry_of (finite.get h.table answer.id))) out result (unasked (entry_of (finite.get h.table answer.id)) answer 1 none) told,
    ))

-- a Reply that a Request waits for, and that octets spell
pub fit_answer : (interface : Interface) (question : Option (Option Request)) (q : Option Request) (answer : Reply) → question ≡ Some q
    → (replies.reply interface q answer.version).fits answer ≡ true → IsFitAnswer interface question answer
fit_answer interface question q answer is fits = rw is fits

-- what was not refused as Unfit fits
pub wanted_fits : {V : Type 0} (fits : Bool) (encoded : Result V EncodeFault) → (IsErrOf encoded encode.Unfit → ⊥)
    → (IsErrOf encoded encode.Unfit ↔ (fits ≡ false)) → fits ≡ true
wanted_fits true encoded not_unfit unfit = refl
wanted_fits false encoded not_unfit unfit = absurd (not_unfit (unfit.1 refl))

-- a LocateReply that is waited for is accepted
pub locate_accepted : (here : Bool) (entry : Option ServerEntry) (version : Version) → locate_of here entry ≡ Some version
    → IsOk (server_table.server_step entry (event.AnswerLocate here)).outcome
locate_accepted here None version is = absurd cc
locate_accepted here (Some (server.LocateAsked request)) version is = refl
locate_accepted here (Some (server.Undecoded call)) version is = by_kind call.expects is
  where
    by_here : (b : Bool) → ◌≡◌ {A = Option Version} (cond b None (Some call.version)) (Some version)
        → IsOk (server_table.becomes_if (not b) (server.Undecoded call) (server.LocateAnswered None false) Unfit).outcome
    by_here true is = absurd cc
    by_here false is = refl

    by_kind : (expects : Option CallKind) → undecoded_locate here call expects ≡ Some version
        → IsOk (server_table.answer_locate_undecoded expects call here).outcome
    by_kind None is = absurd cc
    by_kind (Some kind.Request) is = absurd cc
    by_kind (Some kind.Locate) is = by_here here is
locate_accepted here (Some (server.Gathering kind)) version is = absurd cc
locate_accepted here (Some (server.Asked request)) version is = absurd cc
locate_accepted here (Some (server.Answered asked reply left)) version is = absurd cc
locate_accepted here (Some (server.LocateAnswered target there)) version is = absurd cc
locate_accepted here (Some (server.Delivered request)) version is = absurd cc
locate_accepted here (Some (server.Cancelled answered left)) version is = absurd cc

pub wanted_accepted : {R : Type 0} (h k : Held R ServerEntry) (id : ℕ) (planned : Planned ServerEvent)
    (answered : Result (Unit {0}) (TableFault CallFault))
    → DoesSo server_table.server_step server_table.is_closed server_table.is_gathering h id planned Nothing answered k
    → Err NoMemory ≡ result_of (in_call id) answered
    → IsOk (server_table.server_step (entry_of (finite.get h.table id)) planned.event).outcome
wanted_accepted = wanted_by server_table.server_step server_table.is_closed server_table.is_gathering
