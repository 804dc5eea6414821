-- Why a call of the end's own program isn't sent.
use Rattle.std.proofs.Common.{◌≡◌, ◌⊎◌, ◌↔◌, ℕ, ◌&&◌, Bool, true, false, List, Option, Some, None, Result, Ok, Err, IfOk, IfErr, IsErrOf, sym, ap, refl, ◌∙◌, inl, inr}
use Rattle.std.specs.Option.{option_or}
use Rattle.giop_cdr.specs.declared.encode_fault.EncodeFault.{EncodeFault}
use Rattle.giop_cdr.specs.declared.encode_fault.EncodeFault.TheVariants as encode
use Rattle.giop_calls.specs.declared.fault.CallFault.{CallFault}
use Rattle.giop_calls.specs.declared.fault.CallFault.TheVariants.{Unfit}
use Rattle.giop_end.specs.declared.session_fault.SessionFault.{SessionFault}
use Rattle.giop_end.specs.declared.session_fault.SessionFault.TheVariants.{NoMemory}
use Rattle.giop_ids.specs.Runs.{Rules}
use Rattle.giop_types.specs.declared.interfaces.interface.Interface.{Interface}
use Rattle.giop_msg.specs.declared.kind.Kind.TheVariants as message
use Rattle.giop_msg.specs.Messages.Reply.{reply}
use Rattle.giop_msg.specs.declared.messages.reply.Reply.{Reply as Answer}
use Rattle.giop_msg.specs.declared.messages.request.Request.{Request}
use Rattle.giop_calls.specs.declared.server.event.ServerEvent.{ServerEvent}
use Rattle.giop_calls.specs.declared.server.event.ServerEvent.TheVariants as event
use Rattle.giop_end.specs.declared.acts.form.Form.{Form}
use Rattle.giop_end.specs.declared.limits.Limits.{Limits}
use Rattle.giop_table.specs.declared.plan.Planned.{Planned}
use Rattle.giop_table.specs.declared.table_fault.TableFault.{TableFault}
use Rattle.giop_table.specs.CallTable.{Act, Call, Held, Reply}
use Rattle.giop_end.specs.Hearing.Heard.{in_call}
use Rattle.giop_end.specs.Acts.Putting.{Puts}
use Rattle.giop_end.specs.Acts.Refused.{IsNotSent, IsRefusal, unfit_unless}
use Rattle.giop_end.specs.Acts.Sent.{IsValueSent}
use Rattle.giop_end.specs.Acts.ServerAnswers.{IsAnswer, answer_fault, is_reply_sendable, reply_octets}

-- what no octets spell isn't sent, nor what the limits don't let
not_both : (fits sendable : Bool) → sendable ≡ false → (fits && sendable) ≡ false
not_both true sendable is = is
not_both false sendable is = refl

told_unfit : (id : ℕ) (e : SessionFault) (begin : Option CallFault) (whole : Bool) → begin ≡ None
    → whole ≡ false → e ≡ in_call id Unfit → IsRefusal id (option_or begin (unfit_unless whole)) e
told_unfit id e begin whole free is told = rw free (rw is (inr told))

pub refused_unsent : {A V : Type 0} (id : ℕ) (result : Result A SessionFault)
    (begin : Option CallFault) (fits sendable : Bool) (encoded : Result V EncodeFault)
    (is_sendable : V → Bool) → begin ≡ None → (IsErrOf encoded encode.Unfit ↔ (fits ≡ false))
    → IfOk encoded (λ octets. is_sendable octets ≡ sendable)
    → IfErr result (λ e. (e ≡ NoMemory)
    ⊎ ((e ≡ in_call id Unfit) × IsNotSent is_sendable encoded))
    → IfErr result (IsRefusal id (option_or begin (unfit_unless (fits && sendable))))
refused_unsent id (Ok a) begin fits sendable encoded is_sendable free unfit sends told = tt
refused_unsent id (Err e) begin fits sendable encoded is_sendable free unfit sends (inl want) = inl want
refused_unsent id (Err e) begin fits sendable (Ok octets) is_sendable free unfit sends (inr told) =
    told_unfit id e begin (fits && sendable) free
    (not_both fits sendable (sym sends ∙ told.1)) told.0
refused_unsent id (Err e) begin fits sendable (Err encode.Unfit) is_sendable free unfit sends (inr told) =
    told_unfit id e begin (fits && sendable) free (rw (unfit.0 refl) refl) told.0
refused_unsent id (Err e) begin fits sendable (Err encode.NoMemory) is_sendable free unfit sends (inr told) =
    absurd told.1

-- a refusal that was found, or want of memory, is what the whole call comes to
pub refused_puts : {R E V A : Type 0}
    (rules : Rules (Held R E) (Call E) (Act V) (Reply E A) (TableFault CallFault)) (id : ℕ)
    (found : Option CallFault) (Plans : Planned V → Type 0) (h : Held R E) (out : List ℕ)
    (e : SessionFault) (result : Result (Unit {0}) SessionFault) → result ≡ Err e
    → IsRefusal id found e → Puts rules in_call id found Plans h out result h out
refused_puts rules id found Plans h out e result is (inl want) =
    inl (is ∙ ap Err want, refl, refl)
refused_puts rules id None Plans h out e result is (inr told) = absurd told
refused_puts rules id (Some why) Plans h out e result is (inr told) =
    inr (is ∙ ap Err told, refl, refl)

-- so is want of memory
pub wanted_puts : {R E V A : Type 0}
    (rules : Rules (Held R E) (Call E) (Act V) (Reply E A) (TableFault CallFault)) (id : ℕ)
    (found : Option CallFault) (Plans : Planned V → Type 0) (h : Held R E) (out : List ℕ)
    (result : Result (Unit {0}) SessionFault) → result ≡ Err NoMemory
    → Puts rules in_call id found Plans h out result h out
wanted_puts rules id found Plans h out result is = inl (is, refl, refl)

-- a Reply to a Request that is known to wait for it
pub answer_puts : {R E A : Type 0}
    (rules : Rules (Held R E) (Call E) (Act ServerEvent) (Reply E A) (TableFault CallFault))
    (interface : Interface) (limits : Limits) (question : Option (Option Request))
    (q : Option Request) (answer : Answer) (form : Form) (h k : Held R E) (out out' : List ℕ)
    (result : Result (Unit {0}) SessionFault) → question ≡ Some q
    → Puts rules in_call answer.id
    (unfit_unless (is_reply_sendable interface limits q answer form))
    (IsValueSent (reply interface q answer.version) answer answer.version message.Reply form
    (reply_octets interface q answer form.order) (event.Answer answer)) h out result k out'
    → Puts rules in_call answer.id (answer_fault interface limits question answer form)
    (IsAnswer interface question answer form) h out result k out'
answer_puts rules interface limits question q answer form h k out out' result is puts =
    rw is puts
