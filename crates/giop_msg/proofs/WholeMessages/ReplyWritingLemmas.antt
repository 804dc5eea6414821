-- What is written of a Reply, and which Replies fit.
use Rattle.std.proofs.Common.{◌≡◌, ℕ, ◌==◌, ◌&&◌, Bool, true, false, if◌then◌else◌, List, length, map, Option, refl, sym, ap, subst, ◌∙◌, arith}
use Rattle.std.proofs.lemmas.Bool.Decides.{nat_tests}
use Rattle.giop_cdr.specs.declared.order.Order.{Order}
use Rattle.giop_cdr.specs.Layout.{AreOctets, chosen, text, such, field, gives}
use Rattle.giop_cdr.specs.declared.fault.CdrKind.TheVariants.{BadLabel}
use Rattle.giop_cdr.specs.Ending.{Ending, ended, from_multiple_of_8, leads, made_of, nothing, unless_empty}
use Rattle.giop_cdr.specs.Writing.Output.{Output, back_at, here, padding_out}
use Rattle.giop_cdr.specs.Writing.Outcome.{Grows}
use Rattle.giop_cdr.proofs.Writing.WriterLemmas.{grown_back, grows_not, grows_then}
use Rattle.giop_cdr.proofs.EndingLemmas.{never_ends}
use Rattle.giop_cdr.proofs.LayoutLemmas.{both}
use Rattle.giop_types.specs.declared.interfaces.interface.Interface.{Interface}
use Rattle.giop_types.specs.declared.interfaces.offer.Offer.{Offer}
use Rattle.giop_types.specs.declared.interfaces.parameters.Parameter.{Parameter}
use Rattle.giop_types.specs.declared.value.Value.{Value}
use Rattle.giop_types.specs.Values.Fits.{fields_fit}
use Rattle.giop_types.specs.Values.Views.{value_view}
use Rattle.giop_ior.specs.declared.references.service_context.ServiceContext.{ServiceContext}
use Rattle.giop_msg.specs.declared.messages.reply.Reply.{Reply}
use Rattle.giop_msg.specs.declared.messages.reply_body.ReplyBody.{ReplyBody}
use Rattle.giop_msg.specs.declared.messages.reply_body.ReplyBody.TheVariants.{NoException, UserException}
use Rattle.giop_msg.specs.declared.messages.request.Request.{Request}
use Rattle.giop_msg.specs.declared.version.Version.{Version}
use Rattle.giop_msg.specs.declared.version.Version.TheVariants.{V10, V11, V12}
use Rattle.giop_msg.specs.Messages.Body.{body_of, fields_in, values}
use Rattle.giop_msg.specs.Messages.Reply.{allowed, exception_in, head_in, is_known, listed, may_answer, no_exception, offer_for, outs_for, reply, reply_body, status_of, user_exception}
use Rattle.giop_msg.specs.ReplyHead.{reply_head}
use Rattle.giop_msg.proofs.WholeMessages.ReplyLemmas.{reply_is}

-- the outs fit
pub outs_fit : (offer : Offer) (outs : List Parameter) (body : ReplyBody) (vs : List Value) → body ≡ NoException (map value_view vs)
    → (reply_body offer outs (status_of body)).fits body ≡ true → fields_fit (fields_in outs) (map value_view vs) ≡ true
unfolding reply_body chosen no_exception field gives values
outs_fit offer outs body vs is fit =
    let there : (fields_fit (fields_in outs) (map value_view vs) && true) ≡ true
    = subst (λ (b : ReplyBody). (reply_body offer outs (status_of b)).fits b ≡ true) is fit in
    (both _ _ there).0

-- the members fit
pub members_fit : (offer : Offer) (id : List ℕ) (members : List Parameter) (vs : List Value)
    → members ≡ listed (exception_in offer id)
    → (user_exception offer).fits (UserException id (map value_view vs)) ≡ true → fields_fit (fields_in members) (map value_view vs) ≡ true
unfolding user_exception field gives values
members_fit offer id members vs is fit =
    let known : Bool = (such (λ id. is_known (exception_in offer id)) 4 BadLabel text).fits id in
    let there = (both known (fields_fit (fields_in (listed (exception_in offer id))) (map value_view vs) && true) fit).1 in
    ap (λ ps. fields_fit (fields_in ps) (map value_view vs)) is ∙ (both _ _ there).0

-- ---- which Replies fit

body_fit : (version : Version) (offer : Offer) (outs : List Parameter) (status : ℕ) (body : ReplyBody)
    → (body_of version (ended (reply_body offer outs status))).fits body ≡ (reply_body offer outs status).fits body
unfolding body_of ended from_multiple_of_8
body_fit V10 offer outs status body = refl
body_fit V11 offer outs status body = refl
body_fit V12 offer outs status body = refl

allowed_fit : {A : Type 0} (may : Bool) (f : Ending A) (v : A) → (allowed may f).fits v ≡ (may && f.fits v)
unfolding allowed nothing
allowed_fit true f v = refl
allowed_fit false f v = refl

pub reply_fit : (interface : Interface) (request : Option Request) (version : Version) (r : Reply)
    → (reply interface request version).fits r
    ≡ ((reply_head version).fits (head_in r) && (may_answer request (status_of r.body)
    && (reply_body (offer_for interface request) (outs_for interface request) (status_of r.body)).fits r.body))
unfolding reply leads made_of
reply_fit interface request version r =
    ap (λ b. (reply_head version).fits (head_in r) && b)
    (allowed_fit (may_answer request (status_of r.body)) (body_of version
    (ended (reply_body (offer_for interface request) (outs_for interface request) (status_of r.body)))) r.body
    ∙ ap (λ b. may_answer request (status_of r.body) && b) (body_fit version (offer_for interface request) (outs_for interface request)
    (status_of r.body) r.body))

pub fitting_head : (interface : Interface) (request : Option Request) (version : Version) (r : Reply)
    → (reply interface request version).fits r ≡ true → (reply_head version).fits (head_in r) ≡ true
fitting_head interface request version r fit = (both _ _ (sym (reply_fit interface request version r) ∙ fit)).0

pub fitting_body : (interface : Interface) (request : Option Request) (version : Version) (r : Reply)
    → (reply interface request version).fits r ≡ true
    → (reply_body (offer_for interface request) (outs_for interface request) (status_of r.body)).fits r.body ≡ true
fitting_body interface request version r fit = (both _ _ (both _ _ (sym (reply_fit interface request version r) ∙ fit)).1).1

pub answering : (interface : Interface) (request : Option Request) (version : Version) (r : Reply)
    → (reply interface request version).fits r ≡ true → may_answer request (status_of r.body) ≡ true
answering interface request version r fit = (both _ _ (both _ _ (sym (reply_fit interface request version r) ∙ fit)).1).0

-- a Reply that doesn't fit is spelled by no octets
pub reply_unspelled : (interface : Interface) (request : Option Request) (version : Version) (r : Reply)
    → (reply interface request version).fits r ≡ false → (order : Order) (at : ℕ)
    (octets : List ℕ) → AreOctets octets → (reply interface request version).spells order at r octets → ⊥
reply_unspelled interface request version = never_ends (reply_is interface request version)

-- ---- what is written of a Reply

allowed_written : {A : Type 0} (may : Bool) (f : Ending A) (v : A) (out : Output) → may ≡ true → (allowed may f).written v out ≡ f.written v out
unfolding allowed
allowed_written true f v out is = refl
allowed_written false f v out is = absurd cc

pub reply_written : (interface : Interface) (request : Option Request) (version : Version) (r : Reply) (out : Output)
    → (reply interface request version).fits r ≡ true
    → (reply interface request version).written r out
    ≡ (body_of version (ended (reply_body (offer_for interface request) (outs_for interface request) (status_of r.body)))).written r.body
    ((reply_head version).written (head_in r) out)
unfolding reply leads made_of
reply_written interface request version r out fit =
    allowed_written (may_answer request (status_of r.body)) (body_of version
    (ended (reply_body (offer_for interface request) (outs_for interface request) (status_of r.body)))) r.body
    ((reply_head version).written (head_in r) out) (answering interface request version r fit)

-- the same, of what a call of the writer of the head and one of that of the body were handed
pub parts_written : (interface : Interface) (request : Option Request) (version : Version) (r : Reply) (out mid : Output) (outs : List Parameter) (status : ℕ)
    (contexts : List ServiceContext)
    → (reply interface request version).fits r ≡ true → outs ≡ outs_for interface request → status ≡ status_of r.body → contexts ≡ r.contexts
    → mid ≡ (reply_head version).written (record { version = r.version; id = r.id; status = status; contexts = contexts }) out
    → (body_of version (ended (reply_body (offer_for interface request) outs (status_of r.body)))).written r.body
    mid ≡ (reply interface request version).written r out
parts_written interface request version r out mid outs status contexts fit listed told shown put =
    rw (put, listed, told, shown) (sym (reply_written interface request version r out fit))

-- ---- pads are taken back

tested : (m n : ℕ) → m ≡ n → (m == n) ≡ true
tested m n e = grind (arith, nat_tests)

-- where nothing was written behind the pads, what was there is left
pub pads_back : (write : Output → Output) (out mid done new : Output) (a b : List ℕ) → mid ≡ padding_out 8 out → Grows out mid
    → done ≡ write mid → Grows mid done → a ≡ done.octets → b ≡ mid.octets → length a ≡ length b
    → new ≡ back_at (here out) done
    → (new ≡ unless_empty out (padding_out 8 out) (write (padding_out 8 out))) × Grows out new
pads_back write out mid done new a b padded one written two seen stood same back =
    let left : new ≡ out = back ∙ grown_back out done (grows_then out mid done one two) in
    let none : (length (write (padding_out 8 out)).octets == length (padding_out 8 out).octets) ≡ true
    = ap (λ (o : Output). length (write o).octets == length o.octets) (sym padded)
    ∙ ap (λ (o : Output). length o.octets == length mid.octets) (sym written)
    ∙ ap (λ (x : List ℕ). length x == length mid.octets) (sym seen) ∙ ap (λ (x : List ℕ). length a == length x) (sym stood)
    ∙ tested (length a) (length b) same in (
      left ∙ sym (ap (λ (t : Bool). if t then out else write (padding_out 8 out)) none),
      subst (λ (o : Output). Grows out o) (sym left) (grows_not out),
    )

-- ---- the answer of a test of a Reply's parts

and_not : (head may body : Bool) → may ≡ false → (head && (may && body)) ≡ false
and_not true may body fails = ap (λ b. b && body) fails
and_not false may body fails = refl

pub fits_not : (interface : Interface) (request : Option Request) (version : Version) (r : Reply) (status : ℕ) (may : Bool)
    → status ≡ status_of r.body → may ≡ may_answer request status → may ≡ false → false ≡ (reply interface request version).fits r
fits_not interface request version r status may told is fails =
    sym (reply_fit interface request version r ∙ and_not _ _ _ (ap (may_answer request) (sym told) ∙ sym is ∙ fails))

pub fits_else : (interface : Interface) (request : Option Request) (version : Version) (r : Reply) (status : ℕ) (contexts : List ServiceContext) (head : Bool)
    → status ≡ status_of r.body → contexts ≡ r.contexts
    → head ≡ (reply_head version).fits (record { version = r.version; id = r.id; status = status; contexts = contexts })
    → head ≡ false → head ≡ (reply interface request version).fits r
fits_else interface request version r status contexts head told shown is fails =
    let its : (reply_head version).fits (head_in r) ≡ head = rw (← told, ← shown) (sym is) in
    fails ∙ sym (reply_fit interface request version r ∙ ap (λ b. b && (may_answer request (status_of r.body)
    && (reply_body (offer_for interface request) (outs_for interface request) (status_of r.body)).fits r.body)) (its ∙ fails))

pub fits_then : (interface : Interface) (request : Option Request) (version : Version) (r : Reply) (status : ℕ) (contexts : List ServiceContext)
    (outs : List Parameter) (may head body : Bool)
    → status ≡ status_of r.body → contexts ≡ r.contexts → may ≡ may_answer request status → may ≡ true
    → head ≡ (reply_head version).fits (record { version = r.version; id = r.id; status = status; contexts = contexts }) → head ≡ true
    → outs ≡ outs_for interface request → body ≡ (reply_body (offer_for interface request) outs (status_of r.body)).fits r.body
    → body ≡ (reply interface request version).fits r
fits_then interface request version r status contexts outs may head body told shown is may_be well passes listed there =
    let its : (reply_head version).fits (head_in r) ≡ true = rw (← told, ← shown) (sym well ∙ passes) in
    let answers : may_answer request (status_of r.body) ≡ true = ap (may_answer request) (sym told) ∙ sym is ∙ may_be in
    let rest : Bool = (reply_body (offer_for interface request) (outs_for interface request) (status_of r.body)).fits r.body in
    there ∙ ap (λ (ps : List Parameter). (reply_body (offer_for interface request) ps (status_of r.body)).fits r.body) listed
    ∙ sym (reply_fit interface request version r ∙ ap (λ b. b && (may_answer request (status_of r.body) && rest)) its ∙ ap (λ b. b && rest) answers)
