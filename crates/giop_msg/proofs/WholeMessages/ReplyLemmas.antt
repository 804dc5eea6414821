-- The table of a Reply is lawful.
use Rattle.std.proofs.Common.{◌≡◌, ◌≤◌, ℕ, zero, suc, ◌==◌, nat_lt, nat_le, ◌&&◌, Bool, true, false, List, Option, refl, sym, ap, ◌∙◌, arith}
use Rattle.std.proofs.lemmas.Bool.{eqb-true, leb-true, ltb-true}
use Rattle.std.proofs.lemmas.Bool.Decides.{nat_tests}
use Rattle.std.specs.Int.{w16, w32}
use Rattle.giop_cdr.specs.Layout.{IsLawful, number, such, field, gives, chosen}
use Rattle.giop_cdr.specs.Ending.{Ending, IsLawfulEnding, ended, from_multiple_of_8, made_of, nothing}
use Rattle.giop_cdr.proofs.EndingLemmas.{ended_is, leads_is, made_of_is, nothing_is}
use Rattle.giop_cdr.proofs.LayoutLemmas.{both, number_is, signed_is, text_is, such_is, field_is, gives_is, chosen_is}
use Rattle.giop_ior.specs.Ior.{Reference as IorValue}
use Rattle.giop_ior.specs.ServiceContext.{service_contexts}
use Rattle.giop_ior.proofs.IorLemmas.{ior_is}
use Rattle.giop_types.specs.declared.interfaces.interface.Interface.{Interface}
use Rattle.giop_types.specs.declared.interfaces.offer.Offer.{Offer}
use Rattle.giop_types.specs.declared.interfaces.parameters.Parameter.{Parameter}
use Rattle.giop_msg.specs.declared.messages.reply.Reply.{Reply}
use Rattle.giop_msg.specs.declared.messages.reply_body.ReplyBody.{ReplyBody}
use Rattle.giop_msg.specs.declared.messages.reply_body.ReplyBody.TheVariants.{Forward, ForwardPerm}
use Rattle.giop_msg.specs.declared.messages.request.Request.{Request}
use Rattle.giop_msg.specs.declared.version.Version.{Version}
use Rattle.giop_msg.specs.declared.version.Version.TheVariants.{V10, V11, V12}
use Rattle.giop_msg.specs.Messages.Body.{body_of}
use Rattle.giop_msg.specs.Messages.Reply.{completion, completion_of, completion_number, status_of, outs_in, id_in, members_in, ior_in, disposition_in, no_exception, user_exception, system_exception, forward, needs_addressing, reply_body, offer_for, outs_for, may_answer, allowed, head_in, reply}
use Rattle.giop_msg.specs.ReplyHead.{AnyReplyHead, early_reply_head, last_reply_status, reply_head, reply_head_1_2, reply_status}
use Rattle.giop_msg.proofs.ReplyHeadLemmas.{reply_head_is}
use Rattle.giop_msg.proofs.WholeMessages.BodyLemmas.{body_is, values_are}

completion_told : (n : ℕ) → nat_lt n 3 ≡ true → completion_number (completion_of n) ≡ n
completion_told zero is = refl
completion_told (suc zero) is = refl
completion_told (suc (suc zero)) is = refl
completion_told (suc (suc (suc n))) is = absurd (omega (arith, ltb-true (suc (suc (suc n))) 3 is))

completion_is : IsLawful completion
unfolding completion
completion_is =
    field_is _ (λ n v fit _ held. unfold such number gives in ap completion_number held ∙ completion_told n fit) (such_is _ _ _ (number_is w32 refl))
    (λ n. gives_is (completion_of n))

no_exception_is : (outs : List Parameter) → IsLawful (no_exception outs)
unfolding no_exception
no_exception_is outs = field_is _ (λ _ _ _ _ held. unfold gives in ap outs_in held) (values_are outs) (λ _. gives_is _)

user_exception_is : (offer : Offer) → IsLawful (user_exception offer)
unfolding user_exception
user_exception_is offer =
    field_is _ (λ _ _ _ _ held. unfold field gives in ap id_in held.1) (such_is _ _ _ text_is)
    (λ _. field_is _ (λ _ _ _ _ held. unfold gives in ap members_in held) (values_are _) (λ _. gives_is _))

system_exception_is : IsLawful system_exception
unfolding system_exception
system_exception_is =
    field_is _ (λ _ _ _ _ held. unfold field gives in cc) text_is
    (λ _. field_is _ (λ _ _ _ _ held. unfold field gives in cc) (number_is w32 refl)
    (λ _. field_is _ (λ _ _ _ _ held. unfold gives in cc) completion_is (λ _. gives_is _)))

forward_is : (made : IorValue → ReplyBody) → ((ior : IorValue) → ior_in (made ior) ≡ ior) → IsLawful (forward made)
unfolding forward
forward_is made told = field_is _ (λ ior v _ _ held. unfold gives in ap ior_in held ∙ told ior) ior_is (λ _. gives_is _)

needs_addressing_is : IsLawful needs_addressing
unfolding needs_addressing
needs_addressing_is = field_is _ (λ _ _ _ _ held. unfold gives in ap disposition_in held) (signed_is w16 refl) (λ _. gives_is _)

reply_body_is : (offer : Offer) (outs : List Parameter) (status : ℕ) → IsLawful (reply_body offer outs status)
unfolding reply_body
reply_body_is offer outs status =
    chosen_is (status == 0) (no_exception_is outs)
    (chosen_is (status == 1) (user_exception_is offer)
    (chosen_is (status == 2) system_exception_is
    (chosen_is (status == 3) (forward_is (λ ior. Forward ior) (λ ior. refl))
    (chosen_is (status == 4) (forward_is (λ ior. ForwardPerm ior) (λ ior. refl)) needs_addressing_is))))

-- ---- a body has the status by which it was read

tells : (offer : Offer) (outs : List Parameter) (a b c d e : Bool) (status : ℕ) (v : ReplyBody) → (a ≡ true → 0 ≡ status) → (b ≡ true → 1 ≡ status)
    → (c ≡ true → 2 ≡ status) → (d ≡ true → 3 ≡ status) → (e ≡ true → 4 ≡ status) → (a ≡ false → b ≡ false → c ≡ false → d ≡ false → e ≡ false → 5 ≡ status)
    → (chosen a (no_exception outs) (chosen b (user_exception offer) (chosen c system_exception
    (chosen d (forward (λ ior. Forward ior)) (chosen e (forward (λ ior. ForwardPerm ior)) needs_addressing))))).holds v → status_of v ≡ status
unfolding chosen no_exception user_exception system_exception forward needs_addressing field gives
tells offer outs true b c d e status v p0 p1 p2 p3 p4 p5 held = ap status_of held.1 ∙ p0 refl
tells offer outs false true c d e status v p0 p1 p2 p3 p4 p5 held = ap status_of held.1.1 ∙ p1 refl
tells offer outs false false true d e status v p0 p1 p2 p3 p4 p5 held = ap status_of held.1.1.1 ∙ p2 refl
tells offer outs false false false true e status v p0 p1 p2 p3 p4 p5 held = ap status_of held.1 ∙ p3 refl
tells offer outs false false false false true status v p0 p1 p2 p3 p4 p5 held = ap status_of held.1 ∙ p4 refl
tells offer outs false false false false false status v p0 p1 p2 p3 p4 p5 held = ap status_of held.1 ∙ p5 refl refl refl refl refl

is_five : (status : ℕ) → status ≤ 5 → (status == 0) ≡ false → (status == 1) ≡ false → (status == 2) ≡ false → (status == 3) ≡ false → (status == 4) ≡ false
    → 5 ≡ status
is_five status small a b c d e = grind (arith, nat_tests)

status_told : (offer : Offer) (outs : List Parameter) (status : ℕ) (v : ReplyBody) → status ≤ 5 → (reply_body offer outs status).holds v
    → status_of v ≡ status
unfolding reply_body
status_told offer outs status v small held =
    tells offer outs (status == 0) (status == 1) (status == 2) (status == 3) (status == 4) status v
    (λ e. sym (eqb-true status 0 e)) (λ e. sym (eqb-true status 1 e)) (λ e. sym (eqb-true status 2 e)) (λ e. sym (eqb-true status 3 e))
    (λ e. sym (eqb-true status 4 e)) (is_five status small) held

body_holds : (version : Version) (offer : Offer) (outs : List Parameter) (status : ℕ) (v : ReplyBody)
    → (body_of version (ended (reply_body offer outs status))).holds v → (reply_body offer outs status).holds v
unfolding body_of from_multiple_of_8 ended
body_holds V10 offer outs status v held = held
body_holds V11 offer outs status v held = held
body_holds V12 offer outs status v held = held

-- a head that fits has a status that there is
early_fits : (version : Version) (head : AnyReplyHead) → (early_reply_head version).fits head ≡ true → nat_le head.status (last_reply_status version) ≡ true
unfolding early_reply_head reply_status field such number gives
early_fits version head fit =
    (both ((number w32).fits head.status) (nat_le head.status (last_reply_status version)) (both
    ((number w32).fits head.status && nat_le head.status (last_reply_status version)) true (both ((number w32).fits head.id)
    (((number w32).fits head.status && nat_le head.status (last_reply_status version)) && true)
    (both (service_contexts.fits head.contexts) ((number w32).fits head.id && (((number w32).fits head.status
    && nat_le head.status (last_reply_status version)) && true)) fit).1).1).0).1

late_fits : (head : AnyReplyHead) → reply_head_1_2.fits head ≡ true → nat_le head.status 5 ≡ true
unfolding reply_head_1_2 reply_status field such number gives
late_fits head fit =
    (both ((number w32).fits head.status) (nat_le head.status 5) (both ((number w32).fits head.status && nat_le head.status 5)
    (service_contexts.fits head.contexts && true) (both ((number w32).fits head.id)
    (((number w32).fits head.status && nat_le head.status 5) && (service_contexts.fits head.contexts && true)) fit).1).0).1

within_five : (n : ℕ) → nat_le n 3 ≡ true → n ≤ 5
within_five n small = let less = leb-true n 3 small in omega (arith, less)

status_fits : (version : Version) (head : AnyReplyHead) → (reply_head version).fits head ≡ true → head.status ≤ 5
unfolding reply_head
status_fits V10 head fit = within_five head.status (early_fits V10 head fit)
status_fits V11 head fit = within_five head.status (early_fits V11 head fit)
status_fits V12 head fit = leb-true head.status 5 (late_fits head fit)

allowed_is : {A : Type 0} (may : Bool) {f : Ending A} → IsLawfulEnding f → IsLawfulEnding (allowed may f)
unfolding allowed
allowed_is true one = one
allowed_is false one = nothing_is

allowed_holds : {A : Type 0} (may : Bool) (f : Ending A) (v : A) → (allowed may f).holds v → f.holds v
unfolding allowed nothing
allowed_holds true f v held = held
allowed_holds false f v held = absurd held

-- a Reply tells its head again
its_head : (version : Version) (offer : Offer) (outs : List Parameter) (may : Bool) (head : AnyReplyHead) (v : Reply)
    → (reply_head version).fits head ≡ true
    → (made_of (λ (reply : Reply). reply.body) (λ body. record { version = head.version; id = head.id; contexts = head.contexts; body = body })
    (allowed may (body_of version (ended (reply_body offer outs head.status))))).holds v → head_in v ≡ head
unfolding made_of
its_head version offer outs may head v fits held =
    let told = status_told offer outs head.status v.body (status_fits version head fits)
    (body_holds version offer outs head.status v.body
    (allowed_holds may (body_of version (ended (reply_body offer outs head.status))) v.body held.1)) in
    ap head_in held.0 ∙ (λ i. record { version = head.version; id = head.id; status = told i; contexts = head.contexts })

-- the table of a Reply is lawful
pub reply_is : (interface : Interface) (request : Option Request) (version : Version) → IsLawfulEnding (reply interface request version)
unfolding reply
reply_is interface request version =
    leads_is _ (λ head v fits _ held. its_head version (offer_for interface request) (outs_for interface request) (may_answer request head.status)
    head v fits held)
    (reply_head_is version)
    (λ head. made_of_is _ _ (λ body. refl)
    (allowed_is (may_answer request head.status) (body_is version
    (ended_is (reply_body_is (offer_for interface request) (outs_for interface request) head.status)))))
