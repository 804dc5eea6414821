-- The laws of whole messages.
use Rattle.std.proofs.Common.{◌≡◌, ℕ, true, inl, inr, List, Option, Some, None, Result, Ok, Err, IsOk, refl, sym, ap, subst, ◌∙◌}
use Rattle.giop_cdr.specs.declared.order.Order.{Order}
use Rattle.giop_cdr.specs.declared.fault.CdrFault.{CdrFault}
use Rattle.giop_cdr.specs.Reading.Cursor.{Cursor}
use Rattle.giop_cdr.specs.Reading.Values.{Reading}
use Rattle.giop_cdr.specs.Ending.{Ending, IsLawfulEnding}
use Rattle.giop_types.specs.declared.interfaces.interface.Interface.{Interface}
use Rattle.giop_types.specs.declared.interfaces.interface.Operation.{Operation}
use Rattle.giop_msg.specs.declared.messages.reply.Reply.{Reply}
use Rattle.giop_msg.specs.declared.messages.request.Request.{Request}
use Rattle.giop_msg.specs.declared.messages.request_fault.RequestFault.{RequestFault}
use Rattle.giop_msg.specs.declared.messages.request_fault.RequestFault.TheVariants.{Header, Operation as NoOperation, Body}
use Rattle.giop_msg.specs.declared.version.Version.{Version}
use Rattle.giop_msg.specs.Joined.{joined_from}
use Rattle.giop_msg.specs.Messages.Laws.{IsWhole, ReplyRefusalsAreTold, RequestRefusalsAreTold, RequestsAreReadBack, RequestsAreRefused}
use Rattle.giop_msg.specs.Messages.Outcome.{Decodes, joined_into}
use Rattle.giop_msg.specs.Messages.Reply.{reply}
use Rattle.giop_msg.specs.Messages.Request.{operation_asked, request, request_body}
use Rattle.giop_msg.specs.Messages.RequestAnswer.{DecodesRequest, RefusedRequest, body_answer, operation_answer, head_answer, request_of_joined}
use Rattle.giop_msg.specs.RequestHead.{Head, request_head}
use Rattle.giop_msg.proofs.RequestHeadLemmas.{request_head_is}
use Rattle.giop_msg.proofs.WholeMessages.ReplyLemmas.{reply_is}
use Rattle.giop_msg.proofs.WholeMessages.RequestLemmas.{request_body_is, request_is, request_only}

-- what was written from the front on spells the value
front_spelled : {A : Type 0} {f : Ending A} → IsLawfulEnding f → (order : Order) (v : A)
    → f.fits v ≡ true → f.holds v
    → f.spells order 12 v (f.written v (joined_into order)).octets
front_spelled {A} {f} one order v fits holds =
    let s = one.written v (joined_into order) fits holds in
    subst (λ (b : List ℕ). f.spells order 12 v b) (sym s.octets) s.spells

pub whole_of : {A : Type 0} {f : Ending A} → IsLawfulEnding f → IsWhole f
whole_of {A} {f} one = record {
  exact = one.exact;
  fits = one.fitting;
  back = λ order v fits holds.
      (one.exact (joined_from order (f.written v (joined_into order)).octets)).only v
      (front_spelled one order v fits holds);
}

pub read_back : RequestsAreReadBack
read_back interface version order q fits holds =
    request_only interface version order
    ((request interface version).written q (joined_into order)).octets q
    (front_spelled (request_is interface version) order q fits holds)

-- the same of the octets that a call returns
pub message_read_back : {A : Type 0} {f : Ending A} → IsLawfulEnding f → (order : Order) (v : A) (octets : List ℕ)
    → f.fits v ≡ true → f.holds v → octets ≡ (f.written v (joined_into order)).octets
    → f.read (joined_from order octets) ≡ Ok v
message_read_back {A} {f} one order v octets fits holds is =
    ap (λ (b : List ℕ). f.read (joined_from order b)) is ∙ (whole_of one).back order v fits holds

pub octets_read_back : (interface : Interface) (version : Version) (order : Order) (q : Request) (octets : List ℕ)
    → (request interface version).fits q ≡ true → (request interface version).holds q
    → octets ≡ ((request interface version).written q (joined_into order)).octets
    → request_of_joined interface version order octets ≡ Ok q
octets_read_back interface version order q octets fits holds is =
    ap (request_of_joined interface version order) is ∙ read_back interface version order q fits holds

-- ---- refusals

body_fault : (r : Result Request CdrFault) (e : CdrFault) → body_answer r ≡ Err (Body e) → r ≡ Err e
body_fault (Ok q) e h = absurd cc
body_fault (Err d) e h = cc

not_header : (r : Result Request CdrFault) (e : CdrFault) → body_answer r ≡ Err (Header e) → ⊥
not_header (Ok q) e h = absurd cc
not_header (Err d) e h = absurd cc

not_operation : (r : Result Request CdrFault) → body_answer r ≡ Err NoOperation → ⊥
not_operation (Ok q) h = absurd cc
not_operation (Err d) h = absurd cc

abbrev Behind : Interface → Version → Cursor → Head → Cursor → RequestFault → Type 0
Behind interface version c head after (Header e) = ⊥
Behind interface version c head after NoOperation = operation_asked interface head ≡ None
Behind interface version c head after (Body e) =
    (operation : Operation) × (operation_asked interface head ≡ Some operation)
    × (request_body version head (Some operation)).refused after e

-- why nothing is answered behind a head
why_behind : (interface : Interface) (version : Version) (c : Cursor) (head : Head)
    (after : Cursor) (o : Option Operation)
    → operation_asked interface head ≡ o → (e : RequestFault)
    → operation_answer version head after o ≡ Err e
    → Behind interface version c head after e
why_behind interface version c head after None is (Header e) h = absurd cc
why_behind interface version c head after None is NoOperation h = is
why_behind interface version c head after None is (Body e) h = absurd cc
why_behind interface version c head after (Some operation) is (Header e) h = not_header _ e h
why_behind interface version c head after (Some operation) is NoOperation h =
    absurd (not_operation _ h)
why_behind interface version c head after (Some operation) is (Body e) h = (
  operation,
  is,
  ((request_body_is version head (Some operation)).exact after).refused e
      (body_fault _ e h),
)

abbrev err_of : CdrFault → Reading Head
err_of d = Err d

header : (interface : Interface) (version : Version) (d e : CdrFault)
    → head_answer interface version (err_of d) ≡ Err (Header e) → err_of d ≡ err_of e
header interface version d e h = cc

whole_why : (interface : Interface) (version : Version) (c : Cursor) (r : Reading Head)
    → (request_head version).read c ≡ r
    → (e : RequestFault) → head_answer interface version r ≡ Err e
    → RefusedRequest interface version c e
whole_why interface version c (Err d) is (Header e) h =
    ((request_head_is version).exact c).refused e (is ∙ header interface version d e h)
whole_why interface version c (Err d) is NoOperation h = absurd cc
whole_why interface version c (Err d) is (Body e) h = absurd cc
whole_why interface version c (Ok x) is (Header e) h =
    absurd (why_behind interface version c x.0 x.1 (operation_asked interface x.0) refl
    (Header e) h)
whole_why interface version c (Ok x) is NoOperation h = (
  x.0,
  x.1,
  ((request_head_is version).exact c).found x.0 x.1 is,
  why_behind interface version c x.0 x.1 (operation_asked interface x.0) refl NoOperation h,
)
whole_why interface version c (Ok x) is (Body e) h =
    let why = why_behind interface version c x.0 x.1 (operation_asked interface x.0) refl
    (Body e) h in
    (x.0, x.1, ((request_head_is version).exact c).found x.0 x.1 is, why.0, why.1, why.2)

whole_refuses : (interface : Interface) (version : Version) (c : Cursor) (e : RequestFault)
    → RefusedRequest interface version c e
    → head_answer interface version ((request_head version).read c) ≡ Err e
whole_refuses interface version c (Header e) why =
    rw (((request_head_is version).exact c).refuses e why) refl
whole_refuses interface version c NoOperation why =
    rw (((request_head_is version).exact c).only why.0 why.1 why.2, why.3) refl
whole_refuses interface version c (Body e) why =
    rw (
      ((request_head_is version).exact c).only why.0 why.1 why.2,
      why.4,
      ((request_body_is version why.0 (Some why.3)).exact why.1).refuses e why.5,
    ) refl

pub requests_refused : RequestsAreRefused
unfolding request_of_joined
requests_refused interface version order octets e = (
  whole_why interface version (joined_from order octets)
      ((request_head version).read (joined_from order octets)) refl e,
  whole_refuses interface version (joined_from order octets) e,
)

-- ---- what is refused is told

request_answer : (answer reading : Result Request RequestFault) (e : RequestFault)
    → DecodesRequest answer reading → reading ≡ Err e → answer ≡ Err e
request_answer (Ok q) reading e told read = absurd cc
request_answer (Err d) reading e told read = elim told [
  | inl refused ↦ cc
  | inr want ↦ cc (subst (λ (r : Result Request RequestFault). IsOk r) read want.1)
]

pub request_refusals_told : RequestRefusalsAreTold
request_refusals_told interface version order octets answer e told refused =
    request_answer answer (request_of_joined interface version order octets) e told
    ((requests_refused interface version order octets e).1 refused)

reply_answer : (answer reading : Result Reply CdrFault) (e : CdrFault)
    → Decodes answer reading → reading ≡ Err e → answer ≡ Err e
reply_answer (Ok r) reading e told read = absurd cc
reply_answer (Err d) reading e told read = elim told [
  | inl refused ↦ cc
  | inr want ↦ cc (subst (λ (r : Result Reply CdrFault). IsOk r) read want.1)
]

pub reply_refusals_told : ReplyRefusalsAreTold
reply_refusals_told interface asked version order octets answer e told refused =
    reply_answer answer ((reply interface asked version).read (joined_from order octets)) e told
    (((reply_is interface asked version).exact (joined_from order octets)).refuses e refused)
