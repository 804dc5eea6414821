-- The table of a Request is lawful, and what is read by it is answered, fault by fault.
use Rattle.std.proofs.Common.{◌≡◌, inl, inr, ℕ, ◌&&◌, Bool, true, false, List, Option, Some, None, Result, Ok, Err, IfOk, refl, sym, ap, ◌∙◌}
use Rattle.giop_cdr.specs.declared.order.Order.{Order}
use Rattle.giop_cdr.specs.declared.fault.CdrFault.{CdrFault}
use Rattle.giop_cdr.specs.Reading.Cursor.{Cursor}
use Rattle.giop_cdr.specs.Reading.Values.{◌>>=◌, Reading}
use Rattle.giop_cdr.specs.Layout.{AreOctets}
use Rattle.giop_cdr.specs.Ending.{IsLawfulEnding, ended, made_of, nothing, leads}
use Rattle.giop_cdr.proofs.EndingLemmas.{ended_is, leads_is, made_of_is, nothing_is, never_ends}
use Rattle.giop_types.specs.declared.interfaces.interface.Interface.{Interface}
use Rattle.giop_types.specs.declared.interfaces.interface.Operation.{Operation}
use Rattle.giop_types.specs.declared.interfaces.parameters.Parameter.{Parameter}
use Rattle.giop_types.specs.Values.Tree.{Tree}
use Rattle.giop_msg.specs.declared.messages.request.Request.{Request}
use Rattle.giop_msg.specs.declared.messages.request_fault.RequestFault.{RequestFault}
use Rattle.giop_msg.specs.declared.messages.request_fault.RequestFault.TheVariants.{Operation as NoOperation, Body}
use Rattle.giop_msg.specs.declared.version.Version.{Version}
use Rattle.giop_msg.specs.Joined.{joined_from}
use Rattle.giop_types.specs.Values.Fits.{fields_fit}
use Rattle.giop_cdr.specs.Writing.Output.{Output}
use Rattle.giop_cdr.specs.Writing.Outcome.{Appends, Grows}
use Rattle.giop_cdr.proofs.Writing.WriterLemmas.{grows_then}
use Rattle.giop_cdr.proofs.LayoutLemmas.{both}
use Rattle.giop_msg.specs.Messages.Body.{body_of, fields_in, values}
use Rattle.giop_msg.specs.Messages.Request.{operation_asked, request_body, request}
use Rattle.giop_msg.specs.Messages.RequestAnswer.{DecodesRequest, IsRequestTold, body_answer, operation_answer, head_answer, request_of_joined}
use Rattle.giop_msg.specs.RequestHead.{Head, request_head}
use Rattle.giop_msg.proofs.RequestHeadLemmas.{request_head_is}
use Rattle.giop_msg.proofs.WholeMessages.BodyLemmas.{body_fits, body_is, values_are}

pub request_body_is : (version : Version) (head : Head) (operation : Option Operation)
    → IsLawfulEnding (request_body version head operation)
unfolding request_body
request_body_is version head None = nothing_is
request_body_is version head (Some operation) =
    made_of_is _ _ (λ body. refl) (body_is version (ended_is (values_are operation.ins.list.items)))

its_head : (version : Version) (head : Head) (operation : Option Operation) (v : Request)
    → (request_body version head operation).holds v → v.head ≡ head
unfolding request_body nothing made_of
its_head version head None v held = absurd held
its_head version head (Some operation) v held = ap (λ request. request.head) held.0

pub request_is : (interface : Interface) (version : Version)
    → IsLawfulEnding (request interface version)
unfolding request
request_is interface version =
    leads_is _ (λ head v _ _ held. its_head version head
    (operation_asked interface head) v held) (request_head_is version)
    (λ head. request_body_is version head (operation_asked interface head))

pub request_unspelled : (interface : Interface) (version : Version) (q : Request)
    → (request interface version).fits q ≡ false → (order : Order) (at : ℕ)
    (octets : List ℕ) → AreOctets octets → (request interface version).spells order at q octets → ⊥
request_unspelled interface version = never_ends (request_is interface version)

-- ---- what is read is answered

answered_body : (r : Result Request CdrFault) (q : Request) → body_answer r ≡ Ok q → r ≡ Ok q
answered_body (Ok p) q h = cc
answered_body (Err e) q h = absurd cc

answered_operation : (version : Version) (head : Head) (after : Cursor)
    (operation : Option Operation) (q : Request)
    → operation_answer version head after operation ≡ Ok q
    → (request_body version head operation).read after ≡ Ok q
answered_operation version head after None q h = absurd cc
answered_operation version head after (Some operation) q h = answered_body _ q h

told_operation : (version : Version) (head : Head) (after : Cursor) (operation : Option Operation)
    (q : Request)
    → (request_body version head operation).read after ≡ Ok q
    → operation_answer version head after operation ≡ Ok q
unfolding request_body nothing
told_operation version head after None q h = absurd cc
told_operation version head after (Some operation) q h = ap body_answer h

answered_head : (interface : Interface) (version : Version) (r : Reading Head) (q : Request)
    → head_answer interface version r ≡ Ok q
    → (r >>= λ x. (request_body version x.0 (operation_asked interface x.0)).read x.1) ≡ Ok q
answered_head interface version (Ok x) q h =
    answered_operation version x.0 x.1 (operation_asked interface x.0) q h
answered_head interface version (Err e) q h = absurd cc

told_head : (interface : Interface) (version : Version) (r : Reading Head) (q : Request)
    → (r >>= λ x. (request_body version x.0 (operation_asked interface x.0)).read x.1)
    ≡ Ok q → head_answer interface version r ≡ Ok q
told_head interface version (Ok x) q h =
    told_operation version x.0 x.1 (operation_asked interface x.0) q h
told_head interface version (Err e) q h = absurd cc

-- what is answered is what the octets spell
pub request_found : (interface : Interface) (version : Version) (order : Order) (octets : List ℕ)
    (q : Request)
    → request_of_joined interface version order octets ≡ Ok q
    → (request interface version).spells order 12 q octets
unfolding request_of_joined
request_found interface version order octets q h =
    ((request_is interface version).exact (joined_from order octets)).found q
    (unfold request leads in answered_head interface version
    ((request_head version).read (joined_from order octets)) q h)

-- and what they spell is answered
pub request_only : (interface : Interface) (version : Version) (order : Order) (octets : List ℕ)
    (q : Request)
    → (request interface version).spells order 12 q octets
    → request_of_joined interface version order octets ≡ Ok q
unfolding request_of_joined
request_only interface version order octets q s =
    told_head interface version ((request_head version).read (joined_from order octets)) q
    (unfold request leads in
    ((request_is interface version).exact (joined_from order octets)).only q s)

-- ---- the clauses of a call that reads a Request

pub decodes_found : (interface : Interface) (version : Version) (order : Order) (octets : List ℕ)
    (result : Result Request RequestFault)
    → DecodesRequest result (request_of_joined interface version order octets)
    → IfOk result (λ q. (request interface version).spells order 12 q octets)
decodes_found interface version order octets (Ok q) h =
    request_found interface version order octets q h
decodes_found interface version order octets (Err e) h = tt

abbrev answer_of : Request → Result Request RequestFault
answer_of q = Ok q

one_answer : (p q : Request) → answer_of p ≡ answer_of q → p ≡ q
one_answer p q e = cc

no_answer : (q : Request) (e : RequestFault) → answer_of q ≡ Err e → ⊥
no_answer q e h = absurd cc

pub decodes_only : (interface : Interface) (version : Version) (order : Order) (octets : List ℕ)
    (result : Result Request RequestFault)
    → DecodesRequest result (request_of_joined interface version order octets)
    → (q : Request) → (request interface version).spells order 12 q octets → IsRequestTold result q
decodes_only interface version order octets (Ok p) h q s =
    one_answer p q (sym h ∙ request_only interface version order octets q s)
decodes_only interface version order octets (Err e) h q s = elim h [
  | inl refused ↦ absurd
      (no_answer q e (sym (request_only interface version order octets q s) ∙ refused))
  | inr want ↦ want.0
]

-- ---- the answer, by its steps

abbrev request_of : Head → List Tree → Request
request_of head body = record { head = head; body = body }

-- the interface hasn't the operation
pub unknown_answer : (interface : Interface) (version : Version) (order : Order) (octets : List ℕ)
    (head own : Head) (after : Cursor)
    → (request_head version).read (joined_from order octets) ≡ Ok (head, after) → own ≡ head
    → None ≡ operation_asked interface own
    → request_of_joined interface version order octets ≡ Err NoOperation
unfolding request_of_joined
unknown_answer interface version order octets head own after read same found =
    let there : operation_asked interface head ≡ None
    = ap (operation_asked interface) (sym same) ∙ sym found in
    rw (read, there) refl

-- the ins are there
pub body_told : (interface : Interface) (version : Version) (order : Order) (octets : List ℕ)
    (head own : Head) (after : Cursor)
    (operation : Operation) (parameters : List Parameter) (body : List Tree)
    → (request_head version).read (joined_from order octets) ≡ Ok (head, after) → own ≡ head
    → Some operation ≡ operation_asked interface own
    → parameters ≡ operation.ins.list.items
    → (body_of version (ended (values parameters))).read after ≡ Ok body
    → request_of_joined interface version order octets ≡ Ok (request_of own body)
unfolding request_of_joined request_body made_of
body_told interface version order octets head own after operation parameters body read same
    found listed told =
    let there : operation_asked interface head ≡ Some operation
    = ap (operation_asked interface) (sym same) ∙ sym found in
    let ins : (body_of version (ended (values operation.ins.list.items))).read after ≡ Ok body
    = ap (λ ps. (body_of version (ended (values ps))).read after) (sym listed) ∙ told in
    rw (read, there, ins, same) refl

-- they are refused
pub body_refused : (interface : Interface) (version : Version) (order : Order) (octets : List ℕ)
    (head own : Head) (after : Cursor)
    (operation : Operation) (parameters : List Parameter) (e : CdrFault)
    → (request_head version).read (joined_from order octets) ≡ Ok (head, after) → own ≡ head
    → Some operation ≡ operation_asked interface own
    → parameters ≡ operation.ins.list.items
    → (body_of version (ended (values parameters))).read after ≡ Err e
    → request_of_joined interface version order octets ≡ Err (Body e)
unfolding request_of_joined request_body made_of
body_refused interface version order octets head own after operation parameters e read same
    found listed told =
    let there : operation_asked interface head ≡ Some operation
    = ap (operation_asked interface) (sym same) ∙ sym found in
    let ins : (body_of version (ended (values operation.ins.list.items))).read after ≡ Err e
    = ap (λ ps. (body_of version (ended (values ps))).read after) (sym listed) ∙ told in
    rw (read, there, ins) refl

-- ---- whether a Request fits

pub fits_unknown : (interface : Interface) (version : Version) (q : Request)
    → None ≡ operation_asked interface q.head
    → (request interface version).fits q ≡ false
unfolding request leads request_body nothing
fits_unknown interface version q found =
    rw (sym found) (and_nothing ((request_head version).fits q.head))
  where
    and_nothing : (b : Bool) → (b && false) ≡ false
    and_nothing true = refl
    and_nothing false = refl

pub fits_known : (interface : Interface) (version : Version) (q : Request)
    (operation : Operation) → Some operation ≡ operation_asked interface q.head
    → (request interface version).fits q
    ≡ ((request_head version).fits q.head
    && fields_fit (fields_in operation.ins.list.items) q.body)
unfolding request leads request_body made_of
fits_known interface version q operation found =
    rw (sym found) (ap (λ b. (request_head version).fits q.head && b)
    (body_fits version operation.ins.list.items q.body))

pub fits_head : (interface : Interface) (version : Version) (q : Request)
    → (request interface version).fits q ≡ true
    → (request_head version).fits q.head ≡ true
unfolding request leads
fits_head interface version q fit = (both _ _ fit).0

pub fits_body : (interface : Interface) (version : Version) (q : Request)
    (operation : Operation) → Some operation ≡ operation_asked interface q.head → (request interface version).fits q ≡ true
    → fields_fit (fields_in operation.ins.list.items) q.body ≡ true
fits_body interface version q operation found fit =
    (both _ _ (sym (fits_known interface version q operation found) ∙ fit)).1

-- what is written of it
pub written_unknown : (interface : Interface) (version : Version) (q : Request)
    (out : Output) → None ≡ operation_asked interface q.head
    → (request interface version).written q out ≡ (request_head version).written q.head out
unfolding request leads request_body nothing
written_unknown interface version q out found =
    rw (sym found) refl

pub written_known : (interface : Interface) (version : Version) (q : Request)
    (operation : Operation) (out : Output) → Some operation ≡ operation_asked interface q.head
    → (request interface version).written q out
    ≡ (body_of version (ended (values operation.ins.list.items))).written q.body
    ((request_head version).written q.head out)
unfolding request leads request_body made_of
written_known interface version q operation out found =
    rw (sym found) refl

pub parts_written : (interface : Interface) (version : Version) (q : Request)
    (operation : Operation) (out mid : Output)
    (parameters : List Parameter) (body : List Tree) → Some operation ≡ operation_asked interface q.head
    → parameters ≡ operation.ins.list.items → body ≡ q.body
    → mid ≡ (request_head version).written q.head out
    → (body_of version (ended (values parameters))).written body mid
    ≡ (request interface version).written q out
parts_written interface version q operation out mid parameters body found listed held head =
    rw (listed, held, head) (sym (written_known interface version q operation out found))

pub appends_then : {X E : Type 0} (r : Result X E) (out mid new done total : Output)
    → Grows out mid → Appends mid r new done → done ≡ total
    → Appends out r new total
appends_then (Ok x) out mid new done total grows h same =
    (h.0 ∙ same, grows_then out mid new grows h.1)
appends_then (Err e) out mid new done total grows h same = grows_then out mid new grows h
