-- A head that is read is a head that is spelled, field by field.
use Rattle.std.proofs.Common.{◌≡◌, ℕ, ℤ, ◌+◌, ◌<◌, ◌≤◌, List, ◌++◌, length, Ok, Err, refl, sym, ap, subst, ◌∙◌, length-append, arith}
use Rattle.std.specs.Int.{w8, w16, w32}
use Rattle.giop_cdr.specs.declared.order.Order.{Order}
use Rattle.giop_cdr.specs.declared.fault.CdrKind.TheVariants.{BadLabel}
use Rattle.giop_cdr.specs.Cursor.{Cursor, pad, place}
use Rattle.giop_cdr.specs.Reading.{Reading, ◌>>=◌, number_at, signed_at, octets_at, string_at, sequence_at}
use Rattle.giop_cdr.specs.Spelling.{Spelling, SpellsNumber, SpellsSigned, SpellsOctets, SpellsString, SpellsSequence, Then, Such, Known}
use Rattle.giop_cdr.specs.Readers.{Took, Refusal, FirstRefused, NeverRefused, RefusedShort, RefusedOctets, RefusedString, RefusedSequence, IsExact, TakesOctets}
use Rattle.giop_cdr.proofs.FieldSpelling.{number_exact, signed_exact}
use Rattle.giop_cdr.proofs.CountSpelling.{octets_exact}
use Rattle.giop_cdr.proofs.TextSpelling.{string_exact}
use Rattle.giop_cdr.proofs.SequenceSpelling.{sequence_exact}
use Rattle.giop_cdr.proofs.Composing.{then_exact, nothing_exact, such_exact, unbounded_exact}
use Rattle.giop_msg.specs.declared.service_context.ServiceContext.{ServiceContext}
use Rattle.giop_msg.specs.declared.target.Target.{Target}
use Rattle.giop_msg.specs.declared.target.Target.TheVariants.{Key}
use Rattle.giop_msg.specs.declared.request_head.RequestHead.{RequestHead}
use Rattle.giop_msg.specs.RequestHead.{SpellsContext, SpellsTarget, SpellsReserved, SpellsRequestHead, is_response_flags, is_key_addr, RefusedContext, RefusedFlags, RefusedReserved, RefusedKeyAddr, RefusedTarget, RefusedHead, context_at, flags_at, reserved_at, disposition_at, target_at, request_head_at}

any_octets : IsExact (Took SpellsOctets) (RefusedOctets 0) (octets_at 0)
any_octets = unbounded_exact SpellsOctets (RefusedOctets 0) (octets_at 0) (octets_exact 0)

any_string : IsExact (Took SpellsString) (RefusedString 0) (string_at 0)
any_string = unbounded_exact SpellsString (RefusedString 0) (string_at 0) (string_exact 0)

-- a value of octets that is made of them
abbrev made_at : {A : Type 0} → (List ℕ → A) → Cursor → Reading A
made_at make c = octets_at 0 c >>= λ octets. Ok (make octets.0, octets.1)

made_exact : {A : Type 0} (make : List ℕ → A)
    → IsExact (Took (Then SpellsOctets (λ octets. Known (make octets)))) (FirstRefused (Took SpellsOctets) (RefusedOctets 0) (λ _. NeverRefused)) (made_at make)
made_exact make = then_exact SpellsOctets (λ octets. Known (make octets)) (RefusedOctets 0) (λ _. NeverRefused)
    (octets_at 0) (λ octets d. Ok (make octets, d)) any_octets (λ octets. nothing_exact (make octets))

abbrev context_of : ℕ → List ℕ → ServiceContext
context_of id octets = record { id = id; octets = octets }

context_exact : IsExact (Took SpellsContext) RefusedContext context_at
unfolding context_at
context_exact = then_exact (SpellsNumber w32) (λ id. Then SpellsOctets (λ octets. Known (context_of id octets))) (RefusedShort 4)
    (λ _. FirstRefused (Took SpellsOctets) (RefusedOctets 0) (λ _. NeverRefused)) (number_at w32) (λ id d. made_at (context_of id) d)
    (number_exact w32) (λ id. made_exact (context_of id))

context_takes : TakesOctets SpellsContext
context_takes o at v b s =
    let id = s.spells_front in
    let whole : length b ≡ length s.front + length s.back = ap length s.whole ∙ length-append s.front s.back in
    let front : length s.front ≡ length id.pads + length id.octets = ap length id.whole ∙ length-append id.pads id.octets in
    omega (arith, id.few)

flags_exact : IsExact (Took (Such is_response_flags (SpellsNumber w8))) RefusedFlags flags_at
unfolding flags_at
flags_exact = such_exact is_response_flags 1 BadLabel (SpellsNumber w8) (RefusedShort 1) (number_at w8) (number_exact w8)

reserved_exact : IsExact (Took SpellsReserved) RefusedReserved reserved_at
unfolding reserved_at
reserved_exact = then_exact (SpellsNumber w8) (λ _. Then (SpellsNumber w8) (λ _. SpellsNumber w8)) (RefusedShort 1)
    (λ _. FirstRefused (Took (SpellsNumber w8)) (RefusedShort 1) (λ _. RefusedShort 1)) (number_at w8) (λ _ d. number_at w8 d >>= λ second. number_at w8 second.1)
    (number_exact w8) (λ _. then_exact (SpellsNumber w8) (λ _. SpellsNumber w8) (RefusedShort 1) (λ _. RefusedShort 1) (number_at w8) (λ _ d. number_at w8 d)
    (number_exact w8) (λ _. number_exact w8))

disposition_exact : IsExact (Took (Such is_key_addr (SpellsSigned w16))) RefusedKeyAddr disposition_at
unfolding disposition_at
disposition_exact = such_exact is_key_addr 2 BadLabel (SpellsSigned w16) (RefusedShort 2) (signed_at w16) (signed_exact w16)

abbrev key_of : List ℕ → Target
key_of key = Key key

target_exact : IsExact (Took SpellsTarget) RefusedTarget target_at
unfolding target_at
target_exact = then_exact (Such is_key_addr (SpellsSigned w16)) (λ _. Then SpellsOctets (λ key. Known (key_of key))) RefusedKeyAddr
    (λ _. FirstRefused (Took SpellsOctets) (RefusedOctets 0) (λ _. NeverRefused)) disposition_at (λ _ d. made_at key_of d)
    disposition_exact (λ _. made_exact key_of)

contexts_exact : IsExact (Took (SpellsSequence SpellsContext)) (RefusedSequence (Took SpellsContext) RefusedContext) (sequence_at context_at)
contexts_exact = sequence_exact SpellsContext RefusedContext context_at context_exact context_takes

-- ---- the fields in their order, from the last one on

abbrev head_with : ℕ → ℕ → Target → List ℕ → List ServiceContext → RequestHead
head_with id flags target operation contexts = record { id = id; flags = flags; target = target; operation = operation; contexts = contexts }

abbrev SpellsFromContexts : ℕ → ℕ → Target → List ℕ → Spelling RequestHead
SpellsFromContexts id flags target operation = Then (SpellsSequence SpellsContext) (λ contexts. Known (head_with id flags target operation contexts))

abbrev RefusedFromContexts : Refusal
RefusedFromContexts = FirstRefused (Took (SpellsSequence SpellsContext)) (RefusedSequence (Took SpellsContext) RefusedContext) (λ _. NeverRefused)

abbrev from_contexts : ℕ → ℕ → Target → List ℕ → Cursor → Reading RequestHead
from_contexts id flags target operation c = sequence_at context_at c >>= λ contexts. Ok (head_with id flags target operation contexts.0, contexts.1)

contexts_on : (id flags : ℕ) (target : Target) (operation : List ℕ) → IsExact (Took (SpellsFromContexts id flags target operation)) RefusedFromContexts (from_contexts id flags target operation)
contexts_on id flags target operation = then_exact (SpellsSequence SpellsContext) (λ contexts. Known (head_with id flags target operation contexts))
    (RefusedSequence (Took SpellsContext) RefusedContext) (λ _. NeverRefused) (sequence_at context_at) (λ contexts d. Ok (head_with id flags target operation contexts, d))
    contexts_exact (λ contexts. nothing_exact (head_with id flags target operation contexts))

abbrev SpellsFromOperation : ℕ → ℕ → Target → Spelling RequestHead
SpellsFromOperation id flags target = Then SpellsString (λ operation. SpellsFromContexts id flags target operation)

abbrev RefusedFromOperation : Refusal
RefusedFromOperation = FirstRefused (Took SpellsString) (RefusedString 0) (λ _. RefusedFromContexts)

abbrev from_operation : ℕ → ℕ → Target → Cursor → Reading RequestHead
from_operation id flags target c = string_at 0 c >>= λ operation. from_contexts id flags target operation.0 operation.1

operation_on : (id flags : ℕ) (target : Target) → IsExact (Took (SpellsFromOperation id flags target)) RefusedFromOperation (from_operation id flags target)
operation_on id flags target = then_exact SpellsString (λ operation. SpellsFromContexts id flags target operation) (RefusedString 0) (λ _. RefusedFromContexts)
    (string_at 0) (λ operation d. from_contexts id flags target operation d) any_string (λ operation. contexts_on id flags target operation)

abbrev SpellsFromTarget : ℕ → ℕ → Spelling RequestHead
SpellsFromTarget id flags = Then SpellsTarget (λ target. SpellsFromOperation id flags target)

abbrev RefusedFromTarget : Refusal
RefusedFromTarget = FirstRefused (Took SpellsTarget) RefusedTarget (λ _. RefusedFromOperation)

abbrev from_target : ℕ → ℕ → Cursor → Reading RequestHead
from_target id flags c = target_at c >>= λ target. from_operation id flags target.0 target.1

target_on : (id flags : ℕ) → IsExact (Took (SpellsFromTarget id flags)) RefusedFromTarget (from_target id flags)
target_on id flags = then_exact SpellsTarget (λ target. SpellsFromOperation id flags target) RefusedTarget (λ _. RefusedFromOperation)
    target_at (λ target d. from_operation id flags target d) target_exact (λ target. operation_on id flags target)

abbrev SpellsFromReserved : ℕ → ℕ → Spelling RequestHead
SpellsFromReserved id flags = Then SpellsReserved (λ _. SpellsFromTarget id flags)

abbrev RefusedFromReserved : Refusal
RefusedFromReserved = FirstRefused (Took SpellsReserved) RefusedReserved (λ _. RefusedFromTarget)

abbrev from_reserved : ℕ → ℕ → Cursor → Reading RequestHead
from_reserved id flags c = reserved_at c >>= λ reserved. from_target id flags reserved.1

reserved_on : (id flags : ℕ) → IsExact (Took (SpellsFromReserved id flags)) RefusedFromReserved (from_reserved id flags)
reserved_on id flags = then_exact SpellsReserved (λ _. SpellsFromTarget id flags) RefusedReserved (λ _. RefusedFromTarget)
    reserved_at (λ _ d. from_target id flags d) reserved_exact (λ _. target_on id flags)

abbrev SpellsFromFlags : ℕ → Spelling RequestHead
SpellsFromFlags id = Then (Such is_response_flags (SpellsNumber w8)) (λ flags. SpellsFromReserved id flags)

abbrev RefusedFromFlags : Refusal
RefusedFromFlags = FirstRefused (Took (Such is_response_flags (SpellsNumber w8))) RefusedFlags (λ _. RefusedFromReserved)

abbrev from_flags : ℕ → Cursor → Reading RequestHead
from_flags id c = flags_at c >>= λ flags. from_reserved id flags.0 flags.1

flags_on : (id : ℕ) → IsExact (Took (SpellsFromFlags id)) RefusedFromFlags (from_flags id)
flags_on id = then_exact (Such is_response_flags (SpellsNumber w8)) (λ flags. SpellsFromReserved id flags) RefusedFlags (λ _. RefusedFromReserved)
    flags_at (λ flags d. from_reserved id flags d) flags_exact (λ flags. reserved_on id flags)

pub head_exact : IsExact (Took SpellsRequestHead) RefusedHead request_head_at
unfolding request_head_at
head_exact = then_exact (SpellsNumber w32) (λ id. SpellsFromFlags id) (RefusedShort 4) (λ _. RefusedFromFlags)
    (number_at w32) (λ id d. from_flags id d) (number_exact w32) (λ id. flags_on id)
