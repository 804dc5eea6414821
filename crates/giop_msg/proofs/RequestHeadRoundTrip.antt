-- A head that is written is read back.
use Rattle.std.proofs.Common.{◌≡◌, ℕ, ℤ, pos, suc, ◌+◌, ◌<◌, ◌^◌, ◌&&◌, Bool, true, List, [], ◌∷◌, length, refl, sym, arith}
use Rattle.std.proofs.lemmas.Bool.{ltb-true}
use Rattle.std.specs.List.{AllByRecursion, list_all}
use Rattle.std.specs.Int.{w8, w16, w32}
use Rattle.giop_cdr.specs.Reading.{number_at, signed_at, octets_at, string_at}
use Rattle.giop_cdr.specs.Spelling.{Spelling, SpellsNumber, SpellsSigned, SpellsOctets, SpellsString, SpellsSequence, Then, Such, Known}
use Rattle.giop_cdr.specs.Output.{Output, number_out, signed_out, octets_out, string_out, sequence_out}
use Rattle.giop_cdr.specs.RoundTrip.{IsSpelled, IsReadBack}
use Rattle.giop_cdr.proofs.RoundTripLemmas.{number_back, signed_back, octets_back, string_back}
use Rattle.giop_cdr.proofs.SpelledLemmas.{read_back, spelled_of, then_spelled, known_spelled, sequence_spelled}
use Rattle.giop_msg.specs.declared.service_context.ServiceContext.{ServiceContext}
use Rattle.giop_msg.specs.declared.target.Target.{Target}
use Rattle.giop_msg.specs.declared.target.Target.TheVariants.{Key}
use Rattle.giop_msg.specs.declared.request_head.RequestHead.{RequestHead}
use Rattle.giop_msg.specs.RequestHead.{SpellsContext, SpellsTarget, SpellsReserved, SpellsRequestHead, is_response_flags, is_key_addr, RefusedHead, request_head_at}
use Rattle.giop_msg.specs.RequestHeadWriting.{context_out, reserved_out, target_out, request_head_out, is_countable, is_countable_target, IsHead}
use Rattle.giop_msg.proofs.RequestHeadSpelling.{head_exact}
use Rattle.giop_msg.proofs.WritableLemmas.{Writable, writable_parts, counts_context, and_parts}

spells_octets : (octets : List ℕ) (out : Output) → length octets < 2 ^ 32 → IsSpelled SpellsOctets octets out (octets_out octets out)
spells_octets octets out fits = spelled_of SpellsOctets (octets_at 0) octets out (octets_out octets out) (octets_back octets out fits)

spells_octet : (n : ℕ) (out : Output) → n < 2 ^ 8 → IsSpelled (SpellsNumber w8) n out (number_out w8 n out)
spells_octet n out fits = spelled_of (SpellsNumber w8) (number_at w8) n out (number_out w8 n out) (number_back w8 n out refl fits)

spells_ulong : (n : ℕ) (out : Output) → n < 2 ^ 32 → IsSpelled (SpellsNumber w32) n out (number_out w32 n out)
spells_ulong n out fits = spelled_of (SpellsNumber w32) (number_at w32) n out (number_out w32 n out) (number_back w32 n out refl fits)

such_spelled : {A : Type 0} (test : A → Bool) (P : Spelling A) (v : A) (out done : Output) → test v ≡ true → IsSpelled P v out done → IsSpelled (Such test P) v out done
such_spelled test P v out done is s = record { part = s.part; octets = s.octets; order = s.order; at = s.at; spells = (s.spells, is) }

abbrev IsContext : ServiceContext → Type 0
IsContext context = (context.id < 2 ^ 32) × (length context.octets < 2 ^ 32)

context_spelled : (context : ServiceContext) (out : Output) → IsContext context → IsSpelled SpellsContext context out (context_out context out)
unfolding context_out
context_spelled context out fits =
    let mid : Output = number_out w32 context.id out in
    let done : Output = octets_out context.octets mid in
    then_spelled (SpellsNumber w32) (λ id. Then SpellsOctets (λ octets. Known (record { id = id; octets = octets }))) context.id context out mid done
    (spells_ulong context.id out fits.0)
    (then_spelled SpellsOctets (λ octets. Known (record { id = context.id; octets = octets })) context.octets context mid done done
    (spells_octets context.octets mid fits.1) (known_spelled context done))

reserved_spelled : (out : Output) → IsSpelled SpellsReserved 0 out (reserved_out out)
unfolding reserved_out
reserved_spelled out =
    let one : Output = number_out w8 0 out in
    let two : Output = number_out w8 0 one in
    let done : Output = number_out w8 0 two in
    then_spelled (SpellsNumber w8) (λ _. Then (SpellsNumber w8) (λ _. SpellsNumber w8)) 0 0 out one done (spells_octet 0 out (omega arith))
    (then_spelled (SpellsNumber w8) (λ _. SpellsNumber w8) 0 0 one two done (spells_octet 0 one (omega arith)) (spells_octet 0 two (omega arith)))

disposition_spelled : (out : Output) → IsSpelled (SpellsSigned w16) (pos 0) out (number_out w16 0 out)
unfolding signed_out
disposition_spelled out = spelled_of (SpellsSigned w16) (signed_at w16) (pos 0) out (signed_out w16 (pos 0) out)
    (signed_back w16 (pos 0) out refl (record { sfits = omega arith }))

target_spelled : (target : Target) (out : Output) → is_countable_target target ≡ true → IsSpelled SpellsTarget target out (target_out target out)
unfolding target_out
target_spelled (Key key) out fits =
    let mid : Output = number_out w16 0 out in
    let done : Output = octets_out key mid in
    then_spelled (Such is_key_addr (SpellsSigned w16)) (λ _. Then SpellsOctets (λ octets. Known (Key octets))) (pos 0) (Key key) out mid done
    (such_spelled is_key_addr (SpellsSigned w16) (pos 0) out mid refl (disposition_spelled out))
    (then_spelled SpellsOctets (λ octets. Known (Key octets)) key (Key key) mid done done (spells_octets key mid (ltb-true _ _ fits)) (known_spelled (Key key) done))

-- ids in their range and octets short enough, context by context
contexts_fit : (contexts : List ServiceContext) → AllByRecursion (λ context. context.id < 2 ^ 32) contexts → list_all counts_context contexts ≡ true
    → AllByRecursion IsContext contexts
contexts_fit [] ids short = tt
contexts_fit (context ∷ contexts) ids short =
    let parts = and_parts _ _ short in
    ((ids.0, ltb-true _ _ parts.0), contexts_fit contexts ids.1 parts.1)

head_spelled : (head : RequestHead) (out : Output) → IsHead head → IsSpelled SpellsRequestHead head out (request_head_out head out)
unfolding request_head_out
head_spelled head out is =
    let w = writable_parts head is.writable in
    let after_id : Output = number_out w32 head.id out in
    let after_flags : Output = number_out w8 head.flags after_id in
    let after_reserved : Output = reserved_out after_flags in
    let after_target : Output = target_out head.target after_reserved in
    let after_operation : Output = string_out head.operation after_target in
    let done : Output = sequence_out context_out head.contexts after_operation in
    let contexts = then_spelled (SpellsSequence SpellsContext)
    (λ contexts. Known (record { id = head.id; flags = head.flags; target = head.target; operation = head.operation; contexts = contexts }))
    head.contexts head after_operation done done
    (sequence_spelled SpellsContext context_out IsContext context_spelled head.contexts after_operation w.few (contexts_fit head.contexts is.ids w.each))
    (known_spelled head done) in
    let operation = then_spelled SpellsString (λ operation. Then (SpellsSequence SpellsContext)
    (λ contexts. Known (record { id = head.id; flags = head.flags; target = head.target; operation = operation; contexts = contexts })))
    head.operation head after_target after_operation done
    (spelled_of SpellsString (string_at 0) head.operation after_target after_operation (string_back head.operation after_target w.text w.short)) contexts in
    let target = then_spelled SpellsTarget (λ target. Then SpellsString (λ operation. Then (SpellsSequence SpellsContext)
    (λ contexts. Known (record { id = head.id; flags = head.flags; target = target; operation = operation; contexts = contexts }))))
    head.target head after_reserved after_target done (target_spelled head.target after_reserved w.target) operation in
    let reserved = then_spelled SpellsReserved (λ _. Then SpellsTarget (λ target. Then SpellsString (λ operation. Then (SpellsSequence SpellsContext)
    (λ contexts. Known (record { id = head.id; flags = head.flags; target = target; operation = operation; contexts = contexts })))))
    0 head after_flags after_reserved done (reserved_spelled after_flags) target in
    let flags = then_spelled (Such is_response_flags (SpellsNumber w8)) (λ flags. Then SpellsReserved (λ _. Then SpellsTarget (λ target. Then SpellsString (λ operation.
    Then (SpellsSequence SpellsContext)
    (λ contexts. Known (record { id = head.id; flags = flags; target = target; operation = operation; contexts = contexts }))))))
    head.flags head after_id after_flags done
    (such_spelled is_response_flags (SpellsNumber w8) head.flags after_id after_flags w.flags (spells_octet head.flags after_id is.flags)) reserved in
    then_spelled (SpellsNumber w32) (λ id. Then (Such is_response_flags (SpellsNumber w8)) (λ flags. Then SpellsReserved (λ _. Then SpellsTarget (λ target. Then SpellsString (λ operation.
    Then (SpellsSequence SpellsContext)
    (λ contexts. Known (record { id = id; flags = flags; target = target; operation = operation; contexts = contexts })))))))
    head.id head out after_id done (spells_ulong head.id out is.id) flags

pub head_back : (head : RequestHead) (out : Output) → IsHead head → IsReadBack SpellsRequestHead request_head_at head out (request_head_out head out)
head_back head out is = read_back SpellsRequestHead RefusedHead request_head_at head_exact head out (request_head_out head out) (head_spelled head out is)
