-- The tables of a Request's head are lawful.
use Rattle.std.proofs.Common.{◌≡◌, ℕ, ◌==◌, ◌||◌, Bool, true, false, List, [], ◌<◌, ◌^◌, refl, sym, ap, subst, arith}
use Rattle.std.proofs.lemmas.Bool.{eqb-true}
use Rattle.std.specs.Int.{w8, w32}
use Rattle.giop_cdr.specs.Layout.{IsLawful, number, boolean, octets, text, such, field, gives, reserved}
use Rattle.giop_cdr.proofs.LayoutLemmas.{number_is, boolean_is, octets_is, text_is, such_is, field_is, gives_is, reserved_is}
use Rattle.giop_ior.specs.declared.references.service_context.ServiceContext.{ServiceContext}
use Rattle.giop_ior.specs.ServiceContext.{service_contexts}
use Rattle.giop_ior.proofs.ServiceContextLemmas.{service_contexts_are}
use Rattle.giop_msg.specs.declared.version.Version.{Version}
use Rattle.giop_msg.specs.declared.version.Version.TheVariants.{V10, V11, V12}
use Rattle.giop_msg.specs.RequestHead.{Head, response_flags, reserved_octet, reserved_octets, request_head_1_2, flags_expecting, is_expecting, response_expected, reserved_of, principal, early_request_head, request_head}
use Rattle.giop_msg.specs.Meaning.{meaning}
use Rattle.giop_msg.specs.Target.{target_layout, object_key}
use Rattle.giop_msg.proofs.MeaningLemmas.{meaning_is}
use Rattle.giop_msg.proofs.TargetLemmas.{target_is, object_key_is}

response_flags_is : IsLawful response_flags
unfolding response_flags
response_flags_is = such_is _ _ _ (number_is w8 refl)

reserved_octet_is : IsLawful reserved_octet
unfolding reserved_octet number
reserved_octet_is = reserved_is 0 refl (omega arith) (number_is w8 refl)

reserved_octets_is : IsLawful reserved_octets
unfolding reserved_octets
reserved_octets_is =
    field_is _ (λ _ _ _ held _. unfold reserved_octet reserved in cc) reserved_octet_is
    (λ _. field_is _ (λ _ _ _ held _. unfold reserved_octet reserved in cc) reserved_octet_is
    (λ _. field_is _ (λ _ _ _ held _. unfold reserved_octet reserved in cc) reserved_octet_is (λ _. gives_is 0)))

request_head_1_2_is : IsLawful request_head_1_2
unfolding request_head_1_2
request_head_1_2_is =
    field_is _ (λ _ _ _ _ held. unfold field gives in cc) (number_is w32 refl)
    (λ _. field_is _ (λ _ _ _ _ held. unfold field gives in cc) response_flags_is
    (λ _. field_is _ (λ _ _ _ held _. unfold reserved_octets field gives in cc) reserved_octets_is
    (λ _. field_is _ (λ _ _ _ _ held. unfold field gives in cc) target_is
    (λ _. field_is _ (λ _ _ _ _ held. unfold field gives in cc) text_is
    (λ _. field_is _ (λ _ _ _ _ held. unfold field gives in cc) service_contexts_are
    (λ _. gives_is _))))))

-- ---- before 1.2

expecting_by : (a b : Bool) (flags : ℕ) → (a || b) ≡ true → (a ≡ true → 0 ≡ flags) → (b ≡ true → 3 ≡ flags) → (a ≡ true → b ≡ false) → flags_expecting b ≡ flags
expecting_by true true flags one zero three apart = let no : true ≡ false = apart refl in cc
expecting_by true false flags one zero three apart = zero refl
expecting_by false true flags one zero three apart = three refl
expecting_by false false flags one zero three apart = absurd cc

zero_or_three : (flags : ℕ) → (flags == 0) ≡ true → (flags == 3) ≡ false
zero_or_three flags is = rw (eqb-true flags 0 is) refl

expecting_again : (flags : ℕ) → is_expecting flags ≡ true → flags_expecting (flags == 3) ≡ flags
expecting_again flags is =
    expecting_by (flags == 0) (flags == 3) flags is (λ e. sym (eqb-true flags 0 e)) (λ e. sym (eqb-true flags 3 e)) (zero_or_three flags)

told_again : (expected : Bool) → (flags_expecting expected == 3) ≡ expected
told_again true = refl
told_again false = refl

all_expecting : (expected : Bool) → is_expecting (flags_expecting expected) ≡ true
all_expecting true = refl
all_expecting false = refl

response_expected_is : IsLawful response_expected
unfolding response_expected
response_expected_is = meaning_is flags_expecting (λ flags. flags == 3) is_expecting expecting_again told_again all_expecting boolean_is

reserved_of_is : (version : Version) → IsLawful (reserved_of version)
unfolding reserved_of
reserved_of_is V10 = gives_is 0
reserved_of_is V11 = reserved_octets_is
reserved_of_is V12 = reserved_octets_is

reserved_is_0 : (version : Version) (v : ℕ) → (reserved_of version).holds v → 0 ≡ v
unfolding reserved_of reserved_octets reserved_octet reserved field gives
reserved_is_0 V10 v held = sym held
reserved_is_0 V11 v held = cc
reserved_is_0 V12 v held = cc

principal_is : IsLawful principal
unfolding principal octets
principal_is = reserved_is [] refl tt octets_is

early_request_head_is : (version : Version) → IsLawful (early_request_head version)
unfolding early_request_head
early_request_head_is version =
    field_is _ (λ _ _ _ _ held. unfold field gives in cc) service_contexts_are
    (λ _. field_is _ (λ _ _ _ _ held. unfold field gives in cc) (number_is w32 refl)
    (λ _. field_is _ (λ _ _ _ _ held. unfold field gives in cc) response_expected_is
    (λ _. field_is _ (λ v _ _ held _. cc (reserved_is_0 version v held)) (reserved_of_is version)
    (λ _. field_is _ (λ _ _ _ _ held. unfold field gives in cc) object_key_is
    (λ _. field_is _ (λ _ _ _ _ held. unfold field gives in cc) text_is
    (λ _. field_is _ (λ _ _ _ held _. unfold principal reserved in cc) principal_is
    (λ _. gives_is _)))))))

pub request_head_is : (version : Version) → IsLawful (request_head version)
unfolding request_head
request_head_is V10 = early_request_head_is V10
request_head_is V11 = early_request_head_is V11
request_head_is V12 = request_head_1_2_is

-- ---- the parts of a head hold, so it does

of_version : (version : Version) (head : Head) → head.version ≡ version
    → head ≡ record {
      version = version;
      id = head.id;
      flags = head.flags;
      target = head.target;
      operation = head.operation;
      contexts = head.contexts;
    }
of_version version head is = ap (λ (v : Version). record {
  version = v;
  id = head.id;
  flags = head.flags;
  target = head.target;
  operation = head.operation;
  contexts = head.contexts;
}) is

pub late_holds : (head : Head) (contexts : List ServiceContext) → contexts ≡ head.contexts → head.version ≡ V12 → head.id < 2 ^ 32 → head.flags < 2 ^ 8
    → reserved_octets.holds 0 → target_layout.holds head.target → service_contexts.holds contexts → request_head_1_2.holds head
unfolding request_head_1_2 response_flags field such number text gives
late_holds head contexts shown is id flags none target held =
    (id, (flags, (none, (target, (tt, (subst service_contexts.holds shown held, of_version V12 head is))))))

pub early_holds : (version : Version) (head : Head) (contexts : List ServiceContext) → contexts ≡ head.contexts → head.version ≡ version
    → service_contexts.holds contexts → head.id < 2 ^ 32 → (reserved_of version).holds 0 → object_key.holds head.target
    → (early_request_head version).holds head
unfolding early_request_head response_expected meaning boolean principal reserved field number text gives
early_holds version head contexts shown is held id none target =
    (subst service_contexts.holds shown held, (id, (tt, (none, (target, (tt, (refl, of_version version head is)))))))
