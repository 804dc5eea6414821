-- The octet that begins a list, and the files of interfaces by keys.
use Rattle.std.proofs.Common.{List, ◌≡◌, ℕ, Bool, Option, Some, None, IsTrue, ◌↔◌, Bor, nat_eq, refl, sym, ◌∙◌, ap, arith}
use Rattle.std.specs.Cmp.Lexicographic.{pointwise}
use Rattle.std.specs.List.{find}
use Rattle.std.specs.Option.{option_eq, option_map, option_or}
use Rattle.giop_files.specs.Files.{is_general, is_of, own_file}
use Rattle.giop_files.specs.declared.files.interfaces.Offered.{Offered}
use Rattle.std.proofs.lemmas.Bool.{eqb-true, eq-eqb}
use Rattle.std.proofs.lemmas.Option.{none-some}

-- an octet that was found is this one, where `==` says so
pub begins_with : (at : ℕ) (octet : Option (Bor ℕ)) (wanted : Bor ℕ) (first : Option ℕ) (equal : Bool) → wanted.now ≡ at
    → option_map (λ x. x.now) octet ≡ first → equal ≡ option_eq (λ x y. nat_eq x.now y.now) octet (Some wanted) → IsTrue equal ↔ (first ≡ Some at)
begins_with at None wanted first equal is told same =
    (λ t. absurd (grind (arith, t, same)), λ s. absurd (none-some at (told ∙ s)))
begins_with at (Some x) wanted first equal is told same = (
  λ t. sym told ∙ ap (λ n. Some n) (eqb-true x.now wanted.now (sym same ∙ t) ∙ is),
  λ s. same ∙ eq-eqb x.now wanted.now (grind (arith, told, s) ∙ sym is),
)

-- `==` of two keys is that of their octets
pub keys_alike : (own : Option (Bor (List ℕ))) (wanted : Bor (List ℕ)) → option_eq (λ x y. pointwise nat_eq x.now y.now) own (Some wanted)
    ≡ option_eq (pointwise nat_eq) (option_map (λ key. key.now) own) (Some wanted.now)
keys_alike None wanted = refl
keys_alike (Some own) wanted = refl

pub own_first : (files : List Offered) (key : List ℕ) (found : Option (Bor Offered)) (own : Bor Offered) → found ≡ Some own
    → option_map (λ file. file.now) found ≡ find (is_of key) files → Some own.now ≡ own_file files key
own_first files key found own is told =
    sym (ap (λ first. option_or first (find is_general files)) (sym told ∙ ap (λ first. option_map (λ file. file.now) first) is))

pub general_first : (files : List Offered) (key : List ℕ) (found general : Option (Bor Offered)) → found ≡ None
    → option_map (λ file. file.now) found ≡ find (is_of key) files → option_map (λ file. file.now) general ≡ find is_general files
    → option_map (λ file. file.now) general ≡ own_file files key
general_first files key found general is told others =
    others ∙ sym (ap (λ first. option_or first (find is_general files)) (sym told ∙ ap (λ first. option_map (λ file. file.now) first) is))
