-- The numbers, the host and the port of an address are read as the grammar has them.
use Rattle.std.proofs.Common.{◌≡◌, ℕ, ◌≤◌, ◌==◌, ◌&&◌, Bool, true, false, List, [], ◌∷◌, ◌++◌, length, Option, Some, None, if◌then◌else◌, nat_lt, nat_le, refl, sym, ap, subst, ◌∙◌, arith, append_assoc, inl, inr}
use Rattle.std.specs.Char.{is_ascii_digit}
use Rattle.std.specs.List.{list_all}
use Rattle.std.specs.Str.Parse.{digits_value, AllDigits}
use Rattle.std.proofs.lemmas.Bool.{ltb-true, leb-true, lt-ltb, le-leb, eqb-true}
use Rattle.std.proofs.lemmas.Bool.Decides.{nat_tests}
use Rattle.std.proofs.lemmas.List.Elements.{All-weaker, All-append, All-nil}
use Rattle.std.proofs.lemmas.List.Sums.{AllPass-from_list_all}
use Rattle.std.proofs.lemmas.Str.Parse.{digit_from_value}
use Rattle.giop_ior.specs.Corbaloc.{NumberText, VersionText, PortText, PortPartText, IsHost, is_host_octet}
use Rattle.giop_ior.specs.CorbalocReading.{cut, number_of, up_to, minor_behind, minor_of_parts, minor_of, port_of, is_host}
use Rattle.giop_ior.proofs.CutLemmas.{Lacks, cut_some, cut_is}
use Rattle.giop_ior.proofs.NumberLemmas.{both, all_digits}
use Rattle.giop_ior.proofs.StepLemmas.{if_some, then_some}

-- ---- octets that a part lacks

pub lacks_class : (p : ℕ → Bool) (octet : ℕ) (text : List ℕ) → p octet ≡ false → list_all p text ≡ true → Lacks octet text
lacks_class p octet text outside inside =
    All-weaker (λ x. p x ≡ true) (λ x. (x == octet) ≡ false) (λ x holds. other x (x == octet) refl holds) text (AllPass-from_list_all p text inside)
  where
    other : (x : ℕ) (t : Bool) → (x == octet) ≡ t → p x ≡ true → t ≡ false
    other x false is holds = refl
    other x true is holds = let wrong : true ≡ false = sym holds ∙ ap p (eqb-true x octet is) ∙ outside in cc

pub lacks_both : (octet : ℕ) (one two : List ℕ) → Lacks octet one → Lacks octet two → Lacks octet (one ++ two)
lacks_both octet one two = All-append (λ x. (x == octet) ≡ false) one two

pub lacks_literal : (octet : ℕ) (text : List ℕ) → list_all (λ x. if x == octet then false else true) text ≡ true → Lacks octet text
lacks_literal octet text passes =
    All-weaker (λ x. (if x == octet then false else true) ≡ true) (λ x. (x == octet) ≡ false) (λ x. not_so (x == octet)) text
    (AllPass-from_list_all (λ x. if x == octet then false else true) text passes)
  where
    not_so : (t : Bool) → (if t then false else true) ≡ true → t ≡ false
    not_so true h = let wrong : false ≡ true = h in cc
    not_so false h = refl

-- ---- numbers

digits_test : (text : List ℕ) → AllDigits 10 text → list_all is_ascii_digit text ≡ true
digits_test [] all = refl
digits_test (c ∷ cs) all =
    let range = digit_from_value c all.0 in
    let first : is_ascii_digit c ≡ true = grind (arith, nat_tests) in
    rw (first, digits_test cs all.1) refl

pub number_found : (n : ℕ) (text : List ℕ) (x : ℕ) → number_of n text ≡ Some x → NumberText n x text
number_found n text x is =
    let found = if_some (nat_lt 0 (length text) && nat_le (length text) n && list_all is_ascii_digit text) (digits_value 10 text) x is in
    let one = both (nat_lt 0 (length text) && nat_le (length text) n) (list_all is_ascii_digit text) found.0 in
    let two = both (nat_lt 0 (length text)) (nat_le (length text) n) one.0 in
    ((ltb-true 0 (length text) two.0, all_digits text one.1), leb-true (length text) n two.1, found.1)

pub number_only : (n : ℕ) (text : List ℕ) (x : ℕ) → NumberText n x text → number_of n text ≡ Some x
number_only n text x is =
    rw (lt-ltb 0 (length text) is.0.0, le-leb (length text) n is.1, digits_test text is.0.1) (ap (λ k. Some k) is.2)

pub number_lacks : (octet n x : ℕ) (text : List ℕ) → is_ascii_digit octet ≡ false → NumberText n x text → Lacks octet text
number_lacks octet n x text outside is = lacks_class is_ascii_digit octet text outside (digits_test text is.0.1)

up_to_found : (most : ℕ) (o : Option ℕ) (x : ℕ) → up_to most o ≡ Some x → (o ≡ Some x) × (x ≤ most)
up_to_found most None x is = absurd (cc)
up_to_found most (Some y) x is =
    let found = if_some (nat_le y most) y x is in
    (ap (λ k. Some k) found.1, subst (λ k. k ≤ most) found.1 (leb-true y most found.0))

up_to_only : (most : ℕ) (o : Option ℕ) (x : ℕ) → o ≡ Some x → x ≤ most → up_to most o ≡ Some x
up_to_only most o x is small = rw (is, le-leb x most small) refl

-- ---- the port

pub port_found : (text : List ℕ) (x : ℕ) → port_of text ≡ Some x → PortText x text
port_found text x is = let found = up_to_found 65535 (number_of 5 text) x is in (number_found 5 text x found.0, found.1)

pub port_only : (text : List ℕ) (x : ℕ) → PortText x text → port_of text ≡ Some x
port_only text x is = up_to_only 65535 (number_of 5 text) x (number_only 5 text x is.0) is.1

-- ---- the version

major_found : (major minor : Option ℕ) (x : ℕ) → minor_behind major minor ≡ Some x → (major ≡ Some 1) × (minor ≡ Some x)
major_found None minor x is = absurd (cc)
major_found (Some major) minor x is =
    let found = then_some (major == 1) minor x is in (ap (λ k. Some k) (eqb-true major 1 found.0), found.1)

parts_found : (o : Option (List ℕ × List ℕ)) (text : List ℕ) (x : ℕ) → cut 46 text ≡ o → minor_of_parts o ≡ Some x → VersionText 1 x text
parts_found None text x parted is = absurd (cc)
parts_found (Some parts) text x parted is =
    let there = cut_some 46 text parts.0 parts.1 parted in
    let found = major_found (number_of 3 parts.0) (up_to 255 (number_of 3 parts.1)) x is in
    let minor = up_to_found 255 (number_of 3 parts.1) x found.1 in
    record {
      front = parts.0;
      back = parts.1;
      parts = there.parts ∙ sym (append_assoc parts.0 (46 ∷ []) parts.1);
      is_major = number_found 3 parts.0 1 found.0;
      is_minor = number_found 3 parts.1 x minor.0;
      first = refl;
      small = minor.1;
    }

pub version_found : (text : List ℕ) (x : ℕ) → minor_of text ≡ Some x → VersionText 1 x text
version_found text x is = parts_found (cut 46 text) text x refl is

pub version_only : (major minor : ℕ) (text : List ℕ) → VersionText major minor text → minor_of text ≡ Some minor
version_only major minor text is =
    let parted : cut 46 text ≡ Some (is.front, is.back) =
    rw (is.parts, append_assoc) (cut_is 46 is.front is.back (number_lacks 46 3 major is.front refl is.is_major)) in
    let one : number_of 3 is.front ≡ Some 1 = number_only 3 is.front major is.is_major ∙ ap (λ k. Some k) is.first in
    let two : up_to 255 (number_of 3 is.back) ≡ Some minor =
    up_to_only 255 (number_of 3 is.back) minor (number_only 3 is.back minor is.is_minor) is.small in
    rw (parted, one, two) refl

pub version_lacks : (octet major minor : ℕ) (text : List ℕ) → is_ascii_digit octet ≡ false → (46 == octet) ≡ false
    → VersionText major minor text → Lacks octet text
version_lacks octet major minor text outside dot is =
    rw is.parts (lacks_both octet (is.front ++ 46 ∷ []) is.back
    (lacks_both octet is.front (46 ∷ []) (number_lacks octet 3 major is.front outside is.is_major) (lacks_literal octet (46 ∷ []) (rw dot refl)))
    (number_lacks octet 3 minor is.back outside is.is_minor))

-- ---- the host

pub host_found : (text : List ℕ) → is_host text ≡ true → IsHost text
host_found text is = let found = both (nat_lt 0 (length text)) (list_all is_host_octet text) is in (ltb-true 0 (length text) found.0, found.1)

pub host_only : (text : List ℕ) → IsHost text → is_host text ≡ true
host_only text is = rw (lt-ltb 0 (length text) is.0, is.1) refl

pub port_part_lacks : (octet port : ℕ) (text : List ℕ) → is_ascii_digit octet ≡ false → (58 == octet) ≡ false → PortPartText port text → Lacks octet text
port_part_lacks octet port text outside colon (inl none) = rw none.0 (All-nil (λ x. (x == octet) ≡ false))
port_part_lacks octet port text outside colon (inr some) =
    rw some.1 (lacks_both octet (58 ∷ []) some.0 (lacks_literal octet (58 ∷ []) (rw colon refl)) (number_lacks octet 5 port some.0 outside some.2.0))
