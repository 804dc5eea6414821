-- A reference as text: its grammar is that of giop_ior_text, over the table of a reference.
use Rattle.std.proofs.Common.{◌≡◌, ℕ, ◌<◌, true, List, [], ◌∷◌, ◌++◌, Ok, Err, IfOk, inl, inr, refl, ap, subst, ◌∙◌, lit<}
use Rattle.std.proofs.lemmas.List.Elements.{All-cons, All-nil, All-tail}
use Rattle.std.specs.Int.{w8}
use Rattle.giop_cdr.specs.declared.order.Order.TheVariants.{Big}
use Rattle.giop_cdr.specs.Encapsulation.Opened.{order_octet}
use Rattle.giop_cdr.specs.Layout.{Layout, IsLawful, AreOctets}
use Rattle.giop_cdr.specs.Writing.Output.{Output, number_out}
use Rattle.giop_ior_text.specs.IorText.{IorText, ior_text_of, ReadsTexts, begun, prefixed, text_written}
use Rattle.giop_ior_text.specs.IorTextFault.{TextReading, AnswersOrWants, IsAnswered}
use Rattle.giop_cdr.proofs.LayoutLemmas.{octets_of_whole}
use Rattle.giop_ior_text.proofs.HexLemmas.{are_octets_said}
use Rattle.giop_ior_text.proofs.IorTextLemmas.{texts_read, value_written}
use Rattle.giop_ior.specs.Ior.{Reference, ior_layout}
use Rattle.giop_ior.specs.Written.{IsOfOctets}
use Rattle.giop_ior.proofs.IorLemmas.{ior_is}
use Rattle.giop_ior.proofs.OctetLemmas.{reference_keeps}

-- behind the order octet of what is written big-endian
pub begins : number_out w8 0 (record { order = Big; at = 0; octets = [] }) ≡ begun
unfolding number_out
begins = refl

pub iors_read : ReadsTexts ior_layout.spells ior_layout.refused (ior_text_of ior_layout.read)
iors_read = texts_read ior_layout.spells ior_layout.refused ior_layout.read ior_is.exact

-- what is answered is what the text says
pub text_found : (text : List ℕ) (r : TextReading Reference) → AnswersOrWants (λ ior. ior) r (ior_text_of ior_layout.read text)
    → IfOk r (λ ior. IorText ior_layout.spells ior text)
text_found text (Ok ior) is = iors_read.found text ior is
text_found text (Err e) is = tt

-- and what it says is answered
pub text_only : (text : List ℕ) (r : TextReading Reference) → AnswersOrWants (λ ior. ior) r (ior_text_of ior_layout.read text)
    → (ior : Reference) → IorText ior_layout.spells ior text → IsAnswered r ior
text_only text (Ok got) is ior says = let known = iors_read.only text ior says in cc
text_only text (Err e) (inl other) ior says = let known = iors_read.only text ior says in absurd (cc)
text_only text (Err e) (inr wants) ior says = wants

-- ---- what is read can be written

pub text_fits : {A : Type 0} (f : Layout A) → IsLawful f → (text : List ℕ) (v : A) → IorText f.spells v text → f.fits v ≡ true
text_fits f lawful text v is =
    let all = are_octets_said is.octets is.says.digits is.says.are_digits in
    let e = is.holds in
    let inside : AreOctets (order_octet e.order ∷ (e.front ++ e.rest)) = subst AreOctets e.whole all in
    let content = octets_of_whole (e.front ++ e.rest) e.front e.rest refl (All-tail (λ octet. octet < 256) (order_octet e.order) (e.front ++ e.rest) inside) in
    (lawful.fitting e.order 1 v e.front content.0 e.spells).0

pub text_writable : (text : List ℕ) (r : TextReading Reference) → AnswersOrWants (λ ior. ior) r (ior_text_of ior_layout.read text)
    → IfOk r (λ ior. ior_layout.fits ior ≡ true)
text_writable text (Ok ior) is = text_fits ior_layout ior_is text ior (iors_read.found text ior is)
text_writable text (Err e) is = tt

-- ---- what is written is read back

pub text_says : (ior : Reference) → ior_layout.fits ior ≡ true → ior_layout.holds ior → IsOfOctets ior
    → IorText ior_layout.spells ior (text_written ior_layout.written ior)
text_says ior fits held are =
    let all = reference_keeps ior are begun (All-cons (λ octet. octet < 256) 0 [] (lit< tt) (All-nil (λ octet. octet < 256))) in
    value_written ior_layout.spells ior (ior_layout.written ior begun) (ior_is.written ior begun fits held) all

-- and so is the text that a call makes of what it wrote
pub appended_text_back : (ior : Reference) (out done : Output) (text : List ℕ) → ior_layout.fits ior ≡ true → ior_layout.holds ior
    → AreOctets done.octets → out ≡ begun → done ≡ ior_layout.written ior out → text ≡ prefixed done.octets
    → ior_text_of ior_layout.read text ≡ Ok ior
appended_text_back ior out done text fits held all from put whole =
    let own : done ≡ ior_layout.written ior begun = put ∙ ap (ior_layout.written ior) from in
    let small : AreOctets (ior_layout.written ior begun).octets = subst (λ (o : Output). AreOctets o.octets) own all in
    let said : IorText ior_layout.spells ior (prefixed (ior_layout.written ior begun).octets) =
    value_written ior_layout.spells ior (ior_layout.written ior begun) (ior_is.written ior begun fits held) small in
    ap (ior_text_of ior_layout.read) (whole ∙ ap (λ (o : Output). prefixed o.octets) own) ∙ iors_read.only _ ior said
