-- The texts of references are read as the grammar says, whatever the value that is encapsulated.
use Rattle.std.proofs.Common.{◌≡◌, ◌⊎◌, inl, inr, ℕ, Bool, true, false, List, [], ◌∷◌, ◌++◌, length, take, drop, map, codes, Result, Ok, Err, refl, sym, ap, ◌∙◌, subst}
use Rattle.std.proofs.lemmas.List.{take-append-drop, length-map, append-nil}
use Rattle.std.proofs.Math.Seq.{take-append_seam, drop-append_seam}
use Rattle.std.proofs.lemmas.Slice.Eq.{bytes_eq-Decides}
use Rattle.std.specs.Char.{to_ascii_lowercase}
use Rattle.hex.specs.declared.error.FromHexError.{FromHexError}
use Rattle.hex.specs.Hex.{decode_of, encode_lower}
use Rattle.giop_cdr.specs.declared.order.Order.TheVariants.{Big}
use Rattle.giop_cdr.specs.declared.fault.CdrFault.{CdrFault}
use Rattle.giop_cdr.specs.Reading.Cursor.{Cursor}
use Rattle.giop_cdr.specs.Encapsulation.OfLayout.{inside_at}
use Rattle.giop_cdr.specs.Layout.{AreOctets}
use Rattle.giop_cdr.specs.Writing.Output.{Output}
use Rattle.giop_cdr.specs.Reading.Values.{Reading}
use Rattle.giop_cdr.specs.RoundTrip.{IsSpelled}
use Rattle.giop_cdr.specs.Reading.Exactness.{Refusal, Took, IsExact}
use Rattle.giop_cdr.specs.Spelling.{Spelling}
use Rattle.giop_cdr.proofs.Encapsulation.EncapsulatedLemmas.{inside_exact}
use Rattle.giop_ior_text.specs.declared.ior_text_fault.IorTextFault.{IorTextFault}
use Rattle.giop_ior_text.specs.declared.ior_text_fault.IorTextFault.TheVariants.{BadPrefix, BadHex, Cdr, NoMemory}
use Rattle.giop_ior_text.specs.IorText.{IsPrefix, is_prefix, PrefixedText, IorText, RefusedText, octets_or_fault, octets_of, nowhere, value_or_fault, encapsulated, ior_text_of, ReadsTexts, begun, prefixed}
use Rattle.giop_ior_text.specs.IorTextFault.{TextReading, ◌>>=◌}
use Rattle.giop_ior_text.proofs.HexLemmas.{octets_read, octets_found, digits_say}

answer_is : {A : Type 0} {x y : A} → ◌≡◌ {A = TextReading A} (Ok x) (Ok y) → x ≡ y
answer_is is = cc

fault_is : {A : Type 0} {e f : IorTextFault} → ◌≡◌ {A = TextReading A} (Err e) (Err f) → e ≡ f
fault_is is = cc

not_both : {A : Type 0} {x : A} {e : IorTextFault} → ◌≡◌ {A = TextReading A} (Ok x) (Err e) → ⊥
not_both is = absurd (cc)

-- ---- the prefix

prefix_long : (front : List ℕ) → IsPrefix front → length front ≡ 4
prefix_long front is = sym (length-map front to_ascii_lowercase) ∙ ap length is

prefix_true : (front : List ℕ) → IsPrefix front → is_prefix front ≡ true
prefix_true front is = (bytes_eq-Decides (map to_ascii_lowercase front) (codes "ior:")).1 is

prefix_is : (front : List ℕ) → is_prefix front ≡ true → IsPrefix front
prefix_is front is = (bytes_eq-Decides (map to_ascii_lowercase front) (codes "ior:")).0 is

cut_front : (front digits : List ℕ) → length front ≡ 4 → take 4 (front ++ digits) ≡ front
cut_front front digits long = subst (λ (n : ℕ). take n (front ++ digits) ≡ front) long (take-append_seam front digits)

cut_back : (front digits : List ℕ) → length front ≡ 4 → drop 4 (front ++ digits) ≡ digits
cut_back front digits long = subst (λ (n : ℕ). drop n (front ++ digits) ≡ digits) long (drop-append_seam front digits)

-- ---- the octets

-- a text with the prefix is read as its digits
prefixed_of : (text front digits : List ℕ) → text ≡ front ++ digits → IsPrefix front → octets_of text ≡ octets_or_fault (decode_of digits)
unfolding octets_of
prefixed_of text front digits parts is =
    let long = prefix_long front is in
    let begins = prefix_true front is in
    rw (parts, cut_front front digits long, cut_back front digits long, begins) refl

octets_only : (octets text : List ℕ) → PrefixedText octets text → octets_of text ≡ Ok octets
octets_only octets text is =
    prefixed_of text is.front is.digits is.parts is.is_prefix ∙ ap octets_or_fault (octets_read octets is.digits is.are_digits)

-- what begins a text that has no prefix, and what one that has it is
data Begins (text : List ℕ) : Type 0 where
  begins : IsPrefix (take 4 text) → octets_of text ≡ octets_or_fault (decode_of (drop 4 text)) → Begins text
  begins_not : ((front digits : List ℕ) → text ≡ front ++ digits → IsPrefix front → ⊥) → octets_of text ≡ Err BadPrefix → Begins text

begins_or_not : (text : List ℕ) → Begins text
unfolding octets_of
begins_or_not text = go (is_prefix (take 4 text)) refl
  where
    go : (b : Bool) → is_prefix (take 4 text) ≡ b → Begins text
    go true is = begins (prefix_is (take 4 text) is) (rw is refl)
    go false is = begins_not (λ front digits parts prefix.
        let whole : take 4 text ≡ front = ap (take 4) parts ∙ cut_front front digits (prefix_long front prefix) in
        let wrong : false ≡ true = sym is ∙ ap is_prefix whole ∙ prefix_true front prefix in
        absurd (cc)) (rw is refl)

decoded : (r : Result (List ℕ) FromHexError) (octets : List ℕ) → octets_or_fault r ≡ Ok octets → r ≡ Ok octets
decoded (Ok x) octets is = ap Ok (answer_is is)
decoded (Err e) octets is = absurd (cc)

octets_says : (octets text : List ℕ) → octets_of text ≡ Ok octets → PrefixedText octets text
octets_says octets text is = elim (begins_or_not text) [
  | begins prefix same ↦ record {
    front = take 4 text;
    digits = drop 4 text;
    parts = sym (take-append-drop 4 text);
    is_prefix = prefix;
    are_digits = octets_found octets (drop 4 text) (decoded (decode_of (drop 4 text)) octets (sym same ∙ is));
  }
  | begins_not none same ↦ absurd (not_both (sym is ∙ same))
]

-- ---- refused octets

bad_hex : (r : Result (List ℕ) FromHexError) (e : IorTextFault) → octets_or_fault r ≡ Err e → e ≡ BadHex
bad_hex (Ok x) e is = absurd (cc)
bad_hex (Err f) e is = sym (fault_is is)

octets_refused : (R : Refusal) (text : List ℕ) (e : IorTextFault) → octets_of text ≡ Err e → RefusedText R text e
octets_refused R text e is = elim (begins_or_not text) [
  | begins prefix same ↦
      let hex : e ≡ BadHex = bad_hex (decode_of (drop 4 text)) e (sym same ∙ is) in
      subst (λ (f : IorTextFault). RefusedText R text f) (sym hex) (
        (take 4 text, drop 4 text, sym (take-append-drop 4 text), prefix),
        λ octets says. not_both (sym (octets_only octets text says) ∙ is),
      )
  | begins_not none same ↦ subst (λ (f : IorTextFault). RefusedText R text f) (fault_is (sym same ∙ is)) none
]

-- a text is refused for its octets, where they are refused
octets_refuses : (text : List ℕ) → ((front digits : List ℕ) → text ≡ front ++ digits → IsPrefix front → ⊥) → octets_of text ≡ Err BadPrefix
octets_refuses text none = elim (begins_or_not text) [
  | begins prefix same ↦ absurd (none (take 4 text) (drop 4 text) (sym (take-append-drop 4 text)) prefix)
  | begins_not other same ↦ same
]

hex_refused : (text front digits : List ℕ) → text ≡ front ++ digits → IsPrefix front → ((octets : List ℕ) → PrefixedText octets text → ⊥)
    → octets_of text ≡ Err BadHex
hex_refused text front digits parts prefix none = go (decode_of digits) refl
  where
    go : (r : Result (List ℕ) FromHexError) → decode_of digits ≡ r → octets_of text ≡ Err BadHex
    go (Ok octets) is = absurd (none octets (record {
      front = front;
      digits = digits;
      parts = parts;
      is_prefix = prefix;
      are_digits = octets_found octets digits is;
    }))
    go (Err e) is = prefixed_of text front digits parts prefix ∙ ap octets_or_fault is

-- ---- the whole

step : {A B : Type 0} (r : TextReading A) (f : A → TextReading B) (y : B) → (r >>= f) ≡ Ok y → (x : A) × (r ≡ Ok x) × (f x ≡ Ok y)
step (Ok x) f y is = (x, refl, is)
step (Err e) f y is = absurd (cc)

-- the first step that is refused
fails : {A B : Type 0} (r : TextReading A) (f : A → TextReading B) (e : IorTextFault) → (r >>= f) ≡ Err e → (r ≡ Err e) ⊎ ((x : A) × (r ≡ Ok x) × (f x ≡ Err e))
fails (Ok x) f e is = inr (x, refl, is)
fails {A} (Err d) f e is = inl (ap (λ (g : IorTextFault). Err g) (fault_is is))

value_found : {A : Type 0} (r : Reading A) (v : A) → value_or_fault r ≡ Ok v → (d : Cursor) × (r ≡ Ok (v, d))
value_found (Ok x) v is = (x.1, ap (λ u. Ok (u, x.1)) (answer_is is))
value_found (Err e) v is = absurd (cc)

value_refused : {A : Type 0} (r : Reading A) (e : IorTextFault) → value_or_fault r ≡ Err e → (f : CdrFault) × (r ≡ Err f) × (e ≡ Cdr f)
value_refused (Ok x) e is = absurd (cc)
value_refused (Err f) e is = (f, refl, sym (fault_is is))

pub texts_read : {A : Type 0} (P : Spelling A) (R : Refusal) (read : Cursor → Reading A) → IsExact (Took P) R read → ReadsTexts P R (ior_text_of read)
unfolding ior_text_of encapsulated
texts_read {A} P R read exact = record {
  found = λ text v is.
      let o = step (octets_of text) _ v is in
      let got = value_found (inside_at read 0 o.0 nowhere) v o.2 in
      record { octets = o.0; says = octets_says o.0 text o.1; holds = ((inside_exact P R read exact 0 o.0 nowhere).found v got.0 got.1).0 };
  only = λ text v is.
      rw (octets_only is.octets text is.says, (inside_exact P R read exact 0 is.octets nowhere).only v nowhere (is.holds, refl)) refl;
  refused = λ text e is. elim (fails (octets_of text) _ e is) [
    | inl none ↦ octets_refused R text e none
    | inr some ↦
        let got = value_refused (inside_at read 0 some.0 nowhere) e some.2 in
        let told = (inside_exact P R read exact 0 some.0 nowhere).refused got.0 got.1 in
        subst (λ (f : IorTextFault). RefusedText R text f) (sym got.2) (some.0, octets_says some.0 text some.1, told)
  ];
  refuses = refuse;
}
  where
    refuse : (text : List ℕ) (e : IorTextFault) → RefusedText R text e → ior_text_of read text ≡ Err e
    refuse text BadPrefix none = rw (octets_refuses text none) refl
    refuse text BadHex none = rw (hex_refused text none.0.0 none.0.1 none.0.2 none.0.3 none.1) refl
    refuse text (Cdr e) why = rw (octets_only why.0 text why.1, (inside_exact P R read exact 0 why.0 nowhere).refuses e why.2) refl
    refuse text NoMemory why = absurd why

-- a text says one value at most
pub one_text : {A : Type 0} (P : Spelling A) (R : Refusal) (read : Cursor → Reading A) → IsExact (Took P) R read → (text : List ℕ) (v w : A)
    → IorText P v text → IorText P w text → v ≡ w
one_text P R read exact text v w one two =
    let reads = texts_read P R read exact in
    answer_is (sym (reads.only text v one) ∙ reads.only text w two)

-- ---- what is written

-- the text of octets says them
pub octets_written : (octets : List ℕ) → AreOctets octets → PrefixedText octets (prefixed octets)
octets_written octets all = record {
  front = codes "IOR:";
  digits = encode_lower octets;
  parts = refl;
  is_prefix = refl;
  are_digits = digits_say octets all;
}

-- the text of a value says it
pub value_written : {A : Type 0} (P : Spelling A) (v : A) (done : Output) → IsSpelled P v begun done → AreOctets done.octets
    → IorText P v (prefixed done.octets)
value_written P v done is all = record {
  octets = done.octets;
  says = octets_written done.octets all;
  holds = record {
    order = Big;
    front = is.part;
    rest = [];
    whole = is.octets ∙ ap (λ (u : List ℕ). 0 ∷ u) (sym (append-nil is.part));
    spells = is.spells;
  };
}
