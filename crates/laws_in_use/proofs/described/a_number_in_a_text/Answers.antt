use Rattle.std.proofs.Common.{◌≡◌, ◌<◌, ◌*◌, ◌+◌, ℕ, [], ◌∷◌, codes, true, refl, arith}
use Rattle.std.proofs.lemmas.List.Elements.{All-cons, All-nil}
use Rattle.std.specs.Char.{digit_value, is_digit}
use Rattle.std.specs.Int.{w16}
use Rattle.giop_cdr.specs.Spelling.{SpellsNumber}
use Rattle.giop_cdr.specs.declared.order.Order.TheVariants.{Big}
use Rattle.giop_types.specs.Coding.Spells.{Spells}
use Rattle.giop_ior_text.specs.IorText.{OctetText, text_written}
use Rattle.giop_types.specs.Coding.Written.{value_out}
use Rattle.giop_types.specs.Descriptions.Full.{is_full}
use Rattle.giop_types.specs.Descriptions.Shape.{ushort}
use Rattle.giop_types.specs.Values.Fits.{fits}
use Rattle.giop_types.specs.Values.Tree.{ushort_of}
use Rattle.laws_in_use.proofs.described.a_number_in_a_text.Goals as goal

full : is_full ushort ≡ true
unfolding is_full
full = refl

fitting : fits ushort (ushort_of 258) ≡ true
unfolding fits
fitting = refl

pub returns-clause-octets : goal.returns-clause-octets
returns-clause-octets c =
    All-cons (λ octet. octet < 256) 0 (171 ∷ []) (omega arith) (All-cons (λ octet. octet < 256) 171 [] (omega arith) (All-nil (λ octet. octet < 256)))

pub returns-clause-text : goal.returns-clause-text
returns-clause-text c = c.written_ior_texts_are_read_back.ensures.octets (0 ∷ 171 ∷ []) (returns-clause-octets c)

-- an octet by its two digits
digits : (octet high low : ℕ) → is_digit high 16 ≡ true → is_digit low 16 ≡ true → octet ≡ 16 * digit_value high + digit_value low
    → OctetText octet (high ∷ low ∷ [])
digits octet high low is_high is_low value = record { high = high; low = low; parts = refl; is_high = is_high; is_low = is_low; value = value }

number : SpellsNumber w16 Big 1 258 (0 ∷ 1 ∷ 2 ∷ [])
number = record { pads = 0 ∷ []; octets = 1 ∷ 2 ∷ []; padded = refl; few = refl; whole = refl; value = refl }

spelled : Spells ushort Big 1 (ushort_of 258) (0 ∷ 1 ∷ 2 ∷ [])
unfolding Spells
spelled = record { first = 258; front = 0 ∷ 1 ∷ 2 ∷ []; back = []; whole = refl; spells_front = number; spells_back = (refl, refl) }

pub returns-clause-says : goal.returns-clause-says
returns-clause-says c = record {
  octets = 0 ∷ 0 ∷ 1 ∷ 2 ∷ [];
  says = record {
    front = codes "ior:";
    digits = codes "00000102";
    parts = refl;
    is_prefix = refl;
    are_digits = (
      codes "00",
      codes "000102",
      refl,
      digits 0 48 48 refl refl refl,
      (
        codes "00",
        codes "0102",
        refl,
        digits 0 48 48 refl refl refl,
        (
          codes "01",
          codes "02",
          refl,
          digits 1 48 49 refl refl refl,
          (codes "02", [], refl, digits 2 48 50 refl refl refl, refl),
        ),
      ),
    );
  };
  holds = record { order = Big; front = 0 ∷ 1 ∷ 2 ∷ []; rest = []; whole = refl; spells = spelled };
}

pub returns-clause-read : goal.returns-clause-read
returns-clause-read c =
    (c.ior_texts_are_read.ensures.exact ushort full).only (codes "ior:00000102") (ushort_of 258) (returns-clause-says c)

pub returns-clause-alone : goal.returns-clause-alone
returns-clause-alone c = λ tree says.
    c.ior_texts_are_read.ensures.alone ushort full (codes "ior:00000102") tree (ushort_of 258) says (returns-clause-says c)

pub returns-clause-again : goal.returns-clause-again
returns-clause-again c = c.written_ior_texts_are_read_back.ensures.again ushort full (ushort_of 258) fitting

pub returns-clause-written : goal.returns-clause-written
returns-clause-written c = λ tree says.
    c.ior_texts_are_read.ensures.alone ushort full (text_written (value_out ushort) (ushort_of 258)) tree (ushort_of 258) says
    (c.written_ior_texts_are_read_back.ensures.written ushort full (ushort_of 258) fitting)
