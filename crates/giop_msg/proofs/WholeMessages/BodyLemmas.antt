-- Bodies are lawful: those of values, wherever their version has them.
use Rattle.std.proofs.Common.{◌≡◌, ℕ, ◌<◌, true, List, [], ◌∷◌, refl, sym, ap, subst, ◌∙◌, append-nil}
use Rattle.std.proofs.lemmas.Bool.{lt-ltb}
use Rattle.std.proofs.lemmas.List.Elements.{All-head, All-tail}
use Rattle.giop_cdr.specs.declared.order.Order.{Order}
use Rattle.giop_cdr.specs.Reading.Cursor.{Cursor}
use Rattle.giop_cdr.specs.Layout.{IsLawful, AreOctets}
use Rattle.giop_cdr.specs.Ending.{Ending, IsLawfulEnding, ended, from_multiple_of_8}
use Rattle.giop_cdr.specs.RoundTrip.{IsSpelled}
use Rattle.giop_cdr.proofs.EndingLemmas.{from_multiple_of_8_is}
use Rattle.giop_cdr.proofs.LayoutLemmas.{and_true}
use Rattle.giop_types.specs.declared.interfaces.parameters.Parameter.{Parameter}
use Rattle.giop_types.specs.Coding.Spells.{Spells, SpellsFields}
use Rattle.giop_types.specs.Coding.Written.{fields_out}
use Rattle.giop_types.specs.Descriptions.Full.{is_full, are_full}
use Rattle.giop_types.specs.Descriptions.Shape.{Fields, members}
use Rattle.giop_types.specs.Values.Fits.{are_octets, fits, fields_fit}
use Rattle.giop_types.specs.Values.Tree.{Tree, members_of}
use Rattle.giop_types.specs.Values.Views.{desc_view, trees_of}
use Rattle.giop_types.proofs.Coding.ShapeExact.{fields_exact}
use Rattle.giop_types.proofs.Coding.SpelledFits.{shape_fits}
use Rattle.giop_types.proofs.Coding.WrittenLemmas.{fields_spelled}
use Rattle.giop_types.proofs.Descriptions.CheckLemmas.{faultless_full}
use Rattle.giop_types.proofs.Values.FitLemmas.{list_back}
use Rattle.giop_msg.specs.declared.version.Version.{Version}
use Rattle.giop_msg.specs.declared.version.Version.TheVariants.{V10, V11, V12}
use Rattle.giop_msg.specs.Messages.Body.{body_of, body_cursor, fields_in, values}

pub body_is : {A : Type 0} (version : Version) {f : Ending A} → IsLawfulEnding f
    → IsLawfulEnding (body_of version f)
unfolding body_of
body_is V10 one = one
body_is V11 one = one
body_is V12 one = from_multiple_of_8_is one

-- a body is read where its version has it
pub body_read : {A : Type 0} (version : Version) (f : Ending A) (c : Cursor)
    → (body_of version f).read c ≡ f.read (body_cursor version c)
unfolding body_of from_multiple_of_8
body_read V10 f c = refl
body_read V11 f c = refl
body_read V12 f c = refl

-- every parameter's description was checked, and so is full
pub parameters_full : (parameters : List Parameter) → are_full (fields_in parameters) ≡ true
unfolding is_full
parameters_full [] = refl
parameters_full (p ∷ parameters) = and_true _ _
    (faultless_full 1 (desc_view p.desc.desc) p.desc.checked) (parameters_full parameters)

all_octets : (octets : List ℕ) → AreOctets octets → are_octets octets ≡ true
all_octets [] all = refl
all_octets (x ∷ octets) all =
    and_true _ _ (lt-ltb _ _ (All-head (λ octet. octet < 256) x octets all))
    (all_octets octets (All-tail (λ octet. octet < 256) x octets all))

-- what a struct's members are spelled by spells the struct
struct_spelled : (fs : Fields) (o : Order) (at : ℕ) (ts : List Tree) (b : List ℕ)
    → SpellsFields fs o at ts b
    → Spells (members fs) o at (members_of (trees_of ts)) b
unfolding Spells
struct_spelled fs o at ts b s =
    record {
      first = ts;
      front = b;
      back = [];
      whole = sym (append-nil b);
      spells_front = s;
      spells_back = (refl, refl);
    }

struct_fits : (fs : Fields) (ts : List Tree)
    → fits (members fs) (members_of (trees_of ts)) ≡ fields_fit fs ts
unfolding fits
struct_fits fs ts = ap (fields_fit fs) (list_back ts)

pub values_are : (parameters : List Parameter) → IsLawful (values parameters)
unfolding values
values_are parameters =
    let fs : Fields = fields_in parameters in
    record {
      exact = fields_exact fs (parameters_full parameters);
      written = λ ts out fit held.
          subst (λ us. IsSpelled (SpellsFields fs) us out (fields_out fs us out)) (list_back ts)
          (fields_spelled fs (trees_of ts) out (ap (fields_fit fs) (list_back ts) ∙ fit));
      fitting = λ o at ts octets all s. (
        sym (struct_fits fs ts)
            ∙ shape_fits (members fs) o at (members_of (trees_of ts)) octets
            (all_octets octets all) (struct_spelled fs o at ts octets s),
        tt,
      );
    }

-- the values of a body fit, wherever it stands
pub body_fits : (version : Version) (parameters : List Parameter) (ts : List Tree)
    → (body_of version (ended (values parameters))).fits ts ≡ fields_fit (fields_in parameters) ts
unfolding body_of from_multiple_of_8 ended values
body_fits V10 parameters ts = refl
body_fits V11 parameters ts = refl
body_fits V12 parameters ts = refl
