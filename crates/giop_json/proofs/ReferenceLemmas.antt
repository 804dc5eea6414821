-- Which members are those of a reference, and how its text begins.
use Rattle.std.proofs.Common.{◌≡◌, ℕ, Bool, false, List, [], ◌∷◌, true, map, length, refl, ap, ◌∙◌, rules}
use Rattle.std.specs.Int.{w8}
use Rattle.std.specs.Prelude.{String, string_bytes}
use Rattle.std.specs.declared.alloc.Global.{Global}
use Rattle.serde_json.specs.Data as json
use Rattle.serde_json.specs.View.{view}
use Rattle.serde_json.specs.declared.value.Value.{the_lemmas}
use Rattle.serde_json.specs.declared.value.Value.TheVariants as Json
use Rattle.giop_cdr.specs.declared.order.Order.TheVariants.{Big}
use Rattle.giop_cdr.specs.Writing.Output.{Output, number_out}
use Rattle.giop_types.specs.declared.description.desc.NamedDesc.{NamedDesc}
use Rattle.giop_types.specs.Values.Fits.{fits}
use Rattle.giop_ior_text.specs.IorText.{begun, prefixed}
use Rattle.giop_types.specs.Descriptions.Shape.{Shape}
use Rattle.giop_json.specs.Reference.{are_two, reference_data}
use Rattle.giop_types.specs.Values.Tree.{Tree}
use Rattle.giop_types.specs.Coding.Written.{value_out}
use Rattle.giop_types.specs.Values.Views.{named_view, fields_of}

pub not_two : (n m : List ℕ) (p q : Shape → Bool) (ms : List NamedDesc) → (length ms ≡ 2 → ⊥) → are_two n p m q (fields_of (map named_view ms)) ≡ false
not_two n m p q [] other = refl
not_two n m p q (a ∷ []) other = refl
not_two n m p q (a ∷ b ∷ []) other = absurd (other refl)
not_two n m p q (a ∷ b ∷ c ∷ ms) other = refl

-- behind the order octet of what is written big-endian
begins : number_out w8 0 (record { order = Big; at = 0; octets = [] }) ≡ begun
unfolding number_out
begins = refl

view-String : (text : String Global) → view (Json.String text) ≡ json.string (string_bytes text)
view-String text = search (rules, the_lemmas)

-- the text of what is written of a value that fits
pub text_shown : (s : Shape) (t : Tree) (text : String Global) (done : Output) → string_bytes text ≡ prefixed done.octets
    → done ≡ value_out s t (number_out w8 0 (record { order = Big; at = 0; octets = [] })) → fits s t ≡ true
    → view (Json.String text) ≡ reference_data s t
text_shown s t text done says is fit =
    view-String text ∙ rw fit (ap json.string (says ∙ ap (λ (d : Output). prefixed d.octets) (is ∙ ap (value_out s t) begins)))
