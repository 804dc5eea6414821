-- The values of parameters that are read are of their descriptions.
use Rattle.std.proofs.Common.{◌≡◌, ℕ, Bool, true, false, if◌then◌else◌, List, [], ◌∷◌, Option, Some, None, Result, Ok, Err, refl, sym, ap, ◌∙◌}
use Rattle.std.proofs.lemmas.Bool.{and_from}
use Rattle.giop_cdr.specs.declared.order.Order.{Order}
use Rattle.giop_cdr.specs.Layout.{AreOctets}
use Rattle.serde_json.specs.Data.{Data, Items, no_items, item}
use Rattle.serde_json.specs.Find.{as_array}
use Rattle.giop_json.specs.declared.form_fault.FormFault.{FormFault}
use Rattle.giop_json.specs.declared.form_fault.FormFault.TheVariants.{BadJson, BadShape, BadDesc, Unfit, NoMemory}
use Rattle.giop_types.specs.declared.interfaces.parameters.Parameter.{Parameter}
use Rattle.giop_types.specs.Descriptions.CheckedShape.{checked_shape}
use Rattle.giop_types.specs.Descriptions.Shape.{Shape}
use Rattle.giop_json.specs.DescFromJson.{json_in}
use Rattle.giop_json.specs.FromJson.{fitting, from_data, shown}
use Rattle.giop_types.specs.Values.Fits.{fields_fit, fits}
use Rattle.giop_types.specs.Values.Tree.{Tree}
use Rattle.giop_msg.specs.Messages.Alone.{SpellsAlone}
use Rattle.giop_msg.specs.Messages.Body.{fields_in, values}
use Rattle.giop_msg.proofs.WholeMessages.BodyLemmas.{values_are}
use Rattle.giop_c.specs.JsonValues.{each_told, in_front, list_told, values_of_text, values_told}

-- what octets spell
pub spelled_fit : (ps : List Parameter) (order : Order) (trees : List Tree) (octets : List ℕ) → AreOctets octets → SpellsAlone ps order trees octets
    → fields_fit (fields_in ps) trees ≡ true
unfolding values
spelled_fit ps order trees octets are is = ((values_are ps).fitting order 0 trees octets are is).0

when_fit : (s : Shape) (b : Bool) (u t : Tree) → fits s u ≡ b → ◌≡◌ {A = Result Tree FormFault} (if b then Ok u else Err Unfit) (Ok t) → fits s t ≡ true
when_fit s true u t is ok = let same : u ≡ t = cc in ap (fits s) (sym same) ∙ is
when_fit s false u t is ok = absurd cc

fitting_fits : (s : Shape) (o : Option Tree) (t : Tree) → fitting s o ≡ Ok t → fits s t ≡ true
fitting_fits s None t ok = absurd cc
fitting_fits s (Some u) t ok = when_fit s (fits s u) u t refl ok

front_fit : (p : Parameter) (ps : List Parameter) (r : Result Tree FormFault) (rest : Result (List Tree) FormFault) (trees : List Tree)
    → ((t : Tree) → r ≡ Ok t → fits (checked_shape p.desc) t ≡ true) → ((ts : List Tree) → rest ≡ Ok ts → fields_fit (fields_in ps) ts ≡ true)
    → in_front r rest ≡ Ok trees → fields_fit (fields_in (p ∷ ps)) trees ≡ true
unfolding fits
front_fit p ps (Ok t) (Ok ts) trees one all is = let same : trees ≡ t ∷ ts = cc in rw same (and_from _ _ (one t refl) (all ts refl))
front_fit p ps (Ok t) (Err e) trees one all is = absurd cc
front_fit p ps (Err Unfit) (Ok ts) trees one all is = absurd cc
front_fit p ps (Err Unfit) (Err e) trees one all is = absurd cc
front_fit p ps (Err BadJson) rest trees one all is = absurd cc
front_fit p ps (Err BadShape) rest trees one all is = absurd cc
front_fit p ps (Err (BadDesc fault)) rest trees one all is = absurd cc
front_fit p ps (Err NoMemory) rest trees one all is = absurd cc

each_fit : (ps : List Parameter) (ds : Items) (trees : List Tree) → each_told ps ds ≡ Ok trees → fields_fit (fields_in ps) trees ≡ true
unfolding fits
each_fit [] no_items trees is = let none : trees ≡ [] = cc in rw none refl
each_fit [] (item d ds) trees is = absurd cc
each_fit (p ∷ ps) no_items trees is = absurd cc
each_fit (p ∷ ps) (item d ds) trees is =
    front_fit p ps (from_data (checked_shape p.desc) d) (each_told ps ds) trees
    (λ t ok. fitting_fits (checked_shape p.desc) (shown (checked_shape p.desc) d) t ok)
    (λ ts ok. each_fit ps ds ts ok) is

list_fit : (ps : List Parameter) (ds : Option Items) (trees : List Tree) → list_told ps ds ≡ Ok trees → fields_fit (fields_in ps) trees ≡ true
list_fit ps None trees is = absurd cc
list_fit ps (Some ds) trees is = each_fit ps ds trees is

values_fit : (ps : List Parameter) (d : Option Data) (trees : List Tree) → values_told ps d ≡ Ok trees → fields_fit (fields_in ps) trees ≡ true
values_fit ps None trees is = absurd cc
values_fit ps (Some d) trees is = list_fit ps (as_array d) trees is

-- what a JSON text says
pub text_fits : (ps : List Parameter) (text : List ℕ) (trees : List Tree) → values_of_text ps text ≡ Ok trees → fields_fit (fields_in ps) trees ≡ true
text_fits ps text trees is = values_fit ps (json_in text) trees is
