use Rattle.std.proofs.Common.{◌≡◌, ◌∙◌, Bool, true, false, if◌then◌else◌, Option, Some, None, Result, Ok, Err, refl, sym, ap}
use Rattle.giop_json.specs.declared.form_fault.FormFault.{FormFault}
use Rattle.giop_json.specs.declared.form_fault.FormFault.TheVariants.{Unfit}
use Rattle.giop_types.specs.Descriptions.Shape.{Shape}
use Rattle.giop_json.specs.FromJson.{fitting, shown}
use Rattle.giop_types.specs.Values.Fits.{fits}
use Rattle.giop_types.specs.Values.Tree.{Tree}
use Rattle.giop_json.proofs.laws.json.what_is_read_as_json_is_written_so.Goals as goal

when_fit : (s : Shape) (b : Bool) (u t : Tree) → fits s u ≡ b → ◌≡◌ {A = Result Tree FormFault} (if b then Ok u else Err Unfit) (Ok t) → fits s t ≡ true
when_fit s true u t is ok = let same : u ≡ t = cc in ap (fits s) (sym same) ∙ is
when_fit s false u t is ok = absurd cc

-- what is read fits
read_fits : (s : Shape) (form : Option Tree) (t : Tree) → fitting s form ≡ Ok t → fits s t ≡ true
read_fits s None t read = absurd cc
read_fits s (Some u) t read = when_fit s (fits s u) u t refl read

pub returns-clause-fits : goal.returns-clause-fits
returns-clause-fits c = λ shape form tree read. read_fits shape (shown shape form) tree read

pub returns-clause-written : goal.returns-clause-written
returns-clause-written c = λ shape checked plain form tree read numbers.
    c.json_gives_values_back.ensures shape checked plain tree (read_fits shape (shown shape form) tree read) numbers
