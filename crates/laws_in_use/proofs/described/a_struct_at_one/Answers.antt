use Rattle.std.proofs.Common.{◌≡◌, [], ◌∷◌, true, None, refl, ◌∙◌}
use Rattle.giop_cdr.specs.Writing.Output.{number_out, string_out}
use Rattle.giop_cdr.specs.declared.order.Order.TheVariants.{Big}
use Rattle.giop_types.specs.Coding.Written.{fields_out, value_out}
use Rattle.giop_types.specs.Descriptions.Checked.{desc_fault, fields_fault}
use Rattle.giop_types.specs.Descriptions.Full.{are_full, is_full}
use Rattle.giop_json.specs.Plain.{fields_plain, is_plain}
use Rattle.giop_types.specs.Values.Fits.{fields_fit, fits}
use Rattle.giop_json.specs.ToJson.{to_data}
use Rattle.giop_json.specs.declared.number_form.NumberForm.TheVariants.{Quoted}
use Rattle.laws_in_use.specs.Described.{pair, value}
use Rattle.laws_in_use.proofs.CdrSpelled.{again}
use Rattle.laws_in_use.proofs.described.a_struct_at_one.Goals as goal

full : is_full pair ≡ true
unfolding is_full are_full
full = refl

fitting : fits pair value ≡ true
unfolding fits fields_fit
fitting = refl

faultless : desc_fault 1 pair ≡ None
unfolding desc_fault fields_fault
faultless = refl

plain : is_plain pair ≡ true
unfolding is_plain fields_plain
plain = refl

pub returns-clause-back : goal.returns-clause-back
unfolding value_out fields_out number_out string_out
returns-clause-back c = again (c.written_values_are_read_back.ensures pair full value fitting (record { order = Big; at = 1; octets = [] })) refl (9 ∷ [])

pub returns-clause-spelled : goal.returns-clause-spelled
returns-clause-spelled c = (c.values_are_spelled.ensures.exact pair full _).found value _ (returns-clause-back c)

pub returns-clause-alone : goal.returns-clause-alone
returns-clause-alone c = λ other octets rest spells is.
    let took = returns-clause-spelled c in
    (c.values_are_spelled.ensures.alone pair full Big 1 other value octets took.octets rest (9 ∷ []) spells took.spells (is ∙ took.front)).0

pub returns-clause-json : goal.returns-clause-json
returns-clause-json c = c.json_gives_values_back.ensures pair faultless plain value fitting

pub returns-clause-quoted : goal.returns-clause-quoted
returns-clause-quoted c = c.json_gives_values_back.ensures pair faultless plain value fitting Quoted

pub returns-clause-fits : goal.returns-clause-fits
returns-clause-fits c =
    c.what_is_read_as_json_is_written_so.ensures.fits pair (to_data Quoted pair value) value (returns-clause-quoted c)

pub returns-clause-written : goal.returns-clause-written
returns-clause-written c = λ numbers tree read.
    c.what_is_read_as_json_is_written_so.ensures.written pair faultless plain (to_data Quoted pair value) tree read numbers
