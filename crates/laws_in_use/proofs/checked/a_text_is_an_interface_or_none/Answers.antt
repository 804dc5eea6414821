use Rattle.std.proofs.Common.{[], false, Some, ◌∙◌, refl, ap, inr}
use Rattle.std.specs.Fmt.{digits}
use Rattle.std.specs.Str.{chars, is_utf8}
use Rattle.giop_json.specs.declared.form_fault.FormFault.TheVariants.{BadJson}
use Rattle.giop_json.specs.InterfaceFromJson.{interface_told}
use Rattle.giop_commands.specs.Check.{default_limits}
use Rattle.laws_in_use.specs.Checked.{as_text, not_utf8}
use Rattle.laws_in_use.specs.InJson.{adding}
use Rattle.laws_in_use.proofs.AddingTold.{adding_is_told, adding_sayable}
use Rattle.laws_in_use.proofs.checked.a_text_is_an_interface_or_none.Goals as goal

pub returns-clause-none : goal.returns-clause-none
unfolding is_utf8 chars
returns-clause-none c = refl

pub returns-clause-told : goal.returns-clause-told
unfolding digits
returns-clause-told c = λ octets. inr (refl, (BadJson, returns-clause-none c, refl))

pub returns-clause-only : goal.returns-clause-only
unfolding digits
returns-clause-only c = λ octets new status checks.
    c.texts_are_interfaces_or_refused.ensures.refused not_utf8 BadJson default_limits false as_text octets (Some []) (Some new) status
    (returns-clause-none c) checks

pub returns-clause-by : goal.returns-clause-by
returns-clause-by c = λ text octets new status told checks.
    let read = adding_is_told (c.json_gives_interfaces_back.ensures adding adding_sayable) in
    c.texts_are_interfaces_or_refused.ensures.interface text adding default_limits false as_text octets (Some []) (Some new) status
    (ap interface_told told ∙ read) checks
