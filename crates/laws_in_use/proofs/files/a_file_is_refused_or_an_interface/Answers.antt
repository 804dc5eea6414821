use Rattle.std.proofs.Common.{◌≡◌, IsErr, Ok, Err, ap, subst, sym, ◌∙◌, refl}
use Rattle.std.specs.Str.{chars, is_utf8}
use Rattle.giop_json.specs.declared.form_fault.FormFault.{FormFault}
use Rattle.giop_json.specs.declared.form_fault.FormFault.TheVariants.{BadJson}
use Rattle.giop_json.specs.DescFromJson.{json_in}
use Rattle.giop_json.specs.InterfaceFromJson.{interface_told}
use Rattle.giop_files.specs.Files.{IsJoined}
use Rattle.giop_files.specs.InterfaceText.{plain_text}
use Rattle.laws_in_use.specs.Checked.{not_utf8}
use Rattle.laws_in_use.specs.InJson.{adding}
use Rattle.laws_in_use.proofs.AddingTold.{adding_is_told, adding_sayable}
use Rattle.laws_in_use.proofs.files.a_file_is_refused_or_an_interface.Goals as goal

none : interface_told (json_in not_utf8) ≡ Err BadJson
unfolding is_utf8 chars
none = refl

pub returns-clause-refused : goal.returns-clause-refused
returns-clause-refused c = λ file is. subst IsErr (sym (ap (λ text. interface_told (json_in text)) is ∙ none)) refl

pub returns-clause-other : goal.returns-clause-other
returns-clause-other c = λ joined file is told refused.
    let fault : IsErr (interface_told (json_in (plain_text file.now.text))) =
    c.refused_files_are_no_interfaces.ensures file (subst IsJoined refused is) in
    let read = ap interface_told told ∙ adding_is_told (c.json_gives_interfaces_back.ensures adding adding_sayable) in
    let both : IsErr {E = FormFault} (Ok adding) = subst IsErr read fault in absurd cc
