-- The interface of two operations by its text in JSON.
use Rattle.std.proofs.Common.{◌≡◌, true, Some, Ok, ◌∙◌, refl, sym, ap}
use Rattle.giop_types.specs.Descriptions.Checked.{desc_fault}
use Rattle.giop_json.specs.DescToJson.{desc_data, is_sayable, members_data}
use Rattle.giop_json.specs.InterfaceFromJson.{interface_told, offer_in, offered}
use Rattle.giop_json.specs.InterfaceToJson.{offer_data, offer_sayable}
use Rattle.giop_json.specs.Plain.{is_plain}
use Rattle.laws_in_use.specs.InJson.{adding, adding_told}

pub adding_sayable : offer_sayable adding ≡ true
unfolding is_sayable is_plain desc_fault
adding_sayable = refl

written : offer_data adding ≡ adding_told
unfolding desc_data members_data
written = refl

judged : offered (Some adding) ≡ Ok adding
unfolding desc_fault
judged = refl

-- what is written of it is read
pub adding_is_told : offer_in (offer_data adding) ≡ Some adding → interface_told (Some adding_told) ≡ Ok adding
adding_is_told read = ap offered (ap offer_in (sym written) ∙ read) ∙ judged
