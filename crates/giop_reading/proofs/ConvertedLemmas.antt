-- The statuses of what is converted.
use Rattle.std.proofs.Common.{refl, inl, inr, ℕ, List, Option, Result, Ok, Err, IfOk}
use Rattle.giop_cdr.specs.declared.order.Order.{Order}
use Rattle.giop_json.specs.declared.number_form.NumberForm.{NumberForm}
use Rattle.giop_types.specs.Descriptions.Shape.{Shape}
use Rattle.giop_forms.specs.declared.line_form.LineForm.{LineForm}
use Rattle.giop_forms.specs.declared.way.Way.{Way}
use Rattle.giop_forms.specs.declared.way.Way.TheVariants.{Encode, Decode}
use Rattle.giop_show.specs.Status.{answered_status}
use Rattle.giop_show.specs.declared.failure.Failure.{Failure}
use Rattle.giop_show.specs.declared.status.Status.{Status}
use Rattle.giop_show.specs.declared.status.Status.TheVariants.{Done, Refused, LimitPassed, Usage, InputOutput}
use Rattle.giop_show.specs.declared.status.Status.TheVariants.{Memory as memory_status}
use Rattle.giop_converting.specs.Convert.{ConvertsIor, ConvertsCorbaloc, ConvertsValue, ConvertsEncode, ConvertsDecode}
use Rattle.giop_files.proofs.ReportLemmas.{failed_status}
use Rattle.giop_reading.specs.Converted.{IsConverted, IsDecided}

pub converted_status : (answered : Result Status Failure) → IfOk answered IsDecided → IsConverted (answered_status answered)
converted_status (Ok status) is = inl is
converted_status (Err failure) _ = inr (failed_status failure)

pub decided_ior : (form : LineForm) (octets : List ℕ) (old new : Option (List ℕ)) (status : Status) → ConvertsIor form octets old new status → IsDecided status
decided_ior form octets old new Done is = inl refl
decided_ior form octets old new Refused is = inr refl
decided_ior form octets old new (LimitPassed limit) is = absurd is
decided_ior form octets old new Usage is = absurd is
decided_ior form octets old new InputOutput is = absurd is
decided_ior form octets old new memory_status is = absurd is

pub decided_corbaloc : (form : LineForm) (octets : List ℕ) (old new : Option (List ℕ)) (status : Status)
    → ConvertsCorbaloc form octets old new status → IsDecided status
decided_corbaloc form octets old new Done is = inl refl
decided_corbaloc form octets old new Refused is = inr refl
decided_corbaloc form octets old new (LimitPassed limit) is = absurd is
decided_corbaloc form octets old new Usage is = absurd is
decided_corbaloc form octets old new InputOutput is = absurd is
decided_corbaloc form octets old new memory_status is = absurd is

decided_encode : (shape : Shape) (order : Order) (octets : List ℕ) (old new : Option (List ℕ)) (status : Status)
    → ConvertsEncode shape order octets old new status → IsDecided status
decided_encode shape order octets old new Done is = inl refl
decided_encode shape order octets old new Refused is = inr refl
decided_encode shape order octets old new (LimitPassed limit) is = absurd is
decided_encode shape order octets old new Usage is = absurd is
decided_encode shape order octets old new InputOutput is = absurd is
decided_encode shape order octets old new memory_status is = absurd is

decided_decode : (numbers : NumberForm) (shape : Shape) (order : Order) (octets : List ℕ) (old new : Option (List ℕ)) (status : Status)
    → ConvertsDecode numbers shape order octets old new status → IsDecided status
decided_decode numbers shape order octets old new Done is = inl refl
decided_decode numbers shape order octets old new Refused is = inr refl
decided_decode numbers shape order octets old new (LimitPassed limit) is = absurd is
decided_decode numbers shape order octets old new Usage is = absurd is
decided_decode numbers shape order octets old new InputOutput is = absurd is
decided_decode numbers shape order octets old new memory_status is = absurd is

pub decided_value : (way : Way) (order : Order) (description octets : List ℕ) (old new : Option (List ℕ)) (status : Status)
    → ConvertsValue way order description octets old new status → IsDecided status
decided_value Encode order description octets old new status (inl by) = decided_encode by.0 order octets old new status by.2
decided_value (Decode numbers) order description octets old new status (inl by) = decided_decode numbers by.0 order octets old new status by.2
decided_value way order description octets old new status (inr refused) = inr refused.0
