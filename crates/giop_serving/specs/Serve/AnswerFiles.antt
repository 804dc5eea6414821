-- The JSON of the answers to all operations (docs/FORMATS.md, "Calls and answers"). A part may be
-- of another form, which is `None`, or of the right one and then fit or not.
use Rattle.std.specs.Prelude.{ℕ, ◌+◌, codes, Bool, true, false, ◌&&◌, not, if◌then◌else◌, count_by}
use Rattle.std.specs.Prelude.{List, [], ◌∷◌, Vec, Option, Some, None, option_map, option_and_then}
use Rattle.std.specs.Prelude.{is_some, Result, Ok, Err}
use Rattle.std.specs.declared.alloc.Global.{Global}
use Rattle.serde_json.specs.Data.{Data, Items, no_items, item}
use Rattle.serde_json.specs.Find.{as_array, get}
use Rattle.giop_json.specs.declared.form_fault.FormFault.{FormFault}
use Rattle.giop_json.specs.declared.form_fault.FormFault.TheVariants.{BadJson, BadShape}
use Rattle.giop_json.specs.declared.form_fault.FormFault.TheVariants.{Unfit}
use Rattle.giop_types.specs.declared.interfaces.interface.Interface.{Interface}
use Rattle.giop_types.specs.declared.interfaces.interface.Operation.{Operation}
use Rattle.giop_types.specs.declared.interfaces.parameters.Parameter.{Parameter}
use Rattle.giop_json.specs.DescFromJson.{json_in}
use Rattle.giop_json.specs.FromJson.{in_object}
use Rattle.giop_json.specs.JsonText.{text_of}
use Rattle.giop_serving.specs.declared.serve.answers.AnswerGiven.{AnswerGiven}
use Rattle.giop_serving.specs.declared.serve.given.Sending.{Sending}
use Rattle.giop_serving.specs.Serve.AnswerForms.{default_in, given_by}
use Rattle.giop_serving.specs.Serve.LetOut.{is_let_out}
use Rattle.giop_msg.specs.Messages.Request.{operation_of}

-- ---- an operation's

-- whether an answer to an operation of this name fits, and goes out as answers are sent
abbrev pub is_passed : Interface → Sending → List ℕ → Option AnswerGiven → Bool
is_passed interface sending name None = false
is_passed interface sending name (Some given) = is_let_out interface sending name given

-- the same of a JSON value, by the outs of the operation
abbrev pub fits_outs : Interface → Sending → List ℕ → List Parameter → Data → Option Bool
fits_outs interface sending name outs d =
    option_map (is_passed interface sending name) (given_by interface.general outs d)

-- whether each of these does
abbrev pub each_fits : Interface → Sending → List ℕ → List Parameter → Items → Option Bool
each_fits interface sending name outs no_items = Some true
each_fits interface sending name outs (item d ds) = option_and_then
    (λ one. option_map (λ more. one && more) (each_fits interface sending name outs ds))
    (fits_outs interface sending name outs d)

-- a list is of one answer or more
abbrev pub list_fits : Interface → Sending → List ℕ → List Parameter → Items → Option Bool
list_fits interface sending name outs no_items = None
list_fits interface sending name outs (item d ds) =
    each_fits interface sending name outs (item d ds)

-- whether a member fits: an answer, or a list of them
abbrev pub member_fits : Interface → Sending → List ℕ → List Parameter → Data → Option Items
    → Option Bool
member_fits interface sending name outs d None = fits_outs interface sending name outs d
member_fits interface sending name outs d (Some ds) = list_fits interface sending name outs ds

-- whether what is given for an operation fits: its own member, else the default
abbrev pub fits_of : Interface → Sending → List ℕ → List Parameter → Option Data → Option Data
    → Option Bool
fits_of interface sending name outs (Some own) default =
    member_fits interface sending name outs own (as_array own)
fits_of interface sending name outs None default =
    option_and_then (fits_outs interface sending name outs) default

-- whether it does; nothing is for a oneway operation
abbrev pub is_fit : Interface → Sending → Data → List ℕ → Operation → Option Bool
is_fit interface sending d name operation =
    if operation.oneway then Some true
    else fits_of interface sending name operation.outs.list.items (get (text_of name) d)
    (default_in d)

-- ---- those of all operations

-- whether what is given for each operation fits
abbrev pub are_fit : Interface → Sending → Data → List (Vec ℕ Global × Operation) → Option Bool
are_fit interface sending d [] = Some true
are_fit interface sending d (e ∷ es) = option_and_then
    (λ one. option_map (λ more. one && more) (are_fit interface sending d es))
    (is_fit interface sending d e.0.items e.1)

-- whether an operation has an answer of its own, which no oneway one has
abbrev pub has_own : Data → List ℕ → Operation → Bool
has_own d name operation = not operation.oneway && is_some (get (text_of name) d)

-- how many do
abbrev pub own_count : Interface → Data → ℕ
own_count interface d = count_by (λ e. has_own d e.0.items e.1) interface.general.operations.entries

-- whether an operation that was looked up is answered: it is there, and not oneway
abbrev pub is_answered : Option Operation → Bool
is_answered (Some operation) = not operation.oneway
is_answered None = false

-- how many members are a default: that of its key, unless this names an operation that is answered
abbrev pub default_count : Interface → Data → ℕ
default_count interface d =
    if is_some (default_in d) && not (is_answered (operation_of interface (codes "*"))) then 1
    else 0

-- how many members answers have
abbrev pub member_count : Interface → Data → ℕ
member_count interface d = own_count interface d + default_count interface d

-- whether a default has the form of an answer, be it used or not
abbrev pub default_formed : Interface → Option Data → Option Bool
default_formed interface None = Some true
default_formed interface (Some d) = option_map (λ given. true) (given_by interface.general [] d)

-- whether all that is given fits, in an object that answers no other operation
abbrev pub all_fit : Interface → Sending → Data → Option Bool
all_fit interface sending d = in_object (member_count interface d)
    (λ x. option_and_then (λ formed. are_fit interface sending x interface.general.operations.entries)
    (default_formed interface (default_in x))) d

-- a text that answers the operations
abbrev pub if_fit : Data → Option Bool → Result Data FormFault
if_fit d None = Err BadShape
if_fit d (Some false) = Err Unfit
if_fit d (Some true) = Ok d

abbrev pub answers_told : Interface → Sending → Option Data → Result Data FormFault
answers_told interface sending None = Err BadJson
answers_told interface sending (Some d) = if_fit d (all_fit interface sending d)

-- the answers that a JSON text gives
abbrev pub answers_in : Interface → Sending → List ℕ → Result Data FormFault
answers_in interface sending bytes = answers_told interface sending (json_in bytes)
