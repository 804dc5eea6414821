-- The JSON of answers (docs/FORMATS.md, "Calls and answers"). A part may be of another form, or of
-- the right one and then fit or not: it is `None`, `Some None`, or what fits.
use Rattle.std.specs.Prelude.{ℕ, ◌+◌, codes, Bool, true, false, ◌&&◌, not, if◌then◌else◌, count_by}
use Rattle.std.specs.Prelude.{List, [], ◌∷◌, Vec, Option, Some, None, option_map, option_and_then}
use Rattle.std.specs.Prelude.{is_some, Result, Ok, Err}
use Rattle.std.specs.declared.alloc.Global.{Global}
use Rattle.serde_json.specs.Data.{Data, Items, no_items, item}
use Rattle.serde_json.specs.Find.{as_array, get}
use Rattle.giop_types.specs.declared.json.form_fault.FormFault.{FormFault}
use Rattle.giop_types.specs.declared.json.form_fault.FormFault.TheVariants.{BadJson, BadShape}
use Rattle.giop_types.specs.declared.json.form_fault.FormFault.TheVariants.{Unfit}
use Rattle.giop_types.specs.declared.json.interface.Interface.{Interface}
use Rattle.giop_types.specs.declared.json.interface.Operation.{Operation}
use Rattle.giop_types.specs.declared.json.parameters.Parameter.{Parameter}
use Rattle.giop_types.specs.declared.json.parameters.Parameters.{Parameters}
use Rattle.giop_types.specs.JsonForms.DescFromJson.{by_key, json_in}
use Rattle.giop_types.specs.JsonForms.FromJson.{in_object}
use Rattle.giop_types.specs.JsonForms.JsonText.{text_of}
use Rattle.giop_commands.specs.declared.serve.answers.AnswerGiven.{AnswerGiven}
use Rattle.giop_commands.specs.declared.serve.answers.AnswerGiven.TheVariants.{Ok as result, User}
use Rattle.giop_commands.specs.CallForms.{octets_in, values_in}
use Rattle.giop_commands.specs.GeneralForms.{general_by}
use Rattle.giop_commands.specs.InTurn.{due_in, passed_of}
use Rattle.giop_commands.specs.IsA.{is_a_in}
use Rattle.giop_msg.specs.Messages.Reply.{exception_of}
use Rattle.giop_msg.specs.Messages.Request.{operation_of}

-- ---- what is given for one operation

-- a result, by the outs
abbrev pub result_in : List Parameter → Data → Option (Option AnswerGiven)
result_in outs d = option_map (option_map result) (values_in outs d)

-- an exception that the interface has, by its id and its members
abbrev pub raised : List ℕ → Data → Option Parameters → Option (Option AnswerGiven)
raised id members None = None
raised id members (Some parameters) =
    option_map (option_map (User id)) (values_in parameters.list.items members)

-- such an exception, by the id as a JSON value and the object that has the members
abbrev pub raised_in : Interface → Data → Data → Option (Option AnswerGiven)
raised_in interface id d = option_and_then (λ octets. option_and_then
    (λ members. raised octets members (exception_of interface octets))
    (get (codes "members") d)) (octets_in id)

-- what an operation with these outs is answered: a result alone, an exception's id and members, what
-- `_is_a` is, or what any operation may be
abbrev pub given_by : Interface → List Parameter → Data → Option (Option AnswerGiven)
given_by interface outs d =
    by_key (get (codes "ok") d) (λ values. in_object 1 (λ x. result_in outs values) d)
    (by_key (get (codes "user") d) (λ id. in_object 2 (raised_in interface id) d)
    (by_key (get (codes "is_a") d) (λ id. is_a_in outs id d) (general_by d)))

-- the answer to those operations that have none of their own
abbrev pub default_in : Data → Option Data
default_in d = get (codes "*") d

-- what an operation with these outs is answered behind so many answers of its list, by the member
-- of its name, else by the default
abbrev pub given_of : Interface → List Parameter → ℕ → Option Data → Option Data
    → Option (Option AnswerGiven)
given_of interface outs n (Some own) default =
    option_and_then (given_by interface outs) (due_in n own)
given_of interface outs n None default = option_and_then (given_by interface outs) default

abbrev pub given_under : Interface → List ℕ → Data → ℕ → Operation → Option (Option AnswerGiven)
given_under interface name d n operation =
    given_of interface operation.outs.list.items n (get (text_of name) d) (default_in d)

-- what is given for an operation of this name, where these answers are passed: nothing where it is
-- oneway or the interface hasn't it, no member stands for it, or what stands there is no answer
abbrev pub given_in : Interface → Data → List (List ℕ) → List ℕ → Option AnswerGiven
given_in interface answers passed name = option_and_then
    (λ operation. if operation.oneway then None
    else option_and_then (λ given. given)
    (given_under interface name answers (passed_of passed name) operation))
    (operation_of interface name)

-- ---- the answers to all operations

-- whether an answer fits an operation with these outs
abbrev pub fits_outs : Interface → List Parameter → Data → Option Bool
fits_outs interface outs d = option_map is_some (given_by interface outs d)

-- whether each of these does
abbrev pub each_fits : Interface → List Parameter → Items → Option Bool
each_fits interface outs no_items = Some true
each_fits interface outs (item d ds) = option_and_then
    (λ one. option_map (λ more. one && more) (each_fits interface outs ds))
    (fits_outs interface outs d)

-- a list is of one answer or more
abbrev pub list_fits : Interface → List Parameter → Items → Option Bool
list_fits interface outs no_items = None
list_fits interface outs (item d ds) = each_fits interface outs (item d ds)

-- whether a member fits: an answer, or a list of them
abbrev pub member_fits : Interface → List Parameter → Data → Option Items → Option Bool
member_fits interface outs d None = fits_outs interface outs d
member_fits interface outs d (Some ds) = list_fits interface outs ds

-- whether what is given for an operation fits: its own member, else the default
abbrev pub fits_of : Interface → List Parameter → Option Data → Option Data → Option Bool
fits_of interface outs (Some own) default = member_fits interface outs own (as_array own)
fits_of interface outs None default = option_and_then (fits_outs interface outs) default

-- whether it does; nothing is for a oneway operation
abbrev pub is_fit : Interface → Data → List ℕ → Operation → Option Bool
is_fit interface d name operation =
    if operation.oneway then Some true
    else fits_of interface operation.outs.list.items (get (text_of name) d) (default_in d)

-- whether what is given for each operation fits
abbrev pub are_fit : Interface → Data → List (Vec ℕ Global × Operation) → Option Bool
are_fit interface d [] = Some true
are_fit interface d (e ∷ es) = option_and_then
    (λ one. option_map (λ more. one && more) (are_fit interface d es))
    (is_fit interface d e.0.items e.1)

-- whether an operation has an answer of its own, which no oneway one has
abbrev pub has_own : Data → List ℕ → Operation → Bool
has_own d name operation = not operation.oneway && is_some (get (text_of name) d)

-- how many do
abbrev pub own_count : Interface → Data → ℕ
own_count interface d = count_by (λ e. has_own d e.0.items e.1) interface.general.operations.entries

-- whether an operation that was looked up is answered: it is there, and not oneway
abbrev pub is_answered : Option Operation → Bool
is_answered (Some operation) = not operation.oneway
is_answered None = false

-- how many members are a default: that of its key, unless this names an operation that is answered
abbrev pub default_count : Interface → Data → ℕ
default_count interface d =
    if is_some (default_in d) && not (is_answered (operation_of interface (codes "*"))) then 1
    else 0

-- how many members answers have
abbrev pub member_count : Interface → Data → ℕ
member_count interface d = own_count interface d + default_count interface d

-- whether a default has the form of an answer, be it used or not
abbrev pub default_formed : Interface → Option Data → Option Bool
default_formed interface None = Some true
default_formed interface (Some d) = option_map (λ given. true) (given_by interface [] d)

-- whether all that is given fits, in an object that answers no other operation
abbrev pub all_fit : Interface → Data → Option Bool
all_fit interface d = in_object (member_count interface d)
    (λ x. option_and_then (λ formed. are_fit interface x interface.general.operations.entries)
    (default_formed interface (default_in x))) d

-- a text that answers the operations
abbrev pub if_fit : Data → Option Bool → Result Data FormFault
if_fit d None = Err BadShape
if_fit d (Some false) = Err Unfit
if_fit d (Some true) = Ok d

abbrev pub answers_told : Interface → Option Data → Result Data FormFault
answers_told interface None = Err BadJson
answers_told interface (Some d) = if_fit d (all_fit interface d)

-- the answers that a JSON text gives
abbrev pub answers_in : Interface → List ℕ → Result Data FormFault
answers_in interface bytes = answers_told interface (json_in bytes)
