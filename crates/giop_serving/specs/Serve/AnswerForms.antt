-- The JSON of an answer (docs/FORMATS.md, "Calls and answers"). A part may be of another form, or
-- of the right one and then fit or not: it is `None`, `Some None`, or what fits.
use Rattle.std.specs.Prelude.{ℕ, codes, if◌then◌else◌}
use Rattle.std.specs.Prelude.{List, Option, Some, None, option_map, option_and_then}
use Rattle.serde_json.specs.Data.{Data}
use Rattle.serde_json.specs.Find.{get}
use Rattle.giop_types.specs.declared.interfaces.interface.Operation.{Operation}
use Rattle.giop_types.specs.declared.interfaces.offer.Offer.{Offer}
use Rattle.giop_types.specs.declared.interfaces.parameters.Parameter.{Parameter}
use Rattle.giop_types.specs.declared.interfaces.parameters.Parameters.{Parameters}
use Rattle.giop_json.specs.DescFromJson.{by_key}
use Rattle.giop_json.specs.FromJson.{in_object}
use Rattle.giop_json.specs.JsonText.{text_of}
use Rattle.giop_serving.specs.declared.serve.answers.AnswerGiven.{AnswerGiven}
use Rattle.giop_serving.specs.declared.serve.answers.AnswerGiven.TheVariants.{Ok as result, User}
use Rattle.giop_commands.specs.Session.Forms.{octets_in, values_in}
use Rattle.giop_serving.specs.Serve.GeneralForms.{general_by}
use Rattle.giop_serving.specs.Serve.InTurn.{due_in}
use Rattle.giop_serving.specs.Serve.IsA.{is_a_in}
use Rattle.giop_msg.specs.Messages.Reply.{exception_in}
use Rattle.giop_msg.specs.Messages.Request.{operation_in}

-- a result, by the outs
abbrev pub result_in : List Parameter → Data → Option (Option AnswerGiven)
result_in outs d = option_map (option_map result) (values_in outs d)

-- an exception that the object offers, by its id and its members
abbrev pub raised : List ℕ → Data → Option Parameters → Option (Option AnswerGiven)
raised id members None = None
raised id members (Some parameters) =
    option_map (option_map (User id)) (values_in parameters.list.items members)

-- such an exception, by the id as a JSON value and the object that has the members
abbrev pub raised_in : Offer → Data → Data → Option (Option AnswerGiven)
raised_in offer id d = option_and_then (λ octets. option_and_then
    (λ members. raised octets members (exception_in offer octets))
    (get (codes "members") d)) (octets_in id)

-- what an operation with these outs is answered: a result alone, an exception's id and members,
-- what `_is_a` is, or what any operation may be
abbrev pub given_by : Offer → List Parameter → Data → Option (Option AnswerGiven)
given_by offer outs d =
    by_key (get (codes "ok") d) (λ values. in_object 1 (λ x. result_in outs values) d)
    (by_key (get (codes "user") d) (λ id. in_object 2 (raised_in offer id) d)
    (by_key (get (codes "is_a") d) (λ id. is_a_in outs id d) (general_by d)))

-- the answer to those operations that have none of their own
abbrev pub default_in : Data → Option Data
default_in d = get (codes "*") d

-- what an operation with these outs is answered behind so many answers of its list, by the member
-- of its name, else by the default
abbrev pub given_of : Offer → List Parameter → ℕ → Option Data → Option Data
    → Option (Option AnswerGiven)
given_of offer outs n (Some own) default =
    option_and_then (given_by offer outs) (due_in n own)
given_of offer outs n None default = option_and_then (given_by offer outs) default

abbrev pub given_under : Offer → List ℕ → Data → ℕ → Operation → Option (Option AnswerGiven)
given_under offer name d n operation =
    given_of offer operation.outs.list.items n (get (text_of name) d) (default_in d)

-- what is given for an operation of this name, where so many of its answers are passed: nothing
-- where it is oneway or the object doesn't offer it, no member stands for it, or what stands there
-- is no answer
abbrev pub given_in : Offer → Data → ℕ → List ℕ → Option AnswerGiven
given_in offer answers passed name = option_and_then
    (λ operation. if operation.oneway then None
    else option_and_then (λ given. given)
    (given_under offer name answers passed operation))
    (operation_in offer name)
