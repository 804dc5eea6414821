-- What any operation may be answered (docs/FORMATS.md, "Calls and answers"): a system exception, or
-- that the object is elsewhere. As in CallForms, a part is of another form, of the right one and
-- unfit, or what fits.
use Rattle.std.specs.Prelude.{ℕ, ◌+◌, ◌==◌, codes, if◌then◌else◌, List}
use Rattle.std.specs.Prelude.{Option, Some, None, option_map, option_and_then, is_some}
use Rattle.std.specs.Result.{result_ok}
use Rattle.serde_json.specs.Data.{Data}
use Rattle.serde_json.specs.Find.{get}
use Rattle.giop_ior.specs.declared.addresses.corbaloc.Corbaloc.{Corbaloc}
use Rattle.giop_ior.specs.CorbalocReading.{corbaloc_of}
use Rattle.giop_ior.specs.Ior.{Reference, ior_layout}
use Rattle.giop_ior.specs.ToIor.{are_profiles, ior_of}
use Rattle.giop_msg.specs.declared.messages.completion.Completion.{Completion}
use Rattle.giop_msg.specs.declared.messages.completion.Completion.TheVariants.{Yes, No, Maybe}
use Rattle.giop_ior_text.specs.IorText.{ior_text_of}
use Rattle.giop_json.specs.DescFromJson.{by_key}
use Rattle.giop_json.specs.FromJson.{in_object}
use Rattle.giop_serving.specs.declared.serve.answers.AnswerGiven.{AnswerGiven}
use Rattle.giop_serving.specs.declared.serve.answers.AnswerGiven.TheVariants.{System, Forward}
use Rattle.giop_serving.specs.declared.serve.answers.AnswerGiven.TheVariants.{ForwardPerm}
use Rattle.giop_commands.specs.Session.Forms.{form_of, number_in, octets_in}
use Rattle.giop_commands.specs.Session.Target.{is_reference}

-- ---- system exceptions

-- a minor code: 0, where it is left out
abbrev pub minor_in : Option Data → Option (Option ℕ)
minor_in None = Some (Some 0)
minor_in (Some d) = number_in d

-- a completion by its number
abbrev pub completion_numbered : ℕ → Option Completion
completion_numbered n =
    if n == 0 then Some Yes else if n == 1 then Some No else if n == 2 then Some Maybe else None

-- a completion: 1, where it is left out
abbrev pub completion_in : Option Data → Option (Option Completion)
completion_in None = Some (Some No)
completion_in (Some d) = option_map (option_and_then completion_numbered) (number_in d)

-- how many members a system exception has: its id, and those of the others that stand there
abbrev pub system_members : Data → ℕ
system_members d = 1 + (if is_some (get (codes "minor") d) then 1 else 0)
    + (if is_some (get (codes "completion") d) then 1 else 0)

-- a system exception by its id, and by the object that has the other members
abbrev pub system_by : Data → List ℕ → Option (Option AnswerGiven)
system_by d id = form_of (System id)
    (minor_in (get (codes "minor") d)) (completion_in (get (codes "completion") d))

-- such an exception, by the id as a JSON value
abbrev pub system_in : Data → Data → Option (Option AnswerGiven)
system_in id d =
    in_object (system_members d) (λ x. option_and_then (system_by x) (octets_in id)) d

-- ---- forwards

-- the reference of a corbaloc, where octets spell its profiles
abbrev pub corbaloc_reference : Corbaloc → Option Reference
corbaloc_reference c = if are_profiles c then Some (ior_of c) else None

-- the reference that a text says: the text of one, or a corbaloc
abbrev pub reference_said : List ℕ → Option (Option Reference)
reference_said text =
    if is_reference text then option_map Some (result_ok (ior_text_of ior_layout.read text))
    else option_map corbaloc_reference (result_ok (corbaloc_of text))

abbrev pub reference_in : Data → Option (Option Reference)
reference_in d = option_and_then reference_said (octets_in d)

-- where the object is for this call, and where it is from now on
abbrev pub forward_in : Data → Data → Option (Option AnswerGiven)
forward_in text d = in_object 1 (λ x. option_map (option_map Forward) (reference_in text)) d

abbrev pub forward_perm_in : Data → Data → Option (Option AnswerGiven)
forward_perm_in text d =
    in_object 1 (λ x. option_map (option_map ForwardPerm) (reference_in text)) d

-- ---- all of them

abbrev pub general_by : Data → Option (Option AnswerGiven)
general_by d =
    by_key (get (codes "system") d) (λ id. system_in id d)
    (by_key (get (codes "forward") d) (λ text. forward_in text d)
    (by_key (get (codes "forward_perm") d) (λ text. forward_perm_in text d) None))
