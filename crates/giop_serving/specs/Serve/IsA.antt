-- What `serve` answers `_is_a` (CORBA 3.3 Part 1, 8.3.3): whether the object is of the type whose
-- id is asked for. It goes by that argument, and by the one id that is known of the object.
use Rattle.std.specs.Prelude.{ℕ, ◌||◌, nat_eq, codes, Bool, true, false, List, [], ◌∷◌, Option, Some, None, option_map, if◌then◌else◌}
use Rattle.std.specs.Cmp.Lexicographic.{pointwise}
use Rattle.serde_json.specs.Data.{Data}
use Rattle.giop_types.specs.declared.interfaces.parameters.Parameter.{Parameter}
use Rattle.giop_types.specs.Descriptions.CheckedShape.{checked_shape}
use Rattle.giop_types.specs.Descriptions.Shape as shape
use Rattle.giop_types.specs.Descriptions.Shape.{Shape}
use Rattle.giop_json.specs.FromJson.{in_object}
use Rattle.giop_types.specs.Values.Tree.{Tree, boolean_of, text_of}
use Rattle.giop_msg.specs.declared.messages.reply_body.ReplyBody.{ReplyBody}
use Rattle.giop_msg.specs.declared.messages.reply_body.ReplyBody.TheVariants.{NoException}
use Rattle.giop_serving.specs.declared.serve.answers.AnswerGiven.{AnswerGiven}
use Rattle.giop_serving.specs.declared.serve.answers.AnswerGiven.TheVariants.{IsA}
use Rattle.giop_commands.specs.Session.Forms.{octets_in}

-- the id of the type of which every object is
abbrev pub object_id : List ℕ
object_id = codes "IDL:omg.org/CORBA/Object:1.0"

-- whether an object of the type of this id is of that which is asked for
abbrev pub is_a : List ℕ → List ℕ → Bool
is_a id asked = pointwise nat_eq asked id || pointwise nat_eq asked object_id

-- the same of the ins of a Request; no other ins than a string ask for a type
abbrev pub is_asked : List ℕ → List Tree → Bool
is_asked id (text_of asked ∷ []) = is_a id asked
is_asked id _ = false

-- the result: a boolean
abbrev pub is_a_body : List ℕ → List Tree → ReplyBody
is_a_body id ins = NoException (boolean_of (is_asked id ins) ∷ [])

-- whether outs are one boolean, as the result of `_is_a` is
abbrev pub is_boolean : Shape → Bool
is_boolean shape.boolean = true
is_boolean _ = false

abbrev pub are_boolean : List Parameter → Bool
are_boolean (out ∷ []) = is_boolean (checked_shape out.desc)
are_boolean _ = false

-- such an answer, by the id of the object's type as a JSON value; to other outs it doesn't fit
abbrev pub is_a_by : List Parameter → Data → Option (Option AnswerGiven)
is_a_by outs id =
    option_map (λ octets. if are_boolean outs then Some (IsA octets) else None) (octets_in id)

-- the same, which stands alone in its object
abbrev pub is_a_in : List Parameter → Data → Data → Option (Option AnswerGiven)
is_a_in outs id d = in_object 1 (λ x. is_a_by outs id) d
