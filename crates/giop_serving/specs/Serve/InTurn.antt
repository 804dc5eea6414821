-- Several answers to an operation, one to each call of it in turn. What was given is kept by the
-- name of the operation and the key of its object, once for each answer that has another behind it:
-- so the last one stays.
use Rattle.std.specs.Prelude.{◌≡◌, ℕ, zero, suc, ◌+◌, ◌&&◌, nat_eq, Bool, false, if◌then◌else◌, List, [], ◌∷◌, ◌++◌, count_by}
use Rattle.std.specs.Prelude.{Option, Some, None, is_some, option_and_then}
use Rattle.std.specs.Cmp.Lexicographic.{pointwise}
use Rattle.serde_json.specs.Data.{Data, Items, array, item, no_items}
use Rattle.serde_json.specs.Find.{as_array, at, get}
use Rattle.giop_json.specs.JsonText.{text_of}
use Rattle.giop_msg.specs.declared.messages.request.Request.{Request}
use Rattle.giop_calls.specs.declared.server.entry.ServerEntry.{ServerEntry}
use Rattle.giop_calls.specs.declared.server.entry.ServerEntry.TheVariants.{Asked}
use Rattle.giop_serving.specs.declared.serve.answering.Answer.{Answer}
use Rattle.giop_serving.specs.declared.serve.answering.Answer.TheVariants.{Given}
use Rattle.giop_serving.specs.declared.serve.in_turn.AnswerName.{AnswerName}
use Rattle.giop_serving.specs.Serve.Objects.{Object, object_for}

-- how many answers of the list of an operation are passed, of the object of a key
abbrev pub passed_of : List AnswerName → List ℕ → List ℕ → ℕ
passed_of passed key name = count_by
    (λ other. pointwise nat_eq other.key key && pointwise nat_eq other.operation name) passed

-- the answer that is due behind so many: the member itself, or one of a list
abbrev pub due_in : ℕ → Data → Option Data
due_in n d = if is_some (as_array d) then at n d else Some d

-- whether an answer stands behind that which is due to an operation
abbrev pub has_next : Object → List AnswerName → List ℕ → Bool
has_next object passed name = is_some (option_and_then
    (at (passed_of passed object.key name + 1)) (get (text_of name) object.answers))

-- what is passed when an operation of an object is answered
abbrev pub passed_by : Object → List AnswerName → List ℕ → List AnswerName
passed_by object passed name =
    if has_next object passed name
    then passed ++ (record { key = object.key; operation = name }) ∷ []
    else passed

-- the same where the object is one of those that are served
abbrev pub passed_at : Option Object → List AnswerName → List ℕ → List AnswerName
passed_at (Some object) passed name = passed_by object passed name
passed_at None passed name = passed

-- what is passed behind an answer to a Request: that which was given for its operation
abbrev pub passed_for : List Object → List AnswerName → Request → Answer → List AnswerName
passed_for objects passed request (Given quiet) =
    passed_at (object_for objects request.head.target) passed request.head.operation
passed_for objects passed request _ = passed

-- the same behind the answer to what is stored for an id
abbrev pub passed_behind : List Object → List AnswerName → ServerEntry → Answer → List AnswerName
passed_behind objects passed (Asked request) answer = passed_for objects passed request answer
passed_behind objects passed _ answer = passed

-- what is passed behind answered calls of an object's operations, in their order
abbrev pub passed_through : Object → List AnswerName → List (List ℕ) → List AnswerName
passed_through object passed [] = passed
passed_through object passed (name ∷ names) =
    passed_through object (passed_by object passed name) names

-- the item of a list that stands behind so many; where there are fewer, the last one
abbrev pub item_or_last : Data → Items → ℕ → Data
item_or_last first no_items n = first
item_or_last first (item second more) zero = first
item_or_last first (item second more) (suc n) = item_or_last second more n

-- the answers of a list are due in turn: behind n answered calls of its operation, whatever others
-- are between them, item n is, and where there is none the last
abbrev pub ListsAreGivenInTurn : Type 0
ListsAreGivenInTurn =
    (object : Object) (name : List ℕ) (first : Data) (more : Items) (calls : List (List ℕ)) →
    get (text_of name) object.answers ≡ Some (array (item first more)) →
    due_in (passed_of (passed_through object [] calls) object.key name) (array (item first more))
    ≡ Some (item_or_last first more (count_by (λ call. pointwise nat_eq call name) calls))

-- what an object of another key is asked passes none of an object's answers
abbrev pub ObjectsPassApart : Type 0
ObjectsPassApart =
    (object other : Object) (passed : List AnswerName) (name called : List ℕ) →
    pointwise nat_eq other.key object.key ≡ false →
    passed_of (passed_by other passed called) object.key name ≡ passed_of passed object.key name
