-- Several answers to an operation, one to each call of it in turn. What was given is kept by the name
-- of the operation, once for each answer that has another behind it: so the last one stays.
use Rattle.std.specs.Prelude.{ℕ, ◌+◌, nat_eq, Bool, if◌then◌else◌, List, [], ◌∷◌, ◌++◌, count_by}
use Rattle.std.specs.Prelude.{Option, Some, None, is_some, option_map, option_and_then}
use Rattle.std.specs.Cmp.Lexicographic.{pointwise}
use Rattle.serde_json.specs.Data.{Data}
use Rattle.serde_json.specs.Find.{as_array, at, get}
use Rattle.giop_types.specs.JsonForms.JsonText.{text_of}
use Rattle.giop_msg.specs.declared.messages.request.Request.{Request}
use Rattle.giop_calls.specs.declared.server.entry.ServerEntry.{ServerEntry}
use Rattle.giop_calls.specs.declared.server.entry.ServerEntry.TheVariants.{Asked}
use Rattle.giop_commands.specs.declared.serve.answering.Answer.{Answer}
use Rattle.giop_commands.specs.declared.serve.answering.Answer.TheVariants.{Given}

-- how many answers of an operation's list are passed
abbrev pub passed_of : List (List ℕ) → List ℕ → ℕ
passed_of passed name = count_by (λ other. pointwise nat_eq other name) passed

-- the answer that is due behind so many: the member itself, or one of a list
abbrev pub due_in : ℕ → Data → Option Data
due_in n d = if is_some (as_array d) then at n d else Some d

-- whether an answer stands behind that which is due to an operation
abbrev pub has_next : Data → List (List ℕ) → List ℕ → Bool
has_next answers passed name =
    is_some (option_and_then (at (passed_of passed name + 1)) (get (text_of name) answers))

-- what is passed when an operation is answered
abbrev pub passed_by : Data → List (List ℕ) → List ℕ → List (List ℕ)
passed_by answers passed name =
    if has_next answers passed name then passed ++ name ∷ [] else passed

-- what is passed behind an answer to a Request: that which was given for its operation
abbrev pub passed_for : Data → List (List ℕ) → Request → Answer → List (List ℕ)
passed_for answers passed request (Given quiet) =
    passed_by answers passed request.head.operation
passed_for answers passed request _ = passed

-- the same behind the answer to what is stored for an id
abbrev pub passed_behind : Data → List (List ℕ) → ServerEntry → Answer → List (List ℕ)
passed_behind answers passed (Asked request) answer = passed_for answers passed request answer
passed_behind answers passed _ answer = passed
