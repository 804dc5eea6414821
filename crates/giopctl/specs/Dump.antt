-- The whole text of `dump`, and what a run of it does.
use Rattle.std.specs.Prelude.{◌≢◌, ℕ, ◌+◌, ◌-◌, Bool, false, not, List, [], ◌∷◌, ◌++◌, Option, Some, None, length, take, nat_le, if◌then◌else◌, Result, Ok, Err, ⊤}
use Rattle.std.specs.List.{flat_map}
use Rattle.std.specs.Io.KnownBytes.{Appends}
use Rattle.giop_cdr.specs.declared.fault.CdrFault.{CdrFault}
use Rattle.giop_msg.specs.declared.fault.WireFault.{WireFault}
use Rattle.giop_msg.specs.declared.kind.Kind.{Kind}
use Rattle.giop_msg.specs.declared.kind.Kind.TheVariants.{Request}
use Rattle.giop_msg.specs.declared.msg.Msg.{Msg}
use Rattle.giop_msg.specs.declared.version.Version.{Version}
use Rattle.giop_msg.specs.declared.version.Version.TheVariants.{V12}
use Rattle.giop_msg.specs.RequestHead.{Head, request_head_of}
use Rattle.giop_msg.specs.Header.{header_fault}
use Rattle.giop_msg.specs.Msg.{message_octets}
use Rattle.giop_msg.specs.RequestId.{request_id_of}
use Rattle.giop_msg.specs.Stream.{Msgs}
use Rattle.giopctl.specs.declared.status.Status.{Status}
use Rattle.giopctl.specs.declared.status.Status.TheVariants.{Done, Refused, Usage, InputOutput, Memory}
use Rattle.giopctl.specs.Lines.{message_line, head_line, fault_line, rest_line}

-- a line and its newline
abbrev pub ended : List ℕ → List ℕ
ended line = line ++ 10 ∷ []

-- a Request of 1.2 that no fragments follow
abbrev pub is_whole_request : Version → Kind → Bool → Bool
is_whole_request V12 Request more = not more
is_whole_request _ _ more = false

-- the line of a Request's head and of the body behind it, where the octets spell a head
abbrev pub head_text : Msg → Result (Head × ℕ) CdrFault → List ℕ
head_text m (Ok head) = ended (head_line head.0 (12 + length m.payload - head.1))
head_text m (Err e) = []

-- the lines of a message that begins at an offset of the file
abbrev pub message_text : ℕ → Msg → List ℕ
message_text at m =
    ended (message_line at m (request_id_of m))
    ++ (if is_whole_request m.version m.kind m.more then head_text m (request_head_of m.order m.payload) else [])

-- the lines of messages, the first of which begins at an offset of the file
abbrev pub messages_text : ℕ → List Msg → List ℕ
messages_text at [] = []
messages_text at (m ∷ ms) = message_text at m ++ messages_text (at + length (message_octets m)) ms

-- the fault in the header that begins the rest, if that is whole and wrong
abbrev pub rest_fault : ℕ → List ℕ → Option WireFault
rest_fault limit rest = if nat_le 12 (length rest) then header_fault limit (take 12 rest) else None

-- the last line: the fault, or how many octets are left
abbrev pub end_line : ℕ → List ℕ → Option WireFault → List ℕ
end_line at rest (Some e) = fault_line at e
end_line at rest None = rest_line (length rest)

-- the text of a file that is these messages and a rest
abbrev pub dump_text : ℕ → List Msg → List ℕ → List ℕ
dump_text limit messages rest =
    messages_text 0 messages
    ++ ended (end_line (length (flat_map message_octets messages)) rest (rest_fault limit rest))

-- the octets are these messages and a rest, and the writer's contents grew by their text
pub record Prints (limit : ℕ) (octets : List ℕ) (old new : Option (List ℕ)) (messages : List Msg) (rest : List ℕ) : Type 0 where
  pub split : Msgs limit octets messages rest
  pub text : Appends old new (dump_text limit messages rest)

-- what a dump of these octets does to the writer's contents, by the status that it answers: it is
-- done exactly where the octets are messages and nothing else
abbrev pub Dumps : ℕ → List ℕ → Option (List ℕ) → Option (List ℕ) → Status → Type 0
Dumps limit octets old new Done = (messages : List Msg) × Prints limit octets old new messages []
Dumps limit octets old new Refused =
    (messages : List Msg) × (rest : List ℕ) × Prints limit octets old new messages rest × (rest ≢ [])
Dumps limit octets old new Usage = ⊥
Dumps limit octets old new InputOutput = ⊤
Dumps limit octets old new Memory = ⊤

-- the same of the octets that a reader gives, where they are known
abbrev pub DumpsKnown : ℕ → Option (List ℕ) → Option (List ℕ) → Option (List ℕ) → Status → Type 0
DumpsKnown limit None old new status = ⊤
DumpsKnown limit (Some octets) old new status = Dumps limit octets old new status
