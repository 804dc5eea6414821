-- The whole text of `dump`, and what a run of it does, however the messages are told.
use Rattle.std.specs.Prelude.{◌≡◌, ◌≢◌, ℕ, ◌+◌, List, [], ◌∷◌, ◌++◌, Option, Some, None, length, ⊤}
use Rattle.std.specs.FinMap as finite
use Rattle.std.specs.List.{flat_map}
use Rattle.std.specs.Io.KnownBytes.{Appends}
use Rattle.giop_frag.specs.Gathered.{Lists}
use Rattle.giop_msg.specs.declared.fault.WireFault.{WireFault}
use Rattle.giop_msg.specs.declared.msg.Msg.{Msg}
use Rattle.giop_msg.specs.Msg.{message_octets}
use Rattle.giop_msg.specs.Stream.{Msgs}
use Rattle.giop_show.specs.declared.status.Status.{Status}
use Rattle.giop_show.specs.declared.status.Status.TheVariants.{Done, Refused, LimitPassed, Usage, InputOutput, Memory}
use Rattle.giop_show.specs.Forms.{ended}
use Rattle.giop_show.specs.Rest.{rest_fault}
use Rattle.giop_show.specs.Status.{header_status}

-- how a file is told: the lines of a message that begins at an offset, by what is gathered of those
-- before it in pieces; what is gathered behind it; and the last line, where so many octets are
-- left, or where the header at an offset has a fault
pub record Telling : Type 0 where
  pub lines : Lists → ℕ → Msg → List ℕ
  pub after : Lists → Msg → Lists
  pub rest : ℕ → List ℕ
  pub fault : ℕ → WireFault → List ℕ

-- the lines of messages, the first of which begins at an offset of the file
abbrev pub messages_text : Telling → Lists → ℕ → List Msg → List ℕ
messages_text telling lists at [] = []
messages_text telling lists at (m ∷ ms) =
    telling.lines lists at m
    ++ messages_text telling (telling.after lists m) (at + length (message_octets m)) ms

-- what is gathered behind messages
abbrev pub lists_behind : Telling → Lists → List Msg → Lists
lists_behind telling lists [] = lists
lists_behind telling lists (m ∷ ms) = lists_behind telling (telling.after lists m) ms

-- nothing is gathered
abbrev pub no_lists : Lists
no_lists = finite.empty

-- the last line: the fault, or how many octets are left
abbrev pub end_line : Telling → ℕ → List ℕ → Option WireFault → List ℕ
end_line telling at rest (Some e) = telling.fault at e
end_line telling at rest None = telling.rest (length rest)

-- the text of a file that is these messages and a rest
abbrev pub dump_text : Telling → ℕ → List Msg → List ℕ → List ℕ
dump_text telling limit messages rest =
    messages_text telling no_lists 0 messages
    ++ ended (end_line telling (length (flat_map message_octets messages)) rest
    (rest_fault limit rest))

-- the octets are these messages and a rest, and the writer's contents grew by their text
pub record Prints (telling : Telling) (limit : ℕ) (octets : List ℕ) (old new : Option (List ℕ))
    (messages : List Msg) (rest : List ℕ) : Type 0 where
  pub split : Msgs limit octets messages rest
  pub text : Appends old new (dump_text telling limit messages rest)

-- the status where octets are left: that of the fault in the header that begins them, if there is
-- one
abbrev pub left_status : Option WireFault → Status
left_status (Some e) = header_status e.kind
left_status None = Refused

-- octets are left behind the messages, and the status says why
abbrev pub Leaves : Telling → ℕ → List ℕ → Option (List ℕ) → Option (List ℕ) → Status → Type 0
Leaves telling limit octets old new status =
    (messages : List Msg) × (rest : List ℕ) × Prints telling limit octets old new messages rest
    × (rest ≢ []) × (status ≡ left_status (rest_fault limit rest))

-- what a dump of these octets does to the writer's contents, by the status that it answers: it is
-- done exactly where the octets are messages and nothing else
abbrev pub Dumps : Telling → ℕ → List ℕ → Option (List ℕ) → Option (List ℕ) → Status → Type 0
Dumps telling limit octets old new Done =
    (messages : List Msg) × Prints telling limit octets old new messages []
Dumps telling limit octets old new Refused = Leaves telling limit octets old new Refused
Dumps telling limit octets old new (LimitPassed passed) =
    Leaves telling limit octets old new (LimitPassed passed)
Dumps telling limit octets old new Usage = ⊥
Dumps telling limit octets old new InputOutput = ⊤
Dumps telling limit octets old new Memory = ⊤

-- what a dump does of the octets that a reader gives, where they are known
abbrev pub DumpsKnown : Telling → ℕ → Option (List ℕ) → Option (List ℕ) → Option (List ℕ) → Status
    → Type 0
DumpsKnown telling limit None old new status = ⊤
DumpsKnown telling limit (Some octets) old new status = Dumps telling limit octets old new status
