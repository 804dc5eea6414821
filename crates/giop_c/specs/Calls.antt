-- What each call of a framer does, by the status that it answers.
use Rattle.std.specs.Prelude.{◌≡◌, ℕ, ◌<◌, ◌≤◌, ◌⊎◌, List, [], ◌++◌, Option, Some, None, Result, Ok, Err, drop, length}
use Rattle.giop_msg.specs.declared.fault.WireFault.{WireFault}
use Rattle.giop_msg.specs.declared.fault.WireKind.{WireKind}
use Rattle.giop_msg.specs.declared.fault.WireKind.TheVariants.{NoMemory}
use Rattle.giop_msg.specs.declared.msg.Msg.{Msg}
use Rattle.giop_msg.specs.Stream.{IsRefusal, TakesMessage, Waits}
use Rattle.giop_c.specs.declared.reader.Reader.{Reader}
use Rattle.giop_c.specs.declared.records.Fault.{Fault}
use Rattle.giop_c.specs.declared.records.Message.{Message}
use Rattle.giop_c.specs.Records.{c_fault, c_message}

-- the statuses
abbrev pub ok : ℕ
ok = 0

abbrev pub closed : ℕ
closed = 1

abbrev pub no_memory : ℕ
no_memory = 2

abbrev pub waits : ℕ
waits = 3

abbrev pub fault : ℕ
fault = 4

abbrev pub small : ℕ
small = 5

-- a call at a handle: where it holds nothing it stays so, the answer is closed, and what the call
-- would write is kept; else it holds what the call makes of what it held
abbrev pub At : {T : Type 0} → Option T → Option T → ℕ → Type 0 → (T → T → Type 0) → Type 0
At None None status kept does = (status ≡ closed) × kept
At None (Some _) _ _ _ = ⊥
At (Some _) None _ _ _ = ⊥
At (Some old) (Some new) _ _ does = does old new

-- a handle is opened with this limit, whatever it held; or memory ran out, and it is as it was
abbrev pub Opens : ℕ → Option Reader → Option Reader → ℕ → Type 0
Opens limit old new status =
    ((status ≡ ok)
    × (new ≡ Some (record { framer = record { limit = limit; octets = [] }; message = None })))
    ⊎ ((status ≡ no_memory) × (new ≡ old))

-- octets are appended to those that are unread; or memory ran out, and nothing has changed
abbrev pub Feeds : List ℕ → Reader → Reader → ℕ → Type 0
Feeds octets old new status =
    ((status ≡ ok)
    × (new ≡ record old { framer = record old.framer { octets = old.framer.octets ++ octets } }))
    ⊎ ((status ≡ no_memory) × (new ≡ old))

-- the status of a refusal: memory ran out, or the octets are refused
abbrev pub refusal : WireKind → ℕ
refusal NoMemory = no_memory
refusal _ = fault

-- the message before is gone, and the framer answers: the first message of the unread octets is
-- taken and its header written; or there is none yet; or it is refused, and the fault written
abbrev pub Answers : Reader → Result (Option Msg) WireFault → Reader → Message → Message
    → Fault → Fault → ℕ → Type 0
Answers old (Ok (Some g)) new m m' f f' status =
    (status ≡ ok) × (new.message ≡ Some g) × TakesMessage old.framer g new.framer
    × (m' ≡ c_message g) × (f' ≡ f)
Answers old (Ok None) new m m' f f' status =
    (status ≡ waits) × Waits old.framer × (new ≡ record { framer = old.framer; message = None })
    × (m' ≡ m) × (f' ≡ f)
Answers old (Err e) new m m' f f' status =
    (status ≡ refusal e.kind) × IsRefusal old.framer e
    × (new ≡ record { framer = old.framer; message = None }) × (m' ≡ m) × (f' ≡ c_fault e)

-- one of these is answered: which one follows from the unread octets, but for memory that ran out
-- where a whole message stands at their front
abbrev pub Takes : Reader → Reader → Message → Message → Fault → Fault → ℕ → Type 0
Takes old new m m' f f' status =
    (answer : Result (Option Msg) WireFault) × Answers old answer new m m' f f' status

-- the payload of the message that was taken last is copied to the front of a buffer that has room,
-- and its size told in any case
abbrev pub Copies : Option Msg → List ℕ → List ℕ → ℕ → ℕ → ℕ → Type 0
Copies None buffer buffer' size size' status =
    (status ≡ waits) × (buffer' ≡ buffer) × (size' ≡ size)
Copies (Some m) buffer buffer' size size' status =
    (size' ≡ length m.payload)
    × (((status ≡ ok) × (length m.payload ≤ length buffer)
    × (buffer' ≡ m.payload ++ drop (length m.payload) buffer))
    ⊎ ((status ≡ small) × (length buffer < length m.payload) × (buffer' ≡ buffer)))
