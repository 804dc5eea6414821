-- An end between a reader and a writer: what a turn does, and a pump, which takes turns; as far as
-- the octets of reader and writer are known.
use Rattle.std.specs.Prelude.{◌≡◌, ◌≢◌, ℕ, ◌<◌, ◌≤◌, List, [], ◌∷◌, ◌++◌, length, All, Option, Some, None, Result, Ok, Err}
use Rattle.std.specs.List.{concat}
use Rattle.std.specs.Io.KnownBytes.{Appends, Consumes, IsAtEnd, Keeps}
use Rattle.giop_msg.specs.declared.msg.Msg.{Msg}
use Rattle.giop_msg.specs.Stream.{Unread}
use Rattle.giop_end.specs.declared.pump_fault.PumpFault.{PumpFault}
use Rattle.giop_end.specs.declared.pump_fault.PumpFault.TheVariants.{Read, Write, Session, TurnsSpent}
use Rattle.giop_end.specs.declared.session_fault.SessionFault.{SessionFault}
use Rattle.giop_end.specs.declared.session_fault.SessionFault.TheVariants.{NoMemory}
use Rattle.giop_end.specs.Hearing.Feeding.{Fed, standing, with_octets}

-- the number of a fault
abbrev pub pump_fault_number : PumpFault → ℕ
pump_fault_number (Read error) = 1
pump_fault_number (Write error) = 2
pump_fault_number (Session why) = 3
pump_fault_number TurnsSpent = 4

-- octets of what was outgoing were written, from its front; the others are outgoing still
pub record Writes (before after : Option (List ℕ)) (out out' : List ℕ) : Type 0 where
  pub written : List ℕ
  pub front : out ≡ written ++ out'
  pub given : Appends before after written

-- what feeding changes of an end: the octets that are unread, its calls, and the fault that stands
pub record State (S : Type 0) : Type 0 where
  pub unread : Unread
  pub calls : S
  pub fault : Option SessionFault

-- an end between a reader and a writer: the octets that the reader will still give, and those that
-- the writer holds, where they are known; the octets that are outgoing, and the end's state
pub record Between (S : Type 0) : Type 0 where
  pub input : Option (List ℕ)
  pub output : Option (List ℕ)
  pub outgoing : List ℕ
  pub state : State S

-- an end between a reader and a writer, from its parts
abbrev pub between : {S : Type 0} → Option (List ℕ) → Option (List ℕ) → List ℕ → Unread → S
    → Option SessionFault → Between S
between input output outgoing unread calls fault = record {
  input = input;
  output = output;
  outgoing = outgoing;
  state = record { unread = unread; calls = calls; fault = fault };
}

-- one read gives so many octets at most
abbrev pub one_read : ℕ
one_read = 4096

-- what a read gives before the end of the input: some octets
abbrev pub IsSomeRead : List ℕ → Type 0
IsSomeRead octets = (0 < length octets) × (length octets ≤ one_read)

module _ {S : Type 0} (Hears : Msg → S → Result (Unit {0}) SessionFault → S → Type 0) where
  -- an end is fed with octets, and answers this
  pub record Feeds (s : State S) (octets : List ℕ) (result : Result (Unit {0}) SessionFault)
      (t : State S) : Type 0 where
    pub failed : (why : SessionFault) → s.fault ≡ Some why → (result ≡ Err why) × (t ≡ s)
    pub fed : s.fault ≡ None
        → Fed Hears (with_octets s.unread octets) s.calls result t.unread t.calls
    pub stands : s.fault ≡ None → t.fault ≡ standing result

  -- octets are fed and then more, or both in one read, and the end is never out of memory: where
  -- the first are not refused, it makes no difference
  abbrev pub AreOneRead : (s mid t u : State S) → (octets more : List ℕ)
      → (second both : Result (Unit {0}) SessionFault) → Type 0
  AreOneRead s mid t u octets more second both = second ≢ Err NoMemory → both ≢ Err NoMemory
      → Feeds s octets (Ok tt) mid → Feeds mid more second t → Feeds s (octets ++ more) both u
      → (both ≡ second) × (u ≡ t)

  -- and where they are refused, the failed end stays, and keeps none of the further octets
  abbrev pub StaysRefused : (s mid t u : State S) → (octets more : List ℕ) → SessionFault
      → (second both : Result (Unit {0}) SessionFault) → Type 0
  StaysRefused s mid t u octets more why second both =
      s.fault ≡ None → why ≢ NoMemory → both ≢ Err NoMemory
      → Feeds s octets (Err why) mid → Feeds mid more second t → Feeds s (octets ++ more) both u
      → (second ≡ Err why) × (t ≡ mid) × (both ≡ Err why)
      × (u ≡ record mid { unread = with_octets mid.unread more })

  -- one read gives these octets, none only at the end of the input, and the end is fed with them
  pub record ReadsAndFeeds (s : Between S) (octets : List ℕ)
      (result : Result (Unit {0}) SessionFault) (t : Between S) : Type 0 where
    pub within : length octets ≤ one_read
    pub read : Consumes s.input t.input octets
    pub last : length octets ≡ 0 → IsAtEnd t.input
    pub fed : Feeds s.state octets result t.state

  -- how a turn ends behind its writing. A read follows only where nothing is outgoing any more
  abbrev pub TurnEnds : Between S → Result ℕ PumpFault → Between S → Type 0
  TurnEnds s (Ok n) t = (octets : List ℕ) × (n ≡ length octets)
      × ReadsAndFeeds s octets (Ok tt) t × (t.outgoing ≡ [])
  TurnEnds s (Err (Session why)) t = (octets : List ℕ)
      × ReadsAndFeeds s octets (Err why) t × (t.outgoing ≡ [])
  TurnEnds s (Err (Read error)) t =
      Keeps s.input t.input × (t.state ≡ s.state) × (t.outgoing ≡ [])
  TurnEnds s (Err (Write error)) t =
      (t.input ≡ s.input) × (t.state ≡ s.state) × (t.outgoing ≢ [])
  TurnEnds s (Err TurnsSpent) t = ⊥

  -- a turn, by its answer
  pub record Turned (s : Between S) (result : Result ℕ PumpFault) (t : Between S) : Type 0 where
    pub writes : Writes s.output t.output s.outgoing t.outgoing
    pub ends : TurnEnds s result t

  -- an end is fed with these reads, one after another, and refuses none
  abbrev pub AllFed : State S → List (List ℕ) → State S → Type 0
  AllFed s [] t = t ≡ s
  AllFed s (octets ∷ reads) t = (mid : State S) × Feeds s octets (Ok tt) mid × AllFed mid reads t

  -- turns, of which each read some octets: these were their reads
  pub record TakesTurns (s : Between S) (reads : List (List ℕ)) (t : Between S) : Type 0 where
    pub each : All IsSomeRead reads
    pub taken : Consumes s.input t.input (concat reads)
    pub fed : AllFed s.state reads t.state
    pub writes : Writes s.output t.output s.outgoing t.outgoing

  -- how a pump of at most so many turns ends, of which so many read some octets: by a turn that
  -- reads none or fails, or when the turns are spent
  abbrev pub PumpEnds : ℕ → ℕ → Between S → Result (Unit {0}) PumpFault → Between S → Type 0
  PumpEnds turns done s (Ok u) t = (done < turns) × Turned s (Ok 0) t
  PumpEnds turns done s (Err TurnsSpent) t = (done ≡ turns) × (t ≡ s)
  PumpEnds turns done s (Err why) t = (done < turns) × Turned s (Err why) t

  -- a pump of at most so many turns, by its answer
  pub record Pumped (turns : ℕ) (s : Between S) (result : Result (Unit {0}) PumpFault)
      (t : Between S) : Type 0 where
    pub reads : List (List ℕ)
    pub mid : Between S
    pub takes : TakesTurns s reads mid
    pub ends : PumpEnds turns (length reads) mid result t
