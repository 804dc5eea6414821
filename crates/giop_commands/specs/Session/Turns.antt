-- What the sessions of `call` and `serve` do between a reader and a writer, turn after turn, as far
-- as their octets are known (CORBA 3.3 Part 2, 9.4).
use Rattle.std.specs.Prelude.{◌≡◌, ◌≢◌, ◌⊎◌, ℕ, ◌<◌, Bool, true, false, List, [], length, Option, Some, None, Result, Ok, Err}
use Rattle.std.specs.IoError.{error_kind}
use Rattle.std.specs.declared.io.Error.{Error}
use Rattle.std.specs.declared.io.ErrorKind.TheVariants.{OutOfMemory}
use Rattle.std.specs.Io.KnownBytes.{Appends}
use Rattle.giop_msg.specs.declared.msg.Msg.{Msg}
use Rattle.giop_end.specs.declared.end.End.{End}
use Rattle.giop_end.specs.declared.pump_fault.PumpFault.TheVariants as turn
use Rattle.giop_end.specs.declared.session_fault.SessionFault.{SessionFault}
use Rattle.giop_end.specs.declared.session_fault.SessionFault.TheVariants.{NoMemory}
use Rattle.giop_table.specs.CallTable.{Held}
use Rattle.giop_end.specs.Ends.View.{end_between}
use Rattle.giop_end.specs.Pumping.{Between, Turned, Writes}
use Rattle.giop_end.specs.Ends.SessionFaults.{error_message_of}
use Rattle.giop_show.specs.declared.failure.Failure.{Failure}
use Rattle.giop_show.specs.declared.failure.Failure.TheVariants.{Memory, Connection, TurnsSpent}
use Rattle.giop_commands.specs.Session.Steps.{Each}

-- a session has so many turns at most
abbrev pub most_turns : ℕ
most_turns = 18446744073709551615

-- an error of a connection is reported so: being out of memory as that
pub record IsConnectionFailure (error : Error) (failure : Failure) : Type 0 where
  pub memory : error_kind error ≡ OutOfMemory → failure ≡ Memory
  pub other : error_kind error ≢ OutOfMemory → failure ≡ Connection error

-- a failure is of an error of a connection
abbrev pub IsOfConnection : Failure → Type 0
IsOfConnection failure = (error : Error) × IsConnectionFailure error failure

-- a fault that isn't want of memory was met, and the peer of an end at which this fault stands is
-- due a MessageError, which can't be sent
abbrev pub CannotBeSent : SessionFault → Option SessionFault → Failure → Type 0
CannotBeSent why fault failure =
    (why ≢ NoMemory) × (error_message_of fault ≢ None) × IsOfConnection failure

-- the MessageError (9.4.8) that a peer is sent after the fault that stands, if it is sent one
abbrev pub message_octets : Option (List ℕ) → List ℕ
message_octets None = []
message_octets (Some octets) = octets

abbrev pub peer_octets : Option SessionFault → List ℕ
peer_octets fault = message_octets (error_message_of fault)

-- the same end, of which the writer holds something else
abbrev pub with_output : {S : Type 0} → Between S → Option (List ℕ) → Between S
with_output s output = record s { output = output }

-- all that is outgoing is written, and nothing is read
pub record WritesOut {S : Type 0} (s t : Between S) : Type 0 where
  pub writes : Writes s.output t.output s.outgoing []
  pub others : t ≡ record s { output = t.output; outgoing = [] }

module _ {S : Type 0} (Hears : Msg → S → Result (Unit {0}) SessionFault → S → Type 0) where
  -- a turn meets a fault, not being out of memory, and the peer is sent a MessageError where one is
  -- due
  pub record Breaks (s t : Between S) : Type 0 where
    pub why : SessionFault
    pub some : why ≢ NoMemory
    pub mid : Between S
    pub turned : Turned Hears s (Err (turn.Session why)) mid
    pub tells : Appends mid.output t.output (peer_octets mid.state.fault)
    pub others : t ≡ with_output mid t.output

  -- a turn meets such a fault, but the MessageError that is due can't be sent
  pub record CannotTell (s t : Between S) : Type 0 where
    pub why : SessionFault
    pub some : why ≢ NoMemory
    pub mid : Between S
    pub turned : Turned Hears s (Err (turn.Session why)) mid
    pub due : error_message_of mid.state.fault ≢ None
    pub others : t ≡ with_output mid t.output

  -- a turn fails for an error of the reader or of the writer
  abbrev pub FailsBy : Error → Between S → Between S → Type 0
  FailsBy error s t =
      Turned Hears s (Err (turn.Read error)) t
      ⊎ (Turned Hears s (Err (turn.Write error)) t ⊎ CannotTell s t)

  -- a turn, and whether the session continues: it does behind a turn that read octets, and heard
  -- them; the end of the input ends it, and so does a fault. It fails where it is out of memory, or
  -- by an error of the connection
  abbrev pub GoesOn : Between S → Result Bool Failure → Between S → Type 0
  GoesOn s (Ok true) t = (n : ℕ) × (0 < n) × Turned Hears s (Ok n) t
  GoesOn s (Ok false) t = Turned Hears s (Ok 0) t ⊎ Breaks s t
  GoesOn s (Err failure) t =
      ((failure ≡ Memory) × Turned Hears s (Err (turn.Session NoMemory)) t)
      ⊎ ((error : Error) × IsConnectionFailure error failure × FailsBy error s t)

  -- the turns of a client, which continue until its calls are over: so many, behind each of which
  -- the session continues and some calls are not over
  module _ (are_over : S → Bool) where
    abbrev pub WaitsOn : ℕ → Between S → Between S → Type 0
    WaitsOn number s t = GoesOn s (Ok true) t × (are_over t.state.calls ≡ false)

    -- how they end behind so many: by a turn that ends the session, or behind which all calls are
    -- over; by a turn that fails; or when all turns are taken
    abbrev pub WaitEnds : ℕ → Between S → Result (Unit {0}) Failure → Between S → Type 0
    WaitEnds turns s (Ok done) t =
        (turns < most_turns)
        × (GoesOn s (Ok false) t ⊎ (GoesOn s (Ok true) t × (are_over t.state.calls ≡ true)))
    WaitEnds turns s (Err failure) t =
        ((turns < most_turns) × GoesOn s (Err failure) t)
        ⊎ ((failure ≡ TurnsSpent) × (turns ≡ most_turns) × (t ≡ s))

    pub record Waits (s : Between S) (result : Result (Unit {0}) Failure) (t : Between S)
        : Type 0 where
      pub turns : List ℕ
      pub mid : Between S
      pub each : Each WaitsOn turns s mid
      pub ends : WaitEnds (length turns) mid result t

-- ---- of an end between a reader and a writer of these octets

module _ {R E V A F : Type 0}
    (Hears : Msg → Held R E → Result (Unit {0}) SessionFault → Held R E → Type 0) where
  -- a turn, and whether the session continues
  abbrev pub GoesOnAt : (input output : Option (List ℕ)) → End R E V A F → Result Bool Failure
      → (input' output' : Option (List ℕ)) → End R E V A F → Type 0
  GoesOnAt input output e result input' output' e' =
      GoesOn Hears (end_between input output e) result (end_between input' output' e')

  -- the turns of a client, which continue until its calls are over
  abbrev pub WaitsAt : (Held R E → Bool) → (input output : Option (List ℕ)) → End R E V A F
      → Result (Unit {0}) Failure → (input' output' : Option (List ℕ)) → End R E V A F → Type 0
  WaitsAt are_over input output e result input' output' e' =
      Waits Hears are_over (end_between input output e) result (end_between input' output' e')
