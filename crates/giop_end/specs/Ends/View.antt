-- What runs see of an end, and what stays of an end that changes so.
use Rattle.std.specs.Prelude.{◌≡◌, ℕ, List, Option, Result}
use Rattle.giop_end.specs.declared.end.End.{End}
use Rattle.giop_table.specs.CallTable.{Held}
use Rattle.giop_msg.specs.declared.msg.Msg.{Msg}
use Rattle.giop_end.specs.declared.pump_fault.PumpFault.{PumpFault}
use Rattle.giop_end.specs.declared.session_fault.SessionFault.{SessionFault}
use Rattle.giop_end.specs.Pumping.{Between, Pumped, Turned, between}
use Rattle.giop_end.specs.Ends.Begun.{EndState, end_state}

module _ {R E V A F : Type 0} where
  -- the octets that are unread, the calls, the octets that are outgoing, and the fault
  abbrev pub state_of : End R E V A F → EndState (Held R E)
  state_of e = end_state e.framer e.calls e.outgoing e.fault

  -- so it stands between a reader and a writer of these octets
  abbrev pub end_between : (input output : Option (List ℕ)) → End R E V A F → Between (Held R E)
  end_between input output e = between input output e.outgoing e.framer e.calls e.fault

  -- and so a turn goes, from one reader, writer and end to what they are then
  abbrev pub TurnedAt : (Msg → Held R E → Result (Unit {0}) SessionFault → Held R E → Type 0)
      → (input output : Option (List ℕ)) → End R E V A F → Result ℕ PumpFault
      → (input' output' : Option (List ℕ)) → End R E V A F → Type 0
  TurnedAt hears input output e result input' output' e' =
      Turned hears (end_between input output e) result (end_between input' output' e')

  -- and a pump of so many turns at most
  abbrev pub PumpedAt : (Msg → Held R E → Result (Unit {0}) SessionFault → Held R E → Type 0)
      → ℕ → (input output : Option (List ℕ)) → End R E V A F → Result (Unit {0}) PumpFault
      → (input' output' : Option (List ℕ)) → End R E V A F → Type 0
  PumpedAt hears turns input output e result input' output' e' =
      Pumped hears turns (end_between input output e) result (end_between input' output' e')

  -- an act of its own program changes its calls and what is outgoing, and all else stays
  abbrev pub IsActedOn : (old new : End R E V A F) → Type 0
  IsActedOn old new = new ≡ record old { calls = new.calls; outgoing = new.outgoing }

  -- feeding changes what is unread, the calls and the fault, and all else stays
  abbrev pub IsFedOnly : (old new : End R E V A F) → Type 0
  IsFedOnly old new =
      new ≡ record old { framer = new.framer; calls = new.calls; fault = new.fault }

  -- a turn changes all four, and all else stays
  abbrev pub IsTurned : (old new : End R E V A F) → Type 0
  IsTurned old new = new ≡ record old {
    outgoing = new.outgoing;
    framer = new.framer;
    calls = new.calls;
    fault = new.fault;
  }

  -- so does an input
  abbrev pub IsDriven : (old new : End R E V A F) → Type 0
  IsDriven old new = new ≡ record old {
    framer = new.framer;
    calls = new.calls;
    outgoing = new.outgoing;
    fault = new.fault;
  }
