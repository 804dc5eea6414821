-- What a message does at an end: it ends the session, or it is an act on the call of one id.
use Rattle.std.specs.Prelude.{◌≡◌, ◌⊎◌, ℕ, Bool, List, drop, Option, Some, None, Result, Ok, Err}
use Rattle.giop_cdr.specs.declared.fault.CdrFault.{CdrFault}
use Rattle.giop_types.specs.declared.interfaces.interface.Interface.{Interface}
use Rattle.giop_ids.specs.Runs.{Does, Rules}
use Rattle.giop_msg.specs.declared.kind.Kind.{Kind}
use Rattle.giop_msg.specs.declared.kind.Kind.TheVariants as message
use Rattle.giop_msg.specs.declared.msg.Msg.{Msg}
use Rattle.giop_msg.specs.RequestId.{request_id_of}
use Rattle.giop_mux.specs.declared.step.Step.{Step}
use Rattle.giop_calls.specs.declared.fault.CallFault.{CallFault}
use Rattle.giop_table.specs.declared.plan.Planned.{Planned}
use Rattle.giop_table.specs.declared.plan.Plan.TheVariants.{Leave}
use Rattle.giop_end.specs.declared.session_fault.SessionFault.{SessionFault}
use Rattle.giop_end.specs.declared.session_fault.SessionFault.TheVariants.{Closed, NoId, NoMemory, PeerError, WrongDirection, Call as InCall}
use Rattle.giop_table.specs.declared.table_fault.TableFault.{TableFault}
use Rattle.giop_table.specs.CallTable.{Act, Call, Held, IsTaken, Reply, RuleOf, Turned, at, event_reply, rules_by, rules_of, turn}
use Rattle.giop_table.specs.Sending.{Sends}
use Rattle.giop_end.specs.Ends.SessionFaults.{of_table}

-- what a message does
pub data Heard (V : Type 0) : Type 0 where
  Breaks : SessionFault → Heard V
  ActsOn : ℕ → Act V → Heard V

-- what a message of a kind is to a side: it ends the session for this, or it is this act on the
-- call that it names
abbrev pub Effect : (E V : Type 0) → Type 0
Effect E V = Result (Interface → Msg → Call E → Act V) SessionFault

-- why a message of a kind ends the session that isn't for the calls of a side
abbrev pub ending_of : Kind → SessionFault
ending_of message.CloseConnection = Closed
ending_of message.MessageError = PeerError
ending_of _ = WrongDirection

-- why it ends the session, if it does
abbrev pub breaks_of : {E V : Type 0} → Effect E V → Option SessionFault
breaks_of (Ok act) = None
breaks_of (Err why) = Some why

-- the act that it is; one that ends the session is none, and of it this is never asked
abbrev pub effect_act : {E V : Type 0} → Effect E V → Interface → Msg → Call E → Act V
effect_act (Ok act) = act
effect_act (Err why) = λ interface m call. IsTaken

-- what an end returns for what the table of calls answered
abbrev pub result_of : {A F : Type 0} → (F → SessionFault)
    → Result A (TableFault F) → Result (Unit {0}) SessionFault
result_of of_rule (Ok answer) = Ok tt
result_of of_rule (Err why) = Err (of_table of_rule why)

module _ {R E V A F : Type 0} (rules : Rules (Held R E) (Call E) (Act V) (Reply E A) (TableFault F))
    (of_rule : ℕ → F → SessionFault) where
  -- a message that does this is heard, and leaves these calls: it breaks the session and changes
  -- none, or it is this act on its call
  abbrev pub IsHeardAs : Heard V → Held R E → Result (Unit {0}) SessionFault → Held R E → Type 0
  IsHeardAs (Breaks why) h result k = (result ≡ Err why) × (k ≡ h)
  IsHeardAs (ActsOn id act) h result k =
      (answered : Result (Sends A) (TableFault F))
      × Does rules h (record { id = id; what = act }) (event_reply answered) k
      × (result ≡ result_of (of_rule id) answered)

  -- or it was out of memory to find out what it does
  abbrev pub IsHeard : Heard V → Held R E → Result (Unit {0}) SessionFault → Held R E → Type 0
  IsHeard heard h result k =
      ((result ≡ Err NoMemory) × (k ≡ h)) ⊎ IsHeardAs heard h result k

-- the octets of a Fragment behind its request id, which is its first four (9.4.9)
abbrev pub behind_id : Msg → List ℕ
behind_id m = drop 4 m.payload

-- an event that sends nothing: the messages of its call stay unsent
abbrev pub silently : {V : Type 0} → V → Planned V
silently event = record { event = event; plan = Leave }

-- what is answered to an event that sends nothing
abbrev pub silent : Sends (Unit {0})
silent = record { answer = tt; message = None }

-- the fault of an end whose rule refuses an act on a call
abbrev pub in_call : ℕ → CallFault → SessionFault
in_call id fault = InCall id fault

-- an end by this rule hears a message that does this, and leaves these calls
abbrev pub IsHeardBy : {R E V A : Type 0} → RuleOf R E V A CallFault → Heard V → Held R E
    → Result (Unit {0}) SessionFault → Held R E → Type 0
IsHeardBy of heard h = IsHeard (rules_by of h.rule) in_call heard h

-- the id that a message names, or why it names none
abbrev pub id_named : Option (Result ℕ CdrFault) → Result ℕ SessionFault
id_named (Some (Ok id)) = Ok id
id_named (Some (Err fault)) = Err (NoId fault)
id_named None = Err WrongDirection

-- an act on the call that a message names
abbrev pub act_on_named : {V : Type 0} → Result ℕ SessionFault → (ℕ → Act V) → Heard V
act_on_named (Ok id) act = ActsOn id (act id)
act_on_named (Err why) act = Breaks why

abbrev pub named : {V : Type 0} → Option (Result ℕ CdrFault) → (ℕ → Act V) → Heard V
named name act = act_on_named (id_named name) act

-- a message ends the session, where something says why, or acts on the call that it names
abbrev pub heard_by : {V : Type 0} → Option SessionFault → Option (Result ℕ CdrFault)
    → (ℕ → Act V) → Heard V
heard_by (Some why) name act = Breaks why
heard_by None name act = named name act

-- a side of a connection says which messages end the session, and what act any other is on a call;
-- what that does depends on this call alone
abbrev pub heard_of : {R E V : Type 0} → (Msg → Option SessionFault) → (Msg → Call E → Act V)
    → Held R E → Msg → Heard V
heard_of breaks act_by h m =
    heard_by (breaks m) (request_id_of m) (λ id. act_by m (at h id))

-- an end hears a message
abbrev pub hears_by : {R E V A F : Type 0} → (R → Option E → V → Step E A F) → (R → E → Bool)
    → (E → Bool) → (ℕ → F → SessionFault) → (Msg → Option SessionFault) → (Msg → Call E → Act V)
    → Msg → Held R E → Result (Unit {0}) SessionFault → Held R E → Type 0
hears_by next closed gathering of_rule breaks act_by m h =
    IsHeard (rules_of (next h.rule) (closed h.rule) gathering) of_rule
    (heard_of breaks act_by h m) h

-- a side of a connection: the rule of its calls, of which some gather pieces; what an end returns
-- where that refuses; and what a message of the other side is to it
pub record SideOf (R E V A F : Type 0) : Type 0 where
  pub next : R → Option E → V → Step E A F
  pub closed : R → E → Bool
  pub gathering : E → Bool
  pub of_rule : ℕ → F → SessionFault
  pub breaks : Msg → Option SessionFault
  pub act_by : Msg → Call E → Act V

-- what the trait of a side says of it, as `R.Hearing`
abbrev pub HearingOf : (R E V A F : Type 0) → Type 0
HearingOf R E V A F = record {
  next : R → Option E → V → Step E A F;
  closed : R → E → Bool;
  gathering : E → Bool;
  breaks : Msg → Option SessionFault;
  act_by : Interface → Msg → Call E → Act V;
  in_call : ℕ → F → SessionFault;
}

-- from its parts
abbrev pub side_by : {R E V A F : Type 0} → (R → Option E → V → Step E A F) → (R → E → Bool)
    → (E → Bool) → (ℕ → F → SessionFault) → (Msg → Option SessionFault) → (Msg → Call E → Act V)
    → SideOf R E V A F
side_by next closed gathering of_rule breaks act_by = record {
  next = next;
  closed = closed;
  gathering = gathering;
  of_rule = of_rule;
  breaks = breaks;
  act_by = act_by;
}

-- the side that a trait says, over the values of an interface
abbrev pub side_of : {R E V A F : Type 0} → HearingOf R E V A F → Interface → SideOf R E V A F
side_of of interface =
    side_by of.next of.closed of.gathering of.in_call of.breaks (of.act_by interface)

module _ {R E V A F : Type 0} (side : SideOf R E V A F) where
  -- what an act does to one of its calls
  abbrev pub turn_at : R → Call E → Act V → Turned E A F
  turn_at rule = turn (side.next rule) (side.closed rule) side.gathering

  -- how its calls are kept by id
  abbrev pub rules_at : R → Rules (Held R E) (Call E) (Act V) (Reply E A) (TableFault F)
  rules_at rule = rules_of (side.next rule) (side.closed rule) side.gathering

  -- its end hears a message
  abbrev pub hears : Msg → Held R E → Result (Unit {0}) SessionFault → Held R E → Type 0
  hears = hears_by side.next side.closed side.gathering side.of_rule side.breaks side.act_by

-- the end of a side that a trait says hears a message
abbrev pub hears_in : {R E V A F : Type 0} → HearingOf R E V A F → Interface → Msg → Held R E
    → Result (Unit {0}) SessionFault → Held R E → Type 0
hears_in of interface = hears (side_of of interface)
