-- As which acts a run takes what a server's end is given, whatever its calls are then.
use Rattle.std.proofs.Common.{◌≡◌, ℕ, Bool, List, [], ◌∷◌, ◌++◌, true, Option, Some, None, ap}
use Rattle.giop_cdr.specs.declared.order.Order.{Order}
use Rattle.giop_types.specs.declared.interfaces.interface.Interface.{Interface}
use Rattle.giop_msg.specs.Stream.{Unread}
use Rattle.giop_msg.specs.declared.version.Version.{Version}
use Rattle.giop_mux.specs.Runs.{Hears, IsTaken}
use Rattle.giop_calls.specs.declared.server.entry.ServerEntry.{ServerEntry}
use Rattle.giop_calls.specs.declared.server.event.ServerEvent.{ServerEvent}
use Rattle.giop_calls.specs.declared.server.event.ServerEvent.TheVariants as event
use Rattle.giop_calls.specs.declared.server.rule.ServerRule.{ServerRule}
use Rattle.giop_session.specs.declared.laws.inputs.Answered.{Answered}
use Rattle.giop_session.specs.declared.laws.inputs.ServerInput.{ServerInput}
use Rattle.giop_session.specs.declared.laws.inputs.ServerInput.TheVariants as input
use Rattle.giop_session.specs.declared.Limits.{Limits}
use Rattle.giop_session.specs.declared.Planned.{Planned}
use Rattle.giop_session.specs.Calls.CallTable.{Held, entry_at}
use Rattle.giop_session.specs.Items.Carries.{done_by}
use Rattle.giop_session.specs.Runs.Driven.{IsAct, TakesAs}
use Rattle.giop_session.specs.Runs.Events.{Local}
use Rattle.giop_session.specs.Runs.Inputs.{Does, Input, Reads}
use Rattle.giop_session.specs.Acts.ServerAnswers.{IsLocateAnswer, locate_of}
use Rattle.giop_session.specs.Hearing.ServerHears.{server_side}
use Rattle.giop_session.specs.Runs.ServerRuns.{server_deed}
use Rattle.laws_in_use.specs.Locating.{one_way_by}
use Rattle.laws_in_use.specs.Runs.{server_given}

-- an input is this act, by its event
abbrev pub IsActed : ServerInput → Input ServerEvent → Type 0
IsActed (input.Feed octets) act = act ≡ Reads octets
IsActed (input.AnswerLocate id here order) act =
    (planned : Planned ServerEvent) × (planned.event ≡ event.AnswerLocate here) × (act ≡ Does id (Hears planned))
IsActed (input.Take id) act = act ≡ Does id IsTaken
IsActed given act = Unit {0}

-- inputs are these acts
abbrev pub AreActed : List ServerInput → List (Input ServerEvent) → Type 0
AreActed [] acts = acts ≡ []
AreActed (given ∷ inputs) acts =
    (act : Input ServerEvent) × (rest : List (Input ServerEvent)) × (acts ≡ act ∷ rest) × IsActed given act × AreActed inputs rest

event_is : (id : ℕ) (here : Bool) (order : Order) (version : Option Version) (planned : Planned ServerEvent)
    → IsLocateAnswer id here order version planned → planned.event ≡ event.AnswerLocate here
event_is id here order None planned is = ap (λ (p : Planned ServerEvent). p.event) is
event_is id here order (Some version) planned (small, is) = ap (λ (p : Planned ServerEvent). p.event) is

module _ (interface : Interface) (limits : Limits) where
  is_acted : (h : Held ServerRule ServerEntry) (given : ServerInput) (act : Input ServerEvent) → IsAct (server_deed interface limits h given) act
      → IsActed given act
  is_acted h (input.Feed octets) act is = is
  is_acted h (input.AnswerLocate id here order) act is =
      (is.0, event_is id here order (locate_of here (entry_at h id)) is.0 is.1, is.2)
  is_acted h (input.Take id) act is = is
  is_acted h (input.Answer reply form) act is = tt
  is_acted h (input.Send id) act is = tt
  is_acted h input.Close act is = tt

  pub are_acted : (unread left : Unread) (h k : Held ServerRule ServerEntry) (inputs : List ServerInput) (answers : List (Answered ServerEntry))
      (acts : List (Input ServerEvent))
      → TakesAs (server_side interface)
      (server_deed interface limits) unread h inputs answers acts left k
      → AreActed inputs acts
  are_acted unread left h k [] [] acts taken = taken.0
  are_acted unread left h k [] (answered ∷ answers) acts taken = absurd taken
  are_acted unread left h k (given ∷ inputs) [] acts taken = absurd taken
  are_acted unread left h k (given ∷ inputs) (answered ∷ answers) acts taken = (
    taken.0,
    taken.1,
    taken.4,
    is_acted h given taken.0 taken.5,
    are_acted taken.2 left taken.3 k inputs answers taken.1 taken.8,
  )

-- the acts of the run, by what answers
abbrev pub run_acts : Local ServerEvent → List (Input ServerEvent)
run_acts act = one_way_by act ++ Does 7 IsTaken ∷ []

one_more : {acts rest more : List (Input ServerEvent)} {act is : Input ServerEvent} → acts ≡ act ∷ rest → act ≡ is → rest ≡ more → acts ≡ is ∷ more
one_more whole first behind = cc

-- those of a run that refuses nothing
pub record AreOfRun (acts : List (Input ServerEvent)) : Type 0 where
  pub act : Local ServerEvent
  pub answers : done_by act ≡ Hears (event.AnswerLocate true)
  pub are : acts ≡ run_acts act

pub of_run : (acts : List (Input ServerEvent)) → AreActed server_given acts → AreOfRun acts
of_run acts (_, _, is_1, act_1, (_, _, is_2, act_2, (_, _, is_3, act_3, (_, _, is_4, act_4, (_, _, is_5, act_5, (_, _, is_6, act_6, none)))))) = record {
  act = Hears act_4.0;
  answers = ap Hears act_4.1;
  are = one_more is_1 act_1 (one_more is_2 act_2 (one_more is_3 act_3 (one_more is_4 act_4.2 (one_more is_5 act_5 (one_more is_6 act_6 none)))));
}
