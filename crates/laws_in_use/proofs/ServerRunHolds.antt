-- What a run of a server's end is given holds the calls that are said, by whatever message it answers.
use Rattle.std.proofs.Common.{◌≡◌, ◌∙◌, true, List, [], ◌∷◌, ◌++◌, ap, map, None, refl, sym, subst}
use Rattle.giop_types.specs.declared.interfaces.interface.Interface.{Interface}
use Rattle.giop_msg.specs.Laws.{IsTable}
use Rattle.giop_msg.specs.Locate.{locate_request}
use Rattle.giop_msg.specs.Stream.{Unread}
use Rattle.giop_msg.specs.declared.version.Version.TheVariants.{V10, V12}
use Rattle.giop_mux.specs.Runs.{Hears, IsTaken}
use Rattle.giop_calls.specs.declared.server.entry.ServerEntry.{ServerEntry}
use Rattle.giop_calls.specs.declared.server.event.ServerEvent.{ServerEvent}
use Rattle.giop_calls.specs.declared.server.event.ServerEvent.TheVariants.{AnswerLocate, First, Last}
use Rattle.giop_calls.specs.declared.kind.CallKind.TheVariants as kind
use Rattle.giop_calls.specs.ServerTable.{is_closed, is_gathering, server_step}
use Rattle.giop_calls.specs.declared.server.heard.HeardCall.TheVariants as heard
use Rattle.giop_calls.specs.declared.server.rule.ServerRule.{ServerRule}
use Rattle.giop_session.specs.declared.laws.inputs.Answered.{Answered}
use Rattle.giop_session.specs.declared.laws.inputs.ServerInput.{ServerInput}
use Rattle.giop_session.specs.Ends.Begun.{no_calls}
use Rattle.giop_session.specs.Calls.CallTable.{Held, turn}
use Rattle.giop_session.specs.Hearing.ServerHears.{server_act}
use Rattle.giop_session.specs.Items.Carries.{CarriesItem, Did, Got, done_by}
use Rattle.giop_session.specs.Runs.Events.{Comes, Event, Local, history, no_call, own_events, Does as DoesTo}
use Rattle.giop_session.specs.Runs.Fits.{history_of}
use Rattle.giop_session.specs.Runs.ServerRuns.{server_run}
use Rattle.giop_session.specs.Runs.SideRuns.{SideHolds, SideTakesAs}
use Rattle.giop_session.specs.Runs.Inputs.{Does, Holds, Input}
use Rattle.giop_session.specs.Hearing.Feeding.{nothing_unread}
use Rattle.giop_session.specs.Items.ServerCarries.{server_telling}
use Rattle.laws_in_use.specs.Locating.{answering, door, door_begins, door_ends, here_big, limits, said_of_nine}
use Rattle.laws_in_use.specs.Runs.{history_of_door, said_and_taken, server_given, server_said}
use Rattle.laws_in_use.proofs.ByIds.{by_id, if_is}
use Rattle.laws_in_use.proofs.LocatingHolds.{CarriesSaid, one_are_then, one_by, one_events_by, one_nine, one_own, one_seven_then}
use Rattle.laws_in_use.proofs.LocatingMessages.{decoded}
use Rattle.laws_in_use.proofs.LocatingReads.{wide}
use Rattle.laws_in_use.proofs.ServerRunActs.{AreActed, are_acted, of_run, run_acts}

abbrev takes : List (Event ServerEvent)
takes = DoesTo 7 IsTaken ∷ []

module _ (interface : Interface) (old : IsTable (locate_request V10)) (table : IsTable (locate_request V12))
    (cut : CarriesItem (server_telling interface) None (Got (heard.Locate door)) (map Comes (door_begins ∷ door_ends ∷ []))) where
  -- an act answers `door`, and then its entry is taken out
  pub run_holds : (act : Local ServerEvent) → done_by act ≡ Hears (AnswerLocate true)
      → Holds (server_telling interface) None limits.message (run_acts act) server_said
  run_holds act answers = (
    one_events_by act ++ takes,
    wide [],
    one_are_then act (Does 7 IsTaken ∷ []) takes (wide []) ([], refl, (refl, refl)),
    by_id (CarriesSaid interface old table cut) said_and_taken said_of_nine (λ seven nine. one_by act (if_is seven (DoesTo 7 IsTaken) []) seven nine)
        (one_seven_then interface old table cut act answers (Did IsTaken ∷ []) takes (takes, [], refl, (7, IsTaken, refl, refl), refl))
        (one_nine interface old table cut act answers) refl (λ id. own_events id (one_events_by act ++ takes)) (one_own act takes),
  )

  -- and the table is told this of 7
  pub door_told : history_of (server_run interface) 7 (run_holds (answering here_big) refl).0 ≡ history_of_door
  unfolding run_holds
  door_told =
      ap (history (turn server_step is_closed is_gathering) (server_act interface) no_call) (one_own (answering here_big) takes 7)
      ∙ ap (λ call. Hears (First kind.Locate) ∷ Hears (Last true call) ∷ Hears (AnswerLocate true) ∷ IsTaken ∷ []) (decoded interface).door_joined

  -- so do the acts as which any end takes that
  pub holds_of_run : (inputs : List ServerInput) (answers : List (Answered ServerEntry)) (left : Unread) (k : Held ServerRule ServerEntry)
      → inputs ≡ server_given
      → ((acts : List (Input ServerEvent)) × SideTakesAs (server_run interface) limits inputs answers acts left k)
      → SideHolds (server_run interface) limits inputs answers left k server_said
  holds_of_run inputs answers left k given taken =
      let acted = are_acted interface limits (nothing_unread limits.message) left (no_calls (record {}) limits) k inputs answers taken.0 taken.1 in
      let of = of_run taken.0 (subst (λ (inputs : List ServerInput). AreActed inputs taken.0) given acted) in
      record {
        acts = taken.0;
        taken = taken.1;
        holds =
            subst (λ (acts : List (Input ServerEvent)). Holds (server_telling interface) None limits.message acts server_said) (sym of.are)
            (run_holds of.act of.answers);
      }
