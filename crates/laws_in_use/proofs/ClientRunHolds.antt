-- What a run of a client's end is given holds the calls that are told, by whatever it sends.
use Rattle.std.proofs.Common.{◌≡◌, ◌∙◌, true, List, [], ◌∷◌, ◌++◌, ap, refl, sym, subst}
use Rattle.giop_types.specs.declared.interfaces.interface.Interface.{Interface}
use Rattle.giop_msg.specs.Messages.Laws.{IsWhole}
use Rattle.giop_msg.specs.Messages.LocateReply.{locate_reply}
use Rattle.giop_msg.specs.Stream.{Unread}
use Rattle.giop_msg.specs.declared.version.Version.TheVariants.{V10, V12}
use Rattle.giop_mux.specs.Runs.{Hears, IsTaken}
use Rattle.giop_calls.specs.declared.client.call.Call.TheVariants as asked
use Rattle.giop_calls.specs.declared.client.entry.ClientEntry.{ClientEntry}
use Rattle.giop_calls.specs.declared.client.event.ClientEvent.{ClientEvent}
use Rattle.giop_calls.specs.declared.client.event.ClientEvent.TheVariants.{Call, First, Last, Send}
use Rattle.giop_calls.specs.declared.kind.CallKind.TheVariants as kind
use Rattle.giop_calls.specs.ClientTable.{client_step, is_closed, is_gathering}
use Rattle.giop_calls.specs.declared.client.rule.ClientRule.{ClientRule}
use Rattle.giop_session.specs.declared.laws.inputs.Answered.{Answered}
use Rattle.giop_session.specs.declared.laws.inputs.ClientInput.{ClientInput}
use Rattle.giop_session.specs.Ends.Begun.{no_calls}
use Rattle.giop_session.specs.Calls.CallTable.{Held, turn}
use Rattle.giop_session.specs.Hearing.ClientHears.{client_act}
use Rattle.giop_session.specs.Items.Carries.{Did}
use Rattle.giop_session.specs.Items.ClientCarries.{client_telling, unknown}
use Rattle.giop_session.specs.Runs.ClientRuns.{client_run}
use Rattle.giop_session.specs.Runs.Fits.{history_of}
use Rattle.giop_session.specs.Runs.SideRuns.{SideHolds, SideTakesAs}
use Rattle.giop_session.specs.Runs.Events.{Event, history, no_call, own_events, Does as DoesTo}
use Rattle.giop_session.specs.Runs.Inputs.{Does, Holds, Input}
use Rattle.giop_session.specs.Hearing.Feeding.{nothing_unread}
use Rattle.laws_in_use.specs.Asking.{Acts, own_acts, told_of_seven}
use Rattle.laws_in_use.specs.Locating.{door, limits}
use Rattle.laws_in_use.specs.Runs.{Forms, client_given, client_told, history_of_asking, told_and_taken}
use Rattle.laws_in_use.proofs.AskingHolds.{AreTold, CarriesTold, one_are_then, one_by, one_events_by, one_nine_then, one_own, one_seven, own_told}
use Rattle.laws_in_use.proofs.AskingMessages.{decoded}
use Rattle.laws_in_use.proofs.ByIds.{by_id, if_is}
use Rattle.laws_in_use.proofs.ClientRunActs.{AreActed, are_acted, of_run, run_acts}
use Rattle.laws_in_use.proofs.LocatingReads.{wide}

abbrev takes : List (Event ClientEvent)
takes = DoesTo 9 IsTaken ∷ []

module _ (interface : Interface) (old : IsWhole (locate_reply V10)) (table : IsWhole (locate_reply V12)) where
  -- an entry is taken out at the end
  pub run_holds : (acts : Acts) → AreTold acts → Holds (client_telling interface) unknown limits.message (run_acts acts) client_told
  run_holds acts are = (
    one_events_by acts ++ takes,
    wide [],
    one_are_then acts (Does 9 IsTaken ∷ []) takes (wide []) ([], refl, (refl, refl)),
    by_id (CarriesTold interface old table) told_of_seven told_and_taken (λ seven nine. one_by acts (if_is nine (DoesTo 9 IsTaken) []) seven nine)
        (one_seven interface old table acts are)
        (one_nine_then interface old table acts are (Did IsTaken ∷ []) takes (takes, [], refl, (9, IsTaken, refl, refl), refl))
        refl (λ id. own_events id (one_events_by acts ++ takes)) (one_own acts takes),
  )

  -- and the table is told this of 7
  pub asking_told : history_of (client_run interface) 7 (run_holds own_acts own_told).0 ≡ history_of_asking
  unfolding run_holds
  asking_told =
      ap (history (turn client_step is_closed is_gathering) (client_act interface) no_call) (one_own own_acts takes 7)
      ∙ ap (λ reply. Hears (Call (asked.Locate door) 2) ∷ Hears Send ∷ Hears (First kind.Locate V12) ∷ Hears (Last true reply) ∷ [])
      (decoded interface).here_joined

  -- so do the acts as which any end takes that
  pub holds_of_run : (forms : Forms) (inputs : List ClientInput) (answers : List (Answered ClientEntry)) (left : Unread)
      (k : Held ClientRule ClientEntry) → inputs ≡ client_given forms
      → ((acts : List (Input ClientEvent)) × SideTakesAs (client_run interface) limits inputs answers acts left k)
      → SideHolds (client_run interface) limits inputs answers left k client_told
  holds_of_run forms inputs answers left k given taken =
      let acted = are_acted interface limits (nothing_unread limits.message) left (no_calls (record {}) limits) k inputs answers taken.0 taken.1 in
      let of = of_run forms taken.0 (subst (λ (inputs : List ClientInput). AreActed inputs taken.0) given acted) in
      record {
        acts = taken.0;
        taken = taken.1;
        holds =
            subst (λ (acts : List (Input ClientEvent)). Holds (client_telling interface) unknown limits.message acts client_told) (sym of.are)
            (run_holds of.own of.told);
      }
