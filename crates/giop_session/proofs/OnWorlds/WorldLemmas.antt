-- Each end of a world as a run by itself. What is outgoing may have any octets before it: an end only puts out behind them.
use Rattle.std.proofs.Common.{◌≡◌, ℕ, List, [], ◌∷◌, ◌++◌, take, drop, Option, Some, None, Result, refl, sym, ap, subst, ◌∙◌}
use Rattle.std.proofs.Common.{inl, inr, append_assoc, append-nil}
use Rattle.std.proofs.lemmas.List.{take-append-drop}
use Rattle.giop_cdr.specs.declared.order.Order.TheVariants.{Big}
use Rattle.giop_ids.specs.Runs.{Rules}
use Rattle.giop_types.specs.declared.interfaces.interface.Interface.{Interface}
use Rattle.giop_msg.specs.Msg.{message_octets}
use Rattle.giop_calls.specs.declared.client.entry.ClientEntry.{ClientEntry}
use Rattle.giop_calls.specs.declared.client.rule.ClientRule.{ClientRule}
use Rattle.giop_calls.specs.declared.server.entry.ServerEntry.{ServerEntry}
use Rattle.giop_calls.specs.declared.server.rule.ServerRule.{ServerRule}
use Rattle.giop_session.specs.declared.laws.inputs.Answered.{Answered}
use Rattle.giop_session.specs.declared.laws.inputs.Answered.TheVariants as answer
use Rattle.giop_session.specs.declared.laws.inputs.ClientInput.{ClientInput}
use Rattle.giop_session.specs.declared.laws.inputs.ClientInput.TheVariants as client
use Rattle.giop_session.specs.declared.laws.inputs.ServerInput.{ServerInput}
use Rattle.giop_session.specs.declared.laws.inputs.ServerInput.TheVariants as server
use Rattle.giop_session.specs.declared.laws.inputs.WorldEvent.{WorldEvent}
use Rattle.giop_session.specs.declared.laws.inputs.WorldEvent.TheVariants as event
use Rattle.giop_end.specs.declared.limits.Limits.{Limits}
use Rattle.giop_table.specs.declared.plan.Planned.{Planned}
use Rattle.giop_end.specs.declared.session_fault.SessionFault.{SessionFault}
use Rattle.giop_end.specs.declared.session_fault.SessionFault.TheVariants.{Closed}
use Rattle.giop_table.specs.declared.table_fault.TableFault.{TableFault}
use Rattle.giop_table.specs.CallTable.{Act, Call, Held, Reply}
use Rattle.giop_end.specs.Hearing.ClientHears.{client_side}
use Rattle.giop_session.specs.Runs.ClientRuns.{client_deed, client_run}
use Rattle.giop_session.specs.Runs.ServerRuns.{server_deed, server_run}
use Rattle.giop_session.specs.Runs.SideRuns.{SideIsGiven, SideRunsFrom}
use Rattle.giop_session.specs.Runs.Driven.{Closes, Deed, Feeds, InTurn, IsDoneBy, IsGiven, IsGivenBy, PutsOut, TakesOut}
use Rattle.giop_end.specs.Ends.Begun.{EndState}
use Rattle.giop_end.specs.Hearing.Heard.{SideOf}
use Rattle.giop_end.specs.Acts.Putting.{Puts, put_out}
use Rattle.giop_end.specs.Acts.Sent.{close_connection}
use Rattle.giop_end.specs.Hearing.ServerHears.{server_side}
use Rattle.giop_session.specs.Worlds.World.{AreJoined, ArriveAtClient, ArriveAtServer, AtClient, AtServer, Happens, Returned, WorldRuns, WorldState, fed_to_client, fed_to_server, new_world}
use Rattle.giop_session.proofs.OnActs.SidesPutOut.{client_puts_out, server_puts_out}

-- an end with octets before those that are outgoing
abbrev behind : {H : Type 0} → List ℕ → EndState H → EndState H
behind d s = record s { outgoing = d ++ s.outgoing }

module _ {R E V A F : Type 0} (side : SideOf R E V A F) where
  puts_behind : (rules : Rules (Held R E) (Call E) (Act V) (Reply E A) (TableFault F)) (id : ℕ) (refusal : Option F)
      (Plans : Planned V → Type 0) (h k : Held R E) (d out out' : List ℕ) (result : Result (Unit {0}) SessionFault)
      → Puts rules side.of_rule id refusal Plans h out result k out' → Puts rules side.of_rule id refusal Plans h (d ++ out) result k (d ++ out')
  puts_behind rules id refusal Plans h k d out out' result (inl (wanting, calls, is)) = inl (wanting, calls, ap (λ l. d ++ l) is)
  puts_behind rules id (Some why) Plans h k d out out' result (inr (refused, calls, is)) = inr (refused, calls, ap (λ l. d ++ l) is)
  puts_behind rules id None Plans h k d out out' result (inr (planned, plans, on_call)) = inr (
    planned,
    plans,
    record {
      answered = on_call.answered;
      does = on_call.does;
      returned = on_call.returned;
      puts = ap (λ l. d ++ l) on_call.puts ∙ sym (append_assoc d out (put_out on_call.answered));
    },
  )

  done_behind : (deed : Deed V F) (d : List ℕ) (s t : EndState (Held R E)) (answered : Answered E)
      → IsDoneBy side deed s answered t
      → IsDoneBy side deed (behind d s) answered (behind d t)
  done_behind (Feeds octets) d s t answer.Done (fed, is) = (fed, ap (behind d) is)
  done_behind (Feeds octets) d s t (answer.Taken entry) done = absurd done
  done_behind (Feeds octets) d s t (answer.Refused why) (fed, is) = (fed, ap (behind d) is)
  done_behind (PutsOut id refusal Plans) d s t answer.Done (puts, is) =
      (puts_behind _ id refusal Plans s.calls t.calls d s.outgoing t.outgoing _ puts, ap (behind d) is)
  done_behind (PutsOut id refusal Plans) d s t (answer.Taken entry) done = absurd done
  done_behind (PutsOut id refusal Plans) d s t (answer.Refused why) (puts, is) =
      (puts_behind _ id refusal Plans s.calls t.calls d s.outgoing t.outgoing _ puts, ap (behind d) is)
  done_behind (TakesOut id) d s t answer.Done done = absurd done
  done_behind (TakesOut id) d s t (answer.Taken entry) (gives, does, is) = (gives, does, ap (behind d) is)
  done_behind (TakesOut id) d s t (answer.Refused why) (still, open_yet, is) = (still, open_yet, ap (behind d) is)
  done_behind Closes d s t answer.Done is =
      ap (behind d) is
      ∙ ap (λ l. record s { outgoing = l; fault = Some Closed }) (sym (append_assoc d s.outgoing (message_octets (close_connection Big))))
  done_behind Closes d s t (answer.Taken entry) done = absurd done
  done_behind Closes d s t (answer.Refused why) done = absurd done

  by_fault : (fault : Option SessionFault) (deed : Deed V F) (d : List ℕ) (s t : EndState (Held R E)) (answered : Answered E)
      → IsGivenBy side fault deed s answered t
      → IsGivenBy side fault deed (behind d s) answered (behind d t)
  by_fault (Some why) deed d s t answered (refused, is) = (refused, ap (behind d) is)
  by_fault None deed d s t answered done = done_behind deed d s t answered done

  given_behind : (deed : Deed V F) (d : List ℕ) (s t : EndState (Held R E)) (answered : Answered E)
      → IsGiven side deed s answered t
      → IsGiven side deed (behind d s) answered (behind d t)
  given_behind deed d s t answered (memory, given) = (memory, by_fault s.fault deed d s t answered given)

client_behind : (interface : Interface) (limits : Limits) (d : List ℕ) (s t : EndState (Held ClientRule ClientEntry)) (given : ClientInput)
    (answered : Answered ClientEntry) → SideIsGiven (client_run interface) limits s given answered t
    → SideIsGiven (client_run interface) limits (behind d s) given answered (behind d t)
client_behind interface limits d s t given answered is =
    given_behind (client_side interface) (client_deed interface limits s.calls given) d s t answered is

server_behind : (interface : Interface) (limits : Limits) (d : List ℕ) (s t : EndState (Held ServerRule ServerEntry)) (given : ServerInput)
    (answered : Answered ServerEntry) → SideIsGiven (server_run interface) limits s given answered t
    → SideIsGiven (server_run interface) limits (behind d s) given answered (behind d t)
server_behind interface limits d s t given answered is =
    given_behind (server_side interface) (server_deed interface limits s.calls given) d s t answered is

module _ (interface : Interface) (client_limits server_limits : Limits) where
  -- from one world on to another, each end goes as a run by itself, whatever it had put out before
  record RunsOn (w v : WorldState) : Type 0 where
    client_inputs : List ClientInput
    client_answers : List (Answered ClientEntry)
    server_inputs : List ServerInput
    server_answers : List (Answered ServerEntry)
    client : (d : List ℕ) → SideRunsFrom (client_run interface) client_limits (behind d w.client) client_inputs client_answers
        (behind (d ++ fed_to_server server_inputs) v.client)
    server : (d : List ℕ) → SideRunsFrom (server_run interface) server_limits (behind d w.server) server_inputs server_answers
        (behind (d ++ fed_to_client client_inputs) v.server)

  at_client_on : (w mid v : WorldState) (given : ClientInput) (told : Returned)
      → ((inputs : List ClientInput) → fed_to_client (given ∷ inputs) ≡ fed_to_client inputs)
      → AtClient interface client_limits server_limits w given told mid → RunsOn mid v → RunsOn w v
  at_client_on w mid v given told none (answered, is, tells, same) rest = record {
    client_inputs = given ∷ rest.client_inputs;
    client_answers = answered ∷ rest.client_answers;
    server_inputs = rest.server_inputs;
    server_answers = rest.server_answers;
    client = λ d. (behind d mid.client, client_behind interface client_limits d w.client mid.client given answered is, rest.client d);
    server = λ d. subst (λ fed. SideRunsFrom (server_run interface) server_limits (behind d w.server) rest.server_inputs rest.server_answers
        (behind (d ++ fed) v.server)) (sym (none rest.client_inputs))
        (subst (λ from. SideRunsFrom (server_run interface) server_limits (behind d from) rest.server_inputs rest.server_answers
        (behind (d ++ fed_to_client rest.client_inputs) v.server)) same (rest.server d));
  }

  at_server_on : (w mid v : WorldState) (given : ServerInput) (told : Returned)
      → ((inputs : List ServerInput) → fed_to_server (given ∷ inputs) ≡ fed_to_server inputs)
      → AtServer interface client_limits server_limits w given told mid → RunsOn mid v → RunsOn w v
  at_server_on w mid v given told none (answered, is, tells, same) rest = record {
    client_inputs = rest.client_inputs;
    client_answers = rest.client_answers;
    server_inputs = given ∷ rest.server_inputs;
    server_answers = answered ∷ rest.server_answers;
    client = λ d. subst (λ fed. SideRunsFrom (client_run interface) client_limits (behind d w.client) rest.client_inputs rest.client_answers
        (behind (d ++ fed) v.client)) (sym (none rest.server_inputs))
        (subst (λ from. SideRunsFrom (client_run interface) client_limits (behind d from) rest.client_inputs rest.client_answers
        (behind (d ++ fed_to_server rest.server_inputs) v.client)) same (rest.client d));
    server = λ d. (behind d mid.server, server_behind interface server_limits d w.server mid.server given answered is, rest.server d);
  }

  -- octets that left the front of what is outgoing stand before it
  left_before : {H : Type 0} (d : List ℕ) (n : ℕ) (s t : EndState H) → t ≡ record s { outgoing = drop n s.outgoing }
      → behind (d ++ take n s.outgoing) t ≡ behind d s
  left_before d n s t is =
      ap (behind (d ++ take n s.outgoing)) is
      ∙ ap (λ l. record s { outgoing = l }) (append_assoc d (take n s.outgoing) (drop n s.outgoing) ∙ ap (λ l. d ++ l) (take-append-drop n s.outgoing))

  to_server_on : (w mid v : WorldState) (n : ℕ) (told : Returned)
      → ArriveAtServer interface client_limits server_limits w n told mid → RunsOn mid v → RunsOn w v
  to_server_on w mid v n told (answered, is, tells, left) rest = record {
    client_inputs = rest.client_inputs;
    client_answers = rest.client_answers;
    server_inputs = server.Feed (take n w.client.outgoing) ∷ rest.server_inputs;
    server_answers = answered ∷ rest.server_answers;
    client = λ d. subst (λ fed. SideRunsFrom (client_run interface) client_limits (behind d w.client) rest.client_inputs rest.client_answers
        (behind fed v.client)) (append_assoc d (take n w.client.outgoing) (fed_to_server rest.server_inputs))
        (subst (λ from. SideRunsFrom (client_run interface) client_limits from rest.client_inputs rest.client_answers
        (behind ((d ++ take n w.client.outgoing) ++ fed_to_server rest.server_inputs) v.client))
        (left_before d n w.client mid.client left) (rest.client (d ++ take n w.client.outgoing)));
    server = λ d. (
      behind d mid.server,
      server_behind interface server_limits d w.server mid.server (server.Feed (take n w.client.outgoing)) answered is,
      rest.server d,
    );
  }

  to_client_on : (w mid v : WorldState) (n : ℕ) (told : Returned)
      → ArriveAtClient interface client_limits server_limits w n told mid → RunsOn mid v → RunsOn w v
  to_client_on w mid v n told (answered, is, tells, left) rest = record {
    client_inputs = client.Feed (take n w.server.outgoing) ∷ rest.client_inputs;
    client_answers = answered ∷ rest.client_answers;
    server_inputs = rest.server_inputs;
    server_answers = rest.server_answers;
    client = λ d. (
      behind d mid.client,
      client_behind interface client_limits d w.client mid.client (client.Feed (take n w.server.outgoing)) answered is,
      rest.client d,
    );
    server = λ d. subst (λ fed. SideRunsFrom (server_run interface) server_limits (behind d w.server) rest.server_inputs rest.server_answers
        (behind fed v.server)) (append_assoc d (take n w.server.outgoing) (fed_to_client rest.client_inputs))
        (subst (λ from. SideRunsFrom (server_run interface) server_limits from rest.server_inputs rest.server_answers
        (behind ((d ++ take n w.server.outgoing) ++ fed_to_client rest.client_inputs) v.server))
        (left_before d n w.server mid.server left) (rest.server (d ++ take n w.server.outgoing)));
  }

  happens_on : (w mid v : WorldState) (happened : WorldEvent) (told : Returned)
      → Happens interface client_limits server_limits w happened told mid → RunsOn mid v → RunsOn w v
  happens_on w mid v (event.Call request form) told is rest = at_client_on w mid v (client.Call request form) told (λ inputs. refl) is rest
  happens_on w mid v (event.Locate request form) told is rest = at_client_on w mid v (client.Locate request form) told (λ inputs. refl) is rest
  happens_on w mid v (event.Cancel id order) told is rest = at_client_on w mid v (client.Cancel id order) told (λ inputs. refl) is rest
  happens_on w mid v (event.SendClient id) told is rest = at_client_on w mid v (client.Send id) told (λ inputs. refl) is rest
  happens_on w mid v (event.Answer reply form) told is rest = at_server_on w mid v (server.Answer reply form) told (λ inputs. refl) is rest
  happens_on w mid v (event.AnswerLocate id here order) told is rest =
      at_server_on w mid v (server.AnswerLocate id here order) told (λ inputs. refl) is rest
  happens_on w mid v (event.SendServer id) told is rest = at_server_on w mid v (server.Send id) told (λ inputs. refl) is rest
  happens_on w mid v (event.ToServer n) told is rest = to_server_on w mid v n told is rest
  happens_on w mid v (event.ToClient n) told is rest = to_client_on w mid v n told is rest

  runs_on : (w v : WorldState) (schedule : List WorldEvent) (told : List Returned)
      → InTurn (Happens interface client_limits server_limits) w schedule told v → RunsOn w v
  runs_on w v [] [] run = record {
    client_inputs = [];
    client_answers = [];
    server_inputs = [];
    server_answers = [];
    client = λ d. ap (λ u. behind (d ++ []) u.client) run ∙ ap (λ l. behind l w.client) (append-nil d);
    server = λ d. ap (λ u. behind (d ++ []) u.server) run ∙ ap (λ l. behind l w.server) (append-nil d);
  }
  runs_on w v [] (one ∷ told) run = absurd run
  runs_on w v (happened ∷ schedule) [] run = absurd run
  runs_on w v (happened ∷ schedule) (one ∷ told) (mid, first, rest) =
      happens_on w mid v happened one first (runs_on mid v schedule told rest)

  -- so is each end of a world that began
  pub ends_are_joined : (w : WorldState) (schedule : List WorldEvent) (told : List Returned)
      → WorldRuns interface client_limits server_limits schedule told w → AreJoined interface client_limits server_limits w
  ends_are_joined w schedule told run =
      let on = runs_on (new_world client_limits server_limits) w schedule told run in
      record {
        client_inputs = on.client_inputs;
        client_answers = on.client_answers;
        server_inputs = on.server_inputs;
        server_answers = on.server_answers;
        client = on.client [];
        server = on.server [];
        asked = client_puts_out interface client_limits on.client_inputs on.client_answers
            (behind (fed_to_server on.server_inputs) w.client) (on.client []);
        answered = server_puts_out interface server_limits on.server_inputs on.server_answers
            (behind (fed_to_client on.client_inputs) w.server) (on.server []);
      }
