-- The entries of a server's end that takes inputs are what the items leave that these hold.
use Rattle.std.proofs.Common.{◌≡◌, ℕ, List, None, IsOk, ◌∙◌, ap, refl, sym, subst}
use Rattle.std.specs.List.{AllByRecursion}
use Rattle.std.specs.Ordering.{nat_cmp}
use Rattle.std.specs.FinMap as finite
use Rattle.giop_ids.specs.Runs.{alone, told_alone}
use Rattle.giop_mux.specs.Runs.{Happening}
use Rattle.giop_types.specs.declared.json.interface.Interface.{Interface}
use Rattle.giop_calls.specs.declared.server.entry.ServerEntry.{ServerEntry}
use Rattle.giop_calls.specs.declared.server.event.ServerEvent.{ServerEvent}
use Rattle.giop_calls.specs.declared.server.rule.ServerRule.{ServerRule}
use Rattle.giop_calls.specs.ServerTable.{is_closed, is_gathering, server_step}
use Rattle.giop_calls.specs.ServerItems as table
use Rattle.giop_calls.specs.ServerStanding.{standing}
use Rattle.giop_msg.specs.Stream.{Unread}
use Rattle.giop_session.specs.declared.laws.inputs.Answered.{Answered}
use Rattle.giop_session.specs.declared.laws.inputs.ServerInput.{ServerInput}
use Rattle.giop_session.specs.declared.laws.inputs.ServerInput.TheVariants as input
use Rattle.giop_session.specs.declared.limits.Limits.{Limits}
use Rattle.giop_session.specs.Calls.Begun.{no_calls}
use Rattle.giop_session.specs.Calls.CallTable.{Held, at}
use Rattle.giop_session.specs.Items.Carries.{Carries, behind_all}
use Rattle.giop_session.specs.Runs.Driven.{id_of, item_answers, own_answers}
use Rattle.giop_session.specs.Runs.ServerRuns.{ServerHolds, server_deed, server_entry, server_named}
use Rattle.giop_session.specs.Runs.Fits.{ServerStands, server_history}
use Rattle.giop_session.specs.Runs.EndRuns.{ServerTakes}
use Rattle.giop_session.specs.Runs.Events.{Event, Follows, Meets, no_call, own_events}
use Rattle.giop_session.specs.Runs.Inputs.{Holds, Input, nothing_unread}
use Rattle.giop_session.specs.Calls.Sending.{entry_of}
use Rattle.giop_session.specs.Items.ServerCarries.{ServerItem, server_telling}
use Rattle.giop_session.specs.Hearing.ServerHears.{server_befalls, server_side}
use Rattle.giop_session.proofs.OnItems.AnswerLemmas.{items_answer, taken_answers}
use Rattle.giop_session.proofs.OnRuns.EventLemmas.{each_follows}
use Rattle.giop_session.proofs.OnRuns.HistoryLemmas.{follows_steps}
use Rattle.giop_session.proofs.OnRuns.InputLemmas.{same_events, takes_events}
use Rattle.giop_session.proofs.OnItems.ItemLemmas.{items_leave}
use Rattle.giop_session.proofs.OnItems.ServerItemLemmas.{server_item_leaves, server_turn}

-- each entry is what its items leave
joined : (interface : Interface) (limits : Limits) (events : List (Event ServerEvent)) (k : Held ServerRule ServerEntry) (items : List ServerItem) (id : ℕ)
    → Meets (server_side interface) (no_calls (record {}) limits) events k
    → Carries (server_telling interface) None items (own_events id events)
    → entry_of (finite.get k.table id) ≡ behind_all (server_telling interface) None items
joined interface limits events k items id runs carries =
    let begun : Held ServerRule ServerEntry = no_calls (record {}) limits in
    items_leave server_turn (server_befalls interface) (server_telling interface) (λ entry call. entry_of call.slot ≡ entry) (server_item_leaves interface)
    items None (at begun id) (at k id) (own_events id events) (ap entry_of (finite.get-empty nat_cmp id)) carries
    (each_follows (server_side interface) begun k events id runs)

-- where inputs hold the items
pub server_entries : (interface : Interface) (limits : Limits) (inputs : List (Input ServerEvent)) (left : Unread) (k : Held ServerRule ServerEntry)
    (calls : ℕ → List ServerItem)
    → ServerTakes interface limits inputs left k → Holds (server_telling interface) None limits.message inputs calls
    → (id : ℕ) → entry_of (finite.get k.table id) ≡ behind_all (server_telling interface) None (calls id)
server_entries interface limits inputs left k calls takes (events, left', are, carries) id =
    let run = takes_events (server_side interface)
    inputs (nothing_unread limits.message) left (no_calls (record {}) limits) k takes in
    joined interface limits run.0 k (calls id) id run.2
    (subst (λ events. Carries (server_telling interface) None (calls id) (own_events id events))
    (same_events inputs (nothing_unread limits.message) left' left events run.0 are run.1) (carries id))

-- an input is about the call of the id that it names
pub names_it : (interface : Interface) (limits : Limits) (h : Held ServerRule ServerEntry) (given : ServerInput)
    → id_of (server_deed interface limits h given) ≡ server_named given
names_it interface limits h (input.Feed octets) = refl
names_it interface limits h (input.Answer reply form) = refl
names_it interface limits h (input.AnswerLocate id here order) = refl
names_it interface limits h (input.Send id) = refl
names_it interface limits h (input.Take id) = refl
names_it interface limits h input.Close = refl

-- and each id's answers are what its items say
pub server_answers : (interface : Interface) (limits : Limits) (inputs : List ServerInput) (answers : List (Answered ServerEntry)) (left : Unread)
    (k : Held ServerRule ServerEntry) (calls : ℕ → List ServerItem) → ServerHolds interface limits inputs answers left k calls
    → (id : ℕ) → own_answers server_named id inputs answers ≡ item_answers (server_telling interface) (λ entry. entry) None (calls id)
server_answers interface limits inputs answers left k calls held id =
    let begun : Held ServerRule ServerEntry = no_calls (record {}) limits in
    let run = taken_answers (server_side interface)
    (server_deed interface limits) server_named (names_it interface limits) inputs answers held.acts (nothing_unread limits.message) left begun k held.taken in
    let same = same_events held.acts (nothing_unread limits.message) held.holds.1 left held.holds.0 run.0 held.holds.2 run.1 in
    run.3 id
    ∙ items_answer server_turn (server_befalls interface) (server_telling interface) (λ entry. entry) (server_item_leaves interface)
    (calls id) None (at begun id)
    (at k id) (own_events id run.0) (ap entry_of (finite.get-empty nat_cmp id))
    (subst (λ events. Carries (server_telling interface) None (calls id) (own_events id events)) same (held.holds.3 id))
    (each_follows (server_side interface) begun k run.0 id run.2)

-- nothing is stored at a new end
none_yet : (limits : Limits) (id : ℕ) → at {R = ServerRule} {E = ServerEntry} (no_calls (record {}) limits) id ≡ no_call
none_yet limits id = λ i. record { slot = finite.get-empty nat_cmp id i; pieces = finite.get-empty nat_cmp id i }

-- what the table's steps come to stands by those of the latest call
abbrev pub StandsByLatest : Type 0
StandsByLatest = (acts : List (Happening ServerEvent)) → AllByRecursion IsOk (told_alone table.server_turn None acts)
    → alone table.server_turn None acts ≡ standing acts

-- and each entry is what they come to
pub server_stands : StandsByLatest → (interface : Interface) (limits : Limits) (inputs : List ServerInput) (answers : List (Answered ServerEntry))
    (left : Unread) (k : Held ServerRule ServerEntry) (calls : ℕ → List ServerItem) (held : ServerHolds interface limits inputs answers left k calls)
    (id : ℕ) → ServerStands interface id (calls id) held.holds.0 (server_entry k id)
server_stands stands interface limits inputs answers left k calls held id =
    let begun : Held ServerRule ServerEntry = no_calls (record {}) limits in
    let run = taken_answers (server_side interface)
    (server_deed interface limits) server_named (names_it interface limits) inputs answers held.acts (nothing_unread limits.message) left begun k held.taken in
    let same = same_events held.acts (nothing_unread limits.message) held.holds.1 left held.holds.0 run.0 held.holds.2 run.1 in
    let follows = each_follows (server_side interface) begun k run.0 id run.2 in
    let own = subst (λ events. Follows server_turn (server_befalls interface) (at begun id) (own_events id events) (at k id)) (sym same) follows in
    let found = follows_steps server_step is_closed is_gathering (server_befalls interface) (own_events id held.holds.0) no_call (at k id)
    (subst (λ call. Follows server_turn (server_befalls interface) call (own_events id held.holds.0) (at k id)) (none_yet limits id) own) in
    record {
      as_said = joined interface limits run.0 k (calls id) id run.2
          (subst (λ events. Carries (server_telling interface) None (calls id) (own_events id events)) same (held.holds.3 id));
      by_steps = found.1;
      by_latest = found.1 ∙ stands (server_history interface id held.holds.0) found.0;
    }
