-- The entries of a client's end that takes inputs are what the items leave that these hold.
use Rattle.std.proofs.Common.{◌≡◌, ℕ, List, None, IsOk, ◌∙◌, ap, refl, sym, subst}
use Rattle.std.specs.List.{AllByRecursion}
use Rattle.std.specs.Ordering.{nat_cmp}
use Rattle.std.specs.FinMap as finite
use Rattle.giop_ids.specs.Runs.{alone, told_alone}
use Rattle.giop_mux.specs.Runs.{Happening}
use Rattle.giop_types.specs.declared.json.interface.Interface.{Interface}
use Rattle.giop_calls.specs.declared.client.entry.ClientEntry.{ClientEntry}
use Rattle.giop_calls.specs.declared.client.event.ClientEvent.{ClientEvent}
use Rattle.giop_calls.specs.declared.client.rule.ClientRule.{ClientRule}
use Rattle.giop_calls.specs.ClientTable.{is_closed, is_gathering, client_step}
use Rattle.giop_calls.specs.ClientItems as table
use Rattle.giop_calls.specs.ClientStanding.{standing}
use Rattle.giop_msg.specs.Stream.{Unread}
use Rattle.giop_session.specs.declared.laws.inputs.Answered.{Answered}
use Rattle.giop_session.specs.declared.laws.inputs.ClientInput.{ClientInput}
use Rattle.giop_session.specs.declared.laws.inputs.ClientInput.TheVariants as input
use Rattle.giop_session.specs.declared.limits.Limits.{Limits}
use Rattle.giop_session.specs.Calls.Begun.{no_calls}
use Rattle.giop_session.specs.Calls.CallTable.{Held, at}
use Rattle.giop_session.specs.Items.Carries.{Carries, behind_all}
use Rattle.giop_session.specs.Runs.Driven.{id_of, item_answers, own_answers}
use Rattle.giop_session.specs.Runs.ClientRuns.{ClientHolds, client_deed, client_entry, client_named}
use Rattle.giop_session.specs.Runs.Fits.{ClientStands, client_history}
use Rattle.giop_session.specs.Runs.EndRuns.{ClientTakes}
use Rattle.giop_session.specs.Runs.Events.{Event, Follows, Meets, no_call, own_events}
use Rattle.giop_session.specs.Runs.Inputs.{Holds, Input, nothing_unread}
use Rattle.giop_session.specs.Calls.Sending.{entry_of}
use Rattle.giop_session.specs.Items.ClientCarries.{ClientItem, client_telling, unknown}
use Rattle.giop_session.specs.Hearing.ClientHears.{client_befalls, client_side}
use Rattle.giop_session.proofs.OnItems.AnswerLemmas.{items_answer, taken_answers}
use Rattle.giop_session.proofs.OnRuns.EventLemmas.{each_follows}
use Rattle.giop_session.proofs.OnRuns.HistoryLemmas.{follows_steps}
use Rattle.giop_session.proofs.OnRuns.InputLemmas.{same_events, takes_events}
use Rattle.giop_session.proofs.OnItems.ItemLemmas.{items_leave}
use Rattle.giop_session.proofs.OnHearing.ClientCancelLemmas.{client_turn}
use Rattle.giop_session.proofs.OnItems.ClientItemLemmas.{client_item_leaves}

-- each entry is what its items leave
joined : (interface : Interface) (limits : Limits) (events : List (Event ClientEvent)) (k : Held ClientRule ClientEntry) (items : List ClientItem) (id : ℕ)
    → Meets (client_side interface) (no_calls (record {}) limits) events k
    → Carries (client_telling interface) unknown items (own_events id events)
    → entry_of (finite.get k.table id) ≡ (behind_all (client_telling interface) unknown items).entry
joined interface limits events k items id runs carries =
    let begun : Held ClientRule ClientEntry = no_calls (record {}) limits in
    items_leave client_turn (client_befalls interface) (client_telling interface) (λ known call. entry_of call.slot ≡ known.entry)
    (client_item_leaves interface)
    items unknown (at begun id) (at k id) (own_events id events) (ap entry_of (finite.get-empty nat_cmp id)) carries
    (each_follows (client_side interface) begun k events id runs)

-- where inputs hold the items
pub client_entries : (interface : Interface) (limits : Limits) (inputs : List (Input ClientEvent)) (left : Unread) (k : Held ClientRule ClientEntry)
    (calls : ℕ → List ClientItem)
    → ClientTakes interface limits inputs left k → Holds (client_telling interface) unknown limits.message inputs calls
    → (id : ℕ) → entry_of (finite.get k.table id) ≡ (behind_all (client_telling interface) unknown (calls id)).entry
client_entries interface limits inputs left k calls takes (events, left', are, carries) id =
    let run = takes_events (client_side interface)
    inputs (nothing_unread limits.message) left (no_calls (record {}) limits) k takes in
    joined interface limits run.0 k (calls id) id run.2
    (subst (λ events. Carries (client_telling interface) unknown (calls id) (own_events id events))
    (same_events inputs (nothing_unread limits.message) left' left events run.0 are run.1) (carries id))

-- an input is about the call of the id that it names
pub names_it : (interface : Interface) (limits : Limits) (h : Held ClientRule ClientEntry) (given : ClientInput)
    → id_of (client_deed interface limits h given) ≡ client_named given
names_it interface limits h (input.Feed octets) = refl
names_it interface limits h (input.Call request form) = refl
names_it interface limits h (input.Locate request form) = refl
names_it interface limits h (input.Cancel id order) = refl
names_it interface limits h (input.Send id) = refl
names_it interface limits h (input.Take id) = refl
names_it interface limits h input.Close = refl

-- and each id's answers are what its items say
pub client_answers : (interface : Interface) (limits : Limits) (inputs : List ClientInput) (answers : List (Answered ClientEntry)) (left : Unread)
    (k : Held ClientRule ClientEntry) (calls : ℕ → List ClientItem) → ClientHolds interface limits inputs answers left k calls
    → (id : ℕ) → own_answers client_named id inputs answers ≡ item_answers (client_telling interface) (λ known. known.entry) unknown (calls id)
client_answers interface limits inputs answers left k calls held id =
    let begun : Held ClientRule ClientEntry = no_calls (record {}) limits in
    let run = taken_answers (client_side interface)
    (client_deed interface limits) client_named (names_it interface limits) inputs answers held.acts (nothing_unread limits.message) left begun k held.taken in
    let same = same_events held.acts (nothing_unread limits.message) held.holds.1 left held.holds.0 run.0 held.holds.2 run.1 in
    run.3 id
    ∙ items_answer client_turn (client_befalls interface) (client_telling interface) (λ known. known.entry) (client_item_leaves interface)
    (calls id) unknown (at begun id)
    (at k id) (own_events id run.0) (ap entry_of (finite.get-empty nat_cmp id))
    (subst (λ events. Carries (client_telling interface) unknown (calls id) (own_events id events)) same (held.holds.3 id))
    (each_follows (client_side interface) begun k run.0 id run.2)

-- nothing is stored at a new end
none_yet : (limits : Limits) (id : ℕ) → at {R = ClientRule} {E = ClientEntry} (no_calls (record {}) limits) id ≡ no_call
none_yet limits id = λ i. record { slot = finite.get-empty nat_cmp id i; pieces = finite.get-empty nat_cmp id i }

-- what the table's steps come to stands by those of the latest call
abbrev pub StandsByLatest : Type 0
StandsByLatest = (acts : List (Happening ClientEvent)) → AllByRecursion IsOk (told_alone table.client_turn None acts)
    → alone table.client_turn None acts ≡ standing acts

-- and each entry is what they come to
pub client_stands : StandsByLatest → (interface : Interface) (limits : Limits) (inputs : List ClientInput) (answers : List (Answered ClientEntry))
    (left : Unread) (k : Held ClientRule ClientEntry) (calls : ℕ → List ClientItem) (held : ClientHolds interface limits inputs answers left k calls)
    (id : ℕ) → ClientStands interface id (calls id) held.holds.0 (client_entry k id)
client_stands stands interface limits inputs answers left k calls held id =
    let begun : Held ClientRule ClientEntry = no_calls (record {}) limits in
    let run = taken_answers (client_side interface)
    (client_deed interface limits) client_named (names_it interface limits) inputs answers held.acts (nothing_unread limits.message) left begun k held.taken in
    let same = same_events held.acts (nothing_unread limits.message) held.holds.1 left held.holds.0 run.0 held.holds.2 run.1 in
    let follows = each_follows (client_side interface) begun k run.0 id run.2 in
    let own = subst (λ events. Follows client_turn (client_befalls interface) (at begun id) (own_events id events) (at k id)) (sym same) follows in
    let found = follows_steps client_step is_closed is_gathering (client_befalls interface) (own_events id held.holds.0) no_call (at k id)
    (subst (λ call. Follows client_turn (client_befalls interface) call (own_events id held.holds.0) (at k id)) (none_yet limits id) own) in
    record {
      as_said = joined interface limits run.0 k (calls id) id run.2
          (subst (λ events. Carries (client_telling interface) unknown (calls id) (own_events id events)) same (held.holds.3 id));
      by_steps = found.1;
      by_latest = found.1 ∙ stands (client_history interface id held.holds.0) found.0;
    }
