-- The entries of a server's end that takes inputs are what the items leave that these hold.
use Rattle.std.proofs.Common.{◌≡◌, ℕ, List, None, ap, subst}
use Rattle.std.specs.Ordering.{nat_cmp}
use Rattle.std.specs.FinMap as finite
use Rattle.giop_types.specs.declared.json.interface.Interface.{Interface}
use Rattle.giop_calls.specs.declared.server.entry.ServerEntry.{ServerEntry}
use Rattle.giop_calls.specs.declared.server.event.ServerEvent.{ServerEvent}
use Rattle.giop_calls.specs.declared.server.rule.ServerRule.{ServerRule}
use Rattle.giop_calls.specs.ServerTable.{is_closed, is_gathering, server_step}
use Rattle.giop_msg.specs.Stream.{Unread}
use Rattle.giop_session.specs.declared.limits.Limits.{Limits}
use Rattle.giop_session.specs.Begun.{no_calls}
use Rattle.giop_session.specs.CallTable.{Held, at}
use Rattle.giop_session.specs.Carries.{Carries, behind_all}
use Rattle.giop_session.specs.EndRuns.{ServerTakes}
use Rattle.giop_session.specs.Events.{Event, Meets, own_events}
use Rattle.giop_session.specs.Heard.{in_call}
use Rattle.giop_session.specs.Inputs.{Holds, Input, nothing_unread}
use Rattle.giop_session.specs.Sending.{entry_of}
use Rattle.giop_session.specs.ServerCarries.{ServerItem, server_telling}
use Rattle.giop_session.specs.ServerHears.{server_befalls, server_breaks}
use Rattle.giop_session.proofs.EventLemmas.{each_follows}
use Rattle.giop_session.proofs.InputLemmas.{same_events, takes_events}
use Rattle.giop_session.proofs.ItemLemmas.{items_leave}
use Rattle.giop_session.proofs.ServerItemLemmas.{server_item_leaves, server_turn}

-- each entry is what its items leave
joined : (interface : Interface) (limits : Limits) (events : List (Event ServerEvent)) (k : Held ServerRule ServerEntry) (items : List ServerItem) (id : ℕ)
    → Meets (λ rule. server_step) (λ rule. is_closed) is_gathering in_call server_breaks (server_befalls interface) (no_calls (record {}) limits) events k
    → Carries (server_telling interface) None items (own_events id events)
    → entry_of (finite.get k.table id) ≡ behind_all (server_telling interface) None items
joined interface limits events k items id runs carries =
    let begun : Held ServerRule ServerEntry = no_calls (record {}) limits in
    items_leave server_turn (server_befalls interface) (server_telling interface) (λ entry call. entry_of call.slot ≡ entry) (server_item_leaves interface)
    items None (at begun id) (at k id) (own_events id events) (ap entry_of (finite.get-empty nat_cmp id)) carries
    (each_follows (λ rule. server_step) (λ rule. is_closed) is_gathering in_call server_breaks (server_befalls interface) begun k events id runs)

-- where inputs hold the items
pub server_entries : (interface : Interface) (limits : Limits) (inputs : List (Input ServerEvent)) (left : Unread) (k : Held ServerRule ServerEntry)
    (calls : ℕ → List ServerItem)
    → ServerTakes interface limits inputs left k → Holds (server_telling interface) None limits.message inputs calls
    → (id : ℕ) → entry_of (finite.get k.table id) ≡ behind_all (server_telling interface) None (calls id)
server_entries interface limits inputs left k calls takes (events, left', are, carries) id =
    let run = takes_events (λ rule. server_step) (λ rule. is_closed) is_gathering in_call server_breaks (server_befalls interface)
    inputs (nothing_unread limits.message) left (no_calls (record {}) limits) k takes in
    joined interface limits run.0 k (calls id) id run.2
    (subst (λ events. Carries (server_telling interface) None (calls id) (own_events id events))
    (same_events inputs (nothing_unread limits.message) left' left events run.0 are run.1) (carries id))
