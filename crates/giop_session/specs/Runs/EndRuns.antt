-- What a new end takes, none of it refused, and the calls that it holds then.
use Rattle.std.specs.Prelude.{◌≡◌, ℕ, List, None}
use Rattle.giop_msg.specs.Stream.{Unread}
use Rattle.giop_types.specs.declared.json.interface.Interface.{Interface}
use Rattle.giop_calls.specs.declared.client.entry.ClientEntry.{ClientEntry}
use Rattle.giop_calls.specs.declared.client.event.ClientEvent.{ClientEvent}
use Rattle.giop_calls.specs.declared.client.rule.ClientRule.{ClientRule}
use Rattle.giop_calls.specs.declared.server.entry.ServerEntry.{ServerEntry}
use Rattle.giop_calls.specs.declared.server.event.ServerEvent.{ServerEvent}
use Rattle.giop_calls.specs.declared.server.rule.ServerRule.{ServerRule}
use Rattle.giop_session.specs.declared.limits.Limits.{Limits}
use Rattle.giop_session.specs.Calls.Begun.{no_calls}
use Rattle.giop_session.specs.Calls.CallTable.{Held, entry_at}
use Rattle.giop_session.specs.Items.Carries.{behind_all}
use Rattle.giop_session.specs.Items.ClientCarries.{ClientItem, client_telling, unknown}
use Rattle.giop_session.specs.Items.ServerCarries.{ServerItem, server_telling}
use Rattle.giop_session.specs.Hearing.ClientHears.{client_side}
use Rattle.giop_session.specs.Runs.Inputs.{Holds, Input, Takes, nothing_unread}
use Rattle.giop_session.specs.Hearing.ServerHears.{server_side}

-- a server's end takes these inputs, and leaves these octets unread
abbrev pub ServerTakes : Interface → Limits → List (Input ServerEvent) → Unread
    → Held ServerRule ServerEntry → Type 0
ServerTakes interface limits inputs left k =
    Takes (server_side interface) (nothing_unread limits.message)
    (no_calls (record {}) limits) inputs
    left k

-- and a client's
abbrev pub ClientTakes : Interface → Limits → List (Input ClientEvent) → Unread
    → Held ClientRule ClientEntry → Type 0
ClientTakes interface limits inputs left k =
    Takes (client_side interface) (nothing_unread limits.message)
    (no_calls (record {}) limits) inputs
    left k

-- inputs to a server's end hold these items for each id, and to a client's
abbrev pub ServerInputsHold : Interface → Limits → List (Input ServerEvent) → (ℕ → List ServerItem)
    → Type 0
ServerInputsHold interface limits inputs calls =
    Holds (server_telling interface) None limits.message inputs calls

abbrev pub ClientInputsHold : Interface → Limits → List (Input ClientEvent) → (ℕ → List ClientItem)
    → Type 0
ClientInputsHold interface limits inputs calls =
    Holds (client_telling interface) unknown limits.message inputs calls

-- a new server's end takes inputs that hold these items for each id, and refuses none of them
abbrev pub ServerTakesItems : Interface → Limits → List (Input ServerEvent) → (ℕ → List ServerItem)
    → Held ServerRule ServerEntry → Type 0
ServerTakesItems interface limits inputs calls k =
    ((left : Unread) × ServerTakes interface limits inputs left k)
    × ServerInputsHold interface limits inputs calls

-- and a client's
abbrev pub ClientTakesItems : Interface → Limits → List (Input ClientEvent) → (ℕ → List ClientItem)
    → Held ClientRule ClientEntry → Type 0
ClientTakesItems interface limits inputs calls k =
    ((left : Unread) × ClientTakes interface limits inputs left k)
    × ClientInputsHold interface limits inputs calls

-- the entry of each id is what its items leave
abbrev pub ServerEntriesAre : Interface → (ℕ → List ServerItem) → Held ServerRule ServerEntry
    → Type 0
ServerEntriesAre interface calls k = (id : ℕ)
    → entry_at k id ≡ behind_all (server_telling interface) None (calls id)

abbrev pub ClientEntriesAre : Interface → (ℕ → List ClientItem) → Held ClientRule ClientEntry
    → Type 0
ClientEntriesAre interface calls k = (id : ℕ)
    → entry_at k id ≡ (behind_all (client_telling interface) unknown (calls id)).entry

-- two ends have the same entry of each id
abbrev pub SameEntries : {R E : Type 0} → Held R E → Held R E → Type 0
SameEntries h k = (id : ℕ) → entry_at h id ≡ entry_at k id
