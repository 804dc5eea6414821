-- What an end has stored for an id, as what stands at that end of the id's lane, and what both ends
-- of a world have to do with it.
use Rattle.std.specs.Prelude.{◌≡◌, ◌≢◌, ◌∷◌, ℕ, List, map, Option, Some, None, Ok, Err}
use Rattle.std.specs.List.{AllByRecursion}
use Rattle.giop_msg.specs.declared.msg.Msg.{Msg}
use Rattle.giop_types.specs.declared.interfaces.interface.Interface.{Interface}
use Rattle.giop_calls.specs.Lane.{Act, Cut, Lane, Message, Runs, ToClient, ToServer, new, pieces_of, step}
use Rattle.giop_calls.specs.declared.client.call.Call.{Call as Asked}
use Rattle.giop_calls.specs.declared.client.entry.ClientEntry.{ClientEntry}
use Rattle.giop_calls.specs.declared.client.entry.ClientEntry.TheVariants as client
use Rattle.giop_calls.specs.declared.client.rule.ClientRule.{ClientRule}
use Rattle.giop_calls.specs.declared.kind.CallKind.{CallKind}
use Rattle.giop_calls.specs.declared.server.entry.ServerEntry.{ServerEntry}
use Rattle.giop_calls.specs.declared.server.entry.ServerEntry.TheVariants as server
use Rattle.giop_calls.specs.declared.server.rule.ServerRule.{ServerRule}
use Rattle.giop_end.specs.declared.session_fault.SessionFault.{SessionFault}
use Rattle.giop_session.specs.Runs.Alone.{own_messages}
use Rattle.giop_table.specs.CallTable.{Call, Held, at}
use Rattle.giop_end.specs.Hearing.ClientHears.{client_breaks, client_side}
use Rattle.giop_end.specs.Hearing.Heard.{SideOf, hears}
use Rattle.giop_session.specs.Worlds.Coding.{coding}
use Rattle.giop_session.specs.Worlds.LaneAtEnds.{IsOfLimit, gathered_in, seen}
use Rattle.giop_session.specs.Worlds.OnTheWay.{IsFramed, Names}
use Rattle.giop_table.specs.Sending.{entry_of, unsent_of}
use Rattle.giop_session.specs.Items.ServerCarries.{asks}
use Rattle.giop_end.specs.Hearing.ServerHears.{server_breaks, server_side}

-- a message of the call of an id, to an end that such messages don't break off
pub record IsFor (breaks : Msg → Option SessionFault) (id : ℕ) (m : Msg) : Type 0 where
  pub framed : IsFramed m
  pub names : Names id m
  pub unbroken : breaks m ≡ None

-- one from the client to the server
abbrev pub IsToServer : ℕ → Msg → Type 0
IsToServer id m = IsFor server_breaks id m

-- and one from the server to the client
abbrev pub IsToClient : ℕ → Msg → Type 0
IsToClient id m = IsFor client_breaks id m

-- what a server's end has stored for an id is what stands at the server of this lane: its entry,
-- the messages that are unsent, and the pieces where it gathers
pub record ServerShows (id : ℕ) (call : Call ServerEntry) (lane : Lane) : Type 0 where
  pub entry : entry_of call.slot ≡ lane.server.entry
  pub each : AllByRecursion (IsToClient id) (unsent_of call.slot)
  pub unsent : map seen (unsent_of call.slot) ≡ lane.unanswered
  pub gathered : (k : CallKind) → lane.server.entry ≡ Some (server.Gathering k)
      → (cut : Cut) × (cut.first.kind ≡ asks k) × (lane.server.pieces ≡ pieces_of cut)
      × (call.pieces ≡ gathered_in cut)

-- so at a client's end
pub record ClientShows (id : ℕ) (call : Call ClientEntry) (lane : Lane) : Type 0 where
  pub entry : entry_of call.slot ≡ lane.client.entry
  pub each : AllByRecursion (IsToServer id) (unsent_of call.slot)
  pub unsent : map seen (unsent_of call.slot) ≡ lane.unsent
  pub gathered : (q : Asked) → lane.client.entry ≡ Some (client.Gathering q)
      → (cut : Cut) × (lane.client.pieces ≡ pieces_of cut) × (call.pieces ≡ gathered_in cut)

-- some acts of a lane lead to what both ends have stored for its id, and to its messages among
-- those that are on their way
pub record Shows (interface : Interface) (id : ℕ) (at_client : Call ClientEntry)
    (at_server : Call ServerEntry) (asked answered : List Msg) : Type 0 where
  pub acts : List Act
  pub lane : Lane
  pub runs : Runs (coding interface) new acts lane
  pub client : ClientShows id at_client lane
  pub server : ServerShows id at_server lane
  pub to_server : lane.to_server ≡ map seen (own_messages id asked)
  pub to_client : lane.to_client ≡ map seen (own_messages id answered)

-- an end of a side is to hear the message that is next on this way of a lane, and what it has stored
-- for the id is what stands there
module _ {R E V A F : Type 0} (interface : Interface) (side : SideOf R E V A F) (way : Act)
    (on_way : Lane → List Message) (ShowsAt : ℕ → Call E → Lane → Type 0)
    (IsNextTo : ℕ → Msg → Type 0) (acts : List Act) (lane : Lane) (id : ℕ) (m : Msg)
    (later : List Message) where
  -- that is the lane's act, and each other id has what it had
  abbrev pub DoesLanesAct : (h k : Held R E) → Type 0
  DoesLanesAct h k = Runs (coding interface) new acts lane → on_way lane ≡ seen m ∷ later
      → ShowsAt id (at h id) lane → IsNextTo id m → hears side m h (Ok tt) k
      → (after : Lane) × (step (coding interface) lane way ≡ Some after)
      × ShowsAt id (at k id) after × ((other : ℕ) → other ≢ id → at k other ≡ at h other)

  -- only a limit of the end itself refuses it, and nothing changes
  abbrev pub RefusesByLimits : (h k : Held R E) → SessionFault → Type 0
  RefusesByLimits h k why = Runs (coding interface) new acts lane → on_way lane ≡ seen m ∷ later
      → ShowsAt id (at h id) lane → IsNextTo id m → hears side m h (Err why) k
      → (k ≡ h) × IsOfLimit m h why

-- at a server's end
abbrev pub ServerDoesLanesAct : Interface → List Act → Lane → ℕ → Msg → List Message
    → (h k : Held ServerRule ServerEntry) → Type 0
ServerDoesLanesAct interface =
    DoesLanesAct interface (server_side interface) ToServer (λ lane. lane.to_server) ServerShows
    IsToServer

abbrev pub ServerRefusesByLimits : Interface → List Act → Lane → ℕ → Msg → List Message
    → (h k : Held ServerRule ServerEntry) → SessionFault → Type 0
ServerRefusesByLimits interface =
    RefusesByLimits interface (server_side interface) ToServer (λ lane. lane.to_server) ServerShows
    IsToServer

-- and at a client's
abbrev pub ClientDoesLanesAct : Interface → List Act → Lane → ℕ → Msg → List Message
    → (h k : Held ClientRule ClientEntry) → Type 0
ClientDoesLanesAct interface =
    DoesLanesAct interface (client_side interface) ToClient (λ lane. lane.to_client) ClientShows
    IsToClient

abbrev pub ClientRefusesByLimits : Interface → List Act → Lane → ℕ → Msg → List Message
    → (h k : Held ClientRule ClientEntry) → SessionFault → Type 0
ClientRefusesByLimits interface =
    RefusesByLimits interface (client_side interface) ToClient (λ lane. lane.to_client) ClientShows
    IsToClient
