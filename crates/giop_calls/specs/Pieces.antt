-- What an end hears of the other one, and a message that comes in pieces.
use Rattle.std.specs.Prelude.{◌≡◌, ◌⊎◌, Bool, List, [], ◌∷◌, ◌++◌, map}
use Rattle.giop_mux.specs.Runs.{Happening, Hears}
use Rattle.giop_calls.specs.declared.kind.CallKind.{CallKind}
use Rattle.giop_calls.specs.declared.server.heard.HeardCall.{HeardCall}
use Rattle.giop_calls.specs.declared.server.event.ServerEvent.{ServerEvent}
use Rattle.giop_calls.specs.declared.server.event.ServerEvent.TheVariants as at_server
use Rattle.giop_calls.specs.declared.client.event.ClientEvent.{ClientEvent}
use Rattle.giop_calls.specs.declared.client.event.ClientEvent.TheVariants as at_client
use Rattle.giop_calls.specs.Items.{Wording}
use Rattle.giop_calls.specs.ClientItems as client_said

-- an end hears of a message of the other one: all of it, its first piece, a Fragment, or the last
abbrev pub IsHeard : {V Act Beginning Message : Type 0}
    → Wording V Act Beginning Message → Act → Type 0
IsHeard {V} {Act} {Beginning} {Message} words act =
    ((message : Message) × (act ≡ words.whole message))
    ⊎ ((begun : Beginning) × (act ≡ words.first begun))
    ⊎ words.Further act ⊎ ((message : Message) × words.Last message act)

-- a call in pieces: the first, which says its kind, Fragments that are in its order or not, and the
-- last, in its order or not
abbrev pub call_in_pieces : CallKind → List Bool → Bool → HeardCall → List (Happening ServerEvent)
call_in_pieces kind further last call = Hears (at_server.First kind)
    ∷ map (λ in_order. Hears (at_server.More in_order)) further ++ Hears (at_server.Last last call) ∷ []

-- a reply in pieces likewise
abbrev pub reply_in_pieces : client_said.Message → List Bool → Bool → List (Happening ClientEvent)
reply_in_pieces m further last = Hears (at_client.First m.begun.kind m.begun.version)
    ∷ map (λ in_order. Hears (at_client.More in_order)) further ++ Hears (at_client.Last last m.reply) ∷ []
