-- What an end that is given one call alone shows, where it refuses none of it; and how it reads.
use Rattle.std.proofs.Common.{ℕ, ◌++◌, append-nil, List, [], ◌∷◌, map, refl, sym, ap, ◌∙◌, arith}
use Rattle.std.proofs.lemmas.List.Elements.{All-cons, All-nil}
use Rattle.giop_types.specs.declared.interfaces.interface.Interface.{Interface}
use Rattle.giop_msg.specs.Msg.{IsMessage, message_octets}
use Rattle.giop_msg.specs.declared.msg.Msg.{Msg}
use Rattle.giop_msg.proofs.FramerLemmas.{waits_for_header}
use Rattle.giop_calls.specs.declared.server.entry.ServerEntry.{ServerEntry}
use Rattle.giop_calls.specs.declared.server.rule.ServerRule.{ServerRule}
use Rattle.giop_session.specs.declared.laws.inputs.Answered.{Answered}
use Rattle.giop_session.specs.declared.laws.inputs.ServerInput.{ServerInput}
use Rattle.giop_session.specs.Calls.CallTable.{Held}
use Rattle.giop_session.specs.Items.ServerCarries.{ServerItem}
use Rattle.giop_session.specs.Runs.Driven.{NoneRefused}
use Rattle.giop_session.specs.Ends.Begun.{EndState}
use Rattle.giop_session.specs.Runs.ClientRuns.{at_client, client_run}
use Rattle.giop_session.specs.Runs.Fits.{only}
use Rattle.giop_session.specs.Runs.ServerRuns.{at_server, server_run}
use Rattle.giop_session.specs.Runs.SideRuns.{SideHolds, SideRuns}
use Rattle.giop_session.specs.Runs.Met.{Met, given_as}
use Rattle.laws_in_use.specs.Locating.{limits}
use Rattle.laws_in_use.proofs.LocatingReads.{Brings, two, wide}
use Rattle.giop_calls.specs.declared.client.entry.ClientEntry.{ClientEntry}
use Rattle.giop_calls.specs.declared.client.rule.ClientRule.{ClientRule}
use Rattle.giop_session.specs.declared.laws.inputs.ClientInput.{ClientInput}
use Rattle.giop_session.specs.Items.ClientCarries.{ClientItem}

-- a message that is fed alone
pub one_read : (m : Msg) → IsMessage 64 m → Brings (wide (message_octets m)) (m ∷ []) (wide [])
one_read m is = record {
  takes = record {
    each = All-cons (IsMessage 64) m [] is (All-nil (IsMessage 64));
    octets = sym (append-nil (message_octets m ++ []) ∙ append-nil (message_octets m));
    limit = refl;
  };
  waits = waits_for_header 64 [] (omega arith);
}

-- two messages that are fed at once
pub two_read : (m n : Msg) → IsMessage 64 m → IsMessage 64 n → Brings (wide (message_octets m ++ message_octets n)) (m ∷ n ∷ []) (wide [])
two_read m n is also = record {
  takes = record {
    each = two 64 m n is also;
    octets = ap (λ o. message_octets m ++ o) (sym (append-nil (message_octets n)))
        ∙ sym (append-nil (message_octets m ++ (message_octets n ++ [])));
    limit = refl;
  };
  waits = waits_for_header 64 [] (omega arith);
}

-- a server's end that is given this alone refuses none of it, and this is said of the call
abbrev pub ServerIsShown : Interface → ℕ → List (Met ServerInput) → List ServerItem → Type 0
ServerIsShown interface id own said =
    (answers : List (Answered ServerEntry)) × (end : EndState (Held ServerRule ServerEntry))
    × SideRuns (server_run interface) limits (map (given_as at_server) own) answers end × NoneRefused answers
    × SideHolds (server_run interface) limits (map (given_as at_server) own) answers end.unread end.calls (only id said)

-- and a client's
abbrev pub ClientIsShown : Interface → ℕ → List (Met ClientInput) → List ClientItem → Type 0
ClientIsShown interface id own said =
    (answers : List (Answered ClientEntry)) × (end : EndState (Held ClientRule ClientEntry))
    × SideRuns (client_run interface) limits (map (given_as at_client) own) answers end × NoneRefused answers
    × SideHolds (client_run interface) limits (map (given_as at_client) own) answers end.unread end.calls (only id said)
