-- What ends plan to send under the ids 7 and 9.
use Rattle.std.specs.Prelude.{false, [], ◌∷◌}
use Rattle.giop_calls.specs.Lane.{Cut}
use Rattle.giop_calls.specs.declared.client.call.Call.TheVariants as asked
use Rattle.giop_calls.specs.declared.client.event.ClientEvent.{ClientEvent}
use Rattle.giop_calls.specs.declared.client.event.ClientEvent.TheVariants as at_client
use Rattle.giop_calls.specs.declared.server.event.ServerEvent.{ServerEvent}
use Rattle.giop_calls.specs.declared.server.event.ServerEvent.TheVariants as at_server
use Rattle.giop_session.specs.declared.Planned.{Planned}
use Rattle.giop_session.specs.Worlds.OwnLane.{alone, sends_cut}
use Rattle.giop_session.specs.Acts.Sent.{sends_one}
use Rattle.laws_in_use.specs.Asking.{unknown_big}
use Rattle.laws_in_use.specs.Locating.{cancel_little, door, door_begins, door_ends, key, key_big}

-- a client asks where `k` is, in 1.0
abbrev pub asks_key : Planned ClientEvent
asks_key = sends_cut (at_client.Call (asked.Locate key)) (alone key_big)

-- `door` is asked for in 1.2 and two pieces
abbrev pub door_cut : Cut
door_cut = record { first = door_begins; rest = door_ends ∷ [] }

-- so it asks
abbrev pub asks_door : Planned ClientEvent
asks_door = sends_cut (at_client.Call (asked.Locate door)) door_cut

-- it cancels the first
abbrev pub cancels_key : Planned ClientEvent
cancels_key = sends_one at_client.Cancel cancel_little

-- a server answers that no such object is known
abbrev pub answers_key : Planned ServerEvent
answers_key = sends_one (at_server.AnswerLocate false) unknown_big
