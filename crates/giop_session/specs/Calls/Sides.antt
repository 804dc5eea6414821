-- Which entries of a server and of a client gather pieces: none of a call that is over.
use Rattle.std.specs.Prelude.{◌≡◌, true, false, refl}
use Rattle.giop_calls.specs.declared.server.entry.ServerEntry.{ServerEntry}
use Rattle.giop_calls.specs.declared.server.entry.ServerEntry.TheVariants as server
use Rattle.giop_calls.specs.declared.client.entry.ClientEntry.{ClientEntry}
use Rattle.giop_calls.specs.declared.client.entry.ClientEntry.TheVariants as client
use Rattle.giop_calls.specs.ServerTable as server_table
use Rattle.giop_calls.specs.ClientTable as client_table

pub server_gathering_is_open : (entry : ServerEntry) → server_table.is_gathering entry ≡ true
    → server_table.is_closed entry ≡ false
server_gathering_is_open (server.Gathering kind) here = refl
server_gathering_is_open (server.Asked request) here = absurd cc
server_gathering_is_open (server.Undecoded call) here = absurd cc
server_gathering_is_open (server.LocateAsked request) here = absurd cc
server_gathering_is_open (server.Answered asked reply left) here = absurd cc
server_gathering_is_open (server.LocateAnswered target here') here = absurd cc
server_gathering_is_open (server.Delivered request) here = absurd cc
server_gathering_is_open (server.Cancelled answered left) here = absurd cc

pub client_gathering_is_open : (entry : ClientEntry) → client_table.is_gathering entry ≡ true
    → client_table.is_closed entry ≡ false
client_gathering_is_open (client.Gathering call) here = refl
client_gathering_is_open (client.Sending call left) here = absurd cc
client_gathering_is_open (client.Waiting call) here = absurd cc
client_gathering_is_open (client.Done request reply) here = absurd cc
client_gathering_is_open (client.LocateDone request reply) here = absurd cc
client_gathering_is_open (client.Undecoded call fault) here = absurd cc
client_gathering_is_open (client.OnewaySent request) here = absurd cc
client_gathering_is_open (client.Cancelled late) here = absurd cc
