-- What the bodies hold that stand in an entry of a table, as text.
use Rattle.std.specs.Prelude.{ℕ, List, []}
use Rattle.giop_types.specs.declared.interfaces.interface.Interface.{Interface}
use Rattle.giop_json.specs.declared.number_form.NumberForm.{NumberForm}
use Rattle.giop_calls.specs.declared.server.entry.ServerEntry.{ServerEntry}
use Rattle.giop_calls.specs.declared.server.entry.ServerEntry.TheVariants as server
use Rattle.giop_calls.specs.declared.client.entry.ClientEntry.{ClientEntry}
use Rattle.giop_calls.specs.declared.client.entry.ClientEntry.TheVariants as client
use Rattle.giop_show.specs.Bodies.{brought_by, request_ins}

-- the ins of the Request that stands at a server, where one was decoded and isn't answered
abbrev pub ins_text : NumberForm → Interface → ServerEntry → List ℕ
ins_text numbers interface (server.Asked request) = request_ins numbers interface request
ins_text numbers interface (server.Delivered request) = request_ins numbers interface request
ins_text numbers interface _ = []

-- what the Reply brought that stands at a client
abbrev pub brought_text : NumberForm → Interface → ClientEntry → List ℕ
brought_text numbers interface (client.Done request reply) = brought_by numbers interface request reply.body
brought_text numbers interface _ = []
