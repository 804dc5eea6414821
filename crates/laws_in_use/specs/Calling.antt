-- What `call` is asked: `ping` of the object `k`, by an end that holds one call at most.
use Rattle.std.specs.Prelude.{◌≡◌, ℕ, false, List, [], ◌∷◌, ◌++◌, codes, Some, None}
use Rattle.giop_cdr.specs.declared.order.Order.TheVariants.{Big}
use Rattle.giop_types.specs.Objects.{offer_of}
use Rattle.giop_types.specs.declared.interfaces.interface.Interface.{Interface}
use Rattle.giop_msg.specs.Messages.Request.{operation_in}
use Rattle.giop_msg.specs.Msg.{message_octets}
use Rattle.giop_msg.specs.declared.version.Version.TheVariants.{V12}
use Rattle.giop_calls.specs.declared.client.call.Call.TheVariants as asked
use Rattle.giop_calls.specs.declared.client.entry.ClientEntry.{ClientEntry}
use Rattle.giop_calls.specs.declared.client.entry.ClientEntry.TheVariants.{Waiting}
use Rattle.giop_end.specs.declared.limits.Limits.{Limits}
use Rattle.giop_table.specs.CallTable.{Call, put_call}
use Rattle.giop_commands.specs.Session.Acts.{Outbox, outbox}
use Rattle.giop_asked_calls.specs.declared.calls.CallLine.{CallLine}
use Rattle.giop_calling.specs.Call.Calling.{Asked, ClientCalls, new_box}
use Rattle.laws_in_use.specs.Exchange.{ping}
use Rattle.laws_in_use.specs.Pinged.{ping_whole}

-- `ping` under an id
abbrev pub ping_line : ℕ → CallLine
ping_line id = record { id = id; operation = codes "ping"; oneway = false; ins = [] }

-- one call at a time
abbrev pub one_at_once : Limits
one_at_once = record { calls = 1; message = 64; gathered = 64 }

abbrev pub asked_for : Interface → List CallLine → Asked
asked_for interface calls = record {
  interface = interface;
  calls = calls;
  key = codes "k";
  version = V12;
  form = record { order = Big; piece = 64 };
  limits = one_at_once;
}

-- it is called under 7, and nothing is written yet
abbrev pub ping_waits : Call ClientEntry
ping_waits = record {
  slot = Some (record { entry = Waiting (asked.Request (ping V12)); unsent = [] });
  pieces = None;
}

abbrev pub has_called : Outbox ClientCalls
has_called =
    outbox (put_call (new_box one_at_once).calls 7 ping_waits) (message_octets ping_whole)

-- the object has no such operation
abbrev pub HasNoPing : Interface → Type 0
HasNoPing interface = operation_in (offer_of interface (codes "k")) (codes "ping") ≡ None

-- what is told of that
abbrev pub no_ping : List ℕ
no_ping = codes "fault 2 Call 7 8 UnknownOperation" ++ 10 ∷ []
