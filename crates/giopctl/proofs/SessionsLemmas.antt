-- What is told of a session.
use Rattle.std.proofs.Common.{◌≡◌, ℕ, List, ◌++◌, Option, Result, Ok, Err, IfOk, OnOk}
use Rattle.std.specs.Io.KnownBytes.{Appends}
use Rattle.giop_ids.specs.ById.{ById}
use Rattle.giop_types.specs.declared.json.interface.Interface.{Interface}
use Rattle.giop_calls.specs.declared.client.entry.ClientEntry.{ClientEntry}
use Rattle.giop_calls.specs.declared.server.entry.ServerEntry.{ServerEntry}
use Rattle.giop_session.specs.declared.session_fault.SessionFault.{SessionFault}
use Rattle.giop_session.specs.declared.slot.Slot.{Slot}
use Rattle.giopctl.specs.declared.failure.Failure.{Failure}
use Rattle.giopctl.specs.declared.status.Status.{Status}
use Rattle.giopctl.specs.declared.status.Status.TheVariants.{Done, Refused, Usage, InputOutput, Memory}
use Rattle.giopctl.specs.Dump.{ended}
use Rattle.giopctl.specs.Sessions.{Calls, IsCalled, IsServed, Serves, call_status, connection_line, serve_status, session_text, told}
use Rattle.giopctl.specs.Table.{client_entry_line, server_entry_line}

-- the table and the fault of a client's end
pub called : (interface : Interface) (old new : Option (List ℕ)) (table : ById (Slot ClientEntry)) (refused fault : Option SessionFault)
    (r : Result Status Failure)
    → OnOk r (Appends old new (session_text (client_entry_line interface) table (told refused fault)))
    → IfOk r (λ status. status ≡ call_status refused table) → IfOk r (IsCalled interface old new)
called interface old new table refused fault (Err failure) text is = tt
called interface old new table refused fault (Ok status) text is =
    record { table = table; refused = refused; fault = fault; text = text; is = is }

-- the same by its status
pub calls_told : (interface : Interface) (old new : Option (List ℕ)) (status : Status) → IsCalled interface old new status
    → Calls interface old new status
calls_told interface old new Done is = is
calls_told interface old new Refused is = is
calls_told interface old new Usage is = is
calls_told interface old new InputOutput is = tt
calls_told interface old new Memory is = tt

-- the number of a connection, the table and the fault of a server's end
pub served : (number : ℕ) (interface : Interface) (old new : Option (List ℕ)) (table : ById (Slot ServerEntry)) (fault : Option SessionFault)
    (r : Result Status Failure)
    → OnOk r (Appends old new (ended (connection_line number) ++ session_text (server_entry_line interface) table fault))
    → IfOk r (λ status. status ≡ serve_status fault) → IfOk r (IsServed number interface old new)
served number interface old new table fault (Err failure) text is = tt
served number interface old new table fault (Ok status) text is = record { table = table; fault = fault; text = text; is = is }

-- the same by its status
pub serves_told : (number : ℕ) (interface : Interface) (old new : Option (List ℕ)) (status : Status) → IsServed number interface old new status
    → Serves number interface old new status
serves_told number interface old new Done is = is
serves_told number interface old new Refused is = is
serves_told number interface old new Usage is = is
serves_told number interface old new InputOutput is = tt
serves_told number interface old new Memory is = tt
