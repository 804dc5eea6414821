-- What an interface has by the name of an operation that a JSON value tells.
use Rattle.std.proofs.Common.{◌≡◌, ℕ, List, Option, Some, refl}
use Rattle.serde_json.specs.Data.{Data}
use Rattle.giop_types.specs.declared.interfaces.interface.Interface.{Interface}
use Rattle.giop_types.specs.declared.interfaces.interface.Operation.{Operation}
use Rattle.giop_msg.specs.Messages.Request.{operation_of}
use Rattle.giop_commands.specs.Session.Forms.{octets_in}
use Rattle.giop_asked_calls.specs.Forms.{call_of, call_named}

-- a call by the operation that was found
pub call_found : (interface : Interface) (id name ins : Data) (octets slice : List ℕ) (o : Option Operation)
    → octets_in name ≡ Some octets → slice ≡ octets → o ≡ operation_of interface slice → call_named interface id name ins ≡ call_of octets id ins o
call_found interface id name ins octets slice o is same found = rw (is, found, same) refl
