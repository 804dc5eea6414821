-- What an interface has by a name that a JSON value tells.
use Rattle.std.proofs.Common.{◌≡◌, ℕ, List, Option, Some, refl}
use Rattle.serde_json.specs.Data.{Data}
use Rattle.serde_json.specs.Find.{get}
use Rattle.giop_types.specs.declared.json.interface.Interface.{Interface}
use Rattle.giop_types.specs.declared.json.interface.Operation.{Operation}
use Rattle.giop_types.specs.declared.json.offer.Offer.{Offer}
use Rattle.giop_types.specs.declared.json.parameters.Parameters.{Parameters}
use Rattle.giop_msg.specs.Messages.Reply.{exception_in}
use Rattle.giop_msg.specs.Messages.Request.{operation_of}
use Rattle.giop_commands.specs.Call.Forms.{octets_in, call_of, call_named}
use Rattle.giop_commands.specs.Serve.AnswerForms.{raised, raised_in}
use Rattle.std.specs.Prelude.{codes}

-- a call by the operation that was found
pub call_found : (interface : Interface) (id name ins : Data) (octets slice : List ℕ) (o : Option Operation)
    → octets_in name ≡ Some octets → slice ≡ octets → o ≡ operation_of interface slice → call_named interface id name ins ≡ call_of octets id ins o
call_found interface id name ins octets slice o is same found = rw (is, found, same) refl

-- an exception by the members that were found
pub raised_found : (offer : Offer) (id d members : Data) (octets slice : List ℕ) (o : Option Parameters)
    → octets_in id ≡ Some octets → get (codes "members") d ≡ Some members → slice ≡ octets → o ≡ exception_in offer slice
    → raised_in offer id d ≡ raised octets members o
raised_found offer id d members octets slice o is there same found = rw (is, there, found, same) refl
