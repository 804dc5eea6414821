-- What an interface has by the id of an exception that a JSON value tells.
use Rattle.std.proofs.Common.{◌≡◌, ℕ, List, Option, Some, refl}
use Rattle.serde_json.specs.Data.{Data}
use Rattle.serde_json.specs.Find.{get}
use Rattle.giop_types.specs.declared.interfaces.offer.Offer.{Offer}
use Rattle.giop_types.specs.declared.interfaces.parameters.Parameters.{Parameters}
use Rattle.giop_msg.specs.Messages.Reply.{exception_in}
use Rattle.giop_commands.specs.Session.Forms.{octets_in}
use Rattle.giop_serving.specs.Serve.AnswerForms.{raised, raised_in}
use Rattle.std.specs.Prelude.{codes}

-- an exception by the members that were found
pub raised_found : (offer : Offer) (id d members : Data) (octets slice : List ℕ) (o : Option Parameters)
    → octets_in id ≡ Some octets → get (codes "members") d ≡ Some members → slice ≡ octets → o ≡ exception_in offer slice
    → raised_in offer id d ≡ raised octets members o
raised_found offer id d members octets slice o is there same found = rw (is, there, found, same) refl
