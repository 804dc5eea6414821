use Rattle.std.proofs.Common.{[], ◌∷◌, refl, arith}
use Rattle.std.specs.Int.{w32}
use Rattle.giop_cdr.specs.Layout.{chosen, number}
use Rattle.giop_cdr.specs.Spelling.{SpellsNumber}
use Rattle.giop_cdr.specs.declared.order.Order.TheVariants.{Little}
use Rattle.giop_msg.specs.Header.{header_fault, header_octets, header_of}
use Rattle.giop_msg.specs.RequestId.{request_id_layout}
use Rattle.giop_msg.specs.declared.kind.Kind.TheVariants.{LocateRequest}
use Rattle.giop_msg.specs.declared.version.Version.TheVariants.{V12}
use Rattle.laws_in_use.specs.Framed.{cancels, header, header_line}
use Rattle.laws_in_use.proofs.CdrSpelled.{are_octets, took}
use Rattle.laws_in_use.proofs.messages.a_header_and_an_id.Goals as goal

pub returns-clause-read : goal.returns-clause-read
unfolding header_octets
returns-clause-read c = (c.header_round_trip.ensures.written 64 header (omega arith)).0

pub returns-clause-octets : goal.returns-clause-octets
unfolding header_octets header_of header_fault
returns-clause-octets c = c.header_round_trip.ensures.read 64 header_line refl (are_octets header_line refl) refl

seven : SpellsNumber w32 Little 12 7 (7 ∷ 0 ∷ 0 ∷ 0 ∷ [])
seven = record { pads = []; octets = 7 ∷ 0 ∷ 0 ∷ 0 ∷ []; padded = refl; few = refl; whole = refl; value = refl }

pub returns-clause-id : goal.returns-clause-id
unfolding request_id_layout chosen number
returns-clause-id c = (c.request_ids.ensures.exact V12 LocateRequest _).only 7 _ (took (7 ∷ 0 ∷ 0 ∷ 0 ∷ []) [] seven)

pub returns-clause-there : goal.returns-clause-there
unfolding header_octets header_of header_fault
returns-clause-there c = c.request_ids.ensures.there 64 cancels (record { sized = omega arith; sound = refl }) refl refl
