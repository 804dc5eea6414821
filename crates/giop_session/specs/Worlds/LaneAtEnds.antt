-- What an end hears, as messages of a lane, and the pieces that a call has gathered at an end
-- (CORBA 3.3 Part 2, 9.4.1 and 9.4.9).
use Rattle.std.specs.Prelude.{◌≡◌, ◌⊎◌, ◌+◌, ◌<◌, Bool, not, List, ◌∷◌, length, Option, Some}
use Rattle.std.specs.FinMap as finite
use Rattle.giop_frag.specs.Gathered.{Pieces, total_of}
use Rattle.giop_msg.specs.Cut.{joined}
use Rattle.giop_msg.specs.declared.kind.Kind.{Kind}
use Rattle.giop_msg.specs.declared.kind.Kind.TheVariants as message
use Rattle.giop_msg.specs.declared.msg.Msg.{Msg}
use Rattle.giop_msg.specs.declared.version.Version.{Version}
use Rattle.giop_calls.specs.Lane.{Continues, Cut, Message, Opens, Stops, fragments, is_last, pieces_of}
use Rattle.giop_calls.specs.declared.kind.CallKind.{CallKind}
use Rattle.giop_calls.specs.declared.kind.CallKind.TheVariants as kind
use Rattle.giop_end.specs.declared.session_fault.SessionFault.{SessionFault}
use Rattle.giop_end.specs.declared.session_fault.SessionFault.TheVariants.{GatherFull, NoMemory, TooManyCalls}
use Rattle.giop_table.specs.CallTable.{Call, Held}

-- a message of this type and version, of which more is announced or not; the two that name no id
-- are on no lane
abbrev pub seen_as : Kind → Version → Bool → Msg → Message
seen_as message.Request version more m = Opens kind.Request version (not more) m
seen_as message.Reply version more m = Opens kind.Request version (not more) m
seen_as message.LocateRequest version more m = Opens kind.Locate version (not more) m
seen_as message.LocateReply version more m = Opens kind.Locate version (not more) m
seen_as message.Fragment version more m = Continues (not more) m
seen_as _ version more m = Stops

-- what a message is on the lane of its id, by its header alone
abbrev pub seen : Msg → Message
seen m = seen_as m.kind m.version m.more m

-- a message in these pieces, as a lane carries them
abbrev pub carried : CallKind → Version → Cut → List Message
carried kind version cut =
    Opens kind version (is_last cut.rest) cut.first ∷ fragments cut.rest

-- these pieces, as an end has gathered them: their joined octets, in the byte order of the first
abbrev pub gathered_in : Cut → Option Pieces
gathered_in cut = Some (record { order = cut.first.order; octets = joined (pieces_of cut) })

-- a call with this entry, whose reply or which itself has come so far in these pieces
abbrev pub gathers : {E : Type 0} → E → List Msg → Cut → Call E
gathers entry unsent cut = record {
  slot = Some (record { entry = entry; unsent = unsent });
  pieces = gathered_in cut;
}

-- why an end refuses a message that its rule doesn't: it has as many calls as it may have; the
-- octets of the message would be too many to be gathered; or it is out of memory
abbrev pub IsOfLimit : {R E : Type 0} → Msg → Held R E → SessionFault → Type 0
IsOfLimit m h why =
    ((why ≡ TooManyCalls) × (finite.len h.table ≡ h.calls))
    ⊎ (((why ≡ GatherFull) × (h.room < total_of h.gathered + length m.payload))
    ⊎ (why ≡ NoMemory))
