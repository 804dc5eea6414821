-- What holds of whole messages.
use Rattle.std.specs.Prelude.{◌≡◌, ℕ, ◌↔◌, true, List, Option, Some, Result, Ok, Err}
use Rattle.giop_cdr.specs.declared.order.Order.{Order}
use Rattle.giop_cdr.specs.declared.fault.CdrFault.{CdrFault}
use Rattle.giop_cdr.specs.Reading.Cursor.{Cursor}
use Rattle.giop_cdr.specs.Layout.{AreOctets}
use Rattle.giop_cdr.specs.Ending.{Ending, IsExactToEnd}
use Rattle.giop_types.specs.declared.interfaces.interface.Interface.{Interface}
use Rattle.giop_types.specs.Objects.{offer_of}
use Rattle.giop_msg.specs.declared.messages.reply.Reply.{Reply}
use Rattle.giop_msg.specs.declared.messages.request.Request.{Request}
use Rattle.giop_msg.specs.declared.messages.request_fault.RequestFault.{RequestFault}
use Rattle.giop_msg.specs.declared.target.Target.TheVariants.{Key}
use Rattle.giop_msg.specs.declared.version.Version.{Version}
use Rattle.giop_msg.specs.Joined.{joined_from}
use Rattle.giop_msg.specs.Messages.Outcome.{Decodes, joined_into}
use Rattle.giop_msg.specs.Messages.Reply.{reply}
use Rattle.giop_msg.specs.Messages.Request.{request}
use Rattle.giop_msg.specs.Messages.RequestAnswer.{DecodesRequest, RefusedRequest, request_of_joined}
use Rattle.giop_msg.specs.RequestHead.{Head, request_head}

-- what holds of a whole message
pub record IsWhole {A : Type 0} (message : Ending A) : Type 0 where
  -- what is read is what all octets up to the end spell, and else the first refused field is
  -- reported
  pub exact : (c : Cursor) →
      IsExactToEnd (λ v. message.spells c.order c.at v c.rest) (message.refused c) (message.read c)
  -- whatever octets spell fits, and its numbers are in the ranges of their types
  pub fits : (order : Order) (at : ℕ) (v : A) (octets : List ℕ) → AreOctets octets →
      message.spells order at v octets → (message.fits v ≡ true) × message.holds v
  -- the joined octets that are written of a message that fits are read as that message
  pub back : (order : Order) (v : A) → message.fits v ≡ true → message.holds v →
      message.read (joined_from order (message.written v (joined_into order)).octets) ≡ Ok v

-- a Request is refused exactly as is said: of its head, its operation and its body the first part
-- that is refused is reported
abbrev pub RequestsAreRefused : Type 0
RequestsAreRefused =
    (interface : Interface) (version : Version) (order : Order) (octets : List ℕ)
    (e : RequestFault) →
    (request_of_joined interface version order octets ≡ Err e)
    ↔ RefusedRequest interface version (joined_from order octets) e

-- a refusal is reported, whether memory is there or not: where joined octets are refused as a
-- Request, whatever a call may return of them is the refusal
abbrev pub RequestRefusalsAreTold : Type 0
RequestRefusalsAreTold =
    (interface : Interface) (version : Version) (order : Order) (octets : List ℕ)
    (answer : Result Request RequestFault) (e : RequestFault) →
    DecodesRequest answer (request_of_joined interface version order octets) →
    RefusedRequest interface version (joined_from order octets) e → answer ≡ Err e

-- a refusal is reported, whether memory is there or not: where joined octets are refused as a
-- Reply, whatever a call may return of them is the refusal
abbrev pub ReplyRefusalsAreTold : Type 0
ReplyRefusalsAreTold =
    (interface : Interface) (asked : Option Request) (version : Version) (order : Order)
    (octets : List ℕ) (answer : Result Reply CdrFault) (e : CdrFault) →
    Decodes answer ((reply interface asked version).read (joined_from order octets)) →
    (reply interface asked version).refused (joined_from order octets) e → answer ≡ Err e

-- a Request is read back from the joined octets that are written of it
abbrev pub RequestsAreReadBack : Type 0
RequestsAreReadBack =
    (interface : Interface) (version : Version) (order : Order) (q : Request) →
    (request interface version).fits q ≡ true → (request interface version).holds q →
    request_of_joined interface version order
    ((request interface version).written q (joined_into order)).octets ≡ Ok q

-- what other objects offer changes no reading: where two interfaces offer the same at a key, both
-- read each Request of that key alike, and each Reply to it
abbrev pub ObjectsAreApart : Type 0
ObjectsAreApart =
    (one other : Interface) (key : List ℕ) → offer_of one key ≡ offer_of other key →
    ((version : Version) (order : Order) (octets : List ℕ) (head : Head) (after : Cursor) →
    (request_head version).read (joined_from order octets) ≡ Ok (head, after) →
    head.target ≡ Key key →
    request_of_joined one version order octets ≡ request_of_joined other version order octets)
    × ((asked : Request) (version : Version) (c : Cursor) → asked.head.target ≡ Key key →
    (reply one (Some asked) version).read c ≡ (reply other (Some asked) version).read c)
