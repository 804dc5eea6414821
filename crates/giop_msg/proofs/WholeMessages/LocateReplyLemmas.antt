-- The table of a LocateReply is lawful.
use Rattle.std.proofs.Common.{◌≡◌, ℕ, ◌&&◌, Bool, true, false, List, refl, ap}
use Rattle.giop_cdr.specs.declared.order.Order.{Order}
use Rattle.giop_cdr.specs.Layout.{AreOctets}
use Rattle.giop_cdr.specs.Ending.{IsLawfulEnding, leads, made_of, remainder}
use Rattle.giop_cdr.proofs.EndingLemmas.{leads_is, made_of_is, remainder_is, never_ends}
use Rattle.giop_msg.specs.declared.messages.locate_reply.LocateReply.{LocateReply}
use Rattle.giop_msg.specs.declared.version.Version.{Version}
use Rattle.giop_msg.specs.Locate.{locate_reply_head}
use Rattle.giop_msg.specs.Messages.LocateReply.{locate_reply}
use Rattle.giop_msg.proofs.LocateLemmas.{locate_reply_head_is}

pub locate_reply_is : (version : Version) → IsLawfulEnding (locate_reply version)
unfolding locate_reply
locate_reply_is version =
    leads_is _ (λ head v _ _ held. unfold made_of in ap (λ reply. reply.head) held.0)
    (locate_reply_head_is version)
    (λ head. made_of_is _ _ (λ rest. refl) remainder_is)

pub locate_reply_unspelled : (version : Version) (reply : LocateReply)
    → (locate_reply version).fits reply ≡ false → (order : Order) (at : ℕ)
    (octets : List ℕ) → AreOctets octets → (locate_reply version).spells order at reply octets → ⊥
locate_reply_unspelled version = never_ends (locate_reply_is version)

and_nothing : (b : Bool) → (b && true) ≡ b
and_nothing true = refl
and_nothing false = refl

-- a LocateReply fits where its head does
pub locate_reply_fits : (version : Version) (reply : LocateReply)
    → (locate_reply version).fits reply ≡ (locate_reply_head version).fits reply.head
unfolding locate_reply leads made_of remainder
locate_reply_fits version reply = and_nothing ((locate_reply_head version).fits reply.head)
