-- The tables of LocateRequest and LocateReply are lawful.
use Rattle.std.proofs.Common.{◌≡◌, ℕ, false, List, refl}
use Rattle.std.specs.Int.{w32}
use Rattle.giop_cdr.specs.declared.order.Order.{Order}
use Rattle.giop_cdr.specs.Layout.{IsLawful, AreOctets, field, gives}
use Rattle.giop_cdr.proofs.LayoutLemmas.{number_is, such_is, field_is, gives_is, unspelled}
use Rattle.giop_msg.specs.declared.version.Version.{Version}
use Rattle.giop_msg.specs.declared.version.Version.TheVariants.{V10, V11, V12}
use Rattle.giop_msg.specs.Locate.{AnyLocateRequest, located, locate_request, locate_status, locate_reply_head}
use Rattle.giop_msg.proofs.TargetLemmas.{target_is, object_key_is}

located_is : (version : Version) → IsLawful (located version)
unfolding located
located_is V10 = object_key_is
located_is V11 = object_key_is
located_is V12 = target_is

pub locate_request_is : (version : Version) → IsLawful (locate_request version)
unfolding locate_request
locate_request_is version =
    field_is _ (λ _ _ _ _ held. unfold field gives in cc) (number_is w32 refl)
    (λ _. field_is _ (λ _ _ _ _ held. unfold field gives in cc) (located_is version)
    (λ _. gives_is _))

locate_status_is : (version : Version) → IsLawful (locate_status version)
unfolding locate_status
locate_status_is version = such_is _ _ _ (number_is w32 refl)

pub locate_reply_head_is : (version : Version) → IsLawful (locate_reply_head version)
unfolding locate_reply_head
locate_reply_head_is version =
    field_is _ (λ _ _ _ _ held. unfold field gives in cc) (number_is w32 refl)
    (λ _. field_is _ (λ _ _ _ _ held. unfold field gives in cc) (locate_status_is version)
    (λ _. gives_is _))

-- what doesn't fit is spelled by no octets
pub request_unspelled : (version : Version) (request : AnyLocateRequest) → (locate_request version).fits request ≡ false
    → (order : Order) (at : ℕ) (octets : List ℕ) → AreOctets octets → (locate_request version).spells order at request octets → ⊥
request_unspelled version = unspelled (locate_request_is version)
