-- The tables of a Reply's head are lawful.
use Rattle.std.proofs.Common.{refl}
use Rattle.std.specs.Int.{w32}
use Rattle.giop_cdr.specs.Layout.{IsLawful, field, gives}
use Rattle.giop_cdr.proofs.LayoutLemmas.{number_is, such_is, field_is, gives_is}
use Rattle.giop_ior.proofs.ServiceContextLemmas.{service_contexts_are}
use Rattle.giop_msg.specs.declared.version.Version.{Version}
use Rattle.giop_msg.specs.declared.version.Version.TheVariants.{V10, V11, V12}
use Rattle.giop_msg.specs.ReplyHead.{reply_status, reply_head_1_2, early_reply_head, reply_head}

reply_status_is : (version : Version) → IsLawful (reply_status version)
unfolding reply_status
reply_status_is version = such_is _ _ _ (number_is w32 refl)

reply_head_1_2_is : IsLawful reply_head_1_2
unfolding reply_head_1_2
reply_head_1_2_is =
    field_is _ (λ _ _ _ _ held. unfold field gives in cc) (number_is w32 refl)
    (λ _. field_is _ (λ _ _ _ _ held. unfold field gives in cc) (reply_status_is V12)
    (λ _. field_is _ (λ _ _ _ _ held. unfold field gives in cc) service_contexts_are
    (λ _. gives_is _)))

early_reply_head_is : (version : Version) → IsLawful (early_reply_head version)
unfolding early_reply_head
early_reply_head_is version =
    field_is _ (λ _ _ _ _ held. unfold field gives in cc) service_contexts_are
    (λ _. field_is _ (λ _ _ _ _ held. unfold field gives in cc) (number_is w32 refl)
    (λ _. field_is _ (λ _ _ _ _ held. unfold field gives in cc) (reply_status_is version)
    (λ _. gives_is _)))

pub reply_head_is : (version : Version) → IsLawful (reply_head version)
unfolding reply_head
reply_head_is V10 = early_reply_head_is V10
reply_head_is V11 = early_reply_head_is V11
reply_head_is V12 = reply_head_1_2_is
