use Rattle.std.proofs.Common.{◌≡◌, [], ◌∷◌, true, refl, rules}
use Rattle.giop_cdr.specs.Layout.{boolean, chosen, field, gives, number, octets, reserved, sequence, signed, such, tagged, text}
use Rattle.giop_cdr.specs.Writing.Output.{items_out, number_out, octets_out, sequence_out, signed_out, string_out}
use Rattle.giop_cdr.specs.declared.order.Order.TheVariants.{Big, Little}
use Rattle.giop_ior.specs.ServiceContext.{service_context, service_contexts}
use Rattle.giop_msg.specs.Locate.{locate_reply_head, locate_status}
use Rattle.giop_msg.specs.ReplyHead.{early_reply_head, reply_head, reply_status}
use Rattle.giop_msg.specs.RequestHead.{request_head, request_head_1_2, reserved_octet, reserved_octets, response_flags}
use Rattle.giop_msg.specs.Target.{disposition, key_target, target_by, target_layout}
use Rattle.giop_msg.specs.declared.version.Version.TheVariants.{V10, V11, V12}
use Rattle.laws_in_use.specs.Framed.{asked_head, located_head, replied_head}
use Rattle.laws_in_use.proofs.CdrSpelled.{again}
use Rattle.laws_in_use.proofs.messages.heads_in_three_versions.Goals as goal

asked_fits : (request_head V12).fits asked_head ≡ true
unfolding request_head request_head_1_2 response_flags reserved_octets reserved_octet target_layout disposition target_by key_target
    service_contexts service_context tagged boolean chosen field gives number octets reserved sequence signed such text
asked_fits = refl

asked_holds : (request_head V12).holds asked_head
unfolding request_head request_head_1_2 response_flags reserved_octets reserved_octet target_layout disposition target_by key_target
    service_contexts service_context tagged boolean chosen field gives number octets reserved sequence signed such text
asked_holds = search rules

replied_fits : (reply_head V11).fits replied_head ≡ true
unfolding reply_head early_reply_head reply_status service_contexts service_context tagged field gives number octets sequence such
replied_fits = refl

replied_holds : (reply_head V11).holds replied_head
unfolding reply_head early_reply_head reply_status service_contexts service_context tagged field gives number octets sequence such
replied_holds = search rules

located_fits : (locate_reply_head V10).fits located_head ≡ true
unfolding locate_reply_head locate_status field gives number such
located_fits = refl

located_holds : (locate_reply_head V10).holds located_head
unfolding locate_reply_head locate_status field gives number such
located_holds = search rules

pub returns-clause-asked : goal.returns-clause-asked
unfolding request_head request_head_1_2 response_flags reserved_octets reserved_octet target_layout disposition target_by key_target
    service_contexts service_context tagged boolean chosen field gives number octets reserved sequence signed such text
    items_out number_out octets_out sequence_out signed_out string_out
returns-clause-asked c =
    again ((c.request_heads_are_spelled.ensures V12).back asked_head (record { order = Big; at = 12; octets = [] }) asked_fits asked_holds) refl (9 ∷ [])

pub returns-clause-replied : goal.returns-clause-replied
unfolding reply_head early_reply_head reply_status service_contexts service_context tagged field gives number octets sequence such
    items_out number_out octets_out sequence_out
returns-clause-replied c =
    again ((c.reply_heads_are_spelled.ensures V11).back replied_head (record { order = Little; at = 12; octets = [] }) replied_fits replied_holds) refl (9 ∷ [])

pub returns-clause-located : goal.returns-clause-located
unfolding locate_reply_head locate_status field gives number such number_out
returns-clause-located c =
    again ((c.locate_reply_heads_are_spelled.ensures V10).back located_head (record { order = Big; at = 12; octets = [] }) located_fits located_holds) refl
    (9 ∷ [])
