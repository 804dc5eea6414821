-- The LocateReply to a LocateRequest is eight octets: its request id and its status.
use Rattle.std.proofs.Common.{◌≡◌, ℕ, List, [], length, ◌<◌, ◌^◌, refl, ap, arith, ◌∙◌}
use Rattle.giop_cdr.specs.declared.order.Order.{Order}
use Rattle.giop_cdr.specs.declared.order.Order.TheVariants.{Big, Little}
use Rattle.giop_cdr.specs.Ending.{leads, made_of, remainder}
use Rattle.giop_cdr.specs.Layout.{field, gives, such, number}
use Rattle.giop_cdr.specs.Writing.Output.{number_out}
use Rattle.giop_msg.specs.Locate.{locate_reply_head, locate_status}
use Rattle.giop_msg.specs.Messages.LocateReply.{locate_reply}
use Rattle.giop_msg.specs.declared.version.Version.{Version}
use Rattle.giop_msg.specs.declared.version.Version.TheVariants.{V10, V11, V12}
use Rattle.giop_msg.specs.Messages.Outcome.{joined_into}

pub located_eight : (version : Version) (order : Order) (id status : ℕ)
    → length ((locate_reply version).written (record {
      head = record { version = version; id = id; status = status };
      rest = [];
    }) (joined_into order)).octets ≡ 8
located_eight V10 Big id status =
    unfold locate_reply leads made_of remainder locate_reply_head field gives locate_status such
    number number_out in refl
located_eight V10 Little id status =
    unfold locate_reply leads made_of remainder locate_reply_head field gives locate_status such
    number number_out in refl
located_eight V11 Big id status =
    unfold locate_reply leads made_of remainder locate_reply_head field gives locate_status such
    number number_out in refl
located_eight V11 Little id status =
    unfold locate_reply leads made_of remainder locate_reply_head field gives locate_status such
    number number_out in refl
located_eight V12 Big id status =
    unfold locate_reply leads made_of remainder locate_reply_head field gives locate_status such
    number number_out in refl
located_eight V12 Little id status =
    unfold locate_reply leads made_of remainder locate_reply_head field gives locate_status such
    number number_out in refl

pub located_short : (version : Version) (order : Order) (id status : ℕ) (octets : List ℕ)
    → octets ≡ ((locate_reply version).written (record {
      head = record { version = version; id = id; status = status };
      rest = [];
    }) (joined_into order)).octets
    → length octets < 2 ^ 32
located_short version order id status octets is =
    let eight = ap length is ∙ located_eight version order id status in omega (arith, eight)
