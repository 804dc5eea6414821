-- What a rule asks of a message.
use Rattle.std.specs.Prelude.{◌==◌, Bool, true, false}
use Rattle.giop_cdr.specs.declared.order.Order.{Order}
use Rattle.giop_cdr.specs.declared.order.Order.TheVariants.{Big, Little}
use Rattle.giop_msg.specs.declared.version.Version.{Version}
use Rattle.giop_msg.specs.Version.{minor_of}
use Rattle.giop_msg.specs.declared.messages.request.Request.{Request}
use Rattle.giop_msg.specs.declared.messages.reply_body.ReplyBody.{ReplyBody}
use Rattle.giop_msg.specs.declared.messages.reply_body.ReplyBody.TheVariants.{SystemException}

-- no reply is expected: the response flags are 0 (CORBA 3.3 Part 2, 9.4.2)
abbrev pub is_oneway : Request → Bool
is_oneway request = request.head.flags == 0

-- two versions are one
abbrev pub is_same_version : Version → Version → Bool
is_same_version one other = minor_of one == minor_of other

-- two byte orders are one
abbrev pub is_same_order : Order → Order → Bool
is_same_order Big Big = true
is_same_order Little Little = true
is_same_order Big Little = false
is_same_order Little Big = false

-- the reply is a system exception (9.4.3)
abbrev pub is_system_exception : ReplyBody → Bool
is_system_exception (SystemException id minor completion) = true
is_system_exception _ = false
