-- The messages by which a client is answered: they are messages, and what they come to.
use Rattle.std.proofs.Common.{◌≡◌, ◌++◌, drop, Some, Ok, Err, refl, arith}
use Rattle.giop_types.specs.declared.interfaces.interface.Interface.{Interface}
use Rattle.giop_cdr.specs.Ending.{leads, made_of, remainder}
use Rattle.giop_cdr.specs.Layout.{number, such, field, gives, chosen}
use Rattle.giop_cdr.specs.Reading.Values.{field_at, number_at, such_at}
use Rattle.giop_cdr.specs.declared.fault.CdrKind.TheVariants.{Short}
use Rattle.giop_cdr.specs.declared.order.Order.TheVariants.{Big, Little}
use Rattle.giop_msg.specs.Header.{header_octets, header_of, header_fault}
use Rattle.giop_msg.specs.Joined.{joined_from}
use Rattle.giop_msg.specs.Locate.{locate_reply_head, locate_status}
use Rattle.giop_msg.specs.Messages.LocateReply.{locate_reply}
use Rattle.giop_msg.specs.Msg.{IsMessage}
use Rattle.giop_msg.specs.RequestId.{request_id_layout, request_id_of}
use Rattle.giop_msg.specs.declared.version.Version.TheVariants.{V10, V12}
use Rattle.giop_calls.specs.declared.client.call.Call.TheVariants as asked
use Rattle.giop_calls.specs.declared.client.heard.HeardReply.TheVariants as heard
use Rattle.giop_session.specs.Hearing.ClientHears.{heard_reply}
use Rattle.laws_in_use.specs.Asking.{here, here_begins, here_ends, short, short_octets, unknown_big, unknown_key, unknown_little}
use Rattle.laws_in_use.specs.Locating.{door, here_little, key}

-- the messages are messages, each within the limit of its end
pub record AreMessages : Type 0 where
  pub here_begins : IsMessage 64 here_begins
  pub here_ends : IsMessage 64 here_ends
  pub unknown_little : IsMessage 64 unknown_little
  pub short_wide : IsMessage 64 short
  pub short_tight : IsMessage 16 short
  pub unknown_big : IsMessage 16 unknown_big
  pub here_little : IsMessage 16 here_little

pub messages : AreMessages
unfolding header_octets header_of header_fault
messages = record {
  here_begins = record { sized = omega arith; sound = refl };
  here_ends = record { sized = omega arith; sound = refl };
  unknown_little = record { sized = omega arith; sound = refl };
  short_wide = record { sized = omega arith; sound = refl };
  short_tight = record { sized = omega arith; sound = refl };
  unknown_big = record { sized = omega arith; sound = refl };
  here_little = record { sized = omega arith; sound = refl };
}

-- and each names its id
pub record AreNamed : Type 0 where
  pub here_begins : request_id_of here_begins ≡ Some (Ok 7)
  pub here_ends : request_id_of here_ends ≡ Some (Ok 7)
  pub here_little : request_id_of here_little ≡ Some (Ok 7)
  pub unknown_big : request_id_of unknown_big ≡ Some (Ok 9)
  pub unknown_little : request_id_of unknown_little ≡ Some (Ok 9)
  pub short : request_id_of short ≡ Some (Ok 9)

pub named : AreNamed
unfolding request_id_layout chosen number number_at field_at
named = record { here_begins = refl; here_ends = refl; here_little = refl; unknown_big = refl; unknown_little = refl; short = refl }

-- what reading these answers: the status begins at 16, and lacks an octet
pub record AreRead : Type 0 where
  pub here_joined : (locate_reply V12).read (joined_from Big (here_begins.payload ++ drop 4 here_ends.payload)) ≡ Ok here
  pub here_little : (locate_reply V12).read (joined_from Little here_little.payload) ≡ Ok here
  pub unknown_big : (locate_reply V10).read (joined_from Big unknown_big.payload) ≡ Ok unknown_key
  pub unknown_little : (locate_reply V10).read (joined_from Little unknown_little.payload) ≡ Ok unknown_key
  pub short : (locate_reply V10).read (joined_from Big short_octets) ≡ Err (record { at = 16; kind = Short })

pub read : AreRead
unfolding locate_reply locate_reply_head locate_status leads made_of remainder number such field gives field_at number_at such_at
read = record { here_joined = refl; here_little = refl; unknown_big = refl; unknown_little = refl; short = refl }

-- and what they come to, to the calls that wait for them
pub record AreDecoded (interface : Interface) : Type 0 where
  pub here_joined : heard_reply interface (asked.Locate door) V12 Big (here_begins.payload ++ drop 4 here_ends.payload) ≡ heard.Locate here
  pub here_little : heard_reply interface (asked.Locate door) V12 Little here_little.payload ≡ heard.Locate here
  pub short : heard_reply interface (asked.Locate key) V10 Big short_octets ≡ heard.Undecoded (record { at = 16; kind = Short })

pub decoded : (interface : Interface) → AreDecoded interface
unfolding locate_reply locate_reply_head locate_status leads made_of remainder number such field gives field_at number_at such_at
decoded interface = record { here_joined = refl; here_little = refl; short = refl }
