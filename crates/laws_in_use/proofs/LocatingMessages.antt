-- The messages by which two objects are located: they are messages, and what they come to.
use Rattle.std.proofs.Common.{◌≡◌, ◌++◌, drop, Some, Ok, refl, arith}
use Rattle.giop_types.specs.declared.interfaces.interface.Interface.{Interface}
use Rattle.giop_cdr.specs.Layout.{number, signed, octets, such, field, gives, reserved, chosen}
use Rattle.giop_cdr.specs.Reading.Values.{count_at, field_at, number_at, octets_at, signed_at, such_at}
use Rattle.giop_cdr.specs.declared.fault.CdrKind.TheVariants.{BadCount}
use Rattle.giop_cdr.specs.declared.order.Order.TheVariants.{Big, Little}
use Rattle.giop_msg.specs.Header.{header_octets, header_of, header_fault}
use Rattle.giop_msg.specs.Joined.{whole_of_joined}
use Rattle.giop_msg.specs.Locate.{locate_request, located}
use Rattle.giop_msg.specs.Meaning.{meaning}
use Rattle.giop_msg.specs.Msg.{IsMessage}
use Rattle.giop_msg.specs.RequestId.{request_id_layout, request_id_of}
use Rattle.giop_msg.specs.Target.{disposition, key_target, object_key, target_by, target_layout}
use Rattle.giop_msg.specs.declared.messages.request_fault.RequestFault.TheVariants.{Header}
use Rattle.giop_msg.specs.declared.version.Version.TheVariants.{V10, V12}
use Rattle.giop_calls.specs.declared.kind.CallKind.TheVariants as kind
use Rattle.giop_calls.specs.declared.server.heard.HeardCall.{HeardCall}
use Rattle.giop_calls.specs.declared.server.heard.HeardCall.TheVariants as heard
use Rattle.giop_session.specs.Hearing.Decoding.{heard_call}
use Rattle.laws_in_use.specs.Locating.{bad, bad_octets, cancel_big, cancel_little, door, door_begins, door_ends, door_whole, key, key_big, key_little}

-- the messages are messages, each within the limit of its end
pub record AreMessages : Type 0 where
  pub door_begins : IsMessage 64 door_begins
  pub door_ends : IsMessage 64 door_ends
  pub key_little : IsMessage 64 key_little
  pub cancel_big : IsMessage 64 cancel_big
  pub bad_wide : IsMessage 64 bad
  pub bad_tight : IsMessage 16 bad
  pub key_big : IsMessage 16 key_big
  pub cancel_little : IsMessage 16 cancel_little
  pub door_whole : IsMessage 16 door_whole

pub messages : AreMessages
unfolding header_octets header_of header_fault
messages = record {
  door_begins = record { sized = omega arith; sound = refl };
  door_ends = record { sized = omega arith; sound = refl };
  key_little = record { sized = omega arith; sound = refl };
  cancel_big = record { sized = omega arith; sound = refl };
  bad_wide = record { sized = omega arith; sound = refl };
  bad_tight = record { sized = omega arith; sound = refl };
  key_big = record { sized = omega arith; sound = refl };
  cancel_little = record { sized = omega arith; sound = refl };
  door_whole = record { sized = omega arith; sound = refl };
}

-- and each names its id
pub record AreNamed : Type 0 where
  pub door_begins : request_id_of door_begins ≡ Some (Ok 7)
  pub door_ends : request_id_of door_ends ≡ Some (Ok 7)
  pub door_whole : request_id_of door_whole ≡ Some (Ok 7)
  pub key_big : request_id_of key_big ≡ Some (Ok 9)
  pub key_little : request_id_of key_little ≡ Some (Ok 9)
  pub cancel_big : request_id_of cancel_big ≡ Some (Ok 9)
  pub cancel_little : request_id_of cancel_little ≡ Some (Ok 9)
  pub bad : request_id_of bad ≡ Some (Ok 9)

pub named : AreNamed
unfolding request_id_layout chosen number number_at field_at
named = record {
  door_begins = refl;
  door_ends = refl;
  door_whole = refl;
  key_big = refl;
  key_little = refl;
  cancel_big = refl;
  cancel_little = refl;
  bad = refl;
}

-- the octets of a key are announced where the sequence begins, at 16, and aren't there
abbrev pub undecoded : HeardCall
undecoded = heard.Undecoded (record { version = V10; expects = Some kind.Locate; fault = Header (record { at = 16; kind = BadCount }) })

-- what they come to
pub record AreDecoded (interface : Interface) : Type 0 where
  pub door_joined : heard_call interface kind.Locate V12 Big (door_begins.payload ++ drop 4 door_ends.payload) ≡ heard.Locate door
  pub door_whole : heard_call interface kind.Locate V12 Little door_whole.payload ≡ heard.Locate door
  pub key_big : heard_call interface kind.Locate V10 Big key_big.payload ≡ heard.Locate key
  pub key_little : heard_call interface kind.Locate V10 Little key_little.payload ≡ heard.Locate key
  pub bad : heard_call interface kind.Locate V10 Big bad_octets ≡ undecoded

pub decoded : (interface : Interface) → AreDecoded interface
unfolding whole_of_joined locate_request located object_key meaning target_layout target_by disposition key_target
    number signed octets such field gives reserved chosen count_at field_at number_at octets_at signed_at such_at
decoded interface = record { door_joined = refl; door_whole = refl; key_big = refl; key_little = refl; bad = refl }
