-- Octets that the rules of 9.4.1 and 9.4.9 give, worked by hand, so that a wrong definition does not check.
use Rattle.std.proofs.Common.{◌≡◌, ℕ, false, List, [], ◌∷◌, ◌++◌, length, Ok, Some, None, refl, arith}
use Rattle.std.specs.List.{flat_map}
use Rattle.std.proofs.lemmas.List.Elements.{All-append}
use Rattle.giop_cdr.specs.declared.order.Order.{Order}
use Rattle.giop_cdr.specs.declared.order.Order.TheVariants.{Big, Little}
use Rattle.giop_msg.specs.declared.fault.WireKind.TheVariants.{BadMagic, BadVersion, ReservedFlags, BadKind, TooLarge, BadSize, FragmentSize, NotFragmentable}
use Rattle.giop_msg.specs.declared.kind.Kind.{Kind}
use Rattle.giop_msg.specs.declared.kind.Kind.TheVariants.{Request, CancelRequest, CloseConnection}
use Rattle.giop_msg.specs.declared.msg.Msg.{Msg}
use Rattle.giop_cdr.specs.Writing.Output.{Output, number_out, signed_out, octets_out, string_out, sequence_out, items_out}
use Rattle.giop_cdr.specs.Layout.{number, signed, octets, text, such, field, gives, reserved, chosen, sequence, tagged}
use Rattle.giop_msg.specs.declared.target.Target.TheVariants.{Key}
use Rattle.giop_ior.specs.ServiceContext.{service_context, service_contexts}
use Rattle.giop_msg.specs.Target.{target_layout, target_by, disposition, key_target}
use Rattle.giop_msg.specs.RequestHead.{Head, request_head, request_head_1_2, response_flags, reserved_octets, reserved_octet}
use Rattle.giop_msg.specs.Fault.{fault}
use Rattle.giop_msg.specs.declared.version.Version.TheVariants.{V12}
use Rattle.giop_cdr.specs.Reading.Values.{number_at, field_at}
use Rattle.giop_msg.specs.Header.{header_octets, header_of, header_fault}
use Rattle.giop_msg.specs.Msg.{message_octets, IsMessage}
use Rattle.giop_msg.specs.RequestId.{request_id_layout, request_id_of}
use Rattle.giop_msg.specs.Stream.{Msgs}
use Rattle.giop_msg.proofs.FramerLemmas.{waits_for_header}
use Rattle.giop_msg.proofs.StreamLemmas.{each_one}

-- "GIOP" and the version, with the flags, the message type and the size behind them
abbrev front_of : ℕ → ℕ → ℕ → List ℕ → List ℕ
front_of minor flags kind size = 0x47 ∷ 0x49 ∷ 0x4F ∷ 0x50 ∷ 1 ∷ minor ∷ flags ∷ kind ∷ size

abbrev front : ℕ → ℕ → List ℕ → List ℕ
front = front_of 2

abbrev octets4 : ℕ → ℕ → ℕ → ℕ → List ℕ
octets4 a b c d = a ∷ b ∷ c ∷ d ∷ []

abbrev message : Order → Kind → List ℕ → Msg
message order kind payload = record { version = V12; order = order; more = false; kind = kind; payload = payload }

-- the octets of a Request of id 1 for `ping` behind its header
abbrev ping_payload : List ℕ
ping_payload =
    octets4 0 0 0 1 ++ octets4 3 0 0 0 ++ octets4 0 0 0 0 ++ octets4 0 0 0 1 ++ octets4 0x6B 0 0 0
    ++ octets4 0 0 0 5 ++ octets4 0x70 0x69 0x6E 0x67 ++ octets4 0 0 0 0 ++ octets4 0 0 0 0

abbrev ping : Msg
ping = message Big Request ping_payload

abbrev close : Msg
close = message Big CloseConnection []

-- the octets of both messages, as they are on the wire
abbrev ping_and_close : List ℕ
ping_and_close = (front 0 0 (octets4 0 0 0 0x24) ++ ping_payload) ++ front 0 5 (octets4 0 0 0 0)

record AreMessages : Type 0 where
  pub ping_is : IsMessage 36 ping
  pub ping_id : request_id_of ping ≡ Some (Ok 1)
  pub close_is : IsMessage 0 close
  pub close_id : request_id_of close ≡ None
  pub both : flat_map message_octets (ping ∷ close ∷ []) ≡ ping_and_close
  pub sixty : length ping_and_close ≡ 60

messages : AreMessages
unfolding header_octets header_of header_fault request_id_layout chosen number number_at field_at
messages = record {
  ping_is = record { sized = omega arith; sound = refl };
  ping_id = refl;
  close_is = record { sized = omega arith; sound = refl };
  close_id = refl;
  both = refl;
  sixty = refl;
}

-- a cancel of id 5 in either byte order
record AreCancels : Type 0 where
  pub big : message_octets (message Big CancelRequest (octets4 0 0 0 5)) ≡ front 0 2 (octets4 0 0 0 4) ++ octets4 0 0 0 5
  pub little : message_octets (message Little CancelRequest (octets4 5 0 0 0)) ≡ front 1 2 (octets4 4 0 0 0) ++ octets4 5 0 0 0
  pub big_id : request_id_of (message Big CancelRequest (octets4 0 0 0 5)) ≡ Some (Ok 5)
  pub little_id : request_id_of (message Little CancelRequest (octets4 5 0 0 0)) ≡ Some (Ok 5)

cancels : AreCancels
unfolding header_octets request_id_layout chosen number number_at field_at
cancels = record { big = refl; little = refl; big_id = refl; little_id = refl }

-- what is wrong with headers, each test at its least and greatest failing value, where sizes are at most 1,024
record AreFaults : Type 0 where
  pub magic : header_fault 1024 (0x47 ∷ 0x49 ∷ 0x4F ∷ 0x51 ∷ 1 ∷ 2 ∷ 0 ∷ 5 ∷ octets4 0 0 0 0) ≡ Some (fault 3 BadMagic)
  pub first_of_two : header_fault 1024 (0x47 ∷ 0x69 ∷ 0x4F ∷ 0x51 ∷ 1 ∷ 3 ∷ 0 ∷ 5 ∷ octets4 0 0 0 0) ≡ Some (fault 1 BadMagic)
  pub major : header_fault 1024 (0x47 ∷ 0x49 ∷ 0x4F ∷ 0x50 ∷ 2 ∷ 3 ∷ 0 ∷ 5 ∷ octets4 0 0 0 0) ≡ Some (fault 4 BadVersion)
  pub minor : header_fault 1024 (0x47 ∷ 0x49 ∷ 0x4F ∷ 0x50 ∷ 1 ∷ 3 ∷ 0 ∷ 5 ∷ octets4 0 0 0 0) ≡ Some (fault 5 BadVersion)
  pub bit_2 : header_fault 1024 (front 4 8 (octets4 0 0 0 0)) ≡ Some (fault 6 ReservedFlags)
  pub bit_7 : header_fault 1024 (front 128 5 (octets4 0 0 0 0)) ≡ Some (fault 6 ReservedFlags)
  pub eight : header_fault 1024 (front 0 8 (octets4 255 0 0 0)) ≡ Some (fault 7 BadKind)
  pub limit : header_fault 1024 (front 0 0 (octets4 0 0 4 0)) ≡ None
  pub above_limit : header_fault 1024 (front 0 0 (octets4 0 0 4 1)) ≡ Some (fault 8 TooLarge)
  pub above_limit_little : header_fault 1024 (front 1 5 (octets4 1 4 0 0)) ≡ Some (fault 8 TooLarge)
  pub no_id : header_fault 1024 (front 2 0 (octets4 0 0 0 3)) ≡ Some (fault 8 BadSize)
  pub id_alone : header_fault 1024 (front 0 7 (octets4 0 0 0 4)) ≡ None
  pub long_cancel : header_fault 1024 (front 1 2 (octets4 5 0 0 0)) ≡ Some (fault 8 BadSize)
  pub long_close : header_fault 1024 (front 0 5 (octets4 0 0 0 1)) ≡ Some (fault 8 BadSize)
  pub odd_fragment : header_fault 1024 (front 2 0 (octets4 0 0 0 0x20)) ≡ Some (fault 8 FragmentSize)
  pub whole_fragment : header_fault 1024 (front 3 7 (octets4 12 0 0 0)) ≡ None
  pub more_of_close : header_fault 1024 (front 2 5 (octets4 0 0 0 0)) ≡ Some (fault 8 FragmentSize)
  pub more_of_cancel : header_fault 1024 (front 2 2 (octets4 0 0 0 4)) ≡ Some (fault 6 NotFragmentable)
  pub minor_3 : header_fault 1024 (front_of 3 4 8 (octets4 0 0 0 0)) ≡ Some (fault 5 BadVersion)
  pub order_2_in_1_0 : header_fault 1024 (front_of 0 2 8 (octets4 0 0 0 0)) ≡ Some (fault 6 ReservedFlags)
  pub order_1_in_1_0 : header_fault 1024 (front_of 0 1 0 (octets4 4 0 0 0)) ≡ None
  pub fragment_in_1_0 : header_fault 1024 (front_of 0 0 7 (octets4 0 0 0 4)) ≡ Some (fault 7 BadKind)
  pub fragment_in_1_1 : header_fault 1024 (front_of 1 2 7 (octets4 0 0 0 4)) ≡ Some (fault 7 BadKind)
  pub flags_4_in_1_1 : header_fault 1024 (front_of 1 4 0 (octets4 0 0 0 4)) ≡ Some (fault 6 ReservedFlags)
  pub more_in_1_1 : header_fault 1024 (front_of 1 2 0 (octets4 0 0 0 8)) ≡ Some (fault 6 NotFragmentable)

faults : AreFaults
unfolding header_fault header_of
faults = record {
  magic = refl;
  first_of_two = refl;
  major = refl;
  minor = refl;
  bit_2 = refl;
  bit_7 = refl;
  eight = refl;
  limit = refl;
  above_limit = refl;
  above_limit_little = refl;
  no_id = refl;
  id_alone = refl;
  long_cancel = refl;
  long_close = refl;
  odd_fragment = refl;
  whole_fragment = refl;
  more_of_close = refl;
  more_of_cancel = refl;
  minor_3 = refl;
  order_2_in_1_0 = refl;
  order_1_in_1_0 = refl;
  fragment_in_1_0 = refl;
  fragment_in_1_1 = refl;
  flags_4_in_1_1 = refl;
  more_in_1_1 = refl;
}

-- the front of a third message, without its last octet
abbrev eleven : List ℕ
eleven = 0x47 ∷ 0x49 ∷ 0x4F ∷ 0x50 ∷ 1 ∷ 2 ∷ 0 ∷ 5 ∷ 0 ∷ 0 ∷ 0 ∷ []

-- the two messages are the split of their octets and of these behind them
split : Msgs 1024 (ping_and_close ++ eleven) (ping ∷ close ∷ []) eleven
unfolding header_octets header_of header_fault
split = record {
  whole = refl;
  each = All-append (IsMessage 1024) (ping ∷ []) (close ∷ [])
      (each_one 1024 ping (record { sized = omega arith; sound = refl })) (each_one 1024 close (record { sized = omega arith; sound = refl }));
  partial = (waits_for_header 1024 eleven (omega arith)).no_message;
}

-- ---- the head of a Request, worked by the table of 9.4.2.1

-- a request of id 1 for `ping` of the object `k`, which asks for a reply
abbrev ping_head : Head
ping_head = record { version = V12; id = 1; flags = 3; target = Key (0x6B ∷ []); operation = 0x70 ∷ 0x69 ∷ 0x6E ∷ 0x67 ∷ []; contexts = [] }

-- a request of id 2 for `a` of the object without a key, with the context 9 of one octet
abbrev context_head : Head
context_head = record {
  version = V12;
  id = 2;
  flags = 1;
  target = Key [];
  operation = 0x61 ∷ [];
  contexts = record { id = 9; octets = 0xAA ∷ [] } ∷ [];
}

abbrev context_octets : List ℕ
context_octets =
    octets4 2 0 0 0 ++ octets4 1 0 0 0 ++ octets4 0 0 0 0 ++ octets4 0 0 0 0 ++ octets4 2 0 0 0 ++ octets4 0x61 0 0 0
    ++ octets4 1 0 0 0 ++ octets4 9 0 0 0 ++ octets4 1 0 0 0 ++ 0xAA ∷ []

abbrev behind_header : Order → Output
behind_header order = record { order = order; at = 12; octets = [] }

record AreHeads : Type 0 where
  pub ping_octets : ((request_head V12).written ping_head (behind_header Big)).octets ≡ ping_payload
  pub context_octets_are : ((request_head V12).written context_head (behind_header Little)).octets ≡ context_octets

heads : AreHeads
unfolding request_head request_head_1_2 response_flags reserved_octets reserved_octet target_layout target_by disposition key_target chosen
    service_contexts service_context number signed octets text such field gives reserved sequence tagged
    number_out signed_out octets_out string_out sequence_out items_out
heads = record { ping_octets = refl; context_octets_are = refl }
