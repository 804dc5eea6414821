-- The fields up to a request id: they are lawful, and a message that begins with its id has one.
use Rattle.std.proofs.Common.{◌≡◌, ℕ, true, false, nat_le, nat_lt, [], length, take, Result, Ok, Err, Some, refl, arith}
use Rattle.std.proofs.lemmas.Bool.Decides.{nat_tests}
use Rattle.std.specs.Int.{w32}
use Rattle.giop_cdr.specs.declared.fault.CdrFault.{CdrFault}
use Rattle.giop_cdr.specs.Reading.Cursor.{Cursor, num}
use Rattle.giop_cdr.specs.Reading.Outcome.{Exactly}
use Rattle.giop_cdr.specs.Reading.Values.{Reading, number_at, field_at}
use Rattle.giop_cdr.specs.Layout.{IsLawful, number, reserved, sequence, chosen, gives}
use Rattle.giop_cdr.proofs.LayoutLemmas.{number_is, field_is, gives_is, reserved_is, chosen_is}
use Rattle.giop_msg.specs.declared.kind.Kind.{Kind}
use Rattle.giop_msg.specs.declared.msg.Msg.{Msg}
use Rattle.giop_msg.specs.declared.version.Version.{Version}
use Rattle.giop_msg.specs.Kind.{has_request_id}
use Rattle.giop_msg.specs.Laws.{RequestIds}
use Rattle.giop_msg.specs.Msg.{head_of, IsMessage}
use Rattle.giop_msg.specs.Joined.{joined_from}
use Rattle.giop_ior.specs.ServiceContext.{service_contexts}
use Rattle.giop_ior.proofs.ServiceContextLemmas.{service_contexts_are}
use Rattle.giop_msg.specs.RequestId.{begins_with_contexts, passed_contexts, id_behind_contexts, request_id_layout, request_id_of, value_of}
use Rattle.giop_msg.proofs.FaultLemmas.{sizes_of_sound, room_for_id}
use Rattle.giop_msg.proofs.HeaderLemmas.{sound_fields}

-- what a reader answers is what is read
pub value_exact : (r : Result ℕ CdrFault) (after : Cursor) (reading : Reading ℕ) → Exactly r after reading → r ≡ value_of reading
value_exact (Ok id) after reading h = rw h refl
value_exact (Err e) after reading h = rw h refl

passed_contexts_are : IsLawful passed_contexts
unfolding passed_contexts service_contexts sequence
passed_contexts_are = reserved_is [] refl tt service_contexts_are

id_behind_contexts_is : IsLawful id_behind_contexts
unfolding id_behind_contexts
id_behind_contexts_is =
    field_is _ (λ _ _ _ held _. unfold passed_contexts reserved in cc) passed_contexts_are
    (λ _. field_is _ (λ _ _ _ _ held. unfold gives in cc) (number_is w32 refl) (λ id. gives_is id))

pub request_id_is : (version : Version) (kind : Kind) → IsLawful (request_id_layout version kind)
unfolding request_id_layout
request_id_is version kind = chosen_is (begins_with_contexts version kind) id_behind_contexts_is (number_is w32 refl)

-- four octets at offset 12 are an unsigned long
ulong_there : (m : Msg) → nat_le 4 (length m.payload) ≡ true →
    (id : ℕ) × (value_of ((number w32).read (joined_from m.order m.payload)) ≡ Ok id)
unfolding number number_at field_at
ulong_there m room =
    (num m.order w32 (take 4 m.payload), rw (within m room) refl)
  where
    within : (m : Msg) → nat_le 4 (length m.payload) ≡ true → nat_lt (length m.payload) 4 ≡ false
    within m room = grind (arith, nat_tests)

layout_first : (version : Version) (kind : Kind) → begins_with_contexts version kind ≡ false → request_id_layout version kind ≡ number w32
unfolding request_id_layout chosen
layout_first version kind first = rw first refl

-- a message that is accepted and begins with its request id has one
id_there : (limit : ℕ) (m : Msg) → IsMessage limit m → has_request_id m.kind ≡ true → begins_with_contexts m.version m.kind ≡ false →
    (id : ℕ) × (request_id_of m ≡ Some (Ok id))
id_there limit m is has first =
    let sizes = sizes_of_sound limit (head_of m) (sound_fields limit (head_of m) is.sized is.sound) in
    let found = ulong_there m (room_for_id m.kind (length m.payload) sizes.1 has) in
    (found.0, rw (has, layout_first m.version m.kind first, found.1) refl)

pub request_id_there : RequestIds
request_id_there = record {
  exact = λ version kind. (request_id_is version kind).exact;
  there = id_there;
}
