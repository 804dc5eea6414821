-- What is written of a Request's head (CORBA 3.3 Part 2, 9.4.2.1), and which heads are written.
use Rattle.std.specs.Prelude.{◌≡◌, ℕ, ◌+◌, ◌^◌, ◌<◌, ◌&&◌, Bool, true, false, not, nat_lt, List, length, if◌then◌else◌}
use Rattle.std.specs.List.{list_all, AllByRecursion}
use Rattle.std.specs.Int.{w8, w16, w32}
use Rattle.giop_cdr.specs.Reading.{has_null}
use Rattle.giop_cdr.specs.Output.{Output, number_out, octets_out, string_out, sequence_out}
use Rattle.giop_msg.specs.declared.service_context.ServiceContext.{ServiceContext}
use Rattle.giop_msg.specs.declared.target.Target.{Target}
use Rattle.giop_msg.specs.declared.target.Target.TheVariants.{Key}
use Rattle.giop_msg.specs.declared.request_head.RequestHead.{RequestHead}
use Rattle.giop_msg.specs.RequestHead.{is_response_flags}

-- a service context: its id and its octets
unfoldable pub context_out : ServiceContext → Output → Output
context_out context out = octets_out context.octets (number_out w32 context.id out)

-- three reserved octets, which are zeros
unfoldable pub reserved_out : Output → Output
reserved_out out = number_out w8 0 (number_out w8 0 (number_out w8 0 out))

-- a target: the disposition KeyAddr, which is 0, and the key
unfoldable pub target_out : Target → Output → Output
target_out (Key key) out = octets_out key (number_out w16 0 out)

-- the fields in their order
unfoldable pub request_head_out : RequestHead → Output → Output
request_head_out head out =
    sequence_out context_out head.contexts
    (string_out head.operation
    (target_out head.target
    (reserved_out (number_out w8 head.flags (number_out w32 head.id out)))))

-- ---- which heads are written

-- a sequence of octets has a length that is an unsigned long
abbrev pub is_countable : List ℕ → Bool
is_countable octets = nat_lt (length octets) (2 ^ 32)

abbrev pub is_countable_target : Target → Bool
is_countable_target (Key key) = is_countable key

-- the flags are of the three, no null is in the operation, and each text and list is short enough for
-- its count
unfoldable pub is_writable : RequestHead → Bool
is_writable head =
    is_response_flags head.flags
    && is_countable_target head.target
    && (nat_lt (length head.operation + 1) (2 ^ 32) && not (has_null head.operation))
    && (nat_lt (length head.contexts) (2 ^ 32) && list_all (λ context. is_countable context.octets) head.contexts)

-- a head as the program holds it, which can be written: its numbers are in the ranges of their types
pub record IsHead (head : RequestHead) : Type 0 where
  pub id : head.id < 2 ^ 32
  pub flags : head.flags < 2 ^ 8
  pub ids : AllByRecursion (λ context. context.id < 2 ^ 32) head.contexts
  pub writable : is_writable head ≡ true
