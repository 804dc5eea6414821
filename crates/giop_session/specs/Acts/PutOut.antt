-- What an end puts out: whole messages, each of a kind that its side sends (CORBA 3.3 Part 2,
-- 9.4.1).
use Rattle.std.specs.Prelude.{◌≡◌, ℕ, Bool, true, false, List, [], ◌∷◌}
use Rattle.std.specs.List.{flat_map}
use Rattle.giop_msg.specs.declared.kind.Kind.{Kind}
use Rattle.giop_msg.specs.declared.kind.Kind.TheVariants.{Request, Reply, CancelRequest, LocateRequest, LocateReply, CloseConnection, Fragment}
use Rattle.giop_msg.specs.declared.msg.Msg.{Msg}
use Rattle.giop_msg.specs.Msg.{message_octets}

-- the kinds that a client sends
abbrev pub is_of_client : Kind → Bool
is_of_client Request = true
is_of_client CancelRequest = true
is_of_client LocateRequest = true
is_of_client CloseConnection = true
is_of_client Fragment = true
is_of_client _ = false

-- and those that a server sends
abbrev pub is_of_server : Kind → Bool
is_of_server Reply = true
is_of_server LocateReply = true
is_of_server CloseConnection = true
is_of_server Fragment = true
is_of_server _ = false

-- each of these messages is of such a kind
abbrev pub AreOf : (Kind → Bool) → List Msg → Type 0
AreOf sends [] = Unit {0}
AreOf sends (m ∷ messages) = (sends m.kind ≡ true) × AreOf sends messages

-- octets are such messages, one behind the other
pub record ArePutOut (sends : Kind → Bool) (octets : List ℕ) : Type 0 where
  pub messages : List Msg
  pub own : AreOf sends messages
  pub whole : octets ≡ flat_map message_octets messages
