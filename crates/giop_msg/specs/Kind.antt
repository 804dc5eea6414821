-- The kinds of a GIOP message (CORBA 3.3 Part 2, 9.4.1).
use Rattle.std.specs.Prelude.{ℕ, Bool, ◌==◌, nat_le, true, false, List, [], ◌∷◌, codes}
use Rattle.giop_msg.specs.declared.kind.Kind.{Kind}
use Rattle.giop_msg.specs.declared.kind.Kind.TheVariants.{Request, Reply, CancelRequest, LocateRequest, LocateReply, CloseConnection, MessageError, Fragment}

-- the message type of a kind
abbrev pub kind_number : Kind → ℕ
kind_number Request = 0
kind_number Reply = 1
kind_number CancelRequest = 2
kind_number LocateRequest = 3
kind_number LocateReply = 4
kind_number CloseConnection = 5
kind_number MessageError = 6
kind_number Fragment = 7

-- the eight kinds, each at its message type
abbrev pub kinds : List Kind
kinds =
    Request ∷ Reply ∷ CancelRequest ∷ LocateRequest
    ∷ LocateReply ∷ CloseConnection ∷ MessageError ∷ Fragment ∷ []

-- a message of this kind has a request id
abbrev pub has_request_id : Kind → Bool
has_request_id CloseConnection = false
has_request_id MessageError = false
has_request_id _ = true

-- whether the kind is Fragment, which continues another message
abbrev pub is_fragment : Kind → Bool
is_fragment Fragment = true
is_fragment _ = false

-- Fragments may continue a message of this kind (9.4.9)
abbrev pub is_fragmentable : Kind → Bool
is_fragmentable CancelRequest = false
is_fragmentable CloseConnection = false
is_fragmentable MessageError = false
is_fragmentable _ = true

-- the sizes of a message of this kind: CloseConnection and MessageError are empty, CancelRequest
-- is its request id, and each other kind has a request id
abbrev pub can_have_size : Kind → ℕ → Bool
can_have_size CloseConnection size = size == 0
can_have_size MessageError size = size == 0
can_have_size CancelRequest size = size == 4
can_have_size _ size = nat_le 4 size

-- the kind's name in the standard
abbrev pub kind_name : Kind → List ℕ
kind_name Request = codes "Request"
kind_name Reply = codes "Reply"
kind_name CancelRequest = codes "CancelRequest"
kind_name LocateRequest = codes "LocateRequest"
kind_name LocateReply = codes "LocateReply"
kind_name CloseConnection = codes "CloseConnection"
kind_name MessageError = codes "MessageError"
kind_name Fragment = codes "Fragment"
