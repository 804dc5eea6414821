-- The messages that each read of both ways brings, and what is unread then.
use Rattle.std.proofs.Common.{All, ℕ, List, [], ◌∷◌, ◌++◌, take, drop, refl, arith}
use Rattle.std.proofs.lemmas.List.Elements.{All-cons, All-nil}
use Rattle.giop_msg.specs.Header.{header_octets}
use Rattle.giop_msg.specs.Msg.{IsMessage, message_octets}
use Rattle.giop_msg.specs.Stream.{TakesMessages, Unread, Waits}
use Rattle.giop_msg.specs.declared.msg.Msg.{Msg}
use Rattle.giop_msg.proofs.FramerLemmas.{waits_for_header}
use Rattle.laws_in_use.specs.Locating.{bad, cancel_big, cancel_little, door_begins, door_ends, door_whole, key_big, key_little}
use Rattle.laws_in_use.proofs.LocatingMessages.{messages}

-- what is unread at the two ends
abbrev pub wide : List ℕ → Unread
wide octets = record { limit = 64; octets = octets }

abbrev pub tight : List ℕ → Unread
tight octets = record { limit = 16; octets = octets }

-- two messages
pub two : (limit : ℕ) (m n : Msg) → IsMessage limit m → IsMessage limit n → All (IsMessage limit) (m ∷ n ∷ [])
two limit m n is also = All-cons (IsMessage limit) m (n ∷ []) is (All-cons (IsMessage limit) n [] also (All-nil (IsMessage limit)))

-- a read brings messages, and then the end waits
pub record Brings (unread : Unread) (messages : List Msg) (left : Unread) : Type 0 where
  pub takes : TakesMessages unread messages left
  pub waits : Waits left

pub first : Brings (wide (take 5 (message_octets door_begins))) [] (wide (take 5 (message_octets door_begins)))
unfolding header_octets
first = record {
  takes = record { each = All-nil (IsMessage 64); octets = refl; limit = refl };
  waits = waits_for_header 64 _ (omega arith);
}

pub second : Brings
    (wide (take 5 (message_octets door_begins) ++ (drop 5 (message_octets door_begins) ++ message_octets key_little
    ++ take 7 (message_octets door_ends))))
    (door_begins ∷ key_little ∷ []) (wide (take 7 (message_octets door_ends)))
unfolding header_octets
second = record {
  takes = record { each = two 64 door_begins key_little messages.door_begins messages.key_little; octets = refl; limit = refl };
  waits = waits_for_header 64 _ (omega arith);
}

pub third : Brings (wide (take 7 (message_octets door_ends) ++ (drop 7 (message_octets door_ends) ++ message_octets cancel_big)))
    (door_ends ∷ cancel_big ∷ []) (wide [])
unfolding header_octets
third = record {
  takes = record { each = two 64 door_ends cancel_big messages.door_ends messages.cancel_big; octets = refl; limit = refl };
  waits = waits_for_header 64 [] (omega arith);
}

pub last : Brings (wide (message_octets bad)) (bad ∷ []) (wide [])
unfolding header_octets
last = record {
  takes = record { each = All-cons (IsMessage 64) bad [] messages.bad_wide (All-nil (IsMessage 64)); octets = refl; limit = refl };
  waits = waits_for_header 64 [] (omega arith);
}

pub only : Brings (tight (message_octets key_big ++ message_octets cancel_little ++ message_octets bad ++ message_octets door_whole))
    (key_big ∷ cancel_little ∷ bad ∷ door_whole ∷ []) (tight [])
unfolding header_octets
only = record {
  takes = record {
    each = All-cons (IsMessage 16) key_big (cancel_little ∷ bad ∷ door_whole ∷ []) messages.key_big
        (All-cons (IsMessage 16) cancel_little (bad ∷ door_whole ∷ []) messages.cancel_little
        (two 16 bad door_whole messages.bad_tight messages.door_whole));
    octets = refl;
    limit = refl;
  };
  waits = waits_for_header 16 [] (omega arith);
}
