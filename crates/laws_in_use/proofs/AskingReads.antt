-- The messages that each read of both ways brings to a client, and what is unread then.
use Rattle.std.proofs.Common.{[], ◌∷◌, ◌++◌, take, drop, refl, arith}
use Rattle.std.proofs.lemmas.List.Elements.{All-cons, All-nil}
use Rattle.giop_msg.specs.Header.{header_octets}
use Rattle.giop_msg.specs.Msg.{IsMessage, message_octets}
use Rattle.giop_msg.proofs.FramerLemmas.{waits_for_header}
use Rattle.laws_in_use.specs.Asking.{here_begins, here_ends, short, unknown_big, unknown_little}
use Rattle.laws_in_use.specs.Locating.{here_little}
use Rattle.laws_in_use.proofs.AskingMessages.{messages}
use Rattle.laws_in_use.proofs.LocatingReads.{Brings, tight, two, wide}

pub first : Brings (wide (take 5 (message_octets here_begins))) [] (wide (take 5 (message_octets here_begins)))
unfolding header_octets
first = record {
  takes = record { each = All-nil (IsMessage 64); octets = refl; limit = refl };
  waits = waits_for_header 64 _ (omega arith);
}

pub second : Brings
    (wide (take 5 (message_octets here_begins) ++ (drop 5 (message_octets here_begins) ++ message_octets unknown_little
    ++ take 7 (message_octets here_ends))))
    (here_begins ∷ unknown_little ∷ []) (wide (take 7 (message_octets here_ends)))
unfolding header_octets
second = record {
  takes = record { each = two 64 here_begins unknown_little messages.here_begins messages.unknown_little; octets = refl; limit = refl };
  waits = waits_for_header 64 _ (omega arith);
}

pub third : Brings (wide (take 7 (message_octets here_ends) ++ (drop 7 (message_octets here_ends) ++ message_octets short)))
    (here_ends ∷ short ∷ []) (wide [])
unfolding header_octets
third = record {
  takes = record { each = two 64 here_ends short messages.here_ends messages.short_wide; octets = refl; limit = refl };
  waits = waits_for_header 64 [] (omega arith);
}

pub late : Brings (tight (message_octets unknown_big)) (unknown_big ∷ []) (tight [])
unfolding header_octets
late = record {
  takes = record { each = All-cons (IsMessage 16) unknown_big [] messages.unknown_big (All-nil (IsMessage 16)); octets = refl; limit = refl };
  waits = waits_for_header 16 [] (omega arith);
}

pub last : Brings (tight (message_octets short ++ message_octets here_little)) (short ∷ here_little ∷ []) (tight [])
unfolding header_octets
last = record {
  takes = record { each = two 16 short here_little messages.short_tight messages.here_little; octets = refl; limit = refl };
  waits = waits_for_header 16 [] (omega arith);
}
