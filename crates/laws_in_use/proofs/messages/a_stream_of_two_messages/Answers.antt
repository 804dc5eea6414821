use Rattle.std.proofs.Common.{◌++◌, [], ◌∷◌, refl, arith}
use Rattle.std.proofs.lemmas.List.Elements.{All-cons, All-nil}
use Rattle.giop_msg.specs.Header.{header_fault, header_octets, header_of}
use Rattle.giop_msg.specs.Msg.{IsMessage, message_octets}
use Rattle.giop_msg.specs.Stream.{Msgs}
use Rattle.giop_msg.proofs.FramerLemmas.{waits_for_header}
use Rattle.laws_in_use.specs.Framed.{asks, cancels, no_header}
use Rattle.laws_in_use.proofs.CdrSpelled.{are_octets}
use Rattle.laws_in_use.proofs.messages.a_stream_of_two_messages.Goals as goal

asks_is : IsMessage 64 asks
unfolding header_octets header_of header_fault
asks_is = record { sized = omega arith; sound = refl }

cancels_is : IsMessage 64 cancels
unfolding header_octets header_of header_fault
cancels_is = record { sized = omega arith; sound = refl }

alone : Msgs 64 (message_octets asks ++ []) (asks ∷ []) []
unfolding header_octets
alone = record {
  whole = refl;
  each = All-cons (IsMessage 64) asks [] asks_is (All-nil (IsMessage 64));
  partial = (waits_for_header 64 [] (omega arith)).no_message;
}

second : Msgs 64 ([] ++ message_octets cancels) (cancels ∷ []) []
unfolding header_octets
second = record {
  whole = refl;
  each = All-cons (IsMessage 64) cancels [] cancels_is (All-nil (IsMessage 64));
  partial = (waits_for_header 64 [] (omega arith)).no_message;
}

pub returns-clause-first : goal.returns-clause-first
unfolding header_octets
returns-clause-first c = record {
  whole = refl;
  each = All-cons (IsMessage 64) asks [] asks_is (All-nil (IsMessage 64));
  partial = (waits_for_header 64 (71 ∷ []) (omega arith)).no_message;
}

pub returns-clause-split : goal.returns-clause-split
returns-clause-split c = λ messages rest split.
    c.one_split.ensures 64 (message_octets asks ++ 71 ∷ []) messages (asks ∷ []) rest (71 ∷ []) split (returns-clause-first c)

pub returns-clause-splits : goal.returns-clause-splits
unfolding header_octets
returns-clause-splits c = c.every_stream_splits.ensures 64 (message_octets asks ++ 71 ∷ []) (omega arith) (are_octets (message_octets asks ++ 71 ∷ []) refl)

pub returns-clause-continued : goal.returns-clause-continued
returns-clause-continued c = c.split_on.ensures 64 (message_octets asks ++ []) (message_octets cancels) (asks ∷ []) (cancels ∷ []) [] [] alone second

pub returns-clause-fault : goal.returns-clause-fault
unfolding header_of header_fault
returns-clause-fault c = (omega arith, refl)

pub returns-clause-stands : goal.returns-clause-stands
returns-clause-stands c = λ more. c.faults_stand.ensures 64 no_header more _ (returns-clause-fault c)
