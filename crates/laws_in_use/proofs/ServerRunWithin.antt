-- What a server's end is given in a run is within its limits.
use Rattle.std.proofs.Common.{◌≡◌, ℕ, ◌==◌, ◌||◌, Bool, true, false, All, List, [], ◌∷◌, refl, sym, ◌∙◌, arith}
use Rattle.std.proofs.lemmas.Bool.Decides.{nat_tests}
use Rattle.std.proofs.lemmas.List.Elements.{All-cons, All-nil}
use Rattle.std.specs.List.{list_any}
use Rattle.giop_cdr.specs.Layout.{number, chosen}
use Rattle.giop_cdr.specs.Reading.Values.{field_at, number_at}
use Rattle.giop_ids.specs.ById.{is_listed}
use Rattle.giop_msg.specs.Header.{header_octets}
use Rattle.giop_msg.specs.Msg.{IsMessage}
use Rattle.giop_msg.specs.RequestId.{request_id_layout}
use Rattle.giop_msg.specs.declared.msg.Msg.{Msg}
use Rattle.giop_msg.proofs.FramerLemmas.{waits_for_header}
use Rattle.giop_session.specs.Runs.RunLimits.{ServerIsGivenWithin, asks_under}
use Rattle.laws_in_use.specs.Locating.{bad, cancel_big, door_begins, door_ends, key_little, limits}
use Rattle.laws_in_use.specs.Runs.{server_given, server_given_otherwise}
use Rattle.laws_in_use.proofs.LocatingMessages.{messages}

abbrev all : List Msg
all = door_begins ∷ key_little ∷ door_ends ∷ cancel_big ∷ bad ∷ []

each : All (IsMessage 64) all
each =
    All-cons (IsMessage 64) door_begins (key_little ∷ door_ends ∷ cancel_big ∷ bad ∷ []) messages.door_begins
    (All-cons (IsMessage 64) key_little (door_ends ∷ cancel_big ∷ bad ∷ []) messages.key_little
    (All-cons (IsMessage 64) door_ends (cancel_big ∷ bad ∷ []) messages.door_ends
    (All-cons (IsMessage 64) cancel_big (bad ∷ []) messages.cancel_big
    (All-cons (IsMessage 64) bad [] messages.bad_wide (All-nil (IsMessage 64))))))

-- whoever opens a call does so under 7 or 9
opened : (id : ℕ) → list_any (λ m. asks_under m id) all ≡ ((id == 7) || ((id == 9) || (false || (false || ((id == 9) || false)))))
unfolding request_id_layout chosen number number_at field_at
opened id = refl

listed : (id : ℕ) (seven nine : Bool) → (id == 7) ≡ seven → (id == 9) ≡ nine
    → (seven || (nine || (false || (false || (nine || false))))) ≡ true → is_listed (7 ∷ 9 ∷ []) id ≡ true
listed id true nine is_seven is_nine is = grind (arith, nat_tests)
listed id false true is_seven is_nine is = grind (arith, nat_tests)
listed id false false is_seven is_nine is = absurd cc

pub run_within : ServerIsGivenWithin limits server_given
unfolding header_octets
run_within = record {
  messages = all;
  rest = [];
  stand = record { whole = refl; each = each; partial = (waits_for_header 64 [] (omega arith)).no_message };
  calls = record { ids = 7 ∷ 9 ∷ []; few = omega arith; listed = λ id is. listed id (id == 7) (id == 9) refl refl (sym (opened id) ∙ is) };
  octets = omega arith;
}

-- in the other order it is, too
abbrev all_otherwise : List Msg
all_otherwise = key_little ∷ door_begins ∷ cancel_big ∷ bad ∷ door_ends ∷ []

each_otherwise : All (IsMessage 64) all_otherwise
each_otherwise =
    All-cons (IsMessage 64) key_little (door_begins ∷ cancel_big ∷ bad ∷ door_ends ∷ []) messages.key_little
    (All-cons (IsMessage 64) door_begins (cancel_big ∷ bad ∷ door_ends ∷ []) messages.door_begins
    (All-cons (IsMessage 64) cancel_big (bad ∷ door_ends ∷ []) messages.cancel_big
    (All-cons (IsMessage 64) bad (door_ends ∷ []) messages.bad_wide
    (All-cons (IsMessage 64) door_ends [] messages.door_ends (All-nil (IsMessage 64))))))

opened_otherwise : (id : ℕ)
    → list_any (λ m. asks_under m id) all_otherwise ≡ ((id == 9) || ((id == 7) || (false || ((id == 9) || (false || false)))))
unfolding request_id_layout chosen number number_at field_at
opened_otherwise id = refl

listed_otherwise : (id : ℕ) (seven nine : Bool) → (id == 7) ≡ seven → (id == 9) ≡ nine
    → (nine || (seven || (false || (nine || (false || false))))) ≡ true → is_listed (7 ∷ 9 ∷ []) id ≡ true
listed_otherwise id true nine is_seven is_nine is = grind (arith, nat_tests)
listed_otherwise id false true is_seven is_nine is = grind (arith, nat_tests)
listed_otherwise id false false is_seven is_nine is = absurd cc

pub run_within_otherwise : ServerIsGivenWithin limits server_given_otherwise
unfolding header_octets
run_within_otherwise = record {
  messages = all_otherwise;
  rest = [];
  stand = record { whole = refl; each = each_otherwise; partial = (waits_for_header 64 [] (omega arith)).no_message };
  calls = record {
    ids = 7 ∷ 9 ∷ [];
    few = omega arith;
    listed = λ id is. listed_otherwise id (id == 7) (id == 9) refl refl (sym (opened_otherwise id) ∙ is);
  };
  octets = omega arith;
}
