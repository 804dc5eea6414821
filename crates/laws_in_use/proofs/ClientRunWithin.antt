-- What a client's end is given in a run is within its limits; and forms in which it may send.
use Rattle.std.proofs.Common.{◌≡◌, ℕ, ◌==◌, ◌||◌, Bool, true, false, All, List, [], ◌∷◌, refl, sym, ◌∙◌, arith}
use Rattle.std.proofs.lemmas.Bool.Decides.{nat_tests}
use Rattle.std.proofs.lemmas.List.Elements.{All-cons, All-nil}
use Rattle.std.specs.List.{list_any}
use Rattle.giop_cdr.specs.declared.order.Order.TheVariants.{Big, Little}
use Rattle.giop_ids.specs.ById.{is_listed}
use Rattle.giop_msg.specs.Header.{header_octets}
use Rattle.giop_msg.specs.Msg.{IsMessage}
use Rattle.giop_msg.specs.declared.msg.Msg.{Msg}
use Rattle.giop_msg.proofs.FramerLemmas.{waits_for_header}
use Rattle.giop_session.specs.Runs.RunLimits.{ClientIsGivenWithin, calls_under}
use Rattle.laws_in_use.specs.Asking.{here_begins, here_ends, short, unknown_little}
use Rattle.laws_in_use.specs.Locating.{limits}
use Rattle.laws_in_use.specs.Runs.{Forms, client_given}
use Rattle.laws_in_use.proofs.AskingMessages.{messages}

pub forms : Forms
forms = record {
  cut = record { form = record { order = Big; piece = 24 }; sound = record { large = omega arith; multiple = refl } };
  little = record { form = record { order = Little; piece = 64 }; sound = record { large = omega arith; multiple = refl } };
  big = record { form = record { order = Big; piece = 64 }; sound = record { large = omega arith; multiple = refl } };
  cut_is = refl;
  little_is = refl;
  big_is = refl;
}

abbrev all : List Msg
all = here_begins ∷ unknown_little ∷ here_ends ∷ short ∷ []

each : All (IsMessage 64) all
each =
    All-cons (IsMessage 64) here_begins (unknown_little ∷ here_ends ∷ short ∷ []) messages.here_begins
    (All-cons (IsMessage 64) unknown_little (here_ends ∷ short ∷ []) messages.unknown_little
    (All-cons (IsMessage 64) here_ends (short ∷ []) messages.here_ends
    (All-cons (IsMessage 64) short [] messages.short_wide (All-nil (IsMessage 64)))))

-- what calls does so under 7 or 9
opened : (forms : Forms) (id : ℕ) → list_any (λ given. calls_under given id) (client_given forms)
    ≡ ((id == 7) || ((id == 9) || (false || (false || (false || (false || ((id == 9) || (false || (false || false)))))))))
opened forms id = refl

listed : (id : ℕ) (seven nine : Bool) → (id == 7) ≡ seven → (id == 9) ≡ nine
    → (seven || (nine || (false || (false || (false || (false || (nine || (false || (false || false))))))))) ≡ true
    → is_listed (7 ∷ 9 ∷ []) id ≡ true
listed id true nine is_seven is_nine is = grind (arith, nat_tests)
listed id false true is_seven is_nine is = grind (arith, nat_tests)
listed id false false is_seven is_nine is = absurd cc

pub run_within : (forms : Forms) → ClientIsGivenWithin limits (client_given forms)
unfolding header_octets
run_within forms = record {
  messages = all;
  rest = [];
  stand = record { whole = refl; each = each; partial = (waits_for_header 64 [] (omega arith)).no_message };
  calls = record {
    ids = 7 ∷ 9 ∷ [];
    few = omega arith;
    listed = λ id is. listed id (id == 7) (id == 9) refl refl (sym (opened forms id) ∙ is);
  };
  octets = omega arith;
}
