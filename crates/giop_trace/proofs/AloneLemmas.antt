-- What stands under an id after messages of both directions is what its own leave there.
use Rattle.std.proofs.Common.{◌≡◌, ℕ, ◌==◌, Bool, true, false, cond, List, [], ◌∷◌, Option, Some, None, Result, Ok, Err, refl, sym, ap, ◌∙◌}
use Rattle.std.proofs.lemmas.Bool.{eqb-true}
use Rattle.std.specs.FinMap as finite
use Rattle.giop_cdr.specs.declared.fault.CdrFault.{CdrFault}
use Rattle.giop_ids.specs.ById.{ById}
use Rattle.giop_ids.proofs.Puts.{get-put}
use Rattle.giop_msg.specs.RequestId.{request_id_of}
use Rattle.giop_trace.specs.declared.flow.Flow.{Flow}
use Rattle.giop_trace.specs.Effects.{effect}
use Rattle.giop_trace.specs.Observing.{Brought, effect_at, is_id, left, left_alone, left_by, left_of_all, own}

-- the others' first, then its own: at the id of the message its flow changes, at another it doesn't
chosen_alone : (alone : Bool) (flows : ById Flow) (one : Brought) (mine : List Brought) (id other : ℕ) (b : Bool)
    → (b ≡ true → id ≡ other)
    → left_alone alone (cond b (effect_at alone flows one.direction one.message other).stays (finite.get flows id)) mine
    ≡ left_alone alone (finite.get flows id) (cond b (one ∷ mine) mine)
chosen_alone alone flows one mine id other true same =
    ap (λ n. left_alone alone (effect alone one.direction (finite.get flows n) one.message).stays mine) (sym (same refl))
chosen_alone alone flows one mine id other false same = refl

one_alone : (alone : Bool) (flows : ById Flow) (one : Brought) (mine : List Brought) (id : ℕ) (named : Option (Result ℕ CdrFault))
    → left_alone alone (finite.get (left_by alone flows one.direction one.message named) id) mine
    ≡ left_alone alone (finite.get flows id) (cond (is_id id named) (one ∷ mine) mine)
one_alone alone flows one mine id None = refl
one_alone alone flows one mine id (Some (Err e)) = refl
one_alone alone flows one mine id (Some (Ok other)) =
    ap (λ flow. left_alone alone flow mine) (get-put flows other (effect_at alone flows one.direction one.message other).stays id)
    ∙ chosen_alone alone flows one mine id other (id == other) (λ same. eqb-true id other same)

pub all_alone : (alone : Bool) (flows : ById Flow) (all : List Brought) (id : ℕ)
    → finite.get (left_of_all alone flows all) id ≡ left_alone alone (finite.get flows id) (own id all)
all_alone alone flows [] id = refl
all_alone alone flows (one ∷ rest) id =
    all_alone alone (left alone flows one.direction one.message) rest id
    ∙ one_alone alone flows one (own id rest) id (request_id_of one.message)
