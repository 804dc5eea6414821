-- A step of a run: what an act does where it is accepted, and that it does nothing where it is refused.
use Rattle.std.proofs.Common.{◌≡◌, Some, None, Ok, Err, refl, sym, ap, ◌∙◌, inl}
use Rattle.giop_ids.specs.declared.addressed.Addressed.{Addressed}
use Rattle.giop_ids.specs.Runs.{Does, Done, Rules, left, refusal_of, told, turn_of, within}

module _ {S V Act Answer Why : Type 0} (rules : Rules S V Act Answer Why) (s : S) (act : Addressed Act) where
  -- it has room, and is done
  pub accepts : (done : Done V Answer) → rules.turn (rules.at s act.id) act.what ≡ Ok done → rules.limit s act ≡ None
      → Does rules s act (Ok done.answer) (rules.put s act.id done.now)
  accepts done turns room = record {
    answer = ap (λ over. told (within over (turn_of rules s act))) room ∙ ap (λ turned. told (within None turned)) turns;
    refusal = tt;
    leaves = ap (λ turned. rules.put s act.id (left (rules.at s act.id) turned)) (sym turns);
  }

  -- it is refused for what stands under its id
  pub refuses : (why : Why) → rules.turn (rules.at s act.id) act.what ≡ Err why → Does rules s act (Err why) s
  refuses why turns = record { answer = tt; refusal = inl (ap (λ turned. refusal_of (within (rules.limit s act) turned)) turns); leaves = refl }

  -- or for a limit
  pub limits : (done : Done V Answer) (why : Why) → rules.turn (rules.at s act.id) act.what ≡ Ok done → rules.limit s act ≡ Some why
      → Does rules s act (Err why) s
  limits done why turns full = record {
    answer = tt;
    refusal =
        inl (ap (λ over. refusal_of (within over (turn_of rules s act))) full
        ∙ ap (λ turned. refusal_of (within (Some why) turned)) turns);
    leaves = refl;
  }
