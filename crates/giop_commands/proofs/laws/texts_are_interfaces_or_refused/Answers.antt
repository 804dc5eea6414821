use Rattle.std.proofs.Common.{◌≡◌, Result, Ok, Err, ◌∙◌, sym, ap, subst, inl, inr}
use Rattle.std.specs.Io.KnownBytes.{Appends}
use Rattle.giop_json.specs.declared.form_fault.FormFault.{FormFault}
use Rattle.giop_json.specs.InterfaceFromJson.{Offer, interface_view}
use Rattle.giop_lines.specs.declared.refusal.RefusalLine.TheVariants.{Form}
use Rattle.giop_show.specs.Forms.{ended, refused_in}
use Rattle.giop_commands.proofs.laws.texts_are_interfaces_or_refused.Goals as goal

-- what a text tells is one thing
same_offer : (told : Result Offer FormFault) (one other : Offer) → told ≡ Ok one → told ≡ Ok other → one ≡ other
same_offer told one other is is' = let both : ◌≡◌ {A = Result Offer FormFault} (Ok one) (Ok other) = sym is ∙ is' in cc

same_fault : (told : Result Offer FormFault) (one other : FormFault) → told ≡ Err one → told ≡ Err other → one ≡ other
same_fault told one other is is' = let both : ◌≡◌ {A = Result Offer FormFault} (Err one) (Err other) = sym is ∙ is' in cc

not_both : (told : Result Offer FormFault) (offer : Offer) (e : FormFault) → told ≡ Ok offer → told ≡ Err e → ⊥
not_both told offer e is is' = let both : ◌≡◌ {A = Result Offer FormFault} (Ok offer) (Err e) = sym is ∙ is' in absurd cc

pub returns-clause-interface : goal.returns-clause-interface
returns-clause-interface c = λ text offer limits strict form octets old new status told checks. elim checks [
  | inl by ↦ (by.0, same_offer _ (interface_view by.0) offer by.1 told, by.2, by.3)
  | inr none ↦ absurd (not_both _ offer none.1.0 told none.1.1)
]

pub returns-clause-refused : goal.returns-clause-refused
returns-clause-refused c = λ text e limits strict form octets old new status told checks. elim checks [
  | inl by ↦ absurd (not_both _ (interface_view by.0) e by.1 told)
  | inr none ↦ (none.0, subst (λ e. Appends old new (ended (refused_in form (Form e)))) (same_fault _ none.1.0 e none.1.1 told) none.1.2)
]
