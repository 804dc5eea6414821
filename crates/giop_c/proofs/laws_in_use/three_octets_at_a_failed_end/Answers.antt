use Rattle.std.proofs.Common.{◌≡◌, [], ◌∷◌, Option, Some, None, Err, refl, sym, ap, ◌∙◌}
use Rattle.giop_end.specs.declared.session_fault.SessionFault.{SessionFault}
use Rattle.giop_c.proofs.laws_in_use.three_octets_at_a_failed_end.Goals as goal

-- one fault stands
same_fault : (fault : Option SessionFault) (one other : SessionFault) → fault ≡ Some one → fault ≡ Some other → one ≡ other
same_fault fault one other is is' = let both : ◌≡◌ {A = Option SessionFault} (Some one) (Some other) = sym is ∙ is' in cc

not_none : (fault : Option SessionFault) (one : SessionFault) → fault ≡ Some one → fault ≡ None → ⊥
not_none fault one is none = let both : ◌≡◌ {A = Option SessionFault} (Some one) None = sym is ∙ none in absurd cc

pub returns-clause-at_client : goal.returns-clause-at_client
returns-clause-at_client c = λ old why stands. (
  λ other is. (ap Err (same_fault old.end.fault why other stands is), refl),
  λ none. absurd (not_none old.end.fault why stands none),
  λ none. absurd (not_none old.end.fault why stands none),
  refl,
)

pub returns-clause-client : goal.returns-clause-client
returns-clause-client c = λ old new answer why stands feeds.
    (c.failed_ends_stay.ensures.client old new (1 ∷ 2 ∷ 3 ∷ []) answer why stands feeds).1

pub returns-clause-at_server : goal.returns-clause-at_server
returns-clause-at_server c = λ old why stands. (
  λ other is. (ap Err (same_fault old.end.fault why other stands is), refl),
  λ none. absurd (not_none old.end.fault why stands none),
  λ none. absurd (not_none old.end.fault why stands none),
  refl,
)

pub returns-clause-server : goal.returns-clause-server
returns-clause-server c = λ old new answer why stands feeds.
    (c.failed_ends_stay.ensures.server old new (1 ∷ 2 ∷ 3 ∷ []) answer why stands feeds).1
