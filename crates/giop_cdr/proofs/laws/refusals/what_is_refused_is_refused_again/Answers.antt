use Rattle.std.proofs.Common.{◌≡◌, ◌∙◌, ℕ, Result, Ok, Err, ap, sym}
use Rattle.giop_cdr.specs.Reading.Cursor.{Cursor}
use Rattle.giop_cdr.specs.Reading.Outcome.{Passes, Reads, ReadsAs}
use Rattle.giop_cdr.specs.Reading.Values.{Reading, past}
use Rattle.giop_cdr.specs.declared.fault.CdrFault.{CdrFault}
use Rattle.giop_cdr.proofs.laws.refusals.what_is_refused_is_refused_again.Goals as goal

module _ (read : Cursor → Reading ℕ) (old mid new : Cursor) (e : CdrFault) (refused : read old ≡ Err e) (stays : mid ≡ old) where
  same : read mid ≡ Err e
  same = ap read stays ∙ refused

  one_fault : (f : CdrFault) → read mid ≡ Err f → ◌≡◌ {A = Result ℕ CdrFault} (Err f) (Err e)
  one_fault f is =
      let told : ◌≡◌ {A = Reading ℕ} (Err f) (Err e) = sym is ∙ same in
      let it : f ≡ e = cc in ap Err it

  read_again : (again : Result ℕ CdrFault) → Reads mid again new (read mid) → (again ≡ Err e) × (new ≡ old)
  read_again (Ok x) is = let wrong : ◌≡◌ {A = Reading ℕ} (Ok (x, new)) (Err e) = sym is ∙ same in absurd cc
  read_again (Err f) (is, left) = (one_fault f is, left ∙ stays)

  viewed_again : (again : Result ℕ CdrFault) → ReadsAs (λ n. n) mid again new (read mid) → (again ≡ Err e) × (new ≡ old)
  viewed_again (Ok x) is = let wrong : ◌≡◌ {A = Reading ℕ} (Ok (x, new)) (Err e) = sym is ∙ same in absurd cc
  viewed_again (Err f) (is, left) = (one_fault f is, left ∙ stays)

  passed_again : (again : Result ℕ CdrFault) → Passes mid again new (read mid) → (again ≡ Err e) × (new ≡ old)
  passed_again (Ok x) is = let wrong : ◌≡◌ {A = Result Cursor CdrFault} (Ok new) (Err e) = sym is ∙ ap past same in absurd cc
  passed_again (Err f) (is, left) = (one_fault f is, left ∙ stays)

pub returns-clause-reads : goal.returns-clause-reads
returns-clause-reads c = λ read old mid new e again (refused, stays) second. read_again read old mid new e refused stays again second

pub returns-clause-views : goal.returns-clause-views
returns-clause-views c = λ read old mid new e again (refused, stays) second. viewed_again read old mid new e refused stays again second

pub returns-clause-passes : goal.returns-clause-passes
returns-clause-passes c = λ read old mid new e again (refused, stays) second. passed_again read old mid new e refused stays again second

pub returns-clause-stays : goal.returns-clause-stays
returns-clause-stays c = λ octets read old new e (told, stays). stays
