use Rattle.std.proofs.Common.{◌≡◌, Result, Ok, Err, ◌∙◌, sym, ap, inl, inr}
use Rattle.giop_cdr.specs.Reading.Values.{fault}
use Rattle.giop_cdr.specs.declared.fault.CdrFault.{CdrFault}
use Rattle.giop_cdr.specs.declared.fault.CdrKind.TheVariants.{Trailing}
use Rattle.giop_cdr.specs.Reading.Cursor.{Cursor}
use Rattle.giop_types.specs.Values.Tree.{Tree}
use Rattle.laws_in_use.proofs.converted.octets_behind_a_value.Goals as goal

-- what is read is one value, and ends at one place
abbrev end_of : Cursor → Result (Tree × Cursor) CdrFault → Cursor
end_of other (Ok read) = read.1
end_of other (Err e) = other

same_end : (read : Result (Tree × Cursor) CdrFault) (tree tree' : Tree) (after after' : Cursor) → read ≡ Ok (tree, after)
    → read ≡ Ok (tree', after') → after' ≡ after
same_end read tree tree' after after' is is' = ap (end_of after) (sym is' ∙ is)

not_both : (read : Result (Tree × Cursor) CdrFault) (one : Tree × Cursor) (e : CdrFault) → read ≡ Ok one → read ≡ Err e → ⊥
not_both read one e is is' = let both : ◌≡◌ {A = Result (Tree × Cursor) CdrFault} (Ok one) (Err e) = sym is ∙ is' in absurd cc

pub returns : goal.returns
returns c = λ shape order octets tree after e is refused. elim refused [
  | inl wrong ↦ absurd (not_both _ (tree, after) e is wrong)
  | inr behind ↦ behind.4 ∙ ap (λ (a : Cursor). fault a.at Trailing) (same_end _ tree behind.0 after behind.1 is behind.2)
]
