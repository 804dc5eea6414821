-- What was written is read again by the very calls.
use Rattle.std.proofs.Common.{◌≡◌, inl, inr, ℕ, List, [], ◌++◌, Result, Ok, Err, sym, ap, ◌∙◌}
use Rattle.std.proofs.lemmas.List.{append-nil}
use Rattle.giop_cdr.specs.declared.fault.CdrFault.{CdrFault}
use Rattle.giop_cdr.specs.declared.order.Order.{Order}
use Rattle.giop_cdr.specs.Reading.Cursor.{Cursor}
use Rattle.giop_cdr.specs.Writing.Output.{Output}
use Rattle.giop_cdr.specs.RoundTrip.{IsReadBack}
use Rattle.giop_cdr.proofs.Reading.Answers.{ok_same}
use Rattle.giop_types.specs.declared.value.Value.{Value}
use Rattle.giop_types.specs.Descriptions.Shape.{Shape}
use Rattle.giop_types.specs.Values.Tree.{Tree}
use Rattle.giop_types.specs.Coding.Decoding.{decode_at}
use Rattle.giop_types.specs.Coding.Outcome.{Decodes, GivesBack}
use Rattle.giop_types.specs.Coding.Spells.{Spells}
use Rattle.giop_types.specs.Values.Views.{value_view}

answer : (old new after : Cursor) (r : Result (Tree × Cursor) CdrFault) (t : Tree) (result : Result Value CdrFault) → r ≡ Ok (t, after)
    → Decodes old result new r → GivesBack t result
answer old new after r t (Ok v) read h = ap (λ (p : Tree × Cursor). p.0) (ok_same (value_view v, new) (t, after) (sym h ∙ read))
answer old new after r t (Err e) read h = elim h.0 [
  | inl refused ↦ absurd cc
  | inr memory ↦ ap (λ (f : CdrFault). f.kind) memory.0
]

pub given_back : (s : Shape) (t : Tree) (order : Order) (start : ℕ) (out done : Output) (new : Cursor) (result : Result Value CdrFault)
    → out ≡ record { order = order; at = start; octets = [] } → IsReadBack (Spells s) (decode_at s) t out done
    → (old : Cursor) → old ≡ record { order = order; at = start; rest = done.octets } → Decodes old result new (decode_at s old) → GivesBack t result
given_back s t order start out done new result is back old stands h =
    let written : done.octets ≡ back.part ++ [] = back.octets ∙ ap (λ (o : Output). o.octets ++ back.part) is ∙ sym (append-nil back.part) in
    let read : decode_at s old ≡ Ok (t, record { order = done.order; at = done.at; rest = [] })
    = ap (decode_at s) stands ∙ ap (λ (rest : List ℕ). decode_at s (record { order = order; at = start; rest = rest })) written
    ∙ ap (λ (o : Output). decode_at s (record { order = o.order; at = o.at; rest = back.part ++ [] })) (sym is) ∙ back.back [] in
    answer _ new _ _ t result read h
