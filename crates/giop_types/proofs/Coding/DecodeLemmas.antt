-- What decoding answers is what is spelled.
use Rattle.std.proofs.Common.{◌≡◌, ◌≤◌, ◌+◌, inl, inr, true, length, length-append, arith, Result, Ok, Err}
use Rattle.std.proofs.Common.{IfOk, sym, ap, ◌∙◌}
use Rattle.giop_cdr.specs.declared.fault.CdrFault.{CdrFault}
use Rattle.giop_cdr.specs.Reading.Cursor.{Cursor}
use Rattle.giop_cdr.specs.Reading.Exactness.{Took}
use Rattle.giop_cdr.proofs.Reading.Answers.{ok_same}
use Rattle.giop_types.specs.declared.value.Value.{Value}
use Rattle.giop_types.specs.Descriptions.Shape.{Shape}
use Rattle.giop_types.specs.Values.Tree.{Tree}
use Rattle.giop_types.specs.Coding.Decoding.{decode_at}
use Rattle.giop_types.specs.Descriptions.Full.{is_full}
use Rattle.giop_types.specs.Coding.Outcome.{Decodes, IsDecoded}
use Rattle.giop_types.specs.Coding.Spells.{Spells}
use Rattle.giop_types.specs.Values.Views.{value_view}
use Rattle.giop_types.specs.Values.Leaves.{leaves}
use Rattle.giop_types.proofs.Coding.ShapeExact.{shape_exact}
use Rattle.giop_types.proofs.Values.LeavesLemmas.{shape_within}

pub found_there : (s : Shape) → is_full s ≡ true → (old : Cursor) (result : Result Value CdrFault) (new : Cursor)
    → Decodes old result new (decode_at s old) → IfOk result (λ v. Took (Spells s) old (value_view v) new)
found_there s full old (Ok v) new h = (shape_exact s full old).found (value_view v) new h
found_there s full old (Err e) new h = tt

pub answered_there : (s : Shape) → is_full s ≡ true → (old : Cursor) (result : Result Value CdrFault) (new : Cursor)
    → Decodes old result new (decode_at s old) → (t : Tree) (after : Cursor) → Took (Spells s) old t after → IsDecoded result new t after
answered_there s full old (Ok v) new h t after there =
    let same : (value_view v, new) ≡ (t, after) = ok_same (value_view v, new) (t, after) (sym h ∙ (shape_exact s full old).only t after there) in
    (ap (λ (p : Tree × Cursor). p.0) same, ap (λ (p : Tree × Cursor). p.1) same)
answered_there s full old (Err e) new h t after there =
    let read = (shape_exact s full old).only t after there in
    elim h.0 [
      | inl refused ↦ absurd cc
      | inr memory ↦ ap (λ (f : CdrFault). f.kind) memory.0
    ]

pub bounded_there : (s : Shape) → is_full s ≡ true → (old : Cursor) (result : Result Value CdrFault) (new : Cursor)
    → Decodes old result new (decode_at s old) → IfOk result (λ v. leaves (value_view v) + length new.rest ≤ length old.rest)
bounded_there s full old (Ok v) new h =
    let t = (shape_exact s full old).found (value_view v) new h in
    let few : leaves (value_view v) ≤ length t.octets = shape_within s full old.order old.at (value_view v) t.octets t.spells in
    let whole : length old.rest ≡ length t.octets + length new.rest = ap length t.front ∙ length-append t.octets new.rest in
    omega arith
bounded_there s full old (Err e) new h = tt
