-- Values of parameters that are read, judged or written one after the other by a loop.
use Rattle.std.proofs.Common.{◌≡◌, ℕ, ◌+◌, ◌<◌, ◌≤◌, ◌&&◌, Bool, true, false, Ok, Err, List, [], ◌∷◌, ◌++◌, map, drop, get_or, length, refl, sym, ap, ◌∙◌, arith}
use Rattle.std.proofs.lemmas.List.{append-nil, length-map}
use Rattle.std.proofs.Math.ListN.{drop_of_length-le}
use Rattle.giop_cdr.specs.declared.fault.CdrFault.{CdrFault}
use Rattle.giop_cdr.specs.Reading.Cursor.{Cursor}
use Rattle.giop_cdr.specs.Reading.Values.{Reading, past}
use Rattle.giop_cdr.specs.Writing.Output.{Output}
use Rattle.giop_cdr.proofs.Reading.ItemLoops.{with_front, regroup}
use Rattle.giop_types.specs.declared.interfaces.parameters.Parameter.{Parameter}
use Rattle.giop_types.specs.declared.value.Value.{Value}
use Rattle.giop_types.specs.Coding.Decoding.{decode_at, fields_at}
use Rattle.giop_types.specs.Coding.Written.{value_out, fields_out}
use Rattle.giop_types.specs.Descriptions.CheckedShape.{checked_shape}
use Rattle.giop_types.specs.Descriptions.Shape.{field}
use Rattle.giop_types.specs.Values.Fits.{fits, fields_fit}
use Rattle.giop_types.specs.Values.Tree.{Tree}
use Rattle.giop_types.specs.Values.Views.{value_view}
use Rattle.giop_types.proofs.Coding.MemberLoops.{left_is, past_fails, past_next}
use Rattle.giop_msg.specs.Messages.Body.{fields_in}

left : (ps : List Parameter) (i : ℕ) (p : Parameter) → i < length ps → p ≡ get_or ps i p
    → fields_in (drop i ps) ≡ field p.name (checked_shape p.desc) (fields_in (drop (i + 1) ps))
left ps i p lt is = ap fields_in (left_is ps i p lt is)

none_left : (ps : List Parameter) (i : ℕ) → length ps ≤ i → drop i ps ≡ []
none_left ps i le = drop_of_length-le ps le

-- ---- reading

pub read_on : (front : List Tree) (ps : List Parameter) (i : ℕ) (p : Parameter) (c : Cursor)
    (v : Tree) (d : Cursor) (total : Reading (List Tree))
    → i < length ps → p ≡ get_or ps i p → decode_at (checked_shape p.desc) c ≡ Ok (v, d)
    → with_front front (fields_at (fields_in (drop i ps)) c) ≡ total
    → with_front (front ++ v ∷ []) (fields_at (fields_in (drop (i + 1) ps)) d) ≡ total
unfolding decode_at
read_on front ps i p c v d total lt is h so_far =
    let one : with_front front (fields_at (fields_in (drop i ps)) c)
    ≡ with_front (front ++ v ∷ []) (fields_at (fields_in (drop (i + 1) ps)) d)
    = rw (left ps i p lt is, h) (regroup front v (fields_at (fields_in (drop (i + 1) ps)) d)) in
    sym one ∙ so_far

pub read_end : (front : List Tree) (ps : List Parameter) (i : ℕ) (p : Parameter) (c : Cursor)
    (e : CdrFault) (total : Reading (List Tree))
    → i < length ps → p ≡ get_or ps i p → decode_at (checked_shape p.desc) c ≡ Err e
    → with_front front (fields_at (fields_in (drop i ps)) c) ≡ total → total ≡ Err e
unfolding decode_at
read_end front ps i p c e total lt is h so_far =
    let one : with_front front (fields_at (fields_in (drop i ps)) c)
    ≡ Err e = rw (left ps i p lt is, h) refl in
    sym so_far ∙ one

pub all_read : (front : List Tree) (ps : List Parameter) (i : ℕ) (c : Cursor)
    (total : Reading (List Tree)) → length ps ≤ i
    → with_front front (fields_at (fields_in (drop i ps)) c) ≡ total → total ≡ Ok (front, c)
unfolding decode_at
all_read front ps i c total le so_far =
    let one : with_front front (fields_at (fields_in (drop i ps)) c) ≡ Ok (front, c)
    = rw (none_left ps i le) (ap (λ (vs : List Tree). Ok (vs, c)) (append-nil front)) in
    sym so_far ∙ one

-- ---- passing over

pub skip_on : (ps : List Parameter) (i : ℕ) (p : Parameter) (c d : Cursor)
    (total : Reading (List Tree))
    → i < length ps → p ≡ get_or ps i p → past (decode_at (checked_shape p.desc) c) ≡ Ok d
    → past (fields_at (fields_in (drop i ps)) c) ≡ past total
    → past (fields_at (fields_in (drop (i + 1) ps)) d) ≡ past total
unfolding decode_at
skip_on ps i p c d total lt is h so_far =
    let one : past (fields_at (fields_in (drop i ps)) c)
    ≡ past (fields_at (fields_in (drop (i + 1) ps)) d)
    = rw (left ps i p lt is) (past_next (λ t ts. t ∷ ts) (fields_at (fields_in (drop (i + 1) ps)))
    d (decode_at (checked_shape p.desc) c) h) in
    sym one ∙ so_far

pub skip_end : (ps : List Parameter) (i : ℕ) (p : Parameter) (c : Cursor) (e : CdrFault)
    (total : Reading (List Tree))
    → i < length ps → p ≡ get_or ps i p → decode_at (checked_shape p.desc) c ≡ Err e
    → past (fields_at (fields_in (drop i ps)) c) ≡ past total → total ≡ Err e
unfolding decode_at
skip_end ps i p c e total lt is h so_far =
    let one : past (fields_at (fields_in (drop i ps)) c)
    ≡ Err e = rw (left ps i p lt is, h) refl in
    past_fails total e (sym so_far ∙ one)

pub all_skipped : (ps : List Parameter) (i : ℕ) (c : Cursor) (total : Reading (List Tree))
    → length ps ≤ i → past (fields_at (fields_in (drop i ps)) c) ≡ past total → past total ≡ Ok c
unfolding decode_at
all_skipped ps i c total le so_far =
    let one : past (fields_at (fields_in (drop i ps)) c) ≡ Ok c = rw (none_left ps i le) refl in
    sym so_far ∙ one

-- ---- judging

and_false : (a b : Bool) → b ≡ false → (a && b) ≡ false
and_false true b h = h
and_false false b h = refl

fit_step : (ps : List Parameter) (vs : List Value) (i : ℕ) (p : Parameter) (v : Value)
    → i < length ps → i < length vs → p ≡ get_or ps i p → v ≡ get_or vs i v
    → fields_fit (fields_in (drop i ps)) (map value_view (drop i vs))
    ≡ (fits (checked_shape p.desc) (value_view v)
    && fields_fit (fields_in (drop (i + 1) ps)) (map value_view (drop (i + 1) vs)))
unfolding fits
fit_step ps vs i p v lt short is has = rw (left ps i p lt is, left_is vs i v short has) refl

pub fit_failed : (ps : List Parameter) (vs : List Value) (i : ℕ) (p : Parameter) (v : Value)
    (total : Bool) → i < length ps → length ps ≡ length vs
    → p ≡ get_or ps i p → v ≡ get_or vs i v → fits (checked_shape p.desc) (value_view v) ≡ false
    → fields_fit (fields_in (drop i ps)) (map value_view (drop i vs)) ≡ total → false ≡ total
fit_failed ps vs i p v total lt many is has fails so_far =
    sym (sym so_far ∙ fit_step ps vs i p v lt (omega arith) is has
    ∙ ap (λ b. b && fields_fit (fields_in (drop (i + 1) ps)) (map value_view (drop (i + 1) vs)))
    fails)

pub fit_passed : (ps : List Parameter) (vs : List Value) (i : ℕ) (p : Parameter) (v : Value)
    (total : Bool) → i < length ps → length ps ≡ length vs
    → p ≡ get_or ps i p → v ≡ get_or vs i v → fits (checked_shape p.desc) (value_view v) ≡ true
    → fields_fit (fields_in (drop i ps)) (map value_view (drop i vs)) ≡ total
    → fields_fit (fields_in (drop (i + 1) ps)) (map value_view (drop (i + 1) vs)) ≡ total
fit_passed ps vs i p v total lt many is has passes so_far =
    sym (fit_step ps vs i p v lt (omega arith) is has
    ∙ ap (λ b. b && fields_fit (fields_in (drop (i + 1) ps)) (map value_view (drop (i + 1) vs)))
    passes) ∙ so_far

pub all_fit : (ps : List Parameter) (vs : List Value) (i : ℕ) (total : Bool) → length ps ≤ i
    → length ps ≡ length vs
    → fields_fit (fields_in (drop i ps)) (map value_view (drop i vs)) ≡ total → true ≡ total
unfolding fits
all_fit ps vs i total le many so_far =
    let few : length vs ≤ i = omega (arith, le, many) in
    let none : drop i vs ≡ [] = drop_of_length-le vs few in
    sym (ap (λ qs. fields_fit (fields_in qs) (map value_view (drop i vs))) (none_left ps i le)
    ∙ ap (λ us. fields_fit (fields_in []) (map value_view us)) none) ∙ so_far

-- too few values, or too many
pub fit_differ : (ps : List Parameter) (vs : List Value) → ((length ps ≡ length vs) → ⊥)
    → fields_fit (fields_in ps) (map value_view vs) ≡ false
unfolding fits
fit_differ [] [] differ = absurd (differ refl)
fit_differ [] (v ∷ vs) differ = refl
fit_differ (p ∷ ps) [] differ = refl
fit_differ (p ∷ ps) (v ∷ vs) differ =
    and_false (fits (checked_shape p.desc) (value_view v))
    (fields_fit (fields_in ps) (map value_view vs))
    (fit_differ ps vs (λ same. differ (omega arith)))

pub as_many : (ps : List Parameter) (vs : List Tree) → fields_fit (fields_in ps) vs ≡ true
    → length ps ≡ length vs
unfolding fits
as_many [] [] fit = refl
as_many [] (v ∷ vs) fit = absurd cc
as_many (p ∷ ps) [] fit = absurd cc
as_many (p ∷ ps) (v ∷ vs) fit =
    let rest : length ps
    ≡ length vs = as_many ps vs
    (second (fits (checked_shape p.desc) v) (fields_fit (fields_in ps) vs) fit) in
    omega arith
  where
    second : (a b : Bool) → (a && b) ≡ true → b ≡ true
    second true b h = h
    second false b h = absurd cc

pub fit_many : (ps : List Parameter) (vs : List Value)
    → fields_fit (fields_in ps) (map value_view vs) ≡ true → length ps ≡ length vs
fit_many ps vs fit = as_many ps (map value_view vs) fit ∙ length-map vs value_view

-- of values that fit, the next one does
pub fit_now : (ps : List Parameter) (vs : List Value) (i : ℕ) (p : Parameter) (v : Value)
    → i < length ps → length ps ≡ length vs → p ≡ get_or ps i p → v ≡ get_or vs i v
    → fields_fit (fields_in (drop i ps)) (map value_view (drop i vs)) ≡ true
    → fits (checked_shape p.desc) (value_view v) ≡ true
fit_now ps vs i p v lt many is has fit =
    first (fits (checked_shape p.desc) (value_view v))
    (fields_fit (fields_in (drop (i + 1) ps)) (map value_view (drop (i + 1) vs)))
    (sym (fit_step ps vs i p v lt (omega arith) is has) ∙ fit)
  where
    first : (a b : Bool) → (a && b) ≡ true → a ≡ true
    first true b h = refl
    first false b h = absurd cc

-- ---- writing

pub written_on : (ps : List Parameter) (vs : List Value) (i : ℕ) (p : Parameter) (v : Value)
    (out new total : Output) → i < length ps → length ps ≡ length vs
    → p ≡ get_or ps i p → v ≡ get_or vs i v
    → new ≡ value_out (checked_shape p.desc) (value_view v) out
    → fields_out (fields_in (drop i ps)) (map value_view (drop i vs)) out ≡ total
    → fields_out (fields_in (drop (i + 1) ps)) (map value_view (drop (i + 1) vs)) new ≡ total
unfolding value_out
written_on ps vs i p v out new total lt many is has step so_far =
    ap (fields_out (fields_in (drop (i + 1) ps)) (map value_view (drop (i + 1) vs))) step
    ∙ sym (ap (λ fs. fields_out fs (map value_view (drop i vs)) out) (left ps i p lt is)
    ∙ ap (λ us. fields_out (field p.name (checked_shape p.desc) (fields_in (drop (i + 1) ps)))
    (map value_view us) out)
    (left_is vs i v (omega arith) has)) ∙ so_far

pub all_written : (ps : List Parameter) (vs : List Value) (i : ℕ) (out total : Output)
    → length ps ≤ i
    → fields_out (fields_in (drop i ps)) (map value_view (drop i vs)) out ≡ total → out ≡ total
unfolding value_out
all_written ps vs i out total le so_far =
    sym (ap (λ qs. fields_out (fields_in qs) (map value_view (drop i vs)) out) (none_left ps i le))
    ∙ so_far
