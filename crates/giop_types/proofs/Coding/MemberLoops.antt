-- Members that are passed over, or read, one after the other by a loop over their descriptions.
use Rattle.std.proofs.Common.{◌≡◌, ℕ, ℤ, ◌+◌, ◌<◌, ◌≤◌, Bool, true, false, Option, None, Result, Ok, Err, inr}
use Rattle.std.proofs.Common.{subst, List, [], ◌∷◌, ◌++◌, map, drop, get_or, length, refl, sym, ap, ◌∙◌}
use Rattle.std.proofs.lemmas.List.{drop_more, append-nil, map-append}
use Rattle.std.proofs.Math.ListN.{drop_of_length-le}
use Rattle.giop_cdr.specs.declared.fault.CdrFault.{CdrFault}
use Rattle.giop_cdr.specs.Reading.Cursor.{Cursor}
use Rattle.giop_cdr.specs.Reading.Values.{Reading, ◌>>=◌, past}
use Rattle.giop_cdr.specs.Reading.Outcome.{Skips, Follows}
use Rattle.giop_cdr.proofs.Reading.ItemLoops.{with_front, regroup}
use Rattle.giop_types.specs.declared.value.Value.{Value}
use Rattle.giop_types.specs.declared.description.desc.NamedDesc.{NamedDesc}
use Rattle.giop_types.specs.declared.description.desc.CaseDesc.{CaseDesc}
use Rattle.giop_types.specs.Values.Tree.{Tree, choice_of}
use Rattle.giop_types.specs.Coding.Outcome.{SkipsCase, FollowsCase, MakesChoice}
use Rattle.giop_types.specs.Descriptions.Shape.{Shape, choice, Fields, no_fields, field, Branches, branch}
use Rattle.giop_types.specs.Coding.Decoding.{decode_at, fields_at, branches_at, label_at, is_label, as_read}
use Rattle.giop_types.specs.Values.Views.{desc_view, named_view, case_view, fields_of, branches_of, trees_of, value_view}
use Rattle.giop_types.proofs.Values.ViewLemmas.{view-Named, view-Case}

-- what is left of a list, from one of its items on
pub left_is : {X : Type 0} (xs : List X) (i : ℕ) (x : X) → i < length xs → x ≡ get_or xs i x → drop i xs ≡ x ∷ drop (i + 1) xs
left_is xs i x lt is = drop_more xs i x lt ∙ ap (λ y. y ∷ drop (i + 1) xs) (sym is)

past_as : {B C : Type 0} (f : B → C) (r : Reading B) → past (r >>= λ y. Ok (f y.0, y.1)) ≡ past r
past_as f (Ok y) = refl
past_as f (Err e) = refl

pub past_next : {A B C : Type 0} (f : A → B → C) (g : Cursor → Reading B) (d : Cursor) (r : Reading A) → past r ≡ Ok d
    → past (r >>= λ x. g x.1 >>= λ y. Ok (f x.0 y.0, y.1)) ≡ past (g d)
past_next f g d (Ok x) h =
    let same : x.1 ≡ d = cc in
    rw (← same) (past_as (f x.0) (g x.1))
past_next f g d (Err e) h = absurd cc

pub past_fails : {A : Type 0} (r : Reading A) (e : CdrFault) → past r ≡ Err e → r ≡ Err e
past_fails (Ok x) e h = absurd cc
past_fails (Err d) e h = cc

-- ---- the members of a struct

pub fields_left : (ms : List NamedDesc) (i : ℕ) (m : NamedDesc) → i < length ms → m ≡ get_or ms i m
    → fields_of (map named_view (drop i ms)) ≡ field m.name (desc_view m.desc) (fields_of (map named_view (drop (i + 1) ms)))
fields_left ms i m lt is = rw (left_is ms i m lt is, view-Named m) refl

pub members_skip_on : (ms : List NamedDesc) (i : ℕ) (m : NamedDesc) (c d : Cursor) (total : Reading (List Tree)) → i < length ms → m ≡ get_or ms i m
    → past (decode_at (desc_view m.desc) c) ≡ Ok d → past (fields_at (fields_of (map named_view (drop i ms))) c) ≡ past total
    → past (fields_at (fields_of (map named_view (drop (i + 1) ms))) d) ≡ past total
unfolding decode_at
members_skip_on ms i m c d total lt is h so_far =
    let one : past (fields_at (fields_of (map named_view (drop i ms))) c) ≡ past (fields_at (fields_of (map named_view (drop (i + 1) ms))) d)
    = rw (fields_left ms i m lt is)
    (past_next (λ t ts. t ∷ ts) (fields_at (fields_of (map named_view (drop (i + 1) ms)))) d (decode_at (desc_view m.desc) c) h) in
    sym one ∙ so_far

pub members_skip_end : (ms : List NamedDesc) (i : ℕ) (m : NamedDesc) (c : Cursor) (e : CdrFault) (total : Reading (List Tree)) → i < length ms
    → m ≡ get_or ms i m
    → decode_at (desc_view m.desc) c ≡ Err e → past (fields_at (fields_of (map named_view (drop i ms))) c) ≡ past total → total ≡ Err e
unfolding decode_at
members_skip_end ms i m c e total lt is h so_far =
    let one : past (fields_at (fields_of (map named_view (drop i ms))) c) ≡ Err e = rw (fields_left ms i m lt is, h) refl in
    past_fails total e (sym so_far ∙ one)

pub members_skipped : (ms : List NamedDesc) (i : ℕ) (c : Cursor) (total : Reading (List Tree)) → length ms ≤ i
    → past (fields_at (fields_of (map named_view (drop i ms))) c) ≡ past total → past total ≡ Ok c
unfolding decode_at
members_skipped ms i c total le so_far =
    let one : past (fields_at (fields_of (map named_view (drop i ms))) c) ≡ Ok c = rw (drop_of_length-le ms le) refl in
    sym so_far ∙ one

-- ---- the cases of a union

pub branches_left : (bs : List CaseDesc) (i : ℕ) (b : CaseDesc) → i < length bs → b ≡ get_or bs i b
    → branches_of (map case_view (drop i bs)) ≡ branch b.labels.items b.name (desc_view b.desc) (branches_of (map case_view (drop (i + 1) bs)))
branches_left bs i b lt is = rw (left_is bs i b lt is, view-Case b) refl

-- a case with the label is read
pub case_found : (bs : List CaseDesc) (i : ℕ) (b : CaseDesc) (label : ℤ) (other : Cursor → Reading (List Tree)) (c : Cursor) → i < length bs → b ≡ get_or bs i b
    → is_label label b.labels.items ≡ true
    → branches_at (branches_of (map case_view (drop i bs))) other label c ≡ as_read (λ t. t ∷ []) (decode_at (desc_view b.desc) c)
unfolding decode_at
case_found bs i b label other c lt is found = rw (branches_left bs i b lt is, found) refl

-- a case without the label is passed by
pub case_passed : (bs : List CaseDesc) (i : ℕ) (b : CaseDesc) (label : ℤ) (other : Cursor → Reading (List Tree)) (c : Cursor) → i < length bs
    → b ≡ get_or bs i b
    → is_label label b.labels.items ≡ false
    → branches_at (branches_of (map case_view (drop i bs))) other label c ≡ branches_at (branches_of (map case_view (drop (i + 1) bs))) other label c
unfolding decode_at
case_passed bs i b label other c lt is passed = rw (branches_left bs i b lt is, passed) refl

-- no case is left
pub no_case : (bs : List CaseDesc) (i : ℕ) (label : ℤ) (other : Cursor → Reading (List Tree)) (c : Cursor) → length bs ≤ i
    → branches_at (branches_of (map case_view (drop i bs))) other label c ≡ other c
unfolding decode_at
no_case bs i label other c le = rw (drop_of_length-le bs le) refl

-- a case's value is the only one of its member
pub past_one : (r : Reading Tree) (d : Cursor) → past r ≡ Ok d → past (as_read (λ t. t ∷ []) r) ≡ Ok d
past_one r d h = past_as (λ t. t ∷ []) r ∙ h

-- ---- the member that is there by default

pub default_read : (m : NamedDesc) (c : Cursor)
    → fields_at (field (named_view m).name (named_view m).shape no_fields) c ≡ as_read (λ t. t ∷ []) (decode_at (desc_view m.desc) c)
unfolding decode_at
default_read m c = rw (view-Named m) refl

pub nothing_read : (c : Cursor) → fields_at no_fields c ≡ Ok ([], c)
unfolding decode_at
nothing_read c = refl

pub skips_one : {X : Type 0} (result : Result X CdrFault) (new : Cursor) (r : Reading Tree) → Skips result new r → Skips result new (as_read (λ t. t ∷ []) r)
skips_one (Ok x) new r h = past_one r new h
skips_one (Err e) new r h = rw h refl

-- a union whose label no case has is read by default
pub choice_by_default : (disc : Shape) (bs : Branches) (fallback : Fields) (c m e : Cursor) (label : ℤ) → label_at disc c ≡ Ok (label, m)
    → branches_at bs (fields_at fallback) label m ≡ fields_at fallback m → past (fields_at fallback m) ≡ Ok e
    → past (decode_at (choice disc bs fallback) c) ≡ Ok e
unfolding decode_at
choice_by_default disc bs fallback c m e label h default read =
    rw (h, default) (past_as (λ ts. choice_of label (trees_of ts)) (fields_at fallback m) ∙ read)

pub case_absent : (b : Bool) (old new : Cursor) (r s : Reading (List Tree)) → b ≡ false → SkipsCase (Ok b) old new r s → (r ≡ s) × (new ≡ old)
case_absent true old new r s off h = absurd cc
case_absent false old new r s off h = h

-- ---- members that are read

pub members_read_on : (front : List Tree) (ms : List NamedDesc) (i : ℕ) (m : NamedDesc) (c : Cursor) (v : Tree) (d : Cursor) (total : Reading (List Tree))
    → i < length ms → m ≡ get_or ms i m → decode_at (desc_view m.desc) c ≡ Ok (v, d)
    → with_front front (fields_at (fields_of (map named_view (drop i ms))) c) ≡ total
    → with_front (front ++ v ∷ []) (fields_at (fields_of (map named_view (drop (i + 1) ms))) d) ≡ total
unfolding decode_at
members_read_on front ms i m c v d total lt is h so_far =
    let one : with_front front (fields_at (fields_of (map named_view (drop i ms))) c)
    ≡ with_front (front ++ v ∷ []) (fields_at (fields_of (map named_view (drop (i + 1) ms))) d)
    = rw (fields_left ms i m lt is, h) (regroup front v (fields_at (fields_of (map named_view (drop (i + 1) ms))) d)) in
    sym one ∙ so_far

pub members_read_end : (front : List Tree) (ms : List NamedDesc) (i : ℕ) (m : NamedDesc) (c : Cursor) (e : CdrFault) (total : Reading (List Tree))
    → i < length ms → m ≡ get_or ms i m → decode_at (desc_view m.desc) c ≡ Err e
    → with_front front (fields_at (fields_of (map named_view (drop i ms))) c) ≡ total → total ≡ Err e
unfolding decode_at
members_read_end front ms i m c e total lt is h so_far =
    let one : with_front front (fields_at (fields_of (map named_view (drop i ms))) c) ≡ Err e = rw (fields_left ms i m lt is, h) refl in
    sym so_far ∙ one

pub members_read : (front : List Tree) (ms : List NamedDesc) (i : ℕ) (c : Cursor) (total : Reading (List Tree)) → length ms ≤ i
    → with_front front (fields_at (fields_of (map named_view (drop i ms))) c) ≡ total → total ≡ Ok (front, c)
unfolding decode_at
members_read front ms i c total le so_far =
    let one : with_front front (fields_at (fields_of (map named_view (drop i ms))) c) ≡ Ok (front, c)
    = rw (drop_of_length-le ms le) (ap (λ (vs : List Tree). Ok (vs, c)) (append-nil front)) in
    sym so_far ∙ one

-- a value behind those that are there
pub one_more : (vs : List Value) (v : Value) → map value_view (vs ++ v ∷ []) ≡ map value_view vs ++ value_view v ∷ []
one_more vs v = map-append value_view vs (v ∷ [])

-- ---- unions that are read

pub value_absent : (old new : Cursor) (r s : Reading (List Tree)) (o : Option Value) → o ≡ None → FollowsCase (Ok o) old new r s → (r ≡ s) × (new ≡ old)
value_absent old new r s o none h = subst (λ (p : Option Value). FollowsCase (Ok p) old new r s) none h

pub choice_read : (disc : Shape) (bs : Branches) (fallback : Fields) (c m e : Cursor) (label : ℤ) (ts : List Tree) → label_at disc c ≡ Ok (label, m)
    → branches_at bs (fields_at fallback) label m ≡ Ok (ts, e) → decode_at (choice disc bs fallback) c ≡ Ok (choice_of label (trees_of ts), e)
unfolding decode_at
choice_read disc bs fallback c m e label ts h read = rw (h, read) refl

pub choice_refused : (disc : Shape) (bs : Branches) (fallback : Fields) (c m : Cursor) (label : ℤ) (f : CdrFault) → label_at disc c ≡ Ok (label, m)
    → branches_at bs (fields_at fallback) label m ≡ Err f → decode_at (choice disc bs fallback) c ≡ Err f
unfolding decode_at
choice_refused disc bs fallback c m label f h refused = rw (h, refused) refl

-- where the value was made, it is the one that was read
pub choice_follows : (label : ℤ) (ts : List Tree) (result : Result Value CdrFault) (new : Cursor) (r : Reading Tree)
    → MakesChoice label ts result → r ≡ Ok (choice_of label (trees_of ts), new) → Follows value_view result new r
choice_follows label ts (Ok v) new r made read = read ∙ ap (λ t. Ok (t, new)) (sym made)
choice_follows label ts (Err e) new r made read = inr made
