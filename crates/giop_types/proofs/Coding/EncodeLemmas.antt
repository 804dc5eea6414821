-- Values that are written where they fit, variant by variant and one after the other.
use Rattle.std.proofs.Common.{◌≡◌, ℕ, ℤ, ◌+◌, ◌<◌, ◌≤◌, ◌&&◌, ◌==◌, Bool, true, false, Option, None, Some, Result, Ok, Err}
use Rattle.std.proofs.Common.{List, [], ◌∷◌, map, drop, get_or, length, refl, sym, ap, subst, ◌∙◌, arith}
use Rattle.std.proofs.lemmas.List.{length-map}
use Rattle.std.proofs.Math.ListN.{drop_of_length-le}
use Rattle.std.specs.declared.vec.Vec.{Vec}
use Rattle.std.specs.declared.boxed.Box.{Box}
use Rattle.std.specs.declared.alloc.Global.{Global}
use Rattle.std.specs.List.{list_all}
use Rattle.std.specs.Int.{w32}
use Rattle.giop_cdr.specs.declared.encode_fault.EncodeFault.{EncodeFault}
use Rattle.giop_cdr.specs.declared.encode_fault.EncodeFault.TheVariants.{Unfit}
use Rattle.giop_cdr.specs.Writing.Output.{Output, number_out, items_out, sequence_out}
use Rattle.giop_cdr.specs.Writing.Outcome.{Grows}
use Rattle.giop_cdr.proofs.Writing.WriterLemmas.{grows_then}
use Rattle.giop_types.specs.declared.description.desc.Desc.{Desc}
use Rattle.giop_types.specs.declared.description.desc.Desc.TheVariants as desc
use Rattle.giop_types.specs.declared.description.desc.NamedDesc.{NamedDesc}
use Rattle.giop_types.specs.declared.description.desc.CaseDesc.{CaseDesc}
use Rattle.giop_types.specs.declared.value.Value.{Value}
use Rattle.giop_types.specs.declared.value.Value.TheVariants as value
use Rattle.giop_types.specs.Descriptions.Shape.{Shape, members, choice, items, row, field}
use Rattle.giop_types.specs.Values.Tree.{Tree}
use Rattle.giop_types.specs.Coding.Decoding.{is_label, decode_at}
use Rattle.giop_types.specs.Descriptions.Full.{is_full}
use Rattle.giop_types.specs.Coding.Refusals.{RefusedShape}
use Rattle.giop_types.specs.Coding.Spells.{Spells}
use Rattle.giop_cdr.specs.RoundTrip.{IsReadBack}
use Rattle.giop_cdr.proofs.Spelling.SpelledLemmas.{read_back}
use Rattle.giop_types.proofs.Coding.ShapeExact.{shape_exact}
use Rattle.giop_types.proofs.Coding.WrittenLemmas.{shape_spelled}
use Rattle.giop_types.specs.Coding.Encoding.{AppendsFitting, AppendsCase}
use Rattle.giop_types.specs.Values.Fits.{fits, branches_fit, is_counted}
use Rattle.giop_types.specs.Values.Views.{desc_view, named_view, case_view, fallback_view, fields_of, branches_of}
use Rattle.giop_types.specs.Values.Views.{value_view, member_view}
use Rattle.giop_types.specs.Coding.Written.{label_out, one_out, value_out, fields_out, branches_out}
use Rattle.giop_types.proofs.Values.ViewLemmas.{view-Members, view-Choice, view-Items, view-Row, view-Named}
use Rattle.giop_types.proofs.Values.FitLemmas.{list_back, members_view, items_view, row_view, choice_view}
use Rattle.giop_types.proofs.Values.FitLemmas.{items_fitting, row_fitting, case_fits}
use Rattle.giop_types.proofs.Coding.MemberLoops.{left_is, fields_left, branches_left}

-- ---- one step and then another

pub puts_as : {X : Type 0} (a b : Bool) (old new done more : Output) (r : Result X EncodeFault) → a ≡ b → done ≡ more
    → AppendsFitting a old r new done → AppendsFitting b old r new more
puts_as a b old new done more (Ok x) same written h = (sym same ∙ h.0, h.1 ∙ written, h.2)
puts_as a b old new done more (Err e) same written h = (λ unfit. sym same ∙ h.0 unfit, h.1)

-- the first part was written
pub puts_then : {X : Type 0} (a b : Bool) (old mid new done : Output) (r : Result X EncodeFault) → a ≡ true → Grows old mid
    → AppendsFitting b mid r new done → AppendsFitting (a && b) old r new done
puts_then a b old mid new done (Ok x) fit grows h = (ap (λ c. c && b) fit ∙ h.0, h.1, grows_then old mid new grows h.2)
puts_then a b old mid new done (Err e) fit grows h = (λ unfit. ap (λ c. c && b) fit ∙ h.0 unfit, grows_then old mid new grows h.1)

-- a step of a loop failed: what is left doesn't fit where this one doesn't
pub puts_fails : (a b : Bool) (old mid new : Output) (e : EncodeFault) → (a ≡ false → b ≡ false) → Grows old mid
    → (e ≡ Unfit → a ≡ false) × Grows mid new → (e ≡ Unfit → b ≡ false) × Grows old new
puts_fails a b old mid new e so grows h = (λ unfit. so (h.0 unfit), grows_then old mid new grows h.1)

-- ---- variants with parts

abbrev Values : Type 0
Values = Vec Value Global

abbrev Item : Type 0
Item = Box Desc Global

pub members_written : (ms : Vec NamedDesc Global) (vs : Values) (out : Output) → value_out (desc_view (desc.Members ms)) (value_view (value.Members vs)) out
    ≡ fields_out (fields_of (map named_view ms.items)) (map value_view vs.items) out
unfolding value_out
members_written ms vs out =
    ap (λ s. value_out s (value_view (value.Members vs)) out) (view-Members ms)
    ∙ ap (λ t. value_out (members (fields_of (map named_view ms.items))) t out) (members_view vs)
    ∙ ap (λ ts. fields_out (fields_of (map named_view ms.items)) ts out) (list_back (map value_view vs.items))

pub items_written : (d : Item) (bound : ℕ) (vs : Values) (out : Output) → value_out (desc_view (desc.Items d bound)) (value_view (value.Items vs)) out
    ≡ sequence_out (value_out (desc_view d.value)) (map value_view vs.items) out
unfolding value_out
items_written d bound vs out =
    ap (λ s. value_out s (value_view (value.Items vs)) out) (view-Items d bound)
    ∙ ap (λ t. value_out (items (desc_view d.value) bound) t out) (items_view vs)
    ∙ ap (λ ts. sequence_out (value_out (desc_view d.value)) ts out) (list_back (map value_view vs.items))

pub row_written : (d : Item) (n : ℕ) (vs : Values) (out : Output) → value_out (desc_view (desc.Row d n)) (value_view (value.Row vs)) out
    ≡ items_out (value_out (desc_view d.value)) (map value_view vs.items) out
unfolding value_out
row_written d n vs out =
    ap (λ s. value_out s (value_view (value.Row vs)) out) (view-Row d n)
    ∙ ap (λ t. value_out (row (desc_view d.value) n) t out) (row_view vs)
    ∙ ap (λ ts. items_out (value_out (desc_view d.value)) ts out) (list_back (map value_view vs.items))

pub choice_written : (d : Item) (cs : Vec CaseDesc Global) (f : Option (Box NamedDesc Global)) (label : ℤ) (m : Option (Box Value Global)) (out : Output)
    → value_out (desc_view (desc.Choice d cs f)) (value_view (value.Choice label m)) out
    ≡ branches_out (branches_of (map case_view cs.items)) (fields_out (fallback_view f)) label (member_view m) (label_out (desc_view d.value) label out)
unfolding value_out
choice_written d cs f label m out =
    ap (λ s. value_out s (value_view (value.Choice label m)) out) (view-Choice d cs f)
    ∙ ap (λ t. value_out (choice (desc_view d.value) (branches_of (map case_view cs.items)) (fallback_view f)) t out) (choice_view label m)
    ∙ ap (λ ts. branches_out (branches_of (map case_view cs.items)) (fields_out (fallback_view f)) label ts (label_out (desc_view d.value) label out))
    (list_back (member_view m))

-- items and arrays as their parts are judged
pub items_fits : (d : Item) (bound : ℕ) (vs : Values) → (is_counted bound (length vs.items) && list_all (fits (desc_view d.value)) (map value_view vs.items))
    ≡ fits (desc_view (desc.Items d bound)) (value_view (value.Items vs))
items_fits d bound vs =
    sym (items_fitting d bound vs
    ∙ ap (λ n. is_counted bound n && list_all (fits (desc_view d.value)) (map value_view vs.items)) (length-map vs.items value_view))

pub row_fits : (d : Item) (n : ℕ) (vs : Values) → ((length vs.items == n) && list_all (fits (desc_view d.value)) (map value_view vs.items))
    ≡ fits (desc_view (desc.Row d n)) (value_view (value.Row vs))
row_fits d n vs =
    sym (row_fitting d n vs
    ∙ ap (λ l. (l == n) && list_all (fits (desc_view d.value)) (map value_view vs.items)) (length-map vs.items value_view))

-- ---- values one after the other

pub each_on : (s : Shape) (vs : List Value) (i : ℕ) (v : Value) (out new total : Output) → i < length vs → v ≡ get_or vs i v
    → new ≡ value_out s (value_view v) out → items_out (value_out s) (map value_view (drop i vs)) out ≡ total
    → items_out (value_out s) (map value_view (drop (i + 1) vs)) new ≡ total
unfolding items_out
each_on s vs i v out new total lt is step so_far =
    ap (items_out (value_out s) (map value_view (drop (i + 1) vs))) step
    ∙ sym (ap (λ us. items_out (value_out s) (map value_view us) out) (left_is vs i v lt is)) ∙ so_far

pub each_end : (s : Shape) (vs : List Value) (i : ℕ) (out total : Output) → length vs ≤ i → items_out (value_out s) (map value_view (drop i vs)) out ≡ total
    → out ≡ total
unfolding items_out
each_end s vs i out total le so_far = sym (ap (λ us. items_out (value_out s) (map value_view us) out) (drop_of_length-le vs le)) ∙ so_far

-- behind their count
pub sequence_is : (s : Shape) (vs : List Value) (out mid : Output) (n : ℕ) → n ≡ length vs → mid ≡ number_out w32 n out
    → items_out (value_out s) (map value_view vs) mid ≡ sequence_out (value_out s) (map value_view vs) out
unfolding sequence_out
sequence_is s vs out mid n many counted =
    ap (items_out (value_out s) (map value_view vs)) (counted ∙ ap (λ k. number_out w32 k out) (many ∙ sym (length-map vs value_view)))

pub fields_on : (ms : List NamedDesc) (vs : List Value) (i : ℕ) (m : NamedDesc) (v : Value) (out new total : Output) → i < length ms → length ms ≡ length vs
    → m ≡ get_or ms i m → v ≡ get_or vs i v → new ≡ value_out (desc_view m.desc) (value_view v) out
    → fields_out (fields_of (map named_view (drop i ms))) (map value_view (drop i vs)) out ≡ total
    → fields_out (fields_of (map named_view (drop (i + 1) ms))) (map value_view (drop (i + 1) vs)) new ≡ total
unfolding value_out
fields_on ms vs i m v out new total lt many is has step so_far =
    ap (fields_out (fields_of (map named_view (drop (i + 1) ms))) (map value_view (drop (i + 1) vs))) step
    ∙ sym (ap (λ fs. fields_out fs (map value_view (drop i vs)) out) (fields_left ms i m lt is)
    ∙ ap (λ us. fields_out (field m.name (desc_view m.desc) (fields_of (map named_view (drop (i + 1) ms)))) (map value_view us) out)
    (left_is vs i v (omega arith) has)) ∙ so_far

pub fields_done : (ms : List NamedDesc) (vs : List Value) (i : ℕ) (out total : Output) → length ms ≤ i
    → fields_out (fields_of (map named_view (drop i ms))) (map value_view (drop i vs)) out ≡ total → out ≡ total
unfolding value_out
fields_done ms vs i out total le so_far =
    sym (ap (λ ns. fields_out (fields_of (map named_view ns)) (map value_view (drop i vs)) out) (drop_of_length-le ms le)) ∙ so_far

-- ---- the member of a union

pub case_written : (bs : List CaseDesc) (i : ℕ) (b : CaseDesc) (label : ℤ) (more : List Tree → Output → Output) (ts : List Tree) (out : Output) → i < length bs
    → b ≡ get_or bs i b
    → is_label label b.labels.items ≡ true
    → branches_out (branches_of (map case_view (drop i bs))) more label ts out ≡ one_out (value_out (desc_view b.desc)) ts out
unfolding value_out
case_written bs i b label more ts out lt is found = rw (branches_left bs i b lt is, found) refl

pub case_left : (bs : List CaseDesc) (i : ℕ) (b : CaseDesc) (label : ℤ) (more : List Tree → Output → Output) (ts : List Tree) (out : Output) → i < length bs
    → b ≡ get_or bs i b
    → is_label label b.labels.items ≡ false
    → branches_out (branches_of (map case_view (drop i bs))) more label ts out ≡ branches_out (branches_of (map case_view (drop (i + 1) bs))) more label ts out
unfolding value_out
case_left bs i b label more ts out lt is passed = rw (branches_left bs i b lt is, passed) refl

pub cases_done : (bs : List CaseDesc) (i : ℕ) (label : ℤ) (more : List Tree → Output → Output) (ts : List Tree) (out : Output) → length bs ≤ i
    → branches_out (branches_of (map case_view (drop i bs))) more label ts out ≡ more ts out
unfolding value_out
cases_done bs i label more ts out le = rw (drop_of_length-le bs le) refl

-- a case with the label is written, or fails
pub case_put : (bs : List CaseDesc) (i : ℕ) (b : CaseDesc) (label : ℤ) (v : Tree) (other : List Tree → Bool) (more : List Tree → Output → Output)
    (old new : Output)
    (fit : Bool) (done : Output) → i < length bs → b ≡ get_or bs i b → is_label label b.labels.items ≡ true
    → branches_fit (branches_of (map case_view (drop i bs))) other label (v ∷ []) ≡ fit
    → branches_out (branches_of (map case_view (drop i bs))) more label (v ∷ []) old ≡ done
    → (fits (desc_view b.desc) v ≡ true) × (new ≡ value_out (desc_view b.desc) v old) × Grows old new
    → (fit ≡ true) × (new ≡ done) × Grows old new
case_put bs i b label v other more old new fit done lt is found fitting written put = (
  sym fitting ∙ case_fits bs i b label other (v ∷ []) lt is found ∙ put.0,
  put.1 ∙ sym (case_written bs i b label more (v ∷ []) old lt is found) ∙ written,
  put.2,
)

pub case_refused : (bs : List CaseDesc) (i : ℕ) (b : CaseDesc) (label : ℤ) (v : Tree) (other : List Tree → Bool) (fit : Bool)
    → i < length bs → b ≡ get_or bs i b → is_label label b.labels.items ≡ true
    → branches_fit (branches_of (map case_view (drop i bs))) other label (v ∷ []) ≡ fit → fits (desc_view b.desc) v ≡ false → fit ≡ false
case_refused bs i b label v other fit lt is found fitting fails = sym fitting ∙ case_fits bs i b label other (v ∷ []) lt is found ∙ fails

-- over the same cases
pub case_over : {xs ys : List CaseDesc} → xs ≡ ys
    → (other : List Tree → Bool) (more : List Tree → Output → Output) (label : ℤ) (ts : List Tree) (old new : Output)
    (r : Result Bool EncodeFault)
    → AppendsCase (branches_fit (branches_of (map case_view xs)) other label ts) (other ts) old r new
    (branches_out (branches_of (map case_view xs)) more label ts old) (more ts old)
    → AppendsCase (branches_fit (branches_of (map case_view ys)) other label ts) (other ts) old r new
    (branches_out (branches_of (map case_view ys)) more label ts old) (more ts old)
case_over same other more label ts old new r =
    subst (λ (bs : List CaseDesc). AppendsCase (branches_fit (branches_of (map case_view bs)) other label ts) (other ts) old r new
    (branches_out (branches_of (map case_view bs)) more label ts old) (more ts old)) same

-- a union, once its discriminant is written
pub choice_by_case : (X : Type 0) (x : X) (a b other found : Bool) (old mid new done more : Output) → a ≡ true → Grows old mid → found ≡ true
    → AppendsCase b other mid (Ok found) new done more → AppendsFitting (a && b) old (Ok x) new done
choice_by_case X x a b other true old mid new done more fit grows is h = (ap (λ c. c && b) fit ∙ h.0, h.1, grows_then old mid new grows h.2)
choice_by_case X x a b other false old mid new done more fit grows is h = absurd cc

pub choice_by_default : {X : Type 0} (a b other found : Bool) (old mid there new done : Output) (more : Output → Output) (r : Result X EncodeFault) → a ≡ true
    → Grows old mid
    → found ≡ false → AppendsCase b other mid (Ok found) there done (more mid) → AppendsFitting other there r new (more there)
    → AppendsFitting (a && b) old r new done
choice_by_default a b other true old mid there new done more r fit grows is h put = absurd cc
choice_by_default a b other false old mid there new done more r fit grows is h put =
    puts_as (a && other) (a && b) old new (more there) done r (ap (λ c. a && c) (sym h.0)) (ap more h.2 ∙ sym h.1)
    (puts_then a other old there new (more there) r fit (subst (λ (o : Output). Grows old o) (sym h.2) grows) put)

-- the member that is there by default
pub default_written : (n : Box NamedDesc Global) (v : Tree) (out : Output)
    → fields_out (fallback_view (Some n)) (v ∷ []) out ≡ value_out (desc_view n.value.desc) v out
unfolding value_out
default_written n v out = rw (view-Named n.value) refl

pub nothing_written : (m : Option (Box Value Global)) (out : Output) → fields_out (fallback_view None) (member_view m) out ≡ out
unfolding value_out
nothing_written m out = refl

-- what is written of a value that fits is read back
pub encoded_back : (s : Shape) (t : Tree) (out new : Output) → is_full s ≡ true → fits s t ≡ true → new ≡ value_out s t out
    → IsReadBack (Spells s) (decode_at s) t out new
encoded_back s t out new full fit is =
    subst (λ (done : Output). IsReadBack (Spells s) (decode_at s) t out done) (sym is)
    (read_back (Spells s) (RefusedShape s) (decode_at s) (shape_exact s full) t out (value_out s t out) (shape_spelled s t out fit))
