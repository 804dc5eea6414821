-- What is written of a value that fits is octets: numbers below 256.
use Rattle.std.proofs.Common.{◌≡◌, ◌^◌, ◌+◌, ◌%◌, ◌/◌, ℕ, zero, suc, ℤ, ◌&&◌, ◌==◌, nat_lt, not, Bool, true, false, if◌then◌else◌}
use Rattle.std.proofs.Common.{List, [], ◌∷◌, ◌++◌, length, replicate, refl, arith}
use Rattle.std.proofs.lemmas.Bool.{lt-ltb, and_parts}
use Rattle.std.proofs.lemmas.List.Folds.{list_all-append}
use Rattle.std.proofs.Math.Nat.{mod-lt}
use Rattle.std.specs.List.{list_all}
use Rattle.std.specs.Int.{Width, w8, w16, w32, w64, byte_len, byte_at, bytes_low_first, bytes_high_first, cast_unsigned}
use Rattle.giop_cdr.specs.declared.order.Order.{Order}
use Rattle.giop_cdr.specs.declared.order.Order.TheVariants.{Big, Little}
use Rattle.giop_cdr.specs.Reading.Cursor.{pad}
use Rattle.giop_cdr.specs.Writing.Output.{Output, octets_of as number_octets, number_out, signed_out, octets_out, string_out, items_out, sequence_out}
use Rattle.giop_cdr.specs.Reading.Values.{has_null, passes}
use Rattle.giop_types.specs.Descriptions.Shape.{Shape, boolean, octet, char, short, ushort, long, ulong, longlong}
use Rattle.giop_types.specs.Descriptions.Shape.{ulonglong, text, octets, labels, members, choice, items, row, Fields}
use Rattle.giop_types.specs.Descriptions.Shape.{no_fields, field, Branches, no_branches, branch}
use Rattle.giop_types.specs.Values.Tree.{Tree, boolean_of, octet_of, char_of, short_of, ushort_of, long_of, ulong_of}
use Rattle.giop_types.specs.Values.Tree.{longlong_of, ulonglong_of, text_of, octets_of, label_of, members_of}
use Rattle.giop_types.specs.Values.Tree.{choice_of, items_of, row_of}
use Rattle.giop_types.specs.Coding.Decoding.{is_label}
use Rattle.giop_types.specs.Values.Fits.{list_of, is_unsigned, are_octets, fits_label, is_counted, is_one, fits, fields_fit, branches_fit}
use Rattle.giop_types.specs.Coding.Written.{label_out, one_out, value_out, fields_out, branches_out}
use Rattle.std.proofs.lemmas.Bool.{false≢true}

-- an output of octets stays one
abbrev Keeps : (Output → Output) → Type 0
Keeps write = (out : Output) → are_octets out.octets ≡ true → are_octets (write out).octets ≡ true

joined : (xs ys : List ℕ) → are_octets xs ≡ true → are_octets ys ≡ true → are_octets (xs ++ ys) ≡ true
joined xs ys front back = rw (list_all-append (is_unsigned 8) xs ys, front, back) refl

zeros : (n : ℕ) → are_octets (replicate n 0) ≡ true
zeros zero = refl
zeros (suc n) = zeros n

byte_small : (i n : ℕ) → is_unsigned 8 (byte_at i n) ≡ true
byte_small zero n = lt-ltb (n % 256) (2 ^ 8) (mod-lt n (omega arith))
byte_small (suc i) n = lt-ltb (n / 256 ^ suc i % 256) (2 ^ 8) (mod-lt (n / 256 ^ suc i) (omega arith))

low_bytes : (i k n : ℕ) → are_octets (bytes_low_first i k n) ≡ true
low_bytes i zero n = refl
low_bytes i (suc k) n = rw (byte_small i n) (low_bytes (suc i) k n)

high_bytes : (k n : ℕ) → are_octets (bytes_high_first k n) ≡ true
high_bytes zero n = refl
high_bytes (suc k) n = rw (byte_small k n) (high_bytes k n)

number_bytes : (o : Order) (w : Width) (n : ℕ) → are_octets (number_octets o w n) ≡ true
number_bytes Big w n = high_bytes (byte_len w) n
number_bytes Little w n = low_bytes 0 (byte_len w) n

number_keeps : (w : Width) (n : ℕ) → Keeps (number_out w n)
unfolding number_out
number_keeps w n out all =
    joined out.octets _ all
    (joined (replicate (pad (byte_len w) out.at) 0) (number_octets out.order w n) (zeros (pad (byte_len w) out.at)) (number_bytes out.order w n))

signed_keeps : (w : Width) (z : ℤ) → Keeps (signed_out w z)
unfolding signed_out
signed_keeps w z = number_keeps w (cast_unsigned w z)

octets_keep : (t : List ℕ) → are_octets t ≡ true → Keeps (octets_out t)
unfolding octets_out
octets_keep t are out all = joined (number_out w32 (length t) out).octets t (number_keeps w32 (length t) out all) are

string_keeps : (t : List ℕ) → are_octets t ≡ true → Keeps (string_out t)
unfolding string_out
string_keeps t are out all =
    joined (number_out w32 (length t + 1) out).octets (t ++ 0 ∷ []) (number_keeps w32 (length t + 1) out all) (joined t (0 ∷ []) are refl)

label_keeps : (s : Shape) (z : ℤ) → Keeps (label_out s z)
unfolding label_out
label_keeps boolean z = number_keeps w8 (cast_unsigned w8 z)
label_keeps char z = number_keeps w8 (cast_unsigned w8 z)
label_keeps short z = signed_keeps w16 z
label_keeps ushort z = number_keeps w16 (cast_unsigned w16 z)
label_keeps long z = signed_keeps w32 z
label_keeps ulong z = number_keeps w32 (cast_unsigned w32 z)
label_keeps longlong z = signed_keeps w64 z
label_keeps ulonglong z = number_keeps w64 (cast_unsigned w64 z)
label_keeps (labels names) z = number_keeps w32 (cast_unsigned w32 z)
label_keeps octet z = λ out all. all
label_keeps (text bound) z = λ out all. all
label_keeps (octets bound) z = λ out all. all
label_keeps (members fs) z = λ out all. all
label_keeps (choice disc bs other) z = λ out all. all
label_keeps (items t bound) z = λ out all. all
label_keeps (row t n) z = λ out all. all

items_keep : (item : Tree → Output → Output) (test : Tree → Bool) → ((t : Tree) → test t ≡ true → Keeps (item t))
    → (ts : List Tree) → list_all test ts ≡ true → Keeps (items_out item ts)
unfolding items_out
items_keep item test each [] fit out all = all
items_keep item test each (t ∷ ts) fit out all =
    let parts = and_parts (test t) (list_all test ts) fit in
    items_keep item test each ts parts.1 (item t out) (each t parts.0 out all)

sequence_keeps : (item : Tree → Output → Output) (test : Tree → Bool) → ((t : Tree) → test t ≡ true → Keeps (item t))
    → (ts : List Tree) → list_all test ts ≡ true → Keeps (sequence_out item ts)
unfolding sequence_out
sequence_keeps item test each ts fit out all = items_keep item test each ts fit (number_out w32 (length ts) out) (number_keeps w32 (length ts) out all)

one_keeps : (item : Tree → Output → Output) (test : Tree → Bool) → ((t : Tree) → test t ≡ true → Keeps (item t))
    → (ts : List Tree) → is_one test ts ≡ true → Keeps (one_out item ts)
one_keeps item test each [] fit = absurd (false≢true fit)
one_keeps item test each (t ∷ []) fit = each t fit
one_keeps item test each (t ∷ u ∷ us) fit = absurd (false≢true fit)

chosen_keeps : (b fit unfit : Bool) (one other : Output → Output) → (if b then fit else unfit) ≡ true → (fit ≡ true → Keeps one) → (unfit ≡ true → Keeps other)
    → Keeps (if b then one else other)
chosen_keeps true fit unfit one other is here there = here is
chosen_keeps false fit unfit one other is here there = there is

mutual
  unfolding fits value_out

  pub value_keeps : (s : Shape) (t : Tree) → fits s t ≡ true → Keeps (value_out s t)
  value_keeps boolean (boolean_of b) fit = number_keeps w8 (if b then 1 else 0)
  value_keeps boolean _ fit = absurd (false≢true fit)
  value_keeps octet (octet_of n) fit = number_keeps w8 n
  value_keeps octet _ fit = absurd (false≢true fit)
  value_keeps char (char_of n) fit = number_keeps w8 n
  value_keeps char _ fit = absurd (false≢true fit)
  value_keeps short (short_of z) fit = signed_keeps w16 z
  value_keeps short _ fit = absurd (false≢true fit)
  value_keeps ushort (ushort_of n) fit = number_keeps w16 n
  value_keeps ushort _ fit = absurd (false≢true fit)
  value_keeps long (long_of z) fit = signed_keeps w32 z
  value_keeps long _ fit = absurd (false≢true fit)
  value_keeps ulong (ulong_of n) fit = number_keeps w32 n
  value_keeps ulong _ fit = absurd (false≢true fit)
  value_keeps longlong (longlong_of z) fit = signed_keeps w64 z
  value_keeps longlong _ fit = absurd (false≢true fit)
  value_keeps ulonglong (ulonglong_of n) fit = number_keeps w64 n
  value_keeps ulonglong _ fit = absurd (false≢true fit)
  value_keeps (text bound) (text_of t) fit =
      string_keeps t (and_parts (are_octets t) (not (has_null t) && (nat_lt (length t + 1) (2 ^ 32) && not (passes bound (length t)))) fit).0
  value_keeps (text bound) _ fit = absurd (false≢true fit)
  value_keeps (octets bound) (octets_of t) fit = octets_keep t (and_parts (are_octets t) (is_counted bound (length t)) fit).0
  value_keeps (octets bound) _ fit = absurd (false≢true fit)
  value_keeps (labels names) (label_of n) fit = number_keeps w32 n
  value_keeps (labels names) _ fit = absurd (false≢true fit)
  value_keeps (members fs) (members_of ts) fit = fields_keep fs (list_of ts) fit
  value_keeps (members fs) _ fit = absurd (false≢true fit)
  value_keeps (choice disc bs other) (choice_of label ts) fit =
      let parts = and_parts (fits_label disc label) (branches_fit bs (fields_fit other) label (list_of ts)) fit in
      λ out all. branches_keep bs other label (list_of ts) (λ h. fields_keep other (list_of ts) h) parts.1 (label_out disc label out)
      (label_keeps disc label out all)
  value_keeps (choice disc bs other) _ fit = absurd (false≢true fit)
  value_keeps (items s bound) (items_of ts) fit =
      sequence_keeps (value_out s) (fits s) (λ t h. value_keeps s t h) (list_of ts)
      (and_parts (is_counted bound (length (list_of ts))) (list_all (fits s) (list_of ts)) fit).1
  value_keeps (items s bound) _ fit = absurd (false≢true fit)
  value_keeps (row s n) (row_of ts) fit =
      items_keep (value_out s) (fits s) (λ t h. value_keeps s t h) (list_of ts) (and_parts (length (list_of ts) == n) (list_all (fits s) (list_of ts)) fit).1
  value_keeps (row s n) _ fit = absurd (false≢true fit)

  fields_keep : (fs : Fields) (ts : List Tree) → fields_fit fs ts ≡ true → Keeps (fields_out fs ts)
  fields_keep no_fields [] fit = λ out all. all
  fields_keep no_fields (t ∷ ts) fit = absurd (false≢true fit)
  fields_keep (field name s fs) [] fit = absurd (false≢true fit)
  fields_keep (field name s fs) (t ∷ ts) fit =
      let parts = and_parts (fits s t) (fields_fit fs ts) fit in
      λ out all. fields_keep fs ts parts.1 (value_out s t out) (value_keeps s t parts.0 out all)

  branches_keep : (bs : Branches) (other : Fields) (label : ℤ) (ts : List Tree) → (fields_fit other ts ≡ true → Keeps (fields_out other ts))
      → branches_fit bs (fields_fit other) label ts ≡ true → Keeps (branches_out bs (fields_out other) label ts)
  branches_keep no_branches other label ts default fit = default fit
  branches_keep (branch ls name s bs) other label ts default fit =
      chosen_keeps (is_label label ls) (is_one (fits s) ts) (branches_fit bs (fields_fit other) label ts)
      (one_out (value_out s) ts) (branches_out bs (fields_out other) label ts) fit
      (λ h. one_keeps (value_out s) (fits s) (λ t f. value_keeps s t f) ts h)
      (λ h. branches_keep bs other label ts default h)
