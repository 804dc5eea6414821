-- A host or a port that is none: what stands before it can be gone on with, and it can't.
use Rattle.std.proofs.Common.{◌≡◌, ℕ, ◌+◌, ◌==◌, ◌||◌, Bool, true, false, List, [], ◌∷◌, ◌++◌, length, length-append, take, Option, Some, None, Ok, Err, codes, refl, sym, ap, subst, ◌∙◌, arith, append_assoc, inl, inr, ◌⊎◌}
use Rattle.std.specs.List.{position_or_len}
use Rattle.std.specs.Option.{ok_or}
use Rattle.std.proofs.Math.Seq.{take-append_seam, drop-append_seam}
use Rattle.std.proofs.lemmas.Bool.{eqb-true}
use Rattle.giop_ior.specs.declared.addresses.address.Address.{Address}
use Rattle.giop_ior.specs.declared.addresses.corbaloc.Corbaloc.{Corbaloc}
use Rattle.giop_ior.specs.declared.addresses.corbaloc_fault.CorbalocFault.{CorbalocFault}
use Rattle.giop_ior.specs.declared.addresses.corbaloc_fault.CorbalocKind.{CorbalocKind}
use Rattle.giop_ior.specs.declared.addresses.corbaloc_fault.CorbalocKind.TheVariants.{BadHost, BadPort}
use Rattle.giop_ior.specs.Corbaloc.{CorbalocText}
use Rattle.giop_ior.specs.CorbalocFault.{Read, fault, ◌>>=◌}
use Rattle.giop_ior.specs.CorbalocReading.{cut, is_host, host_at, port_of, endpoint_of_parts, endpoint_at, corbaloc_of}
use Rattle.giop_ior.specs.FirstFault.{IsPart, ends_address, ends_host, part_end, IsFirstFault}
use Rattle.giop_ior.proofs.AddressLemmas.{EndpointText}
use Rattle.giop_ior.proofs.CutLemmas.{Lacks, cut_some, cut_is}
use Rattle.giop_ior.proofs.GrammarLemmas.{corbaloc_only}
use Rattle.giop_ior.proofs.PartLemmas.{host_found, port_found}
use Rattle.giop_ior.proofs.PieceLemmas.{Free, goes_on, AreMarked, same_to_mark, piece, piece_behind, piece_ends, piece_free, piece_splits, free_front, free_lacks}
use Rattle.giop_ior.proofs.StepLemmas.{step_err, then_err, if_ok, if_err, ok_or_none}

-- ---- faults behind a text

-- a text is refused at this place
abbrev pub RefusedAt : ℕ → List ℕ → Type 0
RefusedAt at text = (kind : CorbalocKind) × (corbaloc_of text ≡ Err (fault at kind))

-- what is known of the part and of all that goes on as it does, n octets of it
pub is_first : (left text part more : List ℕ) (c : Corbaloc) (kind : CorbalocKind) (n : ℕ) → IsPart kind part → CorbalocText c (left ++ (part ++ more))
    → part_end kind (length left) (left ++ text) ≡ length left + n
    → ((other : List ℕ) → take n other ≡ take n text → RefusedAt (length left) (left ++ other))
    → IsFirstFault (left ++ text) (fault (length left) kind)
is_first left text part more c kind n named before end refused = record {
  part = part;
  more = more;
  corbaloc = c;
  named = named;
  before = subst (λ u. CorbalocText c (u ++ part ++ more)) (sym (take-append_seam left text))
      (subst (λ u. CorbalocText c u) (sym (append_assoc left part more)) before);
  after = λ other same d spelled.
      let on = goes_on left text other n (part_end kind (length left) (left ++ text)) end same in
      let here = refused on.rest on.same in
      let wrong = sym here.1 ∙ ap corbaloc_of (sym on.whole) ∙ corbaloc_only other d spelled in
      absurd (cc);
}

-- ---- the host and the port

-- what stands before the host of an address; Plain tells the pieces that are read from the host on
pub record BeforeHost (minor : ℕ) (left : List ℕ) (Plain : List ℕ → Type 0) : Type 0 where
  pub stops : (text : List ℕ) (e : CorbalocFault) → Plain (piece text) → endpoint_at minor (length left) (piece text) ≡ Err e
      → corbaloc_of (left ++ text) ≡ Err e
  pub host_stops : (host back : List ℕ) → Free ends_host host → Plain host → is_host host ≡ false → RefusedAt (length left) (left ++ (host ++ 58 ∷ back))
  pub plain_front : (front back : List ℕ) → Plain (front ++ back) → Plain front
  pub listed : (a : Address) (text : List ℕ) → EndpointText minor a text → (c : Corbaloc) × CorbalocText c (left ++ text)

-- the host of an address, from it on
abbrev pub host_of_parts : List ℕ → Option (List ℕ × List ℕ) → List ℕ
host_of_parts text None = text
host_of_parts text (Some parts) = parts.0

abbrev pub host_in : List ℕ → List ℕ
host_in text = host_of_parts text (cut 58 text)

pub bad_host : (minor at : ℕ) (text : List ℕ) → is_host (host_in text) ≡ false → endpoint_at minor at text ≡ Err (fault at BadHost)
bad_host minor at text wrong = go (cut 58 text) wrong
  where
    go : (o : Option (List ℕ × List ℕ)) → is_host (host_of_parts text o) ≡ false → endpoint_of_parts minor at text o ≡ Err (fault at BadHost)
    go None wrong = rw wrong refl
    go (Some p) wrong = rw wrong refl

endpoint_example : (minor : ℕ) → EndpointText minor (record { major = 1; minor = minor; host = codes "h"; port = 2809 }) (codes "h")
endpoint_example minor = record { end = []; parts = refl; is_major = refl; is_minor = refl; is_host = host_found (codes "h") refl; is_port = inl (refl, refl) }

pub free_of_end : (text : List ℕ) → Free ends_host text → Free ends_address text
free_of_end [] free = tt
free_of_end (x ∷ text) free = (second (x == 58) (ends_address x) free.0, free_of_end text free.1)
  where
    second : (p q : Bool) → (p || q) ≡ false → q ≡ false
    second true q is = absurd (cc)
    second false q is = is

host_first : (minor : ℕ) (left text : List ℕ) (Plain : List ℕ → Type 0) → BeforeHost minor left Plain → Plain (piece text)
    → is_host (host_in (piece text)) ≡ false → IsFirstFault (left ++ text) (fault (length left) BadHost)
host_first minor left text Plain before plain wrong =
    let shown = before.listed (record { major = 1; minor = minor; host = codes "h"; port = 2809 }) (codes "h") (endpoint_example minor) in
    is_first left text (codes "h") [] shown.0 BadHost (position_or_len ends_host text + 1) (host_found (codes "h") refl) shown.1
    (ap (λ u. length left + position_or_len ends_host u + 1) (drop-append_seam left text) ∙ omega arith)
    (λ other same. go other (same_to_mark ends_host text other (position_or_len ends_host text + 1) refl same))
  where
    alike : (other : List ℕ) → piece other ≡ piece text → RefusedAt (length left) (left ++ other)
    alike other same = (
      BadHost,
      before.stops other (fault (length left) BadHost) (subst Plain (sym same) plain)
          (bad_host minor (length left) (piece other) (ap (λ u. is_host (host_in u)) same ∙ wrong)),
    )

    go : (other : List ℕ) → (other ≡ text) ⊎ AreMarked ends_host text other → RefusedAt (length left) (left ++ other)
    go other (inl all) = alike other (ap piece all)
    go other (inr m) = by_mark (m.mark == 58) refl
      where
        free : Free ends_address m.front
        free = free_of_end m.front m.free

        by_mark : (b : Bool) → (m.mark == 58) ≡ b → RefusedAt (length left) (left ++ other)
        by_mark true is =
            let colon : m.mark ≡ 58 = eqb-true m.mark 58 is in
            let whole : text ≡ m.front ++ 58 ∷ m.back = m.whole ∙ ap (λ u. m.front ++ u ∷ m.back) colon in
            let parts : piece text ≡ m.front ++ 58 ∷ piece m.back = ap piece whole ∙ piece_behind m.front (58 ∷ m.back) free in
            let host : host_in (piece text) ≡ m.front =
            ap host_in parts
            ∙ ap (host_of_parts (m.front ++ 58 ∷ piece m.back)) (cut_is 58 m.front (piece m.back) (free_lacks ends_host 58 m.front refl m.free)) in
            let own : Plain m.front = before.plain_front m.front (58 ∷ piece m.back) (subst Plain parts plain) in
            let other_whole : other ≡ m.front ++ 58 ∷ m.other_back = m.other_whole ∙ ap (λ u. m.front ++ u ∷ m.other_back) colon in
            subst (λ u. RefusedAt (length left) (left ++ u)) (sym other_whole)
            (before.host_stops m.front m.other_back m.free own (ap is_host (sym host) ∙ wrong))
        by_mark false is =
            let marks : ends_address m.mark ≡ true = sym (rw is refl) ∙ m.marks in
            alike other (ap piece m.other_whole ∙ piece_ends m.front m.mark m.other_back free marks
            ∙ sym (ap piece m.whole ∙ piece_ends m.front m.mark m.back free marks))

port_first : (minor : ℕ) (left text host digits : List ℕ) (Plain : List ℕ → Type 0) → BeforeHost minor left Plain → Plain (piece text)
    → piece text ≡ host ++ 58 ∷ digits → Lacks 58 host → is_host host ≡ true → port_of digits ≡ None
    → IsFirstFault (left ++ text) (fault (length left + length host + 1) BadPort)
port_first minor left text host digits Plain before plain parts colon good wrong =
    let split = piece_splits front digits text (parts ∙ sym (append_assoc host (58 ∷ []) digits)) in
    let place : length on ≡ length left + length host + 1 =
    length-append left front ∙ ap (λ k. length left + k) (length-append host (58 ∷ [])) ∙ omega arith in
    subst (λ u. IsFirstFault u (fault (length left + length host + 1) BadPort)) (append_assoc left front split.0 ∙ ap (λ u. left ++ u) (sym split.1))
    (subst (λ k. IsFirstFault (on ++ split.0) (fault k BadPort)) place (go split.0 split.1))
  where
    front : List ℕ
    front = host ++ 58 ∷ []

    on : List ℕ
    on = left ++ front

    free : Free ends_address front
    free = free_front ends_address front digits (subst (Free ends_address) (parts ∙ sym (append_assoc host (58 ∷ []) digits)) (piece_free text))

    refusal : endpoint_at minor (length left) (piece text) ≡ Err (fault (length left + length host + 1) BadPort)
    refusal = rw (parts, cut_is 58 host digits colon, good, wrong) refl

    shown : (c : Corbaloc) × CorbalocText c (left ++ (host ++ 58 ∷ codes "1"))
    shown = before.listed (record { major = 1; minor = minor; host = host; port = 1 }) (host ++ 58 ∷ codes "1") (record {
      end = 58 ∷ codes "1";
      parts = refl;
      is_major = refl;
      is_minor = refl;
      is_host = host_found host good;
      is_port = inr (codes "1", refl, port_found (codes "1") 1 refl);
    })

    go : (rest : List ℕ) → text ≡ front ++ rest → IsFirstFault (on ++ rest) (fault (length on) BadPort)
    go rest whole =
        let seam : left ++ (host ++ 58 ∷ codes "1") ≡ on ++ (codes "1" ++ []) = simp append_assoc in
        is_first on rest (codes "1") [] shown.0 BadPort (position_or_len ends_address rest + 1) (1, port_found (codes "1") 1 refl)
        (subst (λ u. CorbalocText shown.0 u) seam shown.1)
        (ap (λ u. length on + position_or_len ends_address u + 1) (drop-append_seam on rest) ∙ omega arith)
        (λ other same. by_mark other (same_to_mark ends_address rest other (position_or_len ends_address rest + 1) refl same))
      where
        alike : (other : List ℕ) → piece other ≡ piece rest → RefusedAt (length on) (on ++ other)
        alike other same =
            let pieces : piece (front ++ other) ≡ piece text =
            piece_behind front other free ∙ ap (λ u. front ++ u) same ∙ sym (piece_behind front rest free) ∙ ap piece (sym whole) in
            let place : length left + length host + 1 ≡ length on =
            sym (length-append left front ∙ ap (λ k. length left + k) (length-append host (58 ∷ [])) ∙ omega arith) in (
              BadPort,
              ap corbaloc_of (append_assoc left front other)
                  ∙ before.stops (front ++ other) (fault (length left + length host + 1) BadPort) (subst Plain (sym pieces) plain)
                  (ap (endpoint_at minor (length left)) pieces ∙ refusal)
                  ∙ ap (λ k. Err (fault k BadPort)) place,
            )

        by_mark : (other : List ℕ) → (other ≡ rest) ⊎ AreMarked ends_address rest other → RefusedAt (length on) (on ++ other)
        by_mark other (inl all) = alike other (ap piece all)
        by_mark other (inr m) =
            alike other (ap piece m.other_whole ∙ piece_ends m.front m.mark m.other_back m.free m.marks
            ∙ sym (ap piece m.whole ∙ piece_ends m.front m.mark m.back m.free m.marks))

abbrev of_endpoint : ℕ → List ℕ → ℕ → Read Address
of_endpoint minor host port = Ok (record { major = 1; minor = minor; host = host; port = port })

pub endpoint_first : (minor : ℕ) (left text : List ℕ) (Plain : List ℕ → Type 0) (e : CorbalocFault) → BeforeHost minor left Plain → Plain (piece text)
    → endpoint_at minor (length left) (piece text) ≡ Err e → IsFirstFault (left ++ text) e
endpoint_first minor left text Plain e before plain is = go (cut 58 (piece text)) refl is
  where
    at : ℕ
    at = length left

    of_host : (host : List ℕ) → host_in (piece text) ≡ host → host_at at host ≡ Err e → IsFirstFault (left ++ text) e
    of_host host whole wrong =
        let bad = if_err (is_host host) host (fault at BadHost) e wrong in
        subst (λ u. IsFirstFault (left ++ text) u) bad.1 (host_first minor left text Plain before plain (ap is_host whole ∙ bad.0))

    of_port : (p : List ℕ × List ℕ) → cut 58 (piece text) ≡ Some p
        → (host_at at p.0 ≡ Err e)
        ⊎ ((host : List ℕ) × (host_at at p.0 ≡ Ok host)
        × ((ok_or (port_of p.1) (fault (at + length p.0 + 1) BadPort)
        >>= λ port. of_endpoint minor host port) ≡ Err e))
        → IsFirstFault (left ++ text) e
    of_port p cutting (inl wrong) = of_host p.0 (ap (host_of_parts (piece text)) cutting) wrong
    of_port p cutting (inr there) =
        let is_cut = cut_some 58 (piece text) p.0 p.1 cutting in
        let good = if_ok (is_host p.0) p.0 there.0 (fault at BadHost) there.1 in
        let bad = then_err (ok_or (port_of p.1) (fault (at + length p.0 + 1) BadPort)) _ e there.2 in
        let none = ok_or_none (port_of p.1) (fault (at + length p.0 + 1) BadPort) e bad in
        subst (λ u. IsFirstFault (left ++ text) u) (sym none.1)
        (port_first minor left text p.0 p.1 Plain before plain is_cut.parts is_cut.first good.0 none.0)

    go : (o : Option (List ℕ × List ℕ)) → cut 58 (piece text) ≡ o → endpoint_of_parts minor at (piece text) o ≡ Err e → IsFirstFault (left ++ text) e
    go None cutting is = of_host (piece text) (ap (host_of_parts (piece text)) cutting) (then_err (host_at at (piece text)) _ e is)
    go (Some p) cutting is = of_port p cutting (step_err (host_at at p.0) _ e is)
