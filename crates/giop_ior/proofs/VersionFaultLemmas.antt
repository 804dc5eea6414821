-- A version that is none: what stands before it can be gone on with, and it can't.
use Rattle.std.proofs.Common.{◌≡◌, ℕ, ◌+◌, true, false, List, [], ◌∷◌, ◌++◌, length, length-append, Option, Some, None, Err, codes, refl, sym, ap, subst, ◌∙◌, arith, lit<, append_assoc, inl, inr, ◌⊎◌}
use Rattle.std.specs.Bool.{⊤}
use Rattle.std.specs.List.{position_or_len}
use Rattle.std.proofs.Math.Seq.{drop-append_seam}
use Rattle.std.proofs.lemmas.Bool.{eqb-true}
use Rattle.std.proofs.lemmas.List.{append_cancel_left}
use Rattle.giop_ior.specs.declared.addresses.address.Address.{Address}
use Rattle.giop_ior.specs.declared.addresses.corbaloc.Corbaloc.{Corbaloc}
use Rattle.giop_ior.specs.declared.addresses.corbaloc_fault.CorbalocFault.{CorbalocFault}
use Rattle.giop_ior.specs.declared.addresses.corbaloc_fault.CorbalocKind.TheVariants.{BadHost, BadVersion}
use Rattle.giop_ior.specs.Corbaloc.{CorbalocText, VersionText}
use Rattle.giop_ior.specs.CorbalocFault.{fault}
use Rattle.giop_ior.specs.CorbalocReading.{cut, is_host, minor_of, endpoint_at, located_of_parts, located_at, corbaloc_of}
use Rattle.giop_ior.specs.FirstFault.{ends_address, ends_host, ends_version, IsFirstFault}
use Rattle.giop_ior.proofs.AddressLemmas.{LocatedText}
use Rattle.giop_ior.proofs.CutLemmas.{Lacks, cut_some, cut_none, cut_is, cut_lacks}
use Rattle.giop_ior.proofs.HostFaultLemmas.{RefusedAt, is_first, BeforeHost, host_in, host_of_parts, bad_host, free_of_end, endpoint_first}
use Rattle.giop_ior.proofs.PartLemmas.{lacks_both, lacks_literal, host_found, version_found, version_lacks}
use Rattle.giop_ior.proofs.PieceLemmas.{Free, AreMarked, same_to_mark, piece, piece_behind, piece_free, piece_splits, free_front, free_lacks}
use Rattle.giop_ior.proofs.StepLemmas.{ok_or_err, some_is}
use Rattle.giop_ior.proofs.StopLemmas.{lacks_parts}

-- what stands before the version of an address, or before its host where it has none
pub record BeforeVersion (left : List ℕ) : Type 0 where
  pub stops : (text : List ℕ) (e : CorbalocFault) → located_at (length left) (piece text) ≡ Err e → corbaloc_of (left ++ text) ≡ Err e
  pub listed : (a : Address) (text : List ℕ) → LocatedText a text → (c : Corbaloc) × CorbalocText c (left ++ text)

-- a ":" stands in no version
no_version : (front back : List ℕ) → minor_of (front ++ 58 ∷ back) ≡ None
no_version front back = go (minor_of (front ++ 58 ∷ back)) refl
  where
    go : (o : Option ℕ) → minor_of (front ++ 58 ∷ back) ≡ o → o ≡ None
    go None is = refl
    go (Some x) is =
        let lacks = version_lacks 58 1 x (front ++ 58 ∷ back) refl refl (version_found (front ++ 58 ∷ back) x is) in
        let here = (lacks_parts 58 (58 ∷ []) back (lacks_parts 58 front (58 ∷ back) lacks).1).0 in
        let wrong : true ≡ false = here 0 0 (lit< tt) in
        absurd (cc)

-- where there is none, the host may still turn out to be one, with a ":" in it
plain_before : (left : List ℕ) → BeforeVersion left → BeforeHost 0 left (Lacks 64)
plain_before left before = record {
  stops = λ text e plain is. before.stops text e (rw (cut_lacks 64 (piece text) plain) is);
  host_stops = λ host back free plain wrong. by_at_sign host back free plain wrong (cut 64 (piece back)) refl;
  plain_front = λ front back lacks. (lacks_parts 64 front back lacks).0;
  listed = λ a text is. before.listed a text (record {
    version = [];
    end = is.end;
    parts = is.parts;
    is_version = inl (refl, is.is_major, is.is_minor);
    is_host = is.is_host;
    is_port = is.is_port;
  });
}
  where
    by_at_sign : (host back : List ℕ) → Free ends_host host → Lacks 64 host → is_host host ≡ false
        → (o : Option (List ℕ × List ℕ)) → cut 64 (piece back) ≡ o → RefusedAt (length left) (left ++ (host ++ 58 ∷ back))
    by_at_sign host back free plain wrong None cutting =
        let parts : piece (host ++ 58 ∷ back) ≡ host ++ 58 ∷ piece back = piece_behind host (58 ∷ back) (free_of_end host free) in
        let lacks : Lacks 64 (host ++ 58 ∷ piece back) =
        lacks_both 64 host (58 ∷ piece back) plain
        (lacks_both 64 (58 ∷ []) (piece back) (lacks_literal 64 (58 ∷ []) refl) (cut_none 64 (piece back) cutting)) in
        let name : host_in (host ++ 58 ∷ piece back) ≡ host =
        ap (host_of_parts (host ++ 58 ∷ piece back)) (cut_is 58 host (piece back) (free_lacks ends_host 58 host refl free)) in
        let bad = bad_host 0 (length left) (host ++ 58 ∷ piece back) (ap is_host name ∙ wrong) in (
          BadHost,
          before.stops (host ++ 58 ∷ back) (fault (length left) BadHost)
              (rw (parts, cut_lacks 64 (host ++ 58 ∷ piece back) lacks) bad),
        )
    by_at_sign host back free plain wrong (Some p) cutting =
        let is_cut = cut_some 64 (piece back) p.0 p.1 cutting in
        let parts : piece (host ++ 58 ∷ back) ≡ (host ++ 58 ∷ p.0) ++ 64 ∷ p.1 =
        piece_behind host (58 ∷ back) (free_of_end host free) ∙ ap (λ u. host ++ 58 ∷ u) is_cut.parts ∙ sym (append_assoc host (58 ∷ p.0) (64 ∷ p.1)) in
        let lacks : Lacks 64 (host ++ 58 ∷ p.0) =
        lacks_both 64 host (58 ∷ p.0) plain (lacks_both 64 (58 ∷ []) p.0 (lacks_literal 64 (58 ∷ []) refl) is_cut.first) in (
          BadVersion,
          before.stops (host ++ 58 ∷ back) (fault (length left) BadVersion)
              (rw (parts, cut_is 64 (host ++ 58 ∷ p.0) p.1 lacks, no_version host p.0) refl),
        )

versioned_before : (left version : List ℕ) (minor : ℕ) → BeforeVersion left → minor_of version ≡ Some minor → Lacks 64 version
    → Free ends_address (version ++ 64 ∷ []) → BeforeHost minor (left ++ (version ++ 64 ∷ [])) (λ _. ⊤)
versioned_before left version minor before is lacks free = record {
  stops = λ text e plain wrong. stops text e wrong;
  host_stops = λ host back bare plain wrong.
      let parts : piece (host ++ 58 ∷ back) ≡ host ++ 58 ∷ piece back = piece_behind host (58 ∷ back) (free_of_end host bare) in
      let name : host_in (host ++ 58 ∷ piece back) ≡ host =
      ap (host_of_parts (host ++ 58 ∷ piece back)) (cut_is 58 host (piece back) (free_lacks ends_host 58 host refl bare)) in (
        BadHost,
        stops (host ++ 58 ∷ back) (fault (length (left ++ front)) BadHost)
            (rw parts (bad_host minor (length (left ++ front)) (host ++ 58 ∷ piece back) (ap is_host name ∙ wrong))),
      );
  plain_front = λ one two plain. tt;
  listed = λ a text there.
      let own : VersionText a.major a.minor version =
      subst (λ m. VersionText m a.minor version) (sym there.is_major)
      (subst (λ m. VersionText 1 m version) (sym there.is_minor) (version_found version minor is)) in
      let all = before.listed a (front ++ text) (record {
        version = front;
        end = there.end;
        parts = ap (λ u. front ++ u) there.parts ∙ sym (append_assoc front a.host there.end);
        is_version = inr (version, refl, own);
        is_host = there.is_host;
        is_port = there.is_port;
      }) in
      (all.0, subst (λ u. CorbalocText all.0 u) (sym (append_assoc left front text)) all.1);
}
  where
    front : List ℕ
    front = version ++ 64 ∷ []

    stops : (text : List ℕ) (e : CorbalocFault) → endpoint_at minor (length (left ++ front)) (piece text) ≡ Err e
        → corbaloc_of ((left ++ front) ++ text) ≡ Err e
    stops text e wrong =
        let place : length left + length version + 1 ≡ length (left ++ front) =
        sym (length-append left front ∙ ap (λ k. length left + k) (length-append version (64 ∷ [])) ∙ omega arith) in
        let parts : piece (front ++ text) ≡ version ++ 64 ∷ piece text = piece_behind front text free ∙ append_assoc version (64 ∷ []) (piece text) in
        ap corbaloc_of (append_assoc left front text)
        ∙ before.stops (front ++ text) e (rw (parts, cut_is 64 version (piece text) lacks, is) (ap (λ k. endpoint_at minor k (piece text)) place ∙ wrong))

pair_front : {a b c d : List ℕ} → ◌≡◌ {A = Option (List ℕ × List ℕ)} (Some (a, b)) (Some (c, d)) → a ≡ c
pair_front e = ap (λ p. p.0) (some_is e)

version_first : (left text version back : List ℕ) → BeforeVersion left → piece text ≡ version ++ 64 ∷ back → Lacks 64 version → minor_of version ≡ None
    → IsFirstFault (left ++ text) (fault (length left) BadVersion)
version_first left text version back before parts lacks wrong =
    is_first left text (codes "1.0") (codes "@h") shown.0 BadVersion (position_or_len ends_version text + 1) (1, 0, version_found (codes "1.0") 0 refl) shown.1
    (ap (λ u. length left + position_or_len ends_version u + 1) (drop-append_seam left text) ∙ omega arith)
    (λ other same. go other (same_to_mark ends_version text other (position_or_len ends_version text + 1) refl same))
  where
    shown : (c : Corbaloc) × CorbalocText c (left ++ codes "1.0@h")
    shown = before.listed (record { major = 1; minor = 0; host = codes "h"; port = 2809 }) (codes "1.0@h") (record {
      version = codes "1.0@";
      end = [];
      parts = refl;
      is_version = inr (codes "1.0", refl, version_found (codes "1.0") 0 refl);
      is_host = host_found (codes "h") refl;
      is_port = inl (refl, refl);
    })

    refusal : (rest : List ℕ) → located_at (length left) (version ++ 64 ∷ rest) ≡ Err (fault (length left) BadVersion)
    refusal rest = rw (cut_is 64 version rest lacks, wrong) refl

    free : Free ends_address version
    free = free_front ends_address version (64 ∷ back) (subst (Free ends_address) parts (piece_free text))

    go : (other : List ℕ) → (other ≡ text) ⊎ AreMarked ends_version text other → RefusedAt (length left) (left ++ other)
    go other (inl all) = (
      BadVersion,
      before.stops other (fault (length left) BadVersion)
          (ap (λ u. located_at (length left) (piece u)) all ∙ rw parts (refusal back)),
    )
    go other (inr m) =
        let sign : m.mark ≡ 64 = eqb-true m.mark 64 m.marks in
        let split = piece_splits (version ++ 64 ∷ []) back text (parts ∙ sym (append_assoc version (64 ∷ []) back)) in
        let one : cut 64 text ≡ Some (version, split.0) =
        ap (cut 64) (split.1 ∙ append_assoc version (64 ∷ []) split.0) ∙ cut_is 64 version split.0 lacks in
        let two : cut 64 text ≡ Some (m.front, m.back) =
        ap (cut 64) (m.whole ∙ ap (λ u. m.front ++ u ∷ m.back) sign) ∙ cut_is 64 m.front m.back (free_lacks ends_version 64 m.front refl m.free) in
        let same : m.front ≡ version = pair_front (sym two ∙ one) in
        let whole : other ≡ version ++ 64 ∷ m.other_back =
        m.other_whole ∙ ap (λ u. m.front ++ u ∷ m.other_back) sign ∙ ap (λ u. u ++ 64 ∷ m.other_back) same in (
          BadVersion,
          before.stops other (fault (length left) BadVersion)
              (ap (located_at (length left)) (ap piece whole ∙ piece_behind version (64 ∷ m.other_back) free) ∙ refusal (piece m.other_back)),
        )

pub located_first : (left text : List ℕ) (e : CorbalocFault) → BeforeVersion left
    → located_at (length left) (piece text) ≡ Err e → IsFirstFault (left ++ text) e
located_first left text e before is = go (cut 64 (piece text)) refl is
  where
    at : ℕ
    at = length left

    by_version : (p : List ℕ × List ℕ) → cut 64 (piece text) ≡ Some p
        → ((minor_of p.0 ≡ None) × (e ≡ fault at BadVersion))
        ⊎ ((minor : ℕ) × (minor_of p.0 ≡ Some minor) × (endpoint_at minor (at + length p.0 + 1) p.1 ≡ Err e))
        → IsFirstFault (left ++ text) e
    by_version p cutting (inl none) =
        let is_cut = cut_some 64 (piece text) p.0 p.1 cutting in
        subst (λ u. IsFirstFault (left ++ text) u) (sym none.1) (version_first left text p.0 p.1 before is_cut.parts is_cut.first none.0)
    by_version p cutting (inr there) =
        let is_cut = cut_some 64 (piece text) p.0 p.1 cutting in
        let front : List ℕ = p.0 ++ 64 ∷ [] in
        let parts : piece text ≡ front ++ p.1 = is_cut.parts ∙ sym (append_assoc p.0 (64 ∷ []) p.1) in
        let free : Free ends_address front = free_front ends_address front p.1 (subst (Free ends_address) parts (piece_free text)) in
        let split = piece_splits front p.1 text parts in
        let behind : piece split.0 ≡ p.1 =
        append_cancel_left front (piece split.0) p.1 (sym (piece_behind front split.0 free) ∙ ap piece (sym split.1) ∙ parts) in
        let place : length (left ++ front) ≡ at + length p.0 + 1 =
        length-append left front ∙ ap (λ k. length left + k) (length-append p.0 (64 ∷ [])) ∙ omega arith in
        let wrong : endpoint_at there.0 (length (left ++ front)) (piece split.0) ≡ Err e =
        ap (λ k. endpoint_at there.0 k (piece split.0)) place ∙ ap (endpoint_at there.0 (at + length p.0 + 1)) behind ∙ there.2 in
        subst (λ u. IsFirstFault u e) (append_assoc left front split.0 ∙ ap (λ u. left ++ u) (sym split.1))
        (endpoint_first there.0 (left ++ front) split.0 (λ _. ⊤) e (versioned_before left p.0 there.0 before there.1 is_cut.first free) tt wrong)

    go : (o : Option (List ℕ × List ℕ)) → cut 64 (piece text) ≡ o → located_of_parts at (piece text) o ≡ Err e → IsFirstFault (left ++ text) e
    go None cutting is = endpoint_first 0 left text (Lacks 64) e (plain_before left before) (cut_none 64 (piece text) cutting) is
    go (Some p) cutting is = by_version p cutting (ok_or_err (minor_of p.0) (fault at BadVersion) _ e is)
