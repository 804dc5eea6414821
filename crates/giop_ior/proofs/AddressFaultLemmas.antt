-- A protocol that is none, and the first fault of an address: what stands before it can be gone on
-- with, and it can't.
use Rattle.std.proofs.Common.{◌≡◌, ℕ, ◌+◌, ◌-◌, ◌≤◌, List, [], ◌++◌, length, length-append, take, drop, Option, Some, None, Err, codes, refl, sym, ap, subst, ◌∙◌, arith, append_assoc, inl, inr, ◌⊎◌}
use Rattle.giop_ior.specs.declared.addresses.corbaloc.Corbaloc.{Corbaloc}
use Rattle.giop_ior.specs.declared.addresses.corbaloc_fault.CorbalocFault.{CorbalocFault}
use Rattle.giop_ior.specs.declared.addresses.corbaloc_fault.CorbalocKind.TheVariants.{BadProtocol}
use Rattle.giop_ior.specs.Corbaloc.{CorbalocText, ProtocolText}
use Rattle.giop_ior.specs.CorbalocFault.{fault}
use Rattle.giop_ior.specs.CorbalocReading.{located_at, protocol_len, address_at, corbaloc_of}
use Rattle.giop_ior.specs.FirstFault.{ends_address, IsFirstFault}
use Rattle.giop_ior.proofs.AddressLemmas.{protocol_found, protocol_only}
use Rattle.giop_ior.proofs.HostFaultLemmas.{RefusedAt, is_first}
use Rattle.giop_ior.proofs.PartLemmas.{host_found}
use Rattle.giop_ior.proofs.PieceLemmas.{Free, goes_on, piece, piece_behind, piece_splits}
use Rattle.giop_ior.proofs.StepLemmas.{ok_or_err}
use Rattle.giop_ior.proofs.StopLemmas.{BeforeAddress}
use Rattle.giop_ior.proofs.VersionFaultLemmas.{BeforeVersion, located_first}

free_protocol : (front : List ℕ) → ProtocolText front → Free ends_address front × (length front ≤ 5)
free_protocol front (inl one) = rw one ((refl, tt), omega arith)
free_protocol front (inr other) = rw other ((refl, (refl, (refl, (refl, (refl, tt))))), omega arith)

address_behind : (at : ℕ) (front text : List ℕ) → ProtocolText front → address_at at (front ++ text) ≡ located_at (at + length front) text
unfolding address_at
address_behind at front text is = let known = protocol_only front text is in rw (known.0, known.1) refl

before_version : (left front : List ℕ) → BeforeAddress left → ProtocolText front → BeforeVersion (left ++ front)
before_version left front before is = record {
  stops = λ text e wrong.
      ap corbaloc_of (append_assoc left front text)
      ∙ before.stops (front ++ text) e
      (ap (address_at (length left)) (piece_behind front text (free_protocol front is).0)
      ∙ address_behind (length left) front (piece text) is
      ∙ ap (λ k. located_at k (piece text)) (sym (length-append left front)) ∙ wrong);
  listed = λ a text there.
      let all = before.listed a (front ++ text) (record {
        protocol = front;
        version = there.version;
        end = there.end;
        parts = ap (λ u. front ++ u) there.parts ∙ simp append_assoc;
        is_protocol = is;
        is_version = there.is_version;
        is_host = there.is_host;
        is_port = there.is_port;
      }) in
      (all.0, subst (λ u. CorbalocText all.0 u) (sym (append_assoc left front text)) all.1);
}

no_address : (at : ℕ) (text : List ℕ) → protocol_len text ≡ None → address_at at text ≡ Err (fault at BadProtocol)
unfolding address_at
no_address at text is = rw is refl

protocol_first : (left text : List ℕ) → BeforeAddress left → protocol_len (piece text) ≡ None → IsFirstFault (left ++ text) (fault (length left) BadProtocol)
protocol_first left text before wrong =
    is_first left text (codes ":") (codes "h") shown.0 BadProtocol 5 (inl refl) shown.1 refl (λ other same. refused other same)
  where
    shown : (c : Corbaloc) × CorbalocText c (left ++ codes ":h")
    shown = before.listed (record { major = 1; minor = 0; host = codes "h"; port = 2809 }) (codes ":h") (record {
      protocol = codes ":";
      version = [];
      end = [];
      parts = refl;
      is_protocol = inl refl;
      is_version = inl (refl, refl, refl);
      is_host = host_found (codes "h") refl;
      is_port = inl (refl, refl);
    })

    none : (other : List ℕ) → take 5 other ≡ take 5 text → (o : Option ℕ) → protocol_len (piece other) ≡ o → o ≡ None
    none other same None is = refl
    none other same (Some n) is =
        let found = protocol_found (piece other) n is in
        let front = found.0 in
        let known = free_protocol front found.1 in
        let split = piece_splits front (drop n (piece other)) other found.2 in
        let alike : take 5 text ≡ take 5 (front ++ split.0) = sym same ∙ ap (take 5) split.1 in
        let on = goes_on front split.0 text (5 - length front) 5 (omega (arith, known.1)) alike in
        let here : piece text ≡ front ++ piece on.rest = ap piece on.whole ∙ piece_behind front on.rest known.0 in
        let clash = sym wrong ∙ ap protocol_len here ∙ (protocol_only front (piece on.rest) found.1).0 in
        absurd (cc)

    refused : (other : List ℕ) → take 5 other ≡ take 5 text → RefusedAt (length left) (left ++ other)
    refused other same = (
      BadProtocol,
      before.stops other (fault (length left) BadProtocol)
          (no_address (length left) (piece other) (none other same (protocol_len (piece other)) refl)),
    )

pub address_first : (left text : List ℕ) (e : CorbalocFault) → BeforeAddress left
    → address_at (length left) (piece text) ≡ Err e → IsFirstFault (left ++ text) e
unfolding address_at
address_first left text e before is = go (ok_or_err (protocol_len (piece text)) (fault (length left) BadProtocol) _ e is)
  where
    at : ℕ
    at = length left

    go : ((protocol_len (piece text) ≡ None) × (e ≡ fault at BadProtocol))
        ⊎ ((n : ℕ) × (protocol_len (piece text) ≡ Some n) × (located_at (at + n) (drop n (piece text)) ≡ Err e))
        → IsFirstFault (left ++ text) e
    go (inl none) = subst (λ u. IsFirstFault (left ++ text) u) (sym none.1) (protocol_first left text before none.0)
    go (inr there) =
        let found = protocol_found (piece text) there.0 there.1 in
        let front = found.0 in
        let split = piece_splits front (drop there.0 (piece text)) text found.2 in
        let parts : piece text ≡ front ++ piece split.0 = ap piece split.1 ∙ piece_behind front split.0 (free_protocol front found.1).0 in
        let wrong : located_at (length (left ++ front)) (piece split.0) ≡ Err e =
        ap (λ k. located_at k (piece split.0)) (length-append left front)
        ∙ sym (address_behind at front (piece split.0) found.1) ∙ ap (address_at at) (sym parts) ∙ is in
        subst (λ u. IsFirstFault u e) (append_assoc left front split.0 ∙ ap (λ u. left ++ u) (sym split.1))
        (located_first (left ++ front) split.0 e (before_version left front before found.1) wrong)
