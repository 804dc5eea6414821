-- An address is read as the grammar has it.
use Rattle.std.proofs.Common.{◌≡◌, ℕ, ◌+◌, ◌==◌, Bool, true, false, List, [], ◌∷◌, ◌++◌, length, take, drop, Option, Some, None, Ok, if◌then◌else◌, codes, refl, sym, ap, subst, ◌∙◌, append_assoc, append-nil, take-append-drop, inl, inr}
use Rattle.std.specs.Cmp.Lexicographic.{bytes_decides}
use Rattle.std.specs.Char.{is_ascii_digit}
use Rattle.std.specs.Option.{ok_or}
use Rattle.std.proofs.Math.Seq.{take-append_seam}
use Rattle.std.proofs.lemmas.List.Elements.{All-nil}
use Rattle.giop_ior.specs.declared.addresses.address.Address.{Address}
use Rattle.giop_ior.specs.declared.addresses.corbaloc_fault.CorbalocKind.TheVariants.{BadProtocol, BadHost, BadPort, BadVersion}
use Rattle.giop_ior.specs.Corbaloc.{AddressText, ProtocolText, VersionPartText, VersionText, IsHost, PortPartText, is_host_octet}
use Rattle.giop_ior.specs.CorbalocFault.{fault}
use Rattle.giop_ior.specs.CorbalocReading.{cut, begins, is_host, host_at, port_of, minor_of, endpoint_of_parts, endpoint_at, located_of_parts, located_at, protocol_len, address_at}
use Rattle.giop_ior.proofs.CutLemmas.{Lacks, cut_some, cut_is, cut_lacks}
use Rattle.giop_ior.proofs.PartLemmas.{lacks_class, lacks_both, lacks_literal, port_found, port_only, version_found, version_only, version_lacks, host_found, host_only, port_part_lacks}
use Rattle.giop_ior.proofs.StepLemmas.{if_ok, step_ok, ok_or_ok, ok_is}

-- ---- what a text begins with

pub begins_found : (front text : List ℕ) → begins front text ≡ true → text ≡ front ++ drop (length front) text
begins_found front text is =
    sym (take-append-drop (length front) text) ∙ ap (λ u. u ++ drop (length front) text) ((bytes_decides (take (length front) text) front).0 is)

pub begins_only : (front back : List ℕ) → begins front (front ++ back) ≡ true
begins_only front back = (bytes_decides (take (length front) (front ++ back)) front).1 (take-append_seam front back)

-- ---- the host and the port

-- the host and what follows it, of an address of this minor version
pub record EndpointText (minor : ℕ) (a : Address) (text : List ℕ) : Type 0 where
  pub end : List ℕ
  pub parts : text ≡ a.host ++ end
  pub is_major : a.major ≡ 1
  pub is_minor : a.minor ≡ minor
  pub is_host : IsHost a.host
  pub is_port : PortPartText a.port end

address_of : ℕ → List ℕ → ℕ → Address
address_of minor host port = record { major = 1; minor = minor; host = host; port = port }

address_is : (minor : ℕ) (a : Address) → a.major ≡ 1 → a.minor ≡ minor → record { major = 1; minor = minor; host = a.host; port = a.port } ≡ a
address_is minor a major_is minor_is = rw (← major_is, ← minor_is) refl

parts_found : (o : Option (List ℕ × List ℕ)) (minor at : ℕ) (text : List ℕ) (a : Address)
    → cut 58 text ≡ o → endpoint_of_parts minor at text o ≡ Ok a → EndpointText minor a text
parts_found None minor at text a parted is =
    let host = step_ok (host_at at text) _ a is in
    let found = if_ok (is_host text) text host.0 (fault at BadHost) host.1 in
    let own : EndpointText minor (record { major = 1; minor = minor; host = text; port = 2809 }) text =
    record { end = []; parts = sym (append-nil text); is_major = refl; is_minor = refl; is_host = host_found text found.0; is_port = inl (refl, refl) } in
    subst (λ u. EndpointText minor u text) (ap (λ h. record { major = 1; minor = minor; host = h; port = 2809 }) found.1 ∙ ok_is host.2) own
parts_found (Some p) minor at text a parted is =
    let there = cut_some 58 text p.0 p.1 parted in
    let host = step_ok (host_at at p.0) _ a is in
    let found = if_ok (is_host p.0) p.0 host.0 (fault at BadHost) host.1 in
    let port = step_ok (ok_or (port_of p.1) (fault (at + length p.0 + 1) BadPort)) _ a host.2 in
    let own : EndpointText minor (record { major = 1; minor = minor; host = p.0; port = port.0 }) text =
    record {
      end = 58 ∷ p.1;
      parts = there.parts;
      is_major = refl;
      is_minor = refl;
      is_host = host_found p.0 found.0;
      is_port = inr (p.1, refl, port_found p.1 port.0 (ok_or_ok (port_of p.1) (fault (at + length p.0 + 1) BadPort) port.0 port.1));
    } in
    subst (λ u. EndpointText minor u text) (ap (λ h. record { major = 1; minor = minor; host = h; port = port.0 }) found.1 ∙ ok_is port.2) own

endpoint_found : (minor at : ℕ) (text : List ℕ) (a : Address) → endpoint_at minor at text ≡ Ok a → EndpointText minor a text
endpoint_found minor at text a is = parts_found (cut 58 text) minor at text a refl is

host_lacks : (octet : ℕ) (text : List ℕ) → is_host_octet octet ≡ false → IsHost text → Lacks octet text
host_lacks octet text outside is = lacks_class is_host_octet octet text outside is.1

endpoint_only : (minor at : ℕ) (text : List ℕ) (a : Address) → EndpointText minor a text → endpoint_at minor at text ≡ Ok a
endpoint_only minor at text a is = by_port is.is_port
  where
    host_there : host_at at a.host ≡ Ok a.host
    host_there = rw (host_only a.host is.is_host) refl

    by_port : PortPartText a.port is.end → endpoint_at minor at text ≡ Ok a
    by_port (inl none) =
        let whole : text ≡ a.host = is.parts ∙ ap (λ u. a.host ++ u) none.0 ∙ append-nil a.host in
        rw (whole, cut_lacks 58 a.host (host_lacks 58 a.host refl is.is_host), host_there)
        (ap (λ p. Ok (record { major = 1; minor = minor; host = a.host; port = p })) (sym none.1) ∙ ap (λ u. Ok u) (address_is minor a is.is_major is.is_minor))
    by_port (inr some) =
        let whole : text ≡ a.host ++ 58 ∷ some.0 = is.parts ∙ ap (λ u. a.host ++ u) some.1 in
        rw (whole, cut_is 58 a.host some.0 (host_lacks 58 a.host refl is.is_host), host_there, port_only some.0 a.port some.2)
        (ap (λ u. Ok u) (address_is minor a is.is_major is.is_minor))

-- ---- the version

seam : (front host end : List ℕ) → front ++ 64 ∷ [] ++ host ++ end ≡ front ++ 64 ∷ (host ++ end)
seam front host end = simp append_assoc

-- an address from its version on
pub record LocatedText (a : Address) (text : List ℕ) : Type 0 where
  pub version : List ℕ
  pub end : List ℕ
  pub parts : text ≡ version ++ a.host ++ end
  pub is_version : VersionPartText a.major a.minor version
  pub is_host : IsHost a.host
  pub is_port : PortPartText a.port end

located_parts_found : (o : Option (List ℕ × List ℕ)) (at : ℕ) (text : List ℕ) (a : Address)
    → cut 64 text ≡ o → located_of_parts at text o ≡ Ok a → LocatedText a text
located_parts_found None at text a parted is =
    let there = endpoint_found 0 at text a is in
    record {
      version = [];
      end = there.end;
      parts = there.parts;
      is_version = inl (refl, there.is_major, there.is_minor);
      is_host = there.is_host;
      is_port = there.is_port;
    }
located_parts_found (Some p) at text a parted is =
    let cutting = cut_some 64 text p.0 p.1 parted in
    let minor = step_ok (ok_or (minor_of p.0) (fault at BadVersion)) _ a is in
    let version = version_found p.0 minor.0 (ok_or_ok (minor_of p.0) (fault at BadVersion) minor.0 minor.1) in
    let there = endpoint_found minor.0 (at + length p.0 + 1) p.1 a minor.2 in
    let own : VersionText a.major a.minor p.0 =
    subst (λ m. VersionText m a.minor p.0) (sym there.is_major) (subst (λ m. VersionText 1 m p.0) (sym there.is_minor) version) in
    record {
      version = p.0 ++ 64 ∷ [];
      end = there.end;
      parts = cutting.parts ∙ ap (λ u. p.0 ++ 64 ∷ u) there.parts ∙ sym (seam p.0 a.host there.end);
      is_version = inr (p.0, refl, own);
      is_host = there.is_host;
      is_port = there.is_port;
    }

located_found : (at : ℕ) (text : List ℕ) (a : Address) → located_at at text ≡ Ok a → LocatedText a text
located_found at text a is = located_parts_found (cut 64 text) at text a refl is

located_only : (at : ℕ) (text : List ℕ) (a : Address) → LocatedText a text → located_at at text ≡ Ok a
located_only at text a is = by_version is.is_version
  where
    endpoint : List ℕ
    endpoint = a.host ++ is.end

    by_version : VersionPartText a.major a.minor is.version → located_at at text ≡ Ok a
    by_version (inl none) =
        let whole : text ≡ a.host ++ is.end = is.parts ∙ ap (λ u. u ++ a.host ++ is.end) none.0 in
        let lacks : Lacks 64 (a.host ++ is.end) =
        lacks_both 64 a.host is.end (host_lacks 64 a.host refl is.is_host) (port_part_lacks 64 a.port is.end refl refl is.is_port) in
        rw (whole, cut_lacks 64 (a.host ++ is.end) lacks)
        (endpoint_only 0 at (a.host ++ is.end) a
        (record { end = is.end; parts = refl; is_major = none.1; is_minor = none.2; is_host = is.is_host; is_port = is.is_port }))
    by_version (inr some) =
        let whole : text ≡ some.0 ++ 64 ∷ (a.host ++ is.end) =
        is.parts ∙ ap (λ u. u ++ a.host ++ is.end) some.1 ∙ seam some.0 a.host is.end in
        rw (whole, cut_is 64 some.0 (a.host ++ is.end) (version_lacks 64 a.major a.minor some.0 refl refl some.2), version_only a.major a.minor some.0 some.2)
        (endpoint_only a.minor (at + length some.0 + 1) (a.host ++ is.end) a
        (record { end = is.end; parts = refl; is_major = some.2.first; is_minor = refl; is_host = is.is_host; is_port = is.is_port }))

-- ---- the address

pub protocol_found : (text : List ℕ) (n : ℕ) → protocol_len text ≡ Some n → (front : List ℕ) × ProtocolText front × (text ≡ front ++ drop n text)
protocol_found text n is = go (begins (58 ∷ []) text) (begins (codes "iiop:") text) refl refl is
  where
    go : (p q : Bool) → begins (58 ∷ []) text ≡ p → begins (codes "iiop:") text ≡ q
        → ◌≡◌ {A = Option ℕ} (if p then Some 1 else if q then Some 5 else None) (Some n) → (front : List ℕ) × ProtocolText front × (text ≡ front ++ drop n text)
    go true q one two h = let same : 1 ≡ n = cc in (58 ∷ [], inl refl, subst (λ k. text ≡ 58 ∷ [] ++ drop k text) same (begins_found (58 ∷ []) text one))
    go false true one two h =
        let same : 5 ≡ n = cc in (codes "iiop:", inr refl, subst (λ k. text ≡ codes "iiop:" ++ drop k text) same (begins_found (codes "iiop:") text two))
    go false false one two h = absurd (cc)

pub protocol_only : (front back : List ℕ) → ProtocolText front
    → (protocol_len (front ++ back) ≡ Some (length front)) × (drop (length front) (front ++ back) ≡ back)
protocol_only front back (inl colon) = rw colon (refl, refl)
protocol_only front back (inr iiop) = rw iiop (refl, refl)

pub address_found : (at : ℕ) (text : List ℕ) (a : Address) → address_at at text ≡ Ok a → AddressText a text
unfolding address_at
address_found at text a is =
    let protocol = step_ok (ok_or (protocol_len text) (fault at BadProtocol)) _ a is in
    let front = protocol_found text protocol.0 (ok_or_ok (protocol_len text) (fault at BadProtocol) protocol.0 protocol.1) in
    let there = located_found (at + protocol.0) (drop protocol.0 text) a protocol.2 in
    record {
      protocol = front.0;
      version = there.version;
      end = there.end;
      parts = front.2 ∙ ap (λ u. front.0 ++ u) there.parts ∙ simp append_assoc;
      is_protocol = front.1;
      is_version = there.is_version;
      is_host = there.is_host;
      is_port = there.is_port;
    }

pub address_only : (at : ℕ) (text : List ℕ) (a : Address) → AddressText a text → address_at at text ≡ Ok a
unfolding address_at
address_only at text a is =
    let whole : text ≡ is.protocol ++ (is.version ++ a.host ++ is.end) = is.parts ∙ simp append_assoc in
    let front = protocol_only is.protocol (is.version ++ a.host ++ is.end) is.is_protocol in
    rw (whole, front.0, front.1)
    (located_only (at + length is.protocol) (is.version ++ a.host ++ is.end) a
    (record { version = is.version; end = is.end; parts = refl; is_version = is.is_version; is_host = is.is_host; is_port = is.is_port }))

-- an octet that is no host's, nor ":" or "@", stands in no address
pub address_lacks : (octet : ℕ) (text : List ℕ) (a : Address) → is_host_octet octet ≡ false → (58 == octet) ≡ false → (64 == octet) ≡ false
    → (digit : is_ascii_digit octet ≡ false) → (dot : (46 == octet) ≡ false) → Lacks octet (codes "iiop:")
    → AddressText a text → Lacks octet text
address_lacks octet text a outside colon at_sign digit dot iiop is =
    rw is.parts
    (lacks_both octet (is.protocol ++ is.version ++ a.host) is.end
    (lacks_both octet (is.protocol ++ is.version) a.host
    (lacks_both octet is.protocol is.version (of_protocol is.is_protocol) (of_version is.is_version))
    (host_lacks octet a.host outside is.is_host))
    (port_part_lacks octet a.port is.end digit colon is.is_port))
  where
    of_protocol : ProtocolText is.protocol → Lacks octet is.protocol
    of_protocol (inl one) = rw one (lacks_literal octet (58 ∷ []) (rw colon refl))
    of_protocol (inr other) = rw other iiop

    of_version : VersionPartText a.major a.minor is.version → Lacks octet is.version
    of_version (inl none) = rw none.0 (All-nil (λ x. (x == octet) ≡ false))
    of_version (inr some) =
        rw some.1 (lacks_both octet some.0 (64 ∷ []) (version_lacks octet a.major a.minor some.0 digit dot some.2)
        (lacks_literal octet (64 ∷ []) (rw at_sign refl)))
