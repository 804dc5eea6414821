-- An address is refused as the grammar has it.
use Rattle.std.proofs.Common.{◌≡◌, ℕ, ◌+◌, Bool, true, false, List, [], ◌∷◌, ◌++◌, length, drop, Option, Some, None, Ok, Err, refl, sym, ap, subst, ◌∙◌, ◌⊎◌, inl, inr}
use Rattle.std.specs.Option.{ok_or}
use Rattle.std.proofs.lemmas.Bool.{false≢true}
use Rattle.giop_ior.specs.declared.addresses.address.Address.{Address}
use Rattle.giop_ior.specs.declared.addresses.corbaloc_fault.CorbalocFault.{CorbalocFault}
use Rattle.giop_ior.specs.declared.addresses.corbaloc_fault.CorbalocKind.TheVariants.{BadProtocol, BadHost, BadPort, BadVersion}
use Rattle.giop_ior.specs.Corbaloc.{ProtocolText, VersionText, IsHost, PortText}
use Rattle.giop_ior.specs.CorbalocFault.{Read, fault, ◌>>=◌}
use Rattle.giop_ior.specs.CorbalocReading.{cut, is_host, host_at, port_of, minor_of, endpoint_of_parts, endpoint_at, located_of_parts, located_at, protocol_len, address_at, each_at}
use Rattle.giop_ior.specs.Refused.{RefusedHost, RefusedPort, RefusedEndpoint, RefusedVersion, RefusedLocated, RefusedAddress, RefusedAmong}
use Rattle.giop_ior.proofs.AddressLemmas.{address_found, address_only, protocol_found, protocol_only}
use Rattle.giop_ior.proofs.CutLemmas.{cut_some, cut_none, cut_is, cut_lacks}
use Rattle.giop_ior.proofs.PartLemmas.{port_found, port_only, version_found, version_only, host_found, host_only}
use Rattle.giop_ior.proofs.StepLemmas.{if_ok, if_err, step_err, then_err, ok_or_err, ok_or_none, some_is}

-- ---- the parts: none is read exactly where the grammar has none

absent : {A : Type 0} (o : Option A) → ((x : A) → o ≡ Some x → ⊥) → o ≡ None
absent None lacking = refl
absent (Some x) lacking = absurd (lacking x refl)

none_is_none : {A : Type 0} (o : Option A) (x : A) → o ≡ None → o ≡ Some x → ⊥
none_is_none o x none some = cc

host_not : (text : List ℕ) → is_host text ≡ false → IsHost text → ⊥
host_not text none is = false≢true (sym none ∙ host_only text is)

no_host : (text : List ℕ) → (IsHost text → ⊥) → is_host text ≡ false
no_host text lacking = go (is_host text) refl
  where
    go : (b : Bool) → is_host text ≡ b → is_host text ≡ false
    go true is = absurd (lacking (host_found text is))
    go false is = is

port_not : (text : List ℕ) → port_of text ≡ None → (port : ℕ) → PortText port text → ⊥
port_not text none port is = none_is_none (port_of text) port none (port_only text port is)

no_port : (text : List ℕ) → ((port : ℕ) → PortText port text → ⊥) → port_of text ≡ None
no_port text lacking = absent (port_of text) (λ port is. lacking port (port_found text port is))

version_not : (text : List ℕ) → minor_of text ≡ None → (minor : ℕ) → VersionText 1 minor text → ⊥
version_not text none minor is = none_is_none (minor_of text) minor none (version_only 1 minor text is)

no_version : (text : List ℕ) → ((minor : ℕ) → VersionText 1 minor text → ⊥) → minor_of text ≡ None
no_version text lacking = absent (minor_of text) (λ minor is. lacking minor (version_found text minor is))

protocol_not : (text : List ℕ) → protocol_len text ≡ None → (protocol rest : List ℕ) → text ≡ protocol ++ rest → ProtocolText protocol → ⊥
protocol_not text none protocol rest whole is =
    none_is_none (protocol_len text) (length protocol) none (ap protocol_len whole ∙ (protocol_only protocol rest is).0)

no_protocol : (text : List ℕ) → ((protocol rest : List ℕ) → text ≡ protocol ++ rest → ProtocolText protocol → ⊥) → protocol_len text ≡ None
no_protocol text lacking = absent (protocol_len text)
    (λ n is. let front = protocol_found text n is in lacking front.0 (drop n text) front.2 front.1)

-- ---- the host and the port

host_refused : (at : ℕ) (text : List ℕ) (e : CorbalocFault) → host_at at text ≡ Err e → RefusedHost at text e
host_refused at text e is = let wrong = if_err (is_host text) text (fault at BadHost) e is in (host_not text wrong.0, sym wrong.1)

abbrev endpoint_with : ℕ → List ℕ → ℕ → Read Address
endpoint_with minor host port = Ok (record { major = 1; minor = minor; host = host; port = port })

endpoint_refused : (minor at : ℕ) (text : List ℕ) (e : CorbalocFault) → endpoint_at minor at text ≡ Err e → RefusedEndpoint at text e
endpoint_refused minor at text e is = go (cut 58 text) refl is
  where
    by_host : (host port : List ℕ) → (host_at at host ≡ Err e)
        ⊎ ((x : List ℕ) × (host_at at host ≡ Ok x)
        × ((ok_or (port_of port) (fault (at + length host + 1) BadPort) >>= endpoint_with minor x) ≡ Err e))
        → RefusedHost at host e ⊎ RefusedPort at host port e
    by_host host port (inl wrong) = inl (host_refused at host e wrong)
    by_host host port (inr there) =
        let right = if_ok (is_host host) host there.0 (fault at BadHost) there.1 in
        let wrong = ok_or_none (port_of port) (fault (at + length host + 1) BadPort) e
        (then_err (ok_or (port_of port) (fault (at + length host + 1) BadPort)) _ e there.2) in
        inr (host_found host right.0, port_not port wrong.0, wrong.1)

    go : (o : Option (List ℕ × List ℕ)) → cut 58 text ≡ o → endpoint_of_parts minor at text o ≡ Err e → RefusedEndpoint at text e
    go None parted is = inl (cut_none 58 text parted, host_refused at text e (then_err (host_at at text) _ e is))
    go (Some p) parted is =
        let there = cut_some 58 text p.0 p.1 parted in
        inr (p.0, p.1, (there.parts, there.first), by_host p.0 p.1 (step_err (host_at at p.0) _ e is))

endpoint_refuses : (minor at : ℕ) (text : List ℕ) (e : CorbalocFault) → RefusedEndpoint at text e → endpoint_at minor at text ≡ Err e
endpoint_refuses minor at text e (inl none) = rw (cut_lacks 58 text none.0, no_host text none.1.0, none.1.1) refl
endpoint_refuses minor at text e (inr some) = rw (some.2.0, cut_is 58 some.0 some.1 some.2.1) (by some.3)
  where
    by : RefusedHost at some.0 e ⊎ RefusedPort at some.0 some.1 e → endpoint_of_parts minor at (some.0 ++ 58 ∷ some.1) (Some (some.0, some.1)) ≡ Err e
    by (inl lacking) = rw (no_host some.0 lacking.0, lacking.1) refl
    by (inr lacking) = rw (host_only some.0 lacking.0, no_port some.1 lacking.1, lacking.2) refl

-- ---- the version

located_refused : (at : ℕ) (text : List ℕ) (e : CorbalocFault) → located_at at text ≡ Err e → RefusedLocated at text e
located_refused at text e is = go (cut 64 text) refl is
  where
    by_version : (version rest : List ℕ) → ((minor_of version ≡ None) × (e ≡ fault at BadVersion))
        ⊎ ((minor : ℕ) × (minor_of version ≡ Some minor) × (endpoint_at minor (at + length version + 1) rest ≡ Err e))
        → RefusedVersion at version rest e
    by_version version rest (inl lacking) = inl (version_not version lacking.0, lacking.1)
    by_version version rest (inr some) =
        inr (some.0, version_found version some.0 some.1, endpoint_refused some.0 (at + length version + 1) rest e some.2)

    go : (o : Option (List ℕ × List ℕ)) → cut 64 text ≡ o → located_of_parts at text o ≡ Err e → RefusedLocated at text e
    go None parted is = inl (cut_none 64 text parted, endpoint_refused 0 at text e is)
    go (Some p) parted is =
        let there = cut_some 64 text p.0 p.1 parted in
        inr (p.0, p.1, (there.parts, there.first), by_version p.0 p.1 (ok_or_err (minor_of p.0) (fault at BadVersion) _ e is))

located_refuses : (at : ℕ) (text : List ℕ) (e : CorbalocFault) → RefusedLocated at text e → located_at at text ≡ Err e
located_refuses at text e (inl lacking) = rw (cut_lacks 64 text lacking.0) (endpoint_refuses 0 at text e lacking.1)
located_refuses at text e (inr some) = rw (some.2.0, cut_is 64 some.0 some.1 some.2.1) (by some.3)
  where
    by : RefusedVersion at some.0 some.1 e → located_of_parts at (some.0 ++ 64 ∷ some.1) (Some (some.0, some.1)) ≡ Err e
    by (inl lacking) = rw (no_version some.0 lacking.0, lacking.1) refl
    by (inr version) = rw (version_only 1 version.0 some.0 version.1) (endpoint_refuses version.0 (at + length some.0 + 1) some.1 e version.2)

-- ---- the address

address_refused : (at : ℕ) (text : List ℕ) (e : CorbalocFault) → address_at at text ≡ Err e → RefusedAddress at text e
unfolding address_at
address_refused at text e is = go (ok_or_err (protocol_len text) (fault at BadProtocol) _ e is)
  where
    go : ((protocol_len text ≡ None) × (e ≡ fault at BadProtocol))
        ⊎ ((n : ℕ) × (protocol_len text ≡ Some n) × (located_at (at + n) (drop n text) ≡ Err e)) → RefusedAddress at text e
    go (inl lacking) = inl (protocol_not text lacking.0, lacking.1)
    go (inr some) =
        let front = protocol_found text some.0 some.1 in
        let size : some.0 ≡ length front.0 =
        some_is (sym some.1 ∙ ap protocol_len front.2 ∙ (protocol_only front.0 (drop some.0 text) front.1).0) in
        inr (
          front.0,
          drop some.0 text,
          front.2,
          front.1,
          subst (λ k. RefusedLocated (at + k) (drop some.0 text) e) size (located_refused (at + some.0) (drop some.0 text) e some.2),
        )

address_refuses : (at : ℕ) (text : List ℕ) (e : CorbalocFault) → RefusedAddress at text e → address_at at text ≡ Err e
unfolding address_at
address_refuses at text e (inl lacking) = rw (no_protocol text lacking.0, lacking.1) refl
address_refuses at text e (inr some) =
    let front = protocol_only some.0 some.1 some.3 in
    rw (some.2, front.0, front.1) (located_refuses (at + length some.0) some.1 e some.4)

-- ---- the addresses

pub each_refused : (at : ℕ) (texts : List (List ℕ)) (e : CorbalocFault) → each_at at texts ≡ Err e → RefusedAmong at texts e
each_refused at [] e is = absurd (cc)
each_refused at (text ∷ more) e is = go (each_refused (at + length text + 1) more e) (step_err (address_at at text) _ e is)
  where
    go : (each_at (at + length text + 1) more ≡ Err e → RefusedAmong (at + length text + 1) more e)
        → (address_at at text ≡ Err e)
        ⊎ ((a : Address) × (address_at at text ≡ Ok a)
        × ((each_at (at + length text + 1) more >>= λ addresses. Ok (a ∷ addresses)) ≡ Err e))
        → RefusedAmong at (text ∷ more) e
    go behind (inl wrong) = inl (address_refused at text e wrong)
    go behind (inr some) =
        inr (some.0, address_found at text some.0 some.1, behind (then_err (each_at (at + length text + 1) more) _ e some.2))

pub each_refuses : (at : ℕ) (texts : List (List ℕ)) (e : CorbalocFault) → RefusedAmong at texts e → each_at at texts ≡ Err e
each_refuses at [] e why = absurd why
each_refuses at (text ∷ more) e (inl why) = rw (address_refuses at text e why) refl
each_refuses at (text ∷ more) e (inr why) = rw (address_only at text why.0 why.1, each_refuses (at + length text + 1) more e why.2) refl
