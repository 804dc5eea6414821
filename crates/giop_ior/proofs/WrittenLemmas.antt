-- A written corbaloc is a text of the grammar.
use Rattle.std.proofs.Common.{◌≡◌, ℕ, ◌/◌, ◌%◌, ◌^◌, ◌<◌, ◌==◌, ◌&&◌, Bool, true, false, not, List, [], ◌∷◌, ◌++◌, length, codes, Ok, if◌then◌else◌, refl, sym, ap, subst, ◌∙◌, arith, append_assoc, inl, inr}
use Rattle.std.specs.Char.{digit_value}
use Rattle.std.specs.Fmt.{decimal, digit_glyph}
use Rattle.std.specs.List.{flat_map, list_all, AllByRecursion}
use Rattle.std.proofs.lemmas.Bool.{eqb-true, eq-eqb, lt-ltb}
use Rattle.std.proofs.lemmas.Bool.Decides.{nat_tests}
use Rattle.std.proofs.lemmas.Fmt.{decimal_is_IsNumeral, length-decimal-le}
use Rattle.percent_encoding.specs.Percent.{percent_encode_byte}
use Rattle.giop_ior.specs.declared.addresses.address.Address.{Address}
use Rattle.giop_ior.specs.declared.addresses.corbaloc.Corbaloc.{Corbaloc}
use Rattle.giop_ior.specs.Corbaloc.{CorbalocText, AddressesText, AddressText, NumberText, KeyPartText, KeyText, KeyOctetText, VersionPartText, is_key_octet}
use Rattle.giop_ior.specs.CorbalocReading.{is_host, corbaloc_of}
use Rattle.giop_ior.specs.CorbalocWriting.{address_text, addresses_text, key_octet_text, key_text, corbaloc_text, is_writable_address, is_writable, IsInRange}
use Rattle.giop_ior.proofs.GrammarLemmas.{corbaloc_only}
use Rattle.giop_ior.proofs.NumberLemmas.{both}
use Rattle.giop_ior.proofs.PartLemmas.{host_found, host_only}
use Rattle.giop_ior.proofs.StepLemmas.{ok_is}

-- ---- an address

number_written : (n x : ℕ) → 0 < n → x < 10 ^ n → x < 2 ^ 64 → NumberText n x (decimal x)
number_written n x some short small =
    let numeral = decimal_is_IsNumeral x small in (numeral.0, length-decimal-le n x some short small, numeral.1)

address_written : (a : Address) → a.minor < 256 → a.port < 2 ^ 16 → is_writable_address a ≡ true → AddressText a (address_text a)
address_written a minor port fits =
    let tests = both (a.major == 1) (is_host a.host) fits in
    let major : a.major ≡ 1 = eqb-true a.major 1 tests.0 in
    record {
      protocol = codes "iiop:";
      version = decimal a.major ++ codes "." ++ decimal a.minor ++ codes "@";
      end = codes ":" ++ decimal a.port;
      parts = simp append_assoc;
      is_protocol = inr refl;
      is_version = inr (
        decimal a.major ++ codes "." ++ decimal a.minor,
        refl,
        record {
          front = decimal a.major;
          back = decimal a.minor;
          parts = refl;
          is_major = number_written 3 a.major (omega arith) (omega arith) (omega arith);
          is_minor = number_written 3 a.minor (omega arith) (omega arith) (omega arith);
          first = major;
          small = omega arith;
        },
      );
      is_host = host_found a.host tests.1;
      is_port = inr (decimal a.port, refl, (number_written 5 a.port (omega arith) (omega arith) (omega arith), omega arith));
    }

addresses_written : (one : Address) (more : List Address) → AllByRecursion (λ a. a.minor < 256) (one ∷ more)
    → AllByRecursion (λ a. a.port < 2 ^ 16) (one ∷ more)
    → list_all is_writable_address (one ∷ more) ≡ true → AddressesText (one ∷ more) (addresses_text (one ∷ more))
addresses_written one [] minors ports fit =
    address_written one minors.0 ports.0 (both (is_writable_address one) true fit).0
addresses_written one (two ∷ more) minors ports fit =
    let tests = both (is_writable_address one) (list_all is_writable_address (two ∷ more)) fit in (
      address_text one,
      addresses_text (two ∷ more),
      sym (append_assoc (address_text one) (44 ∷ []) (addresses_text (two ∷ more))),
      address_written one minors.0 ports.0 tests.0,
      addresses_written two more minors.1 ports.1 tests.1,
    )

-- ---- the key

glyph_is : (d : ℕ) → d < 16 → digit_value (digit_glyph true d) ≡ d
glyph_is d small = grind (arith, nat_tests)

octet_written : (octet : ℕ) → octet < 256 → KeyOctetText octet (key_octet_text octet)
unfolding percent_encode_byte
octet_written octet small = go (is_key_octet octet) refl
  where
    go : (p : Bool) → is_key_octet octet ≡ p → KeyOctetText octet (if p then octet ∷ [] else percent_encode_byte octet)
    go true kept = inl (refl, kept)
    go false kept =
        let high = glyph_is (octet / 16 % 16) (omega arith) in
        let low = glyph_is (octet % 16) (omega arith) in
        inr (record {
          high = digit_glyph true (octet / 16 % 16);
          low = digit_glyph true (octet % 16);
          parts = refl;
          is_high = lt-ltb _ _ (omega (arith, high));
          is_low = lt-ltb _ _ (omega (arith, low));
          value = rw (high, low) (omega arith);
        })

key_octets_written : (key : List ℕ) → AllByRecursion (λ octet. octet < 256) key → KeyText key (flat_map key_octet_text key)
key_octets_written [] small = refl
key_octets_written (octet ∷ key) small =
    (key_octet_text octet, flat_map key_octet_text key, refl, octet_written octet small.0, key_octets_written key small.1)

key_written : (key : List ℕ) → AllByRecursion (λ octet. octet < 256) key → KeyPartText key (key_text key)
key_written [] small = inl (refl, refl)
key_written (octet ∷ key) small = inr (flat_map key_octet_text (octet ∷ key), refl, key_octets_written (octet ∷ key) small)

-- ---- the whole

-- what is written is a text of the value
pub written : (c : Corbaloc) → IsInRange c → is_writable c ≡ true → CorbalocText c (corbaloc_text c)
unfolding is_writable corbaloc_text
written c range fits = go c.addresses refl (both (not (length c.addresses == 0)) (list_all is_writable_address c.addresses) fits)
  where
    go : (addresses : List Address) → c.addresses ≡ addresses
        → (not (length c.addresses == 0) ≡ true) × (list_all is_writable_address c.addresses ≡ true) → CorbalocText c (corbaloc_text c)
    go [] are tests = let wrong : false ≡ true = sym (ap (λ l. not (length l == 0)) are) ∙ tests.0 in absurd (cc)
    go (one ∷ more) are tests =
        let minors = subst (AllByRecursion (λ a. a.minor < 256)) are range.minors in
        let ports = subst (AllByRecursion (λ a. a.port < 2 ^ 16)) are range.ports in
        let listed = addresses_written one more minors ports (sym (ap (list_all is_writable_address) are) ∙ tests.1) in
        record {
          front = addresses_text c.addresses;
          back = key_text c.key;
          parts = refl;
          listed = subst (λ l. AddressesText l (addresses_text l)) (sym are) listed;
          keyed = key_written c.key range.octets;
        }

address_writable : (a : Address) (text : List ℕ) → AddressText a text → is_writable_address a ≡ true
address_writable a text is = rw (eq-eqb a.major 1 (of_version is.is_version), host_only a.host is.is_host) refl
  where
    of_version : VersionPartText a.major a.minor is.version → a.major ≡ 1
    of_version (inl none) = none.1
    of_version (inr some) = some.2.first

addresses_writable : (one : Address) (more : List Address) (text : List ℕ) → AddressesText (one ∷ more) text
    → list_all is_writable_address (one ∷ more) ≡ true
addresses_writable one [] text is = rw (address_writable one text is) refl
addresses_writable one (two ∷ more) text is = rw (address_writable one is.0 is.3, addresses_writable two more is.1 is.4) refl

-- what has a text is writable
pub writable : (text : List ℕ) (c : Corbaloc) → CorbalocText c text → is_writable c ≡ true
unfolding is_writable
writable text c is = go c.addresses is.listed
  where
    go : (addresses : List Address) → AddressesText addresses is.front → (not (length addresses == 0) && list_all is_writable_address addresses) ≡ true
    go [] listed = absurd listed
    go (one ∷ more) listed =
        let some : (length (one ∷ more) == 0) ≡ false = grind (arith, nat_tests) in
        rw some (addresses_writable one more is.front listed)

pub read_back : (c : Corbaloc) → IsInRange c → is_writable c ≡ true → corbaloc_of (corbaloc_text c) ≡ Ok c
read_back c range fits = corbaloc_only (corbaloc_text c) c (written c range fits)

-- a text has at most one value
pub one_value : (text : List ℕ) (c d : Corbaloc) → CorbalocText c text → CorbalocText d text → c ≡ d
one_value text c d one other = ok_is (sym (corbaloc_only text c one) ∙ corbaloc_only text d other)
