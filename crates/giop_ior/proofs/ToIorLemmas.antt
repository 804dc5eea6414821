-- The profile of each address reads as that address.
use Rattle.std.proofs.Common.{◌≡◌, ℕ, ◌^◌, ◌<◌, ◌==◌, Bool, true, false, List, [], ◌∷◌, Ok, refl}
use Rattle.std.specs.List.{list_all, AllByRecursion}
use Rattle.giop_cdr.specs.Layout.{such, number, text, octets, field, gives, chosen, sequence}
use Rattle.giop_ior.specs.declared.addresses.address.Address.{Address}
use Rattle.giop_ior.specs.declared.addresses.corbaloc.Corbaloc.{Corbaloc}
use Rattle.giop_ior.specs.CorbalocWriting.{IsInRange}
use Rattle.giop_ior.specs.Iiop.{major_version, tagged_component, no_components, components_of, iiop_layout, iiop_of}
use Rattle.giop_ior.specs.ToIor.{address_profile, profile_of, are_profiles, ReadAsAddresses}
use Rattle.giop_ior.proofs.IiopLemmas.{iiop_back}
use Rattle.giop_ior.proofs.NumberLemmas.{both}

none_held : (p : Bool) → (chosen p no_components (sequence tagged_component)).holds []
unfolding chosen no_components sequence
none_held true = tt
none_held false = tt

none_hold : (minor : ℕ) → (components_of minor).holds []
unfolding components_of
none_hold minor = none_held (minor == 0)

-- the numbers of an address are in the ranges of their types
address_holds : (key : List ℕ) (a : Address) → a.major < 256 → a.minor < 256 → a.port < 2 ^ 16 → iiop_layout.holds (address_profile key a)
unfolding iiop_layout major_version such number text octets field gives
address_holds key a major minor port = (major, (minor, (tt, (port, (tt, (none_hold a.minor, refl))))))

-- so the profile that is written of it is read as the address
each_read : (key : List ℕ) (addresses : List Address) → AllByRecursion (λ a. a.major < 256) addresses
    → AllByRecursion (λ a. a.minor < 256) addresses → AllByRecursion (λ a. a.port < 2 ^ 16) addresses
    → list_all (λ a. iiop_layout.fits (address_profile key a)) addresses ≡ true
    → AllByRecursion (λ a. iiop_of (profile_of key a).octets ≡ Ok (address_profile key a)) addresses
each_read key [] majors minors ports fit = tt
each_read key (a ∷ more) majors minors ports fit =
    let fits = both (iiop_layout.fits (address_profile key a)) (list_all (λ b. iiop_layout.fits (address_profile key b)) more) fit in
    (iiop_back (address_profile key a) fits.0 (address_holds key a majors.0 minors.0 ports.0), each_read key more majors.1 minors.1 ports.1 fits.1)

pub addresses_read : (c : Corbaloc) → IsInRange c → are_profiles c ≡ true → ReadAsAddresses c
addresses_read c range fit = each_read c.key c.addresses range.majors range.minors range.ports fit
