use Rattle.std.proofs.Common.{◌≡◌, [], codes, Err, true, refl, inl, inr, arith, rules}
use Rattle.giop_cdr.specs.Layout.{chosen, field, gives, number, octets, such, text}
use Rattle.giop_ior.specs.CorbalocReading.{address_at, corbaloc_of, key_at}
use Rattle.giop_ior.specs.Iiop.{components_of, iiop_layout, major_version, no_components}
use Rattle.giop_ior.specs.ToIor.{are_profiles}
use Rattle.giop_ior.specs.declared.addresses.corbaloc_fault.CorbalocKind.TheVariants.{BadProtocol}
use Rattle.laws_in_use.specs.Referred.{address}
use Rattle.laws_in_use.proofs.referred.the_text_of_an_address.Goals as goal

pub returns-clause-text : goal.returns-clause-text
returns-clause-text c = record {
  front = codes ":h:9";
  back = codes "/k";
  parts = refl;
  listed = record {
    protocol = codes ":";
    version = [];
    end = codes ":9";
    parts = refl;
    is_protocol = inl refl;
    is_version = inl (refl, refl, refl);
    is_host = (omega arith, refl);
    is_port = inr (codes "9", refl, (((omega arith, search rules), omega arith, refl), omega arith));
  };
  keyed = inr (codes "k", refl, (codes "k", [], refl, inl (refl, refl), refl));
}

pub returns-clause-read : goal.returns-clause-read
returns-clause-read c = c.corbalocs_are_read.ensures.only (codes "corbaloc::h:9/k") address (returns-clause-text c)

pub returns-clause-found : goal.returns-clause-found
returns-clause-found c = c.corbalocs_are_read.ensures.found (codes "corbaloc::h:9/k") address (returns-clause-read c)

pub returns-clause-alone : goal.returns-clause-alone
returns-clause-alone c = λ other says. c.corbalocs_are_read.ensures.alone (codes "corbaloc::h:9/k") other address says (returns-clause-text c)

pub returns-clause-writable : goal.returns-clause-writable
returns-clause-writable c = c.written_corbalocs_are_read_back.ensures.writable (codes "corbaloc::h:9/k") address (returns-clause-text c)

pub returns-clause-ranged : goal.returns-clause-ranged
returns-clause-ranged c = record { majors = (omega arith, tt); minors = (omega arith, tt); ports = (omega arith, tt); octets = (omega arith, tt) }

pub returns-clause-written : goal.returns-clause-written
returns-clause-written c = c.written_corbalocs_are_read_back.ensures.written address (returns-clause-ranged c) (returns-clause-writable c)

pub returns-clause-again : goal.returns-clause-again
returns-clause-again c = c.written_corbalocs_are_read_back.ensures.again address (returns-clause-ranged c) (returns-clause-writable c)

profiles : are_profiles address ≡ true
unfolding iiop_layout field gives such text number octets chosen components_of no_components major_version
profiles = refl

pub returns-clause-profile : goal.returns-clause-profile
returns-clause-profile c = (c.addresses_are_profiles.ensures address (returns-clause-ranged c) profiles).0

another : corbaloc_of (codes "corbaloc:http://h") ≡ Err (record { at = 9; kind = BadProtocol })
unfolding corbaloc_of address_at key_at
another = refl

pub returns-clause-first : goal.returns-clause-first
returns-clause-first c = c.faults_are_the_first.ensures (codes "corbaloc:http://h") _ another

pub returns-clause-fault : goal.returns-clause-fault
returns-clause-fault c = c.faulty_texts_are_no_corbalocs.ensures (codes "corbaloc:http://h") _ (returns-clause-first c)
