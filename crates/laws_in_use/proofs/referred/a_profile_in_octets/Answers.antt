use Rattle.std.proofs.Common.{◌≡◌, [], ◌∷◌, Result, Ok, true, refl, sym, ◌∙◌, inl, inr, rules, arith}
use Rattle.std.specs.Int.{w8}
use Rattle.giop_cdr.specs.Layout.{chosen, field, gives, number, octets, such, text}
use Rattle.giop_cdr.specs.Spelling.{SpellsNumber}
use Rattle.giop_cdr.specs.Writing.Output.{number_out, octets_out, string_out}
use Rattle.giop_cdr.specs.declared.fault.CdrFault.{CdrFault}
use Rattle.giop_cdr.specs.declared.order.Order.TheVariants.{Big}
use Rattle.giop_ior.specs.Iiop.{Profile, components_of, iiop_layout, iiop_octets, iiop_of, major_version, no_components}
use Rattle.laws_in_use.specs.Referred.{profile, profile_octets}
use Rattle.laws_in_use.proofs.CdrSpelled.{took}
use Rattle.laws_in_use.proofs.referred.a_profile_in_octets.Goals as goal

fitting : iiop_layout.fits profile ≡ true
unfolding iiop_layout field gives such text number octets chosen components_of no_components major_version
fitting = refl

held : iiop_layout.holds profile
unfolding iiop_layout field gives such text number octets chosen components_of no_components major_version
held = search rules

pub returns-clause-written : goal.returns-clause-written
unfolding iiop_octets iiop_layout field gives such text number octets chosen components_of no_components major_version number_out octets_out string_out
returns-clause-written c = c.profiles_are_read.ensures.written profile fitting held

pub returns-clause-again : goal.returns-clause-again
unfolding iiop_octets iiop_layout field gives such text number octets chosen components_of no_components major_version number_out octets_out string_out
returns-clause-again c = c.profiles_are_read.ensures.again profile fitting held

same : {p q : Profile} → ◌≡◌ {A = Result Profile CdrFault} (Ok p) (Ok q) → p ≡ q
same is = cc

pub returns-clause-only : goal.returns-clause-only
returns-clause-only c = λ other octets. same (sym (c.profiles_are_read.ensures.only profile_octets other octets) ∙ returns-clause-again c)

pub returns-clause-found : goal.returns-clause-found
returns-clause-found c = c.profiles_are_read.ensures.found profile_octets profile (returns-clause-again c)

two : SpellsNumber w8 Big 1 2 (2 ∷ [])
two = record { pads = []; octets = 2 ∷ []; padded = refl; few = refl; whole = refl; value = refl }

pub returns-clause-fields : goal.returns-clause-fields
unfolding iiop_layout field such number major_version
returns-clause-fields c = (c.profiles_are_read.ensures.exact _).refuses _
    (inl (inr (record { first = 2; middle = _; front = took (2 ∷ []) [] two; back = (refl, refl) })))

pub returns-clause-refused : goal.returns-clause-refused
unfolding iiop_of
returns-clause-refused c = c.profiles_are_read.ensures.refused [] _ refl

pub returns-clause-refuses : goal.returns-clause-refuses
returns-clause-refuses c = c.profiles_are_read.ensures.refuses (2 ∷ []) _ (inr (inl (omega arith, refl)))
