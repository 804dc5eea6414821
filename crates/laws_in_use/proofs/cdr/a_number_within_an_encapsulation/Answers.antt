use Rattle.std.proofs.Common.{[], ◌∷◌, true, refl, inr, arith}
use Rattle.std.specs.Int.{w32}
use Rattle.giop_cdr.specs.declared.order.Order.TheVariants.{Big, Little}
use Rattle.giop_cdr.specs.Encapsulation.OfLayout.{encapsulation}
use Rattle.giop_cdr.specs.Encapsulation.Opened.{closed, opened, place_opened}
use Rattle.giop_cdr.specs.Layout.{number}
use Rattle.giop_cdr.specs.Writing.Output.{Output, number_out}
use Rattle.giop_cdr.proofs.Encapsulation.EncapsulatedLemmas.{number_is_short}
use Rattle.laws_in_use.proofs.CdrSpelled.{again, took, two_octets}
use Rattle.laws_in_use.proofs.cdr.a_number_within_an_encapsulation.Goals as goal

abbrev out : Output
out = record { order = Big; at = 6; octets = [] }

pub returns-clause-lawful : goal.returns-clause-lawful
returns-clause-lawful c = c.primitives_are_lawful.ensures.numbers w32 refl

pub returns-clause-short : goal.returns-clause-short
returns-clause-short c = number_is_short Little

pub returns-clause-inside : goal.returns-clause-inside
unfolding number number_out opened
returns-clause-inside c = omega arith

pub returns-clause-back : goal.returns-clause-back
unfolding number number_out closed opened place_opened
returns-clause-back c =
    again (c.encapsulations_are_lawful.ensures.back Little 258 out (returns-clause-lawful c) refl (omega arith) (returns-clause-inside c)) refl (9 ∷ [])

pub returns-clause-refused : goal.returns-clause-refused
unfolding encapsulation number
returns-clause-refused c = ((c.encapsulations_are_lawful.ensures.lawful Big (λ n. true) (returns-clause-lawful c) (number_is_short Big)).exact _).refuses _
    (inr (record {
      first = 1 ∷ 0 ∷ [];
      middle = _;
      front = took (0 ∷ 0 ∷ 0 ∷ 2 ∷ 1 ∷ 0 ∷ []) [] two_octets;
      back = inr (inr (_, (record { order = Little; content = 0 ∷ []; whole = refl; value = refl }), (omega arith, refl)));
    }))
