use Rattle.std.proofs.Common.{[], ◌∷◌, codes, ◌<◌, negsuc, true, refl, inl, inr, arith}
use Rattle.std.proofs.lemmas.List.Elements.{All-cons, All-nil}
use Rattle.std.specs.Int.{w8, w16}
use Rattle.giop_cdr.specs.declared.order.Order.TheVariants.{Big}
use Rattle.giop_cdr.specs.Encapsulation.OfLayout.{encapsulation}
use Rattle.giop_cdr.specs.Layout.{boolean, bounded_octets, bounded_text, number, signed}
use Rattle.laws_in_use.proofs.CdrSpelled.{five_little, just_a, minus_one, text_a, took}
use Rattle.laws_in_use.proofs.cdr.primitives_in_use.Goals as goal

pub returns-clause-octets : goal.returns-clause-octets
returns-clause-octets c =
    All-cons (λ octet. octet < 256) 1 (2 ∷ []) (omega arith) (All-cons (λ octet. octet < 256) 2 [] (omega arith) (All-nil (λ octet. octet < 256)))

pub returns-clause-number : goal.returns-clause-number
unfolding number
returns-clause-number c = λ n spells. ((c.primitives_are_lawful.ensures.numbers w16 refl).fitting Big 0 n (1 ∷ 2 ∷ []) (returns-clause-octets c) spells).1

pub returns-clause-signed : goal.returns-clause-signed
unfolding signed
returns-clause-signed c = ((c.primitives_are_lawful.ensures.signed w8 refl).exact _).only (negsuc 0) _ (took _ [] minus_one)

pub returns-clause-boolean : goal.returns-clause-boolean
unfolding boolean
returns-clause-boolean c = (c.primitives_are_lawful.ensures.booleans.exact _).only true _ (took (1 ∷ []) [] refl)

pub returns-clause-counted : goal.returns-clause-counted
unfolding bounded_octets
returns-clause-counted c = ((c.primitives_are_lawful.ensures.octets 1).0.exact _).only (codes "a") _ (took _ [] (just_a, refl))

pub returns-clause-encapsulated : goal.returns-clause-encapsulated
unfolding encapsulation
returns-clause-encapsulated c = (((c.primitives_are_lawful.ensures.encapsulated Big).exact _)).refuses _
    (inl (inl (inr (record { first = 5; middle = _; front = took (5 ∷ 0 ∷ 0 ∷ 0 ∷ []) _ five_little; back = (omega arith, refl) }))))

pub returns-clause-text : goal.returns-clause-text
unfolding bounded_text
returns-clause-text c = ((c.primitives_are_lawful.ensures.texts 1).0.exact _).only (codes "a") _ (took _ [] (text_a, refl))
