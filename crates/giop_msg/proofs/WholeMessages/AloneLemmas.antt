-- The values of parameters by themselves: what is read is what is spelled, and what is written is read back.
use Rattle.std.proofs.Common.{◌≡◌, ℕ, true, List, [], Result, Ok, Err, IfOk, inl, inr, sym, ap, ◌∙◌}
use Rattle.giop_cdr.specs.declared.order.Order.{Order}
use Rattle.giop_cdr.specs.declared.fault.CdrFault.{CdrFault}
use Rattle.giop_cdr.specs.Ending.{IsLawfulEnding, ended}
use Rattle.giop_cdr.specs.Writing.Output.{Output}
use Rattle.giop_cdr.proofs.EndingLemmas.{ended_is}
use Rattle.giop_types.specs.declared.interfaces.parameters.Parameter.{Parameter}
use Rattle.giop_types.specs.Values.Fits.{fields_fit}
use Rattle.giop_types.specs.Values.Tree.{Tree}
use Rattle.giop_msg.specs.Messages.Alone.{AreTold, DecodesAlone, SpellsAlone, octets_alone, values_alone}
use Rattle.giop_msg.specs.Messages.Body.{fields_in, values}
use Rattle.giop_msg.proofs.WholeMessages.BodyLemmas.{values_are}

values_end : (parameters : List Parameter) → IsLawfulEnding (ended (values parameters))
values_end parameters = ended_is (values_are parameters)

alone_found : (parameters : List Parameter) (order : Order) (trees : List Tree) (octets : List ℕ) → values_alone parameters order octets ≡ Ok trees
    → SpellsAlone parameters order trees octets
unfolding ended values
alone_found parameters order trees octets is = ((values_end parameters).exact (record { order = order; at = 0; rest = octets })).found trees is

alone_only : (parameters : List Parameter) (order : Order) (trees : List Tree) (octets : List ℕ) → SpellsAlone parameters order trees octets
    → values_alone parameters order octets ≡ Ok trees
unfolding ended values
alone_only parameters order trees octets is = ((values_end parameters).exact (record { order = order; at = 0; rest = octets })).only trees is

-- so does a call that reads
pub decodes_found : (parameters : List Parameter) (order : Order) (octets : List ℕ) (r : Result (List Tree) CdrFault)
    → DecodesAlone r (values_alone parameters order octets) → IfOk r (λ trees. SpellsAlone parameters order trees octets)
decodes_found parameters order octets (Ok trees) is = alone_found parameters order trees octets is
decodes_found parameters order octets (Err e) is = tt

ok_is : {x y : List Tree} → ◌≡◌ {A = Result (List Tree) CdrFault} (Ok x) (Ok y) → x ≡ y
ok_is is = cc

pub decodes_only : (parameters : List Parameter) (order : Order) (octets : List ℕ) (r : Result (List Tree) CdrFault)
    → DecodesAlone r (values_alone parameters order octets) → (trees : List Tree) → SpellsAlone parameters order trees octets → AreTold r trees
decodes_only parameters order octets (Ok told) is trees spelled = ok_is (sym is ∙ alone_only parameters order trees octets spelled)
decodes_only parameters order octets (Err e) (inl refused) trees spelled =
    let wrong = sym refused ∙ alone_only parameters order trees octets spelled in absurd cc
decodes_only parameters order octets (Err e) (inr want) trees spelled = want.0

-- what is written of values that fit is read back
pub alone_back : (parameters : List Parameter) (order : Order) (trees : List Tree) (octets : List ℕ) → fields_fit (fields_in parameters) trees ≡ true
    → octets ≡ octets_alone parameters order trees → values_alone parameters order octets ≡ Ok trees
unfolding ended values
alone_back parameters order trees octets fit written =
    let out : Output = record { order = order; at = 0; octets = [] } in
    let s = (values_end parameters).written trees out fit tt in
    let whole : octets ≡ s.part = written ∙ s.octets in
    ap (values_alone parameters order) whole ∙ alone_only parameters order trees s.part s.spells
