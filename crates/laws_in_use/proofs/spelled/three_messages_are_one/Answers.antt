use Rattle.std.proofs.Common.{true, [], ◌∷◌, inl, inr, refl}
use Rattle.giop_msg.specs.declared.version.Version.TheVariants.{V12}
use Rattle.giop_mux.specs.Runs.{Hears}
use Rattle.giop_calls.specs.declared.client.event.ClientEvent.TheVariants as at_client
use Rattle.giop_calls.specs.declared.kind.CallKind.TheVariants as kind
use Rattle.giop_calls.specs.declared.server.event.ServerEvent.TheVariants as event
use Rattle.giop_calls.specs.declared.server.heard.HeardCall.TheVariants as heard
use Rattle.laws_in_use.specs.Exchange.{ping}
use Rattle.laws_in_use.specs.ServerCalls.{arriving}
use Rattle.laws_in_use.proofs.spelled.three_messages_are_one.Goals as goal

pub returns-clause-three : goal.returns-clause-three
returns-clause-three c = λ v.
    (c.messages_come_whole_or_in_pieces.ensures.call v (heard.Request (ping V12)) arriving).1
    (inr (kind.Request, true ∷ [], true, refl))

pub returns-clause-lone : goal.returns-clause-lone
returns-clause-lone c = λ v spells.
    elim ((c.messages_come_whole_or_in_pieces.ensures.call v (heard.Request (ping V12)) (Hears (event.More true) ∷ [])).0 spells) [
      | inl is ↦ absurd cc
      | inr pieces ↦ let is = pieces.3 in absurd cc
    ]

pub returns-clause-no_reply : goal.returns-clause-no_reply
returns-clause-no_reply c = λ v message spells.
    elim ((c.messages_come_whole_or_in_pieces.ensures.reply v message (Hears (at_client.More true) ∷ [])).0 spells) [
      | inl is ↦ absurd cc
      | inr pieces ↦ let is = pieces.2 in absurd cc
    ]
