use Rattle.std.proofs.Common.{Some, refl, sym, subst, ◌∙◌}
use Rattle.giop_calls.specs.declared.client.heard.HeardReply.TheVariants as answer
use Rattle.giop_calls.specs.declared.kind.CallKind.TheVariants as kind
use Rattle.giop_msg.specs.declared.kind.Kind.TheVariants as message
use Rattle.giop_msg.specs.Cut.{joined}
use Rattle.giop_cdr.specs.Ending.{ended}
use Rattle.giop_msg.specs.Locate.{locate_request}
use Rattle.giop_msg.specs.Messages.LocateReply.{locate_reply}
use Rattle.giop_msg.specs.Messages.Outcome.{joined_into}
use Rattle.giop_msg.specs.Messages.Reply.{reply}
use Rattle.giop_msg.specs.Messages.Request.{request}
use Rattle.giop_msg.proofs.LocateLemmas.{locate_request_is}
use Rattle.giop_msg.proofs.WholeMessages.LocateReplyLemmas.{locate_reply_is}
use Rattle.giop_msg.proofs.WholeMessages.ReplyLemmas.{reply_is}
use Rattle.giop_msg.proofs.WholeMessages.RequestLemmas.{request_is}
use Rattle.giop_session.specs.Items.ClientCarries.{SpellsReply}
use Rattle.giop_session.proofs.OnItems.CutItemLemmas.{cut_series}
use Rattle.giop_session.proofs.OnItems.WrittenItemLemmas.{written_spells}
use Rattle.giop_session.proofs.laws.one_end.headline.what_is_cut_is_carried.Goals as goal

pub returns-clause-series : goal.returns-clause-series
returns-clause-series c = cut_series

pub returns-clause-request : goal.returns-clause-request
returns-clause-request c = λ interface version order asked piece messages entry is.
    let cut = written_spells (request interface version) (request_is interface version) order asked message.Request piece version messages is in
    (kind.Request, version, order, messages, refl, cut.0, cut.1)

pub returns-clause-locate : goal.returns-clause-locate
unfolding ended
returns-clause-locate c = λ interface version order asked piece messages entry is.
    let octets = ((locate_request version).written asked (joined_into order)).octets in
    let cut = cut_series version message.LocateRequest order octets piece messages is.can_cut is.is_cut in
    let written = (locate_request_is version).written asked (joined_into order) is.fits is.holds in (
      kind.Locate,
      version,
      order,
      messages,
      refl,
      cut.0,
      (record { spells = subst (λ l. (locate_request version).spells order 12 asked l) (sym written.octets ∙ sym cut.1) written.spells }),
    )

pub returns-clause-reply : goal.returns-clause-reply
returns-clause-reply c = λ interface version order asked told piece messages known waits is.
    let layout = reply interface (Some asked) version in
    let cut = written_spells layout (reply_is interface (Some asked) version) order told message.Reply piece version messages is in (
      kind.Request,
      version,
      order,
      messages,
      refl,
      cut.0,
      subst (λ call. SpellsReply interface call kind.Request version order (joined messages) (answer.Reply told)) (sym waits) cut.1,
    )

pub returns-clause-located : goal.returns-clause-located
returns-clause-located c = λ interface version order asked told piece messages known waits is.
    let cut = written_spells (locate_reply version) (locate_reply_is version) order told message.LocateReply piece version messages is in (
      kind.Locate,
      version,
      order,
      messages,
      refl,
      cut.0,
      subst (λ call. SpellsReply interface call kind.Locate version order (joined messages) (answer.Locate told)) (sym waits) cut.1,
    )
