use Rattle.std.proofs.Common.{[], ◌∷◌, refl}
use Rattle.giop_calls.specs.Lane.{pieces_of}
use Rattle.giop_session.proofs.OnActs.WrittenLemmas.{locate_written, located_written, reply_written, request_written}
use Rattle.giop_session.proofs.OnLanes.CodingLemmas.{result_of}
use Rattle.giop_session.proofs.laws.two_ends.sent.what_is_sent_is_an_item.Goals as goal

pub returns-clause-request : goal.returns-clause-request
returns-clause-request c = λ interface entry asked cut there is.
    c.what_is_cut_is_carried.ensures.request interface asked.head.version is.form.order asked is.form.piece (pieces_of cut) there
    (request_written interface entry asked cut is)

pub returns-clause-locate : goal.returns-clause-locate
returns-clause-locate c = λ interface entry asked cut there is.
    c.what_is_cut_is_carried.ensures.locate interface asked.version is.form.order asked is.form.piece (pieces_of cut) there
    (locate_written interface entry asked cut is)

pub returns-clause-reply : goal.returns-clause-reply
returns-clause-reply c = λ interface asked told cut known waits is.
    c.what_is_cut_is_carried.ensures.reply interface told.version is.form.order asked told is.form.piece (pieces_of cut) known waits
    (reply_written interface asked told cut is)

pub returns-clause-located : goal.returns-clause-located
returns-clause-located c = λ interface asked here m known waits (id, order, is). (
  result_of asked.version id here,
  c.what_is_cut_is_carried.ensures.located interface asked.version order asked (result_of asked.version id here) 24 (m ∷ []) known waits
      (located_written id here order asked.version m is),
  (refl, refl),
)
