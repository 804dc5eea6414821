use Rattle.std.proofs.Common.{refl, ap, ◌∙◌}
use Rattle.std.specs.Option.{option_map}
use Rattle.giop_cdr.specs.declared.order.Order.TheVariants.{Big, Little}
use Rattle.giop_msg.specs.declared.version.Version.TheVariants.{V12}
use Rattle.giop_calls.specs.Lane.{CutsCall, CutsReply, pieces_of}
use Rattle.giop_calls.specs.ServerTable as server
use Rattle.giop_calls.specs.declared.client.call.Call.TheVariants as asked
use Rattle.giop_msg.specs.declared.messages.request.Request.{Request}
use Rattle.laws_in_use.specs.Exchange.{ping, pong}
use Rattle.laws_in_use.specs.Lanes.{again, answered, codec, crossed, crossing, in_three, in_two, reply_whole, whole}
use Rattle.laws_in_use.proofs.lanes.a_cancel_crosses_its_reply.Goals as goal

three_are : CutsCall codec (asked.Request (ping V12)) (pieces_of in_three)
three_are = record { order = Big; one_order = (refl, (refl, (refl, tt))); read = refl }

one_is : CutsCall codec (asked.Request (ping V12)) (pieces_of whole)
one_is = record { order = Big; one_order = (refl, tt); read = refl }

two_are : (q : Request) → CutsReply codec q (pong V12) (pieces_of in_two)
two_are q = record { order = Little; one_order = (refl, (refl, tt)); read = refl }

reply_is : (q : Request) → CutsReply codec q (pong V12) (pieces_of reply_whole)
reply_is q = record { order = Little; one_order = (refl, tt); read = refl }

pub returns-clause-run : goal.returns-clause-run
returns-clause-run c = (
  three_are,
  (
    _,
    refl,
    (
      tt,
      (
        _,
        refl,
        (
          tt,
          (
            _,
            refl,
            (
              tt,
              (
                _,
                refl,
                (
                  tt,
                  (
                    _,
                    refl,
                    (
                      tt,
                      (
                        _,
                        refl,
                        (
                          (λ q is. two_are q),
                          (
                            _,
                            refl,
                            (
                              tt,
                              (_, refl, (tt, (_, refl, (tt, (_, refl, (tt, (_, refl, (tt, (_, refl, refl))))))))),
                            ),
                          ),
                        ),
                      ),
                    ),
                  ),
                ),
              ),
            ),
          ),
        ),
      ),
    ),
  ),
)

pub returns-clause-client : goal.returns-clause-client
returns-clause-client c = (c.ends_of_one_lane_agree.ensures.value codec crossing crossed (returns-clause-run c)).0 refl refl

pub returns-clause-server : goal.returns-clause-server
returns-clause-server c = refl

pub returns-clause-whatever : goal.returns-clause-whatever
returns-clause-whatever c = λ acts lane run sent answered is.
    (c.ends_of_one_lane_agree.ensures.value codec acts lane run).0 sent answered ∙ ap (option_map server.outcome) is

pub returns-clause-again : goal.returns-clause-again
returns-clause-again c = (
  three_are,
  (
    _,
    refl,
    (
      tt,
      (
        _,
        refl,
        (
          tt,
          (
            _,
            refl,
            (
              tt,
              (
                _,
                refl,
                (
                  tt,
                  (
                    _,
                    refl,
                    (
                      tt,
                      (
                        _,
                        refl,
                        (
                          (λ q is. two_are q),
                          (
                            _,
                            refl,
                            (
                              tt,
                              (
                                _,
                                refl,
                                (
                                  tt,
                                  (
                                    _,
                                    refl,
                                    (
                                      tt,
                                      (
                                        _,
                                        refl,
                                        (
                                          tt,
                                          (
                                            _,
                                            refl,
                                            (
                                              tt,
                                              (
                                                _,
                                                refl,
                                                (
                                                  one_is,
                                                  (
                                                    _,
                                                    refl,
                                                    (
                                                      tt,
                                                      (
                                                        _,
                                                        refl,
                                                        (
                                                          (λ q is. reply_is q),
                                                          (
                                                            _,
                                                            refl,
                                                            (
                                                              tt,
                                                              (_, refl, refl),
                                                            ),
                                                          ),
                                                        ),
                                                      ),
                                                    ),
                                                  ),
                                                ),
                                              ),
                                            ),
                                          ),
                                        ),
                                      ),
                                    ),
                                  ),
                                ),
                              ),
                            ),
                          ),
                        ),
                      ),
                    ),
                  ),
                ),
              ),
            ),
          ),
        ),
      ),
    ),
  ),
)

pub returns-clause-right : goal.returns-clause-right
returns-clause-right c = λ acts lane run is.
    ((c.ends_of_one_lane_agree.ensures.value codec acts lane run).1 (ping V12) (pong V12) is).0

pub returns-clause-uses : goal.returns-clause-uses
returns-clause-uses c =
    ((c.ends_of_one_lane_agree.ensures.value codec again answered (returns-clause-again c)).1 (ping V12) (pong V12) refl).1

pub returns-clause-heard : goal.returns-clause-heard
returns-clause-heard c = λ acts lane run. (c.ends_of_one_lane_agree.ensures.value codec acts lane run).4.0
