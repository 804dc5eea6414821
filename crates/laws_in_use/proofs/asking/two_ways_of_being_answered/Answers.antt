use Rattle.std.proofs.Common.{ap, ◌∙◌, ◌∷◌, [], refl, inr, arith, rules, if◌then◌else◌, ◌==◌}
use Rattle.giop_ids.proofs.Puts.{eq_apart}
use Rattle.giop_cdr.specs.Ending.{leads, made_of, remainder}
use Rattle.giop_cdr.specs.Layout.{number, such, field, gives}
use Rattle.giop_cdr.specs.Writing.Output.{number_out}
use Rattle.giop_cdr.specs.declared.order.Order.TheVariants.{Little}
use Rattle.giop_msg.specs.Locate.{locate_reply_head, locate_status}
use Rattle.giop_msg.specs.Messages.LocateReply.{locate_reply}
use Rattle.giop_msg.specs.declared.version.Version.TheVariants.{V10, V12}
use Rattle.giop_calls.specs.declared.client.call.Call.TheVariants as asked
use Rattle.giop_calls.specs.ClientTable.{settles}
use Rattle.giop_calls.specs.declared.client.entry.ClientEntry.TheVariants.{Waiting}
use Rattle.giop_session.specs.Items.Carries.{behind_all}
use Rattle.giop_session.specs.Items.ClientCarries.{client_telling, unknown}
use Rattle.laws_in_use.specs.Asking.{here, one_way, other_way, told, told_of_nine, told_of_seven}
use Rattle.laws_in_use.specs.Locating.{door, here_little, key, limits, tight_limits}
use Rattle.laws_in_use.proofs.AskingHolds as holds
use Rattle.laws_in_use.proofs.AskingMessages.{decoded}
use Rattle.laws_in_use.proofs.AskingRuns.{one_taken, other_taken}
use Rattle.laws_in_use.proofs.asking.two_ways_of_being_answered.Goals as goal

pub returns-clause-one_holds : goal.returns-clause-one_holds
returns-clause-one_holds c = λ interface.
    holds.one_holds interface (c.locate_replies_are_spelled.ensures V10) (c.locate_replies_are_spelled.ensures V12)

pub returns-clause-written : goal.returns-clause-written
unfolding locate_reply locate_reply_head locate_status leads made_of remainder number such field gives number_out
returns-clause-written c = record {
  fits = refl;
  holds = search rules;
  can_cut = record {
    continued = refl;
    id = omega arith;
    short = omega arith;
    large = omega arith;
    fits = omega arith;
    multiple = refl;
  };
  is_cut = (refl, inr (omega arith));
}

pub returns-clause-other_holds : goal.returns-clause-other_holds
returns-clause-other_holds c = λ interface.
    holds.other_holds interface (c.locate_replies_are_spelled.ensures V10) (c.locate_replies_are_spelled.ensures V12)
    (c.what_is_cut_is_carried.ensures.located interface V12 Little door here 24 (here_little ∷ [])
    (holds.asked_then interface (c.locate_replies_are_spelled.ensures V10) (c.locate_replies_are_spelled.ensures V12)) refl
    (returns-clause-written c))

pub returns-clause-one_taken : goal.returns-clause-one_taken
returns-clause-one_taken c = λ interface. (_, ((_, one_taken interface), returns-clause-one_holds c interface))

pub returns-clause-other_taken : goal.returns-clause-other_taken
returns-clause-other_taken c = λ interface. (_, ((_, other_taken interface), returns-clause-other_holds c interface))

pub returns-clause-seven : goal.returns-clause-seven
returns-clause-seven c = λ interface left k taken.
    c.same_calls_same_entries_at_client.ensures.value interface limits one_way told k ((left, taken), returns-clause-one_holds c interface) 7

pub returns-clause-nine : goal.returns-clause-nine
returns-clause-nine c = λ interface left k taken.
    c.same_calls_same_entries_at_client.ensures.value interface limits one_way told k ((left, taken), returns-clause-one_holds c interface) 9
    ∙ ap (λ told. (settles (Waiting (asked.Locate key)) (asked.Locate key) told).entry) (decoded interface).short

pub returns-clause-others : goal.returns-clause-others
returns-clause-others c = λ interface left k taken id seven nine.
    c.same_calls_same_entries_at_client.ensures.value interface limits one_way told k ((left, taken), returns-clause-one_holds c interface) id
    ∙ ap (λ items. (behind_all (client_telling interface) unknown items).entry)
    (ap (λ b. if b then told_of_seven else if id == 9 then told_of_nine else []) (eq_apart id 7 seven)
    ∙ ap (λ b. if b then told_of_nine else []) (eq_apart id 9 nine))

pub returns-clause-same : goal.returns-clause-same
returns-clause-same c = λ interface left left' k k' taken taken'.
    c.same_calls_same_entries_at_client.ensures.same interface limits tight_limits one_way other_way told k k'
    ((left, taken), returns-clause-one_holds c interface) ((left', taken'), returns-clause-other_holds c interface)
