use Rattle.std.proofs.Common.{◌≡◌, ◌++◌, ◌∙◌, [], ◌∷◌, Err, true, refl, sym, rules}
use Rattle.giop_cdr.specs.Ending.{ended}
use Rattle.giop_cdr.specs.Layout.{chosen, field, gives, number, octets, signed, such}
use Rattle.giop_cdr.specs.Reading.Values.{count_at, field_at, number_at, octets_at, signed_at, such_at}
use Rattle.giop_cdr.specs.declared.fault.CdrKind.TheVariants.{Trailing}
use Rattle.giop_cdr.specs.declared.order.Order.TheVariants.{Big}
use Rattle.giop_msg.specs.Joined.{whole_of_joined}
use Rattle.giop_msg.specs.Locate.{locate_request, located}
use Rattle.giop_msg.specs.Meaning.{meaning}
use Rattle.giop_msg.specs.Target.{disposition, key_target, target_by, target_layout}
use Rattle.giop_msg.specs.declared.version.Version.TheVariants.{V12}
use Rattle.laws_in_use.specs.Framed.{cut_octets}
use Rattle.laws_in_use.specs.Locating.{door}
use Rattle.laws_in_use.proofs.messages.a_locate_request_and_an_octet.Goals as goal

door_fits : (ended (locate_request V12)).fits door ≡ true
unfolding ended locate_request located target_layout disposition target_by key_target meaning chosen field gives number octets signed such
door_fits = refl

door_holds : (ended (locate_request V12)).holds door
unfolding ended locate_request located target_layout disposition target_by key_target meaning chosen field gives number octets signed such
door_holds = search rules

pub returns-clause-back : goal.returns-clause-back
returns-clause-back c = c.whole_locate_requests_are_spelled.ensures.read V12 Big _
    ∙ (c.whole_locate_requests_are_spelled.ensures.table V12).back Big door door_fits door_holds

left_behind : whole_of_joined (locate_request V12) Big (cut_octets ++ 9 ∷ []) ≡ Err (record { at = 28; kind = Trailing })
unfolding whole_of_joined locate_request located target_layout disposition target_by key_target meaning chosen field gives number octets signed such
    count_at field_at number_at octets_at signed_at such_at
left_behind = refl

pub returns-clause-trailing : goal.returns-clause-trailing
returns-clause-trailing c = sym (c.whole_locate_requests_are_spelled.ensures.read V12 Big (cut_octets ++ 9 ∷ [])) ∙ left_behind
