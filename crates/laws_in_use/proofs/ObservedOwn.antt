-- The messages of a connection that name 7, and some that name 9.
use Rattle.std.proofs.Common.{◌≡◌, [], ◌∷◌, Some, Ok, refl}
use Rattle.giop_cdr.specs.Layout.{number, chosen}
use Rattle.giop_cdr.specs.Reading.Values.{field_at, number_at}
use Rattle.giop_msg.specs.RequestId.{request_id_layout, request_id_of}
use Rattle.giop_trace.specs.Observing.{own}
use Rattle.laws_in_use.specs.Asking.{here_begins, here_ends, unknown_little}
use Rattle.laws_in_use.specs.Locating.{door_begins, door_ends, key_big}
use Rattle.giop_tracing.specs.Trace.Order.{of_client, of_server}
use Rattle.laws_in_use.specs.Observed.{before_the_last, in_turn, whole}

pub own_before : own 7 before_the_last
    ≡ of_client door_begins ∷ of_client door_ends ∷ of_server here_begins ∷ []
unfolding request_id_layout chosen number number_at field_at
own_before = refl

pub own_whole : own 7 whole
    ≡ of_client door_begins ∷ of_client door_ends ∷ of_server here_begins
    ∷ of_server here_ends ∷ []
unfolding request_id_layout chosen number number_at field_at
own_whole = refl

pub own_in_turn : own 7 in_turn
    ≡ of_client door_begins ∷ of_client door_ends ∷ of_server here_begins
    ∷ of_server here_ends ∷ []
unfolding request_id_layout chosen number number_at field_at
own_in_turn = refl

-- in parts: before the last piece of what is asked
pub own_seven : own 7 (of_client door_begins ∷ of_client key_big ∷ of_server unknown_little ∷ [])
    ≡ of_client door_begins ∷ []
unfolding request_id_layout chosen number number_at field_at
own_seven = refl

-- and of 9, before `k` is asked for and behind it
pub own_nine_before : own 9 (of_client door_begins ∷ []) ≡ []
unfolding request_id_layout chosen number number_at field_at
own_nine_before = refl

pub own_nine : own 9 (of_client door_begins ∷ of_client key_big ∷ []) ≡ of_client key_big ∷ []
unfolding request_id_layout chosen number number_at field_at
own_nine = refl

-- the ids that answers name
pub seven_is : request_id_of here_begins ≡ Some (Ok 7)
unfolding request_id_layout chosen number number_at field_at
seven_is = refl

pub nine_is : request_id_of unknown_little ≡ Some (Ok 9)
unfolding request_id_layout chosen number number_at field_at
nine_is = refl
