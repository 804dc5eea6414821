-- The messages of an id among others: those behind others, those that all name it, and those that name another.
use Rattle.std.proofs.Common.{◌≡◌, ◌≢◌, ℕ, if◌then◌else◌, Bool, true, false, List, [], ◌∷◌, ◌++◌, refl, ap, ◌∙◌, append-nil}
use Rattle.std.specs.List.{AllByRecursion}
use Rattle.giop_ids.proofs.Puts.{eq_apart, eq_itself}
use Rattle.giop_msg.specs.declared.msg.Msg.{Msg}
use Rattle.giop_session.specs.Runs.Alone.{names, names_by, own_messages}
use Rattle.giop_session.specs.Worlds.OnTheWay.{Names}

is_named : (id : ℕ) (m : Msg) → Names id m → names m id ≡ true
is_named id m is = ap (λ name. names_by name id) is ∙ eq_itself id

is_apart : (id other : ℕ) (m : Msg) → Names id m → other ≢ id → names m other ≡ false
is_apart id other m is apart = ap (λ name. names_by name other) is ∙ eq_apart other id apart

-- a message of the id comes first
pub own_first : (id : ℕ) (m : Msg) (messages : List Msg) → Names id m → own_messages id (m ∷ messages) ≡ m ∷ own_messages id messages
own_first id m messages is =
    ap (λ named. if named then m ∷ own_messages id messages else own_messages id messages) (is_named id m is)

-- one of another id does
pub own_passed : (id other : ℕ) (m : Msg) (messages : List Msg) → Names id m → other ≢ id → own_messages other (m ∷ messages) ≡ own_messages other messages
own_passed id other m messages is apart =
    ap (λ named. if named then m ∷ own_messages other messages else own_messages other messages) (is_apart id other m is apart)

-- one more before both
one_behind : (named : Bool) (m : Msg) (all own more : List Msg) → all ≡ own ++ more
    → (if named then m ∷ all else all) ≡ (if named then m ∷ own else own) ++ more
one_behind true m all own more is = ap (λ l. m ∷ l) is
one_behind false m all own more is = is

pub own_behind : (id : ℕ) (messages more : List Msg) → own_messages id (messages ++ more) ≡ own_messages id messages ++ own_messages id more
own_behind id [] more = refl
own_behind id (m ∷ messages) more =
    one_behind (names m id) m (own_messages id (messages ++ more)) (own_messages id messages) (own_messages id more) (own_behind id messages more)

own_all : (id : ℕ) (messages : List Msg) → AllByRecursion (Names id) messages → own_messages id messages ≡ messages
own_all id [] are = refl
own_all id (m ∷ messages) (is, are) = own_first id m messages is ∙ ap (λ l. m ∷ l) (own_all id messages are)

own_none : (id other : ℕ) (messages : List Msg) → AllByRecursion (Names id) messages → other ≢ id → own_messages other messages ≡ []
own_none id other [] are apart = refl
own_none id other (m ∷ messages) (is, are) apart = own_passed id other m messages is apart ∙ own_none id other messages are apart

-- messages of the id come behind
pub own_sent : (id : ℕ) (messages sent : List Msg) → AllByRecursion (Names id) sent → own_messages id (messages ++ sent) ≡ own_messages id messages ++ sent
own_sent id messages sent are = own_behind id messages sent ∙ ap (λ l. own_messages id messages ++ l) (own_all id sent are)

-- those of another id do
pub own_left : (id other : ℕ) (messages sent : List Msg) → AllByRecursion (Names id) sent → other ≢ id
    → own_messages other (messages ++ sent) ≡ own_messages other messages
own_left id other messages sent are apart =
    own_behind other messages sent ∙ ap (λ l. own_messages other messages ++ l) (own_none id other sent are apart) ∙ append-nil (own_messages other messages)
