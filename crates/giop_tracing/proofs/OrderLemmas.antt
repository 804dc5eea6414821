-- The order in which the messages of both directions are told: there is one, it is the only one, and a turn of both is what it tells.
use Rattle.std.proofs.Common.{◌≡◌, ◌≢◌, ℕ, Bool, true, false, List, [], ◌∷◌, ◌++◌, refl, sym, ap, subst, ◌∙◌}
use Rattle.giop_ids.specs.ById.{ById}
use Rattle.giop_msg.specs.declared.msg.Msg.{Msg}
use Rattle.giop_trace.specs.declared.direction.Direction.{Direction}
use Rattle.giop_trace.specs.declared.direction.Direction.TheVariants.{Client, Server}
use Rattle.giop_trace.specs.declared.flow.Flow.{Flow}
use Rattle.giop_trace.specs.Observing.{Brought, heard as heard_of, is_early, left, left_of_all}
use Rattle.giop_types.specs.declared.interfaces.interface.Interface.{Interface}
use Rattle.giop_forms.specs.declared.line_form.LineForm.{LineForm}
use Rattle.giop_tracing.specs.Trace.Order.{IsOrder, NoneIsEarly, NoneWaits, all_told, clients, of_client, of_server, servers}
use Rattle.giop_tracing.specs.Trace.Text.{Turn, behind, both_turn, heard_lines, server_turn}
use Rattle.giop_tracing.proofs.TraceLemmas.{behind-behind}

-- ---- lists

not_none : {A : Type 0} (x : A) (xs : List A) → (x ∷ xs) ≢ []
not_none x xs same = absurd cc

first_same : {A : Type 0} (x y : A) (xs ys : List A) → x ∷ xs ≡ y ∷ ys → x ≡ y
first_same x y xs ys same = cc

rest_same : {A : Type 0} (x y : A) (xs ys : List A) → x ∷ xs ≡ y ∷ ys → xs ≡ ys
rest_same x y xs ys same = cc

none_of : {A : Type 0} (xs : List A) → (xs ≢ [] → ⊥) → xs ≡ []
none_of [] some = refl
none_of (x ∷ xs) some = absurd (some (not_none x xs))

-- ---- message by message

-- what holds where a message is told behind others, of those behind it
abbrev Goes : ById Flow → Direction → Msg → List Brought → Type 0
Goes flows Client m rest = (next : Msg) (later : List Msg) → servers rest ≡ next ∷ later → is_early flows next ≡ true
Goes flows Server m rest = clients rest ≢ [] → is_early flows m ≡ false

abbrev pub GoesOn : ById Flow → List Brought → Type 0
GoesOn flows [] = Unit {0}
GoesOn flows (one ∷ rest) = Goes flows one.direction one.message rest × GoesOn (left false flows one.direction one.message) rest

-- and where it is the first
abbrev First : Direction → List Brought → Type 0
First Client rest = Unit {0}
First Server rest = clients rest ≡ []

abbrev pub Begins : ById Flow → List Brought → Type 0
Begins flows [] = Unit {0}
Begins flows (one ∷ rest) = First one.direction rest × GoesOn (left false flows one.direction one.message) rest

-- ---- the same of each place in an order

-- none is early, but for the first one
abbrev EarlyBehind : ById Flow → List Brought → Type 0
EarlyBehind flows all = (before after : List Brought) (m : Msg)
    → all ≡ before ++ of_server m ∷ after → clients after ≢ [] → is_early (left_of_all false flows before) m ≡ false

abbrev WaitsBehind : ById Flow → List Brought → Type 0
WaitsBehind flows all = (before after : List Brought) (m next : Msg) (later : List Msg)
    → all ≡ before ++ of_client m ∷ after → servers after ≡ next ∷ later → is_early (left_of_all false flows before) next ≡ true

goes_at : (flows : ById Flow) (direction : Direction) (m : Msg) (rest : List Brought)
    → EarlyBehind flows (record { direction = direction; message = m } ∷ rest)
    → WaitsBehind flows (record { direction = direction; message = m } ∷ rest) → Goes flows direction m rest
goes_at flows Client m rest early waits = λ next later is. waits [] rest m next later refl is
goes_at flows Server m rest early waits = λ more. early [] rest m refl more

goes_on_at : (flows : ById Flow) (all : List Brought) → EarlyBehind flows all → WaitsBehind flows all → GoesOn flows all
goes_on_at flows [] early waits = tt
goes_on_at flows (one ∷ rest) early waits = (
  goes_at flows one.direction one.message rest early waits,
  goes_on_at (left false flows one.direction one.message) rest
      (λ before after m is more. early (one ∷ before) after m (ap (λ u. one ∷ u) is) more)
      (λ before after m next later is more. waits (one ∷ before) after m next later (ap (λ u. one ∷ u) is) more),
)

first_at : (flows : ById Flow) (direction : Direction) (m : Msg) (rest : List Brought)
    → NoneIsEarly flows (record { direction = direction; message = m } ∷ rest) → First direction rest
first_at flows Client m rest early = tt
first_at flows Server m rest early = none_of (clients rest) (λ more. (early [] rest m refl more).0 refl)

begins_at : (flows : ById Flow) (all : List Brought) → NoneIsEarly flows all → NoneWaits flows all → Begins flows all
begins_at flows [] early waits = tt
begins_at flows (one ∷ rest) early waits = (
  first_at flows one.direction one.message rest early,
  goes_on_at (left false flows one.direction one.message) rest
      (λ before after m is more. (early (one ∷ before) after m (ap (λ u. one ∷ u) is) more).1)
      (λ before after m next later is more. waits (one ∷ before) after m next later (ap (λ u. one ∷ u) is) (not_none one before) more),
)

-- ---- and back

early_goes : (flows : ById Flow) (one : Brought) (m : Msg) (rest after : List Brought) → one ≡ of_server m → rest ≡ after
    → Goes flows one.direction one.message rest → clients after ≢ [] → is_early flows m ≡ false
early_goes flows one m rest after is same goes more =
    let at : Goes flows Server m rest = subst (λ (u : Brought). Goes flows u.direction u.message rest) is goes in
    at (λ none. more (ap clients (sym same) ∙ none))

waits_goes : (flows : ById Flow) (one : Brought) (m next : Msg) (later : List Msg) (rest after : List Brought) → one ≡ of_client m → rest ≡ after
    → Goes flows one.direction one.message rest → servers after ≡ next ∷ later → is_early flows next ≡ true
waits_goes flows one m next later rest after is same goes more =
    let at : Goes flows Client m rest = subst (λ (u : Brought). Goes flows u.direction u.message rest) is goes in
    at next later (ap servers same ∙ more)

early_on : (flows : ById Flow) (all : List Brought) → GoesOn flows all → EarlyBehind flows all
early_on flows [] on [] after m is more = absurd cc
early_on flows [] on (b ∷ before) after m is more = absurd cc
early_on flows (one ∷ rest) on [] after m is more =
    early_goes flows one m rest after (first_same one (of_server m) rest after is) (rest_same one (of_server m) rest after is) on.0 more
early_on flows (one ∷ rest) on (b ∷ before) after m is more =
    subst (λ (u : Brought). is_early (left_of_all false (left false flows u.direction u.message) before) m ≡ false)
    (first_same one b rest (before ++ of_server m ∷ after) is)
    (early_on (left false flows one.direction one.message) rest on.1 before after m (rest_same one b rest (before ++ of_server m ∷ after) is) more)

waits_on : (flows : ById Flow) (all : List Brought) → GoesOn flows all → WaitsBehind flows all
waits_on flows [] on [] after m next later is more = absurd cc
waits_on flows [] on (b ∷ before) after m next later is more = absurd cc
waits_on flows (one ∷ rest) on [] after m next later is more =
    waits_goes flows one m next later rest after (first_same one (of_client m) rest after is) (rest_same one (of_client m) rest after is) on.0 more
waits_on flows (one ∷ rest) on (b ∷ before) after m next later is more =
    subst (λ (u : Brought). is_early (left_of_all false (left false flows u.direction u.message) before) next ≡ true)
    (first_same one b rest (before ++ of_client m ∷ after) is)
    (waits_on (left false flows one.direction one.message) rest on.1 before after m next later
    (rest_same one b rest (before ++ of_client m ∷ after) is) more)

not_first : (one : Brought) (m : Msg) (rest after : List Brought) → one ≡ of_server m → rest ≡ after → First one.direction rest
    → clients after ≢ [] → ⊥
not_first one m rest after is same first more =
    let at : First Server rest = subst (λ (u : Brought). First u.direction rest) is first in
    more (ap clients (sym same) ∙ at)

early_begins : (flows : ById Flow) (all : List Brought) → Begins flows all → NoneIsEarly flows all
early_begins flows [] begins [] after m is more = absurd cc
early_begins flows [] begins (b ∷ before) after m is more = absurd cc
early_begins flows (one ∷ rest) begins [] after m is more =
    absurd (not_first one m rest after (first_same one (of_server m) rest after is) (rest_same one (of_server m) rest after is) begins.0 more)
early_begins flows (one ∷ rest) begins (b ∷ before) after m is more = (
  not_none b before,
  subst (λ (u : Brought). is_early (left_of_all false (left false flows u.direction u.message) before) m ≡ false)
      (first_same one b rest (before ++ of_server m ∷ after) is)
      (early_on (left false flows one.direction one.message) rest begins.1 before after m (rest_same one b rest (before ++ of_server m ∷ after) is) more),
)

waits_begins : (flows : ById Flow) (all : List Brought) → Begins flows all → NoneWaits flows all
waits_begins flows [] begins [] after m next later is behind more = absurd cc
waits_begins flows [] begins (b ∷ before) after m next later is behind more = absurd cc
waits_begins flows (one ∷ rest) begins [] after m next later is behind more = absurd (behind refl)
waits_begins flows (one ∷ rest) begins (b ∷ before) after m next later is behind more =
    subst (λ (u : Brought). is_early (left_of_all false (left false flows u.direction u.message) before) next ≡ true)
    (first_same one b rest (before ++ of_client m ∷ after) is)
    (waits_on (left false flows one.direction one.message) rest begins.1 before after m next later
    (rest_same one b rest (before ++ of_client m ∷ after) is) more)

-- an order, message by message
pub order_begins : (flows : ById Flow) (client server : List Msg) (all : List Brought) → clients all ≡ client → servers all ≡ server
    → Begins flows all → IsOrder flows client server all
order_begins flows client server all asked answered begins = record {
  asked = asked;
  answered = answered;
  none_is_early = early_begins flows all begins;
  none_waits = waits_begins flows all begins;
}

-- ---- there is one

-- an order of messages that come behind others
record Ordered (flows : ById Flow) (client server : List Msg) : Type 0 where
  all : List Brought
  client_is : clients all ≡ client
  server_is : servers all ≡ server
  goes : GoesOn flows all

of_server_alone : (flows : ById Flow) (server : List Msg) → Ordered flows [] server
of_server_alone flows [] = record { all = []; client_is = refl; server_is = refl; goes = tt }
of_server_alone flows (m ∷ server) =
    let on = of_server_alone (left false flows Server m) server in
    record {
      all = of_server m ∷ on.all;
      client_is = on.client_is;
      server_is = ap (λ u. m ∷ u) on.server_is;
      goes = ((λ more. absurd (more on.client_is)), on.goes);
    }

-- one of the client first, where the next of the server is early
client_first : (flows : ById Flow) (m : Msg) (client server : List Msg)
    → ((next : Msg) (later : List Msg) → server ≡ next ∷ later → is_early flows next ≡ true)
    → Ordered (left false flows Client m) client server → Ordered flows (m ∷ client) server
client_first flows m client server early on = record {
  all = of_client m ∷ on.all;
  client_is = ap (λ u. m ∷ u) on.client_is;
  server_is = on.server_is;
  goes = ((λ next later is. early next later (sym on.server_is ∙ is)), on.goes);
}

-- or one of the server, which isn't
either_first : (flows : ById Flow) (m next : Msg) (client server : List Msg) (early : Bool) → is_early flows next ≡ early
    → Ordered (left false flows Client m) client (next ∷ server)
    → Ordered (left false flows Server next) (m ∷ client) server
    → Ordered flows (m ∷ client) (next ∷ server)
either_first flows m next client server true is one other =
    client_first flows m client (next ∷ server)
    (λ n later same. ap (is_early flows) (sym (first_same next n server later same)) ∙ is) one
either_first flows m next client server false is one other = record {
  all = of_server next ∷ other.all;
  client_is = other.client_is;
  server_is = ap (λ u. next ∷ u) other.server_is;
  goes = ((λ more. is), other.goes);
}

with_client : (m : Msg) (client : List Msg) → ((flows : ById Flow) (server : List Msg) → Ordered flows client server)
    → (server : List Msg) (flows : ById Flow) → Ordered flows (m ∷ client) server
with_client m client on [] flows =
    client_first flows m client [] (λ next later same. absurd cc) (on (left false flows Client m) [])
with_client m client on (next ∷ server) flows =
    either_first flows m next client server (is_early flows next) refl (on (left false flows Client m) (next ∷ server))
    (with_client m client on server (left false flows Server next))

ordered : (client : List Msg) (flows : ById Flow) (server : List Msg) → Ordered flows client server
ordered [] flows server = of_server_alone flows server
ordered (m ∷ client) flows server = with_client m client (ordered client) server flows

-- an order without messages of the client may begin anyhow
server_first : (flows : ById Flow) (direction : Direction) (m : Msg) (rest : List Brought)
    → clients (record { direction = direction; message = m } ∷ rest) ≡ [] → First direction rest
server_first flows Client m rest none = tt
server_first flows Server m rest none = none

begins_alone : (flows : ById Flow) (all : List Brought) → clients all ≡ [] → GoesOn flows all → Begins flows all
begins_alone flows [] none on = tt
begins_alone flows (one ∷ rest) none on = (server_first flows one.direction one.message rest none, on.1)

pub an_order : (flows : ById Flow) (client server : List Msg) → (all : List Brought) × IsOrder flows client server all
an_order flows [] server =
    let on = of_server_alone flows server in
    (on.all, order_begins flows [] server on.all on.client_is on.server_is (begins_alone flows on.all on.client_is on.goes))
an_order flows (m ∷ client) server =
    let on = ordered client (left false flows Client m) server in (
      of_client m ∷ on.all,
      order_begins flows (m ∷ client) server (of_client m ∷ on.all) (ap (λ u. m ∷ u) on.client_is) on.server_is (tt, on.goes),
    )

-- ---- it is the only one

is_not : (b : Bool) → b ≡ true → b ≡ false → ⊥
is_not true one other = absurd cc
is_not false one other = absurd cc

abbrev Agree : Direction → Direction → Type 0
Agree Client Client = Unit {0}
Agree Client Server = ⊥
Agree Server Client = ⊥
Agree Server Server = Unit {0}

-- two orders of the same messages whose first are of one direction have the same first, and the same messages behind it
heads : (a b : Direction) (m n : Msg) (rest others : List Brought) → Agree a b
    → clients (record { direction = a; message = m } ∷ rest) ≡ clients (record { direction = b; message = n } ∷ others)
    → servers (record { direction = a; message = m } ∷ rest) ≡ servers (record { direction = b; message = n } ∷ others)
    → ((m ≡ n) × (a ≡ b)) × ((clients rest ≡ clients others) × (servers rest ≡ servers others))
heads Client Client m n rest others agree asked answered = (
  (first_same m n (clients rest) (clients others) asked, refl),
  (rest_same m n (clients rest) (clients others) asked, answered),
)
heads Client Server m n rest others agree asked answered = absurd agree
heads Server Client m n rest others agree asked answered = absurd agree
heads Server Server m n rest others agree asked answered = (
  (first_same m n (servers rest) (servers others) answered, refl),
  (asked, rest_same m n (servers rest) (servers others) answered),
)

agree_goes : (flows : ById Flow) (a b : Direction) (m n : Msg) (rest others : List Brought)
    → clients (record { direction = a; message = m } ∷ rest) ≡ clients (record { direction = b; message = n } ∷ others)
    → servers (record { direction = a; message = m } ∷ rest) ≡ servers (record { direction = b; message = n } ∷ others)
    → Goes flows a m rest → Goes flows b n others → Agree a b
agree_goes flows Client Client m n rest others asked answered one other = tt
agree_goes flows Client Server m n rest others asked answered one other =
    is_not (is_early flows n) (one n (servers others) answered) (other (λ none. not_none m (clients rest) (asked ∙ none)))
agree_goes flows Server Client m n rest others asked answered one other =
    is_not (is_early flows m) (other m (servers rest) (sym answered)) (one (λ none. not_none n (clients others) (sym asked ∙ none)))
agree_goes flows Server Server m n rest others asked answered one other = tt

agree_first : (a b : Direction) (m n : Msg) (rest others : List Brought)
    → clients (record { direction = a; message = m } ∷ rest) ≡ clients (record { direction = b; message = n } ∷ others)
    → First a rest → First b others → Agree a b
agree_first Client Client m n rest others asked one other = tt
agree_first Client Server m n rest others asked one other = not_none m (clients rest) (asked ∙ other)
agree_first Server Client m n rest others asked one other = not_none n (clients others) (sym asked ∙ one)
agree_first Server Server m n rest others asked one other = tt

no_more : (b : Direction) (n : Msg) (others : List Brought)
    → [] ≡ clients (record { direction = b; message = n } ∷ others) → [] ≡ servers (record { direction = b; message = n } ∷ others) → ⊥
no_more Client n others asked answered = not_none n (clients others) (sym asked)
no_more Server n others asked answered = not_none n (servers others) (sym answered)

-- a message is its parts
one_is : (one other : Brought) → one.message ≡ other.message → one.direction ≡ other.direction → one ≡ other
one_is one other message direction = λ i. record { direction = direction i; message = message i }

behind_same : (one other : Brought) (rest others : List Brought) → one ≡ other → rest ≡ others → one ∷ rest ≡ other ∷ others
behind_same one other rest others is same = ap (λ u. u ∷ rest) is ∙ ap (λ u. other ∷ u) same

only_on : (flows : ById Flow) (all others : List Brought) → clients all ≡ clients others → servers all ≡ servers others
    → GoesOn flows all → GoesOn flows others → all ≡ others
only_on flows [] [] asked answered on on_others = refl
only_on flows [] (other ∷ others) asked answered on on_others = absurd (no_more other.direction other.message others asked answered)
only_on flows (one ∷ rest) [] asked answered on on_others = absurd (no_more one.direction one.message rest (sym asked) (sym answered))
only_on flows (one ∷ rest) (other ∷ others) asked answered on on_others =
    let agree =
    agree_goes flows one.direction other.direction one.message other.message rest others asked answered on.0 on_others.0
    in
    let same = heads one.direction other.direction one.message other.message rest others agree asked answered in
    let is = one_is one other same.0.0 same.0.1 in
    behind_same one other rest others is
    (only_on (left false flows one.direction one.message) rest others same.1.0 same.1.1 on.1
    (subst (λ (u : Brought). GoesOn (left false flows u.direction u.message) others) (sym is) on_others.1))

only_begins : (flows : ById Flow) (all others : List Brought) → clients all ≡ clients others → servers all ≡ servers others
    → Begins flows all → Begins flows others → all ≡ others
only_begins flows [] [] asked answered on on_others = refl
only_begins flows [] (other ∷ others) asked answered on on_others = absurd (no_more other.direction other.message others asked answered)
only_begins flows (one ∷ rest) [] asked answered on on_others = absurd (no_more one.direction one.message rest (sym asked) (sym answered))
only_begins flows (one ∷ rest) (other ∷ others) asked answered on on_others =
    let agree = agree_first one.direction other.direction one.message other.message rest others asked on.0 on_others.0 in
    let same = heads one.direction other.direction one.message other.message rest others agree asked answered in
    let is = one_is one other same.0.0 same.0.1 in
    behind_same one other rest others is
    (only_on (left false flows one.direction one.message) rest others same.1.0 same.1.1 on.1
    (subst (λ (u : Brought). GoesOn (left false flows u.direction u.message) others) (sym is) on_others.1))

pub the_only_order : (flows : ById Flow) (client server : List Msg) (all others : List Brought) → IsOrder flows client server all
    → IsOrder flows client server others → all ≡ others
the_only_order flows client server all others one other =
    only_begins flows all others (one.asked ∙ sym other.asked) (one.answered ∙ sym other.answered)
    (begins_at flows all one.none_is_early one.none_waits) (begins_at flows others other.none_is_early other.none_waits)

-- ---- a turn of both is what it tells

module _ (form : LineForm) (interface : Interface) where
  -- the lines of one message
  abbrev lines_of : ById Flow → Direction → Msg → List ℕ
  lines_of flows direction m = heard_lines form interface false (heard_of false flows direction m)

  -- a turn of the server's with what comes behind it: the rest of the server's, or those of both
  abbrev then_server : Turn → Turn
  then_server turn = behind turn.lines (server_turn form interface false turn.flows turn.later)

  abbrev then_both : List Msg → Turn → Turn
  then_both client turn = behind turn.lines (both_turn form interface turn.flows client turn.later)

  -- what comes of messages behind others: those of the server that don't wait first
  abbrev on_turn : ById Flow → List Msg → List Msg → Turn
  on_turn flows [] server = server_turn form interface false flows server
  on_turn flows (m ∷ client) server = then_both (m ∷ client) (server_turn form interface true flows server)

  turn_early : (flows : ById Flow) (m : Msg) (server : List Msg) → is_early flows m ≡ true
      → server_turn form interface true flows (m ∷ server) ≡ record { lines = []; flows = flows; later = m ∷ server }
  turn_early flows m server early = rw early refl

  turn_told : (flows : ById Flow) (m : Msg) (server : List Msg) → is_early flows m ≡ false
      → server_turn form interface true flows (m ∷ server)
      ≡ behind (lines_of flows Server m) (server_turn form interface true (left false flows Server m) server)
  turn_told flows m server early = rw early refl

  -- a turn up to one that waits and then to the end is one to the end
  resumed_by : (flows : ById Flow) (m : Msg) (server : List Msg) (early : Bool) → is_early flows m ≡ early
      → then_server (server_turn form interface true (left false flows Server m) server)
      ≡ server_turn form interface false (left false flows Server m) server
      → then_server (server_turn form interface true flows (m ∷ server)) ≡ server_turn form interface false flows (m ∷ server)
  resumed_by flows m server true early on = ap then_server (turn_early flows m server early)
  resumed_by flows m server false early on =
      let turn = server_turn form interface true (left false flows Server m) server in
      ap then_server (turn_told flows m server early)
      ∙ sym (behind-behind (lines_of flows Server m) turn.lines (server_turn form interface false turn.flows turn.later))
      ∙ ap (behind (lines_of flows Server m)) on

  resumed : (flows : ById Flow) (server : List Msg)
      → then_server (server_turn form interface true flows server) ≡ server_turn form interface false flows server
  resumed flows [] = refl
  resumed flows (m ∷ server) =
      resumed_by flows m server (is_early flows m) refl (resumed (left false flows Server m) server)

  -- a message of the client, and then what comes behind it
  both_one : (flows : ById Flow) (m : Msg) (client server : List Msg)
      → both_turn form interface flows (m ∷ client) server
      ≡ behind (lines_of flows Client m) (on_turn (left false flows Client m) client server)
  both_one flows m [] server =
      let turn = server_turn form interface true (left false flows Client m) server in
      sym (behind-behind (lines_of flows Client m) turn.lines (server_turn form interface false turn.flows turn.later))
      ∙ ap (behind (lines_of flows Client m)) (resumed (left false flows Client m) server)
  both_one flows m (next ∷ client) server =
      let turn = server_turn form interface true (left false flows Client m) server in
      sym (behind-behind (lines_of flows Client m) turn.lines (both_turn form interface turn.flows (next ∷ client) turn.later))

  -- where the next of the server is early, the client's is told
  client_goes : (flows : ById Flow) (m : Msg) (client server : List Msg)
      → ((next : Msg) (later : List Msg) → server ≡ next ∷ later → is_early flows next ≡ true)
      → on_turn flows (m ∷ client) server ≡ both_turn form interface flows (m ∷ client) server
  client_goes flows m client [] early = refl
  client_goes flows m client (next ∷ server) early =
      ap (then_both (m ∷ client)) (turn_early flows next server (early next server refl))

  -- where it isn't, or the client is at its end, it is told
  server_goes : (flows : ById Flow) (m : Msg) (client server : List Msg) → (client ≢ [] → is_early flows m ≡ false)
      → on_turn flows client (m ∷ server) ≡ behind (lines_of flows Server m) (on_turn (left false flows Server m) client server)
  server_goes flows m [] server early = refl
  server_goes flows m (next ∷ client) server early =
      let turn = server_turn form interface true (left false flows Server m) server in
      ap (then_both (next ∷ client)) (turn_told flows m server (early (not_none next client)))
      ∙ sym (behind-behind (lines_of flows Server m) turn.lines (both_turn form interface turn.flows (next ∷ client) turn.later))

  goes_told : (flows : ById Flow) (direction : Direction) (m : Msg) (rest : List Brought) → Goes flows direction m rest
      → on_turn (left false flows direction m) (clients rest) (servers rest) ≡ all_told form interface (left false flows direction m) rest
      → on_turn flows (clients (record { direction = direction; message = m } ∷ rest)) (servers (record { direction = direction; message = m } ∷ rest))
      ≡ behind (lines_of flows direction m) (all_told form interface (left false flows direction m) rest)
  goes_told flows Client m rest goes on =
      client_goes flows m (clients rest) (servers rest) goes ∙ both_one flows m (clients rest) (servers rest)
      ∙ ap (behind (lines_of flows Client m)) on
  goes_told flows Server m rest goes on =
      server_goes flows m (clients rest) (servers rest) goes ∙ ap (behind (lines_of flows Server m)) on

  told_on : (flows : ById Flow) (all : List Brought) → GoesOn flows all
      → on_turn flows (clients all) (servers all) ≡ all_told form interface flows all
  told_on flows [] on = refl
  told_on flows (one ∷ rest) on =
      goes_told flows one.direction one.message rest on.0 (told_on (left false flows one.direction one.message) rest on.1)

  first_told : (flows : ById Flow) (direction : Direction) (m : Msg) (rest : List Brought) → First direction rest
      → on_turn (left false flows direction m) (clients rest) (servers rest) ≡ all_told form interface (left false flows direction m) rest
      → both_turn form interface flows (clients (record { direction = direction; message = m } ∷ rest))
      (servers (record { direction = direction; message = m } ∷ rest))
      ≡ behind (lines_of flows direction m) (all_told form interface (left false flows direction m) rest)
  first_told flows Client m rest first on =
      both_one flows m (clients rest) (servers rest) ∙ ap (behind (lines_of flows Client m)) on
  first_told flows Server m rest first on =
      ap (λ u. both_turn form interface flows u (m ∷ servers rest)) first
      ∙ ap (behind (lines_of flows Server m))
      (ap (λ u. on_turn (left false flows Server m) u (servers rest)) (sym first) ∙ on)

  begins_told : (flows : ById Flow) (all : List Brought) → Begins flows all
      → both_turn form interface flows (clients all) (servers all) ≡ all_told form interface flows all
  begins_told flows [] begins = refl
  begins_told flows (one ∷ rest) begins =
      first_told flows one.direction one.message rest begins.0 (told_on (left false flows one.direction one.message) rest begins.1)

  pub order_told : (flows : ById Flow) (client server : List Msg) (all : List Brought) → IsOrder flows client server all
      → both_turn form interface flows client server ≡ all_told form interface flows all
  order_told flows client server all order =
      ap (λ u. both_turn form interface flows u server) (sym order.asked)
      ∙ ap (both_turn form interface flows (clients all)) (sym order.answered)
      ∙ begins_told flows all (begins_at flows all order.none_is_early order.none_waits)
