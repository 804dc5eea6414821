-- What a loop of `trace` does to the calls and to the writer's contents, by the messages that are
-- not heard yet.
use Rattle.std.specs.Prelude.{◌≡◌, ℕ, Bool, List, [], ◌∷◌, ◌++◌, Option, Some, None}
use Rattle.std.specs.FinMap as finite
use Rattle.std.specs.Io.KnownBytes.{Appends}
use Rattle.giop_ids.specs.ById.{ById}
use Rattle.giop_msg.specs.declared.fault.WireFault.{WireFault}
use Rattle.giop_msg.specs.declared.msg.Msg.{Msg}
use Rattle.giop_trace.specs.declared.direction.Direction.{Direction}
use Rattle.giop_trace.specs.declared.flow.Flow.{Flow}
use Rattle.giop_trace.specs.Observing.{heard}
use Rattle.giop_types.specs.declared.interfaces.interface.Interface.{Interface}
use Rattle.giop_forms.specs.declared.line_form.LineForm.{LineForm}
use Rattle.giop_tracing.specs.declared.trace.Heard.{Heard}
use Rattle.giop_tracing.specs.declared.trace.Tracing.{Tracing}
use Rattle.giop_tracing.specs.declared.trace.incoming.Brought.{Brought}
use Rattle.giop_tracing.specs.declared.trace.incoming.Incoming.{Incoming}
use Rattle.giop_tracing.specs.Trace.Incoming.{EndsWith, IsLast, Passes, unheard}
use Rattle.giop_tracing.specs.Trace.Text.{AreMessages, Turn, both_turn, client_turn, heard_lines, is_alone, server_turn}

-- a message of the server that waits
abbrev pub waiting : Option Brought → List Msg
waiting None = []
waiting (Some brought) = brought.message ∷ []

-- the lines of a turn are written, and its calls are open
pub record Takes (turn : Turn) (old new : Option (List ℕ)) (flows : ById Flow) : Type 0 where
  pub text : Appends old new turn.lines
  pub left : flows ≡ turn.flows

-- all messages of the client are heard, which is heard alone
pub record HearsClient (form : LineForm) (interface : Interface) (before after : ById Flow)
    (old new : Option (List ℕ)) (limit : ℕ) (fault : Option WireFault) (unread : List ℕ)
    (messages : List Msg) (rest : List ℕ) : Type 0 where
  pub takes : Takes (client_turn form interface before messages) old new after
  pub ends : EndsWith limit rest fault unread

-- messages of the server are heard, to their end or up to one that waits
pub record HearsServer (form : LineForm) (interface : Interface) (waits : Bool)
    (before after : ById Flow) (old new : Option (List ℕ)) (limit : ℕ) (left : Option (List ℕ))
    (held : List Msg) (messages : List Msg) (rest : List ℕ) : Type 0 where
  pub takes : Takes (server_turn form interface waits before messages) old new after
  pub later : List Msg
  pub waiting : (server_turn form interface waits before messages).later ≡ held ++ later
  pub behind : AreMessages limit left later rest

-- all messages of both are heard
pub record HearsBoth (form : LineForm) (interface : Interface) (before after : ById Flow)
    (old new : Option (List ℕ)) (limit : ℕ) (client_fault server_fault : Option WireFault)
    (client_unread server_unread : List ℕ) (asked answered : List Msg) (rest left_over : List ℕ)
    : Type 0 where
  pub takes : Takes (both_turn form interface before asked answered) old new after
  pub client : EndsWith limit rest client_fault client_unread
  pub server : EndsWith limit left_over server_fault server_unread

-- nothing is read yet: the two directions have one limit, no message waits, and there is no call
pub record IsBegun (heard : Heard) (tracing : Tracing) : Type 0 where
  pub limit : tracing.server.framer.limit ≡ tracing.client.framer.limit
  pub client : tracing.client.framer.octets ≡ []
  pub server : tracing.server.framer.octets ≡ []
  pub held : tracing.held ≡ None
  pub calls : tracing.observer.calls.entries ≡ finite.empty
  pub alone : tracing.observer.alone ≡ is_alone heard

-- what stays of the state of a run: the form, whether the client is heard alone, and the limits
pub record SameForm (old new : Tracing) : Type 0 where
  pub form : new.form ≡ old.form
  pub alone : new.observer.alone ≡ old.observer.alone
  pub client_limit : new.client.framer.limit ≡ old.client.framer.limit
  pub server_limit : new.server.framer.limit ≡ old.server.framer.limit

-- ---- a run, before and behind a loop, by what its readers will still give and what was written,
-- where they are known

-- these messages of a direction are not heard yet, and behind them is this rest
abbrev pub AreUnheard : Incoming → Option (List ℕ) → List Msg → List ℕ → Type 0
AreUnheard direction left = AreMessages direction.framer.limit (unheard direction.framer left)

-- the lines of the calls that are over by a message
abbrev pub lines_by : Tracing → Interface → Direction → Msg → List ℕ
lines_by s interface direction m =
    heard_lines s.form interface s.observer.alone
    (heard s.observer.alone s.observer.calls.entries direction m)

-- no message of a direction is left
abbrev pub IsHeardOut : Incoming → Incoming → (left left' : Option (List ℕ)) → Type 0
IsHeardOut s t left left' =
    IsLast s.framer.limit (unheard s.framer left) (unheard t.framer left') t.fault t.framer.octets

-- a message is the next of the server: the one that waits, or else the first that is not heard
abbrev pub IsNextOfServer : Tracing → Tracing → (left left' : Option (List ℕ)) → Msg → Type 0
IsNextOfServer s t left left' m = (messages : List Msg) (rest : List ℕ)
    → AreUnheard s.server left messages rest
    → Passes s.server.framer.limit (unheard t.server.framer left') (λ later. m ∷ later)
    (waiting s.held ++ messages) rest

-- the client is heard, alone and to its end
abbrev pub ClientIsHeard : Interface → Tracing → Tracing → (left old new : Option (List ℕ))
    → Type 0
ClientIsHeard interface s t left old new = (messages : List Msg) (rest : List ℕ)
    → AreUnheard s.client left messages rest
    → HearsClient s.form interface s.observer.calls.entries t.observer.calls.entries old new
    s.client.framer.limit t.client.fault t.client.framer.octets messages rest

-- the server is heard, to its end or up to a message that waits
abbrev pub ServerIsHeard : Interface → Bool → Tracing → Tracing
    → (left left' old new : Option (List ℕ)) → Type 0
ServerIsHeard interface waits s t left left' old new = (messages : List Msg) (rest : List ℕ)
    → AreUnheard s.server left messages rest
    → HearsServer s.form interface waits s.observer.calls.entries t.observer.calls.entries old new
    s.server.framer.limit (unheard t.server.framer left') (waiting t.held)
    (waiting s.held ++ messages) rest

-- to its end
abbrev pub ServerEnds : Tracing → Tracing → (left : Option (List ℕ)) → Type 0
ServerEnds s t left = (messages : List Msg) (rest : List ℕ)
    → AreUnheard s.server left messages rest
    → EndsWith s.server.framer.limit rest t.server.fault t.server.framer.octets

-- both are heard, to their ends; messages of both have one limit
abbrev pub BothAreHeard : Interface → Tracing → Tracing → (client server old new : Option (List ℕ))
    → Type 0
BothAreHeard interface s t client server old new =
    (asked answered : List Msg) (rest left_over : List ℕ)
    → AreUnheard s.client client asked rest
    → AreMessages s.client.framer.limit (unheard s.server.framer server) answered left_over
    → HearsBoth s.form interface s.observer.calls.entries t.observer.calls.entries old new
    s.client.framer.limit t.client.fault t.server.fault t.client.framer.octets
    t.server.framer.octets asked (waiting s.held ++ answered) rest left_over
