-- What a loop of `trace` does to the calls and to the writer's contents, by the messages that are not
-- heard yet.
use Rattle.std.specs.Prelude.{◌≡◌, ℕ, Bool, List, [], ◌∷◌, ◌++◌, Option, Some, None}
use Rattle.std.specs.Io.KnownBytes.{Appends}
use Rattle.giop_ids.specs.ById.{ById}
use Rattle.giop_msg.specs.declared.fault.WireFault.{WireFault}
use Rattle.giop_msg.specs.declared.msg.Msg.{Msg}
use Rattle.giop_trace.specs.declared.flow.Flow.{Flow}
use Rattle.giop_types.specs.declared.json.interface.Interface.{Interface}
use Rattle.giop_show.specs.declared.form.LineForm.{LineForm}
use Rattle.giop_show.specs.declared.trace.Tracing.{Tracing}
use Rattle.giop_show.specs.declared.trace.incoming.Brought.{Brought}
use Rattle.giop_show.specs.Incoming.{EndsWith}
use Rattle.giop_show.specs.TracedText.{AreMessages, Turn, both_turn, client_turn, server_turn}

-- a message of the server that waits
abbrev pub waiting : Option Brought → List Msg
waiting None = []
waiting (Some brought) = brought.message ∷ []

-- the lines of a turn are written, and its calls are open
pub record Takes (turn : Turn) (old new : Option (List ℕ)) (flows : ById Flow) : Type 0 where
  pub text : Appends old new turn.lines
  pub left : flows ≡ turn.flows

-- all messages of the client are heard, which is heard alone
pub record HearsClient (form : LineForm) (interface : Interface) (before after : ById Flow)
    (old new : Option (List ℕ)) (limit : ℕ) (fault : Option WireFault) (unread : List ℕ)
    (messages : List Msg) (rest : List ℕ) : Type 0 where
  pub takes : Takes (client_turn form interface before messages) old new after
  pub ends : EndsWith limit rest fault unread

-- messages of the server are heard, to their end or up to one that waits
pub record HearsServer (form : LineForm) (interface : Interface) (waits : Bool)
    (before after : ById Flow) (old new : Option (List ℕ)) (limit : ℕ) (left : Option (List ℕ))
    (held : List Msg) (messages : List Msg) (rest : List ℕ) : Type 0 where
  pub takes : Takes (server_turn form interface waits before messages) old new after
  pub later : List Msg
  pub waiting : (server_turn form interface waits before messages).later ≡ held ++ later
  pub behind : AreMessages limit left later rest

-- all messages of both are heard
pub record HearsBoth (form : LineForm) (interface : Interface) (before after : ById Flow)
    (old new : Option (List ℕ)) (limit : ℕ) (client_fault server_fault : Option WireFault)
    (client_unread server_unread : List ℕ) (asked answered : List Msg) (rest left_over : List ℕ)
    : Type 0 where
  pub takes : Takes (both_turn form interface before asked answered) old new after
  pub client : EndsWith limit rest client_fault client_unread
  pub server : EndsWith limit left_over server_fault server_unread

-- what stays of the state of a run: the form, whether the client is heard alone, and the limits
pub record SameForm (old new : Tracing) : Type 0 where
  pub form : new.form ≡ old.form
  pub alone : new.observer.alone ≡ old.observer.alone
  pub client_limit : new.client.framer.limit ≡ old.client.framer.limit
  pub server_limit : new.server.framer.limit ≡ old.server.framer.limit
