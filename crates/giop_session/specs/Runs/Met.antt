-- What the inputs of a run are to an end, whatever it does with them: the messages that come whole,
-- and what its own program does; and those of one call.
use Rattle.std.specs.Prelude.{◌≡◌, ℕ, Bool, if◌then◌else◌, List, [], ◌∷◌, ◌++◌, map, Option, Some, None, Ok}
use Rattle.giop_msg.specs.declared.msg.Msg.{Msg}
use Rattle.giop_msg.specs.Msg.{message_octets}
use Rattle.giop_msg.specs.RequestId.{request_id_of}
use Rattle.giop_msg.specs.Stream.{TakesMessages, Unread, Waits}
use Rattle.giop_end.specs.Hearing.Feeding.{with_octets}
use Rattle.giop_session.specs.Runs.Alone.{names}
use Rattle.giop_session.specs.Runs.Driven.{is_named}

-- a message of the peer comes, or the end's own program gives this input
pub data Met (I : Type 0) : Type 0 where
  Comes : Msg → Met I
  Does : I → Met I

-- how the inputs of an end are told apart: which octets one feeds, if it feeds any; the id whose
-- call one is about, if it is about one; and the input that feeds octets
pub record Sorting (I : Type 0) : Type 0 where
  pub fed : I → Option (List ℕ)
  pub named : I → Option ℕ
  pub feeds : List ℕ → I

module _ {I : Type 0} (sorting : Sorting I) where
  -- what one input is behind unread octets, by what it feeds: the messages that are whole then, and
  -- what is left of the octets begins with no message and no fault; or itself
  abbrev pub IsMet : Unread → I → Option (List ℕ) → List (Met I) → Unread → Type 0
  IsMet unread input (Some octets) met left = (messages : List Msg)
      × TakesMessages (with_octets unread octets) messages left × Waits left
      × (met ≡ map Comes messages)
  IsMet unread input None met left = (met ≡ Does input ∷ []) × (left ≡ unread)

  -- what inputs are, one after another
  abbrev pub AreMet : Unread → List I → List (Met I) → Unread → Type 0
  AreMet unread [] met left = (met ≡ []) × (left ≡ unread)
  AreMet unread (input ∷ inputs) met left = (one rest : List (Met I)) × (mid : Unread)
      × (met ≡ one ++ rest) × IsMet unread input (sorting.fed input) one mid
      × AreMet mid inputs rest left

  -- a message names the id of a call, and an input is about one
  abbrev pub IsOfCall : Met I → Type 0
  IsOfCall (Comes m) = (id : ℕ) × (request_id_of m ≡ Some (Ok id))
  IsOfCall (Does input) = (id : ℕ) × (sorting.named input ≡ Some id)

  -- whether it is of the call of this id
  abbrev pub is_met_by : ℕ → Met I → Bool
  is_met_by id (Comes m) = names m id
  is_met_by id (Does input) = is_named id (sorting.named input)

  -- what is met of a call, in its order
  abbrev pub own_met : ℕ → List (Met I) → List (Met I)
  own_met id [] = []
  own_met id (one ∷ met) = if is_met_by id one then one ∷ own_met id met else own_met id met

  -- as an input: a message is fed whole
  abbrev pub given_as : Met I → I
  given_as (Comes m) = sorting.feeds (message_octets m)
  given_as (Does input) = input

  -- what is given to an end that is given one call alone
  abbrev pub given_alone : ℕ → List (Met I) → List I
  given_alone id met = map given_as (own_met id met)
