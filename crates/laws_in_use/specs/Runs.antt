-- What a server's end and a client's are given in a run, what they answer, and what is said of each
-- id: the first ways of `Locating` and `Asking`, and then an entry is taken out.
use Rattle.std.specs.Prelude.{◌≡◌, ℕ, true, ◌==◌, if◌then◌else◌, List, [], ◌∷◌, ◌++◌, take, drop, Some}
use Rattle.giop_cdr.specs.declared.fault.CdrKind.TheVariants.{Short}
use Rattle.giop_cdr.specs.declared.order.Order.TheVariants.{Big, Little}
use Rattle.giop_msg.specs.Msg.{message_octets}
use Rattle.giop_msg.specs.declared.version.Version.TheVariants.{V12}
use Rattle.giop_mux.specs.Runs.{Happening, Hears, IsTaken}
use Rattle.giop_calls.specs.declared.client.call.Call.TheVariants.{Locate}
use Rattle.giop_calls.specs.declared.client.entry.ClientEntry.{ClientEntry}
use Rattle.giop_calls.specs.declared.client.entry.ClientEntry.TheVariants.{Undecoded}
use Rattle.giop_calls.specs.declared.client.event.ClientEvent.{ClientEvent}
use Rattle.giop_calls.specs.declared.client.event.ClientEvent.TheVariants as at_client
use Rattle.giop_calls.specs.declared.client.heard.HeardReply.TheVariants as replied
use Rattle.giop_calls.specs.declared.kind.CallKind.TheVariants as kind
use Rattle.giop_calls.specs.declared.server.entry.ServerEntry.{ServerEntry}
use Rattle.giop_calls.specs.declared.server.entry.ServerEntry.TheVariants.{LocateAnswered}
use Rattle.giop_calls.specs.declared.server.event.ServerEvent.{ServerEvent}
use Rattle.giop_calls.specs.declared.server.event.ServerEvent.TheVariants as at_server
use Rattle.giop_calls.specs.declared.server.heard.HeardCall.TheVariants as asked
use Rattle.giop_session.specs.declared.laws.inputs.Answered.{Answered}
use Rattle.giop_session.specs.declared.laws.inputs.Answered.TheVariants as answer
use Rattle.giop_session.specs.declared.laws.inputs.CheckedForm.{CheckedForm}
use Rattle.giop_session.specs.declared.laws.inputs.ClientInput.{ClientInput}
use Rattle.giop_session.specs.declared.laws.inputs.ClientInput.TheVariants as client
use Rattle.giop_session.specs.declared.laws.inputs.ServerInput.{ServerInput}
use Rattle.giop_session.specs.declared.laws.inputs.ServerInput.TheVariants as server
use Rattle.giop_session.specs.Items.Carries.{Did}
use Rattle.giop_session.specs.Items.ClientCarries.{ClientItem}
use Rattle.giop_session.specs.Items.ServerCarries.{ServerItem}
use Rattle.laws_in_use.specs.Asking.{here, here_begins, here_ends, short, told_of_nine, told_of_seven, unknown_little}
use Rattle.laws_in_use.specs.Locating.{bad, cancel_big, door, door_begins, door_ends, key, key_little, said_of_nine, said_of_seven}

-- octets come in four reads; before the last the server answers that `door` is here, and at the end
-- it takes that entry out
abbrev pub server_given : List ServerInput
server_given =
    server.Feed (take 5 (message_octets door_begins))
    ∷ server.Feed (drop 5 (message_octets door_begins) ++ message_octets key_little
    ++ take 7 (message_octets door_ends))
    ∷ server.Feed (drop 7 (message_octets door_ends) ++ message_octets cancel_big)
    ∷ server.AnswerLocate 7 true Big
    ∷ server.Feed (message_octets bad)
    ∷ server.Take 7
    ∷ []

-- in another order, where what is said of 9 comes around the first piece of 7
abbrev pub server_given_otherwise : List ServerInput
server_given_otherwise =
    server.Feed (message_octets key_little)
    ∷ server.Feed (message_octets door_begins ++ message_octets cancel_big)
    ∷ server.Feed (message_octets bad ++ message_octets door_ends)
    ∷ server.AnswerLocate 7 true Big
    ∷ server.Take 7
    ∷ []

-- it answers that each is done, and the entry that it took out
abbrev pub door_taken : Answered ServerEntry
door_taken = answer.Taken (Some (LocateAnswered (Some door.target) true))

-- one for each, in their order
abbrev pub server_answers : List (Answered ServerEntry)
server_answers =
    answer.Done ∷ answer.Done ∷ answer.Done ∷ answer.Done ∷ answer.Done ∷ door_taken ∷ []

-- what the server's table is told of 7: `door` is asked for in two pieces, which are read together,
-- it is answered, and the entry is taken out
abbrev pub history_of_door : List (Happening ServerEvent)
history_of_door =
    Hears (at_server.First kind.Locate)
    ∷ Hears (at_server.Last true (asked.Locate door))
    ∷ Hears (at_server.AnswerLocate true)
    ∷ IsTaken
    ∷ []

-- what that says of 7
abbrev pub said_and_taken : List ServerItem
said_and_taken = said_of_seven ++ Did IsTaken ∷ []

-- and of any id
abbrev pub server_said : ℕ → List ServerItem
server_said id = if id == 7 then said_and_taken else if id == 9 then said_of_nine else []

-- forms in which a client sends: in pieces of 24 octets, and in one message in either byte order
pub record Forms : Type 0 where
  pub cut : CheckedForm
  pub little : CheckedForm
  pub big : CheckedForm
  pub cut_is : cut.form ≡ record { order = Big; piece = 24 }
  pub little_is : little.form ≡ record { order = Little; piece = 64 }
  pub big_is : big.form ≡ record { order = Big; piece = 64 }

-- a client asks where `door` is, and where `k` is, and cancels that; it sends the second piece of
-- the first, and asks for the other again; at the end it takes that entry out
abbrev pub client_given : Forms → List ClientInput
client_given forms =
    client.Locate door forms.cut
    ∷ client.Locate key forms.little
    ∷ client.Cancel 9 Little
    ∷ client.Feed (take 5 (message_octets here_begins))
    ∷ client.Send 7
    ∷ client.Feed (drop 5 (message_octets here_begins) ++ message_octets unknown_little
    ++ take 7 (message_octets here_ends))
    ∷ client.Locate key forms.big
    ∷ client.Feed (drop 7 (message_octets here_ends) ++ message_octets short)
    ∷ client.Take 9
    ∷ []

-- it answers that each is done, and the entry that it took out
abbrev pub key_taken : Answered ClientEntry
key_taken = answer.Taken (Some (Undecoded (Locate key) (record { at = 16; kind = Short })))

-- one for each, in their order
abbrev pub client_answers : List (Answered ClientEntry)
client_answers =
    answer.Done ∷ answer.Done ∷ answer.Done ∷ answer.Done ∷ answer.Done ∷ answer.Done
    ∷ answer.Done ∷ answer.Done ∷ key_taken ∷ []

-- what the client's table is told of 7: it asks for `door` in two pieces, and is answered in two
abbrev pub history_of_asking : List (Happening ClientEvent)
history_of_asking =
    Hears (at_client.Call (Locate door) 2)
    ∷ Hears at_client.Send
    ∷ Hears (at_client.First kind.Locate V12)
    ∷ Hears (at_client.Last true (replied.Locate here))
    ∷ []

-- what that says of 9
abbrev pub told_and_taken : List ClientItem
told_and_taken = told_of_nine ++ Did IsTaken ∷ []

-- and of any id
abbrev pub client_told : ℕ → List ClientItem
client_told id = if id == 7 then told_of_seven else if id == 9 then told_and_taken else []
