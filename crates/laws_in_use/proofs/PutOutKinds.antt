-- What an end puts out begins with no message of the other side; and what it answers to a close.
use Rattle.std.proofs.Common.{◌≡◌, ℕ, true, List, [], ◌∷◌, ◌++◌, ap, sym, ◌∙◌}
use Rattle.std.specs.List.{flat_map}
use Rattle.giop_msg.specs.Header.{header_octets}
use Rattle.giop_msg.specs.Kind.{kind_number}
use Rattle.giop_msg.specs.Msg.{message_octets}
use Rattle.giop_msg.specs.declared.kind.Kind.{Kind}
use Rattle.giop_msg.specs.declared.kind.Kind.TheVariants as kind
use Rattle.giop_msg.specs.declared.msg.Msg.{Msg}
use Rattle.giop_session.specs.Acts.PutOut.{AreOf, ArePutOut, is_of_client, is_of_server}
use Rattle.laws_in_use.specs.Locating.{here_big, key_little}

server_sends_other : (k : Kind) → is_of_server k ≡ true → kind_number k ≡ 3 → ⊥
server_sends_other kind.Request of is = absurd cc
server_sends_other kind.Reply of is = absurd cc
server_sends_other kind.CancelRequest of is = absurd cc
server_sends_other kind.LocateRequest of is = absurd cc
server_sends_other kind.LocateReply of is = absurd cc
server_sends_other kind.CloseConnection of is = absurd cc
server_sends_other kind.MessageError of is = absurd cc
server_sends_other kind.Fragment of is = absurd cc

client_sends_other : (k : Kind) → is_of_client k ≡ true → kind_number k ≡ 4 → ⊥
client_sends_other kind.Request of is = absurd cc
client_sends_other kind.Reply of is = absurd cc
client_sends_other kind.CancelRequest of is = absurd cc
client_sends_other kind.LocateRequest of is = absurd cc
client_sends_other kind.LocateReply of is = absurd cc
client_sends_other kind.CloseConnection of is = absurd cc
client_sends_other kind.MessageError of is = absurd cc
client_sends_other kind.Fragment of is = absurd cc

-- the kind stands in the eighth octet
unfoldable kind_in : List ℕ → ℕ
kind_in (a ∷ b ∷ c ∷ d ∷ e ∷ f ∷ g ∷ kind ∷ more) = kind
kind_in octets = 99

no_locate_request : (messages : List Msg) (out more : List ℕ) → AreOf is_of_server messages → out ≡ flat_map message_octets messages
    → out ≡ message_octets key_little ++ more → ⊥
unfolding header_octets kind_in
no_locate_request [] out more are whole is = let one = ap kind_in (sym whole ∙ is) in absurd cc
no_locate_request (m ∷ messages) out more are whole is = server_sends_other m.kind are.0 (ap kind_in (sym whole ∙ is))

no_locate_reply : (messages : List Msg) (out more : List ℕ) → AreOf is_of_client messages → out ≡ flat_map message_octets messages
    → out ≡ message_octets here_big ++ more → ⊥
unfolding header_octets kind_in
no_locate_reply [] out more are whole is = let one = ap kind_in (sym whole ∙ is) in absurd cc
no_locate_reply (m ∷ messages) out more are whole is = client_sends_other m.kind are.0 (ap kind_in (sym whole ∙ is))

pub server_puts_none : (out more : List ℕ) → ArePutOut is_of_server out → out ≡ message_octets key_little ++ more → ⊥
server_puts_none out more put = no_locate_request put.messages out more put.own put.whole

pub client_puts_none : (out more : List ℕ) → ArePutOut is_of_client out → out ≡ message_octets here_big ++ more → ⊥
client_puts_none out more put = no_locate_reply put.messages out more put.own put.whole
