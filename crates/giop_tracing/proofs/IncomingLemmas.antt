-- What a direction brings, message by message.
use Rattle.std.proofs.Common.{◌≡◌, ℕ, List, [], ◌∷◌, ◌++◌, Option, Some, None, refl, sym, ap, subst, ◌∙◌, append_assoc, arith, ◌<◌, length, drop}
use Rattle.std.proofs.lemmas.List.{append-nil, drop_all}
use Rattle.std.specs.List.{flat_map}
use Rattle.std.specs.Io.KnownBytes.{Consumes, IsAtEnd, Keeps}
use Rattle.giop_msg.specs.declared.fault.WireFault.{WireFault}
use Rattle.giop_msg.specs.declared.msg.Msg.{Msg}
use Rattle.giop_msg.specs.Msg.{IsMessage, message_octets}
use Rattle.giop_msg.specs.Stream.{BeginsWithFault, BeginsWithMessage, Msgs, TakesMessage, Unread, Waits}
use Rattle.giop_msg.proofs.StreamLemmas.{each_head, each_tail, fault_stands, message_or_fault, same_message}
use Rattle.giop_tracing.specs.Trace.Incoming.{IsLast, IsNext, Passes, unheard}
use Rattle.giop_tracing.specs.Trace.Text.{AreMessages}
use Rattle.giop_show.proofs.RestLemmas.{rest_fault-none, rest_fault-stands}

-- octets that begin with a message are it and others
first_of : (limit : ℕ) (m : Msg) (more : List ℕ) (messages : List Msg) (rest : List ℕ) → IsMessage limit m
    → Msgs limit (message_octets m ++ more) messages rest → Passes limit (Some more) (λ later. m ∷ later) messages rest
first_of limit m more [] rest is split = absurd (split.partial (m, more, is, sym split.whole))
first_of limit m more (n ∷ messages) rest is split =
    let whole = split.whole ∙ append_assoc (message_octets n) (flat_map message_octets messages) rest in
    let same = same_message limit m n more (flat_map message_octets messages ++ rest) is (each_head limit n messages split.each) whole in
    record {
      later = messages;
      front = ap (λ x. x ∷ messages) (sym same.0);
      behind = record { whole = same.1; each = each_tail limit n messages split.each; partial = split.partial };
    }

-- a message that is taken off is the next one
pub is_next : (limit : ℕ) (old new : Unread) (left : Option (List ℕ)) (m : Msg) → old.limit ≡ limit → TakesMessage old m new
    → IsNext limit (unheard old left) (unheard new left) m
is_next limit old new None m same takes messages rest are = absurd are
is_next limit old new (Some left) m same takes messages rest are =
    let whole = ap (λ o. o ++ left) takes.octets ∙ append_assoc (message_octets m) new.octets left in
    first_of limit m (new.octets ++ left) messages rest (subst (λ n. IsMessage n m) same takes.is_message)
    (subst (λ o. Msgs limit o messages rest) whole are)

-- octets that are kept have the same messages
pub are_kept : (limit : ℕ) (old new : Option (List ℕ)) (messages : List Msg) (rest : List ℕ) → Keeps old new
    → AreMessages limit old messages rest → AreMessages limit new messages rest
are_kept limit None new messages rest kept are = absurd are
are_kept limit (Some old) None messages rest kept are = absurd kept
are_kept limit (Some old) (Some new) messages rest kept are = subst (λ o. Msgs limit o messages rest) (sym kept) are

pub next_kept : (limit : ℕ) (start old new : Option (List ℕ)) (m : Msg) → Keeps start old → IsNext limit old new m → IsNext limit start new m
next_kept limit start old new m kept next messages rest are = next messages rest (are_kept limit start old messages rest kept are)

pub last_kept : (limit : ℕ) (start old new : Option (List ℕ)) (fault : Option WireFault) (unread : List ℕ) → Keeps start old
    → IsLast limit old new fault unread → IsLast limit start new fault unread
last_kept limit start old new fault unread kept last messages rest are = last messages rest (are_kept limit start old messages rest kept are)

-- known octets are kept by nothing, and by what keeps them twice
pub kept_here : (known : Option (List ℕ)) → Keeps known known
kept_here None = tt
kept_here (Some xs) = refl

pub kept_on : (a b c : Option (List ℕ)) → Keeps a b → Keeps b c → Keeps a c
kept_on None b c one two = tt
kept_on (Some a) None c one two = absurd one
kept_on (Some a) (Some b) None one two = absurd two
kept_on (Some a) (Some b) (Some c) one two = two ∙ one

-- octets that are read and fed are unheard as before
pub fed_kept : (start : Option (List ℕ)) (old new : Unread) (left more : Option (List ℕ)) (piece : List ℕ) → Keeps start (unheard old left)
    → new.octets ≡ old.octets ++ piece → Consumes left more piece → Keeps start (unheard new more)
fed_kept None old new left more piece kept fed takes = tt
fed_kept (Some start) old new None more piece kept fed takes = absurd kept
fed_kept (Some start) old new (Some left) None piece kept fed takes = absurd takes
fed_kept (Some start) old new (Some left) (Some more) piece kept fed takes =
    ap (λ o. o ++ more) fed ∙ append_assoc old.octets piece more ∙ ap (λ o. old.octets ++ o) (sym takes) ∙ kept

-- no message is left where none stands at the front
none_of : (limit : ℕ) (stream : List ℕ) (messages : List Msg) (rest : List ℕ) → Msgs limit stream messages rest
    → (BeginsWithMessage limit stream → ⊥) → (messages ≡ []) × (stream ≡ rest)
none_of limit stream [] rest split none = (refl, split.whole)
none_of limit stream (m ∷ messages) rest split none =
    absurd (none (
      m,
      flat_map message_octets messages ++ rest,
      each_head limit m messages split.each,
      split.whole ∙ append_assoc (message_octets m) (flat_map message_octets messages) rest,
    ))

-- at the end of what is read, where a message and a fault are awaited
pub is_last : (limit : ℕ) (unread : Unread) (left : Option (List ℕ)) → unread.limit ≡ limit → Waits unread → IsAtEnd left
    → IsLast limit (unheard unread left) (unheard unread left) None unread.octets
is_last limit unread None same waits end messages rest are = absurd are
is_last limit unread (Some left) same waits end messages rest are =
    let all : unread.octets ++ left ≡ unread.octets = ap (λ o. unread.octets ++ o) end ∙ append-nil unread.octets in
    let split = subst (λ o. Msgs limit o messages rest) all are in
    let found = none_of limit unread.octets messages rest split (rw same at waits.no_message) in
    record {
      none = found.0;
      behind = subst (λ ms. Msgs limit (unread.octets ++ left) ms rest) found.0 are;
      ends = record {
        stands = sym (rest_fault-none limit rest (rw (same, found.1) at waits.no_fault));
        left = λ _. found.1;
      };
    }

-- at a header that is wrong
pub is_last_fault : (limit : ℕ) (unread : Unread) (left : Option (List ℕ)) (e : WireFault) → unread.limit ≡ limit
    → BeginsWithFault unread.limit unread.octets e → IsLast limit (unheard unread left) (unheard unread left) (Some e) unread.octets
is_last_fault limit unread None e same stands messages rest are = absurd are
is_last_fault limit unread (Some left) e same stands messages rest are =
    let fault = fault_stands limit unread.octets left e (rw same at stands) in
    let found = none_of limit (unread.octets ++ left) messages rest are (λ begins. message_or_fault limit (unread.octets ++ left) e begins fault) in
    record {
      none = found.0;
      behind = subst (λ ms. Msgs limit (unread.octets ++ left) ms rest) found.0 are;
      ends = record {
        stands = sym (rest_fault-stands limit rest e (rw found.1 at fault));
        left = λ is. absurd cc;
      };
    }

-- no octet stands past all of them
pub none_past : (n : ℕ) (octets : List ℕ) → length octets < n → drop n octets ≡ []
none_past n octets past = drop_all n octets (omega (arith, past))
