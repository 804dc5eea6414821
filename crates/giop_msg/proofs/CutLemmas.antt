-- Joined octets are cut into messages, which a framer reads back and which give the octets again.
use Rattle.std.proofs.Common.{◌≡◌, ℕ, ◌+◌, ◌-◌, ◌<◌, ◌≤◌, ◌^◌, ◌%◌, ◌==◌, nat_le, nat_lt, Bool, true, false, List, [], ◌∷◌, ◌++◌, length, take, drop, ◌⊎◌, inl, inr, None, refl, sym, ap, subst, ◌∙◌, append-nil, length-append, arith}
use Rattle.std.specs.List.{All, flat_map}
use Rattle.std.proofs.lemmas.List.{take-append-drop, drop_at, length-take}
use Rattle.std.proofs.lemmas.List.Elements.{All-cons, All-nil}
use Rattle.std.proofs.lemmas.Bool.Decides.{nat_tests}
use Rattle.giop_cdr.specs.declared.order.Order.{Order}
use Rattle.giop_msg.specs.declared.header.Header.{Header}
use Rattle.giop_msg.specs.declared.kind.Kind.{Kind}
use Rattle.giop_msg.specs.declared.kind.Kind.TheVariants.{Request, Reply, CancelRequest, LocateRequest, LocateReply, CloseConnection, MessageError, Fragment}
use Rattle.giop_msg.specs.declared.msg.Msg.{Msg}
use Rattle.giop_msg.specs.declared.version.Version.{Version}
use Rattle.giop_msg.specs.declared.version.Version.TheVariants.{V12}
use Rattle.giop_msg.specs.Cut.{continued, joined, is_continued, message_of, AreFragments, IsCut, CanCut, LetsThrough, CutLaws}
use Rattle.giop_msg.specs.Header.{fault_of}
use Rattle.giop_msg.specs.Msg.{head_of, message_octets, IsMessage}
use Rattle.giop_msg.specs.Stream.{BeginsWithMessage, Msgs}
use Rattle.giop_msg.specs.Version.{has_fragments}
use Rattle.giop_msg.proofs.HeaderLemmas.{header_fault-header_octets}
use Rattle.giop_msg.proofs.StreamLemmas.{length-message_octets}

-- Fragments were appended, and whatever Fragments carry what is left behind them carry all octets
pub record GoesOn (order : Order) (id : List ℕ) (piece : ℕ) (octets left : List ℕ) (before now : List Msg) : Type 0 where
  pub fragments : List Msg
  pub appended : now ≡ before ++ fragments
  pub leads : (tail : List Msg) → AreFragments order id piece left tail → AreFragments order id piece octets (fragments ++ tail)
  pub some : 0 < length left
  pub short : length left < 2 ^ 32

-- ---- the joined octets of what was cut are those that were

behind_id : (id octets : List ℕ) → length id ≡ 4 → drop 4 (id ++ octets) ≡ octets
behind_id id octets four = drop_at id octets 4 four

fragments_carry : (order : Order) (id : List ℕ) (piece : ℕ) (octets : List ℕ) (ms : List Msg) → length id ≡ 4 → AreFragments order id piece octets ms
    → flat_map continued ms ≡ octets
fragments_carry order id piece octets [] four carried = absurd carried
fragments_carry order id piece octets (m ∷ []) four carried =
    append-nil (continued m) ∙ ap continued carried.0 ∙ behind_id id octets four
fragments_carry order id piece octets (m ∷ n ∷ ms) four carried =
    ap (λ xs. xs ++ flat_map continued (n ∷ ms)) (ap continued carried.0 ∙ behind_id id (take (piece - 16) octets) four)
    ∙ ap (λ xs. take (piece - 16) octets ++ xs) (fragments_carry order id piece (drop (piece - 16) octets) (n ∷ ms) four carried.2)
    ∙ take-append-drop (piece - 16) octets

pub cut_undone : (version : Version) (kind : Kind) (order : Order) (octets : List ℕ) (piece : ℕ) (messages : List Msg) →
    CanCut kind octets piece → IsCut version kind order octets piece messages → joined messages ≡ octets
cut_undone version kind order octets piece [] can cut = absurd cut
cut_undone version kind order octets piece (m ∷ []) can cut = append-nil m.payload ∙ ap (λ (x : Msg). x.payload) cut.0
cut_undone version kind order octets piece (m ∷ n ∷ ms) can cut =
    let four : length (take 4 octets) ≡ 4 = simp length-take (omega (arith, can.id)) in
    ap (λ (x : Msg). x.payload ++ flat_map continued (n ∷ ms)) cut.0
    ∙ ap (λ xs. take (piece - 12) octets ++ xs) (fragments_carry order (take 4 octets) piece (drop (piece - 12) octets) (n ∷ ms) four cut.3)
    ∙ take-append-drop (piece - 12) octets

-- ---- each is a message

abbrev head : Version → Kind → Order → Bool → ℕ → Header
head version kind order more size = record { version = version; order = order; more = more; kind = kind; size = size }

-- one that no fragments follow
whole_sound : (limit : ℕ) (version : Version) (kind : Kind) (order : Order) (size : ℕ) → is_continued kind ≡ true → nat_lt limit size ≡ false
    → nat_le 4 size ≡ true
    → fault_of limit (head version kind order false size) ≡ None
whole_sound limit version Request order size is small room = rw (small, room) refl
whole_sound limit version Reply order size is small room = rw (small, room) refl
whole_sound limit version LocateRequest order size is small room = rw (small, room) refl
whole_sound limit version LocateReply order size is small room = rw (small, room) refl
whole_sound limit version CancelRequest order size is small room = absurd cc
whole_sound limit version CloseConnection order size is small room = absurd cc
whole_sound limit version MessageError order size is small room = absurd cc
whole_sound limit version Fragment order size is small room = absurd cc

-- a first one
first_sound : (limit : ℕ) (kind : Kind) (order : Order) (size : ℕ) → is_continued kind ≡ true → nat_lt limit size ≡ false → nat_le 4 size ≡ true
    → ((size + 12) % 8 == 0) ≡ true → fault_of limit (head V12 kind order true size) ≡ None
first_sound limit Request order size is small room even = rw (small, room, even) refl
first_sound limit Reply order size is small room even = rw (small, room, even) refl
first_sound limit LocateRequest order size is small room even = rw (small, room, even) refl
first_sound limit LocateReply order size is small room even = rw (small, room, even) refl
first_sound limit CancelRequest order size is small room even = absurd cc
first_sound limit CloseConnection order size is small room even = absurd cc
first_sound limit MessageError order size is small room even = absurd cc
first_sound limit Fragment order size is small room even = absurd cc

more_sound : (limit : ℕ) (order : Order) (size : ℕ) → nat_lt limit size ≡ false → nat_le 4 size ≡ true → ((size + 12) % 8 == 0) ≡ true
    → fault_of limit (head V12 Fragment order true size) ≡ None
more_sound limit order size small room even = rw (small, room, even) refl

last_sound : (limit : ℕ) (order : Order) (size : ℕ) → nat_lt limit size ≡ false → nat_le 4 size ≡ true
    → fault_of limit (head V12 Fragment order false size) ≡ None
last_sound limit order size small room = rw (small, room) refl

not_above : (limit size : ℕ) → size ≤ limit → nat_lt limit size ≡ false
not_above limit size within = grind (arith, nat_tests)

has_room : (size : ℕ) → 4 ≤ size → nat_le 4 size ≡ true
has_room size room = grind (arith, nat_tests)

is_even : (size piece : ℕ) → size + 12 ≡ piece → piece % 8 ≡ 0 → ((size + 12) % 8 == 0) ≡ true
is_even size piece same even = rw (same, even) refl

-- a message whose fields are sound
is_message : (limit : ℕ) (m : Msg) → length m.payload < 2 ^ 32 → fault_of limit (head_of m) ≡ None → IsMessage limit m
is_message limit m sized sound = record { sized = sized; sound = header_fault-header_octets limit (head_of m) sized ∙ sound }

whole_is_message : (limit : ℕ) (version : Version) (kind : Kind) (order : Order) (octets : List ℕ) → is_continued kind ≡ true → 4 ≤ length octets
    → length octets < 2 ^ 32 → length octets ≤ limit
    → IsMessage limit (message_of version kind order false octets)
whole_is_message limit version kind order octets is room small within =
    is_message limit (message_of version kind order false octets) small
    (whole_sound limit version kind order (length octets) is (not_above limit (length octets) within) (has_room (length octets) room))

first_is_message : (limit : ℕ) (kind : Kind) (order : Order) (octets : List ℕ) (piece : ℕ) → is_continued kind ≡ true → length octets + 12 ≡ piece
    → piece < 2 ^ 32 → 24 ≤ piece → piece % 8 ≡ 0 → piece ≤ limit + 12
    → IsMessage limit (message_of V12 kind order true octets)
first_is_message limit kind order octets piece is same small large even within =
    is_message limit (message_of V12 kind order true octets) (omega arith)
    (first_sound limit kind order (length octets) is (not_above limit (length octets) (omega arith)) (has_room (length octets) (omega arith))
    (is_even (length octets) piece same even))

more_is_message : (limit : ℕ) (order : Order) (payload : List ℕ) (piece : ℕ) → length payload + 12 ≡ piece → piece < 2 ^ 32 → 24 ≤ piece → piece % 8 ≡ 0
    → piece ≤ limit + 12
    → IsMessage limit (message_of V12 Fragment order true payload)
more_is_message limit order payload piece same small large even within =
    is_message limit (message_of V12 Fragment order true payload) (omega arith)
    (more_sound limit order (length payload) (not_above limit (length payload) (omega arith)) (has_room (length payload) (omega arith))
    (is_even (length payload) piece same even))

last_is_message : (limit : ℕ) (order : Order) (payload : List ℕ) → 4 ≤ length payload → length payload < 2 ^ 32 → length payload ≤ limit
    → IsMessage limit (message_of V12 Fragment order false payload)
last_is_message limit order payload room small within =
    is_message limit (message_of V12 Fragment order false payload) small
    (last_sound limit order (length payload) (not_above limit (length payload) within) (has_room (length payload) room))

each_fragment : (limit : ℕ) (order : Order) (id : List ℕ) (piece : ℕ) (octets : List ℕ) (ms : List Msg) → length id ≡ 4 → piece < 2 ^ 32 → 24 ≤ piece
    → piece % 8 ≡ 0 → piece ≤ limit + 12 → AreFragments order id piece octets ms → All (IsMessage limit) ms
each_fragment limit order id piece octets [] four small large even within carried = absurd carried
each_fragment limit order id piece octets (m ∷ []) four small large even within carried =
    let sizes : length (id ++ octets) ≡ 4 + length octets = length-append id octets ∙ ap (λ n. n + length octets) four in
    let last : IsMessage limit (message_of V12 Fragment order false (id ++ octets)) =
    last_is_message limit order (id ++ octets) (omega (arith, sizes)) (omega (arith, sizes, carried.2)) (omega (arith, sizes, carried.2)) in
    All-cons (IsMessage limit) m [] (subst (IsMessage limit) (sym carried.0) last) (All-nil (IsMessage limit))
each_fragment limit order id piece octets (m ∷ n ∷ ms) four small large even within carried =
    let part : length (take (piece - 16) octets) ≡ piece - 16 = simp length-take (omega (arith, carried.1)) in
    let sizes : length (id ++ take (piece - 16) octets) + 12 ≡ piece = omega (arith, length-append id (take (piece - 16) octets), four, part) in
    All-cons (IsMessage limit) m (n ∷ ms)
    (subst (IsMessage limit) (sym carried.0) (more_is_message limit order (id ++ take (piece - 16) octets) piece sizes small large even within))
    (each_fragment limit order id piece (drop (piece - 16) octets) (n ∷ ms) four small large even within carried.2)

-- a limit of which the piece is, where there are Fragments
piece_within : (limit : ℕ) (version : Version) (octets : List ℕ) (piece : ℕ) → LetsThrough limit version octets piece → piece < length octets + 12
    → piece ≤ limit + 12
piece_within limit version octets piece (inl whole) more = omega arith
piece_within limit version octets piece (inr part) more = part.1

-- one of which all octets are, where there are none
whole_within : (limit : ℕ) (version : Version) (octets : List ℕ) (piece : ℕ) → LetsThrough limit version octets piece
    → (has_fragments version ≡ false) ⊎ (length octets + 12 ≤ piece) → length octets ≤ limit
whole_within limit version octets piece (inl whole) one = whole
whole_within limit version octets piece (inr part) (inl none) = absurd (cc (sym none ∙ part.0))
whole_within limit version octets piece (inr part) (inr short) = let within : piece ≤ limit + 12 = part.1 in omega arith

each_message : (limit : ℕ) (version : Version) (kind : Kind) (order : Order) (octets : List ℕ) (piece : ℕ) (messages : List Msg) →
    CanCut kind octets piece → IsCut version kind order octets piece messages → LetsThrough limit version octets piece → All (IsMessage limit) messages
each_message limit version kind order octets piece [] can cut lets = absurd cut
each_message limit version kind order octets piece (m ∷ []) can cut lets =
    All-cons (IsMessage limit) m []
    (subst (IsMessage limit) (sym cut.0)
    (whole_is_message limit version kind order octets can.continued can.id can.short (whole_within limit version octets piece lets cut.1)))
    (All-nil (IsMessage limit))
each_message limit version kind order octets piece (m ∷ n ∷ ms) can cut lets =
    let part : length (take (piece - 12) octets) ≡ piece - 12 = simp length-take (omega (arith, cut.2)) in
    let sizes : length (take (piece - 12) octets) + 12 ≡ piece = omega (arith, part, can.large) in
    let four : length (take 4 octets) ≡ 4 = simp length-take (omega (arith, can.id)) in
    let within : piece ≤ limit + 12 = piece_within limit version octets piece lets cut.2 in
    let first : IsMessage limit (message_of V12 kind order true (take (piece - 12) octets)) =
    first_is_message limit kind order (take (piece - 12) octets) piece can.continued sizes can.fits can.large can.multiple within in
    All-cons (IsMessage limit) m (n ∷ ms)
    (subst (IsMessage limit) (sym (cut.0 ∙ ap (λ v. message_of v kind order true (take (piece - 12) octets)) cut.1)) first)
    (each_fragment limit order (take 4 octets) piece (drop (piece - 12) octets) (n ∷ ms) four can.fits can.large can.multiple within cut.3)

no_message_left : (limit : ℕ) → BeginsWithMessage limit [] → ⊥
no_message_left limit (m, more, is, e) = absurd (omega (arith, ap length e, length-append (message_octets m) more, length-message_octets m))

cut_framed : (limit : ℕ) (version : Version) (kind : Kind) (order : Order) (octets : List ℕ) (piece : ℕ) (messages : List Msg) →
    CanCut kind octets piece → IsCut version kind order octets piece messages → LetsThrough limit version octets piece →
    Msgs limit (flat_map message_octets messages) messages []
cut_framed limit version kind order octets piece messages can cut lets = record {
  whole = sym (append-nil (flat_map message_octets messages));
  each = each_message limit version kind order octets piece messages can cut lets;
  partial = no_message_left limit;
}

pub CutLaws-hold : CutLaws
CutLaws-hold = record {
  undone = cut_undone;
  framed = λ version kind order octets piece messages can cut.
      let short : length octets ≤ 2 ^ 32 - 1 = omega (arith, can.short) in
      cut_framed (2 ^ 32 - 1) version kind order octets piece messages can cut (inl short);
  within = cut_framed;
}
