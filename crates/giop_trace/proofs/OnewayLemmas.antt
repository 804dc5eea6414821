-- A Request of 1.2 whose flags ask for a reply is no oneway, whatever stands behind them.
use Rattle.std.proofs.Common.{◌≡◌, ℕ, ◌==◌, Bool, true, false, not, if◌then◌else◌, Ok, Err, IfOk, refl}
use Rattle.std.specs.Int.{w8, w32}
use Rattle.giop_cdr.specs.declared.fault.CdrFault.{CdrFault}
use Rattle.giop_cdr.specs.Layout.{Layout, field, gives, number, such}
use Rattle.giop_cdr.specs.Reading.Cursor.{Cursor}
use Rattle.giop_cdr.specs.Reading.Values.{◌>>=◌, Reading, number_at, such_at}
use Rattle.giop_msg.specs.declared.kind.Kind.TheVariants.{Request}
use Rattle.giop_msg.specs.declared.msg.Msg.{Msg}
use Rattle.giop_msg.specs.declared.version.Version.{Version}
use Rattle.giop_msg.specs.declared.version.Version.TheVariants.{V10, V11, V12}
use Rattle.giop_msg.specs.Joined.{body_place, head_of_joined, joined_from}
use Rattle.giop_msg.specs.RequestHead.{Head, is_response_flags, request_head, request_head_1_2, response_flags}
use Rattle.giop_trace.specs.Flows.{is_oneway, is_oneway_by}

-- a reading of a head with these flags, and a layout whose readings all are
abbrev HasFlags : ℕ → Head × Cursor → Type 0
HasFlags flags head = head.0.flags ≡ flags

abbrev KeepsFlags : ℕ → Layout Head → Type 0
KeepsFlags flags f = (c : Cursor) → IfOk (f.read c) (HasFlags flags)

behind : {B : Type 0} (flags : ℕ) (first : Reading B) (next : B × Cursor → Reading Head)
    → ((x : B × Cursor) → IfOk (next x) (HasFlags flags)) → IfOk (first >>= next) (HasFlags flags)
behind flags (Ok x) next all = all x
behind flags (Err e) next all = tt

-- fields behind the flags
field_keeps : {B : Type 0} (part : Head → B) (f : Layout B) (g : B → Layout Head) (flags : ℕ)
    → ((x : B) → KeepsFlags flags (g x)) → KeepsFlags flags (field part f g)
unfolding field
field_keeps part f g flags all c = behind flags (f.read c) (λ x. (g x.0).read x.1) (λ x. all x.0 x.1)

gives_keeps : (head : Head) → KeepsFlags head.flags (gives head)
unfolding gives
gives_keeps head c = refl

-- the flags as they are read, which may be refused
behind_such : (flags : ℕ) (refused : Bool) (e : CdrFault) (x : ℕ × Cursor) (next : ℕ × Cursor → Reading Head)
    → IfOk (next x) (HasFlags flags) → IfOk ((if refused then Err e else Ok x) >>= next) (HasFlags flags)
behind_such flags true e x next found = tt
behind_such flags false e x next found = found

first_fields : (g : ℕ → ℕ → Layout Head) (c : Cursor) (id : ℕ) (c2 : Cursor) (flags : ℕ) (c3 : Cursor)
    → number_at w32 c ≡ Ok (id, c2) → number_at w8 c2 ≡ Ok (flags, c3) → KeepsFlags flags (g id flags)
    → IfOk ((field (λ head. head.id) (number w32) λ id. field (λ head. head.flags) response_flags λ flags. g id flags).read c) (HasFlags flags)
unfolding field response_flags such such_at number
first_fields g c id c2 flags c3 first second keeps = rw (first, second)
    (behind_such flags (not (is_response_flags flags)) _ (flags, c3) (λ x. (g id x.0).read x.1) (keeps c3))

flags_are : (c : Cursor) (id : ℕ) (c2 : Cursor) (flags : ℕ) (c3 : Cursor)
    → number_at w32 c ≡ Ok (id, c2) → number_at w8 c2 ≡ Ok (flags, c3) → IfOk (request_head_1_2.read c) (HasFlags flags)
unfolding request_head_1_2
flags_are c id c2 flags c3 first second =
    first_fields _ c id c2 flags c3 first second
    (field_keeps _ _ _ flags λ _. field_keeps _ _ _ flags λ _. field_keeps _ _ _ flags λ _. field_keeps _ _ _ flags λ _. gives_keeps _)

not_zero : (b : Bool) → not b ≡ true → b ≡ false
not_zero true asks = absurd cc
not_zero false asks = refl

of_head : (place : ℕ → ℕ) (read : Reading Head) (flags : ℕ) → IfOk read (HasFlags flags)
    → not (flags == 0) ≡ true → is_oneway_by (read >>= λ head. Ok (head.0, place head.1.at)) ≡ false
of_head place (Ok head) flags is asks = rw is (not_zero (flags == 0) asks)
of_head place (Err e) flags is asks = refl

asks_by : (version : Version) (m : Msg) (id : ℕ) (c2 : Cursor) (flags : ℕ) (c3 : Cursor) → version ≡ V12
    → number_at w32 (joined_from m.order m.payload) ≡ Ok (id, c2) → number_at w8 c2 ≡ Ok (flags, c3)
    → not (flags == 0) ≡ true
    → is_oneway_by (head_of_joined (request_head version) (body_place version) m.order m.payload) ≡ false
unfolding head_of_joined request_head
asks_by V12 m id c2 flags c3 is first second asks =
    of_head (body_place V12) _ flags (flags_are (joined_from m.order m.payload) id c2 flags c3 first second) asks
asks_by V10 m id c2 flags c3 is first second asks = absurd cc
asks_by V11 m id c2 flags c3 is first second asks = absurd cc

-- flags other than 0 behind the id
pub asks_for_reply : (m : Msg) (id : ℕ) (c2 : Cursor) (flags : ℕ) (c3 : Cursor) → m.version ≡ V12
    → number_at w32 (joined_from m.order m.payload) ≡ Ok (id, c2) → number_at w8 c2 ≡ Ok (flags, c3)
    → not (flags == 0) ≡ true → is_oneway Request m ≡ false
asks_for_reply m id c2 flags c3 is first second asks = asks_by m.version m id c2 flags c3 is first second asks
