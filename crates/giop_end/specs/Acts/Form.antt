-- How an end sends a message, and within which limits (CORBA 3.3 Part 2, 9.4.9).
use Rattle.std.specs.Prelude.{◌≡◌, ℕ, ◌+◌, ◌-◌, ◌≤◌, ◌%◌, ◌^◌, ◌&&◌, not, nat_lt, Bool, if◌then◌else◌}
use Rattle.giop_msg.specs.declared.version.Version.{Version}
use Rattle.giop_msg.specs.Version.{has_fragments}
use Rattle.giop_end.specs.declared.acts.form.Form.{Form}

-- a size of pieces that messages may be cut into
pub record IsForm (form : Form) : Type 0 where
  pub large : 24 ≤ form.piece
  pub multiple : form.piece % 8 ≡ 0

-- whether so many joined octets are sent in several messages, of this size at most
abbrev pub is_fragmented : Version → ℕ → ℕ → Bool
is_fragmented version n piece = has_fragments version && nat_lt piece (n + 12)

-- the message_size of the largest of these messages, which is the first
abbrev pub largest : Version → ℕ → ℕ → ℕ
largest version n piece = if is_fragmented version n piece then piece - 12 else n

-- whether an end sends so many joined octets: no more of them than it would gather itself, and in
-- no larger messages than it would take itself; a message has its request id, and so 4 at least
abbrev pub is_sendable : (room size : ℕ) → Version → ℕ → ℕ → Bool
is_sendable room size version n piece =
    not (nat_lt n 4) && nat_lt n (2 ^ 32) && not (nat_lt room n)
    && not (nat_lt size (largest version n piece))
