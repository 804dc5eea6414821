use Rattle.std.proofs.Common.{◌≡◌, ◌≤◌, bytes_eq, drop, length}
use Rattle.std.specs.Str.{chars}
use Rattle.giop_json.proofs.texts.is_text_of.Given as goal

-- so many characters are those of as many octets
abbrev pub invariant-loop-c : goal.invariant-loop-c
invariant-loop-c l =
    (l.passed ≡ length l.yielded) × (bytes_eq (drop l.passed l.octets) (drop l.passed (chars l.text)) ≡ bytes_eq l.octets (chars l.text))
    × (l.passed ≤ length l.octets)
