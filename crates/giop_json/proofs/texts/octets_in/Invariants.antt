use Rattle.std.proofs.Common.{◌≡◌, ◌++◌, option_map, length, drop}
use Rattle.std.specs.Str.{chars}
use Rattle.giop_json.specs.JsonText.{octets_of_chars}
use Rattle.giop_json.proofs.texts.octets_in.Given as goal

abbrev pub invariant-loop-c : goal.invariant-loop-c
invariant-loop-c l = option_map (λ more. l.octets.items ++ more) (octets_of_chars (drop (length l.yielded) (chars l.text))) ≡ octets_of_chars (chars l.text)
