use Rattle.std.proofs.Common.{◌≡◌, ◌++◌, string_bytes, drop}
use Rattle.giop_json.specs.JsonText.{text_of}
use Rattle.giop_json.proofs.texts.text_of.Given as goal

abbrev pub invariant-loop-octet : goal.invariant-loop-octet
invariant-loop-octet l = string_bytes l.text ++ text_of (drop l.octet-index l.octets) ≡ text_of l.octets
