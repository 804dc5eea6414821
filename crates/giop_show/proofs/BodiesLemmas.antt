-- What the bodies of messages hold, as text.
use Rattle.std.proofs.Common.{ℕ, List, codes}
use Rattle.std.proofs.lemmas.Str.{IsAscii-append}
use Rattle.std.specs.Str.{IsAscii}
use Rattle.giop_ior_text.specs.IorText.{prefixed}
use Rattle.giop_lines.proofs.OctetsLemmas.{IsAscii-encode_lower, IsAscii-ior}

-- the text of a reference has ASCII characters alone
pub IsAscii-prefixed : (octets : List ℕ) → IsAscii (prefixed octets)
IsAscii-prefixed octets = IsAscii-append (codes "IOR:") _ IsAscii-ior (IsAscii-encode_lower octets)
