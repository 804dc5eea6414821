use Rattle.std.proofs.Common.{◌≡◌, ◌++◌, take}
use Rattle.giop_ior.specs.CorbalocWriting.{addresses_text}
use Rattle.giop_ior.proofs.addresses.corbaloc_writing.append_addresses.Given as goal

abbrev pub invariant-loop-i : goal.invariant-loop-i
invariant-loop-i l = l.text.items ≡ l.initial.text.items ++ addresses_text (take l.i l.addresses)
