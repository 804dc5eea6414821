-- What a run of `trace` comes to.
use Rattle.std.specs.Prelude.{ℕ, ◌==◌, Option, Some, None, if◌then◌else◌}
use Rattle.giop_msg.specs.declared.fault.WireFault.{WireFault}
use Rattle.giopctl.specs.declared.status.Status.{Status}
use Rattle.giopctl.specs.declared.status.Status.TheVariants.{Done, Refused}

-- the status of a direction that ends with this fault in a header, or with so many octets left
abbrev pub direction_status : Option WireFault → ℕ → Status
direction_status (Some fault) rest = Refused
direction_status None rest = if rest == 0 then Done else Refused
