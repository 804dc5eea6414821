-- How `trace` tells that a direction of a connection ends, without the newline.
use Rattle.std.specs.Prelude.{ℕ, List, ◌++◌, Option, Some, None, codes}
use Rattle.std.specs.Fmt.{decimal}
use Rattle.giop_msg.specs.declared.fault.WireFault.{WireFault}
use Rattle.giop_msg.specs.Fault.{wire_kind_number, wire_fault_text}
use Rattle.giop_trace.specs.declared.direction.Direction.{Direction}
use Rattle.giop_trace.specs.declared.direction.Direction.TheVariants.{Client, Server}
use Rattle.giop_lines.specs.JsonLines.{wire_fault_json}

-- the name of a direction
abbrev pub direction_name : Direction → List ℕ
direction_name Client = codes "client"
direction_name Server = codes "server"

-- how a direction ends, with a fault in a header or with so many octets left:
--   NAME fault NUMBER NAME at PLACE, or NAME rest N
abbrev pub direction_end : Direction → Option WireFault → ℕ → List ℕ
direction_end direction (Some e) rest =
    direction_name direction ++ (codes " fault " ++ (decimal (wire_kind_number e.kind) ++
    (codes " " ++ wire_fault_text e)))
direction_end direction None rest = direction_name direction ++ (codes " rest " ++ decimal rest)

-- the same as an object of JSON: with a fault in a header, or with so many octets left
abbrev pub direction_end_json : Direction → Option WireFault → ℕ → List ℕ
direction_end_json direction (Some e) rest =
    codes "{\"end\":\"" ++ (direction_name direction ++ (codes "\",\"fault\":" ++
    (wire_fault_json e ++ codes "}")))
direction_end_json direction None rest =
    codes "{\"end\":\"" ++ (direction_name direction ++ (codes "\",\"rest\":" ++
    (decimal rest ++ codes "}")))
