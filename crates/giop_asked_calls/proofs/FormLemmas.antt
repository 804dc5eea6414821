-- Lists of calls, made one after the other.
use Rattle.std.proofs.Common.{◌≡◌, ℕ, ◌≤◌, List, length, drop, Option, Some}
use Rattle.std.proofs.Math.ListN.{drop_of_length-le}
use Rattle.serde_json.specs.View.{items_view}
use Rattle.serde_json.specs.declared.value.Value.{Value as Json}
use Rattle.giop_types.specs.declared.interfaces.interface.Interface.{Interface}
use Rattle.giop_asked_calls.specs.declared.calls.CallLine.{CallLine}
use Rattle.giop_asked_calls.specs.Forms.{each_call}
use Rattle.giop_commands.proofs.OnSession.PartLemmas.{made_before, parts_read}

-- no call is left
pub calls_read : (interface : Interface) (front : Option (List CallLine)) (ds : List Json) (i : ℕ) (total : Option (Option (List CallLine)))
    → length ds ≤ i → made_before front (each_call interface (items_view (drop i ds))) ≡ total → total ≡ Some front
calls_read interface front ds i total le so_far = parts_read front total (rw (drop_of_length-le ds le) at so_far)
