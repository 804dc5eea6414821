-- What a run of `trace` comes to.
use Rattle.std.specs.Prelude.{ℕ, ◌==◌, List, Option, Some, None, if◌then◌else◌}
use Rattle.giop_msg.specs.declared.fault.WireFault.{WireFault}
use Rattle.giop_trace.specs.declared.direction.Direction.{Direction}
use Rattle.giop_forms.specs.declared.line_form.LineForm.{LineForm}
use Rattle.giop_forms.specs.declared.line_form.LineForm.TheVariants.{Text, Json}
use Rattle.giop_show.specs.declared.status.Status.{Status}
use Rattle.giop_show.specs.declared.status.Status.TheVariants.{Done, Refused, LimitPassed}
use Rattle.giop_show.specs.Status.{header_status}
use Rattle.giop_call_lines.specs.Direction.{direction_end, direction_end_json}

-- the status of a direction that ends with this fault in a header, or with so many octets left
abbrev pub direction_status : Option WireFault → ℕ → Status
direction_status (Some fault) rest = header_status fault.kind
direction_status None rest = if rest == 0 then Done else Refused

-- how a direction ends, in a line of a form
abbrev pub direction_end_in : LineForm → Direction → Option WireFault → ℕ → List ℕ
direction_end_in (Text numbers) = direction_end
direction_end_in (Json numbers) = direction_end_json

-- the status of both directions: that of the other where one is done; where neither is, a limit
-- that was passed before a refusal, and the client's before the server's
abbrev pub status_of_both : Status → Status → Status
status_of_both Done server = server
status_of_both Refused Done = Refused
status_of_both Refused (LimitPassed passed) = LimitPassed passed
status_of_both Refused _ = Refused
status_of_both client _ = client
