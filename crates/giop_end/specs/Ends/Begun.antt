-- An end as runs see it, and one that heard nothing.
use Rattle.std.specs.Prelude.{ℕ, List, [], Option, None}
use Rattle.std.specs.FinMap as finite
use Rattle.giop_msg.specs.Stream.{Unread}
use Rattle.giop_end.specs.declared.limits.Limits.{Limits}
use Rattle.giop_end.specs.declared.session_fault.SessionFault.{SessionFault}
use Rattle.giop_end.specs.Hearing.Feeding.{nothing_unread}
use Rattle.giop_table.specs.CallTable.{Held}

-- no calls, by this rule and within these limits
abbrev pub no_calls : {R E : Type 0} → R → Limits → Held R E
no_calls rule limits = record {
  rule = rule;
  calls = limits.calls;
  room = limits.gathered;
  table = finite.empty;
  gathered = finite.empty;
}

-- an end: the octets that are unread, its calls, the octets that are outgoing, and the fault that
-- stands
pub record EndState (H : Type 0) : Type 0 where
  pub unread : Unread
  pub calls : H
  pub outgoing : List ℕ
  pub fault : Option SessionFault

-- an end's state from its parts
abbrev pub end_state : {H : Type 0} → Unread → H → List ℕ → Option SessionFault → EndState H
end_state unread calls outgoing fault =
    record { unread = unread; calls = calls; outgoing = outgoing; fault = fault }

-- a new end, by this rule and within these limits
abbrev pub new_end : {R E : Type 0} → R → Limits → EndState (Held R E)
new_end rule limits =
    end_state (nothing_unread limits.message) (no_calls rule limits) [] None
