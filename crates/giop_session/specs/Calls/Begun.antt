-- An end that heard nothing.
use Rattle.std.specs.FinMap as finite
use Rattle.giop_session.specs.declared.limits.Limits.{Limits}
use Rattle.giop_session.specs.Calls.CallTable.{Held}

-- no calls, by this rule and within these limits
abbrev pub no_calls : {R E : Type 0} → R → Limits → Held R E
no_calls rule limits = record {
  rule = rule;
  calls = limits.calls;
  room = limits.gathered;
  table = finite.empty;
  gathered = finite.empty;
}
