-- Schedules of a world: what its client refuses, and a LocateRequest that is sent and arrives.
use Rattle.std.specs.Prelude.{List, [], ◌∷◌}
use Rattle.giop_cdr.specs.declared.order.Order.TheVariants.{Big}
use Rattle.giop_session.specs.declared.laws.inputs.WorldEvent.{WorldEvent}
use Rattle.giop_session.specs.declared.laws.inputs.WorldEvent.TheVariants.{Cancel, Locate, ToServer}
use Rattle.laws_in_use.specs.Locating.{key}
use Rattle.laws_in_use.specs.Runs.{Forms}

-- a client cancels what it never called
abbrev pub unasked : List WorldEvent
unasked = Cancel 9 Big ∷ []

-- a client asks where `k` is, and all octets of that arrive
abbrev pub asked_for : Forms → List WorldEvent
asked_for forms = Locate key forms.little ∷ ToServer 100 ∷ []
