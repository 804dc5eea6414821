-- What stays of an end apart from its interface that changes.
use Rattle.std.specs.Prelude.{◌≡◌}
use Rattle.giop_end.specs.declared.end.detached.Detached.{Detached}

module _ {R E V A F : Type 0} where
  -- an act of its own program changes its calls and what is outgoing, and all else stays
  abbrev pub IsActedOn : (old new : Detached R E V A F) → Type 0
  IsActedOn old new = new ≡ record old { calls = new.calls; outgoing = new.outgoing }

  -- feeding changes what is unread, the calls and the fault, and all else stays
  abbrev pub IsFedOnly : (old new : Detached R E V A F) → Type 0
  IsFedOnly old new =
      new ≡ record old { framer = new.framer; calls = new.calls; fault = new.fault }
