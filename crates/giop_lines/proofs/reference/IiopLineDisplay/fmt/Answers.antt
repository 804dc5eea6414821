use Rattle.giop_lines.proofs.reference.IiopLineDisplay.fmt.Goals as goal

pub returns-clause-writes : goal.returns-clause-writes
returns-clause-writes g c = λ plain ok.
    rw (← c.as_slice.ensures, ← c.as_slice-2.ensures, ← c.len-components.ensures) (c.write.ensures.writes plain ok)
