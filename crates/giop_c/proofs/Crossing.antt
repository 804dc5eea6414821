-- What a handle holds says the same to every thread, where what lies behind its pointer does.
use mir.Raw.{raw}
use base.Shift.{Keyless}
use denote.Memory.{lone}
use denote.Param.Send.{IsSend}
use denote.RattleType.{RattleType}
use denote.RawPtr.{Ptr}
use Rattle.std.specs.Prelude.{Option, Some, None}
use Rattle.std.specs.declared.alloc.Global.{Global}
use Rattle.std.proofs.Crossing.{frees}
use Rattle.std_alloc.proofs.SendSync.{lies}
use Rattle.handle.specs.Held.{held_at}

pub held_keyless : (R : RattleType) → IsSend R → (heap : Global) (at : Ptr) (x : Option R.Denot)
    → Keyless (held_at heap R at x)
held_keyless R s heap at None = λ _. tt
held_keyless R s heap at (Some x) = (lies R s at x, frees.frees heap (raw (lone R.mir)) at)
