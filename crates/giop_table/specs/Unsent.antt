-- Messages of a call that are still to be sent.
use Rattle.std.specs.Prelude.{◌<◌, ◌^◌, List, [], ◌∷◌, length, Option, Some, None}
use Rattle.giop_msg.specs.declared.msg.Msg.{Msg}

-- the first of a list, if it has one
abbrev pub first_of : {A : Type 0} → List A → Option A
first_of [] = None
first_of (x ∷ xs) = Some x

-- each has a size that is an unsigned long, as its header wants it (CORBA 3.3 Part 2, 9.4.1)
abbrev pub AreSized : List Msg → Type 0
AreSized [] = Unit {0}
AreSized (m ∷ messages) = (length m.payload < 2 ^ 32) × AreSized messages

-- so has one of them, if there is one
abbrev pub IsSized : Option Msg → Type 0
IsSized None = Unit {0}
IsSized (Some m) = length m.payload < 2 ^ 32
