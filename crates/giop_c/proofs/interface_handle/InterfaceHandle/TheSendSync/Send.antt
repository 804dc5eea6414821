-- A handle of an interface may go to another thread, since what it holds may.
use denote.Struct.Owning.{fields, shape, to}
use denote.Struct.Struct.{exits_of}
use denote.Param.Send.{IsSend, AllSend, owning_send, sendable, struct_send}
use Rattle.std.proofs.alloc.Global.TheSendSync as heap
use Rattle.std_alloc.proofs.SendSync.{quiet}
use Rattle.giop_c.proofs.Crossing.{held_keyless}
use Rattle.giop_c.proofs.EndsCrossing.{shared_send}
use Rattle.giop_c.specs.contracts.shared.Shared as Shared
use Rattle.giop_c.specs.contracts.interface_handle.InterfaceHandle.{the_row, the_type}

pub send : IsSend the_row
send =
    let all : AllSend (fields the_type) = (search sendable, (heap.the_field_send, tt)) in
    owning_send the_type all (λ h. held_keyless Shared.the_row shared_send h.alloc h.at h.value)
    (λ k. quiet (to the_type) (exits_of k (fields the_type)) ((struct_send (shape the_type) all).leaving k))
