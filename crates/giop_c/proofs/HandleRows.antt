-- The rows that the walks of a handle speak of.
use denote.Param.Laws.{Laws}
use denote.RattleType.{RattleType}
use Rattle.std.specs.contracts.alloc.Global as global
use Rattle.std.proofs.alloc.Global.TheLaws as global_laws
use Rattle.std.specs.contracts.impls.GlobalAllocator.TheImpl.{ghosts}
use Rattle.handle.specs.contracts.raw_box.RawBox as raw_box
use Rattle.giop_c.specs.contracts.client.caller.Caller as caller
use Rattle.giop_c.specs.contracts.reader.Reader as reader
use Rattle.giop_c.specs.contracts.server.served.Served as served
use Rattle.giop_c.specs.contracts.shared.Shared as shared

abbrev pub Heap : RattleType
Heap = global.the_row

abbrev pub heap_laws : Laws Heap
heap_laws = global_laws.the_row_laws

-- a reader behind a pointer
abbrev pub RawReader : RattleType
RawReader = raw_box.the_row reader.the_row Heap ghosts

-- an interface behind a pointer
abbrev pub RawShared : RattleType
RawShared = raw_box.the_row shared.the_row Heap ghosts

-- a server's end behind a pointer
abbrev pub RawServed : RattleType
RawServed = raw_box.the_row served.the_row Heap ghosts

-- a client's end behind a pointer
abbrev pub RawCaller : RattleType
RawCaller = raw_box.the_row caller.the_row Heap ghosts
