-- What is at the address of a handle.
use Rattle.std.specs.Prelude.{Option, Some, None}
use base.Fml.{Fml, feq}
use denote.RawPtr.{Ptr, null_ptr}
use Rattle.std_alloc.specs.Box.Ownership.{box_owns}
use Rattle.std_heap.specs.contracts.GlobalAllocator.TheImpl.{ghosts}
use Rattle.tbl_c.specs.contracts.service.Service.{the_row}
use Rattle.tbl_c.specs.Serving.{Serving}

-- a closed handle is null; an open one owns the service in a block of the heap
abbrev pub held : Ptr → Option Serving → Fml
held p None = feq Ptr p null_ptr
held p (Some service) = box_owns (ghosts.dealloc_token (record { memory = record { seal = tt } })) the_row p service
