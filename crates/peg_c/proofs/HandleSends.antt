-- A handle may go to another thread if its content may, and may be read by several: it owns a box with an owner of the
-- content.
use Rattle.std.specs.Prelude.{Option, None, Some}
use mir.Raw.{raw as erased}
use base.Shift.{Keyless}
use denote.Memory.{lone}
use denote.RawPtr.{Ptr}
use denote.Struct.Owning.{fields, shape, to}
use denote.Struct.Struct.{exits_of}
use denote.Param.Send.{AllSend, IsSend, IsSync, owning_send, sendable, struct_send}
use Rattle.std.proofs.Crossing.{Arc-send, crosses, frees}
use Rattle.std.specs.declared.alloc.Global.{Global}
use Rattle.std_alloc.proofs.SendSync.{lies, quiet}
use Rattle.peg_c.specs.HandleOwns.{handle_owns}
use Rattle.peg_c.specs.contracts.handle.Handle.{the_row, the_type}
use Rattle.peg_c.proofs.HandleSteps.{ContentRow, OwnerRow}

-- what a handle owns names no thread
owned : IsSend OwnerRow → (alloc : Global) (address : Ptr) (held : Option ContentRow.Denot)
    → Keyless (handle_owns ContentRow alloc address held)
owned sends alloc address None = tt
owned sends alloc address (Some content) =
    λ owner. (tt, (lies OwnerRow sends address owner, frees.frees alloc (erased (lone OwnerRow.mir)) address))

all : AllSend (fields the_type)
all = (search sendable, (search (sendable, crosses), tt))

pub handle_send : IsSend ContentRow → IsSync ContentRow → IsSend the_row
handle_send sends syncs =
    owning_send the_type all (λ handle. owned (Arc-send ContentRow sends syncs) handle.alloc handle.address handle.content)
    (λ k. quiet (to the_type) (exits_of k (fields the_type)) ((struct_send (shape the_type) all).leaving k))
