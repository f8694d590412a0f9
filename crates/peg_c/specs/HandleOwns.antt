-- What a handle owns.
use Rattle.std.specs.Prelude.{Option, None, Some}
use base.Fml.{Fml, feq, fex, fsep}
use denote.RattleType.{RattleType}
use denote.RawPtr.{Ptr, null_ptr}
use Rattle.std.specs.declared.alloc.Global.{Global}
use Rattle.std.specs.contracts.alloc.Global as heap
use Rattle.std.specs.contracts.impls.GlobalAllocator.TheImpl.{ghosts}
use Rattle.std_alloc.specs.Box.Ownership.{box_owns}
use Rattle.std_alloc.specs.contracts.arc.Arc as arc

-- one of the owners of a content
abbrev pub Owner : (Content : RattleType) → RattleType
Owner Content = arc.the_row Content heap.the_row ghosts

-- an owner of this content, in a box at this address
abbrev pub owner_at : (Content : RattleType) (alloc : Global) (address : Ptr) → Content.Denot
    → (Owner Content).Denot → Fml
owner_at Content alloc address content owner =
    fsep (feq Content.Denot owner.value content) (box_owns (ghosts.dealloc_token alloc) (Owner Content) address owner)

-- A handle without content is a null pointer and owns nothing. With content it owns the box at its address, which holds
-- one of the content's owners.
abbrev pub handle_owns : (Content : RattleType) (alloc : Global) (address : Ptr) → Option Content.Denot → Fml
handle_owns Content alloc address None = feq Ptr address null_ptr
handle_owns Content alloc address (Some content) = fex (Owner Content).Denot (owner_at Content alloc address content)
