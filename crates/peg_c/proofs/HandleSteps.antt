-- Steps of walks that open and close a handle. They assume `Logic`.
use Rattle.std.proofs.Common.{◌≡◌, ℕ, List, [], ◌∷◌, ◌++◌, ap, refl, subst, sym}
use mathlib.Core.Bool.{true, ◌&&◌}
use lib.Dec.{T}
use seplogic.Ra.Ura.{Ura}
use mir.Raw.{raw as erased}
use mir.Syntax.{dnil, impl, tnil, ty_ptr}
use mir.Val.{Val, WT, has_ty, of_list, vstruct}
use base.Fraction.{full_share}
use base.Logic.{ent, fst∗, guard, guard_i, never, snd∗, via}
use types.Logic.{Logic, sem}
use contract.Monad.{fact_use}
use types.Kit.{Goal, Item, Seq, Step, step, ‵, given, learn, ◌$◌, drop, feq_i, feq_l, fjoin, fpack, fpick, fsplit}
use types.Kit.{move, use1}
use denote.Builtin.{RawPtr}
use denote.Memory.{lone}
use denote.Param.{layout}
use denote.Param.Laws.{Laws}
use denote.RattleType.{RattleType, Valss}
use denote.RawPtr.{Ptr, Testable, block_ptr, in_a_block, lies_at, null_ptr, ptr_val}
use denote.Steps.{nothing}
use denote.Struct.Owning.{shape, to}
use denote.Struct.Struct.{within}
use Rattle.core.proofs.alloc.Calls.{Al, handle_tells}
use Rattle.core.proofs.atomic.Steps.{Ptr-Good}
use Rattle.core.proofs.cell.Inside.{Good}
use Rattle.std_heap.proofs.GlobalToken.{dealloc_token-Testable}
use Rattle.std.specs.declared.option.Option.{Option}
use Rattle.std.specs.declared.option.Option.TheVariants.{None, Some}
use Rattle.std.specs.declared.alloc.Global.{Global}
use Rattle.std.specs.contracts.alloc.Global as heap
use Rattle.std.proofs.alloc.Global.TheLaws as heap_laws
use Rattle.std.specs.contracts.impls.GlobalAllocator.TheImpl.{ghosts}
use Rattle.std_alloc.specs.Box.Ownership.{box_owns}
use Rattle.peg_handle.specs.contracts.content.Content as content
use Rattle.peg_c.specs.HandleOwns.{Owner, handle_owns, owner_at}
use Rattle.peg_c.specs.contracts.handle.Handle as handle
use Rattle.peg_c.proofs.FieldPairs.{both_typed, field_pair}

-- the types of a handle, of its content, of an owner of that and of the heap
abbrev pub HandleRow : RattleType
HandleRow = handle.the_row

abbrev pub ContentRow : RattleType
ContentRow = content.the_row

abbrev pub OwnerRow : RattleType
OwnerRow = Owner ContentRow

abbrev pub Heap : RattleType
Heap = heap.the_row

abbrev pub heap_rules : Laws Heap
heap_rules = heap_laws.the_row_laws

-- the heap, for the library's steps
abbrev pub heap_allocator : Al
heap_allocator =
    record { row = Heap; laws = heap_rules; g = ghosts; d = impl [] tnil dnil; drops = impl [] tnil dnil }

-- a pointer beside a heap has the type of a handle
pub handle_typed : (address : Ptr) (heap : Val) → Good (layout Heap) heap
    → T (has_ty ty_ptr (ptr_val address) && (has_ty (layout Heap) heap && true))
    × WT (field_pair (ptr_val address) heap)
handle_typed address heap good = (
  both_typed (has_ty ty_ptr (ptr_val address)) (has_ty (layout Heap) heap) (Ptr-Good address).0 good.0,
  ((Ptr-Good address).1, (good.1, tt)),
)

module _ {M : Type 1} {𝓤 : Ura M} (𝓛 : Logic 𝓤) where
  -- the address of a box may be compared with null
  pub box_testable : (alloc : Global) (address : Ptr) (value : OwnerRow.Denot)
      → ent 𝓤 (sem 𝓛 (box_owns (ghosts.dealloc_token alloc) OwnerRow address value))
      (guard 𝓤 (Testable address) (sem 𝓛 (box_owns (ghosts.dealloc_token alloc) OwnerRow address value)))
  box_testable alloc address value =
      fact_use 𝓤 (Testable address)
      (via 𝓤 _ (snd∗ 𝓤 (sem 𝓛 (lies_at OwnerRow full_share address value))
      (sem 𝓛 (ghosts.dealloc_token alloc (erased (lone OwnerRow.mir)) address)))
      (dealloc_token-Testable 𝓛 alloc (erased (lone OwnerRow.mir)) address))
      (guard_i 𝓤 (Testable address)
      (sem 𝓛 (box_owns (ghosts.dealloc_token alloc) OwnerRow address value)))

module _ {M : Type 1} {𝓤 : Ura M} {𝓛 : Logic 𝓤} {K : Type 0} {Γ : List (Item 𝓤)} {G : Goal 𝓤 𝓛.H} where
  -- a handle gives its address, its heap and what it owns
  pub handle_open : K → (opened : HandleRow.Denot) (words : List Val)
      → ((heap : Val) → words ≡ field_pair (ptr_val opened.address) heap ∷ [] → Good (layout Heap) heap
      → Seq K 𝓛 (‵ (handle_owns ContentRow opened.alloc opened.address opened.content)
      ∷ ‵ (Heap.own_val opened.alloc (heap ∷ [])) ∷ Γ) G)
      → Seq K 𝓛 (‵ (HandleRow.own_val opened words) ∷ Γ) G
  handle_open k opened words rest =
      fsplit k $ fpick k (λ parts. fsplit k $ feq_l k (λ whole. fsplit k $ feq_l k (λ pointer. fsplit k $
      handle_tells heap_allocator k opened.alloc parts.1.0 (λ heap only good.
      move k (1 ∷ []) $ drop k $ move k (1 ∷ []) $
      rest heap
      (subst (λ (vs : List Val). words ≡ vstruct (of_list (ptr_val opened.address ∷ (vs ++ []))) ∷ []) only
      (subst (λ (ps : List Val). words ≡ vstruct (of_list (ps ++ (parts.1.0 ++ []))) ∷ []) pointer whole))
      good))))

  -- an address, a heap and what a handle owns make a handle
  pub handle_close : K → (address : Ptr) (heap : Val) (alloc : Heap.Denot) (held : Option ContentRow.Denot)
      → Step K 𝓛
      (‵ (HandleRow.own_val (record { address = address; alloc = alloc; content = held })
      (field_pair (ptr_val address) heap ∷ [])) ∷ Γ) G
      (‵ (handle_owns ContentRow alloc address held) ∷ ‵ (Heap.own_val alloc (heap ∷ [])) ∷ Γ) G
  handle_close k address heap alloc held = step (λ rest.
      let word : Val = field_pair (ptr_val address) heap in
      nothing k $ move k (2 ∷ 0 ∷ []) $
      fjoin k $ feq_i k (List Val) (ptr_val address ∷ []) (ptr_val address ∷ []) refl $
      fjoin k $ feq_i k (List Val) (word ∷ []) (word ∷ []) refl $
      fjoin k $ fpack k (Valss (RawPtr ∷ Heap ∷ []))
      (within (shape handle.the_type)
      (to handle.the_type (record { address = address; alloc = alloc; content = held })) (word ∷ []))
      (ptr_val address ∷ [], (heap ∷ [], tt)) $
      fjoin k $ rest)

  -- a box with an owner is what a handle of its content owns
  pub owner_close : K → (alloc : Global) (address : Ptr) (owner : OwnerRow.Denot)
      → Step K 𝓛 (‵ (handle_owns ContentRow alloc address (Some owner.value)) ∷ Γ) G
      (‵ (box_owns (ghosts.dealloc_token alloc) OwnerRow address owner) ∷ Γ) G
  owner_close k alloc address owner = step (λ rest.
      feq_i k ContentRow.Denot owner.value owner.value refl $ fjoin k $
      fpack k OwnerRow.Denot (owner_at ContentRow alloc address owner.value) owner $ rest)

  -- a handle is null and has no content, or it owns a box whose address may be compared with null, with an owner of the
  -- content
  pub null_or_box : K → (alloc : Global) (address : Ptr) (held : Option ContentRow.Denot)
      → (address ≡ null_ptr → held ≡ None → Seq K 𝓛 Γ G)
      → ((block offset : ℕ) (owner : OwnerRow.Denot) → address ≡ block_ptr block offset → held ≡ Some owner.value
      → Testable (block_ptr block offset)
      → Seq K 𝓛 (‵ (box_owns (ghosts.dealloc_token alloc) OwnerRow (block_ptr block offset) owner) ∷ Γ) G)
      → Seq K 𝓛 (‵ (handle_owns ContentRow alloc address held) ∷ Γ) G
  null_or_box k alloc address None if_null if_box = feq_l k (λ is_null. if_null is_null refl)
  null_or_box k alloc address (Some content) if_null if_box =
      fpick k (λ owner. fsplit k $ feq_l k (λ of_owner.
      in_a_block k address (λ place. box_owns (ghosts.dealloc_token alloc) OwnerRow place owner)
      (fst∗ 𝓤 (never 𝓤) (sem 𝓛 (ghosts.dealloc_token alloc (erased (lone OwnerRow.mir)) null_ptr)))
      (λ block offset at_block.
      let Boxed = box_owns (ghosts.dealloc_token alloc) OwnerRow (block_ptr block offset) owner in
      use1 𝓛 (given (Testable (block_ptr block offset)) (‵ Boxed))
      (box_testable 𝓛 alloc (block_ptr block offset) owner) $
      learn k (λ testable. if_box block offset owner at_block (ap (λ (c : ContentRow.Denot). Some c) (sym of_owner)) testable))))
