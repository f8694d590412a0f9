-- Steps of walks that open and close a `RawBox`. They assume `Logic`.
use Rattle.std.proofs.Common.{◌≡◌, ℕ, List, [], ◌∷◌, ◌++◌, refl, subst}
use mathlib.Core.Bool.{true, ◌&&◌}
use lib.Dec.{T}
use seplogic.Ra.Ura.{Ura}
use mir.Raw.{raw as erased}
use mir.Syntax.{impl, tnil, dnil}
use mir.Val.{Val, WT, has_ty, of_list, vptr, vstruct}
use base.Logic.{fst∗, never}
use types.Logic.{Logic, sem}
use types.Kit.{Goal, Item, Seq, Step, step, ‵, ◌$◌, drop, feq_i, feq_l, fjoin, fpack, fpick, fsplit, move}
use denote.Builtin.{RawPtr}
use denote.Memory.{lone}
use denote.Param.{layout}
use denote.Param.Laws.{Laws}
use denote.RattleType.{RattleType, Valss}
use denote.RawPtr.{Ptr, block_ptr, in_a_block, null_ptr, ptr_val}
use denote.Steps.{nothing}
use denote.Struct.Owning.{shape}
use denote.Struct.Struct.{within}
use Rattle.core.specs.declared.alloc.Allocator.{Ghosts}
use Rattle.core.proofs.alloc.Calls.{Al, handle_tells}
use Rattle.core.proofs.cell.Inside.{Good}
use Rattle.std_alloc.specs.Box.Ownership.{box_owns}
use Rattle.std_alloc.proofs.ResultValues.{and_tt}
use Rattle.peg_c.proofs.FieldPairs.{field_pair}
use Rattle.peg_c.specs.contracts.raw_box.RawBox as raw_box

-- the value's type is `Value`, and the allocator's is `Alloc`
module _ (Value Alloc : RattleType) (laws : Laws Alloc) (ghosts : Ghosts Alloc.Denot) where
  abbrev pub RawBox : RattleType
  RawBox = raw_box.the_row Value Alloc ghosts

  -- the allocator, for the library's steps
  abbrev allocator : Al
  allocator =
      record { row = Alloc; laws = laws; g = ghosts; d = impl [] tnil dnil; drops = impl [] tnil dnil }

  -- a pointer into a block beside an allocator has the type of a `RawBox`
  pub raw_box_typed : (block offset : ℕ) (handle : Val) → Good (layout Alloc) handle
      → T (has_ty (layout Alloc) handle && true) × WT (field_pair (vptr block offset) handle)
  raw_box_typed block offset handle good =
      (and_tt (has_ty (layout Alloc) handle) good.0, (tt, (good.1, tt)))

  module _ {M : Type 1} {𝓤 : Ura M} {𝓛 : Logic 𝓤} {K : Type 0} {Γ : List (Item 𝓤)} {G : Goal 𝓤 𝓛.H} where
    -- a `RawBox` gives its pointer, its allocator and the box at the pointer
    pub raw_box_open : K → (raw : RawBox.Denot) (words : List Val)
        → ((block offset : ℕ) (handle : Val) → raw.address ≡ block_ptr block offset
        → words ≡ field_pair (vptr block offset) handle ∷ [] → Good (layout Alloc) handle
        → Seq K 𝓛 (‵ (box_owns (ghosts.dealloc_token raw.alloc) Value (block_ptr block offset) raw.value)
        ∷ ‵ (Alloc.own_val raw.alloc (handle ∷ [])) ∷ Γ) G)
        → Seq K 𝓛 (‵ (RawBox.own_val raw words) ∷ Γ) G
    raw_box_open k raw words rest =
        fsplit k $ fpick k (λ parts. fsplit k $ feq_l k (λ whole. fsplit k $ feq_l k (λ pointer. fsplit k $
        handle_tells allocator k raw.alloc parts.1.0 (λ handle only good.
        move k (1 ∷ []) $ drop k $ move k (1 ∷ []) $
        in_a_block k raw.address (λ place. box_owns (ghosts.dealloc_token raw.alloc) Value place raw.value)
        (fst∗ 𝓤 (never 𝓤) (sem 𝓛 (ghosts.dealloc_token raw.alloc (erased (lone Value.mir)) null_ptr)))
        (λ block offset at_block.
        rest block offset handle at_block
        (subst (λ (place : Ptr). words ≡ vstruct (of_list (ptr_val place ∷ handle ∷ [])) ∷ []) at_block
        (subst (λ (vs : List Val). words ≡ vstruct (of_list (ptr_val raw.address ∷ (vs ++ []))) ∷ []) only
        (subst (λ (ps : List Val). words ≡ vstruct (of_list (ps ++ (parts.1.0 ++ []))) ∷ []) pointer whole)))
        good)))))

    -- the box at a pointer, and its allocator, make a `RawBox`
    pub raw_box_close : K → (block offset : ℕ) (handle : Val) (alloc : Alloc.Denot) (value : Value.Denot)
        → Step K 𝓛
        (‵ (RawBox.own_val (record { address = block_ptr block offset; alloc = alloc; value = value })
        (field_pair (vptr block offset) handle ∷ [])) ∷ Γ) G
        (‵ (box_owns (ghosts.dealloc_token alloc) Value (block_ptr block offset) value)
        ∷ ‵ (Alloc.own_val alloc (handle ∷ [])) ∷ Γ) G
    raw_box_close k block offset handle alloc value = step (λ rest.
        let word : Val = field_pair (vptr block offset) handle in
        nothing k $ move k (2 ∷ 0 ∷ []) $
        fjoin k $ feq_i k (List Val) (vptr block offset ∷ []) (vptr block offset ∷ []) refl $
        fjoin k $ feq_i k (List Val) (word ∷ []) (word ∷ []) refl $
        fjoin k $ fpack k (Valss (RawPtr ∷ Alloc ∷ []))
        (within (shape (raw_box.the_type Value Alloc ghosts)) (block_ptr block offset, (alloc, tt)) (word ∷ []))
        (vptr block offset ∷ [], (handle ∷ [], tt)) $
        fjoin k $ rest)
