-- `null` makes a handle with a null pointer.
use Rattle.std.proofs.Common.{◌≡◌, List, [], ◌∷◌, ◌++◌, refl, subst, sym}
use mir.Val.{Val}
use base.Fml.{ftrue}
use base.Logic.{SProp, emp, ent, id⊢}
use prog.Wp.{WpFn}
use types.Kit.{‵, raw, ◌⊛◌, ◌$◌, ◌∵◌, !, by, feq_i, fjoin, fsplit, keep, move, qed, split, suffices, use0}
use types.Run.{and_then, enter, lit, no_more, of_opd, returns}
use types.ByLocal.{alloc_all, free_all, get, look_at, pass_all, sets}
use types.Part.{agg}
use contract.Monad.{fact, fact_i}
use contract.Running.{tables}
use denote.Exit.{yes}
use denote.RattleType.{owns}
use denote.RawPtr.{Ptr, null_ptr, ptr_val}
use denote.Signature.{plain, types_at}
use denote.Steps.{nothing}
use denote.Triple.Walked.{Goes-dropped, Stays, stay_dropped, walk_of}
use Rattle.core.proofs.alloc.Calls.{handle_tells}
use Rattle.core.proofs.atomic.Steps.{Ptr-Good}
use Rattle.std.proofs.raw_atomic.Walks.{leaves, proved_at}
use Rattle.std.specs.declared.option.Option.{Option}
use Rattle.std.specs.declared.option.Option.TheVariants.{None}
use Rattle.peg_handle.specs.declared.content.Content.{Content}
use Rattle.peg_c.proofs.FieldPairs.{field_pair}
use Rattle.peg_c.proofs.HandleSteps.{Heap, handle_close, handle_typed, heap_allocator}
use Rattle.peg_c.specs.contracts.handle.Handle.null.{clauses, ended}
use Rattle.peg_c.specs.contracts.handle.Handle.null.Key.{name as #self}
use Rattle.peg_c.proofs.handle.Handle.null.Statement.{statement}
use Rattle.peg_c.proofs.handle.Handle.null.Code as code

pub null_spec : {M : Type 1} → statement M
null_spec 𝓤 𝓛 𝓜 𝓡 wired =
    let H = 𝓛.H in
    let 𝓣 = tables 𝓤 H 𝓜 𝓡 𝓡.env in
    let contract = clauses 𝓛 𝓜.mem 𝓡.returns in
    let body = code.function in
    let stays : Stays ended.signature.params ended.kept = (stay_dropped (plain (λ _. Heap)) yes, tt) in
    proved_at 𝓛 ended stays contract 𝓜 𝓡 (Goes-dropped 𝓛 0 (plain (λ _. Heap)) yes (λ κs x f. refl), tt) #self body
    (code.unfolded 𝓤 H 𝓜 𝓡 wired) (λ call are.
    let κs = call.0.0 in
    let alloc = call.0.3.0 in
    let Post : Val → SProp 𝓤 = (walk_of 𝓛 ended stays contract).post call in
    let Runs : List Val → SProp 𝓤 = λ args. WpFn 𝓤 H 𝓣.C 𝓣.Λ body args Post in
    let empty : Option Content = None in
    qed 𝓛 ((‵ ftrue ⊛ ‵ (owns (types_at ended.signature.params κs) call.0.3 call.0.4))
    ∷ raw ((contract κs call.0.3).requires call.1) ∷ []) ∵
    split ! $ move ! (1 ∷ []) $ fsplit ! $
    handle_tells heap_allocator ! alloc call.0.4.0 (λ heap only good.
    suffices ! (Runs (heap ∷ []))
    (subst (λ (args : List Val). ent 𝓤 (Runs (heap ∷ [])) (Runs args)) (sym (λ i. only i ++ []))
    (id⊢ 𝓤 (Runs (heap ∷ [])))) $
    -- the pointer, and the struct
    enter ! 𝓣.C 𝓣.Λ body (heap ∷ []) Post $ alloc_all ! (λ l. pass_all ! refl (good, tt) $
    sets ! (of_opd ! (lit ! tt)) refl (Ptr-Good null_ptr) $
    sets ! (agg ! (and_then ! (get ! refl) (and_then ! (get ! refl) (no_more !)))) refl
    (handle_typed null_ptr heap good) $
    -- a null handle owns nothing
    move ! (0 ∷ []) $ feq_i ! Ptr null_ptr null_ptr refl $ handle_close ! null_ptr heap alloc None $
    use0 𝓛 (raw (fact 𝓤 (empty ≡ empty))) (fact_i 𝓤 (empty ≡ empty) (emp 𝓤) refl) $
    nothing ! $ nothing ! $ fjoin ! $
    returns ! (look_at ! 0 refl) $ free_all ! refl $ keep ! (3 ∷ 0 ∷ 2 ∷ 1 ∷ []) $
    by ! (leaves 𝓛 ended stays contract call (field_pair (ptr_val null_ptr) heap)
    (record { address = null_ptr; alloc = alloc; content = None }) (tt, tt) (tt, tt)))))
