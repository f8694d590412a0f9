-- `from_box` calls the library's function, and keeps the pointer with the box that it owns.
use Rattle.std.proofs.Common.{◌≡◌, List, [], ◌∷◌, ◌++◌, ◌∙◌, ap, refl, subst, sym}
use mir.MapTy.{inst_fn}
use mir.Raw.{raw as erased}
use mir.Syntax.{a_type, dcons, dnil}
use mir.Val.{Val, of_list, vptr, vstruct}
use base.Fml.{flft, fsep, ftrue}
use base.Logic.{SProp, emp, ent, fst∗, id⊢, never}
use prog.Wp.{WpFn}
use types.Logic.{sem}
use types.Kit.{‵, raw, ◌⊛◌, some, later, ◌$◌, ◌∵◌, !, await, by, drop, feq_l, fjoin, fpick, fsplit, join, keep, move}
use types.Kit.{pick, qed, rewrite, split, split3, suffices, use0, use1}
use types.Run.{and_then, enter, fld, no_more, of_opd, returns, stop}
use types.ByLocal.{alloc_all, free_all, get, get_in, lands_as, look_at, pass_all, sets}
use types.Part.{agg, sub, whole}
use contract.Monad.{fact, fact_i}
use contract.Running.{tables}
use denote.Builtin.{RawPtr}
use denote.Exit.{no}
use denote.Param.{bounded, layout, param}
use denote.Param.Laws.{param_laws}
use denote.RattleType.{RattleType, owns}
use denote.RawPtr.{Ptr, block_ptr, in_a_block, null_ptr, ptr_val}
use denote.Signature.{plain, types_at}
use denote.Steps.{heard, nothing, only}
use denote.Struct.Tuple.{Tuple}
use denote.Triple.Call.{calls_at}
use denote.Triple.Spec.{triple_of}
use denote.Triple.Walked.{Stays, stay_dropped, walk_of}
use Rattle.core.proofs.alloc.Calls.{Goes-blank, handle_tells}
use Rattle.core.proofs.atomic.Steps.{fm}
use Rattle.std.proofs.raw_atomic.Walks.{leaves, proved_at}
use Rattle.std_alloc.specs.Box.Ownership.{box_owns}
use Rattle.std_alloc.proofs.BoxSteps.Form as boxes
use Rattle.std_alloc.proofs.BoxSteps.Steps.{box_in, box_out}
use Rattle.std_alloc.specs.contracts.boxed.Box.into_raw_with_allocator as callee
use Rattle.std_alloc.proofs.boxed.Box.into_raw_with_allocator.Met.{met}
use Rattle.peg_c.proofs.FieldPairs.{field_pair}
use Rattle.peg_c.proofs.RawBoxSteps.{raw_box_close, raw_box_typed}
use Rattle.peg_c.specs.contracts.raw_box.RawBox.from_box.{clauses, ended}
use Rattle.peg_c.specs.contracts.raw_box.RawBox.from_box.Key.{name as #self}
use Rattle.peg_c.proofs.raw_box.RawBox.from_box.Statement.{statement}
use Rattle.peg_c.proofs.raw_box.RawBox.from_box.Code as code

pub from_box_spec : {M : Type 1} → statement M
from_box_spec 𝓤 𝓛 𝓜 𝓡 wired T A rules_T rules_A ghosts_A methods drop_T drop_A is_allocator glue_T glue_A =
    let H = 𝓛.H in
    let 𝓣 = tables 𝓤 H 𝓜 𝓡 𝓡.env in
    let Value : RattleType = param 0 T in
    let Alloc : RattleType = param 1 A in
    let laws = param_laws 1 A rules_A in
    let End = ended T A ghosts_A methods drop_T drop_A in
    let contract = clauses T A ghosts_A methods drop_T drop_A 𝓛 𝓜.mem 𝓡.returns in
    let box : boxes.Bx =
    record {
      row = T;
      laws = rules_T;
      al = record { row = A; laws = rules_A; g = ghosts_A; d = methods; drops = drop_A };
    } in
    let args = bounded (a_type ∷ a_type ∷ []) (T, (A, tt)) (dcons methods (dcons drop_T (dcons drop_A dnil))) in
    let body = inst_fn args code.function in
    let stays : Stays End.signature.params End.kept = (stay_dropped (plain (λ _. boxes.B box)) no, tt) in
    proved_at 𝓛 End stays contract 𝓜 𝓡 (Goes-blank 𝓛 2 (plain (λ _. boxes.B box)) no (λ κs x f. tt), tt) (#self args)
    body (code.unfolded 𝓤 H 𝓜 𝓡 wired (T, (A, tt)) methods drop_T drop_A) (λ call are.
    let κs = call.0.0 in
    let shares = call.0.1 in
    let owner = call.0.3.0 in
    let alloc = owner.alloc in
    let Post : Val → SProp 𝓤 = (walk_of 𝓛 End stays contract).post call in
    let Runs : List Val → SProp 𝓤 = λ words. WpFn 𝓤 H 𝓣.C 𝓣.Λ body words Post in
    let tokens = ‵ (flft κs.0 shares.0) ⊛ ‵ (flft κs.1.0 shares.1.0) ⊛ ‵ ftrue in
    qed 𝓛 ((tokens ⊛ ‵ (owns (types_at End.signature.params κs) call.0.3 call.0.4))
    ∷ raw ((contract κs call.0.3).requires call.1) ∷ []) ∵
    split ! $ move ! (1 ∷ []) $ fsplit ! $
    -- the box is opened for the type of its word, and closed again for the call
    box_out box ! owner call.0.4.0 (λ block offset heap at_block words good.
    box_in box ! owner block offset owner.value at_block refl $
    let word : Val = boxes.word box heap block offset in
    let typed = raw_box_typed Value Alloc laws ghosts_A block offset heap good in
    let spec = triple_of 𝓛 (callee.signature T A ghosts_A methods drop_A drop_T)
    (callee.spec T A ghosts_A methods drop_A drop_T 𝓛 𝓜.mem 𝓡.returns) in
    let with_args : spec.Ghost = ((κs, shares, tt, (owner, tt), (word ∷ [], tt)), tt) in
    let Pair = Tuple (RawPtr ∷ Alloc ∷ []) in
    fjoin ! $ move ! (1 ∷ 0 ∷ []) $ join ! $ join ! $ use1 𝓛 (raw (spec.pre with_args)) (id⊢ 𝓤 _) $
    suffices ! (Runs (word ∷ []))
    (subst (λ (vs : List Val). ent 𝓤 (Runs (word ∷ [])) (Runs vs)) (sym (λ i. words i ++ []))
    (id⊢ 𝓤 (Runs (word ∷ [])))) $
    enter ! 𝓣.C 𝓣.Λ body (word ∷ []) Post $ alloc_all ! (λ l. pass_all ! refl (typed, tt) $
    sets ! (of_opd ! (get ! refl)) refl typed $
    calls_at ! (fm 𝓛 𝓜 𝓡) spec
    (met 𝓤 𝓛 𝓜 𝓡 (code.calls-std_alloc::boxed::Box::into_raw_with_allocator 𝓡.env wired)
    T A rules_T rules_A ghosts_A methods drop_A drop_T is_allocator glue_A glue_T)
    with_args (and_then ! (get ! refl) (no_more !)) (λ returned.
    -- what the call gives: a pointer, the allocator, and the box at the pointer
    use1 𝓛 (later (some (λ (pair : Ptr × A.Denot). (tokens ⊛ ‵ (Pair.own_val pair (returned ∷ [])))
    ⊛ some (λ (_ : (Unit {0} × (Unit {0} × Unit {0})) × Unit {0}).
    ‵ (fsep (fsep ftrue (fsep ftrue ftrue)) ftrue)
    ⊛ (raw (fact 𝓤 (pair.1 ≡ alloc))
    ⊛ ‵ (box_owns (ghosts_A.dealloc_token alloc) Value pair.0 owner.value)))))) (id⊢ 𝓤 _) $
    await ! tt $ pick ! (λ pair. split ! $ move ! (1 ∷ []) $ pick ! (λ _. split3 ! $ drop ! $
    heard ! (pair.1 ≡ alloc) (λ same_alloc.
    in_a_block ! pair.0 (λ place. box_owns (ghosts_A.dealloc_token alloc) Value place owner.value)
    (fst∗ 𝓤 (never 𝓤) (sem 𝓛 (ghosts_A.dealloc_token alloc (erased (layout T)) null_ptr)))
    (λ block' offset' at_block'.
    move ! (1 ∷ []) $ split ! $ move ! (1 ∷ []) $
    fpick ! (λ parts. fsplit ! $ feq_l ! (λ returns_pair. fsplit ! $ feq_l ! (λ pointer. fsplit ! $
    rewrite ! 0 (λ (given : A.Denot). ‵ (A.own_val given parts.1.0)) same_alloc refl $
    handle_tells box.al ! alloc parts.1.0 (λ heap' is_heap good'.
    let made = raw_box_typed Value Alloc laws ghosts_A block' offset' heap' good' in
    let pointer_word = pointer ∙ ap (λ (place : Ptr). ptr_val place ∷ []) at_block' in
    lands_as ! (ap only (returns_pair ∙ (λ j. vstruct (of_list (pointer_word j ++ (is_heap j ++ []))) ∷ []))) refl made $
    sets ! (of_opd ! (get_in ! (fld ! refl (stop !)) (sub ! 0 refl (whole !)))) refl (tt, tt) $
    sets ! (of_opd ! (get_in ! (fld ! refl (stop !)) (sub ! 1 refl (whole !)))) refl good' $
    sets ! (of_opd ! (get ! refl)) refl good' $
    sets ! (agg ! (and_then ! (get ! refl) (and_then ! (get ! refl) (no_more !)))) refl made $
    move ! (3 ∷ 0 ∷ []) $ raw_box_close Value Alloc laws ghosts_A ! block' offset' heap' alloc owner.value $
    use0 𝓛 (raw (fact 𝓤 (owner.value ≡ owner.value))) (fact_i 𝓤 (owner.value ≡ owner.value) (emp 𝓤) refl) $
    nothing ! $ nothing ! $ fjoin ! $
    returns ! (look_at ! 0 refl) $ free_all ! refl $ keep ! (4 ∷ 0 ∷ 2 ∷ 1 ∷ []) $
    by ! (leaves 𝓛 End stays contract call (field_pair (vptr block' offset') heap')
    (record { address = block_ptr block' offset'; alloc = alloc; value = owner.value })
    ((tt, (tt, tt)), tt) (tt, tt))))))))))))))
