-- `into_box` gives the pointer and what it owns to the library's function, and returns its box.
use Rattle.std.proofs.Common.{◌≡◌, List, [], ◌∷◌, ◌++◌, ap, refl, subst, sym}
use mir.MapTy.{inst_fn}
use mir.Syntax.{a_type, dcons, dnil}
use mir.Val.{Val, vptr}
use base.Fml.{flft, ftrue}
use base.Logic.{SProp, ent, id⊢}
use prog.Wp.{WpFn}
use types.Kit.{‵, raw, ◌⊛◌, some, later, at_ret, ◌$◌, ◌∵◌, !, await, by, drop, feq_i, fjoin, fsplit, join, keep, move}
use types.Kit.{pick, qed, rewrite, split, split3, suffices, use1}
use types.Run.{and_then, blocks, enter, exec, first, fld, no_more, of_opd, returns, stop}
use types.ByLocal.{alloc_all, env, free_all, get, get_in, lands_last, look_at, pass_all, sets}
use types.Part.{sub, whole}
use contract.BorrowLft.{◌⊑◌}
use contract.Monad.{fact}
use contract.Running.{tables}
use denote.Exit.{no}
use denote.Param.{bounded, layout, param}
use denote.Param.Laws.{param_laws}
use denote.RattleType.{RattleType, owns}
use denote.RawPtr.{block_ptr}
use denote.Signature.{plain, types_at}
use denote.Steps.{nothing, only}
use denote.Triple.Call.{calls_at_last}
use denote.Triple.Clauses.{Lasts, lasts}
use denote.Triple.Spec.{triple_of}
use denote.Triple.Walked.{Stays, stay_dropped, walk_of}
use Rattle.core.proofs.alloc.Calls.{Goes-blank}
use Rattle.core.proofs.alloc.Shapes.{after}
use Rattle.core.proofs.atomic.Steps.{fm}
use Rattle.core.proofs.cell.Inside.{Good}
use Rattle.std.proofs.raw_atomic.Walks.{leaves, proved_at}
use Rattle.std_alloc.proofs.BoxSteps.Form as boxes
use Rattle.std_alloc.proofs.BoxSteps.Steps.{box_in, box_out}
use Rattle.std_alloc.specs.contracts.boxed.Box.from_raw as callee
use Rattle.std_alloc.proofs.boxed.Box.from_raw.Met.{met}
use Rattle.peg_c.proofs.FieldPairs.{field_pair}
use Rattle.peg_c.proofs.RawBoxSteps.{RawBox, raw_box_open, raw_box_typed}
use Rattle.peg_c.specs.contracts.raw_box.RawBox.into_box.{clauses, ended}
use Rattle.peg_c.specs.contracts.raw_box.RawBox.into_box.Key.{name as #self}
use Rattle.peg_c.proofs.raw_box.RawBox.into_box.Statement.{statement}
use Rattle.peg_c.proofs.raw_box.RawBox.into_box.Code as code

pub into_box_spec : {M : Type 1} → statement M
into_box_spec 𝓤 𝓛 𝓜 𝓡 wired T A rules_T rules_A ghosts_A methods drop_T drop_A is_allocator glue_T glue_A =
    let H = 𝓛.H in
    let 𝓣 = tables 𝓤 H 𝓜 𝓡 𝓡.env in
    let Value : RattleType = param 0 T in
    let Alloc : RattleType = param 1 A in
    let laws = param_laws 1 A rules_A in
    let Raw : RattleType = RawBox Value Alloc laws ghosts_A in
    let End = ended T A ghosts_A methods drop_T drop_A in
    let contract = clauses T A ghosts_A methods drop_T drop_A 𝓛 𝓜.mem 𝓡.returns in
    let box : boxes.Bx =
    record {
      row = T;
      laws = rules_T;
      al = record { row = A; laws = rules_A; g = ghosts_A; d = methods; drops = drop_A };
    } in
    let Boxed : RattleType = boxes.B box in
    let args = bounded (a_type ∷ a_type ∷ []) (T, (A, tt)) (dcons methods (dcons drop_T (dcons drop_A dnil))) in
    let body = inst_fn args code.function in
    let stays : Stays End.signature.params End.kept = (stay_dropped (plain (λ _. Raw)) no, tt) in
    proved_at 𝓛 End stays contract 𝓜 𝓡 (Goes-blank 𝓛 2 (plain (λ _. Raw)) no (λ κs x f. tt), tt) (#self args)
    body (code.unfolded 𝓤 H 𝓜 𝓡 wired (T, (A, tt)) methods drop_T drop_A) (λ call are.
    let κs = call.0.0 in
    let shares = call.0.1 in
    let given = call.0.3.0 in
    let alloc = given.alloc in
    let Post : Val → SProp 𝓤 = (walk_of 𝓛 End stays contract).post call in
    let Runs : List Val → SProp 𝓤 = λ words. WpFn 𝓤 H 𝓣.C 𝓣.Λ body words Post in
    let tokens = ‵ (flft κs.0 shares.0) ⊛ ‵ (flft κs.1.0 shares.1.0) ⊛ ‵ ftrue in
    qed 𝓛 ((tokens ⊛ ‵ (owns (types_at End.signature.params κs) call.0.3 call.0.4))
    ∷ raw ((contract κs call.0.3).requires call.1) ∷ []) ∵
    split ! $ move ! (1 ∷ []) $ fsplit ! $
    raw_box_open Value Alloc laws ghosts_A ! given call.0.4.0 (λ block offset heap at_block words good.
    let word : Val = field_pair (vptr block offset) heap in
    let typed = raw_box_typed Value Alloc laws ghosts_A block offset heap good in
    let spec = triple_of 𝓛 (callee.signature T A ghosts_A methods drop_A)
    (callee.spec T A ghosts_A methods drop_A 𝓛 𝓜.mem 𝓡.returns) in
    let with_args : spec.Ghost =
    ((κs, shares, tt, (alloc, (block_ptr block offset, tt)), (heap ∷ [], (vptr block offset ∷ [], tt))), given.value) in
    -- the call needs the box at the pointer, the pointer's word and the allocator
    move ! (4 ∷ []) $
    use1 𝓛 (raw (fact 𝓤 (κs.0 ⊑ T.lives)) ⊛ raw (fact 𝓤 (κs.1.0 ⊑ A.lives)) ⊛ ‵ ftrue) (id⊢ 𝓤 _) $
    split3 ! $ move ! (2 ∷ []) $ drop ! $ move ! (1 ∷ 2 ∷ []) $ join ! $ move ! (1 ∷ 0 ∷ []) $ join ! $
    move ! (2 ∷ []) $ feq_i ! (List Val) (vptr block offset ∷ []) (vptr block offset ∷ []) refl $ fjoin ! $
    move ! (2 ∷ 0 ∷ []) $ fjoin ! $ move ! (2 ∷ 0 ∷ []) $ join ! $ join ! $
    use1 𝓛 (raw (spec.pre with_args)) (id⊢ 𝓤 _) $
    suffices ! (Runs (word ∷ []))
    (subst (λ (vs : List Val). ent 𝓤 (Runs (word ∷ [])) (Runs vs)) (sym (λ i. words i ++ []))
    (id⊢ 𝓤 (Runs (word ∷ [])))) $
    enter ! 𝓣.C 𝓣.Λ body (word ∷ []) Post $ alloc_all ! (λ l. pass_all ! refl (typed, tt) $
    let scope = env body.locals l in
    sets ! (of_opd ! (get_in ! (fld ! refl (stop !)) (sub ! 0 refl (whole !)))) refl (tt, tt) $
    sets ! (of_opd ! (get_in ! (fld ! refl (stop !)) (sub ! 1 refl (whole !)))) refl good $
    first ! $ blocks ! $ sets ! (of_opd ! (get ! refl)) refl good $
    calls_at_last ! (fm 𝓛 𝓜 𝓡) spec
    (met 𝓤 𝓛 𝓜 𝓡 (code.calls-std_alloc::boxed::Box::from_raw 𝓡.env wired)
    T A rules_T rules_A ghosts_A methods drop_A is_allocator glue_A)
    with_args (and_then ! (get ! refl) (and_then ! (get ! refl) (no_more !))) (λ returned.
    -- what the call gives: a box of the same value
    use1 𝓛 (later (some (λ (made : Boxed.Denot). (tokens ⊛ ‵ (Boxed.own_val made (returned ∷ [])))
    ⊛ some (λ (ls : Lasts (callee.ended T A ghosts_A methods drop_A) κs with_args.0.3).
    ‵ (lasts (callee.ended T A ghosts_A methods drop_A) κs with_args.0.3 ls)
    ⊛ (raw (fact 𝓤 (made.value ≡ given.value)) ⊛ raw (fact 𝓤 (made.alloc ≡ alloc)))))))
    (id⊢ 𝓤 (spec.post with_args returned)) $
    await ! tt $ pick ! (λ made. split ! $ move ! (1 ∷ []) $ pick ! (λ _. split3 ! $ drop ! $
    move ! (2 ∷ []) $ split ! $ move ! (1 ∷ []) $
    box_out box ! made (returned ∷ []) (λ block' offset' heap' at_block' is_box good'.
    box_in box ! made block' offset' made.value at_block' refl $
    rewrite ! 0 (λ (vs : List Val). ‵ (Boxed.own_val made vs)) (sym is_box) refl $
    let typed' : Good (layout Boxed) returned =
    subst (Good (layout Boxed)) (sym (ap only is_box))
    (raw_box_typed Value Alloc laws ghosts_A block' offset' heap' good') in
    lands_last ! refl typed' $ exec ! 𝓣.C 𝓣.Λ scope (after 3 body.body) (at_ret scope Post) $
    sets ! (of_opd ! (get ! refl)) refl typed' $ nothing ! $ nothing ! $ fjoin ! $
    returns ! (look_at ! 0 refl) $ free_all ! refl $ keep ! (2 ∷ 0 ∷ 1 ∷ 3 ∷ []) $
    by ! (leaves 𝓛 End stays contract call returned made ((tt, (tt, tt)), tt) (tt, tt)))))))))
