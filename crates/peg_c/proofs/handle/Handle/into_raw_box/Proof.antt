-- `into_raw_box` tests the pointer. If it isn't null, the result takes over the box.
use Rattle.std.proofs.Common.{◌≡◌, List, [], ◌∷◌, ◌++◌, ◌∙◌, ap, lit<, refl, subst, sym}
use mir.Val.{Val, vcons, vnil, vnull, vptr}
use base.Fml.{ftrue}
use base.Logic.{SProp, emp, ent, id⊢}
use prog.Wp.{WpFn}
use types.Kit.{‵, raw, ◌⊛◌, at_ret, ◌$◌, ◌∵◌, !, by, fjoin, fsplit, keep, move, qed, split, suffices, use0, use1}
use types.Run.{and_then, bin, branches, enter, exec, first, fld, lit, no_more, of_opd, returns, stop}
use types.ByLocal.{alloc_all, env, free_all, get, get_in, look_at, pass_all, sets, sets_last}
use types.Match.{live}
use types.Part.{agg, sub, whole}
use contract.Monad.{fact, fact_i}
use contract.Running.{tables}
use denote.Exit.{yes}
use denote.Param.{layout}
use denote.RattleType.{RattleType, owns}
use denote.RawPtr.{Ptr, block_ptr, null_ptr, ptr_val, tests_null}
use denote.Signature.{plain, type_at, types_at}
use denote.Steps.{nothing}
use denote.Triple.Walked.{Stays, stay_dropped, walk_of}
use Rattle.core.proofs.alloc.Calls.{Goes-blank}
use Rattle.core.proofs.alloc.Shapes.{after}
use Rattle.core.proofs.atomic.Steps.{Ptr-Good}
use Rattle.core.proofs.cell.Inside.{Good}
use Rattle.core.proofs.option.Made.{Some-of, none_of}
use Rattle.std_alloc.proofs.ResultValues.{and_tt}
use Rattle.std.proofs.raw_atomic.Walks.{leaves, proved_at}
use Rattle.std.specs.declared.option.Option.{Option}
use Rattle.std.specs.declared.option.Option.TheVariants.{None, Some}
use Rattle.std.specs.contracts.impls.GlobalAllocator.TheImpl.{ghosts}
use Rattle.peg_handle.specs.declared.content.Content.{Content}
use Rattle.peg_c.proofs.FieldPairs.{field_pair}
use Rattle.peg_c.proofs.HandleSteps.{HandleRow, Heap, OwnerRow, handle_open, handle_typed, heap_rules, null_or_box}
use Rattle.peg_c.proofs.RawBoxSteps.{RawBox, raw_box_close, raw_box_typed}
use Rattle.peg_c.specs.contracts.handle.Handle.into_raw_box.{clauses, ended}
use Rattle.peg_c.specs.contracts.handle.Handle.into_raw_box.Key.{name as #self}
use Rattle.peg_c.proofs.handle.Handle.into_raw_box.Statement.{statement}
use Rattle.peg_c.proofs.handle.Handle.into_raw_box.Code as code

pub into_raw_box_spec : {M : Type 1} → statement M
into_raw_box_spec 𝓤 𝓛 𝓜 𝓡 wired =
    let H = 𝓛.H in
    let 𝓣 = tables 𝓤 H 𝓜 𝓡 𝓡.env in
    let contract = clauses 𝓛 𝓜.mem 𝓡.returns in
    let body = code.function in
    let Raw : RattleType = RawBox OwnerRow Heap heap_rules ghosts in
    let stays : Stays ended.signature.params ended.kept = (stay_dropped (plain (λ _. HandleRow)) yes, tt) in
    proved_at 𝓛 ended stays contract 𝓜 𝓡 (Goes-blank 𝓛 0 (plain (λ _. HandleRow)) yes (λ κs x f. tt), tt) #self body
    (code.unfolded 𝓤 H 𝓜 𝓡 wired) (λ call are.
    let κs = call.0.0 in
    let given = call.0.3.0 in
    let alloc = given.alloc in
    let Post : Val → SProp 𝓤 = (walk_of 𝓛 ended stays contract).post call in
    let Runs : List Val → SProp 𝓤 = λ args. WpFn 𝓤 H 𝓣.C 𝓣.Λ body args Post in
    let Result : RattleType = type_at ended.signature.result κs in
    qed 𝓛 ((‵ ftrue ⊛ ‵ (owns (types_at ended.signature.params κs) call.0.3 call.0.4))
    ∷ raw ((contract κs call.0.3).requires call.1) ∷ []) ∵
    split ! $ move ! (1 ∷ []) $ fsplit ! $
    handle_open ! given call.0.4.0 (λ heap words good.
    null_or_box ! alloc given.address given.content
    -- a null handle: the result is `None`
    (λ is_null no_content.
    let word : Val = field_pair vnull heap in
    let passed : call.0.4.0 ≡ word ∷ [] = words ∙ ap (λ (place : Ptr). field_pair (ptr_val place) heap ∷ []) is_null in
    suffices ! (Runs (word ∷ []))
    (subst (λ (args : List Val). ent 𝓤 (Runs (word ∷ [])) (Runs args)) (sym (λ i. passed i ++ []))
    (id⊢ 𝓤 (Runs (word ∷ [])))) $
    enter ! 𝓣.C 𝓣.Λ body (word ∷ []) Post $
    alloc_all ! (λ l. pass_all ! refl (handle_typed null_ptr heap good, tt) $
    let scope = env body.locals l in
    sets ! (of_opd ! (get_in ! (fld ! refl (stop !)) (sub ! 0 refl (whole !)))) refl (Ptr-Good null_ptr) $
    sets ! (of_opd ! (get_in ! (fld ! refl (stop !)) (sub ! 1 refl (whole !)))) refl good $
    sets ! (bin ! (get ! refl) (lit ! tt) tt) refl (tt, tt) $ first ! $ branches ! (get ! refl)
    (λ _.
    sets_last ! (agg ! (and_then ! (lit ! tt) (no_more !))) refl (tt, (record { fits = lit< tt }, tt)) $
    exec ! 𝓣.C 𝓣.Λ scope (after 4 body.body) (at_ret scope Post) $
    sets ! (of_opd ! (get ! refl)) refl (tt, (record { fits = lit< tt }, tt)) $
    let none : Option Content = None in
    use0 𝓛 (‵ (Result.own_val None (live 0 vnil ∷ []))) (none_of 𝓛 Raw) $
    use0 𝓛 (raw (fact 𝓤 (none ≡ given.content))) (fact_i 𝓤 (none ≡ given.content) (emp 𝓤) (sym no_content)) $
    nothing ! $ nothing ! $ fjoin ! $
    returns ! (look_at ! 0 refl) $ free_all ! refl $ keep ! (4 ∷ 0 ∷ 2 ∷ 1 ∷ []) $
    by ! (leaves 𝓛 ended stays contract call (live 0 vnil) None (tt, tt) (tt, tt)))
    (λ wrong. absurd wrong)))
    -- a handle with content: the result is its box, taken apart
    (λ block offset value at_block has_content testable.
    let word : Val = field_pair (vptr block offset) heap in
    let passed : call.0.4.0 ≡ word ∷ [] = words ∙ ap (λ (place : Ptr). field_pair (ptr_val place) heap ∷ []) at_block in
    let typed = raw_box_typed OwnerRow Heap heap_rules ghosts block offset heap good in
    let some_word : Val = live 1 (vcons word vnil) in
    let opened : Raw.Denot = record { address = block_ptr block offset; alloc = alloc; value = value } in
    let some_typed : Good (layout Result) some_word = (and_tt _ typed.0, (record { fits = lit< tt }, (typed.1, tt))) in
    suffices ! (Runs (word ∷ []))
    (subst (λ (args : List Val). ent 𝓤 (Runs (word ∷ [])) (Runs args)) (sym (λ i. passed i ++ []))
    (id⊢ 𝓤 (Runs (word ∷ [])))) $
    enter ! 𝓣.C 𝓣.Λ body (word ∷ []) Post $
    alloc_all ! (λ l. pass_all ! refl (handle_typed (block_ptr block offset) heap good, tt) $
    let scope = env body.locals l in
    sets ! (of_opd ! (get_in ! (fld ! refl (stop !)) (sub ! 0 refl (whole !)))) refl (tt, tt) $
    sets ! (of_opd ! (get_in ! (fld ! refl (stop !)) (sub ! 1 refl (whole !)))) refl good $
    sets ! (bin ! (get ! refl) (lit ! tt) (tests_null (block_ptr block offset) testable)) refl (tt, tt) $
    first ! $ branches ! (get ! refl) (λ wrong. absurd wrong)
    (λ _.
    sets ! (agg ! (and_then ! (get ! refl) (and_then ! (get ! refl) (no_more !)))) refl typed $
    sets_last ! (agg ! (and_then ! (lit ! tt) (and_then ! (get ! refl) (no_more !)))) refl some_typed $
    exec ! 𝓣.C 𝓣.Λ scope (after 4 body.body) (at_ret scope Post) $
    sets ! (of_opd ! (get ! refl)) refl some_typed $
    raw_box_close OwnerRow Heap heap_rules ghosts ! block offset heap alloc value $
    let some : Option Content = Some value.value in
    use1 𝓛 (‵ (Result.own_val (Some opened) (some_word ∷ []))) (Some-of 𝓛 Raw opened word) $
    use0 𝓛 (raw (fact 𝓤 (some ≡ given.content))) (fact_i 𝓤 (some ≡ given.content) (emp 𝓤) (sym has_content)) $
    nothing ! $ nothing ! $ fjoin ! $
    returns ! (look_at ! 0 refl) $ free_all ! refl $ keep ! (3 ∷ 0 ∷ 2 ∷ 1 ∷ []) $
    by ! (leaves 𝓛 ended stays contract call some_word (Some opened) (tt, tt) (tt, tt)))))))
