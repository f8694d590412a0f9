-- `from_raw_box` takes over the pointer of a `RawBox`, with the box that it owns.
use Rattle.std.proofs.Common.{◌≡◌, List, [], ◌∷◌, ◌++◌, refl, subst, sym}
use mir.Val.{Val, vptr}
use base.Fml.{ftrue}
use base.Logic.{SProp, emp, ent, id⊢}
use prog.Wp.{WpFn}
use types.Kit.{‵, raw, ◌⊛◌, ◌$◌, ◌∵◌, !, by, fjoin, fsplit, keep, move, qed, split, suffices, use0}
use types.Run.{and_then, enter, fld, no_more, of_opd, returns, stop}
use types.ByLocal.{alloc_all, free_all, get, get_in, look_at, pass_all, sets}
use types.Part.{agg, sub, whole}
use contract.Monad.{fact, fact_i}
use contract.Running.{tables}
use denote.Exit.{yes}
use denote.RattleType.{RattleType, owns}
use denote.RawPtr.{block_ptr}
use denote.Signature.{plain, types_at}
use denote.Steps.{nothing}
use denote.Triple.Walked.{Stays, stay_dropped, walk_of}
use Rattle.core.proofs.alloc.Calls.{Goes-blank}
use Rattle.std.proofs.raw_atomic.Walks.{leaves, proved_at}
use Rattle.std.specs.declared.option.Option.{Option}
use Rattle.std.specs.declared.option.Option.TheVariants.{Some}
use Rattle.std.specs.contracts.impls.GlobalAllocator.TheImpl.{ghosts}
use Rattle.peg_handle.specs.declared.content.Content.{Content}
use Rattle.peg_c.proofs.FieldPairs.{field_pair}
use Rattle.peg_c.proofs.HandleSteps.{Heap, OwnerRow, handle_close, handle_typed, heap_rules, owner_close}
use Rattle.peg_c.proofs.RawBoxSteps.{RawBox, raw_box_open, raw_box_typed}
use Rattle.peg_c.specs.contracts.handle.Handle.from_raw_box.{clauses, ended}
use Rattle.peg_c.specs.contracts.handle.Handle.from_raw_box.Key.{name as #self}
use Rattle.peg_c.proofs.handle.Handle.from_raw_box.Statement.{statement}
use Rattle.peg_c.proofs.handle.Handle.from_raw_box.Code as code

pub from_raw_box_spec : {M : Type 1} → statement M
from_raw_box_spec 𝓤 𝓛 𝓜 𝓡 wired =
    let H = 𝓛.H in
    let 𝓣 = tables 𝓤 H 𝓜 𝓡 𝓡.env in
    let contract = clauses 𝓛 𝓜.mem 𝓡.returns in
    let body = code.function in
    let Raw : RattleType = RawBox OwnerRow Heap heap_rules ghosts in
    let stays : Stays ended.signature.params ended.kept = (stay_dropped (plain (λ _. Raw)) yes, tt) in
    proved_at 𝓛 ended stays contract 𝓜 𝓡 (Goes-blank 𝓛 0 (plain (λ _. Raw)) yes (λ κs x f. tt), tt) #self body
    (code.unfolded 𝓤 H 𝓜 𝓡 wired) (λ call are.
    let κs = call.0.0 in
    let given = call.0.3.0 in
    let Post : Val → SProp 𝓤 = (walk_of 𝓛 ended stays contract).post call in
    let Runs : List Val → SProp 𝓤 = λ args. WpFn 𝓤 H 𝓣.C 𝓣.Λ body args Post in
    let held : Option Content = Some given.value.value in
    qed 𝓛 ((‵ ftrue ⊛ ‵ (owns (types_at ended.signature.params κs) call.0.3 call.0.4))
    ∷ raw ((contract κs call.0.3).requires call.1) ∷ []) ∵
    split ! $ move ! (1 ∷ []) $ fsplit ! $
    raw_box_open OwnerRow Heap heap_rules ghosts ! given call.0.4.0 (λ block offset heap at_block words good.
    let word : Val = field_pair (vptr block offset) heap in
    suffices ! (Runs (word ∷ []))
    (subst (λ (args : List Val). ent 𝓤 (Runs (word ∷ [])) (Runs args)) (sym (λ i. words i ++ []))
    (id⊢ 𝓤 (Runs (word ∷ [])))) $
    -- the two fields, and the struct
    enter ! 𝓣.C 𝓣.Λ body (word ∷ []) Post $
    alloc_all ! (λ l. pass_all ! refl (raw_box_typed OwnerRow Heap heap_rules ghosts block offset heap good, tt) $
    sets ! (of_opd ! (get_in ! (fld ! refl (stop !)) (sub ! 0 refl (whole !)))) refl (tt, tt) $
    sets ! (of_opd ! (get_in ! (fld ! refl (stop !)) (sub ! 1 refl (whole !)))) refl good $
    sets ! (agg ! (and_then ! (get ! refl) (and_then ! (get ! refl) (no_more !)))) refl
    (handle_typed (block_ptr block offset) heap good) $
    -- the handle owns what the `RawBox` owned
    owner_close ! given.alloc (block_ptr block offset) given.value $
    handle_close ! (block_ptr block offset) heap given.alloc held $
    use0 𝓛 (raw (fact 𝓤 (held ≡ held))) (fact_i 𝓤 (held ≡ held) (emp 𝓤) refl) $
    nothing ! $ nothing ! $ fjoin ! $
    returns ! (look_at ! 0 refl) $ free_all ! refl $ keep ! (3 ∷ 0 ∷ 2 ∷ 1 ∷ []) $
    by ! (leaves 𝓛 ended stays contract call word
    (record { address = block_ptr block offset; alloc = given.alloc; content = held }) (tt, tt) (tt, tt)))))
