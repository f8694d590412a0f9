use Rattle.std.proofs.Common.{length, rules}
use Rattle.std.proofs.lemmas.Result.{IfErr-weaker}
use Rattle.peg_core.specs.Layout.{bodies_of}
use Rattle.peg_check.specs.LeastCycles.{NamesLeastCoreCycle, NamesLeastCycle}
use Rattle.peg_check.specs.FirstLoops.{NamesFirstCoreLoop, NamesFirstLoop}
use Rattle.peg_check.specs.Verdicts.{AreWellFormed, IsFaultOf, IsIllFormedBy}
use Rattle.peg_check.proofs.Refutations.{cycle-refuted}
use Rattle.peg_check.proofs.VerdictLemmas.{accepted-where, empty_loop-where, left_cycle-where, grammar-from_core, ill_formed-from_core, names_least-from_core}
use Rattle.peg_check.proofs.WrittenLoopLemmas.{first-from_core}
use Rattle.peg_check.proofs.verdict.check.Goals as goal
use Rattle.peg_check.proofs.verdict.check.Goals.{In_ok-check_core}

-- ---- rejected

pub returns-in_err-check_core-clause-empty_loop_where : goal.returns-in_err-check_core-clause-empty_loop_where
returns-in_err-check_core-clause-empty_loop_where c =
    empty_loop-where c.args.core c.from_residual.result (search rules) (search rules)

pub returns-in_err-check_core-clause-left_cycle_where : goal.returns-in_err-check_core-clause-left_cycle_where
returns-in_err-check_core-clause-left_cycle_where c =
    left_cycle-where c.args.core c.from_residual.result (search rules) (search rules)

pub returns-in_err-check_core-clause-grammar_refused : goal.returns-in_err-check_core-clause-grammar_refused
returns-in_err-check_core-clause-grammar_refused c = λ written are.
    IfErr-weaker c.from_residual.result (IsFaultOf c.args.core) (IsIllFormedBy written)
    (λ why fault. ill_formed-from_core written c.args.core are why fault) (search rules)

pub returns-in_err-check_core-clause-first_loop : goal.returns-in_err-check_core-clause-first_loop
returns-in_err-check_core-clause-first_loop c = λ written are own.
    IfErr-weaker c.from_residual.result (NamesFirstCoreLoop (bodies_of c.args.core)) (NamesFirstLoop written)
    (λ why first. first-from_core written c.args.core are own why first) (search rules)

pub returns-in_err-check_core-clause-least_cycle : goal.returns-in_err-check_core-clause-least_cycle
returns-in_err-check_core-clause-least_cycle c = λ written are.
    IfErr-weaker c.from_residual.result (NamesLeastCoreCycle (bodies_of c.args.core)) (NamesLeastCycle written)
    (λ why least. names_least-from_core written c.args.core are why least) (search rules)

-- ---- accepted

-- in as many rounds as there are forms
fine : (c : In_ok-check_core) → AreWellFormed c.args.core
fine c = λ k d within. (length c.args.core.forms, c.in_ok-check_core.ensures.well_formed k d within)

pub returns-clause-well_formed : goal.returns-clause-well_formed
returns-clause-well_formed c = fine (goal.at.returns-clause-well_formed c).In_ok-check_core

pub returns-clause-no_left_cycle : goal.returns-clause-no_left_cycle
returns-clause-no_left_cycle c = λ path cycle.
    cycle-refuted c.args.core path cycle (fine (goal.at.returns-clause-no_left_cycle c).In_ok-check_core)

pub returns-clause-accepted_where : goal.returns-clause-accepted_where
returns-clause-accepted_where c =
    accepted-where c.args.core _ (fine (goal.at.returns-clause-accepted_where c).In_ok-check_core) tt

pub returns-clause-empty_loop_where : goal.returns-clause-empty_loop_where
returns-clause-empty_loop_where c =
    empty_loop-where c.args.core _ c.in_ok-check_core.ensures.no_empty_loop tt

pub returns-clause-left_cycle_where : goal.returns-clause-left_cycle_where
returns-clause-left_cycle_where c =
    left_cycle-where c.args.core _ (fine (goal.at.returns-clause-left_cycle_where c).In_ok-check_core) tt

pub returns-clause-grammar : goal.returns-clause-grammar
returns-clause-grammar c = λ written are.
    grammar-from_core written c.args.core are (fine (goal.at.returns-clause-grammar c).In_ok-check_core)
