use Rattle.std.proofs.Common.{ℕ, List}
use Rattle.peg_profile.specs.Counts.{AreCounted}
use Rattle.peg_profile.proofs.CountLemmas.{counted-more, counted-same, on-err}
use Rattle.peg_profile.proofs.counts.RuleCalls.add.Goals as goal

pub returns-in_err-insert-clause-err : goal.returns-in_err-insert-clause-err
returns-in_err-insert-clause-err c =
    on-err c.from_residual.result
    ((positions : List ℕ) → AreCounted positions c.args.self.now → AreCounted positions c.insert.new.self)
    (λ positions are. counted-same positions c.args.self.now c.insert.new.self c.insert.ensures.calls
    c.in_err-insert.ensures.err are)

pub returns-clause-ok : goal.returns-clause-ok
returns-clause-ok c positions are =
    counted-more positions c.args.self.now (record c.insert.new.self { calls = c.in-Some.calls }) c.args.position
    c.in-Some.ensures.1 c.in_ok-insert.ensures.ok are
