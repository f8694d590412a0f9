use Rattle.std.proofs.Common.{◌≡◌, ◌+◌, drop}
use Rattle.std.specs.List.{prefix_len}
use Rattle.peg_explain.specs.Explanations.{is_before}
use Rattle.peg_explain.proofs.explainer.rules_before.Given as goal

abbrev pub invariant-each : goal.invariant-each
invariant-each l = l.count + prefix_len (is_before l.own) (drop l.count l.rules) ≡ prefix_len (is_before l.own) l.rules
