use Rattle.std.proofs.Common.{◌≡◌, ◌≤◌, ◌&&◌, filter, length, map, not, take}
use Rattle.peg_explain.specs.Names.{fails_at_once, is_inside}
use Rattle.peg_explain.specs.declared.names.Rest.{Rest}
use Rattle.peg_explain.proofs.names.outermost_rules.Given as goal

-- the outermost rules among the first rests
abbrev pub invariant-rests : goal.invariant-rests
invariant-rests l = record {
  listed : l.rules.items
      ≡ map (λ (rest : Rest). rest.rule)
      (filter (λ (rest : Rest). fails_at_once rest && not (is_inside l.rests rest.rule)) (take l.rest-index l.rests));
  few : length l.rules.items ≤ l.rest-index;
}
