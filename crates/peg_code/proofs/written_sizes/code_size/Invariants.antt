use Rattle.std.proofs.Common.{◌≡◌, ◌+◌, ◌≤◌, drop}
use Rattle.peg_grammar.specs.GrammarRules.{rules_in}
use Rattle.peg_code.specs.Compiled.{max_instructions}
use Rattle.peg_code.specs.Sizes.{capped}
use Rattle.peg_code.proofs.WrittenSizeLemmas.{written_rules_size}
use Rattle.peg_code.proofs.written_sizes.code_size.Given as goal

-- the size of the rules so far and that of the remaining ones make the size of all
abbrev pub invariant-loop-rule : goal.invariant-loop-rule
invariant-loop-rule l = record {
  all : capped (l.total + written_rules_size (drop l.rule (rules_in l.grammar)))
      ≡ capped (1 + written_rules_size (rules_in l.grammar));
  most : l.total ≤ max_instructions + 1;
}
