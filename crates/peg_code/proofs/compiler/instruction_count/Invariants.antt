use Rattle.std.proofs.Common.{◌≡◌, ◌+◌, ◌≤◌, drop}
use Rattle.peg_core.specs.Layout.{bodies_of}
use Rattle.peg_code.specs.Compiled.{max_instructions}
use Rattle.peg_code.specs.Sizes.{capped}
use Rattle.peg_code.proofs.LayoutLemmas.{rules_size}
use Rattle.peg_code.proofs.compiler.instruction_count.Given as goal

-- the count so far and the rules that are left make the count of all instructions
abbrev pub invariant-loop-rule : goal.invariant-loop-rule
invariant-loop-rule l = record {
  all : capped (l.total + rules_size (drop l.rule (bodies_of l.core))) ≡ capped (1 + rules_size (bodies_of l.core));
  most : l.total ≤ max_instructions + 1;
}
