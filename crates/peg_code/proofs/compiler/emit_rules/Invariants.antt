use Rattle.std.proofs.Common.{◌≡◌, ◌++◌, drop, length}
use Rattle.peg_core.specs.Layout.{bodies_of}
use Rattle.peg_code.specs.Code.{entries_from, entries_of, program_code, rules_code}
use Rattle.peg_code.proofs.compiler.emit_rules.Given as goal

-- the emitted code and that of the rules that are left make the program's code, and so for the entries
abbrev pub invariant-loop-rule : goal.invariant-loop-rule
invariant-loop-rule l = record {
  code : l.instrs ++ rules_code (drop l.rule (bodies_of l.core)) (length l.instrs) ≡ program_code (bodies_of l.core);
  entries : l.entries.items ++ entries_from (drop l.rule (bodies_of l.core)) (length l.instrs) ≡ entries_of (bodies_of l.core);
}
