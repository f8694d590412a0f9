use Rattle.std.proofs.Common.{◌≡◌, map, take}
use Rattle.peg_grammar.specs.GrammarRules.{rules_in}
use Rattle.peg_semantics.specs.Terminals.{extents_of_terminals}
use Rattle.peg_handle.specs.FileSpans.{file_span}
use Rattle.peg_handle.proofs.selecting.terminal_spans.Given as goal

-- the spans so far are those of the first terminals
abbrev pub invariant-terminals : goal.invariant-terminals
invariant-terminals l = l.spans.items ≡ map file_span (take l.terminal (extents_of_terminals (rules_in l.grammar)))
