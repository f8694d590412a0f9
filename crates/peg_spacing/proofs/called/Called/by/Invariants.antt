use Rattle.std.proofs.Common.{◌≡◌, ◌==◌, ◌&&◌, ℕ, length, not}
use Rattle.std.specs.List.{list_any, range_with_len}
use Rattle.peg_grammar.specs.GrammarRules.{rules_in}
use Rattle.peg_spacing.specs.Spacing.{has_flag, refer_to, references_in}
use Rattle.peg_spacing.proofs.called.Called.by.Given as goal

-- the rules that are called by the first rules
abbrev pub invariant-callers : goal.invariant-callers
invariant-callers l = record {
  count : length l.called.flags.items ≡ length (rules_in l.grammar);
  added : (rule : ℕ) → has_flag l.called.flags.items rule
      ≡ list_any (λ caller. has_flag l.callers caller && (not (caller == rule)
      && refer_to (rules_in l.grammar) (references_in (rules_in l.grammar) caller) rule)) (range_with_len 0 l.caller);
}
