use Rattle.std.proofs.Common.{◌≡◌, ◌∙◌, ◌==◌, ◌&&◌, ◌||◌, ℕ, Bool, ap, arith, length, not}
use Rattle.std.specs.List.{list_any, range_with_len}
use Rattle.peg_grammar.specs.GrammarRules.{rules_in}
use Rattle.peg_spacing.specs.Spacing.{has_flag, refer_to, references_in}
use Rattle.peg_spacing.proofs.FlagLemmas.{any-more}
use Rattle.peg_spacing.proofs.called.Called.by.Goals as goal

pub callers-preserved : goal.callers-preserved
callers-preserved c =
    let rules = rules_in c.args.grammar.now in
    let calls : (rule : ℕ) → ℕ → Bool = λ rule caller. has_flag c.args.callers.now caller && (not (caller == rule)
    && refer_to rules (references_in rules caller) rule) in
    record {
      count = c.add_caller.ensures.count ∙ c.callers.invariant.count;
      added = λ rule.
          c.add_caller.ensures.added rule
          ∙ ap (λ (b : Bool). b || calls rule c.callers.caller) (c.callers.invariant.added rule)
          ∙ any-more (calls rule) c.callers.caller;
    }

pub returns : goal.returns
returns c rule =
    let rules = rules_in c.args.grammar.now in
    let calls : ℕ → Bool = λ caller. has_flag c.args.callers.now caller && (not (caller == rule)
    && refer_to rules (references_in rules caller) rule) in
    let all : c.callers.caller ≡ length rules = omega (arith, c.rules-caller-end.ensures.count) in
    c.callers.invariant.added rule ∙ ap (λ (n : ℕ). list_any calls (range_with_len 0 n)) all
