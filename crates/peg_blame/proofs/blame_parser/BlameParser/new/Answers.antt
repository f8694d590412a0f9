use Rattle.std.proofs.Common.{◌≤◌, List, subst, sym, ◌∙◌}
use Rattle.std.specs.List.Sorted.{IsStrictlyIncreasing}
use Rattle.peg_diagnostics.proofs.ItemNumbers.{item_terminals-rise}
use Rattle.peg_diagnostics.proofs.Lookups.{Distinct}
use Rattle.peg_grammar.specs.GrammarRules.{rules_in}
use Rattle.peg_parser.specs.Accepts.{code_size}
use Rattle.peg_code.specs.Compiled.{max_instructions}
use Rattle.peg_semantics.specs.Grammar.{max_parts}
use Rattle.peg_semantics.specs.Rules.{Rule, names, weight_of}
use Rattle.peg_semantics.specs.WellFormed.{IsWellFormedGrammar}
use Rattle.peg_blame.specs.Faults.{IsParserRefusal, of_grammar}
use Rattle.peg_blame.specs.declared.fault.BlameFault.TheVariants.{Memory}
use Rattle.peg_blame.proofs.BlameFaults.{formed-too, names-distinct, refused-error, refused-grammar, refused-parser}
use Rattle.peg_blame.proofs.blame_parser.BlameParser.new.Goals as goal

pub returns-in_err-diagnostic-clause-refused : goal.returns-in_err-diagnostic-clause-refused
returns-in_err-diagnostic-clause-refused c =
    let rules = rules_in c.args.grammar.now in
    let why = c.in_err-diagnostic.field-0.0 in
    refused-error rules c.from_residual.result (of_grammar why) c.from_residual.ensures.1
    (refused-grammar rules why c.in_err-diagnostic.ensures.refused c.in_err-diagnostic.ensures.plain)

pub returns-in_err-parser-clause-refused : goal.returns-in_err-parser-clause-refused
returns-in_err-parser-clause-refused c =
    let rules = rules_in c.args.grammar.now in
    let why = c.in_err-parser.field-0.0 in
    let same = c.in_ok-diagnostic.ensures.rules in
    let distinct = subst (λ (shown : List Rule). Distinct (names shown)) same
    (names-distinct (rules_in c.in_ok-diagnostic.diagnostic) c.in_ok-diagnostic.diagnostic.grammar) in
    refused-error rules c.from_residual-in_err-parser.result why c.from_residual-in_err-parser.ensures.1
    (refused-parser rules c.args.grammar.now.grammar distinct why
    (subst (λ (shown : List Rule). IsParserRefusal shown why) same c.in_err-parser.ensures.refused))

pub returns-in_err-item_rules-clause-refused : goal.returns-in_err-item_rules-clause-refused
returns-in_err-item_rules-clause-refused c =
    refused-error (rules_in c.args.grammar.now) c.from_residual-in_err-item_rules.result Memory
    c.from_residual-in_err-item_rules.ensures.1 tt

pub returns-in_err-item_kinds-clause-refused : goal.returns-in_err-item_kinds-clause-refused
returns-in_err-item_kinds-clause-refused c =
    refused-error (rules_in c.args.grammar.now) c.from_residual-in_err-item_kinds.result Memory
    c.from_residual-in_err-item_kinds.ensures.1 tt

pub returns-clause-made : goal.returns-clause-made
returns-clause-made c =
    let rules = rules_in c.args.grammar.now in
    let same = c.in_ok-diagnostic.ensures.rules in
    let distinct = subst (λ (shown : List Rule). Distinct (names shown)) same
    (names-distinct (rules_in c.in_ok-diagnostic.diagnostic) c.in_ok-diagnostic.diagnostic.grammar) in
    record {
      grammar = c.args.grammar.now.grammar;
      well_formed = formed-too rules c.args.grammar.now.grammar distinct
          (subst IsWellFormedGrammar same c.in_ok-parser.ensures.well_formed);
      diagnostic = c.in_ok-parser.ensures.rules ∙ same;
      bare = c.in_ok-parser.ensures.bare;
      distinct = distinct;
      light = subst (λ (shown : List Rule). weight_of shown ≤ max_parts) same c.in_ok-diagnostic.diagnostic.light;
      small = subst (λ (shown : List Rule). code_size shown ≤ max_instructions) same c.in_ok-parser.ensures.small;
      count = c.rules.ensures.count;
      terminals = c.in_ok-terminals.ensures;
      items = c.in_ok-items.ensures;
      item_rules = c.in_ok-item_rules.ensures;
      item_kinds = c.in_ok-item_kinds.ensures;
    }

-- the numbers of items ascend
pub invariant_of-result : goal.invariant_of-result
invariant_of-result c =
    record {
      ascending = subst IsStrictlyIncreasing (sym c.in_ok-terminals.ensures)
          (item_terminals-rise (rules_in c.args.grammar.now));
    }
