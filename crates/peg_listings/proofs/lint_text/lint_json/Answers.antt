use Rattle.peg_grammar.specs.GrammarRules.{rules_in}
use Rattle.peg_semantics.specs.Rules.{names}
use Rattle.peg_listings.specs.LintText.{lint_data}
use Rattle.peg_listings.proofs.LintLemmas.{lint-without_floats}
use Rattle.peg_listings.proofs.SentText.{value-text}
use Rattle.peg_listings.proofs.lint_text.lint_json.Goals as goal

pub returns : goal.returns
returns c =
    let rules = names (rules_in c.args.grammar.now) in
    value-text c.text_of.result (lint_data c.args.file.now rules c.args.warnings.now)
    (lint-without_floats c.args.file.now rules c.args.warnings.now) c.text_of.ensures
