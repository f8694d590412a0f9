use Rattle.std.proofs.Common.{◌-◌, ap, ◌∙◌, sym, subst}
use Rattle.peg_bytes.specs.Extent.{between}
use Rattle.peg_semantics.specs.Form.{Name}
use Rattle.peg_grammar.specs.Found.{seen_in}
use Rattle.peg_grammar.specs.GrammarRules.{rules_in}
use Rattle.peg_grammar.specs.Evaluator.{evaluated_text, table_in}
use Rattle.peg_semantics.specs.Rules.{name_of}
use Rattle.peg_grammar.specs.Seen.{Evaluates}
use Rattle.peg_grammar.proofs.SeenLemmas.{record_in-positive, record_in-none}
use Rattle.peg_grammar.proofs.evaluator.Evaluator.start.Goals as goal

pub returns-then-depth-eq0 : goal.returns-then-depth-eq0
returns-then-depth-eq0 c =
    record_in-none (rules_in c.args.self.now.grammar.now) (evaluated_text c.args.self.now) c.args.depth (Name (name_of (rules_in c.args.self.now.grammar.now) c.args.rule) (between 0 0)) 0 0 c.if-depth-eq0.true

pub returns : goal.returns
returns c =
    let same = record_in-positive (rules_in c.args.self.now.grammar.now) (evaluated_text c.args.self.now) c.args.depth (Name (name_of (rules_in c.args.self.now.grammar.now) c.args.rule) (between 0 0)) 0 0 c.if-depth-eq0.false ∙ ap (λ n. table_in c.args.self.now (c.args.depth - 1) (Name n (between 0 0)) 0 0) (sym c.rule_name.ensures) in
    subst (λ o. Evaluates o (seen_in c.args.found.now) c.name.result (seen_in c.name.new.found)) (sym same) (c.name.ensures.evaluates (between 0 0) 0)
