use Rattle.std.proofs.Common.{ℕ, List, ap, subst, sym, ◌∙◌}
use Rattle.peg_check.specs.Exact.{cans_of}
use Rattle.peg_semantics.specs.RuleOutcomes.{AreAbstractOutcomes}
use Rattle.peg_semantics.specs.Rules.{Rule, names}
use Rattle.peg_semantics.proofs.CutGrammar.{AreAbstractOutcomes-cut, names-cut}
use Rattle.peg_grammar.specs.GrammarRules.{rules_in}
use Rattle.peg_json.specs.Reply.{Tabled}
use Rattle.peg_json.proofs.PrintLemmas.{reply-kind}
use Rattle.peg_replies.specs.Replies.{RepliesTo, tabled}
use Rattle.peg_replies.specs.Task.{TableTask}
use Rattle.peg_replies.proofs.loading.table_reply.Goals as goal

-- the outcomes of the rules with cut counts are those of the rules
pub returns : goal.returns
returns c file text read =
    let core = c.in_ok-core.core in
    let rules = rules_in c.args.grammar in
    let cut = rules_in c.with_cut_counts-cut.result in
    let cans = cans_of core.bodies c.in_ok-table.table in
    let known = c.in_ok-core.ensures in
    let reported = c.in_ok-table.ensures.rules cut (record { forms = known.forms; bodies = known.bodies }) in
    let outcomes = (AreAbstractOutcomes-cut rules cans).0
    (subst (λ (rules : List Rule). AreAbstractOutcomes rules cans) c.with_cut_counts-cut.ensures reported) in
    let same = ap names c.with_cut_counts-cut.ensures ∙ names-cut rules in
    reply-kind c.table_line.result file (RepliesTo file text TableTask) (Tabled (names cut) cans)
    (c.table_line.ensures file)
    (subst (λ (l : List (List ℕ)). RepliesTo file text TableTask (Tabled l cans)) (sym same) (tabled read c.requires outcomes))
