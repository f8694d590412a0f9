use Rattle.std.proofs.Common.{◌≡◌, ◌<◌, ℕ, All, IsTrue, List, [], ◌∷◌, ◌++◌, Some, ap, length, subst, sym, ◌∙◌}
use Rattle.peg_grammar.specs.GrammarRules.{rules_in}
use Rattle.peg_lint.specs.FileWarnings.{FindsAll, IsTrueWarningIn, is_selected}
use Rattle.peg_lint.specs.Warnings.{AreDistinct, IsInWrittenOrder}
use Rattle.peg_parser.specs.Parser.{parser_rules}
use Rattle.peg_semantics.specs.Rules.{Rule, names}
use Rattle.peg_json.specs.Lints.{LintsTo, start_number, warned}
use Rattle.peg_json.specs.Reply.{Linted, Reply}
use Rattle.peg_handle.specs.PrintedLines.{PrintsReply}
use Rattle.peg_handle.specs.declared.content.PrintedLine.{PrintedLine}
use Rattle.peg_handle.proofs.printing.warnings_from.Goals as goal

pub file_warnings-requires : goal.file_warnings-requires
file_warnings-requires c =
    let known = c.in_ok-core.ensures in
    record {
      core = record { forms = known.forms; bodies = known.bodies };
      start = subst (λ (rules : List Rule). c.args.rule < length rules) (sym c.grammar-rules.ensures) c.requires;
    }

pub returns : goal.returns
returns c start is =
    let file = c.deref-file.result.now in
    let rules = rules_in c.grammar-rules.result.now in
    let rule = c.args.rule in
    let found = c.deref-warnings.result.now in
    let same = sym c.deref-warnings.ensures.value in
    let line : PrintedLine = record { json = c.in_ok-json.json } in
    let numbered : start_number rules start ≡ Some rule =
    ap (λ (l : List Rule). start_number l start) c.grammar-rules.ensures ∙ is in
    let Lints = λ (file : List ℕ) (rules : List Rule). (reply : Reply)
    × LintsTo file rules start c.args.selection reply × PrintsReply file reply line in
    subst (λ (bytes : List ℕ). Lints bytes (parser_rules c.args.grammar.now.parser)) c.deref-file.ensures.value
    (subst (λ (l : List Rule). Lints file l) c.grammar-rules.ensures (
      Linted (names rules) found,
      warned rule found numbered (subst (All (IsTrueWarningIn file rules rule)) same c.in_ok-found.ensures.true_warnings)
          (subst (All (λ warning. IsTrue (is_selected c.args.selection warning))) same c.in_ok-found.ensures.selected)
          (subst (FindsAll file rules rule c.args.selection) same c.in_ok-found.ensures.all)
          (subst IsInWrittenOrder same c.in_ok-found.ensures.in_order)
          (subst AreDistinct same c.in_ok-found.ensures.distinct),
      ap (λ (text : List ℕ). text ++ 10 ∷ []) c.in_ok-json.ensures,
    ))
