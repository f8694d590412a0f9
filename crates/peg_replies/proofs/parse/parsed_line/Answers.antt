use Rattle.std.proofs.Common.{◌≡◌, ℕ, IfOk, IfSome, List, None, Ok, Err, Option, Result, ap, subst, sym, ◌∙◌, length}
use Rattle.peg_code.specs.ShownRules.{is_shown_by}
use Rattle.peg_grammar.specs.Outcomes.{IsParseOutcome}
use Rattle.peg_semantics.specs.Starts.{start_name}
use Rattle.peg_tree.specs.declared.outcome.Outcome.{Outcome}
use Rattle.peg_parser.specs.Cause.{NoSuchStart, StepLimit, TextTooLong}
use Rattle.peg_machine.specs.declared.answer.Answer.{Answer}
use Rattle.peg_parser.specs.ParseContract.{IsParse}
use Rattle.peg_parser.specs.Parser.{parser_rules, start_named}
use Rattle.peg_parser.specs.declared.parser.ParseFault.{ParseFault}
use Rattle.peg_parser.specs.declared.parser.ParseFault.TheVariants.{NoSuchStart as NoStart, StepLimit as ManySteps, TextTooLong as LongText}
use Rattle.peg_parser.proofs.OutcomeFits.{outcome-fits}
use Rattle.peg_json.specs.Parses.{ParsesToAsked, PrintsOutcomeAsked, selected_outcome, text_too_long, too_many_steps}
use Rattle.peg_json.specs.Lines.{IsLineOf, IsReply, line_bytes}
use Rattle.peg_json.specs.Reply.{Refused}
use Rattle.peg_json.specs.Statuses.{status_code}
use Rattle.peg_json.proofs.ParseLemmas.{outcome-parses, start-given}
use Rattle.peg_json.proofs.PrintLemmas.{kind-weaker, refused-with_text, reply-kind}
use Rattle.peg_replies.specs.Commands.{nodes_asked}
use Rattle.peg_replies.specs.PrintedNodes.{shown_by}
use Rattle.peg_replies.proofs.ParsedLines.{given-name, no_start-line, long-text, short-text, within-steps}
use Rattle.peg_replies.proofs.SelectedAnswers.{found-selected, lines-agree}
use Rattle.peg_replies.proofs.parse.parsed_line.Goals as goal

pub returns-in-Ok : goal.returns-in-Ok
returns-in-Ok c set file shows parse =
    let printing = c.args.printing in
    let rules = parser_rules c.args.parser.now in
    let shown = shown_by rules (nodes_asked printing.nodes) in
    let start = start_named c.args.options.now in
    let memo = c.args.options.now.memo in
    let steps = c.args.options.now.steps in
    let outcome = c.in-Ok.answer.outcome in
    let found = subst (λ (r : Result Answer ParseFault). IsParse set None rules c.args.text.now start (memo ≡ 0) steps r)
    c.in-Ok.is parse in
    let some : (start_name rules start ≡ None → ⊥) =
    λ none. let both : Ok c.in-Ok.answer ≡ Err NoStart = sym c.in-Ok.is ∙ parse.faults.no_start.1 none in cc in
    let selection = found-selected c.selecting_all_rules_changes_nothing.ensures rules c.args.text.now start set outcome some
    found.outcome in
    let whole = selection.1.whole in
    let line = subst (λ (o : Outcome). IfOk c.tree_line.result (λ line. IsLineOf file
    (PrintsOutcomeAsked rules o c.args.text.now printing.all printing.form printing.with_bytes) (line_bytes line)
    (status_code line.status))) selection.1.same
    (c.tree_line.ensures file) in
    let agreed = lines-agree c.tree_line.result file rules whole c.args.text.now printing.all printing.with_bytes
    (is_shown_by set) shown printing.form shows
    (outcome-fits c.a_selected_tree_has_no_other_rules.ensures None rules c.args.text.now selection.0.0 whole
    selection.1.is).tree line in
    let parses = outcome-parses rules c.args.text.now start memo steps printing.all printing.form shown whole
    found.short
    record {
      enough = found.limit.enough;
      within = within-steps (start_name rules start) rules c.args.text.now steps c.in-Ok.answer found.steps.own
          found.steps.allowed;
    } some
    (subst (λ (found : Option (List ℕ)). IfSome found (λ from. IsParseOutcome rules c.args.text.now from whole))
    (sym selection.0.1) selection.1.is) in
    kind-weaker c.tree_line.result file
    (PrintsOutcomeAsked rules (selected_outcome shown whole) c.args.text.now printing.all printing.form printing.with_bytes)
    (ParsesToAsked rules c.args.text.now start memo steps printing.all printing.form shown printing.with_bytes)
    (λ reply asked. (asked.0, parses asked.0 asked.1, asked.2)) agreed

pub returns-in-Err-NoSuchStart : goal.returns-in-Err-NoSuchStart
returns-in-Err-NoSuchStart c set file shows parse =
    let printing = c.args.printing in
    let rules = parser_rules c.args.parser.now in
    let shown = shown_by rules (nodes_asked printing.nodes) in
    let start = start_named c.args.options.now in
    let memo = c.args.options.now.memo in
    let steps = c.args.options.now.steps in
    let why : c.in-Err-NoSuchStart.field-0 ≡ NoStart = rw c.in-Err-NoSuchStart.is at c.in-Err-NoSuchStart.field-0-is in
    let none = parse.faults.no_start.0 (c.in-Err-NoSuchStart.is ∙ ap Err why) in
    let named = start-given rules start none in
    let same : c.unwrap_or.result.now ≡ named.0 =
    ap (λ name. name.now) c.unwrap_or.ensures ∙ given-name (λ name. name.now) c.args.options.now.start _ named.0 named.1 in
    no_start-line c.no_start.result file rules c.args.text.now start memo steps printing.all printing.form shown
    printing.with_bytes named.0
    named.1 none
    (λ long. c.no_start.ensures.long long file) (λ short. subst (λ name. IfOk c.no_start.result (λ line.
    IsReply file (Refused (NoSuchStart name)) (line_bytes line) (status_code line.status))) same
    (c.no_start.ensures.missing short file))

pub returns-in-Err-TextTooLong : goal.returns-in-Err-TextTooLong
returns-in-Err-TextTooLong c set file shows parse =
    let printing = c.args.printing in
    let rules = parser_rules c.args.parser.now in
    let shown = shown_by rules (nodes_asked printing.nodes) in
    let start = start_named c.args.options.now in
    let memo = c.args.options.now.memo in
    let steps = c.args.options.now.steps in
    let why : c.in-Err-TextTooLong.field-0 ≡ LongText = rw c.in-Err-TextTooLong.is at c.in-Err-TextTooLong.field-0-is in
    let is = c.in-Err-TextTooLong.is ∙ ap Err why in
    reply-kind c.long_text_line.result file
    (ParsesToAsked rules c.args.text.now start memo steps printing.all printing.form shown printing.with_bytes)
    (Refused TextTooLong) (c.long_text_line.ensures file) (
      Refused TextTooLong,
      text_too_long (long-text c.args.parsed rules start (length c.args.text.now) is parse.faults.no_start
          parse.faults.long),
      refused-with_text printing.with_bytes c.args.text.now TextTooLong,
    )

pub returns-in-Err-StepLimit : goal.returns-in-Err-StepLimit
returns-in-Err-StepLimit c set file shows parse =
    let printing = c.args.printing in
    let rules = parser_rules c.args.parser.now in
    let shown = shown_by rules (nodes_asked printing.nodes) in
    let start = start_named c.args.options.now in
    let memo = c.args.options.now.memo in
    let steps = c.args.options.now.steps in
    let why : c.in-Err-StepLimit.field-0 ≡ ManySteps = rw c.in-Err-StepLimit.is at c.in-Err-StepLimit.field-0-is in
    let is = c.in-Err-StepLimit.is ∙ ap Err why in
    let more = parse.limit.limited is in
    reply-kind c.step_limit_line.result file
    (ParsesToAsked rules c.args.text.now start memo steps printing.all printing.form shown printing.with_bytes)
    (Refused StepLimit) (c.step_limit_line.ensures file) (
      Refused StepLimit,
      too_many_steps (short-text c.args.parsed (length c.args.text.now) is (parse.faults.long more.0 more.1)) more,
      refused-with_text printing.with_bytes c.args.text.now StepLimit,
    )
