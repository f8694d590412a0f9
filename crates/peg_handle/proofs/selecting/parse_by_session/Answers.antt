use Rattle.std.proofs.Common.{rules as by_rules, ◌≡◌, ◌∙◌, ℕ, List, None, Option, map, option_map, subst, sym}
use Rattle.peg_semantics.specs.Terminals.{extents_of_terminals}
use Rattle.peg_handle.specs.FileSpans.{file_span}
use Rattle.peg_handle.specs.Starts.{start_of_bytes}
use Rattle.peg_parser.specs.Engine.{rules_shown, shown_parser_rules}
use Rattle.peg_parser.specs.SelectedOutcomes.{IsParseOutcomeBy}
use Rattle.peg_parser.specs.StepLimits.{TakesMoreSteps}
use Rattle.peg_handle.proofs.AnswerLemmas.{err_of, is_answer}
use Rattle.peg_handle.proofs.selecting.parse_by_session.Goals as goal

pub returns-clause-answer : goal.returns-clause-answer
returns-clause-answer c =
    let parser = c.args.selecting.now.parser in
    let all : c.args.selecting.now.terminals.items ≡ map file_span (extents_of_terminals (shown_parser_rules parser)) =
    c.args.selecting.now.spans in
    is_answer (IsParseOutcomeBy (rules_shown parser) None (shown_parser_rules parser) c.args.text.now)
    (shown_parser_rules parser) c.args.text.now c.args.start.now c.args.memo
    (option_map (λ name. name.now) c.in_ok-start.start) c.in_ok-answer.answer c.in_ok-found.found
    c.in_ok-start.ensures.named c.in_ok-found.ensures.answer
    (c.in_ok-found.ensures.expected (shown_parser_rules parser) (c.deref.ensures.value ∙ all))
    c.in_ok-answer.ensures.parse.outcome c.in_ok-answer.ensures.parse.fits c.in_ok-answer.ensures.parse.steps.plain
    c.in_ok-answer.ensures.parse.steps.exact c.in_ok-answer.ensures.parse.steps.own

pub returns-clause-limit : goal.returns-clause-limit
returns-clause-limit c =
    let rules = shown_parser_rules c.args.selecting.now.parser in
    let text = c.args.text.now in record {
      limited = search by_rules;
      enough = λ no_memo takes.
          let by_start =
          subst (λ (limit : Option ℕ). TakesMoreSteps rules text (start_of_bytes c.args.start.now) limit)
          (sym c.limit_from.ensures) takes in
          c.in_ok-answer.ensures.parse.limit.enough no_memo
          (subst (λ (start : Option (List ℕ)). TakesMoreSteps rules text start c.limit_from.result)
          (sym c.in_ok-start.ensures.named) by_start);
    }

pub returns-in_err-answer-clause-limit : goal.returns-in_err-answer-clause-limit
returns-in_err-answer-clause-limit c =
    let rules = shown_parser_rules c.args.selecting.now.parser in
    let text = c.args.text.now in record {
      limited = λ is.
          subst (λ (limit : Option ℕ). TakesMoreSteps rules text (start_of_bytes c.args.start.now) limit)
          c.limit_from.ensures
          (subst (λ (start : Option (List ℕ)). TakesMoreSteps rules text start c.limit_from.result)
          c.in_ok-start.ensures.named (c.in_err-answer.ensures.parse.limit.limited
          (err_of _ _ _ c.from_residual-in_err-answer.ensures.1 is)));
      enough = search by_rules;
    }
