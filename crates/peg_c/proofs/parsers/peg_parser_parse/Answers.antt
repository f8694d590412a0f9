use Rattle.std.specs.Arc.{arc_value}
use Rattle.std.proofs.Common.{ap, ◌∙◌, ◌≡◌, ◌≤◌, IfSome, Option, Some, subst}
use Rattle.peg_handle.specs.Starts.{start_of_bytes, step_limit}
use Rattle.peg_handle.specs.declared.content.Content.{Content}
use Rattle.peg_handle.specs.declared.status.TheConstants.{FAILED}
use Rattle.peg_parser.specs.Engine.{shown_parser_rules}
use Rattle.peg_parser.specs.StepLimits.{TakesMoreSteps}
use Rattle.peg_c.specs.Handles.{held_parser}
use Rattle.peg_c.proofs.parsers.peg_parser_parse.Goals as goal

pub returns-in-Some-clause-enough : goal.returns-in-Some-clause-enough
returns-in-Some-clause-enough c =
    let Enough = λ (held : Option Content). IfSome (held_parser held) (λ parser. c.args.memo ≡ 0
    → c.parse_into-status.result ≤ FAILED
    → ¬ (TakesMoreSteps (shown_parser_rules parser.parser) c.args.text.now (start_of_bytes c.args.start.now) (step_limit c.args.steps))) in
    subst Enough c.in-Some.ensures.content
    (subst (λ (content : Content). Enough (Some content)) (c.deref-in-Some.ensures ∙ ap arc_value c.deref.ensures)
    c.parse_into-status.ensures.enough)
