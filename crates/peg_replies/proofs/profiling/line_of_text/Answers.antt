use Rattle.std.proofs.Common.{◌≡◌, IfOk, List, None, Ok, Err, ap, subst, sym, ◌∙◌, length}
use Rattle.peg_parser.specs.Cause.{NoSuchStart, TextTooLong}
use Rattle.peg_parser.specs.Engine.{rules_shown, shown_parser_rules}
use Rattle.peg_parser.specs.Parser.{start_named}
use Rattle.peg_parser.specs.declared.parser.ParseFault.TheVariants.{NoSuchStart as NoStart}
use Rattle.peg_semantics.specs.Rules.{Rule, names}
use Rattle.peg_semantics.specs.Starts.{start_name}
use Rattle.peg_json.specs.Lines.{IsReply, line_bytes}
use Rattle.peg_json.specs.ProfileReplies.{ProfilesTo, text_over_limit}
use Rattle.peg_json.specs.ProfileText.{end_of}
use Rattle.peg_json.specs.Reply.{Profiled, Refused}
use Rattle.peg_json.specs.Statuses.{status_code}
use Rattle.peg_json.proofs.ParseLemmas.{start-given}
use Rattle.peg_json.proofs.PrintLemmas.{reply-kind}
use Rattle.peg_replies.proofs.ParsedLines.{given-name}
use Rattle.peg_replies.proofs.ProfiledLines.{long-profile, no_start-profile, profile-replies}
use Rattle.peg_replies.proofs.profiling.line_of_text.Goals as goal

pub returns-in-Ok : goal.returns-in-Ok
returns-in-Ok c file =
    let rules = shown_parser_rules c.args.parser.now in
    let profile = c.in-Ok.profile in
    let start = start_named c.args.options.now in
    let memo = c.args.options.now.memo in
    let steps = c.args.options.now.steps in
    let some : (start_name rules start ≡ None → ⊥) =
    λ none. let both : Ok profile ≡ Err NoStart = sym c.in-Ok.is ∙ c.of_text.ensures.faults.no_start.1 none in cc in
    let reply_of = λ (l : List Rule). Profiled (end_of profile.answer) profile.steps (names l) profile.rules.items in
    reply-kind c.profile_line.result file (ProfilesTo rules c.args.text.now start memo steps) (reply_of rules)
    (subst (λ (l : List Rule). IfOk c.profile_line.result (λ line.
    IsReply file (reply_of l) (line_bytes line) (status_code line.status))) c.grammar.ensures (c.profile_line.ensures file))
    (profile-replies (rules_shown c.args.parser.now) rules c.args.text.now start memo steps profile c.in-Ok.ensures.short some c.in-Ok.ensures.outcome
    c.in-Ok.ensures.rules c.in-Ok.ensures.enough c.in-Ok.ensures.exact c.in-Ok.ensures.steps c.in-Ok.ensures.allowed c.in-Ok.ensures.stopped
    c.in-Ok.ensures.limited c.in-Ok.ensures.limit)

pub returns-in-Err-NoSuchStart : goal.returns-in-Err-NoSuchStart
returns-in-Err-NoSuchStart c file =
    let rules = shown_parser_rules c.args.parser.now in
    let start = start_named c.args.options.now in
    let memo = c.args.options.now.memo in
    let steps = c.args.options.now.steps in
    let none = c.of_text.ensures.faults.no_start.0 (c.in-Err-NoSuchStart.is ∙ ap Err c.in-Err-NoSuchStart.field-0-is) in
    let named = start-given rules start none in
    let same : c.unwrap_or.result.now ≡ named.0 =
    ap (λ name. name.now) c.unwrap_or.ensures ∙ given-name (λ name. name.now) c.args.options.now.start _ named.0 named.1 in
    no_start-profile c.no_start.result file rules c.args.text.now start memo steps named.0 named.1 none
    (λ long. c.no_start.ensures.long long file) (λ short. subst (λ name. IfOk c.no_start.result (λ line.
    IsReply file (Refused (NoSuchStart name)) (line_bytes line) (status_code line.status))) same
    (c.no_start.ensures.missing short file))

pub returns-in-Err-TextTooLong : goal.returns-in-Err-TextTooLong
returns-in-Err-TextTooLong c file =
    let rules = shown_parser_rules c.args.parser.now in
    let start = start_named c.args.options.now in
    let is = c.in-Err-TextTooLong.is ∙ ap Err c.in-Err-TextTooLong.field-0-is in
    reply-kind c.long_text_line.result file
    (ProfilesTo rules c.args.text.now start c.args.options.now.memo c.args.options.now.steps) (Refused TextTooLong)
    (c.long_text_line.ensures file)
    (text_over_limit (long-profile c.of_text.result rules start (length c.args.text.now) is c.of_text.ensures.faults.no_start
    c.of_text.ensures.faults.long))
