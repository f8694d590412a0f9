use Rattle.std.proofs.Common.{◌≡◌, ◌≤◌, ◌∙◌, ℕ, Err, Option, ap, arith, length, subst, unwrap_or}
use Rattle.peg_semantics.specs.Starts.{start_name}
use Rattle.peg_parser.specs.Engine.{shown_parser_rules}
use Rattle.peg_parser.specs.Parser.{start_named}
use Rattle.peg_profile.specs.Profiles.{AreProfilesOf}
use Rattle.peg_profile.proofs.ProfileLemmas.{ended-profiles}
use Rattle.peg_profile.proofs.profile.Profile.of_text.Goals as goal

pub returns-in-Ok-clause-rules : goal.returns-in-Ok-clause-rules
returns-in-Ok-clause-rules c =
    let rules = shown_parser_rules c.args.parser.now in
    let profiles = c.in_ok-rules-in-Ok.rules.items in
    ended-profiles rules c.args.text.now c.args.options.now.memo c.new-calls.result c.trace.new.watch profiles
    c.new-calls.ensures
    (λ calls has. subst (λ (count : ℕ). AreProfilesOf count calls profiles)
    (c.rules-count.ensures.count ∙ ap length c.grammar.ensures) (c.in_ok-rules-in-Ok.ensures calls has))
    (start_name rules (start_named c.args.options.now)) c.in-Ok.answer c.in-Ok.ensures.traced c.in-Ok.ensures.in_order

pub returns-in-Err-StepLimit-clause-steps : goal.returns-in-Err-StepLimit-clause-steps
returns-in-Err-StepLimit-clause-steps c =
    let more = c.trace.ensures.parse.limit.limited (c.in-Err-StepLimit.is ∙ ap Err c.in-Err-StepLimit.field-0-is) in
    let over = more.2 in
    let taken : c.unwrap_or.result ≡ over.0 = c.unwrap_or.ensures ∙ ap (λ (o : Option ℕ). unwrap_or o 0) over.2 in
    let less = over.4 in
    let within : c.unwrap_or.result ≤ over.1 = omega (arith, taken, less) in
    (over.1, (more.0, more.1, over.3), within)
