use Rattle.std.proofs.Common.{◌≡◌, ℕ, List, [], ◌∷◌, ◌++◌, Option, None, Some, ap, option_map, subst, sym, ◌∙◌}
use Rattle.serde_json.specs.Written.{compact_text}
use Rattle.peg_parser.specs.Engine.{rules_shown, shown_parser_rules}
use Rattle.peg_semantics.specs.Rules.{Rule, names}
use Rattle.peg_semantics.specs.Starts.{start_name}
use Rattle.peg_json.specs.ProfileReplies.{ProfilesTo}
use Rattle.peg_json.specs.ProfileText.{end_of, profile_data}
use Rattle.peg_json.specs.Reply.{Profiled}
use Rattle.peg_handle.specs.Starts.{start_of_bytes, step_limit}
use Rattle.peg_handle.proofs.ProfileLemmas.{profile-replies}
use Rattle.peg_handle.proofs.profiling.print_profile.Goals as goal

pub returns-clause-line : goal.returns-clause-line
returns-clause-line c =
    let parser = c.args.selecting.now.parser in
    let rules = shown_parser_rules parser in
    let text = c.args.text.now in
    let memo = c.args.memo in
    let profile = c.in_ok-profile.profile in
    let known = c.in_ok-profile.ensures in
    let named = option_map (λ name. name.now) c.in_ok-start.start in
    let reply = Profiled (end_of profile.answer) profile.steps (names rules) profile.rules.items in
    let there = c.in_ok-start.ensures.some in
    let some : (start_name rules named ≡ None → ⊥) = λ none.
    let no_start = subst (λ (start : Option (List ℕ)). start_name rules start ≡ None) c.in_ok-start.ensures.named none in
    let a_start = subst (λ (l : List Rule). start_name l (start_of_bytes c.args.start.now) ≡ Some there.0)
    c.grammar-grammar.ensures there.1 in
    let bad : None ≡ Some there.0 = sym no_start ∙ a_start in cc in
    let replies = profile-replies (rules_shown parser) rules text named memo c.limit_from.result profile known.short some
    known.outcome known.rules known.enough known.exact known.steps known.allowed known.stopped known.limited
    known.limit in (
      reply,
      subst (λ (start : Option (List ℕ)). ProfilesTo rules text start memo (step_limit c.args.steps) reply)
          c.in_ok-start.ensures.named
          (subst (λ (limit : Option ℕ). ProfilesTo rules text named memo limit reply) c.limit_from.ensures replies),
      λ file. ap (λ (text : List ℕ). text ++ 10 ∷ [])
          (c.in_ok-json.ensures
          ∙ ap (λ (l : List Rule). compact_text
          (profile_data (end_of profile.answer) profile.steps (names l) profile.rules.items)) c.grammar-grammar.ensures),
    )
