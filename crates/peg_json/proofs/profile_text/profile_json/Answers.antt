use Rattle.std.proofs.Common.{◌≡◌, IfOk, List, string_bytes, subst}
use Rattle.serde_json.specs.Written.{compact_text}
use Rattle.peg_grammar.specs.GrammarRules.{rules_in}
use Rattle.peg_semantics.specs.Rules.{names}
use Rattle.peg_profile.specs.declared.counts.RuleProfile.{RuleProfile}
use Rattle.peg_json.specs.declared.profile_end.ProfileEnd.{ProfileEnd}
use Rattle.peg_json.specs.ProfileText.{profile_data}
use Rattle.peg_json.proofs.ProfileLemmas.{profile-without_floats}
use Rattle.peg_listings.proofs.SentText.{value-text}
use Rattle.peg_json.proofs.profile_text.profile_json.Goals as goal

pub returns : goal.returns
returns c =
    let rules = names (rules_in c.args.grammar.now) in
    let steps = c.args.profile.now.steps in
    let IsText = λ (end : ProfileEnd) (profiles : List RuleProfile). IfOk c.text_of.result
    (λ text. string_bytes text ≡ compact_text (profile_data end steps rules profiles)) in
    let sent = value-text c.text_of.result (profile_data c.of.result steps rules c.deref.result.now)
    (profile-without_floats c.of.result steps rules c.deref.result.now) c.text_of.ensures in
    subst (λ (end : ProfileEnd). IsText end c.args.profile.now.rules.items) c.of.ensures
    (subst (λ (profiles : List RuleProfile). IsText c.of.result profiles) c.deref.ensures.value sent)
