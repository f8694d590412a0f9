use Rattle.std.proofs.Common.{◌≡◌, ◌∙◌, ◌≤◌, ◌-◌, ℕ, List, Some, arith, drop, length, subst, sym, take}
use Rattle.std.proofs.lemmas.List.{length-drop, take_rest}
use Rattle.std.proofs.lemmas.Result.{IfOk-weaker}
use Rattle.peg_grammar.specs.GrammarRules.{rules_in}
use Rattle.peg_grammar.specs.Limits.{max_text_bytes}
use Rattle.peg_parser.specs.Parser.{start_named}
use Rattle.peg_parser.specs.declared.parser.ParseFault.TheVariants as fault
use Rattle.peg_semantics.specs.Rules.{Rule}
use Rattle.peg_semantics.specs.Starts.{start_name}
use Rattle.peg_explain.proofs.NamingLemmas.{not-memory, rests-by}
use Rattle.peg_explain.proofs.explainer.Explainer.rests_for.Goals as goal

-- the rest of a short text is short
short_rest : (text : List ℕ) (at : ℕ) → length text ≤ max_text_bytes
    → length (take (length text - at) (drop at text)) ≤ max_text_bytes
short_rest text at short =
    subst (λ (rest : List ℕ). length rest ≤ max_text_bytes) (sym (take_rest text at))
    (omega (arith, short, length-drop at text))

pub returns-clause-rests : goal.returns-clause-rests
returns-clause-rests c rules start blame blames same named is_blame =
    let text : List ℕ = c.args.text.now in
    let at = c.named_position-at.result in
    let grammar : rules_in c.grammar-grammar.result.now ≡ rules = c.grammar-grammar.ensures ∙ same in
    IfOk-weaker c.rests.result _ _
    (λ rests are. rests-by rules c.args.spacing.now text start blame.calls c.args.self.now.style.uses_names at _ rests.items
    c.if-not-self.false c.named_position-at.ensures.named are)
    (c.rests.ensures.rests rules text start blame.calls at (record {
      blames = blames;
      grammar = grammar;
      from = c.start_of.ensures start
          (subst (λ (all : List Rule). start_name all (start_named c.args.options.now) ≡ Some start) (sym grammar) named);
      called = c.in_ok-called.ensures.called rules start blame blames named is_blame;
      rest = take_rest text at;
      short = short_rest text at c.requires.short;
    }))

pub returns-clause-no_start : goal.returns-clause-no_start
returns-clause-no_start c rules blames same is =
    let grammar : rules_in c.grammar-grammar.result.now ≡ rules = c.grammar-grammar.ensures ∙ same in
    let bad : fault.NoSuchStart ≡ fault.Memory = not-memory c.rests.result fault.NoSuchStart
    (c.rests.ensures.memory rules blames grammar (short_rest c.args.text.now c.named_position-at.result c.requires.short)) is in
    cc

pub returns-clause-long : goal.returns-clause-long
returns-clause-long c rules start blames same named is =
    let grammar : rules_in c.grammar-grammar.result.now ≡ rules = c.grammar-grammar.ensures ∙ same in
    let bad : fault.TextTooLong ≡ fault.Memory = not-memory c.rests.result fault.TextTooLong
    (c.rests.ensures.memory rules blames grammar (short_rest c.args.text.now c.named_position-at.result c.requires.short)) is in
    cc

pub returns-clause-limited : goal.returns-clause-limited
returns-clause-limited c rules blames same is =
    let grammar : rules_in c.grammar-grammar.result.now ≡ rules = c.grammar-grammar.ensures ∙ same in
    let bad : fault.StepLimit ≡ fault.Memory = not-memory c.rests.result fault.StepLimit
    (c.rests.ensures.memory rules blames grammar (short_rest c.args.text.now c.named_position-at.result c.requires.short)) is in
    cc
