use Rattle.std.proofs.Common.{◌≡◌, ◌==◌, ◌||◌, Bool, ap, sym, ◌∙◌, bytes_eq}
use Rattle.std.proofs.Math.Bool.{Bool-set}
use Rattle.std.proofs.Math.Logic.{∥∥₁_elim}
use Rattle.peg_grammar.specs.GrammarRules.{rules_in}
use Rattle.peg_semantics.specs.Rules.{name_of}
use Rattle.peg_tree.specs.Selected.{has_rule}
use Rattle.peg_replies.proofs.ListedNames.{found-named, missing-named}
use Rattle.peg_replies.proofs.nodes.add_named.Goals as goal

pub returns-in-Some-clause-added : goal.returns-in-Some-clause-added
returns-in-Some-clause-added c rule low =
    let rules = rules_in c.args.grammar.now in
    let only : (rule == c.in-Some.rule) ≡ bytes_eq (name_of rules rule) c.args.name.now =
    ∥∥₁_elim c.args.grammar.now.grammar (Bool-set _ _)
    (λ is. found-named rules c.args.name.now c.in-Some.rule rule is (sym c.in-Some.ensures) low) in
    c.insert.ensures.added rule ∙ ap (λ (b : Bool). b || has_rule c.args.set.now rule) only

pub returns-in_default-clause-added : goal.returns-in_default-clause-added
returns-in_default-clause-added c rule low =
    let rules = rules_in c.args.grammar.now in
    ap (λ (b : Bool). b || has_rule c.args.set.now rule)
    (sym (missing-named rules c.args.name.now rule (sym c.in_default.ensures) low))
