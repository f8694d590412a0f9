use Rattle.std.proofs.Common.{◌≡◌, ℕ, ◌<◌, ◌+◌, ◌∷◌, ◌++◌, ◌↔◌, [], All, Contains, filter, map, true, length, drop, sym}
use Rattle.std.proofs.Common.{ap, ◌∙◌, subst, arith, length-append, append-nil}
use Rattle.std.proofs.lemmas.List.{drop_all, length-map}
use Rattle.std.proofs.Math.Logic.{∥∥₁_elim}
use mathlib.Core.Bool.{Bool-set}
use Rattle.std.proofs.lemmas.List.Sums.{sum_by-cons}
use Rattle.peg_semantics.specs.Form.{counts_written, form_weight, names_used}
use Rattle.peg_grammar.specs.GrammarRules.{rules_in}
use Rattle.peg_semantics.specs.Loops.{LeftCalls, IsEmptyLoop, IsLeftCycle}
use Rattle.peg_semantics.specs.Rules.{Rule, counts, references}
use Rattle.peg_grammar.specs.Written.{form_of}
use Rattle.peg_core.specs.CoreForm.{core_form, core_bodies, core_bodies_from}
use Rattle.peg_core.specs.CoreLoops.{IsSubformOfBody, CoreLeftCalls, IsCoreEmptyLoop, IsCoreLeftCycle}
use Rattle.peg_core.specs.CoreOutcomes.{IsCoreWellFormed}
use Rattle.peg_core.specs.CoreParts.{are_defined, are_in_range, all_core_parts, core_parts_from}
use Rattle.peg_core.specs.Subexpressions.{Numbered, numbered_subexpressions, is_star}
use Rattle.peg_semantics.specs.WellFormed.{IsWellFormedGrammar}
use Rattle.peg_core.specs.Appending.{AppendsForm}
use Rattle.peg_core.specs.Layout.{Layout, Desugared, form_at}
use Rattle.peg_core.proofs.AddLemmas.{AppendsForm-room, AppendsForm-few, are_defined-left, are_defined-right, are_in_range-left, are_in_range-right}
use Rattle.peg_core.proofs.RuleLemmas.{body_weights, rules-drop, grammar-defined, grammar-ranged, length-all_core_parts, RulesSoFar}
use Rattle.peg_core.proofs.RuleLemmas.{RulesSoFar-start, RulesSoFar-more}
use Rattle.peg_core.proofs.PartsLemmas.{subexpressions-have_core_forms, stars-filtered, grammar-right, grammar-fine}
use Rattle.peg_core.proofs.Meanings.{length-core_bodies}
use Rattle.peg_core.proofs.SugarLoops.{IsEmptyLoop-to_core, IsEmptyLoop-from_core}
use Rattle.peg_core.proofs.SugarMeets.{LeftCalls-to_core, LeftCalls-from_core, IsLeftCycle-to_core}
use Rattle.peg_core.proofs.SugarMeets.{IsLeftCycle-from_core}
use Rattle.peg_core.proofs.SubformLemmas.{all-subforms}
use Rattle.peg_core.proofs.desugaring.desugar.Goals as goal
use Rattle.peg_core.proofs.desugaring.desugar.Goals.{After-new}

pub loop-rule-init : goal.loop-rule-init
loop-rule-init c =
    let rules = rules_in c.args.grammar.now in
    let builder = c.new-builder.result in
    let light = c.args.grammar.now.light in
    let forms = ap length (ap (λ (l : Layout). l.forms) c.new-builder.ensures) in
    let spans = ap length (ap (λ (l : Layout). l.spans) c.new-builder.ensures) in
    let count = ap (λ (l : Layout). l.rules) c.new-builder.ensures ∙ c.rules.ensures.count in
    record {
      room = omega (arith, light, forms);
      few = omega (arith, light, spans);
      rules = count;
      counted = ap length c.new-bodies.ensures.items;
      defined = ∥∥₁_elim c.args.grammar.now.grammar (Bool-set _ _) (grammar-defined rules);
      ranged = ∥∥₁_elim c.args.grammar.now.grammar (Bool-set _ _) (grammar-ranged rules);
      so_far = subst (λ bodies. RulesSoFar rules rules bodies builder) (sym c.new-bodies.ensures.items) (RulesSoFar-start rules builder (c.new-builder.ensures ∙ ap (λ n. record { rules = n; forms = []; spans = [] }) c.rules.ensures.count));
    }

pub add-requires-clause-room : goal.add-requires-clause-room
add-requires-clause-room c =
    let rules = rules_in c.args.grammar.now in
    let step = rules-drop rules c.loop-rule.rule (form_of c.body.result.now) c.body.ensures in
    let weight : body_weights (drop c.loop-rule.rule rules) ≡ form_weight step.0.body + body_weights (drop (c.loop-rule.rule + 1) rules) = ap body_weights step.1 ∙ sum_by-cons (λ (rule : Rule). form_weight rule.body) step.0 (drop (c.loop-rule.rule + 1) rules) in
    omega (arith, c.loop-rule.invariant.room, weight, ap form_weight step.2)

pub add-requires-clause-few : goal.add-requires-clause-few
add-requires-clause-few c =
    let rules = rules_in c.args.grammar.now in
    let step = rules-drop rules c.loop-rule.rule (form_of c.body.result.now) c.body.ensures in
    let weight : body_weights (drop c.loop-rule.rule rules) ≡ form_weight step.0.body + body_weights (drop (c.loop-rule.rule + 1) rules) = ap body_weights step.1 ∙ sum_by-cons (λ (rule : Rule). form_weight rule.body) step.0 (drop (c.loop-rule.rule + 1) rules) in
    omega (arith, c.loop-rule.invariant.few, weight, ap form_weight step.2)

pub add-requires-clause-defined : goal.add-requires-clause-defined
add-requires-clause-defined c =
    let rules = rules_in c.args.grammar.now in
    let step = rules-drop rules c.loop-rule.rule (form_of c.body.result.now) c.body.ensures in
    let rest = drop (c.loop-rule.rule + 1) rules in
    let here = are_defined-left rules (names_used step.0.body) (references rest) (subst (λ some. are_defined rules (references some) ≡ true) step.1 c.loop-rule.invariant.defined) in
    subst (λ e. are_defined rules (names_used e) ≡ true) step.2 here

pub add-requires-clause-ranged : goal.add-requires-clause-ranged
add-requires-clause-ranged c =
    let rules = rules_in c.args.grammar.now in
    let step = rules-drop rules c.loop-rule.rule (form_of c.body.result.now) c.body.ensures in
    let rest = drop (c.loop-rule.rule + 1) rules in
    let here = are_in_range-left (counts_written step.0.body) (counts rest) (subst (λ some. are_in_range (counts some) ≡ true) step.1 c.loop-rule.invariant.ranged) in
    subst (λ e. are_in_range (counts_written e) ≡ true) step.2 here

pub loop-rule-preserved : goal.loop-rule-preserved
loop-rule-preserved c =
    let rules = rules_in c.args.grammar.now in
    let e = form_of c.body.result.now in
    let step = rules-drop rules c.loop-rule.rule e c.body.ensures in
    let rest = drop (c.loop-rule.rule + 1) rules in
    let weight : body_weights (drop c.loop-rule.rule rules) ≡ form_weight step.0.body + body_weights rest = ap body_weights step.1 ∙ sum_by-cons (λ (rule : Rule). form_weight rule.body) step.0 rest in
    let now = c.loop-rule.builder in
    let new = c.add.new.builder in
    let body = c.in_ok-body.body in
    let bodies = c.loop-rule.bodies.items in
    let lays = subst (λ f. AppendsForm rules f now body new) (sym step.2) c.in_ok-body.ensures in
    let so_far = subst (λ some. RulesSoFar rules some bodies now) step.1 c.loop-rule.invariant.so_far in
    let ranged = subst (λ some. are_in_range (counts some) ≡ true) step.1 c.loop-rule.invariant.ranged in
    record {
      room = omega (arith, c.loop-rule.invariant.room, weight, AppendsForm-room rules step.0.body now new body lays (are_in_range-left (counts_written step.0.body) (counts rest) ranged));
      few = omega (arith, c.loop-rule.invariant.few, weight, AppendsForm-few rules step.0.body now new body lays);
      rules = lays.rules ∙ c.loop-rule.invariant.rules;
      counted = omega (arith, c.loop-rule.invariant.counted, ap length c.in_ok-push.ensures.items, length-append bodies (body ∷ []));
      defined = are_defined-right rules (names_used step.0.body) (references rest) (subst (λ some. are_defined rules (references some) ≡ true) step.1 c.loop-rule.invariant.defined);
      ranged = are_in_range-right (counts_written step.0.body) (counts rest) ranged;
      so_far = subst (λ l. RulesSoFar rules rest l new) (sym c.in_ok-push.ensures.items) (RulesSoFar-more rules step.0 rest bodies now new body so_far lays);
    }

-- each form is part of a rule's body
pub new-requires-clause-owned : goal.new-requires-clause-owned
new-requires-clause-owned c =
    let rules = rules_in c.args.grammar.now in
    let builder = c.loop-rule.builder in
    let bodies = c.loop-rule.bodies.items in
    let t = length builder.spans in
    let none : drop c.loop-rule.rule rules ≡ [] = drop_all c.loop-rule.rule rules (omega (arith, c.loop-rule-test.false, c.rules-rule-end.ensures.count)) in
    let forms : builder.forms ≡ all_core_parts rules = sym (append-nil builder.forms) ∙ (ap (λ rest. builder.forms ++ core_parts_from rules t rest) (sym none) ∙ c.loop-rule.invariant.so_far.forms) in
    let each : map (form_at builder.forms) bodies ≡ core_bodies rules = sym (append-nil (map (form_at builder.forms) bodies)) ∙ (ap (λ rest. map (form_at builder.forms) bodies ++ core_bodies_from rules t rest) (sym none) ∙ c.loop-rule.invariant.so_far.each) in
    subst (λ some. All (IsSubformOfBody some) builder.forms) (sym each)
    (subst (All (IsSubformOfBody (core_bodies rules))) (sym forms) (all-subforms rules))

pub returns-clause-few : goal.returns-clause-few
returns-clause-few c =
    let rules = rules_in c.args.grammar.now in
    let builder = c.loop-rule.builder in
    let rest = core_parts_from rules (length builder.spans) (drop c.loop-rule.rule rules) in
    let ranged = ∥∥₁_elim c.args.grammar.now.grammar (Bool-set _ _) (grammar-ranged rules) in
    omega (arith, ap (λ (d : Desugared). length d.forms) c.new.ensures, ap length c.loop-rule.invariant.so_far.forms, length-append builder.forms rest, length-all_core_parts rules ranged)

-- ---- the core forms

-- no rule is left
no_rule_left : (c : After-new) → drop c.loop-rule.rule (rules_in c.args.grammar.now) ≡ []
no_rule_left c =
    drop_all c.loop-rule.rule (rules_in c.args.grammar.now)
    (omega (arith, c.loop-rule-test.false, c.rules-rule-end.ensures.count))

-- they are the core forms of the grammar
are_parts : (c : After-new) → c.new.result.forms ≡ all_core_parts (rules_in c.args.grammar.now)
are_parts c =
    let rules = rules_in c.args.grammar.now in
    let builder = c.loop-rule.builder in
    let t = length builder.spans in
    let none = no_rule_left c in
    ap (λ (d : Desugared). d.forms) c.new.ensures
    ∙ (sym (append-nil builder.forms)
    ∙ (ap (λ rest. builder.forms ++ core_parts_from rules t rest) (sym none) ∙ c.loop-rule.invariant.so_far.forms))

pub returns-clause-subexpressions : goal.returns-clause-subexpressions
returns-clause-subexpressions c =
    let rules = rules_in c.args.grammar.now in
    subst (λ forms. All (λ (e : Numbered). Contains forms (core_form rules e.terminal e.form)) (numbered_subexpressions rules))
    (sym (are_parts c)) (subexpressions-have_core_forms rules)

pub returns-clause-stars : goal.returns-clause-stars
returns-clause-stars c = ap (filter is_star) (are_parts c) ∙ stars-filtered (rules_in c.args.grammar.now)

pub returns-clause-well_formed : goal.returns-clause-well_formed
returns-clause-well_formed c =
    let rules = rules_in c.args.grammar.now in
    subst (λ forms. IsWellFormedGrammar rules ↔ All (IsCoreWellFormed (core_bodies rules)) forms) (sym (are_parts c))
    (grammar-right rules, grammar-fine rules)

-- ---- left calls and loops

-- the bodies are those of the grammar
are_bodies : (c : After-new)
    → map (form_at c.new.result.forms) c.new.result.bodies ≡ core_bodies (rules_in c.args.grammar.now)
are_bodies c =
    let rules = rules_in c.args.grammar.now in
    let builder = c.loop-rule.builder in
    let bodies = map (form_at builder.forms) c.loop-rule.bodies.items in
    let t = length builder.spans in
    let none = no_rule_left c in
    ap (λ (d : Desugared). map (form_at d.forms) d.bodies) c.new.ensures
    ∙ (sym (append-nil bodies)
    ∙ (ap (λ rest. bodies ++ core_bodies_from rules t rest) (sym none) ∙ c.loop-rule.invariant.so_far.each))

-- so there are as many as rules
bodies_within : (c : After-new) (second : ℕ) → second < length c.new.result.bodies
    → second < length (rules_in c.args.grammar.now)
bodies_within c second within =
    let rules = rules_in c.args.grammar.now in
    let mapped = length-map c.new.result.bodies (form_at c.new.result.forms) in
    omega (arith, within, mapped, ap length (are_bodies c), length-core_bodies rules)

pub returns-clause-count : goal.returns-clause-count
returns-clause-count c =
    let mapped = length-map c.new.result.bodies (form_at c.new.result.forms) in
    sym mapped ∙ (ap length (are_bodies c) ∙ length-core_bodies (rules_in c.args.grammar.now))

pub returns-clause-meets : goal.returns-clause-meets
returns-clause-meets c = λ first second within.
    let rules = rules_in c.args.grammar.now in
    subst (λ bodies. LeftCalls rules first second ↔ CoreLeftCalls bodies first second) (sym (are_bodies c)) (
      LeftCalls-to_core rules first second,
      LeftCalls-from_core rules first second (bodies_within c second within),
    )

pub returns-clause-left_cycles : goal.returns-clause-left_cycles
returns-clause-left_cycles c = λ path.
    let rules = rules_in c.args.grammar.now in
    subst (λ bodies. IsLeftCycle rules path ↔ IsCoreLeftCycle bodies path) (sym (are_bodies c))
    (IsLeftCycle-to_core rules path, IsLeftCycle-from_core rules path)

pub returns-clause-empty_loops : goal.returns-clause-empty_loops
returns-clause-empty_loops c = λ rule span.
    let rules = rules_in c.args.grammar.now in
    subst (λ bodies. IsEmptyLoop rules rule span ↔ IsCoreEmptyLoop bodies rule span) (sym (are_bodies c))
    (IsEmptyLoop-to_core rules span rule, IsEmptyLoop-from_core rules span rule)
