use Rattle.std.proofs.Common.{◌≡◌, ℕ, ◌+◌, ◌*◌, ◌<◌, ◌≤◌, ◌∙◌, List, length, ap, Err, arith}
use Rattle.std.proofs.Math.Logic.{∥∥₁_elim}
use Rattle.std.proofs.lemmas.Nat.{mul-le}
use Rattle.peg_semantics.specs.Depth.{max_cases}
use Rattle.peg_semantics.specs.Grammar.{max_parts}
use Rattle.peg_semantics.specs.Rules.{Rule, weight_of}
use Rattle.peg_semantics.proofs.EnoughDepth.{start-within}
use Rattle.peg_grammar.specs.GrammarRules.{rules_in}
use Rattle.peg_grammar.specs.Limits.{max_text_bytes}
use Rattle.peg_grammar.specs.declared.evaluator.PlainFault.TheVariants.{DepthUsed}
use Rattle.peg_grammar.proofs.total_evaluator.plain_total.Goals as goal

-- a grammar has fewer states on a text than the greatest depth
depth-enough : (rules : List Rule) (text : List ℕ) → weight_of rules ≤ max_parts → length text ≤ max_text_bytes
    → max_cases rules text ≤ 18446744073709551615
depth-enough rules text light short =
    let most =
    mul-le (1 + 2 * weight_of rules) (length text + 1) 8388609 67108865 (omega (arith, light))
    (omega (arith, short)) in
    omega (arith, most)

pub unreachable-requires : goal.unreachable-requires
unreachable-requires c =
    let rules = rules_in c.args.grammar.now in
    let text = c.args.text.now in
    let why : c.plain_match.result ≡ Err DepthUsed =
    c.in-Err-DepthUsed.is ∙ ap (λ f. Err f) c.in-Err-DepthUsed.field-0-is in
    let not_long : max_text_bytes < length text → ⊥ = λ long. let stated = c.plain_match.ensures.long.1 long in cc in
    let short : length text ≤ max_text_bytes = grind (arith, not_long) in
    ∥∥₁_elim c.requires.well_formed (hlevel)
    (λ grammar.
    start-within rules text c.args.start 18446744073709551615 c.requires.start grammar
    (depth-enough rules text c.args.grammar.now.light short) (c.plain_match.ensures.deep why))
