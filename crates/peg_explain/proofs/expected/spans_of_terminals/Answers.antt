use Rattle.std.proofs.Common.{◌≡◌, ◌∙◌, ◌<◌, ℕ, All, List, ap, length, map, subst, sym, take}
use Rattle.std.proofs.lemmas.List.Elements.{All-take}
use Rattle.std.proofs.lemmas.Result.{IfOk-weaker}
use Rattle.peg_bytes.specs.Extent.{extent}
use Rattle.peg_parser.specs.Parser.{parser_rules}
use Rattle.peg_semantics.specs.Terminals.{extents_of_terminals}
use Rattle.peg_explain.proofs.ExpectedLemmas.{listed-spans}
use Rattle.peg_explain.proofs.expected.spans_of_terminals.Goals as goal

pub listed_terminals-requires : goal.listed_terminals-requires
listed_terminals-requires c =
    let rules = parser_rules c.args.parser.now in
    subst (All (λ terminal. terminal < length (extents_of_terminals rules))) (sym c.first_numbers.ensures.first)
    (All-take (λ terminal. terminal < length (extents_of_terminals rules)) 65536 c.deref.result.now
    (subst (All (λ terminal. terminal < length (extents_of_terminals rules))) (sym c.deref.ensures.value) c.requires.terminals))

pub returns-clause-spans : goal.returns-clause-spans
returns-clause-spans c =
    let all = extents_of_terminals (parser_rules c.args.parser.now) in
    let first : c.first_numbers.result.now ≡ take 65536 c.args.outcome.now.expected.items =
    c.first_numbers.ensures.first ∙ ap (λ (numbers : List ℕ). take 65536 numbers) c.deref.ensures.value in
    IfOk-weaker c.listed_terminals.result _ _ (λ spans are. listed-spans all c.args.outcome.now c.first_numbers.result.now
    (map extent spans.items) c.if-not-are_items_expected.ensures first are) c.listed_terminals.ensures.spans
