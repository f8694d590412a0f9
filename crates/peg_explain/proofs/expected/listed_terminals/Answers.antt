use Rattle.std.proofs.Common.{◌≡◌, ◌∙◌, ℕ, [], ◌∷◌, ◌++◌, ap, get_or, map, slice_index_or, sym}
use Rattle.std.proofs.lemmas.List.{map-append}
use Rattle.std.proofs.lemmas.Option.{get_or_from_slice_get}
use Rattle.peg_bytes.specs.Extent.{Extent, between, extent}
use Rattle.peg_parser.specs.Parser.{parser_rules}
use Rattle.peg_semantics.specs.Terminals.{extents_of_terminals}
use Rattle.peg_explain.proofs.MappedLemmas.{get_or-other, mapped-more}
use Rattle.peg_explain.proofs.expected.listed_terminals.Goals as goal

pub numbers-preserved : goal.numbers-preserved
numbers-preserved c =
    let all = extents_of_terminals (parser_rules c.args.parser.now) in
    let numbers = c.args.numbers.now in
    let index = c.numbers.number-index in
    let number = get_or numbers index 0 in
    let at = λ (n : ℕ). slice_index_or all n (between 0 0) in
    let here : extent c.terminal_span.result ≡ at number =
    sym (get_or_from_slice_get all number (extent c.terminal_span.result) (between 0 0) c.terminal_span.ensures) in
    ap (map extent) c.in_ok-push.ensures.items
    ∙ map-append extent c.numbers.spans.items (c.terminal_span.result ∷ [])
    ∙ ap (λ (e : Extent). map extent c.numbers.spans.items ++ e ∷ []) here
    ∙ mapped-more at numbers index number (map extent c.numbers.spans.items) c.numbers-test.true
    (get_or-other numbers index 0 number c.numbers-test.true) c.numbers.invariant
