use Rattle.std.proofs.Common.{rules as by_rules, ◌≡◌, ◌<◌, List, Some, length, slice_get, subst, ◌∙◌}
use Rattle.peg_bytes.specs.Extent.{Extent, extent}
use Rattle.peg_grammar.specs.GrammarRules.{rules_in}
use Rattle.peg_semantics.specs.Terminals.{extents_of_terminals}
use Rattle.peg_handle.proofs.SpanLemmas.{spans_next}
use Rattle.peg_handle.proofs.selecting.terminal_spans.Goals as goal

pub terminals-preserved : goal.terminals-preserved
terminals-preserved c =
    let places = extents_of_terminals (rules_in c.args.grammar.now) in
    let terminal = c.terminals.terminal in
    let same = c.in_ok-core.ensures.spans in
    let within : terminal < length places = search by_rules in
    c.in_ok-push.ensures.items
    ∙ spans_next places terminal (extent c.terminal_span-span.result) c.terminals.spans.items within
    (subst (λ (l : List Extent). slice_get l terminal ≡ Some (extent c.terminal_span-span.result)) same
    c.terminal_span-span.ensures) c.terminals.invariant
