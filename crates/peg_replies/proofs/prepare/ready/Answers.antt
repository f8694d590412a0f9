use Rattle.std.proofs.Common.{◌≡◌, ◌∙◌, Bool, List, Option, ap, length, refl, subst, sym}
use Rattle.peg_parser.specs.Engine.{shown_parser_rules}
use Rattle.peg_parser.specs.Parser.{parser_rules}
use Rattle.peg_semantics.specs.Rules.{Rule}
use Rattle.peg_semantics.specs.Terminals.{extents_of_terminals}
use Rattle.peg_replies.specs.Commands.{nodes_asked}
use Rattle.peg_replies.specs.PrintedNodes.{ShowsPrinted}
use Rattle.peg_replies.proofs.PreparedLemmas.{accepted-once}
use Rattle.peg_replies.proofs.prepare.ready.Goals as goal

pub returns : goal.returns
returns c =
    let printing = c.args.printing in
    let nodes = nodes_asked printing.nodes in
    let same : shown_parser_rules c.showing-shown.result ≡ parser_rules c.args.parser =
    c.showing-shown.ensures.rules ∙ accepted-once c.args.file.now (parser_rules c.in-Ok.other) (parser_rules c.args.parser)
    c.in-Ok.ensures.accepted c.requires.accepts in
    let shows = subst (λ (s : Option (List Bool)). ShowsPrinted (shown_parser_rules c.showing-shown.result) s printing.form nodes)
    (sym c.showing-shown.ensures.shown)
    (subst (λ (l : List Rule). ShowsPrinted l c.in_ok-set.set printing.form nodes)
    (c.grammar.ensures ∙ sym c.showing-shown.ensures.rules) c.in_ok-set.ensures) in (
      record {
        accepts = c.requires.accepts;
        same = same;
        shows = shows;
        known = c.requires.known.0;
        start = c.requires.known.1;
      },
      refl,
      refl,
    )

pub invariant_of-result : goal.invariant_of-result
invariant_of-result c =
    let same = c.showing-shown.ensures.rules ∙ accepted-once c.args.file.now (parser_rules c.in-Ok.other)
    (parser_rules c.args.parser) c.in-Ok.ensures.accepted c.requires.accepts in
    record { rules = ap length same; spans = ap extents_of_terminals same }
