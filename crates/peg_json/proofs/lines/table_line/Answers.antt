use Rattle.std.proofs.Common.{refl, string_bytes}
use Rattle.peg_semantics.specs.Rules.{names}
use Rattle.peg_grammar.specs.GrammarRules.{rules_in}
use Rattle.peg_json.specs.Reply.{Tabled}
use Rattle.peg_check.specs.Exact.{cans_of}
use Rattle.peg_json.specs.declared.status.Status.TheVariants.{Done}
use Rattle.peg_json.proofs.PrintLemmas.{text-reply}
use Rattle.peg_json.proofs.lines.table_line.Goals as goal

pub returns : goal.returns
returns c file =
    text-reply c.new.result file (string_bytes c.in_ok-table_json.field-0) Done
    (Tabled (names (rules_in c.args.grammar.now)) (cans_of c.args.core.now.bodies c.args.table.now))
    c.new.ensures.0 c.new.ensures.1 c.in_ok-table_json.ensures refl
