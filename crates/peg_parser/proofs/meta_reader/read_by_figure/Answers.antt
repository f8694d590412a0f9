use Rattle.std.proofs.Common.{arith}
use Rattle.peg_grammar.specs.Written.{rules_of}
use Rattle.peg_parser.proofs.FigureReading.{tree_reads, stated_definitions}
use Rattle.peg_parser.proofs.meta_reader.read_by_figure.Goals as goal

pub returns-in_err-definitions_of : goal.returns-in_err-definitions_of
returns-in_err-definitions_of c =
    stated_definitions c.args.file.now c.in_ok-tree.tree c.in_err-definitions_of.field-0.0 (omega arith) c.in_ok-tree.ensures.tree
    c.in_err-definitions_of.ensures.deep c.in_err-definitions_of.ensures.bad c.from_residual-in_err-definitions_of.result c.from_residual-in_err-definitions_of.ensures.1

pub returns : goal.returns
returns c = (
  omega arith,
  tree_reads c.args.file.now c.in_ok-tree.tree (rules_of c.in_ok-definitions_of.field-0.items) c.in_ok-tree.ensures.tree
      c.in_ok-definitions_of.ensures.fine c.in_ok-definitions_of.ensures.spells c.in_ok-definitions_of.ensures.within,
)
