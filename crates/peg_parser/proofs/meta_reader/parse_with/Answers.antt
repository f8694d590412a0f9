use Rattle.peg_parser.specs.Parser.{parser_rules}
use Rattle.peg_parser.proofs.FigureReading.{outcome_of, matched_tree, failed_none}
use Rattle.peg_parser.proofs.meta_reader.parse_with.Goals as goal

pub returns-in-Some-clause-tree : goal.returns-in-Some-clause-tree
returns-in-Some-clause-tree c =
    matched_tree c.args.file.now c.in-Ok.answer.outcome
    (outcome_of (parser_rules c.args.parser.now) c.args.file.now c.in-Ok.answer.outcome c.requires.rules c.in-Ok.ensures.parse.outcome)
    c.in-Some.ensures.0 c.in-Some.tree c.in-Some.ensures.1

pub returns-in-None-clause-none : goal.returns-in-None-clause-none
returns-in-None-clause-none c stated =
    failed_none c.args.file.now c.in-Ok.answer.outcome
    (outcome_of (parser_rules c.args.parser.now) c.args.file.now c.in-Ok.answer.outcome c.requires.rules c.in-Ok.ensures.parse.outcome)
    c.in-None.ensures
