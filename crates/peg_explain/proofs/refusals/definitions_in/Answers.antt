use Rattle.std.proofs.lemmas.Result.{IfOk-weaker}
use Rattle.peg_grammar.specs.Written.{rules_of}
use Rattle.peg_parser.proofs.Readings.{one_reading, read-accepts}
use Rattle.peg_explain.proofs.refusals.definitions_in.Goals as goal

pub returns-in-Ok : goal.returns-in-Ok
returns-in-Ok c = λ rules is.
    one_reading c.args.file.now rules (rules_of c.in-Ok.definitions.items) is.reading.0 c.in-Ok.ensures.reads.1.0

pub returns-in-Err : goal.returns-in-Err
returns-in-Err c =
    IfOk-weaker c.no_definitions.result _ _ (λ definitions other rules is.
    absurd (read-accepts c.args.file.now rules c.in-Err.fault is c.in-Err.ensures.reads other)) c.no_definitions.ensures
