use denote.Param.Send.{IsSend, IsSync, sendable}
use denote.Param.SendFields.{declared_send, declared_sync, variants_send, variants_sync}
use Rattle.std.specs.contracts.option.Option as option
use Rattle.peg_blame.specs.contracts.blame_parser.BlameParser as blame_parser
use Rattle.peg_handle.specs.contracts.content.TextExplainer as text_explainer
use Rattle.peg_c.proofs.laws.text_explainers_cross_threads.Goals as goal

pub returns-clause-send : goal.returns-clause-send
returns-clause-send c =
    let blames : IsSend blame_parser.the_row = c.blame_parsers_cross_threads.ensures.send in
    declared_send text_explainer.the_type (
      c.grammar_files_cross_threads.ensures.send,
      (variants_send (option.enum blame_parser.the_row) (tt, ((search (sendable, blames) depth 20, tt), tt)), tt),
    )

pub returns-clause-sync : goal.returns-clause-sync
returns-clause-sync c =
    let blames : IsSync blame_parser.the_row = c.blame_parsers_cross_threads.ensures.sync in
    declared_sync text_explainer.the_type (
      c.grammar_files_cross_threads.ensures.sync,
      (variants_sync (option.enum blame_parser.the_row) (tt, ((search (sendable, blames) depth 20, tt), tt)), tt),
    )
