use denote.Param.SendFields.{variants_send, variants_sync}
use Rattle.peg_handle.specs.contracts.content.Content as content
use Rattle.peg_c.proofs.laws.contents_cross_threads.Goals as goal

pub returns-clause-send : goal.returns-clause-send
returns-clause-send c =
    variants_send content.enum (
      (c.grammar_files_cross_threads.ensures.send, tt),
      (
        (c.rejections_cross_threads.ensures.send, tt),
        (
          (c.matches_cross_threads.ensures.send, tt),
          (
            (c.explanations_cross_threads.ensures.send, tt),
            (
              (c.text_explainers_cross_threads.ensures.send, tt),
              (
                (c.printed_lines_cross_threads.ensures.send, tt),
                ((c.selecting_parsers_cross_threads.ensures.send, tt), tt),
              ),
            ),
          ),
        ),
      ),
    )

pub returns-clause-sync : goal.returns-clause-sync
returns-clause-sync c =
    variants_sync content.enum (
      (c.grammar_files_cross_threads.ensures.sync, tt),
      (
        (c.rejections_cross_threads.ensures.sync, tt),
        (
          (c.matches_cross_threads.ensures.sync, tt),
          (
            (c.explanations_cross_threads.ensures.sync, tt),
            (
              (c.text_explainers_cross_threads.ensures.sync, tt),
              (
                (c.printed_lines_cross_threads.ensures.sync, tt),
                ((c.selecting_parsers_cross_threads.ensures.sync, tt), tt),
              ),
            ),
          ),
        ),
      ),
    )
