use Rattle.std.proofs.Common.{◌∙◌, sym}
use Rattle.peg_explain_files.specs.Tasks.{setting_of}
use Rattle.peg_explain_files.proofs.ProgressLemmas.{Explains-empty}
use Rattle.peg_explain_files.proofs.listing.explain_part.Goals as goal

pub returns-then-is_empty-clause-leads : goal.returns-then-is_empty-clause-leads
returns-then-is_empty-clause-leads g c start =
    Explains-empty (setting_of (g.O.Opener.file_at c.args.task.now.files.now) c.args.task.now) c.args.part.now _
    (sym c.is_empty.ensures ∙ c.if-is_empty.true)
