use Rattle.std.proofs.Common.{ℕ, Ok, subst, sym}
use Rattle.peg_explain_files.specs.Explained.{ExplainsTexts}
use Rattle.peg_explain_files.specs.Names.{list_file}
use Rattle.peg_explain_files.specs.Progress.{progress_of}
use Rattle.peg_explain_files.specs.Tasks.{setting_of}
use Rattle.peg_explain_files.specs.declared.ended.Ended.{Ended}
use Rattle.peg_explain_files.proofs.ListLemmas.{all-explained, list-stopped, started, texts-stopped}
use Rattle.peg_explain_files.proofs.ProgressLemmas.{error-passed}
use Rattle.peg_explain_files.proofs.explaining.explain_all.Goals as goal

pub returns-in_err-explain_texts-clause-explains :
    goal.returns-in_err-explain_texts-clause-explains
returns-in_err-explain_texts-clause-explains g c start =
    let files = g.O.Opener.file_at c.args.task.now.files.now in
    let setting = setting_of files c.args.task.now in
    let list = list_file files (g.I.Source.left c.args.input.now) setting.question.list in
    let old = g.W.Sink.written c.args.output.now in
    let new = g.W.Sink.written c.explain_texts.new.output in
    let fault = c.in_err-explain_texts.field-0.0 in
    error-passed (ExplainsTexts setting list old new) c.from_residual.result fault c.from_residual.ensures.1
    (texts-stopped setting list fault old new (c.in_err-explain_texts.ensures.leads start))

pub returns-in_err-explain_list-clause-explains : goal.returns-in_err-explain_list-clause-explains
returns-in_err-explain_list-clause-explains g c start =
    let files = g.O.Opener.file_at c.args.task.now.files.now in
    let setting = setting_of files c.args.task.now in
    let list = list_file files (g.I.Source.left c.args.input.now) setting.question.list in
    let old = g.W.Sink.written c.args.output.now in
    let new = g.W.Sink.written c.explain_list.new.output in
    let a = progress_of old c.new-run.result.ended in
    let b = progress_of (g.W.Sink.written c.explain_texts.new.output) c.explain_texts.new.run.ended in
    let z = progress_of new c.explain_list.new.run.ended in
    let fault = c.in_err-explain_list.field-0.0 in
    error-passed (ExplainsTexts setting list old new) c.from_residual-in_err-explain_list.result fault
    c.from_residual-in_err-explain_list.ensures.1
    (list-stopped ℕ setting list fault a b z (c.in_ok-explain_texts.ensures.leads start)
    (c.in_err-explain_list.ensures.leads start))

pub returns-clause-explains : goal.returns-clause-explains
returns-clause-explains g c start =
    let files = g.O.Opener.file_at c.args.task.now.files.now in
    let setting = setting_of files c.args.task.now in
    let list = list_file files (g.I.Source.left c.args.input.now) setting.question.list in
    let old = g.W.Sink.written c.args.output.now in
    let new = g.W.Sink.written c.explain_list.new.output in
    let a = progress_of old c.new-run.result.ended in
    let b = progress_of (g.W.Sink.written c.explain_texts.new.output) c.explain_texts.new.run.ended in
    subst (λ (e : Ended). ExplainsTexts setting list old new (Ok e)) (sym c.into_ended.ensures)
    (all-explained {T = ℕ} setting list old new c.explain_list.new.run.ended a b 0
    (started old c.new-run.result.ended c.new-run.ensures.faults c.new-run.ensures.verdict)
    (c.in_ok-explain_texts.ensures.leads start) (c.in_ok-explain_list.ensures.leads start))
