use Rattle.std.proofs.Common.{◌∙◌, ℕ, List, Some, ap, subst, sym}
use Rattle.peg_records.specs.Ahead.{IsGivenFor}
use Rattle.peg_records.specs.Readers.{EndsWith, record_at}
use Rattle.peg_records.specs.Records.{line_feeds_of}
use Rattle.peg_record_files.specs.Runs.{AddsToLines}
use Rattle.peg_record_files.proofs.ReplyLemmas.{adds-none}
use Rattle.peg_record_files.proofs.run.RecordRun.push_last.Goals as goal

pub returns-in_ok-push-clause-all : goal.returns-in_ok-push-clause-all
returns-in_ok-push-clause-all g c ahead before =
    let reader = c.last.new.self in
    let end = subst (λ found. EndsWith found reader ahead) c.if-last.true (c.last.ensures.last ahead before) in
    let limit = ap (λ s. s.1) c.last.ensures.settings ∙ c.requires.limit in
    let given = subst (λ n. IsGivenFor n (record_at reader) end.0) limit end.2 in
    let same = ap (λ s. s.0) c.last.ensures.settings in
    let feeds = c.line_feeds-line_feeds.ensures ∙ (end.3 ∙ ap (λ e. line_feeds_of e end.0) same) in
    let pushed = c.in_ok-push.ensures.line c.args.self.now.reader.end end.0 (subst (λ (l : List ℕ).
    IsGivenFor (g.P.RecordPrinter.max_bytes c.args.printer.now) l end.0) (sym c.record.ensures) given) feeds in
    subst (λ (l : List (List ℕ)). AddsToLines (g.P.RecordPrinter.replies c.args.printer.now) c.args.filter c.args.self.now.reader.end l
    c.args.self.now.lines c.push.new.self) (sym end.1) pushed

pub returns-else-last-clause-all : goal.returns-else-last-clause-all
returns-else-last-clause-all g c ahead before =
    let lines = c.args.self.now.lines in
    let end = subst (λ found. EndsWith found c.last.new.self ahead) c.if-last.false (c.last.ensures.last ahead before) in
    subst (λ (l : List (List ℕ)). AddsToLines (g.P.RecordPrinter.replies c.args.printer.now) c.args.filter c.args.self.now.reader.end l lines lines)
    (sym end) (adds-none (g.P.RecordPrinter.replies c.args.printer.now) c.args.filter c.args.self.now.reader.end lines (Some lines.lines.items))
