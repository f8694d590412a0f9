use Rattle.std.proofs.Common.{Ok, refl, subst}
use Rattle.peg_explain_files.specs.Listings.{IsListingFrom, LeadsBySource}
use Rattle.peg_explain_files.specs.Names.{Broken}
use Rattle.peg_explain_files.specs.Progress.{progress_of}
use Rattle.peg_explain_files.specs.Tasks.{setting_of}
use Rattle.peg_explain_files.specs.declared.listing.ListEnd.{ListEnd}
use Rattle.peg_explain_files.specs.declared.reports.TextReport.TheVariants as report
use Rattle.peg_explain_files.proofs.FaultLemmas.{list-added}
use Rattle.peg_explain_files.proofs.listing.explain_listed.Goals as goal

pub returns-in-Broken-clause-leads : goal.returns-in-Broken-clause-leads
returns-in-Broken-clause-leads g c start =
    let files = g.O.Opener.file_at c.args.task.now.files.now in
    let task = c.args.task.now in
    let left = g.S.Source.left c.args.list.now in
    let never = g.S.Source.never_fails c.args.list.now in
    let a = progress_of (g.W.Sink.written c.args.output.now) c.args.run.now.ended in
    let written = g.W.Sink.written c.explain_source.new.output in
    let b = progress_of written c.explain_source.new.run.ended in
    let leads = subst (λ (e : ListEnd). LeadsBySource left never (setting_of files task) a b (Ok e)) c.in-Broken.is
    (c.in_ok-explain_source.ensures.leads start) in
    list-added (IsListingFrom left never) files task (Broken leads.0) report.Unreadable a written
    c.explain_source.new.run.ended c.add_fault.new.run.ended c.add_fault.result leads.1 refl (λ name. refl) leads.2
    c.add_fault.ensures.added c.add_fault.ensures.memory
