use Rattle.std.proofs.Common.{◌≡◌, ℕ, List, [], ap, codes, false, option_map, refl, subst, sym, true}
use Rattle.std.proofs.KnownBytes.{Keeps-refl}
use Rattle.std.specs.Borrow.{Bor}
use Rattle.peg_io.specs.OpenFaults.{IsOfFile}
use Rattle.peg_explain_files.specs.Listings.{IsListingFrom}
use Rattle.peg_explain_files.specs.Names.{IsListingOf, Unopened, is_input, list_file}
use Rattle.peg_explain_files.specs.Progress.{progress_of}
use Rattle.peg_explain_files.specs.Tasks.{setting_of}
use Rattle.peg_explain_files.specs.declared.reports.TextReport.TheVariants as report
use Rattle.peg_explain_files.proofs.FaultLemmas.{list-added}
use Rattle.peg_explain_files.proofs.ListFileLemmas.{is-input, listed-by_input, listed-by_name, no-list, not-input, unopened-list}
use Rattle.peg_explain_files.proofs.ListLemmas.{list-weaker, list-whole, listing-of, listing-of_input, some-listing}
use Rattle.peg_explain_files.proofs.ProgressLemmas.{Explains-none, Stops-unwritten}
use Rattle.peg_explain_files.proofs.listing.explain_list.Goals as goal

pub returns-in-None-clause-leads : goal.returns-in-None-clause-leads
returns-in-None-clause-leads g c start =
    let files = g.O.Opener.file_at c.args.task.now.files.now in
    let setting = setting_of files c.args.task.now in
    let input = g.I.Source.left c.args.input.now in
    let list = option_map (λ name. name.now) c.args.task.now.query.now.list in
    let a = progress_of (g.W.Sink.written c.args.output.now) c.args.run.now.ended in
    list-whole {T = ℕ} (IsListingOf (list_file files input list)) setting [] a a 0
    (no-list files input list (ap (option_map (λ name. name.now)) c.in-None.is)) (Explains-none setting a)

pub returns-in-Some-text-clause-leads : goal.returns-in-Some-text-clause-leads
returns-in-Some-text-clause-leads g c start =
    let files = g.O.Opener.file_at c.args.task.now.files.now in
    let setting = setting_of files c.args.task.now in
    let input = g.I.Source.left c.args.input.now in
    let never = g.I.Source.never_fails c.args.input.now in
    let list = option_map (λ name. name.now) c.args.task.now.query.now.list in
    let name = c.in-Some-text.field-0.now in
    let text : is_input name ≡ true = is-input name (rw c.in-Some-text.is at c.in-Some-text.is-text) in
    let a = progress_of (g.W.Sink.written c.args.output.now) c.args.run.now.ended in
    let z = progress_of (g.W.Sink.written c.explain_listed.new.output) c.explain_listed.new.run.ended in
    list-weaker (IsListingFrom input never) (IsListingOf (list_file files input list)) setting a z c.explain_listed.result
    (λ listing right. listed-by_input files input list name listing (ap (option_map (λ name. name.now)) c.in-Some-text.is) text
    (listing-of_input input never listing right)) (c.explain_listed.ensures.leads start)

pub returns-in-Ok-clause-leads : goal.returns-in-Ok-clause-leads
returns-in-Ok-clause-leads g c start =
    let files = g.O.Opener.file_at c.args.task.now.files.now in
    let setting = setting_of files c.args.task.now in
    let input = g.I.Source.left c.args.input.now in
    let list = option_map (λ name. name.now) c.args.task.now.query.now.list in
    let name = c.in-Some.name.now in
    let other : is_input name ≡ false = not-input name
    (subst (λ (n : Bor (List ℕ)). n.now ≡ codes "-" → ⊥) c.in-Some.name-is c.in-Some.not-text) in
    let left = g.O.File.Source.left c.in-Ok.source in
    let never = g.O.File.Source.never_fails c.in-Ok.source in
    let a = progress_of (g.W.Sink.written c.args.output.now) c.args.run.now.ended in
    let z = progress_of (g.W.Sink.written c.explain_listed-in-Ok.new.output) c.explain_listed-in-Ok.new.run.ended in
    list-weaker (IsListingFrom left never) (IsListingOf (list_file files input list)) setting a z
    c.explain_listed-in-Ok.result
    (λ listing right. listed-by_name files input list name listing (ap (option_map (λ name. name.now)) c.in-Some.is) other
    (subst (λ (n : Bor (List ℕ)). IsListingOf (files n.now) listing) c.in-Some.name-is
    (listing-of _ left never listing c.in-Ok.ensures.missing c.in-Ok.ensures.bytes c.in-Ok.ensures.readable right)))
    (c.explain_listed-in-Ok.ensures.leads start)

pub returns-in-Err-File-clause-leads : goal.returns-in-Err-File-clause-leads
returns-in-Err-File-clause-leads g c start =
    let files = g.O.Opener.file_at c.args.task.now.files.now in
    let setting = setting_of files c.args.task.now in
    let input = g.I.Source.left c.args.input.now in
    let list = option_map (λ name. name.now) c.args.task.now.query.now.list in
    let name = c.in-Some.name.now in
    let other : is_input name ≡ false = not-input name (rw c.in-Some.is at c.in-Some.not-text) in
    let written = g.W.Sink.written c.args.output.now in
    let a = progress_of written c.args.run.now.ended in
    list-added (IsListingOf (list_file files input list)) files c.args.task.now Unopened report.Unopened a written
    c.args.run.now.ended c.add_fault.new.run.ended c.add_fault.result
    (listed-by_name files input list name Unopened (ap (option_map (λ name. name.now)) c.in-Some.is) other
    (unopened-list (files name) (λ some. (rw c.in-Some.is at c.in-Err-File.ensures.present) some
    (subst IsOfFile (sym c.in-Err-File.field-0-is) tt)))) refl (λ name. refl) (Explains-none setting a)
    c.add_fault.ensures.added c.add_fault.ensures.memory

pub returns-in-Err-Memory-clause-leads : goal.returns-in-Err-Memory-clause-leads
returns-in-Err-Memory-clause-leads g c start =
    let files = g.O.Opener.file_at c.args.task.now.files.now in
    let setting = setting_of files c.args.task.now in
    let list = list_file files (g.I.Source.left c.args.input.now)
    (option_map (λ name. name.now) c.args.task.now.query.now.list) in
    let written = g.W.Sink.written c.args.output.now in
    let some = some-listing list in
    (some.0, some.1, Stops-unwritten setting _ written written (Keeps-refl written))
