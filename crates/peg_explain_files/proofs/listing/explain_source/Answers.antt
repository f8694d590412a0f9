use Rattle.std.proofs.Common.{◌≡◌, ◌∙◌, ◌∷◌, ◌++◌, ◌+◌, ◌≤◌, ℕ, List, [], arith, drop, false, refl, subst, sym, take, true}
use Rattle.std.proofs.KnownBytes.{Consumes-nil, Keeps-refl}
use Rattle.std.proofs.lemmas.Grind.{common_steps}
use Rattle.std.proofs.lemmas.List.{length-append}
use Rattle.std.specs.List.{filter}
use lib.ListN.{length-take}
use lib.Seq.{take-append-le}
use Rattle.peg_explain_files.specs.Listings.{ExplainsParts, LeadsBySource}
use Rattle.peg_explain_files.specs.Names.{is_nonempty, max_list_bytes}
use Rattle.peg_explain_files.specs.Progress.{Leads, progress_of}
use Rattle.peg_explain_files.specs.Tasks.{setting_of}
use Rattle.peg_explain_files.specs.declared.ended.ExplainFault.TheVariants.{Memory}
use Rattle.peg_explain_files.proofs.ListLemmas.{broken-read, ended-names, leads-last, leads-stopped}
use Rattle.peg_explain_files.proofs.PartLemmas.{parts-none, parts-stop_after, parts-trans, parts-unwritten}
use Rattle.peg_explain_files.proofs.ProgressLemmas.{Stops-unwritten, error-passed}
use Rattle.peg_explain_files.proofs.SourceLemmas.{source-counted, source-ended, source-full, source-more}
use Rattle.peg_explain_files.proofs.listing.explain_source.Goals as goal

pub returns-in_err-buffer-clause-leads : goal.returns-in_err-buffer-clause-leads
returns-in_err-buffer-clause-leads g c start =
    let setting = setting_of (g.O.Opener.file_at c.args.task.now.files.now) c.args.task.now in
    let left = g.S.Source.left c.args.list.now in
    let never = g.S.Source.never_fails c.args.list.now in
    let a = progress_of (g.W.Sink.written c.args.output.now) c.args.run.now.ended in
    error-passed (LeadsBySource left never setting a a) c.from_residual.result Memory c.from_residual.ensures.1
    (leads-stopped setting left left never [] Memory a a (Consumes-nil left) (omega arith)
    (parts-unwritten setting [] [] a.written a.written
    (Stops-unwritten setting [] a.written a.written (Keeps-refl a.written))))

pub reads-init : goal.reads-init
reads-init g c =
    let setting = setting_of (g.O.Opener.file_at c.args.task.now.files.now) c.args.task.now in
    let a = progress_of (g.W.Sink.written c.args.output.now) c.args.run.now.ended in
    record {
      made = c.requires.made;
      works = c.requires.works;
      not_failed = c.requires.reads;
      never = λ sure. sure;
      within = omega arith;
      has_room = omega arith;
      stream = [];
      consumed = Consumes-nil (g.S.Source.left c.args.list.now);
      counted = refl;
      explained = λ start. subst (λ (l : List ℕ). ExplainsParts setting [] [] l a a) (sym c.new-carried.ensures.items)
          (parts-none setting [] a);
    }

pub returns-in-Ok-eq0-clause-leads : goal.returns-in-Ok-eq0-clause-leads
returns-in-Ok-eq0-clause-leads g c start =
    let setting = setting_of (g.O.Opener.file_at c.args.task.now.files.now) c.args.task.now in
    let left = g.S.Source.left c.args.list.now in
    let never = g.S.Source.never_fails c.args.list.now in
    let a = progress_of (g.W.Sink.written c.args.output.now) c.args.run.now.ended in
    let b = progress_of (g.W.Sink.written c.reads.output) c.reads.run.ended in
    let z = progress_of (g.W.Sink.written c.explain_last.new.output) c.explain_last.new.run.ended in
    let read = c.reads.invariant.stream in
    leads-last setting left never read c.reads.carried.items a b z c.explain_last.result
    (source-ended left (g.S.Source.left c.reads.list) (g.S.Source.left c.read.new.self) never read c.read.new.piece
    c.in-Ok-eq0.field-0 (grind (arith, common_steps)) (omega (arith, length-take {A = ℕ})) c.reads.invariant.consumed (omega arith)
    c.in-Ok-eq0.ensures.bytes) (c.reads.invariant.explained start)
    (subst (λ (l : List ℕ). Leads setting (filter is_nonempty (l ∷ [])) b z c.explain_last.result) c.deref.ensures.value
    (c.explain_last.ensures.leads start)) c.explain_last.ensures.whole

pub returns-in-Err-clause-leads : goal.returns-in-Err-clause-leads
returns-in-Err-clause-leads g c start =
    let setting = setting_of (g.O.Opener.file_at c.args.task.now.files.now) c.args.task.now in
    let left = g.S.Source.left c.args.list.now in
    let never = g.S.Source.never_fails c.args.list.now in
    let a = progress_of (g.W.Sink.written c.args.output.now) c.args.run.now.ended in
    let b = progress_of (g.W.Sink.written c.reads.output) c.reads.run.ended in
    let read = c.reads.invariant.stream in (
      read,
      broken-read left (g.S.Source.left c.reads.list) never read c.reads.invariant.consumed (λ sure.
          let bad : false ≡ true = (c.in-Err.ensures.never (c.reads.invariant.never sure)).0 in cc),
      ended-names setting read c.reads.carried.items a b (c.reads.invariant.explained start),
    )

pub returns-in_err-explain_bytes-clause-leads : goal.returns-in_err-explain_bytes-clause-leads
returns-in_err-explain_bytes-clause-leads g c start =
    let setting = setting_of (g.O.Opener.file_at c.args.task.now.files.now) c.args.task.now in
    let left = g.S.Source.left c.args.list.now in
    let never = g.S.Source.never_fails c.args.list.now in
    let a = progress_of (g.W.Sink.written c.args.output.now) c.args.run.now.ended in
    let b = progress_of (g.W.Sink.written c.reads.output) c.reads.run.ended in
    let z = progress_of (g.W.Sink.written c.explain_bytes.new.output) c.explain_bytes.new.run.ended in
    let read = c.reads.invariant.stream in
    let fault = c.in_err-explain_bytes.field-0.0 in
    let piece = c.read.new.piece in
    let count = c.in-Ok.count in
    let bytes : List ℕ = take count (piece ++ drop c.min-room.result c.reads.piece) in
    let same : bytes ≡ take count piece = take-append-le count piece _ c.in-Ok.ensures.bound in
    let size = source-counted read piece bytes c.reads.read count same c.in-Ok.ensures.bound c.reads.invariant.counted in
    let within : c.reads.read + count ≤ max_list_bytes = grind (arith, common_steps) in
    error-passed (LeadsBySource left never setting a z) c.from_residual-in_err-explain_bytes.result fault
    c.from_residual-in_err-explain_bytes.ensures.1
    (leads-stopped setting left (g.S.Source.left c.read.new.self) never (read ++ bytes) fault a z
    (source-more left (g.S.Source.left c.reads.list) (g.S.Source.left c.read.new.self) read piece bytes count same
    c.reads.invariant.consumed c.in-Ok.ensures.bytes.0) (omega arith)
    (parts-stop_after setting fault read bytes [] c.reads.carried.items a b z.written (c.reads.invariant.explained start)
    (c.in_err-explain_bytes.ensures.leads start)))

pub reads-preserved : goal.reads-preserved
reads-preserved g c =
    let setting = setting_of (g.O.Opener.file_at c.args.task.now.files.now) c.args.task.now in
    let a = progress_of (g.W.Sink.written c.args.output.now) c.args.run.now.ended in
    let b = progress_of (g.W.Sink.written c.reads.output) c.reads.run.ended in
    let z = progress_of (g.W.Sink.written c.explain_bytes.new.output) c.explain_bytes.new.run.ended in
    let read = c.reads.invariant.stream in
    let piece = c.read.new.piece in
    let count = c.in-Ok.count in
    let rest = drop c.min-room.result c.reads.piece in
    let bytes : List ℕ = take count (piece ++ rest) in
    let same : bytes ≡ take count piece = take-append-le count piece rest c.in-Ok.ensures.bound in
    record {
      made = c.in_ok-explain_bytes.ensures.made;
      works = c.in_ok-explain_bytes.ensures.failed;
      not_failed = c.in-Ok.ensures.failed ∙ c.reads.invariant.not_failed;
      never = λ sure. (c.in-Ok.ensures.never (c.reads.invariant.never sure)).1;
      within = grind (arith, common_steps);
      has_room = omega (arith, length-take {A = ℕ}, length-append piece rest);
      stream = read ++ bytes;
      consumed = source-more (g.S.Source.left c.args.list.now) (g.S.Source.left c.reads.list) (g.S.Source.left c.read.new.self)
          read piece bytes count same c.reads.invariant.consumed c.in-Ok.ensures.bytes.0;
      counted = source-counted read piece bytes c.reads.read count same c.in-Ok.ensures.bound c.reads.invariant.counted;
      explained = λ start. parts-trans setting read bytes [] c.reads.carried.items c.explain_bytes.new.carried.items a b z
          (c.reads.invariant.explained start) (c.in_ok-explain_bytes.ensures.leads start);
    }

pub returns-clause-leads : goal.returns-clause-leads
returns-clause-leads g c start =
    let setting = setting_of (g.O.Opener.file_at c.args.task.now.files.now) c.args.task.now in
    let left = g.S.Source.left c.args.list.now in
    let never = g.S.Source.never_fails c.args.list.now in
    let a = progress_of (g.W.Sink.written c.args.output.now) c.args.run.now.ended in
    let b = progress_of (g.W.Sink.written c.reads.output) c.reads.run.ended in
    let z = progress_of (g.W.Sink.written c.explain_last-2.new.output) c.explain_last-2.new.run.ended in
    let read = c.reads.invariant.stream in
    leads-last setting left never read c.reads.carried.items a b z c.explain_last-2.result
    (source-full left (g.S.Source.left c.reads.list) never read c.reads.read c.reads.invariant.counted c.reads.invariant.within
    (omega arith) c.reads.invariant.consumed) (c.reads.invariant.explained start)
    (subst (λ (l : List ℕ). Leads setting (filter is_nonempty (l ∷ [])) b z c.explain_last-2.result) c.deref-2.ensures.value
    (c.explain_last-2.ensures.leads start)) c.explain_last-2.ensures.whole
