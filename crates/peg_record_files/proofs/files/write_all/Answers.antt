use Rattle.std.proofs.Common.{◌≡◌, ℕ, List, [], ap, arith, map, string_bytes, subst, sym}
use Rattle.std.proofs.lemmas.Grind.{common_steps}
use Rattle.peg_records.specs.Records.{records}
use Rattle.peg_record_files.specs.Runs.{LeadsTo}
use Rattle.peg_record_files.proofs.StreamLemmas.{input-stream, known, none-missing}
use Rattle.peg_record_files.proofs.files.write_all.Goals as goal

pub returns-then-is_empty-clause-leads : goal.returns-then-is_empty-clause-leads
returns-then-is_empty-clause-leads g c streams are =
    let IsReply = g.P.RecordPrinter.replies c.args.printer.now in
    let filter = c.args.query.now.filter in
    let run = c.args.run.now in
    let input = g.I.Source.left c.args.input.now in
    let old = g.W.Sink.written c.args.output.now in
    let new = g.W.Sink.written c.write_input.new.output in
    let none : c.args.query.now.texts.now ≡ [] = grind (arith, common_steps) in
    let one = input-stream run.reader.end (g.O.Opener.file_at c.args.files.now) input
    (map string_bytes c.args.query.now.texts.now) streams (ap (map string_bytes) none) are in
    let leads = known input one.0 (λ (stream : List ℕ). LeadsTo IsReply filter run.reader.end (records run.reader.end stream) run
    c.write_input.new.run old new c.write_input.result) one.1 c.write_input.ensures.leads in
    subst (λ (l : List (List ℕ)). LeadsTo IsReply filter run.reader.end l run c.write_input.new.run old new c.write_input.result)
    (sym one.2) leads

pub returns-then-is_empty-clause-present : goal.returns-then-is_empty-clause-present
returns-then-is_empty-clause-present g c =
    let none : c.args.query.now.texts.now ≡ [] = grind (arith, common_steps) in
    none-missing (g.O.Opener.file_at c.args.files.now) (map string_bytes c.args.query.now.texts.now) c.write_input.result
    (ap (map string_bytes) none)
