use Rattle.std.proofs.Common.{◌≡◌, ℕ, List, [], ap, arith, map, string_bytes}
use Rattle.std.proofs.lemmas.Grind.{common_steps}
use Rattle.peg_parser.specs.Parser.{start_named}
use Rattle.peg_coverage_files.specs.RecordFaults.{HasShortRecords}
use Rattle.peg_coverage_files.proofs.StreamLemmas.{all-none, alone-fault, input-covered, input-fault}
use Rattle.peg_coverage_files.proofs.records.cover_all.Goals as goal

pub returns-then-is_empty-clause-covers : goal.returns-then-is_empty-clause-covers
returns-then-is_empty-clause-covers g c terms streams of are =
    let none : c.args.query.now.texts.now ≡ [] = grind (arith, common_steps) in
    input-covered terms c.args.run.now.reader.end (g.O.Opener.file_at c.args.files.now) (g.I.Source.left c.args.input.now)
    (map string_bytes c.args.query.now.texts.now) streams c.args.run.now c.cover_stream.new.self c.cover_stream.result
    (ap (map string_bytes) none) are (c.cover_stream.ensures.covers terms of)

pub returns-then-is_empty-clause-refused : goal.returns-then-is_empty-clause-refused
returns-then-is_empty-clause-refused g c terms of =
    let none : c.args.query.now.texts.now ≡ [] = grind (arith, common_steps) in
    let end = c.args.run.now.reader.end in
    let input = g.I.Source.left c.args.input.now in
    alone-fault end (g.O.Opener.file_at c.args.files.now) input (map string_bytes c.args.query.now.texts.now)
    c.cover_stream.result (ap (map string_bytes) none)
    (input-fault terms end input (start_named c.args.query.now.options) c.args.run.now c.cover_stream.new.self
    c.cover_stream.result of.from (c.cover_stream.ensures.refused terms.rules of.made)
    (c.cover_stream.ensures.covers terms of))

pub returns-then-is_empty-clause-short : goal.returns-then-is_empty-clause-short
returns-then-is_empty-clause-short g c terms of =
    let none : c.args.query.now.texts.now ≡ [] = grind (arith, common_steps) in
    all-none (λ (n : List ℕ). HasShortRecords c.args.run.now.reader.end (g.O.Opener.file_at c.args.files.now n))
    (map string_bytes c.args.query.now.texts.now) c.cover_stream.result (ap (map string_bytes) none)
