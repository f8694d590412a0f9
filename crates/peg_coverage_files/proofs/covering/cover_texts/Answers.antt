use Rattle.std.proofs.Common.{◌∙◌, ℕ, All, List, arith, map, string_bytes, subst}
use Rattle.std.specs.declared.alloc.Global.{Global}
use Rattle.std.specs.declared.string.String.{String}
use Rattle.peg_coverage.specs.Covered.{settings_of}
use Rattle.peg_coverage_files.specs.CoveredTexts.{AddsText, AreCovered}
use Rattle.peg_coverage_files.specs.CoveringFaults.{IsFaultOf, IsFaultOfText, IsParsable}
use Rattle.peg_coverage_files.specs.NamedTexts.{files_named, texts_in}
use Rattle.peg_io.specs.NamedFile.{NamedFile, IsMissing, bytes_of}
use Rattle.peg_parser.specs.Parser.{start_named}
use Rattle.peg_coverage_files.proofs.CoveringLemmas.{all-more, all-names, covered-file, file-fault, names-more, refused-by}
use Rattle.peg_coverage_files.proofs.covering.cover_texts.Goals as goal

pub returns-in_err-cover_text-clause-refused : goal.returns-in_err-cover_text-clause-refused
returns-in_err-cover_text-clause-refused g c rules is =
    let file_at = g.O.Opener.file_at c.args.files.now in
    let named = start_named c.args.options.now in
    let names = c.args.names.now in
    let why = c.in_err-cover_text.field-0.0 in
    refused-by c.from_residual.result why (IsFaultOf rules file_at (map string_bytes names) named) c.from_residual.ensures.1
    (file-fault rules named file_at names c.names.name-index c.name-item.result why c.names-test.true c.name-item.is
    (c.names.invariant.parsable rules is)
    (subst (λ (name : List ℕ). IsFaultOfText rules file_at name named why) c.deref.ensures
    (c.in_err-cover_text.ensures.refused rules is)))

pub names-preserved : goal.names-preserved
names-preserved g c =
    let file_at = g.O.Opener.file_at c.args.files.now in
    let settings = settings_of c.args.options.now in
    let names = c.args.names.now in
    let i = c.names.name-index in
    let name = c.name-item.result in
    let covers = c.in_ok-cover_text.ensures in
    record {
      size = covers.size ∙ c.names.invariant.size;
      covered = λ rules start before is at none.
          covered-file rules start settings c.args.needed file_at names i name before c.names.covered
          c.cover_text.new.covered c.names-test.true c.name-item.is
          (c.names.invariant.covered rules start before is at none)
          (subst (λ (n : List ℕ). AddsText rules start settings c.args.needed (bytes_of (file_at n)) c.names.covered
          c.cover_text.new.covered) c.deref.ensures (covers.adds rules start is at));
      present = all-more (λ (f : NamedFile). ¬ IsMissing f) file_at names i name c.names-test.true c.name-item.is
          c.names.invariant.present (subst (λ (n : List ℕ). ¬ IsMissing (file_at n)) c.deref.ensures covers.present);
      parsable = λ rules is.
          names-more (λ (n : List ℕ). IsParsable (file_at n)) names i name c.names-test.true c.name-item.is
          (c.names.invariant.parsable rules is)
          (subst (λ (n : List ℕ). IsParsable (file_at n)) c.deref.ensures (covers.parsable rules is));
    }

pub returns-clause-covered : goal.returns-clause-covered
returns-clause-covered g c rules start before is at none =
    let file_at = g.O.Opener.file_at c.args.files.now in
    subst (λ (n : List (String Global)). AreCovered rules start (settings_of c.args.options.now) c.args.needed
    (texts_in (files_named file_at n)) before c.names.covered)
    (all-names c.args.names.now c.names.name-index (omega (arith, c.names-test.false)))
    (c.names.invariant.covered rules start before is at none)

pub returns-clause-present : goal.returns-clause-present
returns-clause-present g c =
    subst (λ (n : List (String Global)). All (λ (f : NamedFile). ¬ IsMissing f)
    (files_named (g.O.Opener.file_at c.args.files.now) n))
    (all-names c.args.names.now c.names.name-index (omega (arith, c.names-test.false))) c.names.invariant.present
