use Rattle.std.proofs.Common.{◌≡◌, ◌∙◌, ℕ, All, List, Some, ap, arith, false, is_some, map, string_bytes, subst, sym, true, [], refl}
use Rattle.std.proofs.lemmas.Grind.{common_steps}
use Rattle.std.specs.List.{flat_map}
use Rattle.peg_coverage.specs.Covered.{settings_of}
use Rattle.peg_parser.specs.Parser.{start_named}
use Rattle.peg_records.specs.Records.{records}
use Rattle.peg_records.specs.declared.end.RecordEnd.{RecordEnd}
use Rattle.peg_coverage_files.specs.CoverTerms.{AreTermsOf, CoverTerms}
use Rattle.peg_coverage_files.specs.CoveredTexts.{AreCovered}
use Rattle.peg_coverage_files.specs.RecordFaults.{HasShortRecords, IsFaultOfRecords, IsFaultOfStreams}
use Rattle.peg_coverage_files.specs.declared.fault.CoveringFault.TheVariants.{NoSuchStart, TextTooLong}
use Rattle.peg_coverage_files.proofs.CoveringLemmas.{refused-by}
use Rattle.peg_coverage_files.proofs.RunLemmas.{terms-of}
use Rattle.peg_coverage_files.proofs.StreamLemmas.{no-start-fault, stated-same, streams-fault, streams-long}
use Rattle.peg_coverage_files.proofs.records.cover_records.Goals as goal

pub returns-in_err-cover_all-clause-no_start : goal.returns-in_err-cover_all-clause-no_start
returns-in_err-cover_all-clause-no_start g c rules is =
    let query = c.args.query.now in
    let known : c.has_start.result ≡ true = grind (arith, common_steps) in
    let of = terms-of c.args.parser.now query rules is (sym (c.has_start.ensures rules is) ∙ known) in
    let why = c.in_err-cover_all.field-0.0 in
    let result = c.from_residual-in_err-cover_all.result in
    let end = c.in_ok-run.run'.reader.end in
    let file_at = g.O.Opener.file_at c.args.files.now in
    let input = g.I.Source.left c.args.input.now in
    let names = map string_bytes query.texts.now in (
      λ bad. absurd (no-start-fault end file_at input names
          (subst (IsFaultOfStreams end file_at input names)
          (stated-same result why NoSuchStart c.from_residual-in_err-cover_all.ensures.1 bad)
          (c.in_err-cover_all.ensures.refused of.0 of.1))),
      λ none. absurd (let both : true ≡ false = sym known ∙ c.has_start.ensures rules is ∙ ap is_some none in cc),
    )

pub returns-in_err-cover_all-clause-refused : goal.returns-in_err-cover_all-clause-refused
returns-in_err-cover_all-clause-refused g c rules is =
    let query = c.args.query.now in
    let known : c.has_start.result ≡ true = grind (arith, common_steps) in
    let of = terms-of c.args.parser.now query rules is (sym (c.has_start.ensures rules is) ∙ known) in
    let why = c.in_err-cover_all.field-0.0 in
    let file_at = g.O.Opener.file_at c.args.files.now in
    let input = g.I.Source.left c.args.input.now in
    let names = map string_bytes query.texts.now in
    let start = start_named query.options in
    refused-by c.from_residual-in_err-cover_all.result why (IsFaultOfRecords rules query.end file_at input names start)
    c.from_residual-in_err-cover_all.ensures.1
    (streams-fault rules query.end file_at input names start why
    (subst (λ (e : RecordEnd). IsFaultOfStreams e file_at input names why) (ap (λ s. s.0) c.in_ok-run.ensures.settings)
    (c.in_err-cover_all.ensures.refused of.0 of.1)))

pub returns-in_err-cover_all-clause-long : goal.returns-in_err-cover_all-clause-long
returns-in_err-cover_all-clause-long g c rules streams is are bad =
    let query = c.args.query.now in
    let known : c.has_start.result ≡ true = grind (arith, common_steps) in
    let of = terms-of c.args.parser.now query rules is (sym (c.has_start.ensures rules is) ∙ known) in
    let why = c.in_err-cover_all.field-0.0 in
    let file_at = g.O.Opener.file_at c.args.files.now in
    let input = g.I.Source.left c.args.input.now in
    let names = map string_bytes query.texts.now in
    streams-long query.end file_at input names streams are
    (subst (λ (e : RecordEnd). IsFaultOfStreams e file_at input names TextTooLong) (ap (λ s. s.0) c.in_ok-run.ensures.settings)
    (subst (IsFaultOfStreams c.in_ok-run.run'.reader.end file_at input names)
    (stated-same c.from_residual-in_err-cover_all.result why TextTooLong c.from_residual-in_err-cover_all.ensures.1 bad)
    (c.in_err-cover_all.ensures.refused of.0 of.1)))

pub returns-clause-covered : goal.returns-clause-covered
returns-clause-covered g c rules start streams is at are =
    let query = c.args.query.now in
    let settings = settings_of query.options in
    let terms : CoverTerms = record { rules = rules; start = start; settings = settings; needed = query.needed } in
    let of : AreTermsOf c.args.parser.now query terms = record { made = is; from = at; settings = refl; needed = refl } in
    let before = c.in_ok-run.run'.covered.used in
    let fresh = c.in_ok-run.ensures.fresh in
    let after = c.cover_all.new.run.covered in
    let covered = c.in_ok-cover_all.ensures.covers terms streams of are before []
    (fresh.none rules start settings query.needed) in
    c.in_ok-coverage.ensures.covered rules start settings query.needed
    (map Some (flat_map (records query.end) streams)) before is fresh.empty
    (subst (λ (e : RecordEnd). AreCovered rules start settings query.needed (map Some (flat_map (records e) streams)) before
    after) (ap (λ s. s.0) c.in_ok-run.ensures.settings) covered)

pub returns-clause-present : goal.returns-clause-present
returns-clause-present g c rules is =
    let query = c.args.query.now in
    let known : c.has_start.result ≡ true = grind (arith, common_steps) in
    let of = terms-of c.args.parser.now query rules is (sym (c.has_start.ensures rules is) ∙ known) in
    let file_at = g.O.Opener.file_at c.args.files.now in
    subst (λ (e : RecordEnd). All (λ (name : List ℕ). HasShortRecords e (file_at name)) (map string_bytes query.texts.now))
    (ap (λ s. s.0) c.in_ok-run.ensures.settings) (c.in_ok-cover_all.ensures.short of.0 of.1)
