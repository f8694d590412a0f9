use Rattle.std.proofs.Common.{◌≡◌, ◌∙◌, ℕ, ap, length, map, subst}
use Rattle.std.proofs.lemmas.List.{length-map}
use Rattle.peg_parser.specs.Faults.{RefusalNames, refusal_names}
use Rattle.peg_json.proofs.RefusedLines.{reportable, reported-by_names}
use Rattle.peg_json.proofs.lines.refused_line.Goals as goal

pub fault_line-requires : goal.fault_line-requires
fault_line-requires c =
    let list = map (λ name. name.now) c.deref.result.now in
    let same : list ≡ refusal_names c.args.refusal.now =
    ap (map (λ name. name.now)) c.deref.ensures.value ∙ c.in_ok-names.ensures in
    let known = reportable (length c.args.file.now) list c.args.refusal.now same c.requires.has_cause c.requires.true_refusal in
    let count : length list ≡ length c.deref.result.now = length-map c.deref.result.now (λ name. name.now) in
    record {
      has_cause = known.reported;
      short = c.requires.short;
      places = known.places;
      rules = subst (λ (n : ℕ). RefusalNames n c.args.refusal.now) count known.rules;
    }

pub returns : goal.returns
returns c =
    let list = map (λ name. name.now) c.deref.result.now in
    let same : list ≡ refusal_names c.args.refusal.now =
    ap (map (λ name. name.now)) c.deref.ensures.value ∙ c.in_ok-names.ensures in
    let known = reportable (length c.args.file.now) list c.args.refusal.now same c.requires.has_cause c.requires.true_refusal in
    reported-by_names c.fault_line.result c.args.file.now list c.args.refusal.now same known.reported c.fault_line.ensures
