use Rattle.std.proofs.Common.{◌∙◌, ap, refl}
use Rattle.peg_explain_files.specs.declared.entry.Entry.{Entry}
use Rattle.peg_explain_files.proofs.ExplainedLemmas.{unwrap-name}
use Rattle.peg_explain_files.proofs.listing.add_fault.Goals as goal

pub returns-clause-added : goal.returns-clause-added
returns-clause-added g c =
    let entry : Entry = record { name = c.as_bytes-name.result; report = c.args.report } in
    let name = c.as_bytes-name.ensures.value
    ∙ (ap (λ n. n.now) c.unwrap_or.ensures ∙ unwrap-name c.args.task.now.query.now.list _ refl) in
    (entry, name, refl, c.in_ok-add.ensures.faults, c.in_ok-add.ensures.verdict)
