use Rattle.std.proofs.Common.{◌≡◌, ◌∷◌, [], List, subst, sym, true, false, tests, rules, ℕ}
use Rattle.std.specs.List.{filter}
use Rattle.std.proofs.KnownBytes.{Keeps-refl}
use Rattle.peg_explain_files.specs.Listings.{ExplainsParts, LeadsByBytes}
use Rattle.peg_explain_files.specs.Names.{is_end, is_nonempty}
use Rattle.peg_explain_files.specs.Progress.{Explains, Stops, progress_of}
use Rattle.peg_explain_files.specs.Tasks.{setting_of}
use Rattle.peg_explain_files.proofs.PartLemmas.{parts-end, parts-end_stops, parts-other, parts-unwritten}
use Rattle.peg_explain_files.proofs.ProgressLemmas.{Stops-unwritten, error-passed}
use Rattle.peg_explain_files.proofs.listing.explain_byte.Goals as goal

pub returns-in_err-explain_part-clause-leads : goal.returns-in_err-explain_part-clause-leads
returns-in_err-explain_part-clause-leads g c start =
    let setting = setting_of (g.O.Opener.file_at c.args.task.now.files.now) c.args.task.now in
    let a = progress_of (g.W.Sink.written c.args.output.now) c.args.run.now.ended in
    let b = progress_of (g.W.Sink.written c.explain_part.new.output) c.explain_part.new.run.ended in
    let end : is_end setting.question.end c.args.byte ≡ true = search (rules, tests) in
    error-passed (LeadsByBytes setting (c.args.byte ∷ []) c.args.carried.now.items c.args.carried.now.items a b) c.from_residual.result _
    c.from_residual.ensures.1
    (parts-end_stops setting c.in_err-explain_part.field-0.0 c.args.byte c.args.carried.now.items a.written b.written end
    (subst (λ (l : List ℕ). Stops setting c.in_err-explain_part.field-0.0 (filter is_nonempty (l ∷ [])) a.written b.written) c.deref.ensures.value
    (c.in_err-explain_part.ensures.leads start)))

pub returns-then-byte-clause-leads : goal.returns-then-byte-clause-leads
returns-then-byte-clause-leads g c start =
    let setting = setting_of (g.O.Opener.file_at c.args.task.now.files.now) c.args.task.now in
    let a = progress_of (g.W.Sink.written c.args.output.now) c.args.run.now.ended in
    let b = progress_of (g.W.Sink.written c.explain_part.new.output) c.explain_part.new.run.ended in
    let end : is_end setting.question.end c.args.byte ≡ true = search (rules, tests) in
    subst (λ (l : List ℕ). ExplainsParts setting (c.args.byte ∷ []) c.args.carried.now.items l a b)
    (sym c.clear.ensures.items)
    (parts-end setting c.args.byte c.args.carried.now.items a b end
    (subst (λ (l : List ℕ). Explains setting (filter is_nonempty (l ∷ [])) a b) c.deref.ensures.value
    (c.in_ok-explain_part.ensures.leads start)))

pub returns-in_err-push_byte-clause-leads : goal.returns-in_err-push_byte-clause-leads
returns-in_err-push_byte-clause-leads g c start =
    let setting = setting_of (g.O.Opener.file_at c.args.task.now.files.now) c.args.task.now in
    error-passed (LeadsByBytes setting (c.args.byte ∷ []) c.args.carried.now.items _ _ _)
    c.from_residual-in_err-push_byte.result _ c.from_residual-in_err-push_byte.ensures.1
    (parts-unwritten setting (c.args.byte ∷ []) c.args.carried.now.items _ _
    (Stops-unwritten setting [] _ _ (Keeps-refl _)))

pub returns-clause-leads : goal.returns-clause-leads
returns-clause-leads g c start =
    let setting = setting_of (g.O.Opener.file_at c.args.task.now.files.now) c.args.task.now in
    let a = progress_of (g.W.Sink.written c.args.output.now) c.args.run.now.ended in
    let other : is_end setting.question.end c.args.byte ≡ false = search (rules, tests) in
    subst (λ (l : List ℕ). ExplainsParts setting (c.args.byte ∷ []) c.args.carried.now.items l a a)
    (sym c.in_ok-push_byte.ensures) (parts-other setting c.args.byte c.args.carried.now.items a other)
