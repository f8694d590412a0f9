use Rattle.std.proofs.Common.{◌∙◌, ◌++◌, List, ap, ℕ}
use Rattle.peg_explain_files.specs.Entries.{named_line}
use Rattle.peg_explain_files.proofs.explaining.message_for_no_start.Goals as goal

pub returns : goal.returns
returns c =
    c.in_ok-write_line-2.ensures
    ∙ (ap (λ (l : List ℕ). l ++ named_line c.as_bytes-2.result.now _)
    (c.in_ok-write_line.ensures ∙ ap (λ (l : List ℕ). l ++ named_line c.as_bytes.result.now _) c.new-message.ensures.items)
    ∙ (ap (λ (l : List ℕ). named_line l _ ++ named_line c.as_bytes-2.result.now _) c.as_bytes.ensures.value
    ∙ ap (λ (l : List ℕ). named_line c.args.grammar.now _ ++ named_line l _) c.as_bytes-2.ensures.value))
