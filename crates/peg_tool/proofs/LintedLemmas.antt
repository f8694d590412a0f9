-- What is written of messages about a grammar if an allocation fails.
use Rattle.std.proofs.Common.{◌≡◌, ℕ, List, Option, Result, Err, inl, inr, subst}
use Rattle.std.specs.Io.KnownBytes.{Keeps}
use Rattle.peg_explain_files.specs.declared.ended.Ended.{Ended}
use Rattle.peg_explain_files.specs.declared.ended.ExplainFault.{ExplainFault}
use Rattle.peg_explain_files.specs.declared.ended.ExplainFault.TheVariants.{Memory, Write}
use Rattle.peg_io.specs.NamedFile.{NamedFile}
use Rattle.peg_lint_files.specs.LintAnswers.{IsLinted, Lints, WritesLints, linted, no_such_start, unlinted, warned}
use Rattle.peg_lint_files.specs.LintQuestions.{LintQuestion}
use Rattle.peg_semantics.specs.Rules.{Rule}

-- nothing is written
writes-memory : (question : LintQuestion) (file : List ℕ) (rules : List Rule) (old new : Option (List ℕ))
    → WritesLints question file rules old new (Err Memory) → Keeps old new
writes-memory question file rules old new (no_such_start none writes) = writes
writes-memory question file rules old new (warned lints writes) = writes

lints-memory : (question : LintQuestion) (file_at : List ℕ → NamedFile) (old new : Option (List ℕ))
    → Lints question file_at old new (Err Memory) → Keeps old new
lints-memory question file_at old new (unlinted explained other write) = absurd (let bad : Memory ≡ Write = write in cc)
lints-memory question file_at old new (linted held rules file accepts writes) =
    writes-memory question held.items rules old new writes

pub linted-memory : (question : LintQuestion) (file_at : List ℕ → NamedFile) (old new : Option (List ℕ))
    (result : Result Ended ExplainFault) → result ≡ Err Memory → IsLinted question file_at old new result
    → Keeps old new
linted-memory question file_at old new result is (inl failed) = failed.1
linted-memory question file_at old new result is (inr lints) = lints-memory question file_at old new
    (subst (λ (r : Result Ended ExplainFault). Lints question file_at old new r) is lints)
