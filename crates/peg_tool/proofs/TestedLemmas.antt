-- What is written of a test if an allocation fails.
use Rattle.std.proofs.Common.{◌≡◌, ℕ, List, Option, Result, Err, inl, inr, subst}
use Rattle.std.specs.Io.KnownBytes.{Keeps}
use Rattle.peg_explain_files.specs.declared.ended.Ended.{Ended}
use Rattle.peg_explain_files.specs.declared.ended.ExplainFault.{ExplainFault}
use Rattle.peg_explain_files.specs.declared.ended.ExplainFault.TheVariants.{Memory}
use Rattle.peg_io.specs.NamedFile.{NamedFile}
use Rattle.peg_test_files.specs.TestQuestions.{TestQuestion}
use Rattle.peg_test_files.specs.Tested.{IsTested, Tests, untested, no_such_start, tested}

-- nothing is written
tests-memory : (question : TestQuestion) (file_at : List ℕ → NamedFile) (old new : Option (List ℕ))
    → Tests question file_at old new (Err Memory) → Keeps old new
tests-memory question file_at old new (untested explained none) = absurd none
tests-memory question file_at old new (no_such_start file accepts none writes) = writes
tests-memory question file_at old new (tested file accepts some trials writes) = writes

pub tested-memory : (question : TestQuestion) (file_at : List ℕ → NamedFile) (old new : Option (List ℕ))
    (result : Result Ended ExplainFault) → result ≡ Err Memory → IsTested question file_at old new result
    → Keeps old new
tested-memory question file_at old new result is (inl failed) = failed.1
tested-memory question file_at old new result is (inr tests) = tests-memory question file_at old new
    (subst (λ (r : Result Ended ExplainFault). Tests question file_at old new r) is tests)
