-- How requests end that write a reply.
use Rattle.std.proofs.Common.{◌≡◌, ◌⊎◌, ◌↔◌, ℕ, inl, inr, List, Option, None, Some, Result, Ok, Err, IfErr, IfOk, IfSome}
use Rattle.std.proofs.Common.{refl, sym, subst}
use Rattle.std.specs.Prelude.{Contains}
use Rattle.std.specs.declared.io.ErrorKind.{ErrorKind}
use Rattle.peg_io.specs.declared.transfer.ReadFault.{ReadFault}
use Rattle.peg_io.specs.declared.transfer.ReadFault.TheVariants as read
use Rattle.peg_json.specs.Lines.{line_bytes}
use Rattle.peg_json.specs.Statuses.{status_code}
use Rattle.peg_json.specs.declared.line.Line.{Line}
use Rattle.peg_tool.specs.CommandOutcome.{WritesOrFails}
use Rattle.peg_tool.specs.Faults.{IsFaultAmong, IsFaultAt, plain_result, standard_output}
use Rattle.peg_tool.specs.WritesRequest.{WritesRequestReply}
use Rattle.peg_tool.specs.declared.fault.RequestFault.{RequestFault}
use Rattle.peg_tool.specs.declared.fault.RequestFault.TheVariants as failed
use Rattle.peg_tool.specs.declared.program.ProgramFault.{ProgramFault}
use Rattle.peg_tool.specs.declared.program.ProgramFault.TheVariants.{File, Memory}

module _ (IsRight : List ℕ → ℕ → Type 0) (old new : Option (List ℕ)) where
  -- a correct line that a request writes, as a whole or in part
  reply-outcome : (reply : Result Line ReadFault) (result : Result ℕ ProgramFault)
      → WritesRequestReply reply old new result
      → IfOk reply (λ line. IsRight (line_bytes line) (status_code line.status)) → WritesOrFails IsRight old new result
  reply-outcome (Ok line) (Ok status) ends right =
      (line_bytes line, subst (IsRight (line_bytes line)) (sym ends.1) right, ends.0)
  reply-outcome (Ok line) (Err File) ends right =
      inr (line_bytes line, status_code line.status, ends.0, right, ends.1, ends.2)
  reply-outcome (Ok line) (Err Memory) ends right = absurd ends
  reply-outcome (Err read.Device) result ends right =
      subst (λ (r : Result ℕ ProgramFault). WritesOrFails IsRight old new r) (sym ends.0) (inl ends.1)
  reply-outcome (Err read.Memory) result ends right =
      subst (λ (r : Result ℕ ProgramFault). WritesOrFails IsRight old new r) (sym ends.0) ends.1

-- ---- inputs whose bytes may be known

-- if the bytes of an input are known, its line is correct; otherwise nothing is promised
module _ (IsRight : List ℕ → List ℕ → ℕ → Type 0) (old new : Option (List ℕ)) (reply : Result Line ReadFault) where
  pub input-outcome : (left : Option (List ℕ)) (result : Result ℕ ProgramFault)
      → WritesRequestReply reply old new result
      → IfSome left (λ input. IfOk reply (λ line. IsRight input (line_bytes line) (status_code line.status)))
      → IfSome left (λ input. WritesOrFails (IsRight input) old new result)
  input-outcome None result ends right = tt
  input-outcome (Some input) result ends right = reply-outcome (IsRight input) old new reply result ends right

-- the same for a file that was opened, and the texts of a task
module _ (IsText : List ℕ → List ℕ → Type 0) (IsRight : List ℕ → List ℕ → List ℕ → ℕ → Type 0)
    (old new : Option (List ℕ)) (reply : Result Line ReadFault) where
  pub opened-outcome : (held left : Option (List ℕ)) (result : Result ℕ ProgramFault)
      → IfSome held (λ bytes. left ≡ Some bytes) → WritesRequestReply reply old new result
      → IfSome left (λ file. (bytes : List ℕ) → IsText file bytes
      → IfOk reply (λ line. IsRight file bytes (line_bytes line) (status_code line.status)))
      → IfSome held (λ file. (bytes : List ℕ) → IsText file bytes → WritesOrFails (IsRight file bytes) old new result)
  opened-outcome None left result opened ends right = tt
  opened-outcome (Some file) left result opened ends right = λ bytes is.
      let known = subst (λ (l : Option (List ℕ)). IfSome l (λ f. (b : List ℕ) → IsText f b
      → IfOk reply (λ line. IsRight f b (line_bytes line) (status_code line.status)))) opened right in
      reply-outcome (IsRight file bytes) old new reply result ends (known bytes is)

-- ---- faults

-- a fault of a request is that of what it reads, or of the output
pub reply-among : (result : Result ℕ RequestFault) (names : List (List ℕ)) (source : List ℕ) (read written : Option ErrorKind)
    (Reads Writes : Type 0) → (plain_result result ≡ Err File) ↔ (Reads ⊎ Writes)
    → (Reads → IfErr result (IsFaultAt source read)) → (Writes → IfErr result (IsFaultAt standard_output written))
    → Contains names source → Contains names standard_output → IfErr result (IsFaultAmong names)
reply-among (Ok status) names source read written Reads Writes fault reads writes has out = tt
reply-among (Err failed.Memory) names source read written Reads Writes fault reads writes has out = tt
reply-among (Err (failed.Device at kind)) names source read written Reads Writes fault reads writes has out =
    elim (fault.0 refl) [
      | inl reading ↦ subst (Contains names) (sym (reads reading).0) has
      | inr writing ↦ subst (Contains names) (sym (writes writing).0) out
    ]
