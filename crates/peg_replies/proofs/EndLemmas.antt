-- How public calls end that write a reply.
use Rattle.std.proofs.Common.{◌≡◌, ℕ, inl, inr, List, Option, None, Some, Result, Ok, Err, IfOk, IfSome}
use Rattle.std.proofs.Common.{refl, sym, ◌∙◌, subst}
use Rattle.peg_io.specs.declared.transfer.ReadFault.{ReadFault}
use Rattle.peg_io.specs.declared.transfer.ReadFault.TheVariants as read
use Rattle.peg_json.specs.Lines.{line_bytes}
use Rattle.peg_json.specs.Statuses.{status_code}
use Rattle.peg_json.specs.declared.line.Line.{Line}
use Rattle.peg_replies.specs.WritesReply.{WritesToolReply}
use Rattle.peg_replies.specs.Written.{Prints, PrintsInPart}
use Rattle.peg_replies.specs.declared.write.ToolFault.{ToolFault}
use Rattle.peg_replies.specs.declared.write.ToolFault.TheVariants as tool

module _ (IsRight : List ℕ → ℕ → Type 0) (old new : Option (List ℕ)) where
  -- a correct line that is written as a whole; or an allocation failed
  reply-prints : (reply : Result Line ReadFault) (result : Result ℕ ToolFault) → WritesToolReply reply old new result
      → IfOk reply (λ line. IsRight (line_bytes line) (status_code line.status))
      → IfOk result (λ status. Prints IsRight old new status)
  reply-prints (Ok line) (Ok status) ends right =
      inl (line_bytes line, subst (IsRight (line_bytes line)) (sym ends.1) right, ends.0)
  reply-prints (Ok line) (Err why) ends right = tt
  reply-prints (Err read.Device) result ends right =
      subst (λ (r : Result ℕ ToolFault). IfOk r (λ status. Prints IsRight old new status)) (sym ends.0) tt
  reply-prints (Err read.Memory) result ends right =
      subst (λ (r : Result ℕ ToolFault). IfOk r (λ status. Prints IsRight old new status)) (sym ends.0)
      (inr (refl, ends.1))

  -- a correct line that is written in part
  reply-in_part : (reply : Result Line ReadFault) (result : Result ℕ ToolFault) → WritesToolReply reply old new result
      → IfOk reply (λ line. IsRight (line_bytes line) (status_code line.status)) → result ≡ Err tool.WriteFault
      → PrintsInPart IsRight old new
  reply-in_part (Ok line) (Ok status) ends right is = cc
  reply-in_part (Ok line) (Err tool.ReadFault) ends right is = absurd ends
  reply-in_part (Ok line) (Err tool.WriteFault) ends right is =
      (line_bytes line, status_code line.status, ends.0, right, ends.1, ends.2)
  reply-in_part (Err read.Device) result ends right is =
      absurd (let bad : Err tool.ReadFault ≡ Err tool.WriteFault = sym ends.0 ∙ is in cc)
  reply-in_part (Err read.Memory) result ends right is =
      absurd (let bad : Ok 5 ≡ Err tool.WriteFault = sym ends.0 ∙ is in cc)

-- ---- inputs whose bytes may be known

-- if the bytes of an input are known, its line is correct; otherwise nothing is promised
module _ (IsRight : List ℕ → List ℕ → ℕ → Type 0) (old new : Option (List ℕ)) (reply : Result Line ReadFault) where
  pub input-prints : (left : Option (List ℕ)) (result : Result ℕ ToolFault) → WritesToolReply reply old new result
      → IfSome left (λ input. IfOk reply (λ line. IsRight input (line_bytes line) (status_code line.status)))
      → IfSome left (λ input. IfOk result (λ status. Prints (IsRight input) old new status))
  input-prints None result ends right = tt
  input-prints (Some input) result ends right = reply-prints (IsRight input) old new reply result ends right

  pub input-in_part : (left : Option (List ℕ)) (result : Result ℕ ToolFault) → WritesToolReply reply old new result
      → IfSome left (λ input. IfOk reply (λ line. IsRight input (line_bytes line) (status_code line.status)))
      → IfSome left (λ input. result ≡ Err tool.WriteFault → PrintsInPart (IsRight input) old new)
  input-in_part None result ends right = tt
  input-in_part (Some input) result ends right = reply-in_part (IsRight input) old new reply result ends right

-- the same for a file and the texts of a task
module _ (IsText : List ℕ → List ℕ → Type 0) (IsRight : List ℕ → List ℕ → List ℕ → ℕ → Type 0)
    (old new : Option (List ℕ)) (reply : Result Line ReadFault) where
  pub file-prints : (left : Option (List ℕ)) (result : Result ℕ ToolFault) → WritesToolReply reply old new result
      → IfSome left (λ file. (bytes : List ℕ) → IsText file bytes
      → IfOk reply (λ line. IsRight file bytes (line_bytes line) (status_code line.status)))
      → IfSome left (λ file. (bytes : List ℕ) → IsText file bytes
      → IfOk result (λ status. Prints (IsRight file bytes) old new status))
  file-prints None result ends right = tt
  file-prints (Some file) result ends right =
      λ bytes is. reply-prints (IsRight file bytes) old new reply result ends (right bytes is)

  pub file-in_part : (left : Option (List ℕ)) (result : Result ℕ ToolFault) → WritesToolReply reply old new result
      → IfSome left (λ file. (bytes : List ℕ) → IsText file bytes
      → IfOk reply (λ line. IsRight file bytes (line_bytes line) (status_code line.status)))
      → IfSome left (λ file. (bytes : List ℕ) → IsText file bytes → result ≡ Err tool.WriteFault
      → PrintsInPart (IsRight file bytes) old new)
  file-in_part None result ends right = tt
  file-in_part (Some file) result ends right =
      λ bytes is. reply-in_part (IsRight file bytes) old new reply result ends (right bytes is)
