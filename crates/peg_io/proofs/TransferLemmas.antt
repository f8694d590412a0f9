-- One more step of a transfer, and the result of a bounded read.
use Rattle.std.proofs.Common.{◌≡◌, ℕ, ◌+◌, ◌<◌, ◌≤◌, List, ◌++◌, Option, None, Some, inl, inr, ap, ◌∙◌, append-nil, length, take, drop, sym, subst, arith, length-append}
use Rattle.std.proofs.Math.Seq.{take-add}
use Rattle.std.proofs.lemmas.List.{take_all, take_at}
use Rattle.std.proofs.lemmas.Bool.{cases_lt}
use Rattle.std.proofs.KnownBytes.{Appends-trans, Consumes-trans}
use Rattle.std.specs.Io.KnownBytes.{Appends, Consumes, IsAtEnd}
use Rattle.peg_io.specs.Transfer.{ConsumesAtMost}

-- the bytes before `at` followed by the next n bytes are the first `at` + n bytes
pub Appends-take_more : (a b c : Option (List ℕ)) (bytes : List ℕ) (at n : ℕ) → Appends a b (take at bytes)
    → Appends b c (take n (drop at bytes)) → Appends a c (take (at + n) bytes)
Appends-take_more a b c bytes at n first more =
    subst (Appends a c) (sym (take-add at n bytes)) (Appends-trans a b c _ _ first more)

-- if the bytes read so far and a new piece are within the limit, at most `limit` bytes are consumed
pub ConsumesAtMost-more : (a b c : Option (List ℕ)) (held piece : List ℕ) (limit : ℕ) → Consumes a b held
    → Consumes b c piece → length held + length piece ≤ limit → ConsumesAtMost a c limit
ConsumesAtMost-more a b c held piece limit first more few =
    (held ++ piece, omega (arith, length-append held piece), Consumes-trans a b c held piece first more)

-- a read of up to `limit` bytes that stops earlier only at the end returns the first `limit` bytes
pub held_is_take : (left : List ℕ) (new : Option (List ℕ)) (held : List ℕ) (limit : ℕ) → Consumes (Some left) new held
    → length held ≤ limit → (length held < limit → IsAtEnd new) → held ≡ take limit left
held_is_take left None held limit consumed within end = absurd consumed
held_is_take left (Some rest) held limit consumed within end =
    elim (cases_lt (length held) limit) [
      | inl less ↦
          let all : left ≡ held = consumed ∙ ap (λ bytes. held ++ bytes) (end less) ∙ append-nil held in
          sym all ∙ sym (take_all limit left (omega (arith, ap length all)))
      | inr full ↦ sym (ap (take limit) consumed ∙ take_at held rest limit (omega arith))
    ]
