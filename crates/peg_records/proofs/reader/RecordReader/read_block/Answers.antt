use Rattle.std.proofs.Common.{◌≡◌, ◌∙◌, ◌++◌, ◌≤◌, ℕ, List, Option, None, Some, IfSome, ap, arith, length, refl, subst, take}
use Rattle.std.proofs.lemmas.Grind.{common_steps}
use Rattle.std.specs.Io.KnownBytes.{Consumes}
use Rattle.peg_records.specs.Readers.{IsAheadOf}
use Rattle.peg_records.proofs.ReaderLemmas.{reader-read}
use Rattle.peg_records.proofs.reader.RecordReader.read_block.Goals as goal

-- a step from what a source has left to what it has left after a read
after-read : (old new : Option (List ℕ)) (block : List ℕ) (Before After : List ℕ → List (List ℕ) → Type 0)
    → Consumes old new block → ((later : List ℕ) (ahead : List (List ℕ)) → Before (block ++ later) ahead → After later ahead)
    → IfSome old (λ left. (ahead : List (List ℕ)) → Before left ahead
    → (later : List ℕ) × (new ≡ Some later) × After later ahead)
after-read None new block Before After consumed step = tt
after-read (Some left) None block Before After consumed step = absurd consumed
after-read (Some left) (Some later) block Before After consumed step =
    λ ahead before. (later, refl, step later ahead (subst (λ (l : List ℕ). Before l ahead) consumed before))

pub returns-clause-ahead : goal.returns-clause-ahead
returns-clause-ahead g c =
    let kept = c.keep_start.new.self in
    let piece = c.read.new.piece in
    let count = c.in-Ok.count in
    let bound : count ≤ length piece = c.in-Ok.ensures.bound in
    let block : take count c.deref.result.now ≡ take count piece = grind (arith, common_steps, bound) in
    let held = c.in_ok-extend_from_slice.ensures.items ∙ ap (λ (l : List ℕ). kept.held.items ++ l) block in
    let within : kept.searched ≤ length kept.held.items = grind (arith, common_steps) in
    after-read (g.S.Source.left c.args.input.now) (g.S.Source.left c.read.new.self) (take count piece)
    (IsAheadOf c.args.self.now) _ c.in-Ok.ensures.bytes.0 (λ later ahead before.
    reader-read kept.end kept.limit kept.lost kept.held.items c.extend_from_slice.new.self.items (take count piece) kept.start
    kept.searched (take count piece ++ later) later ahead kept.in_order within c.in_ok-keep_start.ensures.nothing held refl
    (c.in_ok-keep_start.ensures.ahead (take count piece ++ later) ahead before))
