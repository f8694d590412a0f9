use Rattle.std.proofs.Common.{◌≡◌, ◌+◌, ◌-◌, ◌≤◌, ◌∙◌, ℕ, List, ap, arith, drop, length, min, take}
use Rattle.std.proofs.lemmas.Grind.{common_steps}
use Rattle.std.proofs.lemmas.List.{take_rest}
use Rattle.std.specs.List.{count_by}
use Rattle.std.specs.Vec.{vec_len}
use Rattle.peg_records.specs.Records.{is_line_feed}
use Rattle.peg_records.proofs.ReaderLemmas.{reader-kept}
use Rattle.peg_records.proofs.reader.RecordReader.keep_start.Goals as goal

pub returns-clause-ahead : goal.returns-clause-ahead
returns-clause-ahead c left ahead before =
    let old = c.args.self.now in
    let xs = old.held.items in
    let moved = c.truncate.new.self.items in
    let within : old.searched ≤ length xs = grind (arith, common_steps) in
    let len : vec_len old.held ≡ length xs = grind (arith, common_steps) in
    let size : c.len-self.result ≡ length moved = grind (arith, common_steps) in
    let count : c.min-kept.result ≡ min (vec_len old.held - old.start) (old.limit + 2) = grind (arith, common_steps) in
    let other = c.deref.result.now in
    let from = old.start + c.min-kept.result in
    let lost : take (length other - from) (drop from other) ≡ drop from xs =
    ap (λ (l : List ℕ). take (length l - from) (drop from l)) c.deref.ensures.value ∙ take_rest xs from in
    reader-kept old.end old.limit old.lost c.in_ok-self.field-0 xs moved old.start old.searched (vec_len old.held) c.min-kept.result c.len-self.result left
    ahead old.in_order within c.requires len count
    (c.truncate.ensures.items ∙ ap (take c.min-kept.result) c.move_to_front.ensures.items) size
    (c.in_ok-self.ensures.value ∙ ap (λ (l : List ℕ). old.lost + count_by is_line_feed l) lost) before
