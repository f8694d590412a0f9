use Rattle.std.proofs.Common.{◌≡◌, ◌∙◌, ◌-◌, ℕ, List, arith, ap, drop, length, refl, slice_range, sym, take}
use Rattle.std.proofs.lemmas.Grind.{common_steps}
use Rattle.peg_records.specs.Records.{line_feeds_found}
use Rattle.peg_records.proofs.ReaderLemmas.{reader-last}
use Rattle.peg_records.proofs.reader.RecordReader.last.Goals as goal

pub returns-clause-last : goal.returns-clause-last
returns-clause-last c ahead before =
    let old = c.args.self.now in
    let xs = old.held.items in
    let size : c.len.result ≡ length xs = grind (arith, common_steps) in
    let same : c.len-self.result ≡ c.len.result = grind (arith, common_steps) in
    let other = c.deref.result.now in
    let part : take (length other - old.start) (drop old.start other) ≡ slice_range xs old.start c.len.result =
    ap (λ (l : List ℕ). take (length l - old.start) (drop old.start l)) c.deref.ensures.value
    ∙ ap (λ n. take (n - old.start) (drop old.start xs)) (sym size) in
    reader-last old.end old.limit old.lost _ xs old.start old.searched c.len.result ahead old.in_order (grind (arith, common_steps))
    c.requires size before (ap (slice_range xs old.start) same) (refl, refl)
    (c.line_feeds_found-self.ensures ∙ ap (line_feeds_found old.end old.lost) part)
