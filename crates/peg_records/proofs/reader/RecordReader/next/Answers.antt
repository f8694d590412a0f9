use Rattle.std.proofs.Common.{◌≡◌, ◌∙◌, ◌+◌, ◌<◌, ◌≤◌, List, None, Some, ℕ, [], ap, arith, drop, length, refl, slice_range, subst, sym}
use Rattle.std.proofs.lemmas.Grind.{common_steps}
use Rattle.peg_records.specs.Ahead.{IsGivenFor}
use Rattle.peg_records.specs.Readers.{record_at, rest_of, settings_of}
use Rattle.peg_records.specs.Records.{line_feeds_of}
use Rattle.peg_records.proofs.ReaderLemmas.{ahead-same, range-none, reader-found, reader-searched, searched-rest}
use Rattle.peg_records.proofs.RecordLemmas.{none-in}
use Rattle.peg_records.proofs.reader.RecordReader.next.Goals as goal

pub returns-in-Some-clause-next : goal.returns-in-Some-clause-next
returns-in-Some-clause-next c left ahead before =
    let old = c.args.self.now in
    let new = c.find.new.self in
    let xs = old.held.items in
    let at = old.searched + c.in-Some.offset in
    let first = searched-rest old.end xs c.deref.result.now old.searched c.byte.result (Some c.in-Some.offset)
    c.deref.ensures.value c.byte.ensures c.in-Some.ensures in
    let high : c.in-Some.offset < length (drop old.searched xs) = first.0.high in
    let within : at < length xs = grind (arith, common_steps, high) in
    let found = reader-found old.end old.limit old.lost xs old.start old.searched c.in-Some.offset left ahead old.in_order within
    first.0.before first.1 before in
    let given = subst (λ (l : List ℕ). IsGivenFor old.limit l found.0) (sym c.find.ensures.record) found.3 in
    let kept : slice_range new.held.items new.start new.searched ≡ [] =
    ap (slice_range new.held.items new.start) (c.find.ensures.searched ∙ sym c.find.ensures.start)
    ∙ range-none new.held.items new.start in
    let rest : rest_of new ≡ drop (at + 1) xs =
    ap (λ n. drop n new.held.items) c.find.ensures.searched ∙ ap (λ held. drop (at + 1) held.items) c.find.ensures.held in (
      found.0,
      found.1,
      found.2,
      subst (λ n. IsGivenFor n (record_at new) found.0) (sym (ap (λ s. s.1) c.find.ensures.settings)) given,
      ahead-same (settings_of old) (settings_of new) 0 new.lost [] (drop (at + 1) xs)
          (slice_range new.held.items new.start new.searched) (rest_of new) left found.1 c.find.ensures.settings
          c.find.ensures.lost kept rest found.4,
      c.find.ensures.line_feeds ∙ (found.5 ∙ ap (λ s. line_feeds_of s.0 found.0) (sym c.find.ensures.settings)),
    )

pub returns-in-None-clause-next : goal.returns-in-None-clause-next
returns-in-None-clause-next c left ahead before =
    let old = c.args.self.now in
    let xs = old.held.items in
    let none = searched-rest old.end xs c.deref.result.now old.searched c.byte.result None c.deref.ensures.value
    c.byte.ensures c.in-None.ensures in
    let within : old.searched ≤ length xs = grind (arith, common_steps) in
    let all = reader-searched old.end old.limit old.lost xs old.start old.searched left ahead old.in_order within
    (none-in old.end (drop old.searched xs) none) before in
    let size : c.len-self.result ≡ length xs = grind (arith, common_steps) in
    let rest : drop c.len-self.result xs ≡ [] = grind (arith, common_steps) in
    ahead-same (settings_of old) (settings_of old) old.lost old.lost _ _ _ _ left ahead refl refl (ap (slice_range xs old.start) size) rest all
