use Rattle.std.proofs.Common.{◌≡◌, ◌+◌, ◌<◌, ◌≤◌, ◌||◌, Bool, List, length, inr, sym, ◌∙◌, ap, subst, arith}
use Rattle.peg_bytes.specs.ByteSet.{bytes_of, has}
use Rattle.peg_bytes.specs.Extent.{between, extent}
use Rattle.peg_metagrammar.specs.RangesCode.{range_of}
use Rattle.peg_lint.specs.Linting.{AreSeen, FindsRange, FindsRanges, FindsRangesBefore, FindsRepeat}
use Rattle.peg_lint.specs.Spelling.{IsRangeAt, IsRangeOfClass, RangesBetween, one_more, none}
use Rattle.peg_lint.proofs.FileLemmas.{AddsIn-same, AddsIn-then, AddsIn-weaker, FindsRange-later}
use Rattle.peg_lint.proofs.RangeLemmas.{FindsRanges-all, FindsRanges-none, FindsRangesBefore-next}
use Rattle.peg_lint.proofs.RepeatLemmas.{AreSeen-next}
use Rattle.peg_lint.specs.declared.warning.Warning.{Warning}
use Rattle.peg_lint.proofs.classes.add_of_ranges.Goals as goal

pub spelled-init : goal.spelled-init
spelled-init c =
    let file = c.args.file.now in
    let class = extent c.args.class in
    let old = c.args.found.now.items in
    record {
      before = none;
      inside = omega arith;
      adds = λ rules set part within. AddsIn-same file rules
          (FindsRangesBefore file c.args.rule class (class.start + 1)) old
          (record {
            reversed = λ span is. inr is.2.before;
            to_bracket = λ span is. inr is.1.before;
            over_signs = λ span is. inr is.1.before;
            repeats = λ span is. inr is.is.before;
          });
      seen = record {
        sound = λ byte h. absurd (let none = c.empty-seen.ensures byte in cc);
        complete = λ span bytes byte is h. inr is.before;
      };
    }

pub spelled-preserved : goal.spelled-preserved
spelled-preserved c =
    let file = c.args.file.now in
    let number = c.args.rule in
    let piece = c.in-Some.range in
    let made = c.new-span.ensures in
    let span = extent c.new-span.result in
    let class = extent c.args.class in
    let before = c.spelled.invariant.before in
    let read = c.in-Some.ensures.read in
    let at = c.spelled.at in
    let l = c.args.found.now.items in
    let l0 = c.spelled.found.items in
    let l1 = c.add_of_range.new.found.items in
    let l2 = c.add_of_repeat.new.found.items in
    let bytes = range_of piece.bytes in
    let earlier = bytes_of c.spelled.seen in
    let later = bytes_of c.union-seen.result in
    let here : span ≡ between at (at + piece.length) = λ i. between (made.start i) (made.end i) in
    let ends : c.new-span.result.end ≤ c.args.class.end = rw made.end c.in-Some.ensures.within in
    let is : IsRangeOfClass file class span (range_of piece.bytes) = record {
      before = subst (RangesBetween file (class.start + 1)) (sym made.start) before;
      length = piece.length;
      read = subst (λ n. IsRangeAt file n piece.length (range_of piece.bytes)) (sym made.start) read;
      ends = ap (λ n. n + piece.length) made.start ∙ sym made.end;
      within = ends;
    } in
    let long : 0 < piece.length = c.in-Some.ensures.some in
    let inside : c.new-span.result.start < c.new-span.result.end = rw made.start (rw made.end (omega (arith, long))) in
    let seen : AreSeen file class c.new-span.result.start earlier =
    subst (λ n. AreSeen file class n earlier) (sym made.start) c.spelled.invariant.seen in
    let Both = λ (l : List Warning). FindsRange file number span bytes l × FindsRepeat file number class span l in
    record {
      before = subst (RangesBetween file (class.start + 1)) (sym made.end) (one_more before read);
      inside = ends;
      seen = subst (λ n. AreSeen file class n later) (sym made.end)
          (AreSeen-next file class at piece.length bytes earlier later
          (subst (λ s. IsRangeOfClass file class s bytes) here is)
          (λ byte. c.union-seen.ensures byte ∙ ap (λ (b : Bool). has earlier byte || b) (c.range.ensures byte))
          c.spelled.invariant.seen);
      adds = λ rules set part within.
          AddsIn-then file rules (FindsRangesBefore file number class at) Both
          (FindsRangesBefore file number class c.new-span.result.end) l l0 l2
          (c.spelled.invariant.adds rules set part within)
          (AddsIn-then file rules (FindsRange file number span bytes) (FindsRepeat file number class span) Both l0 l1 l2
          (c.in_ok-add_of_range.ensures rules set class part within is)
          (c.in_ok-add_of_repeat.ensures file rules set class part within is inside seen)
          (λ keeps one two. (FindsRange-later l1 l2 keeps file number span bytes one, two)))
          (λ keeps before this. subst (λ n. FindsRangesBefore file number class n l2) (sym made.end)
          (FindsRangesBefore-next file number class at piece.length bytes l0 l2 read keeps
          (subst (λ s. FindsRange file number s bytes l2) here this.0)
          (subst (λ s. FindsRepeat file number class s l2) here this.1) before));
    }

pub returns-then-class : goal.returns-then-class
returns-then-class c = λ rules set part within.
    let file = c.args.file.now in
    let class = extent c.args.class in
    let old = c.args.found.now.items in
    AddsIn-same file rules (FindsRanges file c.args.rule class) old
    (FindsRanges-none file c.args.rule class old (omega arith))

pub returns : goal.returns
returns c = λ rules set part within.
    let file = c.args.file.now in
    let number = c.args.rule in
    let class = extent c.args.class in
    let at = c.spelled.at in
    let inside : at ≤ length file = omega (arith, c.spelled.invariant.inside, within.ends) in
    AddsIn-weaker file rules (FindsRangesBefore file number class at) (FindsRanges file number class)
    c.args.found.now.items c.spelled.found.items
    (λ finds. FindsRanges-all file number class at c.spelled.found.items
    (λ long bytes is. c.in_default.ensures.last inside long bytes is) finds)
    (c.spelled.invariant.adds rules set part within)
