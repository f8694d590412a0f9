use Rattle.std.proofs.Common.{◌≡◌, ◌+◌, ◌<◌, length, drop, arith, sym, ◌∙◌, ap}
use Rattle.std.proofs.lemmas.List.{take_rest}
use Rattle.peg_bytes.specs.EndsLine.{ends_line}
use Rattle.peg_bytes.specs.Place.{last_or}
use Rattle.peg_bytes.proofs.PlaceLemmas.{ends_within, ends_within-following, ends_within-one, ends_within-none}
use Rattle.peg_bytes.proofs.line_column.place.Goals as goal
use Rattle.peg_bytes.proofs.line_column.place.Goals.{then-ends_line, else-ends_line}

pub loop-next-preserved : goal.loop-next-preserved
loop-next-preserved c =
    let file = c.args.file.now in
    let at = c.args.at in
    let next = c.loop-next.next in
    let within : next < length file = omega arith in
    let before : next < at = omega arith in
    let test : ends_line (drop next file) ≡ c.ends_line.result =
    sym (c.ends_line.ensures ∙ ap ends_line (take_rest file next)) in
    elim c.if-ends_line.branch [
      | then-ends_line w ↦
          let one = ends_within-one file at next within before (test ∙ w.if-ends_line.true) in
          record {
            lines = omega (arith, ap length one);
            last =
                ap (λ s. last_or s (ends_within at (next + 1) (drop (next + 1) file))) w.start-is
                ∙ sym (ap (last_or c.loop-next.start) one) ∙ c.loop-next.invariant.last;
            start = omega arith;
            few = omega arith;
          }
      | else-ends_line w ↦
          let none = ends_within-none file at next within before (test ∙ w.if-ends_line.false) in
          record {
            lines = omega (arith, ap length none);
            last =
                ap (λ s. last_or s (ends_within at (next + 1) (drop (next + 1) file))) w.start-is
                ∙ sym (ap (last_or c.loop-next.start) none) ∙ c.loop-next.invariant.last;
            start = omega arith;
            few = omega arith;
          }
    ]

pub returns-clause-line : goal.returns-clause-line
returns-clause-line c =
    let none = ends_within-following c.args.at c.loop-next.next (drop c.loop-next.next c.args.file.now) (omega arith) in
    omega (arith, ap length none)

pub returns-clause-column : goal.returns-clause-column
returns-clause-column c =
    let none = ends_within-following c.args.at c.loop-next.next (drop c.loop-next.next c.args.file.now) (omega arith) in
    omega (arith, ap (last_or c.loop-next.start) none)
