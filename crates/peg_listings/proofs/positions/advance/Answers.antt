use Rattle.std.proofs.Common.{◌≡◌, ◌∙◌, ap, arith, drop, sym}
use Rattle.peg_bytes.specs.EndsLine.{ends_line}
use Rattle.peg_listings.proofs.PositionLemmas.{line-none, line-one, start-none, start-one}
use Rattle.peg_listings.proofs.positions.advance.Goals as goal
use Rattle.peg_listings.proofs.positions.advance.Goals.{then-ends_line, else-ends_line}

pub bytes-preserved : goal.bytes-preserved
bytes-preserved c =
    let file = c.args.file.now in
    let next = c.bytes.next in
    let test : ends_line (drop next file) ≡ c.ends_line.result =
    sym (c.ends_line.ensures ∙ ap ends_line c.rest_from.ensures) in
    elim c.if-ends_line.branch [
      | then-ends_line w ↦
          let is = test ∙ w.if-ends_line.true in
          record {
            line = omega (arith, line-one file next is, w.line-is, c.bytes.invariant.line);
            start = omega (arith, start-one file next is);
            before = omega arith;
            few = omega arith;
          }
      | else-ends_line w ↦
          let is = test ∙ w.if-ends_line.false in
          record {
            line = w.line-is ∙ c.bytes.invariant.line ∙ sym (line-none file next is);
            start = w.start-is ∙ c.bytes.invariant.start ∙ sym (start-none file next is);
            before = omega arith;
            few = omega arith;
          }
    ]
