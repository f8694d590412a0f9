use Rattle.std.proofs.Common.{◌≡◌, ◌∙◌, ◌+◌, arith, drop, suc, subst}
use Rattle.peg_explain.specs.NearNames.{is_near}
use Rattle.peg_explain.proofs.NearNameLemmas.{near-end, near-more}
use Rattle.peg_explain.proofs.near_names.common_len.Goals as goal

pub bytes-preserved : goal.bytes-preserved
bytes-preserved c =
    let one = c.args.one.now in
    let other = c.args.other.now in
    let at = c.bytes.at in
    let next : suc at ≡ at + 1 = omega arith in
    record {
      within = omega (arith, c.bytes-test.true);
      near = c.bytes.invariant.near ∙ subst (λ n. is_near (drop at one) (drop at other) ≡ is_near (drop n one) (drop n other)) next
          (near-more one other at (omega (arith, c.bytes-test.true, c.min-len.ensures))
          (omega (arith, c.bytes-test.true, c.min-len.ensures)) c.if-one-at.true);
    }

pub returns-else-one-at-clause-in_one : goal.returns-else-one-at-clause-in_one
returns-else-one-at-clause-in_one c = omega (arith, c.bytes.invariant.within, c.min-len.ensures)

pub returns-else-one-at-clause-in_other : goal.returns-else-one-at-clause-in_other
returns-else-one-at-clause-in_other c = omega (arith, c.bytes.invariant.within, c.min-len.ensures)

pub returns-else-one-at-clause-near : goal.returns-else-one-at-clause-near
returns-else-one-at-clause-near c =
    c.bytes.invariant.near ∙ near-end c.args.one.now c.args.other.now c.bytes.at (λ in_one in_other. c.if-one-at.false)

pub returns-after-bytes-clause-in_one : goal.returns-after-bytes-clause-in_one
returns-after-bytes-clause-in_one c = omega (arith, c.bytes.invariant.within, c.min-len.ensures)

pub returns-after-bytes-clause-in_other : goal.returns-after-bytes-clause-in_other
returns-after-bytes-clause-in_other c = omega (arith, c.bytes.invariant.within, c.min-len.ensures)

pub returns-after-bytes-clause-near : goal.returns-after-bytes-clause-near
returns-after-bytes-clause-near c =
    c.bytes.invariant.near ∙ near-end c.args.one.now c.args.other.now c.bytes.at
    (λ in_one in_other. absurd (omega (arith, in_one, in_other, c.bytes-test.false, c.min-len.ensures)))
