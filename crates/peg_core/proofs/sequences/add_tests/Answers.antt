use Rattle.std.proofs.Common.{◌≡◌, ◌+◌, ◌<◌, ◌++◌, ◌∷◌, [], length, get_or, take, sym, ap, ◌∙◌, subst, arith}
use Rattle.peg_bytes.specs.ByteSet.{only, bytes_of}
use Rattle.peg_core.specs.CoreForm.{Test, tests_of}
use Rattle.peg_core.specs.Appending.{AppendsAll}
use Rattle.peg_core.proofs.LaidLemmas.{AppendsAll-push, tests_of-more, pushed, length-pushed}
use Rattle.peg_core.proofs.Sets.{bytes_of-only}
use Rattle.peg_core.proofs.sequences.add_tests.Goals as goal

pub loop-byte-preserved : goal.loop-byte-preserved
loop-byte-preserved c =
    let old = c.args.builder.now in
    let mid = c.loop-byte.builder in
    let new = c.push.new.self in
    let bytes = c.args.bytes.now in
    let at = c.loop-byte.byte-index in
    let byte = get_or bytes at 0 in
    let t = c.args.terminal in
    let within : at < length bytes = omega (arith, c.loop-byte-test.true) in
    let is : bytes_of c.single-set.result ≡ only byte = bytes_of-only c.single-set.result byte (let fits = c.type_inv.bytes at in omega arith) c.single-set.ensures in
    let put : new ≡ pushed mid (Test (only byte) t) = c.in_ok-number.ensures.put ∙ ap (λ set. pushed mid (Test set t)) is in
    let parts = tests_of t (take at bytes) in
    let grown = AppendsAll-push old mid new parts parts [] c.loop-byte.numbers.items (Test (only byte) t) c.in_ok-number.number c.loop-byte.invariant.so_far put c.in_ok-number.ensures.number in
    record {
      room = omega (arith, c.loop-byte.invariant.room, length-pushed mid new _ put, within);
      so_far =
          subst (λ numbers. AppendsAll old (tests_of t (take (at + 1) bytes)) [] (tests_of t (take (at + 1) bytes)) numbers new)
          (sym c.in_ok-push.ensures.items)
          (subst (λ tests. AppendsAll old tests [] tests (c.loop-byte.numbers.items ++ c.in_ok-number.number ∷ []) new)
          (sym (tests_of-more t at bytes within)) grown);
    }
