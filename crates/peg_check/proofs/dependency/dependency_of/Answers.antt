use Rattle.std.proofs.Common.{Bool, true, false, sym, ap, ◌∙◌}
use Rattle.peg_bytes.specs.ByteSet.{bytes_of}
use Rattle.peg_semantics.specs.AbstractOutcomes.{Can}
use Rattle.peg_core.specs.CoreOutcomes.{core_can_table}
use Rattle.peg_core.specs.Layout.{bodies_of}
use Rattle.peg_check.proofs.DependencyLemmas.{not-empty, rule-is}
use Rattle.peg_check.proofs.dependency.dependency_of.Goals as goal

pub returns-in-Test : goal.returns-in-Test
returns-in-Test c =
    let test = λ (some : Bool). let can : Can = record { nothing = false; something = some; fails = true } in can in
    record {
      fits = tt;
      agrees = λ check_core. ap (core_can_table (bodies_of c.args.core.now) check_core) c.in-Test.ensures.form.1
          ∙ ap test (sym (not-empty (bytes_of c.in-Test.set) c.is_empty.result c.is_empty.ensures));
    }

pub returns-in-Rule : goal.returns-in-Rule
returns-in-Rule c = record {
  fits = c.body.ensures.within;
  agrees = λ check_core. ap (core_can_table (bodies_of c.args.core.now) check_core) c.in-Rule.ensures.form.1
      ∙ rule-is c.args.core.now check_core c.in-Rule.rule c.body.result c.body.ensures.number;
}
