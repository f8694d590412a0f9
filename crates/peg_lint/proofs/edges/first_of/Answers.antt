use Rattle.std.proofs.Common.{◌&&◌, ap, ◌∙◌, true, false}
use Rattle.peg_lint.proofs.edges.first_of.Goals as goal

pub returns : goal.returns
returns c = λ i. record {
  nothing = false;
  something = true;
  fails = true;
  any = false;
  begins = λ byte. c.single-first.ensures byte i;
  takes = λ byte. (c.only_if.ensures byte ∙ ap (λ x. c.args.is_alone && x) (c.single-first.ensures byte)) i;
  stops = λ byte. c.empty.ensures byte i;
}
