-- What the abstract outcomes of an expression exclude (Ford 2004, section 3.5).
use Rattle.std.specs.Prelude.{List}
use Rattle.peg_semantics.specs.AbstractOutcomes.{CanFail, GivesNothing, GivesSomething}
use Rattle.peg_semantics.specs.Form.{Form}
use Rattle.peg_semantics.specs.Rules.{Rule}

-- the outcomes of the expression exclude a match: it gives neither 0 nor 1
pub record CannotMatch (rules : List Rule) (e : Form) : Type 0 where
  pub nothing : ¬ GivesNothing rules e
  pub something : ¬ GivesSomething rules e

-- the outcomes of the expression exclude a failure
abbrev pub CannotFail : List Rule → Form → Type 0
CannotFail rules e = ¬ CanFail rules e
