-- The abstract outcomes of a grammar's rules (Ford 2004, section 3.5).
use Rattle.std.specs.Prelude.{◌≡◌, ◌↔◌, true, List}
use Rattle.std.specs.List.{AllZip}
use Rattle.peg_semantics.specs.AbstractOutcomes.{Can, GivesNothing, GivesSomething, CanFail}
use Rattle.peg_semantics.specs.Form.{Form}
use Rattle.peg_semantics.specs.Rules.{Rule}

-- each of the three flags is true exactly if the expression has that outcome by Ford's rules
pub record IsAbstractOutcome (rules : List Rule) (e : Form) (can : Can) : Type 0 where
  pub nothing : (can.nothing ≡ true) ↔ GivesNothing rules e
  pub something : (can.something ≡ true) ↔ GivesSomething rules e
  pub fails : (can.fails ≡ true) ↔ CanFail rules e

-- the outcomes of each rule's expression, in order
abbrev pub AreAbstractOutcomes : List Rule → List Can → Type 0
AreAbstractOutcomes rules cans = AllZip (λ rule can. IsAbstractOutcome rules rule.body can) rules cans
