use Rattle.peg_parser.proofs.engine.Engine.new.Goals as goal

pub invariant_of-result : goal.invariant_of-result
invariant_of-result c = record {
  well_formed = ∣ c.requires.well_formed ∣₁;
  bodies = ∣ c.requires.program.bodies ∣₁;
  code = c.requires.program.code;
  entries = c.requires.program.entries;
  spans = c.requires.program.spans;
}
