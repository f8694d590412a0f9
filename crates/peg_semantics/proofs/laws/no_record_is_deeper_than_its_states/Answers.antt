use Rattle.std.proofs.Common.{le_refl}
use Rattle.peg_semantics.specs.Depth.{max_cases}
use Rattle.peg_semantics.specs.Rules.{name_of}
use Rattle.peg_semantics.proofs.EnoughDepth.{start-soon}
use Rattle.peg_semantics.proofs.laws.no_record_is_deeper_than_its_states.Goals as goal

pub returns : goal.returns
returns c = λ rules text n start r is.
    start-soon rules text (name_of rules start) n (max_cases rules text) r (le_refl (max_cases rules text)) is
