use Rattle.std.proofs.Common.{length}
use Rattle.peg_explain.proofs.RefusalLemmas.{true_refusal}
use Rattle.peg_parser.specs.Refusals.{IsRefusalOf}
use Rattle.peg_explain_files.proofs.explaining.write_refusal.Goals as goal

pub refusal_message-requires-clause-true_refusal :
    goal.refusal_message-requires-clause-true_refusal
refusal_message-requires-clause-true_refusal g c =
    true_refusal (IsRefusalOf c.args.file.now) (length c.args.file.now) c.args.refusal.now c.requires.refused
