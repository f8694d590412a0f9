use Rattle.std.proofs.Common.{codes}
use Rattle.peg_messages.specs.Sentences.{token_text}
use Rattle.peg_messages.proofs.AppendLemmas.{appended}
use Rattle.peg_messages.proofs.sentences.write_unexpected.Goals as goal

pub returns : goal.returns
returns c =
    appended c.write_token.result c.args.out.now.items _ _ (codes "unexpected ") (token_text c.args.file.now c.args.at)
    c.in_ok-extend_from_slice.ensures.items c.write_token.ensures
