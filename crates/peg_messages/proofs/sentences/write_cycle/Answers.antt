use Rattle.std.proofs.Common.{codes, map}
use Rattle.peg_messages.specs.Sentences.{path_text}
use Rattle.peg_messages.proofs.AppendLemmas.{appended}
use Rattle.peg_messages.proofs.sentences.write_cycle.Goals as goal

pub returns : goal.returns
returns c =
    appended c.write_path.result c.args.out.now.items _ _ (codes "left recursion: ")
    (path_text (map (λ name. name.now) c.args.path.now)) c.in_ok-extend_from_slice.ensures.items c.write_path.ensures
