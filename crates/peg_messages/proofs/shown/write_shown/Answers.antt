use Rattle.std.proofs.Common.{arith}
use Rattle.std.proofs.lemmas.Bool.Decides.{nat_tests}
use Rattle.peg_messages.proofs.CharacterLemmas.{shown-more}
use Rattle.peg_messages.proofs.shown.write_shown.Goals as goal

pub characters-preserved : goal.characters-preserved
characters-preserved c =
    shown-more c.args.style c.characters.out.items _ c.characters.rest.now _ c.character_len-length.result
    c.character_len-length.ensures.value (grind (arith, nat_tests)) c.in_ok-write_character.ensures
    c.characters.invariant
