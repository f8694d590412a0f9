use Rattle.std.proofs.Common.{◌≡◌, false, drop}
use Rattle.peg_lint.specs.Habits.{has_closing}
use Rattle.peg_lint.proofs.habits.has_closing.Given as goal

-- what is to be found in the rest of the text is to be found in all of it
abbrev pub invariant-bytes : goal.invariant-bytes
invariant-bytes l = has_closing l.is_comment (drop l.byte-index l.text) ≡ has_closing false l.text
