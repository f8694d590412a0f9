use Rattle.std.proofs.Common.{◌+◌, ◌-◌, ◌*◌, ◌≤◌, length}
use Rattle.peg_notation.specs.Reader.{begins_prefix, starts_with_slash, prefix, alternative}
use Rattle.peg_notation.specs.ReaderCode.{lexemes, inner_reading, forms_seen}
use Rattle.peg_notation.specs.ReaderFile.{file_of}
use Rattle.peg_notation.proofs.ManyLoops.{SoFar}
use Rattle.peg_notation.proofs.reader.Reader.+reader.Given as goal

abbrev pub decreases-expression : goal.decreases-expression
decreases-expression l = 8 * l.left + 6

abbrev pub decreases-alternative : goal.decreases-alternative
decreases-alternative l = 8 * l.left + 5

abbrev pub decreases-sequence : goal.decreases-sequence
decreases-sequence l = 8 * l.left + 4

abbrev pub decreases-prefix : goal.decreases-prefix
decreases-prefix l = 8 * l.left + 3

abbrev pub decreases-suffix : goal.decreases-suffix
decreases-suffix l = 8 * l.left + 2

abbrev pub decreases-primary : goal.decreases-primary
decreases-primary l = 8 * l.left + 1

abbrev pub decreases-parenthesized : goal.decreases-parenthesized
decreases-parenthesized l = 8 * l.left

-- the sequences so far, each after a slash
abbrev pub invariant-expression-alternatives : goal.invariant-expression-alternatives
invariant-expression-alternatives l =
    let inner = inner_reading (file_of l.self) l.left in
    record {
      so_far : SoFar starts_with_slash (alternative (file_of l.self) inner) l.first.last
          (lexemes l.rest) (forms_seen l.more);
      fits : l.more.token_count ≤ length l.rest;
      shallow : l.more.depth ≤ l.left;
    }

-- the expressions so far
abbrev pub invariant-sequence-items : goal.invariant-sequence-items
invariant-sequence-items l =
    let inner = inner_reading (file_of l.self) l.left in
    record {
      so_far : SoFar begins_prefix (λ b. prefix (file_of l.self) inner) l.before (lexemes l.tokens) (forms_seen l.items);
      fits : l.items.token_count ≤ length l.tokens;
      shallow : l.items.depth ≤ l.left;
    }

abbrev pub decreases-expression-alternatives : goal.decreases-expression-alternatives
decreases-expression-alternatives l = length l.rest - l.more.token_count

abbrev pub decreases-sequence-items : goal.decreases-sequence-items
decreases-sequence-items l = length l.tokens - l.items.token_count
