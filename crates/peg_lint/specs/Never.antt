-- What the records of an expression have in common, on every text and at every position.
use Rattle.std.specs.Prelude.{◌≡◌, ◌≢◌, ℕ, List}
use Rattle.peg_tree.specs.Trees.{NoTrees, Trees}
use Rattle.peg_semantics.specs.Form.{Form}
use Rattle.peg_semantics.specs.Record.{Failed, Matched, Record, IsRecord}
use Rattle.peg_semantics.specs.Rules.{Rule}

-- each record of the expression is a failure
abbrev pub NeverMatches : List Rule → Form → Type 0
NeverMatches rules e = (text : List ℕ) (terminal position : ℕ) (r : Record)
    → IsRecord rules text e terminal position r → r.result ≡ Failed

-- no record of the expression is a failure
abbrev pub NeverFails : List Rule → Form → Type 0
NeverFails rules e = (text : List ℕ) (terminal position : ℕ) (r : Record)
    → IsRecord rules text e terminal position r → r.result ≢ Failed

-- each record of the expression is a match that consumes nothing and leaves no tree
abbrev pub MatchesNothing : List Rule → Form → Type 0
MatchesNothing rules e = (text : List ℕ) (terminal position : ℕ) (r : Record)
    → IsRecord rules text e terminal position r → r.result ≡ Matched position NoTrees

-- each record of the first expression is a record of the second
abbrev pub HasRecordsOf : List Rule → Form → Form → Type 0
HasRecordsOf rules e other = (text : List ℕ) (terminal position : ℕ) (r : Record)
    → IsRecord rules text e terminal position r → IsRecord rules text other terminal position r

-- the records of both expressions at the same position have the same result, whatever their terminals' numbers
abbrev pub HaveSameResults : List Rule → Form → Form → Type 0
HaveSameResults rules e other = (text : List ℕ) (terminal number position : ℕ) (r s : Record)
    → IsRecord rules text e terminal position r → IsRecord rules text other number position s → r.result ≡ s.result

-- wherever the first expression fails, the second fails
abbrev pub FailsWhere : List Rule → Form → Form → Type 0
FailsWhere rules e other = (text : List ℕ) (terminal number position : ℕ) (r s : Record)
    → IsRecord rules text e terminal position r → IsRecord rules text other number position s
    → r.result ≡ Failed → s.result ≡ Failed

-- wherever a match of the first expression ends, the second fails
abbrev pub FailsAfter : List Rule → Form → Form → Type 0
FailsAfter rules e other = (text : List ℕ) (terminal number position end : ℕ) (trees : Trees) (r s : Record)
    → IsRecord rules text e terminal position r → r.result ≡ Matched end trees
    → IsRecord rules text other number end s → s.result ≡ Failed

-- wherever a match of the first expression ends, a match of the second ends, too
abbrev pub MatchesNoByteAfter : List Rule → Form → Form → Type 0
MatchesNoByteAfter rules e other = (text : List ℕ) (terminal number position end stop : ℕ) (trees more : Trees)
    (r s : Record) → IsRecord rules text e terminal position r → r.result ≡ Matched end trees
    → IsRecord rules text other number end s → s.result ≡ Matched stop more → stop ≡ end
