-- The counts of a reading are in range: each comes from a COUNT node of the tree, and all COUNT nodes are in range.
use Rattle.std.proofs.Common.{◌≡◌, ℕ, zero, suc, ◌+◌, ◌==◌, ◌&&◌, Bool, true, false, not, if◌then◌else◌, List, [], ◌∷◌, ◌++◌, All, slice_get, unwrap_or, refl, sym, ap, ◌∙◌, subst, arith}
use Rattle.std.proofs.lemmas.List.Elements.{All-nil, All-cons, All-append}
use Rattle.peg_bytes.specs.Extent.{Extent, between}
use Rattle.peg_tree.specs.Trees.{Trees, NoTrees, Tree}
use Rattle.peg_semantics.specs.Form.{Form, Forms, Count, Literal, Class, Any, Name, Seq, Choice, Optional, Star, Plus, And, Not, End, forms}
use Rattle.peg_semantics.specs.Form.{counts_written, counts_written_by_all}
use Rattle.peg_semantics.specs.Grammar.{CountsAreInRange, is_in_range}
use Rattle.peg_semantics.specs.Rules.{Rule, counts}
use Rattle.peg_metagrammar.specs.FigureRules.{count_rule}
use Rattle.peg_metagrammar.specs.Notation.{IsReading}
use Rattle.peg_metagrammar.specs.Denotation.{Denotation, Byte, Bytes, Numeral, Word, Sign, Expression, Definition, Bounds}
use Rattle.peg_metagrammar.specs.Denotation.{numerals_in, expressions_in, rules_denoted, bounds_spelled, counted_form, primary_spelled, signed, sequence_spelled}
use Rattle.peg_metagrammar.specs.Denotation.{choice_spelled, definition_spelled, text_end, node_spellings, node_spelled, spelled, rules_spelled}
use Rattle.peg_metagrammar.specs.Denotation.{bounds_in_range, bad_count, bad_counts}

-- ---- parts whose counts are in range

abbrev IsGood : Count → Type 0
IsGood count = is_in_range count ≡ true

abbrev Within : Form → Type 0
Within form = All IsGood (counts_written form)

abbrev GoodPiece : Denotation → Type 0
GoodPiece (Byte byte) = Unit {0}
GoodPiece (Bytes bytes) = Unit {0}
GoodPiece (Numeral value) = Unit {0}
GoodPiece (Word name span) = Unit {0}
GoodPiece (Sign sign) = (form : Form) (span : Extent) → Within form → Within (sign form span)
GoodPiece (Expression form) = Within form
GoodPiece (Definition rule) = Within rule.body

abbrev Good : List Denotation → Type 0
Good [] = Unit {0}
Good (piece ∷ pieces) = GoodPiece piece × Good pieces

Good-append : (first more : List Denotation) → Good first → Good more → Good (first ++ more)
Good-append [] more good rest = rest
Good-append (piece ∷ pieces) more good rest = (good.0, Good-append pieces more good.1 rest)

abbrev AllWithin : List Form → Type 0
AllWithin [] = Unit {0}
AllWithin (form ∷ more) = Within form × AllWithin more

expressions-good : (pieces : List Denotation) → Good pieces → AllWithin (expressions_in pieces)
expressions-good [] good = tt
expressions-good (Byte b ∷ pieces) good = expressions-good pieces good.1
expressions-good (Bytes r ∷ pieces) good = expressions-good pieces good.1
expressions-good (Numeral v ∷ pieces) good = expressions-good pieces good.1
expressions-good (Word n s ∷ pieces) good = expressions-good pieces good.1
expressions-good (Sign m ∷ pieces) good = expressions-good pieces good.1
expressions-good (Expression f ∷ pieces) good = (good.0, expressions-good pieces good.1)
expressions-good (Definition d ∷ pieces) good = expressions-good pieces good.1

by_all : (some : List Form) → AllWithin some → All IsGood (counts_written_by_all (forms some))
by_all [] good = All-nil IsGood
by_all (form ∷ more) good =
    All-append IsGood (counts_written form) (counts_written_by_all (forms more)) good.0 (by_all more good.1)

sequence-good : (before : ℕ) (span : Extent) (some : List Form) → AllWithin some → Within (sequence_spelled before span some)
sequence-good before span [] good = All-nil IsGood
sequence-good before span (form ∷ []) good = good.0
sequence-good before span (first ∷ second ∷ more) good = by_all (first ∷ second ∷ more) good

choice-good : (span : Extent) (some : List Form) → AllWithin some → Within (choice_spelled span some)
choice-good span [] good = All-nil IsGood
choice-good span (form ∷ []) good = good.0
choice-good span (first ∷ second ∷ more) good =
    All-append IsGood (counts_written first) (counts_written_by_all (forms (second ∷ more))) good.0
    (by_all (second ∷ more) good.1)

signed-good : (span : Extent) (pieces : List Denotation) → Good pieces → Good (signed span pieces)
signed-good span [] good = good
signed-good span (Byte b ∷ pieces) good = good
signed-good span (Bytes r ∷ pieces) good = good
signed-good span (Numeral v ∷ pieces) good = good
signed-good span (Word n s ∷ pieces) good = good
signed-good span (Definition d ∷ pieces) good = good
signed-good span (Expression f ∷ []) good = good
signed-good span (Expression g ∷ Byte b ∷ pieces) good = good
signed-good span (Expression g ∷ Bytes r ∷ pieces) good = good
signed-good span (Expression g ∷ Numeral v ∷ pieces) good = good
signed-good span (Expression g ∷ Word n s ∷ pieces) good = good
signed-good span (Expression g ∷ Expression f ∷ pieces) good = good
signed-good span (Expression g ∷ Definition d ∷ pieces) good = good
signed-good span (Expression f ∷ Sign m ∷ []) good = (good.1.0 f span good.0, tt)
signed-good span (Expression f ∷ Sign m ∷ next ∷ pieces) good = good
signed-good span (Sign m ∷ []) good = good
signed-good span (Sign g ∷ Byte b ∷ pieces) good = good
signed-good span (Sign g ∷ Bytes r ∷ pieces) good = good
signed-good span (Sign g ∷ Numeral v ∷ pieces) good = good
signed-good span (Sign g ∷ Word n s ∷ pieces) good = good
signed-good span (Sign g ∷ Sign m ∷ pieces) good = good
signed-good span (Sign g ∷ Definition d ∷ pieces) good = good
signed-good span (Sign m ∷ Expression f ∷ []) good = (good.0 f span good.1.0, tt)
signed-good span (Sign m ∷ Expression f ∷ next ∷ pieces) good = good

primary-good : (pieces : List Denotation) → Good pieces → Good (primary_spelled pieces)
primary-good [] good = good
primary-good (Byte b ∷ pieces) good = good
primary-good (Bytes r ∷ pieces) good = good
primary-good (Numeral v ∷ pieces) good = good
primary-good (Sign m ∷ pieces) good = good
primary-good (Expression f ∷ pieces) good = good
primary-good (Definition d ∷ pieces) good = good
primary-good (Word n s ∷ []) good = (All-nil IsGood, tt)
primary-good (Word n s ∷ next ∷ pieces) good = good

definition-good : (pieces : List Denotation) → Good pieces → Good (definition_spelled pieces)
definition-good [] good = good
definition-good (Byte b ∷ pieces) good = good
definition-good (Bytes r ∷ pieces) good = good
definition-good (Numeral v ∷ pieces) good = good
definition-good (Sign m ∷ pieces) good = good
definition-good (Expression f ∷ pieces) good = good
definition-good (Definition d ∷ pieces) good = good
definition-good (Word n s ∷ []) good = good
definition-good (Word n s ∷ Byte b ∷ pieces) good = good
definition-good (Word n s ∷ Bytes r ∷ pieces) good = good
definition-good (Word n s ∷ Numeral v ∷ pieces) good = good
definition-good (Word n s ∷ Word o t ∷ pieces) good = good
definition-good (Word n s ∷ Sign m ∷ pieces) good = good
definition-good (Word n s ∷ Definition d ∷ pieces) good = good
definition-good (Word n s ∷ Expression f ∷ []) good = (good.1.0, tt)
definition-good (Word n s ∷ Expression f ∷ next ∷ pieces) good = good

-- ---- what a node denotes, by the number of its rule

-- lists numbered from `number` on, of which the one with number `rule` is good
abbrev GoodFrom : (rule number : ℕ) → List (List Denotation) → Type 0
GoodFrom rule number [] = Unit {0}
GoodFrom rule number (list ∷ lists) = (rule ≡ number → Good list) × GoodFrom rule (number + 1) lists

chosen-good : (rule number position : ℕ) (lists : List (List Denotation)) (inner : List Denotation) → rule ≡ number + position
    → GoodFrom rule number lists → Good inner → Good (unwrap_or (slice_get lists position) inner)
chosen-good rule number position [] inner is good rest = rest
chosen-good rule number zero (list ∷ lists) inner is good rest = good.0 (omega (arith, is))
chosen-good rule number (suc position) (list ∷ lists) inner is good rest =
    chosen-good rule (number + 1) position lists inner (omega (arith, is)) good.1 rest

-- a count with bounds in range leaves the counts of its expression in range
count-good : (b : Bounds) → bounds_in_range b ≡ true → Good (Sign (counted_form b) ∷ [])
count-good b is = (
  λ form span good. All-cons IsGood (record { min = b.min; max = b.max; span = span }) (counts_written form) is good,
  tt,
)

sign-good : (sign : Form → Extent → Form) → ((form : Form) (span : Extent) → counts_written (sign form span) ≡ counts_written form)
    → Good (Sign sign ∷ [])
sign-good sign same = ((λ form span good. subst (All IsGood) (sym (same form span)) good), tt)

node-good : (file : List ℕ) (rule before start end last : ℕ) (inner : List Denotation) → Good inner
    → (rule ≡ count_rule → bounds_in_range (bounds_spelled (numerals_in inner)) ≡ true)
    → Good (node_spelled file rule before start end last inner)
node-good file rule before start end last inner good in_range =
    chosen-good rule 0 rule (node_spellings file before start end last inner) inner (omega arith) (
      (λ is. good),
      (
        (λ is. definition-good inner good),
        (
          (λ is. (choice-good (between start last) (expressions_in inner) (expressions-good inner good), tt)),
          (
            (λ is. (sequence-good before (between start last) (expressions_in inner) (expressions-good inner good), tt)),
            (
              (λ is. signed-good (between start last) inner good),
              (
                (λ is. signed-good (between start last) inner good),
                (
                  (λ is. primary-good inner good),
                  (
                    (λ is. (tt, tt)),
                    (
                      (λ is. good),
                      (
                        (λ is. good),
                        (
                          (λ is. (All-nil IsGood, tt)),
                          (
                            (λ is. (All-nil IsGood, tt)),
                            (
                              (λ is. (tt, tt)),
                              (
                                (λ is. (tt, tt)),
                                (
                                  (λ is. good),
                                  (
                                    (λ is. good),
                                    (
                                      (λ is. sign-good And (λ form span. refl)),
                                      (
                                        (λ is. sign-good Not (λ form span. refl)),
                                        (
                                          (λ is. sign-good Optional (λ form span. refl)),
                                          (
                                            (λ is. sign-good Star (λ form span. refl)),
                                            (
                                              (λ is. sign-good Plus (λ form span. refl)),
                                              (
                                                (λ is. count-good (bounds_spelled (numerals_in inner)) (in_range is)),
                                                (
                                                  (λ is. (tt, tt)),
                                                  (
                                                    (λ is. good),
                                                    (
                                                      (λ is. good),
                                                      (
                                                        (λ is. (All-nil IsGood, tt)),
                                                        (
                                                          (λ is. good),
                                                          (
                                                            (λ is. good),
                                                            (
                                                              (λ is. good),
                                                              (
                                                                (λ is. good),
                                                                (
                                                                  (λ is. good),
                                                                  tt,
                                                                ),
                                                              ),
                                                            ),
                                                          ),
                                                        ),
                                                      ),
                                                    ),
                                                  ),
                                                ),
                                              ),
                                            ),
                                          ),
                                        ),
                                      ),
                                    ),
                                  ),
                                ),
                              ),
                            ),
                          ),
                        ),
                      ),
                    ),
                  ),
                ),
              ),
            ),
          ),
        ),
      ),
    ) good

-- ---- the numbers that trees denote do not depend on the token before them

definition-numerals : (pieces : List Denotation) → numerals_in (definition_spelled pieces) ≡ numerals_in pieces
definition-numerals [] = refl
definition-numerals (Byte b ∷ pieces) = refl
definition-numerals (Bytes r ∷ pieces) = refl
definition-numerals (Numeral v ∷ pieces) = refl
definition-numerals (Sign m ∷ pieces) = refl
definition-numerals (Expression f ∷ pieces) = refl
definition-numerals (Definition d ∷ pieces) = refl
definition-numerals (Word n s ∷ []) = refl
definition-numerals (Word n s ∷ Byte b ∷ pieces) = refl
definition-numerals (Word n s ∷ Bytes r ∷ pieces) = refl
definition-numerals (Word n s ∷ Numeral v ∷ pieces) = refl
definition-numerals (Word n s ∷ Word o t ∷ pieces) = refl
definition-numerals (Word n s ∷ Sign m ∷ pieces) = refl
definition-numerals (Word n s ∷ Definition d ∷ pieces) = refl
definition-numerals (Word n s ∷ Expression f ∷ []) = refl
definition-numerals (Word n s ∷ Expression f ∷ next ∷ pieces) = refl

primary-numerals : (pieces : List Denotation) → numerals_in (primary_spelled pieces) ≡ numerals_in pieces
primary-numerals [] = refl
primary-numerals (Byte b ∷ pieces) = refl
primary-numerals (Bytes r ∷ pieces) = refl
primary-numerals (Numeral v ∷ pieces) = refl
primary-numerals (Sign m ∷ pieces) = refl
primary-numerals (Expression f ∷ pieces) = refl
primary-numerals (Definition d ∷ pieces) = refl
primary-numerals (Word n s ∷ []) = refl
primary-numerals (Word n s ∷ next ∷ pieces) = refl

signed-numerals : (span : Extent) (pieces : List Denotation) → numerals_in (signed span pieces) ≡ numerals_in pieces
signed-numerals span [] = refl
signed-numerals span (Byte b ∷ pieces) = refl
signed-numerals span (Bytes r ∷ pieces) = refl
signed-numerals span (Numeral v ∷ pieces) = refl
signed-numerals span (Word n s ∷ pieces) = refl
signed-numerals span (Definition d ∷ pieces) = refl
signed-numerals span (Expression f ∷ []) = refl
signed-numerals span (Expression g ∷ Byte b ∷ pieces) = refl
signed-numerals span (Expression g ∷ Bytes r ∷ pieces) = refl
signed-numerals span (Expression g ∷ Numeral v ∷ pieces) = refl
signed-numerals span (Expression g ∷ Word n s ∷ pieces) = refl
signed-numerals span (Expression g ∷ Expression f ∷ pieces) = refl
signed-numerals span (Expression g ∷ Definition d ∷ pieces) = refl
signed-numerals span (Expression f ∷ Sign m ∷ []) = refl
signed-numerals span (Expression f ∷ Sign m ∷ next ∷ pieces) = refl
signed-numerals span (Sign m ∷ []) = refl
signed-numerals span (Sign g ∷ Byte b ∷ pieces) = refl
signed-numerals span (Sign g ∷ Bytes r ∷ pieces) = refl
signed-numerals span (Sign g ∷ Numeral v ∷ pieces) = refl
signed-numerals span (Sign g ∷ Word n s ∷ pieces) = refl
signed-numerals span (Sign g ∷ Sign m ∷ pieces) = refl
signed-numerals span (Sign g ∷ Definition d ∷ pieces) = refl
signed-numerals span (Sign m ∷ Expression f ∷ []) = refl
signed-numerals span (Sign m ∷ Expression f ∷ next ∷ pieces) = refl

numerals-append : (first more : List Denotation) → numerals_in (first ++ more) ≡ numerals_in first ++ numerals_in more
numerals-append [] more = refl
numerals-append (Byte b ∷ pieces) more = numerals-append pieces more
numerals-append (Bytes r ∷ pieces) more = numerals-append pieces more
numerals-append (Numeral v ∷ pieces) more = ap (λ rest. v ∷ rest) (numerals-append pieces more)
numerals-append (Word n s ∷ pieces) more = numerals-append pieces more
numerals-append (Sign m ∷ pieces) more = numerals-append pieces more
numerals-append (Expression f ∷ pieces) more = numerals-append pieces more
numerals-append (Definition d ∷ pieces) more = numerals-append pieces more

-- lists with the same numerals, one by one
abbrev SameNumerals : (first other : List (List Denotation)) → Type 0
SameNumerals [] [] = Unit {0}
SameNumerals [] (b ∷ bs) = ⊥
SameNumerals (a ∷ more) [] = ⊥
SameNumerals (a ∷ more) (b ∷ bs) = (numerals_in a ≡ numerals_in b) × SameNumerals more bs

chosen-numerals : (position : ℕ) (first other : List (List Denotation)) (a b : List Denotation) → SameNumerals first other
    → numerals_in a ≡ numerals_in b
    → numerals_in (unwrap_or (slice_get first position) a) ≡ numerals_in (unwrap_or (slice_get other position) b)
chosen-numerals position [] [] a b same rest = rest
chosen-numerals position [] (d ∷ ds) a b same rest = absurd same
chosen-numerals position (c ∷ cs) [] a b same rest = absurd same
chosen-numerals zero (c ∷ cs) (d ∷ ds) a b same rest = same.0
chosen-numerals (suc position) (c ∷ cs) (d ∷ ds) a b same rest = chosen-numerals position cs ds a b same.1 rest

node-numerals : (file : List ℕ) (rule start end before other last last_other : ℕ) (a b : List Denotation)
    → numerals_in a ≡ numerals_in b
    → numerals_in (node_spelled file rule before start end last a)
    ≡ numerals_in (node_spelled file rule other start end last_other b)
node-numerals file rule start end before other last last_other a b same =
    chosen-numerals rule (node_spellings file before start end last a) (node_spellings file other start end last_other b) a b (
      same,
      (
        definition-numerals a ∙ same ∙ sym (definition-numerals b),
        (
          refl,
          (
            refl,
            (
              signed-numerals (between start last) a ∙ same ∙ sym (signed-numerals (between start last_other) b),
              (
                signed-numerals (between start last) a ∙ same ∙ sym (signed-numerals (between start last_other) b),
                (
                  primary-numerals a ∙ same ∙ sym (primary-numerals b),
                  (
                    refl,
                    (
                      same,
                      (
                        same,
                        (
                          refl,
                          (
                            refl,
                            (
                              refl,
                              (
                                refl,
                                (
                                  same,
                                  (
                                    same,
                                    (
                                      refl,
                                      (
                                        refl,
                                        (
                                          refl,
                                          (
                                            refl,
                                            (
                                              refl,
                                              (
                                                refl,
                                                (
                                                  refl,
                                                  (
                                                    same,
                                                    (
                                                      same,
                                                      (
                                                        refl,
                                                        (
                                                          same,
                                                          (
                                                            same,
                                                            (
                                                              same,
                                                              (
                                                                same,
                                                                (
                                                                  same,
                                                                  tt,
                                                                ),
                                                              ),
                                                            ),
                                                          ),
                                                        ),
                                                      ),
                                                    ),
                                                  ),
                                                ),
                                              ),
                                            ),
                                          ),
                                        ),
                                      ),
                                    ),
                                  ),
                                ),
                              ),
                            ),
                          ),
                        ),
                      ),
                    ),
                  ),
                ),
              ),
            ),
          ),
        ),
      ),
    ) same

spelled-numerals : (file : List ℕ) (before other : ℕ) (trees : Trees)
    → numerals_in (spelled file before trees) ≡ numerals_in (spelled file other trees)
spelled-numerals file before other NoTrees = refl
spelled-numerals file before other (Tree rule start end children rest) =
    let here = λ (b : ℕ). node_spelled file rule b start end (text_end b children) (spelled file b children) in
    let later = λ (b : ℕ). spelled file (text_end b (Tree rule start end children NoTrees)) rest in
    numerals-append (here before) (later before)
    ∙ (λ i. node-numerals file rule start end before other (text_end before children) (text_end other children)
    (spelled file before children) (spelled file other children) (spelled-numerals file before other children) i
    ++ spelled-numerals file (text_end before (Tree rule start end children NoTrees))
    (text_end other (Tree rule start end children NoTrees)) rest i)
    ∙ sym (numerals-append (here other) (later other))

-- ---- trees without a count that is out of range

none-first : (first more : List ℕ) → first ++ more ≡ [] → first ≡ []
none-first [] more is = refl
none-first (at ∷ ats) more is = cc

none-more : (first more : List ℕ) → first ++ more ≡ [] → more ≡ []
none-more [] more is = is
none-more (at ∷ ats) more is = cc

not_bad : (start : ℕ) (in_range : Bool) → (if not in_range then start ∷ [] else []) ≡ [] → in_range ≡ true
not_bad start true is = refl
not_bad start false is = cc

count-in_range : (start : ℕ) (inner : List Denotation) → bad_count count_rule start inner ≡ []
    → bounds_in_range (bounds_spelled (numerals_in inner)) ≡ true
count-in_range start inner is = not_bad start (bounds_in_range (bounds_spelled (numerals_in inner))) is

spelled-good : (file : List ℕ) (before : ℕ) (trees : Trees) → bad_counts file trees ≡ [] → Good (spelled file before trees)
spelled-good file before NoTrees none = tt
spelled-good file before (Tree rule start end children rest) none =
    let inside = bad_counts file children in
    let following = bad_counts file rest in
    let here = bad_count rule start (spelled file start children) in
    let more = none-more here (inside ++ following) none in
    let inner = spelled file before children in
    Good-append (node_spelled file rule before start end (text_end before children) inner)
    (spelled file (text_end before (Tree rule start end children NoTrees)) rest)
    (node-good file rule before start end (text_end before children) inner
    (spelled-good file before children (none-first inside following more))
    (λ is.
    let bad = subst (λ r. bad_count r start (spelled file start children) ≡ []) is (none-first here (inside ++ following) none) in
    ap (λ numbers. bounds_in_range (bounds_spelled numbers)) (spelled-numerals file before start children)
    ∙ count-in_range start (spelled file start children) bad))
    (spelled-good file (text_end before (Tree rule start end children NoTrees)) rest (none-more inside following more))

rules-good : (pieces : List Denotation) → Good pieces → CountsAreInRange (rules_denoted pieces)
rules-good [] good = All-nil IsGood
rules-good (Byte b ∷ pieces) good = rules-good pieces good.1
rules-good (Bytes r ∷ pieces) good = rules-good pieces good.1
rules-good (Numeral v ∷ pieces) good = rules-good pieces good.1
rules-good (Word n s ∷ pieces) good = rules-good pieces good.1
rules-good (Sign m ∷ pieces) good = rules-good pieces good.1
rules-good (Expression f ∷ pieces) good = rules-good pieces good.1
rules-good (Definition d ∷ pieces) good =
    All-append IsGood (counts_written d.body) (counts (rules_denoted pieces)) good.0 (rules-good pieces good.1)

pub IsReading-in_range : (file : List ℕ) (rules : List Rule) → IsReading file rules → CountsAreInRange rules
IsReading-in_range file rules reads =
    subst CountsAreInRange (sym reads.4) (rules-good (spelled file 0 reads.1) (spelled-good file 0 reads.1 reads.3))
