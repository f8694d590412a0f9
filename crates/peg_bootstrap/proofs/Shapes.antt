-- The children of metagrammar nodes from Grammar to Primary: the rules of neighbouring matches.
use Rattle.std.proofs.Common.{◌≡◌, ◌⊎◌, inl, inr, ℕ, List, codes, Some, refl, sym, ap, ◌∙◌, subst}
use Rattle.peg_bytes.specs.Extent.{Extent}
use Rattle.peg_tree.specs.Trees.{Trees, NoTrees, Tree, followed_by}
use Rattle.peg_semantics.specs.Form.{Form, Forms, Name, Seq, Choice, Star, End, Then}
use Rattle.peg_semantics.specs.Record.{Recognition, Matched}
use Rattle.peg_semantics.specs.Rules.{meaning_of}
use Rattle.peg_semantics.proofs.Derivations.{Derives, DerivesItems}
use Rattle.peg_metagrammar.specs.Figure.{figure, grammar_body, definition_body, expression_body, sequence_body, prefix_body, suffix_body, primary_body}
use Rattle.peg_metagrammar.specs.FigureRules.{definition_rule, expression_rule, sequence_rule, prefix_rule}
use Rattle.peg_metagrammar.specs.FigureRules.{suffix_rule, primary_rule, identifier_rule, literal_rule, class_rule}
use Rattle.peg_metagrammar.specs.FigureRules.{leftarrow_rule, slash_rule, and_sign_rule, not_sign_rule, question_rule}
use Rattle.peg_metagrammar.specs.FigureRules.{star_rule, plus_rule, count_rule, open_sign_rule, close_rule, dot_rule}
use Rattle.peg_metagrammar.specs.FigureRules.{spacing_rule, end_of_file_rule}
use Rattle.peg_metagrammar.specs.Notation.{Matches}
use Rattle.peg_metagrammar.proofs.FigureNames.{definition-meaning_of, expression-meaning_of, sequence-meaning_of, prefix-meaning_of, suffix-meaning_of, primary-meaning_of, identifier-meaning_of, literal-meaning_of, class-meaning_of, leftarrow-meaning_of, slash-meaning_of, and_sign-meaning_of, not_sign-meaning_of, question-meaning_of, star-meaning_of, plus-meaning_of, count-meaning_of, open_sign-meaning_of, close-meaning_of, dot-meaning_of, spacing-meaning_of, end_of_file-meaning_of}
use Rattle.peg_bootstrap.proofs.Inversions.{Node, node_of, first_of, items_of, none_of, first_matched, either_of, only_of, optional_of, plus_of, not_of}

-- ---- neighbouring trees

-- no more trees
abbrev pub Ends : (end position : ℕ) → Trees → Type 0
Ends end position trees = (position ≡ end) × (trees ≡ NoTrees)

-- a match of this rule, and what comes after it
abbrev pub Then_is : List ℕ → (name : List ℕ) → (number : ℕ) → (ℕ → Trees → Type 0) → (position : ℕ) → Trees → Type 0
Then_is file name number next position NoTrees = ⊥
Then_is file name number next position (Tree rule start end children rest) =
    (rule ≡ number) × (start ≡ position) × Matches file name start end (Tree rule start end children NoTrees) × next end rest

-- one node, and what comes after it
pub node_then : {file name : List ℕ} {number : ℕ} {body : Form} {position middle : ℕ} {one : Trees} (next : ℕ → Trees → Type 0)
    (more : Trees) → Node file name number body position middle one → next middle more
    → Then_is file name number next position (followed_by one more)
node_then {file} {name} {number} {position = position} {middle} next more node following =
    subst (λ t. Then_is file name number next position (followed_by t more)) (sym node.is) (refl, refl, node.match, following)

-- items whose first is a name
pub name_then : {file name : List ℕ} {span : Extent} {number terminal : ℕ} {body : Form} {rest : Forms} {position : ℕ} {x : Recognition}
    → meaning_of figure name ≡ Some (record { rule = number; terminal = terminal; body = body }) → (next : ℕ → Trees → Type 0)
    → DerivesItems figure file (Then (Name name span) rest) position x → (end : ℕ) (trees : Trees) → x ≡ Matched end trees
    → ((middle : ℕ) (more : Trees) → DerivesItems figure file rest middle (Matched end more) → next middle more)
    → Then_is file name number next position trees
name_then {file} {name} {number = number} {position = position} known next items end trees is following =
    let first = first_of items end trees is in
    subst (Then_is file name number next position) (sym first.is)
    (node_then next first.more (node_of known first.item first.middle first.one refl) (following first.middle first.more first.rest))

-- a name alone
pub name_alone : {file name : List ℕ} {span : Extent} {number terminal : ℕ} {body : Form} {position : ℕ} {x : Recognition}
    → meaning_of figure name ≡ Some (record { rule = number; terminal = terminal; body = body })
    → Derives figure file (Name name span) position x → (end : ℕ) (trees : Trees) → x ≡ Matched end trees
    → Then_is file name number (Ends end) position trees
name_alone {file} {name} {number = number} {position = position} known d end trees is =
    let node = node_of known d end trees is in
    subst (Then_is file name number (Ends end) position) (sym node.is) (refl, refl, node.match, (refl, refl))

at_end : {file : List ℕ} {position end : ℕ} (trees : Trees) → DerivesItems figure file End position (Matched end trees) → Ends end position trees
at_end {end = end} trees d = none_of d end trees refl

-- no trees after others
pub followed-none : (t : Trees) → followed_by t NoTrees ≡ t
followed-none NoTrees = refl
followed-none (Tree r start end children rest) = ap (Tree r start end children) (followed-none rest)

-- ---- Sequence: prefixes

abbrev pub Prefixes : List ℕ → (end position : ℕ) → Trees → Type 0
Prefixes file end position NoTrees = position ≡ end
Prefixes file end position (Tree number start middle children rest) =
    (number ≡ prefix_rule) × (start ≡ position)
    × Matches file (codes "Prefix") start middle (Tree number start middle children NoTrees) × Prefixes file end middle rest

no_prefixes : (file : List ℕ) (position end : ℕ) (trees : Trees) → Matched position NoTrees ≡ Matched end trees
    → Prefixes file end position trees
no_prefixes file position end trees is =
    let ends : position ≡ end = cc in
    let out : trees ≡ NoTrees = cc in
    subst (Prefixes file end position) (sym out) ends

prefixes : {file : List ℕ} {inner outer : Extent} {position : ℕ} {x : Recognition}
    → Derives figure file (Star (Name (codes "Prefix") inner) outer) position x → (end : ℕ) (trees : Trees) → x ≡ Matched end trees
    → Prefixes file end position trees
prefixes {file} {position = position} (Derives.star_none d) end trees is = no_prefixes file position end trees is
prefixes {file} {position = position} (Derives.star_more {middle = middle} {end = last} {first = one} {more = more} {trees = all} d rest t) end trees is =
    let ends : last ≡ end = cc in
    let same : trees ≡ all = cc in
    let node = node_of prefix-meaning_of.1 d middle one refl in
    let following = subst (λ n. Prefixes file n middle more) ends (prefixes rest last more refl) in
    subst (Prefixes file end position) (sym (same ∙ (t ∙ ap (λ (y : Trees). followed_by y more) node.is)))
    (refl, refl, node.match, following)

pub sequence_children : {file : List ℕ} {position end : ℕ} {trees : Trees} → Derives figure file sequence_body position (Matched end trees)
    → Prefixes file end position trees
unfolding sequence_body
sequence_children {end = end} {trees} d = prefixes d end trees refl

-- ---- Expression: a sequence, and others after slashes

-- sequences, each after a slash
abbrev pub Alternatives : List ℕ → (end position : ℕ) → Trees → Type 0
Alternatives file end position NoTrees = position ≡ end
Alternatives file end position (Tree slash start middle children NoTrees) = ⊥
Alternatives file end position (Tree slash start middle children (Tree number second last below rest)) =
    (slash ≡ slash_rule) × (start ≡ position) × Matches file (codes "SLASH") start middle (Tree slash start middle children NoTrees)
    × (number ≡ sequence_rule) × (second ≡ middle)
    × Matches file (codes "Sequence") second last (Tree number second last below NoTrees) × Alternatives file end last rest

no_alternatives : (file : List ℕ) (position end : ℕ) (trees : Trees) → Matched position NoTrees ≡ Matched end trees
    → Alternatives file end position trees
no_alternatives file position end trees is =
    let ends : position ≡ end = cc in
    let out : trees ≡ NoTrees = cc in
    subst (Alternatives file end position) (sym out) ends

-- a slash and a sequence in front of alternatives
one_alternative : (file : List ℕ) (end position : ℕ) (rest : Trees) (trees : Trees) (middle : ℕ)
    → Then_is file (codes "SLASH") slash_rule (Then_is file (codes "Sequence") sequence_rule (Ends middle)) position trees
    → Alternatives file end middle rest → Alternatives file end position (followed_by trees rest)
one_alternative file end position rest NoTrees middle is following = absurd is
one_alternative file end position rest (Tree slash start mid children NoTrees) middle is following = absurd is.3
one_alternative file end position rest (Tree slash start mid children (Tree number second last below none)) middle is following =
    let two = is.3 in
    let out = two.3 in
    subst (λ t. Alternatives file end position (Tree slash start mid children (Tree number second last below (followed_by t rest)))) (sym out.1)
    (is.0, is.1, is.2, two.0, two.1, two.2, subst (λ n. Alternatives file end n rest) (sym out.0) following)

alternatives : {file : List ℕ} {slash sequence both outer : Extent} {position : ℕ} {x : Recognition}
    → Derives figure file (Star (Seq (Then (Name (codes "SLASH") slash) (Then (Name (codes "Sequence") sequence) End)) both) outer) position x
    → (end : ℕ) (trees : Trees) → x ≡ Matched end trees → Alternatives file end position trees
alternatives {file} {position = position} (Derives.star_none d) end trees is = no_alternatives file position end trees is
alternatives {file} {position = position} (Derives.star_more {middle = middle} {end = last} {first = one} {more = more} {trees = all} d rest t) end trees is =
    let ends : last ≡ end = cc in
    let same : trees ≡ all = cc in
    let pair = name_then slash-meaning_of.1 (Then_is file (codes "Sequence") sequence_rule (Ends middle)) (items_of d) middle one refl
    (λ n more items. name_then sequence-meaning_of.1 (Ends middle) items middle more refl (λ n more none. at_end more none)) in
    subst (Alternatives file end position) (sym (same ∙ t))
    (one_alternative file end position more one middle pair (subst (λ n. Alternatives file n middle more) ends (alternatives rest last more refl)))

pub expression_children : {file : List ℕ} {position end : ℕ} {trees : Trees} → Derives figure file expression_body position (Matched end trees)
    → Then_is file (codes "Sequence") sequence_rule (Alternatives file end) position trees
unfolding expression_body
expression_children {file} {end = end} {trees} d =
    name_then sequence-meaning_of.1 (Alternatives file end) (items_of d) end trees refl (λ middle more items.
    let star = first_of items end more refl in
    let none = none_of star.rest end star.more refl in
    let whole : more ≡ star.one = star.is ∙ (ap (followed_by star.one) none.1 ∙ followed-none star.one) in
    subst (Alternatives file end middle) (sym whole)
    (subst (λ n. Alternatives file n middle star.one) none.0 (alternatives star.item star.middle star.one refl)))

-- ---- Prefix and Suffix

pub data PrefixChildren (file : List ℕ) (end position : ℕ) (trees : Trees) : Type 0 where
  plain : Then_is file (codes "Suffix") suffix_rule (Ends end) position trees → PrefixChildren file end position trees
  and_before : Then_is file (codes "AND") and_sign_rule (Then_is file (codes "Suffix") suffix_rule (Ends end)) position trees
      → PrefixChildren file end position trees
  not_before : Then_is file (codes "NOT") not_sign_rule (Then_is file (codes "Suffix") suffix_rule (Ends end)) position trees
      → PrefixChildren file end position trees

pub prefix_children : {file : List ℕ} {position end : ℕ} {trees : Trees} → Derives figure file prefix_body position (Matched end trees)
    → PrefixChildren file end position trees
unfolding prefix_body
prefix_children {file} {position} {end} {trees} d =
    let sign = first_of (items_of d) end trees refl in
    let suffix : Then_is file (codes "Suffix") suffix_rule (Ends end) sign.middle sign.more =
    name_then suffix-meaning_of.1 (Ends end) sign.rest end sign.more refl (λ n more none. at_end more none) in
    elim (optional_of sign.item sign.middle sign.one refl) [
      | inr none ↦ PrefixChildren.plain
          (subst (λ n. Then_is file (codes "Suffix") suffix_rule (Ends end) n trees) (sym none.0)
          (subst (Then_is file (codes "Suffix") suffix_rule (Ends end) sign.middle)
          (sym (sign.is ∙ ap (λ (y : Trees). followed_by y sign.more) none.1)) suffix))
      | inl some ↦ elim (either_of (first_matched some) sign.middle sign.one refl) [
        | inl one ↦ PrefixChildren.and_before
            (subst (Then_is file (codes "AND") and_sign_rule (Then_is file (codes "Suffix") suffix_rule (Ends end)) position) (sym sign.is)
            (node_then _ sign.more (node_of and_sign-meaning_of.1 one sign.middle sign.one refl) suffix))
        | inr other ↦ PrefixChildren.not_before
            (subst (Then_is file (codes "NOT") not_sign_rule (Then_is file (codes "Suffix") suffix_rule (Ends end)) position) (sym sign.is)
            (node_then _ sign.more (node_of not_sign-meaning_of.1 (only_of other) sign.middle sign.one refl) suffix))
      ]
    ]

-- nothing, or an operator
pub data SuffixRest (file : List ℕ) (end position : ℕ) (trees : Trees) : Type 0 where
  nothing : Ends end position trees → SuffixRest file end position trees
  question : Then_is file (codes "QUESTION") question_rule (Ends end) position trees → SuffixRest file end position trees
  star : Then_is file (codes "STAR") star_rule (Ends end) position trees → SuffixRest file end position trees
  plus : Then_is file (codes "PLUS") plus_rule (Ends end) position trees → SuffixRest file end position trees
  count : Then_is file (codes "COUNT") count_rule (Ends end) position trees → SuffixRest file end position trees

pub suffix_children : {file : List ℕ} {position end : ℕ} {trees : Trees} → Derives figure file suffix_body position (Matched end trees)
    → Then_is file (codes "Primary") primary_rule (SuffixRest file end) position trees
unfolding suffix_body
suffix_children {file} {end = end} {trees} d =
    name_then primary-meaning_of.1 (SuffixRest file end) (items_of d) end trees refl (λ middle more items.
    let sign = first_of items end more refl in
    let none = none_of sign.rest end sign.more refl in
    let whole : more ≡ sign.one = sign.is ∙ (ap (followed_by sign.one) none.1 ∙ followed-none sign.one) in
    subst (SuffixRest file end middle) (sym whole) (subst (λ n. SuffixRest file n middle sign.one) none.0
    (sign_of middle sign.middle sign.one (optional_of sign.item sign.middle sign.one refl))))
  where
    sign_of : {q s l n whole : Extent} (p e : ℕ) (t : Trees) → Derives figure file
        (Choice (Name (codes "QUESTION") q) (Then (Name (codes "STAR") s) (Then (Name (codes "PLUS") l)
        (Then (Name (codes "COUNT") n) End))) whole) p (Matched e t)
        ⊎ ((p ≡ e) × (t ≡ NoTrees)) → SuffixRest file e p t
    sign_of p e t (inr none) = SuffixRest.nothing none
    sign_of p e t (inl some) =
        elim (either_of (first_matched some) e t refl) [
          | inl one ↦ SuffixRest.question (name_alone question-meaning_of.1 one e t refl)
          | inr others ↦ elim (either_of others e t refl) [
            | inl one ↦ SuffixRest.star (name_alone star-meaning_of.1 one e t refl)
            | inr more ↦ elim (either_of more e t refl) [
              | inl one ↦ SuffixRest.plus (name_alone plus-meaning_of.1 one e t refl)
              | inr last ↦ SuffixRest.count (name_alone count-meaning_of.1 (only_of last) e t refl)
            ]
          ]
        ]

-- ---- Primary

pub data PrimaryChildren (file : List ℕ) (end position : ℕ) (trees : Trees) : Type 0 where
  name : Then_is file (codes "Identifier") identifier_rule (Ends end) position trees → PrimaryChildren file end position trees
  parentheses : Then_is file (codes "OPEN") open_sign_rule (Then_is file (codes "Expression") expression_rule
      (Then_is file (codes "CLOSE") close_rule (Ends end))) position trees → PrimaryChildren file end position trees
  literal : Then_is file (codes "Literal") literal_rule (Ends end) position trees → PrimaryChildren file end position trees
  class : Then_is file (codes "Class") class_rule (Ends end) position trees → PrimaryChildren file end position trees
  dot : Then_is file (codes "DOT") dot_rule (Ends end) position trees → PrimaryChildren file end position trees

pub primary_children : {file : List ℕ} {position end : ℕ} {trees : Trees} → Derives figure file primary_body position (Matched end trees)
    → PrimaryChildren file end position trees
unfolding primary_body
primary_children {file} {position} {end} {trees} d =
    elim (either_of (first_matched d) end trees refl) [
      | inl one ↦ PrimaryChildren.name (name_then identifier-meaning_of.1 (Ends end) (items_of one) end trees refl
          (λ middle more items.
          let unless = first_of items end more refl in
          let none = none_of unless.rest end unless.more refl in
          let still = not_of unless.item unless.middle unless.one refl in
          (still.0 ∙ none.0, unless.is ∙ (ap (λ (y : Trees). followed_by y unless.more) still.1 ∙ none.1))))
      | inr second ↦ elim (either_of second end trees refl) [
        | inl one ↦ PrimaryChildren.parentheses (name_then open_sign-meaning_of.1 _ (items_of one) end trees refl
            (λ middle more items. name_then expression-meaning_of.1 _ items end more refl
            (λ middle more items. name_then close-meaning_of.1 (Ends end) items end more refl (λ n more none. at_end more none))))
        | inr third ↦ elim (either_of third end trees refl) [
          | inl one ↦ PrimaryChildren.literal (name_alone literal-meaning_of.1 one end trees refl)
          | inr fourth ↦ elim (either_of fourth end trees refl) [
            | inl one ↦ PrimaryChildren.class (name_alone class-meaning_of.1 one end trees refl)
            | inr last ↦ PrimaryChildren.dot (name_alone dot-meaning_of.1 (only_of last) end trees refl)
          ]
        ]
      ]
    ]

-- ---- Definition and Grammar

pub definition_children : {file : List ℕ} {position end : ℕ} {trees : Trees} → Derives figure file definition_body position (Matched end trees)
    → Then_is file (codes "Identifier") identifier_rule (Then_is file (codes "LEFTARROW") leftarrow_rule
    (Then_is file (codes "Expression") expression_rule (Ends end))) position trees
unfolding definition_body
definition_children {file} {end = end} {trees} d =
    name_then identifier-meaning_of.1 _ (items_of d) end trees refl
    (λ middle more items. name_then leftarrow-meaning_of.1 _ items end more refl
    (λ middle more items. name_then expression-meaning_of.1 (Ends end) items end more refl (λ n more none. at_end more none)))

-- definitions, and the end of the file after them
abbrev pub Definitions : List ℕ → (end position : ℕ) → Trees → Type 0
Definitions file end position NoTrees = ⊥
Definitions file end position (Tree number start middle children rest) =
    ((number ≡ definition_rule) × (start ≡ position)
    × Matches file (codes "Definition") start middle (Tree number start middle children NoTrees) × Definitions file end middle rest)
    ⊎ Then_is file (codes "EndOfFile") end_of_file_rule (Ends end) position (Tree number start middle children rest)

-- trees of definitions, in front of the end of the file
definitions : {file : List ℕ} {inner outer : Extent} {position : ℕ} {x : Recognition}
    → Derives figure file (Star (Name (codes "Definition") inner) outer) position x → (middle : ℕ) (trees : Trees) → x ≡ Matched middle trees
    → (end : ℕ) (last : Trees) → Definitions file end middle last → Definitions file end position (followed_by trees last)
definitions {file} {position = position} (Derives.star_none d) middle trees is end last following =
    let ends : position ≡ middle = cc in
    let out : trees ≡ NoTrees = cc in
    subst (λ (y : Trees). Definitions file end position (followed_by y last)) (sym out)
    (subst (λ n. Definitions file end n last) (sym ends) following)
definitions {file} {position = position} (Derives.star_more {middle = mid} {end = stop} {first = one} {more = more} {trees = all} d rest t) middle trees is end last following =
    let ends : stop ≡ middle = cc in
    let same : trees ≡ all = cc in
    let node = node_of definition-meaning_of.1 d mid one refl in
    let next = definitions rest stop more refl end last (subst (λ n. Definitions file end n last) (sym ends) following) in
    subst (λ (y : Trees). Definitions file end position (followed_by y last))
    (sym (same ∙ (t ∙ ap (λ (y : Trees). followed_by y more) node.is)))
    (inl (refl, refl, node.match, next))

-- the end of the file, with nothing after it
file_end : (file : List ℕ) (end position : ℕ) (trees : Trees) → Then_is file (codes "EndOfFile") end_of_file_rule (Ends end) position trees
    → Definitions file end position trees
file_end file end position NoTrees is = absurd is
file_end file end position (Tree number start middle children rest) is = inr is

pub grammar_children : {file : List ℕ} {position end : ℕ} {trees : Trees} → Derives figure file grammar_body position (Matched end trees)
    → Then_is file (codes "Spacing") spacing_rule (Then_is file (codes "Definition") definition_rule (Definitions file end)) position trees
unfolding grammar_body
grammar_children {file} {end = end} {trees} d =
    name_then spacing-meaning_of.1 _ (items_of d) end trees refl (λ middle more items.
    let plus = first_of items end more refl in
    let rules = plus_of plus.item plus.middle plus.one refl in
    let last : Then_is file (codes "EndOfFile") end_of_file_rule (Ends end) plus.middle plus.more =
    name_then end_of_file-meaning_of.1 (Ends end) plus.rest end plus.more refl (λ n more none. at_end more none) in
    let node = node_of definition-meaning_of.1 rules.item rules.middle rules.one refl in
    let next = definitions rules.rest plus.middle rules.more refl end plus.more (file_end file end plus.middle plus.more last) in
    subst (Then_is file (codes "Definition") definition_rule (Definitions file end) middle)
    (sym (plus.is ∙ ap (λ (y : Trees). followed_by y plus.more)
    (rules.is ∙ ap (λ (y : Trees). followed_by y rules.more) node.is)))
    (refl, refl, node.match, next))
