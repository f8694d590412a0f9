-- Facts that each function of `AstBuilder` uses about its node and the nodes below it.
use Rattle.std.proofs.Common.{◌≡◌, ◌≢◌, ℕ, max, ◌+◌, ◌≤◌, List, [], ◌∷◌, ◌++◌, Option, drop, codes, refl, sym, ap, ◌∙◌, subst, arith}
use Rattle.std.proofs.Common.{Result, Ok, Err}
use Rattle.std.specs.Prelude.{IfOk, IfErr, OnOk, IsErrAnd}
use Rattle.peg_bytes.specs.Extent.{Extent, between}
use Rattle.peg_tree.specs.Branches.{trees_in, trees_from_branch, tree_of_branch}
use Rattle.peg_tree.specs.Trees.{Trees, NoTrees, Tree}
use Rattle.peg_tree.specs.declared.forest.Branch.{Branch}
use Rattle.peg_semantics.specs.Form as form
use Rattle.peg_semantics.specs.Form.{Form}
use Rattle.peg_metagrammar.specs.Figure.{prefix_body, suffix_body}
use Rattle.peg_metagrammar.specs.FigureRules.{prefix_rule, suffix_rule, primary_rule, and_sign_rule, not_sign_rule}
use Rattle.peg_metagrammar.specs.FigureRules.{question_rule, star_rule, plus_rule, count_rule}
use Rattle.peg_metagrammar.specs.Nesting.{nesting}
use Rattle.peg_metagrammar.specs.Notation.{Matches}
use Rattle.peg_metagrammar.specs.Denotation.{Denotation, Sign, Expression, text_end, spelled, numerals_in, bounds_spelled, counted_form, bad_count, bad_counts}
use Rattle.peg_lexer.specs.LexicalCode.{spells_of, count_spelled}
use Rattle.peg_lexer.specs.Matchers.{PrefixMatch}
use Rattle.peg_metagrammar.proofs.FigureNames.{prefix-meaning_of, suffix-meaning_of}
use Rattle.peg_lexer.specs.declared.token.TokenKind.{TokenKind}
use Rattle.peg_lexer.specs.declared.token.TokenKind.TheVariants as kind
use Rattle.peg_lexer.specs.Tokens.{rule_of_kind}
use Rattle.peg_bootstrap.specs.FigureNodes.{IsNode, last_start, sign_form, HasBadCount}
use Rattle.peg_bootstrap.specs.declared.fault.DefinitionsFault.{DefinitionsFault}
use Rattle.peg_bootstrap.specs.AstBuilderCode.{Builds}
use Rattle.peg_bootstrap.proofs.Loops.{nesting-first, counts-first, counts-following, bad-more}
use Rattle.peg_bootstrap.proofs.NodeSpells.{Opened, opened, node-passes, node-nesting, node-counts, prefix-with_operator, suffix-with_operator}
use Rattle.peg_bootstrap.proofs.Shapes.{Ends, Then_is, PrefixChildren, prefix_children, SuffixRest, suffix_children}
use Rattle.peg_lexer.proofs.KindRules.{number_of}
use Rattle.peg_bootstrap.proofs.TokenNodes.{Token, token}

-- a property of each value is a property of an Ok result
pub if_ok : {V E : Type 0} {P Q : V → Type 0} (r : Result V E) → ((v : V) → P v → Q v) → IfOk r P → IfOk r Q
if_ok (Ok v) f h = f v h
if_ok (Err e) f h = h

pub on_ok : {V E : Type 0} {P Q : Type 0} (r : Result V E) → (P → Q) → OnOk r P → OnOk r Q
on_ok (Ok v) f h = f h
on_ok (Err e) f h = h

pub if_err : {V E : Type 0} {P Q : E → Type 0} (r : Result V E) → ((e : E) → P e → Q e) → IfErr r P → IfErr r Q
if_err (Ok v) f h = h
if_err (Err e) f h = f e h

-- a property of an error is a property of the same error when it is returned
pub err_stated : {V E : Type 0} (P : E → Type 0) (r : Result V E) (e : E) → IsErrAnd r (λ stated. stated ≡ e) → P e → IfErr r P
err_stated P (Ok v) e is h = tt
err_stated P (Err stated) e is h = subst P (sym is) h

-- trees that begin with a match
pub then_some : (file name : List ℕ) (number : ℕ) (next : ℕ → Trees → Type 0) (position : ℕ) (trees : Trees)
    → Then_is file name number next position trees → trees ≢ NoTrees
then_some file name number next position trees is none = subst (Then_is file name number next position) none is

-- a node with one child
pub one_child : (node first : Branch) → trees_in node.children ≡ trees_from_branch first → trees_in first.rest ≡ NoTrees
    → trees_in node.children ≡ tree_of_branch first
one_child node first is none = is ∙ ap (Tree first.rule first.span.start first.span.end (trees_in first.children)) none

-- ---- operators

-- a token that is an operator or a count
pub record IsSign (file : List ℕ) (first : Branch) : Type 0 where
  pub sign : Form → Extent → Form
  pub last : ℕ
  pub last_is : last_start first.span.start (trees_in first.children) ≡ last
  pub spells : (before : ℕ) → spelled file before (tree_of_branch first) ≡ Sign sign ∷ []
  pub ends : (before : ℕ) → text_end before (tree_of_branch first) ≡ last
  pub flat : nesting (tree_of_branch first) ≡ 0
  pub order : first.span.start ≤ last

sign_from : {file : List ℕ} {first : Branch} (k : TokenKind) (sign : Form → Extent → Form)
    → (t : Token file k first.rule first.span.start first.span.end (trees_in first.children))
    → ((before end last : ℕ) → Rattle.peg_metagrammar.specs.Denotation.node_spelled file (number_of k) before first.span.start end last t.piece.spells ≡ Sign sign ∷ [])
    → IsSign file first
sign_from {file} {first} k sign t spells =
    record {
      sign = sign;
      last = first.span.start + t.piece.length;
      last_is = t.last;
      spells = λ before. t.spells before ∙ spells before first.span.end (first.span.start + t.piece.length);
      ends = t.ends;
      flat = t.flat;
      order = omega arith;
    }

-- an operator from AND to PLUS
pub record IsPlainSign (file : List ℕ) (first : Branch) : Type 0 where
  pub sign : IsSign file first
  pub form : sign_form first.rule ≡ sign.sign
  pub fine : bad_counts file (tree_of_branch first) ≡ []

plain_from : {file : List ℕ} {first : Branch} (k : TokenKind) (sign : Form → Extent → Form) → sign_form (number_of k) ≡ sign
    → ((before end last : ℕ) (pieces : List Denotation) → Rattle.peg_metagrammar.specs.Denotation.node_spelled file (number_of k) before first.span.start end last pieces ≡ Sign sign ∷ [])
    → ((position : ℕ) (pieces : List Denotation) → bad_count (number_of k) position pieces ≡ [])
    → Matches file (rule_of_kind k) first.span.start first.span.end (tree_of_branch first) → IsPlainSign file first
unfolding sign_from
plain_from {file} {first} k sign form spells fine m =
    let t = token file k first.rule first.span.start first.span.end (trees_in first.children) m in
    record {
      sign = sign_from k sign t (λ before end last. spells before end last t.piece.spells);
      form = ap sign_form t.number ∙ form;
      fine = t.counts ∙ fine first.span.start t.piece.spells;
    }

-- a count
pub record IsCountSign (file : List ℕ) (first : Branch) : Type 0 where
  pub sign : IsSign file first
  pub form : counted_form (count_spelled (drop first.span.start file)) ≡ sign.sign

count_from : {file : List ℕ} {first : Branch} → IsNode file (codes "COUNT") first → IsCountSign file first
unfolding sign_from
count_from {file} {first} m =
    let t = token file kind.Count first.rule first.span.start first.span.end (trees_in first.children) m in
    record {
      sign = sign_from kind.Count (counted_form (bounds_spelled (numerals_in t.piece.spells))) t (λ before end last. refl);
      form = ap (λ (found : Option PrefixMatch). counted_form (bounds_spelled (numerals_in (spells_of found)))) t.found;
    }

-- ---- Prefix

module _ (file : List ℕ) (node : Branch) (m : IsNode file (codes "Prefix") node) where
  prefix_opened : Opened file prefix_rule prefix_body node.rule node.span.start node.span.end (trees_in node.children)
  prefix_opened = opened (codes "Prefix") prefix-meaning_of.1 m

  prefix_shape : PrefixChildren file node.span.end node.span.start (trees_in node.children)
  prefix_shape = prefix_children prefix_opened.inside

  pub prefix_some : trees_in node.children ≢ NoTrees
  prefix_some = by prefix_shape
    where
      by : PrefixChildren file node.span.end node.span.start (trees_in node.children) → trees_in node.children ≢ NoTrees
      by (PrefixChildren.plain is) = then_some _ _ _ _ _ _ is
      by (PrefixChildren.and_before is) = then_some _ _ _ _ _ _ is
      by (PrefixChildren.not_before is) = then_some _ _ _ _ _ _ is

  module _ (first : Branch) (is : trees_in node.children ≡ trees_from_branch first) where
    -- without an operator
    pub record PrefixPlain : Type 0 where
      pub start : first.span.start ≡ node.span.start
      pub suffix : IsNode file (codes "Suffix") first
      pub says : (before : ℕ) (f : Form) (last : ℕ) → Builds file before (tree_of_branch first) f last
          → Builds file before (tree_of_branch node) f last
      pub nests : nesting (tree_of_branch node) ≡ nesting (tree_of_branch first)
      pub counts : bad_counts file (tree_of_branch node) ≡ bad_counts file (tree_of_branch first)

    pub prefix_plain : first.rule ≡ suffix_rule → PrefixPlain
    prefix_plain known = by prefix_shape
      where
        by : PrefixChildren file node.span.end node.span.start (trees_in node.children) → PrefixPlain
        by (PrefixChildren.plain shape) =
            let here = subst (Then_is file (codes "Suffix") suffix_rule (Ends node.span.end) node.span.start) is shape in
            let one = one_child node first is here.3.1 in
            record {
              start = here.1;
              suffix = here.2;
              says = λ before f last says. node-passes file prefix_rule node.rule node.span.start node.span.end (trees_in node.children)
                  prefix_opened.is refl (λ l. refl) (subst (λ t. Builds file before t f last) (sym one) says);
              nests = node-nesting prefix_rule node.rule node.span.start node.span.end (trees_in node.children) prefix_opened.is refl
                  ∙ ap nesting one;
              counts = node-counts file prefix_rule node.rule node.span.start node.span.end (trees_in node.children) prefix_opened.is refl
                  ∙ ap (bad_counts file) one;
            }
        by (PrefixChildren.and_before shape) =
            let here = subst (Then_is file (codes "AND") and_sign_rule (Then_is file (codes "Suffix") suffix_rule (Ends node.span.end)) node.span.start) is shape in
            absurd (let bad : 16 ≡ 5 = sym here.0 ∙ known in cc)
        by (PrefixChildren.not_before shape) =
            let here = subst (Then_is file (codes "NOT") not_sign_rule (Then_is file (codes "Suffix") suffix_rule (Ends node.span.end)) node.span.start) is shape in
            absurd (let bad : 17 ≡ 5 = sym here.0 ∙ known in cc)

    -- with one
    pub record PrefixSigned : Type 0 where
      pub start : first.span.start ≡ node.span.start
      pub plain : IsPlainSign file first
      pub next : Then_is file (codes "Suffix") suffix_rule (Ends node.span.end) first.span.end (trees_in first.rest)

    pub prefix_sign : first.rule ≢ suffix_rule → PrefixSigned
    prefix_sign apart = by prefix_shape
      where
        by : PrefixChildren file node.span.end node.span.start (trees_in node.children) → PrefixSigned
        by (PrefixChildren.plain shape) =
            let here = subst (Then_is file (codes "Suffix") suffix_rule (Ends node.span.end) node.span.start) is shape in
            absurd (apart here.0)
        by (PrefixChildren.and_before shape) =
            let here = subst (Then_is file (codes "AND") and_sign_rule (Then_is file (codes "Suffix") suffix_rule (Ends node.span.end)) node.span.start) is shape in
            record { start = here.1; plain = plain_from kind.And form.And refl (λ before end last pieces. refl) (λ position pieces. refl) here.2; next = here.3 }
        by (PrefixChildren.not_before shape) =
            let here = subst (Then_is file (codes "NOT") not_sign_rule (Then_is file (codes "Suffix") suffix_rule (Ends node.span.end)) node.span.start) is shape in
            record { start = here.1; plain = plain_from kind.Not form.Not refl (λ before end last pieces. refl) (λ position pieces. refl) here.2; next = here.3 }

    module _ (with_operator : PrefixSigned) where
      pub prefix_next_some : trees_in first.rest ≢ NoTrees
      prefix_next_some = then_some _ _ _ _ _ _ with_operator.next

      module _ (second : Branch) (next_is : trees_in first.rest ≡ trees_from_branch second) where
        prefix_next : Then_is file (codes "Suffix") suffix_rule (Ends node.span.end) first.span.end (trees_from_branch second)
        prefix_next = subst (Then_is file (codes "Suffix") suffix_rule (Ends node.span.end) first.span.end) next_is with_operator.next

        pub prefix_suffix : IsNode file (codes "Suffix") second
        prefix_suffix = prefix_next.2

        rest_is : trees_in first.rest ≡ tree_of_branch second
        rest_is = next_is ∙ ap (Tree second.rule second.span.start second.span.end (trees_in second.children)) prefix_next.3.1

        whole : trees_in node.children ≡ Tree first.rule first.span.start first.span.end (trees_in first.children) (tree_of_branch second)
        whole = is ∙ ap (Tree first.rule first.span.start first.span.end (trees_in first.children)) rest_is

        pub prefix_says : (f : Form) (last : ℕ) → ((before : ℕ) → Builds file before (tree_of_branch second) f last)
            → (before : ℕ) → Builds file before (tree_of_branch node) (sign_form first.rule f (between node.span.start last)) last
        prefix_says f last says before =
            subst (λ g. Builds file before (tree_of_branch node) (g f (between node.span.start last)) last) (sym with_operator.plain.form)
            (subst (λ t. Builds file before (Tree node.rule node.span.start node.span.end t NoTrees) (with_operator.plain.sign.sign f (between node.span.start last)) last)
            (sym whole)
            (prefix-with_operator file before node.rule node.span.start node.span.end first.rule first.span.start first.span.end
            (trees_in first.children) (tree_of_branch second) with_operator.plain.sign.sign with_operator.plain.sign.last f last prefix_opened.is
            (with_operator.plain.sign.spells before) (with_operator.plain.sign.ends before) (says with_operator.plain.sign.last)))

        pub prefix_nests : nesting (tree_of_branch node) ≡ nesting (tree_of_branch second)
        prefix_nests =
            node-nesting prefix_rule node.rule node.span.start node.span.end (trees_in node.children) prefix_opened.is refl
            ∙ (ap nesting whole ∙ (nesting-first first.rule first.span.start first.span.end (trees_in first.children) (tree_of_branch second)
            ∙ (ap (λ n. max n (nesting (tree_of_branch second))) with_operator.plain.sign.flat ∙ omega arith)))

        pub prefix_counts : bad_counts file (tree_of_branch node) ≡ bad_counts file (tree_of_branch second)
        prefix_counts =
            node-counts file prefix_rule node.rule node.span.start node.span.end (trees_in node.children) prefix_opened.is refl
            ∙ (ap (bad_counts file) whole ∙ counts-following file first.rule first.span.start first.span.end (trees_in first.children)
            (tree_of_branch second) with_operator.plain.fine)

        pub prefix_order : (last : ℕ) → second.span.start ≤ last → node.span.start ≤ last
        prefix_order last order = omega (arith, order, prefix_next.1, with_operator.start, token_fits)
          where
            token_fits : first.span.start ≤ first.span.end
            token_fits = first.span.ordered

-- ---- Suffix

module _ (file : List ℕ) (node : Branch) (m : IsNode file (codes "Suffix") node) where
  suffix_opened : Opened file suffix_rule suffix_body node.rule node.span.start node.span.end (trees_in node.children)
  suffix_opened = opened (codes "Suffix") suffix-meaning_of.1 m

  suffix_shape : Then_is file (codes "Primary") primary_rule (SuffixRest file node.span.end) node.span.start (trees_in node.children)
  suffix_shape = suffix_children suffix_opened.inside

  pub suffix_some : trees_in node.children ≢ NoTrees
  suffix_some = then_some _ _ _ _ _ _ suffix_shape

  module _ (first : Branch) (is : trees_in node.children ≡ trees_from_branch first) where
    suffix_here : Then_is file (codes "Primary") primary_rule (SuffixRest file node.span.end) node.span.start (trees_from_branch first)
    suffix_here = subst (Then_is file (codes "Primary") primary_rule (SuffixRest file node.span.end) node.span.start) is suffix_shape

    pub suffix_primary : IsNode file (codes "Primary") first
    suffix_primary = suffix_here.2

    pub suffix_start : first.span.start ≡ node.span.start
    suffix_start = suffix_here.1

    -- the first count out of range in the Primary is the first in the node
    pub suffix_first_bad : (fault : DefinitionsFault) → HasBadCount file (tree_of_branch first) fault
        → HasBadCount file (tree_of_branch node) fault
    suffix_first_bad =
        bad-more file (tree_of_branch first) (tree_of_branch node) (bad_counts file (trees_in first.rest))
        (node-counts file suffix_rule node.rule node.span.start node.span.end (trees_in node.children) suffix_opened.is refl
        ∙ (ap (bad_counts file) is
        ∙ counts-first file first.rule first.span.start first.span.end (trees_in first.children) (trees_in first.rest)))

    -- without an operator
    module _ (none : trees_in first.rest ≡ NoTrees) where
      pub suffix_plain : (before : ℕ) (f : Form) (last : ℕ) → Builds file before (tree_of_branch first) f last
          → Builds file before (tree_of_branch node) f last
      suffix_plain before f last says =
          node-passes file suffix_rule node.rule node.span.start node.span.end (trees_in node.children) suffix_opened.is refl
          (λ l. refl) (subst (λ t. Builds file before t f last) (sym (one_child node first is none)) says)

      pub suffix_plain_nests : nesting (tree_of_branch node) ≡ nesting (tree_of_branch first)
      suffix_plain_nests =
          node-nesting suffix_rule node.rule node.span.start node.span.end (trees_in node.children) suffix_opened.is refl
          ∙ ap nesting (one_child node first is none)

      pub suffix_plain_counts : bad_counts file (tree_of_branch node) ≡ bad_counts file (tree_of_branch first)
      suffix_plain_counts =
          node-counts file suffix_rule node.rule node.span.start node.span.end (trees_in node.children) suffix_opened.is refl
          ∙ ap (bad_counts file) (one_child node first is none)

    -- with one
    module _ (some : trees_in first.rest ≢ NoTrees) (second : Branch) (next_is : trees_in first.rest ≡ trees_from_branch second) where
      pub record SuffixSign : Type 0 where
        pub none : trees_in second.rest ≡ NoTrees
        pub sign : IsSign file second
        pub start : second.span.start ≡ first.span.end
        pub plain : second.rule ≢ count_rule → (sign_form second.rule ≡ sign.sign) × (bad_counts file (tree_of_branch second) ≡ [])
        pub counted : second.rule ≡ count_rule → IsNode file (codes "COUNT") second × (Rattle.peg_metagrammar.specs.Denotation.counted_form (count_spelled (drop second.span.start file)) ≡ sign.sign)

      -- from the position of the token
      plain_suffix : (number : ℕ) → number ≢ count_rule → second.rule ≡ number → trees_in second.rest ≡ NoTrees
          → second.span.start ≡ first.span.end → IsPlainSign file second → SuffixSign
      plain_suffix number other is none start it = record {
        none = none;
        sign = it.sign;
        start = start;
        plain = λ apart. (it.form, it.fine);
        counted = λ known. absurd (other (sym is ∙ known));
      }

      count_suffix : second.rule ≡ count_rule → trees_in second.rest ≡ NoTrees → second.span.start ≡ first.span.end
          → IsNode file (codes "COUNT") second → IsCountSign file second → SuffixSign
      count_suffix is none start m it = record {
        none = none;
        sign = it.sign;
        start = start;
        plain = λ apart. absurd (apart is);
        counted = λ known. (m, it.form);
      }

      from_plain : (k : TokenKind) (sign : Form → Extent → Form) → (number_of k ≢ count_rule) → sign_form (number_of k) ≡ sign
          → ((position : ℕ) (pieces : List Denotation) → bad_count (number_of k) position pieces ≡ [])
          → ((before end last : ℕ) (pieces : List Denotation) → Rattle.peg_metagrammar.specs.Denotation.node_spelled file (number_of k) before second.span.start end last pieces ≡ Sign sign ∷ [])
          → Then_is file (rule_of_kind k) (number_of k) (Ends node.span.end) first.span.end (trees_from_branch second) → SuffixSign
      from_plain k sign other form fine spells here =
          plain_suffix (number_of k) other here.0 here.3.1 here.1 (plain_from k sign form spells fine here.2)

      from_count : Then_is file (codes "COUNT") count_rule (Ends node.span.end) first.span.end (trees_from_branch second) → SuffixSign
      from_count here = count_suffix here.0 here.3.1 here.1 here.2 (count_from here.2)

      from_question : Then_is file (codes "QUESTION") question_rule (Ends node.span.end) first.span.end (trees_from_branch second) → SuffixSign
      from_question = from_plain kind.Question form.Optional (λ same. cc) refl (λ position pieces. refl) (λ before end last pieces. refl)

      from_star : Then_is file (codes "STAR") star_rule (Ends node.span.end) first.span.end (trees_from_branch second) → SuffixSign
      from_star = from_plain kind.Star form.Star (λ same. cc) refl (λ position pieces. refl) (λ before end last pieces. refl)

      from_plus : Then_is file (codes "PLUS") plus_rule (Ends node.span.end) first.span.end (trees_from_branch second) → SuffixSign
      from_plus = from_plain kind.Plus form.Plus (λ same. cc) refl (λ position pieces. refl) (λ before end last pieces. refl)

      moved : (name : List ℕ) (number : ℕ) → Then_is file name number (Ends node.span.end) first.span.end (trees_in first.rest)
          → Then_is file name number (Ends node.span.end) first.span.end (trees_from_branch second)
      moved name number = subst (Then_is file name number (Ends node.span.end) first.span.end) next_is

      pub suffix_sign : SuffixSign
      suffix_sign = by suffix_here.3
        where
          by : SuffixRest file node.span.end first.span.end (trees_in first.rest) → SuffixSign
          by (SuffixRest.nothing none) = absurd (some none.1)
          by (SuffixRest.question shape) = from_question (moved _ _ shape)
          by (SuffixRest.star shape) = from_star (moved _ _ shape)
          by (SuffixRest.plus shape) = from_plus (moved _ _ shape)
          by (SuffixRest.count shape) = from_count (moved _ _ shape)

      rest_is_sign : trees_in first.rest ≡ tree_of_branch second
      rest_is_sign = next_is ∙ ap (Tree second.rule second.span.start second.span.end (trees_in second.children)) suffix_sign.none

      suffix_whole : trees_in node.children ≡ Tree first.rule first.span.start first.span.end (trees_in first.children) (tree_of_branch second)
      suffix_whole = is ∙ ap (Tree first.rule first.span.start first.span.end (trees_in first.children)) rest_is_sign

      pub suffix_order : node.span.start ≤ last_start second.span.start (trees_in second.children)
      suffix_order =
          let order = suffix_sign.sign.order in
          omega (arith, order, suffix_sign.sign.last_is, suffix_sign.start, suffix_start, first.span.ordered)

      pub suffix_says : (f : Form) (middle : ℕ) → ((before : ℕ) → Builds file before (tree_of_branch first) f middle) → (before : ℕ)
          → Builds file before (tree_of_branch node)
          (suffix_sign.sign.sign f (between node.span.start (last_start second.span.start (trees_in second.children))))
          (last_start second.span.start (trees_in second.children))
      suffix_says f middle says before =
          let it = suffix_sign.sign in
          subst (λ n. Builds file before (tree_of_branch node) (it.sign f (between node.span.start n)) n) (sym it.last_is)
          (subst (λ t. Builds file before (Tree node.rule node.span.start node.span.end t NoTrees) (it.sign f (between node.span.start it.last)) it.last)
          (sym suffix_whole)
          (suffix-with_operator file before node.rule node.span.start node.span.end first.rule first.span.start first.span.end
          (trees_in first.children) (tree_of_branch second) it.sign middle f it.last suffix_opened.is (says before)
          (it.spells middle) (it.ends middle)))

      pub suffix_nests : nesting (tree_of_branch node) ≡ nesting (tree_of_branch first)
      suffix_nests =
          node-nesting suffix_rule node.rule node.span.start node.span.end (trees_in node.children) suffix_opened.is refl
          ∙ (ap nesting suffix_whole
          ∙ (nesting-first first.rule first.span.start first.span.end (trees_in first.children) (tree_of_branch second)
          ∙ (ap (λ n. max (nesting (tree_of_branch first)) n) suffix_sign.sign.flat ∙ omega arith)))

      pub suffix_counts : bad_counts file (tree_of_branch node)
          ≡ bad_counts file (tree_of_branch first) ++ bad_counts file (tree_of_branch second)
      suffix_counts =
          node-counts file suffix_rule node.rule node.span.start node.span.end (trees_in node.children) suffix_opened.is refl
          ∙ (ap (bad_counts file) suffix_whole
          ∙ counts-first file first.rule first.span.start first.span.end (trees_in first.children) (tree_of_branch second))
