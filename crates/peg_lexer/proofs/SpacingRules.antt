-- The metagrammar's rules from Spacing to EndOfLine agree with their prefix matchers.
use Rattle.std.proofs.Common.{max, ◌≡◌, ℕ, ◌+◌, true, List, [], ◌++◌, length, drop, refl, ap, ◌∙◌, codes, lit<, append-nil, arith}
use Rattle.peg_bytes.specs.Extent.{Extent, between}
use Rattle.peg_tree.specs.Trees.{Trees, NoTrees, Tree}
use Rattle.peg_semantics.specs.Record.{Matched}
use Rattle.peg_semantics.proofs.Derivations.{Derives}
use Rattle.peg_semantics.specs.Form.{Name}
use Rattle.peg_metagrammar.specs.Figure.{figure, end_of_line_body, space_body, comment_body, spacing_body}
use Rattle.peg_metagrammar.specs.FigureRules.{spacing_rule, comment_rule, space_rule, end_of_line_rule}
use Rattle.peg_lexer.specs.Lexical.{end_of_line, space, comment, in_comment, space_or_comment, spacing}
use Rattle.peg_lexer.specs.Matchers.{PrefixMatch, seq_matcher, star, not_followed, many}
use Rattle.peg_metagrammar.specs.Denotation.{spelled, text_end, bad_counts}
use Rattle.peg_metagrammar.specs.Nesting.{nesting}
use Rattle.peg_metagrammar.proofs.FigureNames.{end_of_line-meaning_of, space-meaning_of, comment-meaning_of, spacing-meaning_of}
use Rattle.peg_lexer.proofs.PieceSizes.{Fits, HasBytes, is_long, fits-literal_bytes, has-literal_bytes, fits-one, has-one, fits-seq_matcher, has-first, has-next, fits-or_matcher, has-or_matcher, fits-not_followed, fits-star, IsBlank, blank-literal_bytes, blank-one, blank-seq_matcher, blank-or_matcher, blank-not_followed, blank-many, blank-star}
use Rattle.peg_lexer.proofs.Takes.{Takes, IsLong, Nodes, takes-literal_bytes, takes-any, takes-then, takes-last, takes-seq, takes-only, takes-or, takes-choice, takes-not, takes-star, takes-name}

-- ---- EndOfLine

pub end_of_line-fits : Fits end_of_line
unfolding end_of_line
end_of_line-fits =
    fits-or_matcher (fits-literal_bytes (codes "\r\n")) (fits-or_matcher (fits-literal_bytes (codes "\n")) (fits-literal_bytes (codes "\r")))

pub end_of_line-some : HasBytes end_of_line
unfolding end_of_line
end_of_line-some =
    has-or_matcher (has-literal_bytes (codes "\r\n") (lit< tt)) (has-or_matcher (has-literal_bytes (codes "\n") (lit< tt))
    (has-literal_bytes (codes "\r") (lit< tt)))

end_of_line-nodes : Nodes end_of_line_rule (λ text inner. inner)
end_of_line-nodes = record { spells = λ file before start end last inner. refl; no_spacing = refl; no_primary = refl; no_count = refl }

pub takes-end_of_line : (file : List ℕ) (start end : ℕ)
    → Takes file (Name (codes "EndOfLine") (between start end)) end_of_line
unfolding end_of_line end_of_line_body
takes-end_of_line file start end =
    takes-name (between start end) _ end_of_line-meaning_of.1 end_of_line-nodes
    (takes-choice _ (takes-or (takes-literal_bytes file _ _) (takes-or (takes-literal_bytes file _ _)
    (takes-only (takes-literal_bytes file _ _)))))

-- ---- Space

pub space-fits : Fits space
unfolding space
space-fits = fits-or_matcher (fits-literal_bytes (codes " ")) (fits-or_matcher (fits-literal_bytes (codes "\t")) end_of_line-fits)

pub space-some : HasBytes space
unfolding space
space-some =
    has-or_matcher (has-literal_bytes (codes " ") (lit< tt)) (has-or_matcher (has-literal_bytes (codes "\t") (lit< tt)) end_of_line-some)

space-nodes : Nodes space_rule (λ text inner. inner)
space-nodes = record { spells = λ file before start end last inner. refl; no_spacing = refl; no_primary = refl; no_count = refl }

pub takes-space : (file : List ℕ) (start end : ℕ) → Takes file (Name (codes "Space") (between start end)) space
unfolding space space_body
takes-space file start end =
    takes-name (between start end) _ space-meaning_of.1 space-nodes
    (takes-choice _ (takes-or (takes-literal_bytes file _ _) (takes-or (takes-literal_bytes file _ _)
    (takes-only (takes-end_of_line file _ _)))))

-- ---- Comment

pub in_comment-long : IsLong in_comment
in_comment-long =
    is_long (has-next (not_followed end_of_line) (has-one (λ byte. true)))
    (fits-seq_matcher (fits-not_followed end_of_line) (fits-one (λ byte. true)))

pub comment-fits : Fits comment
unfolding comment
comment-fits =
    fits-seq_matcher (fits-literal_bytes (codes "#")) (fits-seq_matcher (fits-star in_comment-long) end_of_line-fits)

pub comment-some : HasBytes comment
unfolding comment
comment-some = has-first (seq_matcher (star in_comment) end_of_line) (has-literal_bytes (codes "#") (lit< tt))

comment-nodes : Nodes comment_rule (λ text inner. inner)
comment-nodes = record { spells = λ file before start end last inner. refl; no_spacing = refl; no_primary = refl; no_count = refl }

pub takes-comment : (file : List ℕ) (start end : ℕ) → Takes file (Name (codes "Comment") (between start end)) comment
unfolding comment comment_body
takes-comment file start end =
    takes-name (between start end) _ comment-meaning_of.1 comment-nodes
    (takes-seq _ (takes-then (takes-literal_bytes file _ _)
    (takes-then (takes-star _ (takes-seq _ (takes-then (takes-not _ (takes-end_of_line file _ _))
    (takes-last (takes-any file _)))) in_comment-long)
    (takes-last (takes-end_of_line file _ _)))))

-- ---- what Spacing repeats

pub space_or_comment-long : IsLong space_or_comment
space_or_comment-long = is_long (has-or_matcher space-some comment-some) (fits-or_matcher space-fits comment-fits)

end_of_line-blank : IsBlank end_of_line
unfolding end_of_line
end_of_line-blank =
    blank-or_matcher (blank-literal_bytes (codes "\r\n")) (blank-or_matcher (blank-literal_bytes (codes "\n")) (blank-literal_bytes (codes "\r")))

space-blank : IsBlank space
unfolding space
space-blank = blank-or_matcher (blank-literal_bytes (codes " ")) (blank-or_matcher (blank-literal_bytes (codes "\t")) end_of_line-blank)

in_comment-blank : IsBlank in_comment
in_comment-blank = blank-seq_matcher (blank-not_followed end_of_line) (blank-one (λ byte. true))

comment-blank : IsBlank comment
unfolding comment
comment-blank =
    blank-seq_matcher (blank-literal_bytes (codes "#"))
    (blank-seq_matcher (blank-star in_comment-long in_comment-blank) end_of_line-blank)

pub space_or_comment-blank : IsBlank space_or_comment
space_or_comment-blank = blank-or_matcher space-blank comment-blank

-- ---- Spacing

-- rule Spacing at an offset: its end, what it denotes, and the end of the text before it
pub record FindsSpacing (file : List ℕ) (span : Extent) (p : ℕ) : Type 0 where
  pub trees : Trees
  pub derives : Derives figure file (Name (codes "Spacing") span) p (Matched (p + (spacing (drop p file)).length) trees)
  pub spells : (before : ℕ) → spelled file before trees ≡ []
  pub ends : (before : ℕ) → text_end before trees ≡ p
  pub flat : nesting trees ≡ 0
  pub fine : bad_counts file trees ≡ []

pub finds-spacing : (file : List ℕ) (span : Extent) (p : ℕ) → FindsSpacing file span p
unfolding spacing spacing_body
finds-spacing file span p =
    let inside : Takes file spacing_body (star space_or_comment) = takes-star _
    (takes-choice _ (takes-or (takes-space file _ _)
    (takes-only (takes-comment file _ _)))) space_or_comment-long in
    let blanks : PrefixMatch = many space_or_comment (drop p file) in
    let it = inside.some p blanks refl in
    record {
      trees = Tree spacing_rule p (p + blanks.length) it.trees NoTrees;
      derives = Derives.name_matched spacing-meaning_of.1 it.derives refl;
      spells = λ before.
          append-nil (spelled file before it.trees) ∙ (it.spelled.spells before
          ∙ blank-many space_or_comment-long space_or_comment-blank (length (drop p file)) (drop p file) (omega arith)
          (space_or_comment (drop p file)) refl);
      ends = λ before. refl;
      flat = ap (λ n. max (0 + n) 0) it.spelled.flat;
      fine = ap (λ l. l ++ []) it.spelled.fine;
    }
