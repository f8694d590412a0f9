-- The metagrammar is well-formed: a table of the outcomes of its rules, and a ranking along the left calls.
use Rattle.std.proofs.Common.{Bool, true, false, ℕ, List, [], ◌∷◌, refl, ◌≡◌}
use Rattle.peg_semantics.specs.Grammar.{IsGrammar}
use Rattle.peg_semantics.specs.WellFormed.{IsWellFormedGrammar}
use Rattle.peg_semantics.proofs.GrammarLemmas.{IsGrammar-from_searches}
use Rattle.peg_semantics.proofs.RankedTables.{Stated, shows_well_formed, IsWellFormedGrammar-shown}
use Rattle.peg_metagrammar.specs.Ranges.{class_of}
use Rattle.peg_metagrammar.specs.Figure.{figure, grammar_body}
use Rattle.peg_metagrammar.specs.Figure.{definition_body, expression_body, sequence_body, prefix_body, suffix_body}
use Rattle.peg_metagrammar.specs.Figure.{primary_body, identifier_body, ident_start_body, ident_cont_body, literal_body}
use Rattle.peg_metagrammar.specs.Figure.{class_body, range_body, char_body}
use Rattle.peg_metagrammar.specs.Figure.{count_body, number_body, spacing_body, comment_body, space_body, end_of_line_body}
use Rattle.peg_metagrammar.specs.Figure.{end_of_file_body}

abbrev stated : (nothing something fails : Bool) → (rank : ℕ) → Stated
stated nothing something fails rank =
    record { can = record { nothing = nothing; something = something; fails = fails }; rank = rank }

-- rule by rule, in the order of the metagrammar
abbrev figure_stated : List Stated
figure_stated =
    stated false true true 3  -- Grammar
    ∷ stated false true true 2  -- Definition
    ∷ stated true true false 6  -- Expression
    ∷ stated true true false 5  -- Sequence
    ∷ stated false true true 4  -- Prefix
    ∷ stated false true true 3  -- Suffix
    ∷ stated false true true 2  -- Primary
    ∷ stated false true true 1  -- Identifier
    ∷ stated false true true 0  -- IdentStart
    ∷ stated false true true 1  -- IdentCont
    ∷ stated false true true 0  -- Literal
    ∷ stated false true true 0  -- Class
    ∷ stated false true true 1  -- Range
    ∷ stated false true true 0  -- Char
    ∷ stated false true true 0  -- LEFTARROW
    ∷ stated false true true 0  -- SLASH
    ∷ stated false true true 0  -- AND
    ∷ stated false true true 0  -- NOT
    ∷ stated false true true 0  -- QUESTION
    ∷ stated false true true 0  -- STAR
    ∷ stated false true true 0  -- PLUS
    ∷ stated false true true 0  -- COUNT
    ∷ stated false true true 0  -- Number
    ∷ stated false true true 0  -- OPEN
    ∷ stated false true true 0  -- CLOSE
    ∷ stated false true true 0  -- DOT
    ∷ stated true true false 2  -- Spacing
    ∷ stated false true true 0  -- Comment
    ∷ stated false true true 1  -- Space
    ∷ stated false true true 0  -- EndOfLine
    ∷ stated true false true 0  -- EndOfFile
    ∷ []

figure-shown : shows_well_formed figure figure_stated ≡ true
unfolding class_of figure grammar_body definition_body expression_body sequence_body prefix_body suffix_body primary_body identifier_body ident_start_body ident_cont_body literal_body class_body range_body char_body count_body number_body spacing_body comment_body space_body end_of_line_body end_of_file_body
figure-shown = refl

pub figure-grammar : IsGrammar figure
unfolding class_of figure grammar_body definition_body expression_body sequence_body prefix_body suffix_body primary_body identifier_body ident_start_body ident_cont_body literal_body class_body range_body char_body count_body number_body spacing_body comment_body space_body end_of_line_body end_of_file_body
figure-grammar = IsGrammar-from_searches figure (λ none. cc) refl refl refl

pub figure-well_formed : IsWellFormedGrammar figure
figure-well_formed = IsWellFormedGrammar-shown figure figure_stated figure-shown figure-grammar
