-- The rules that the metagrammar's names refer to.
use Rattle.std.proofs.Common.{◌≡◌, ℕ, codes, Some, refl}
use Rattle.peg_semantics.specs.Rules.{meaning_of}
use Rattle.peg_metagrammar.specs.Figure.{figure, grammar_body, definition_body, expression_body, sequence_body, prefix_body, suffix_body, primary_body, identifier_body, ident_start_body, ident_cont_body, literal_body, class_body, range_body, char_body, leftarrow_body, slash_body, and_sign_body, not_sign_body, question_body, star_body, plus_body, count_body, number_body, open_sign_body, close_body, dot_body, spacing_body, comment_body, space_body, end_of_line_body, end_of_file_body}
use Rattle.peg_metagrammar.specs.FigureRules.{grammar_rule, definition_rule, expression_rule, sequence_rule}
use Rattle.peg_metagrammar.specs.FigureRules.{prefix_rule, suffix_rule, primary_rule, identifier_rule}
use Rattle.peg_metagrammar.specs.FigureRules.{ident_start_rule, ident_cont_rule, literal_rule, class_rule, range_rule}
use Rattle.peg_metagrammar.specs.FigureRules.{char_rule, leftarrow_rule, slash_rule, and_sign_rule, not_sign_rule}
use Rattle.peg_metagrammar.specs.FigureRules.{question_rule, star_rule, plus_rule, count_rule, number_rule}
use Rattle.peg_metagrammar.specs.FigureRules.{open_sign_rule, close_rule, dot_rule, spacing_rule, comment_rule}
use Rattle.peg_metagrammar.specs.FigureRules.{space_rule, end_of_line_rule, end_of_file_rule}

pub grammar-meaning_of : (t : ℕ) × (meaning_of figure (codes "Grammar")
    ≡ Some (record { rule = grammar_rule; terminal = t; body = grammar_body }))
unfolding figure
grammar-meaning_of = (_, refl)

pub definition-meaning_of : (t : ℕ) × (meaning_of figure (codes "Definition")
    ≡ Some (record { rule = definition_rule; terminal = t; body = definition_body }))
unfolding figure
definition-meaning_of = (_, refl)

pub expression-meaning_of : (t : ℕ) × (meaning_of figure (codes "Expression")
    ≡ Some (record { rule = expression_rule; terminal = t; body = expression_body }))
unfolding figure
expression-meaning_of = (_, refl)

pub sequence-meaning_of : (t : ℕ) × (meaning_of figure (codes "Sequence") ≡ Some
    (record { rule = sequence_rule; terminal = t; body = sequence_body }))
unfolding figure
sequence-meaning_of = (_, refl)

pub prefix-meaning_of : (t : ℕ) ×
    (meaning_of figure (codes "Prefix") ≡ Some (record { rule = prefix_rule; terminal = t; body = prefix_body }))
unfolding figure
prefix-meaning_of = (_, refl)

pub suffix-meaning_of : (t : ℕ) ×
    (meaning_of figure (codes "Suffix") ≡ Some (record { rule = suffix_rule; terminal = t; body = suffix_body }))
unfolding figure
suffix-meaning_of = (_, refl)

pub primary-meaning_of : (t : ℕ) × (meaning_of figure (codes "Primary") ≡ Some
    (record { rule = primary_rule; terminal = t; body = primary_body }))
unfolding figure
primary-meaning_of = (_, refl)

pub identifier-meaning_of : (t : ℕ) × (meaning_of figure (codes "Identifier")
    ≡ Some (record { rule = identifier_rule; terminal = t; body = identifier_body }))
unfolding figure
identifier-meaning_of = (_, refl)

pub ident_start-meaning_of : (t : ℕ) × (meaning_of figure (codes "IdentStart")
    ≡ Some (record { rule = ident_start_rule; terminal = t; body = ident_start_body }))
unfolding figure
ident_start-meaning_of = (_, refl)

pub ident_cont-meaning_of : (t : ℕ) × (meaning_of figure (codes "IdentCont") ≡ Some
    (record { rule = ident_cont_rule; terminal = t; body = ident_cont_body }))
unfolding figure
ident_cont-meaning_of = (_, refl)

pub literal-meaning_of : (t : ℕ) × (meaning_of figure (codes "Literal") ≡ Some
    (record { rule = literal_rule; terminal = t; body = literal_body }))
unfolding figure
literal-meaning_of = (_, refl)

pub class-meaning_of : (t : ℕ) ×
    (meaning_of figure (codes "Class") ≡ Some (record { rule = class_rule; terminal = t; body = class_body }))
unfolding figure
class-meaning_of = (_, refl)

pub range-meaning_of : (t : ℕ) ×
    (meaning_of figure (codes "Range") ≡ Some (record { rule = range_rule; terminal = t; body = range_body }))
unfolding figure
range-meaning_of = (_, refl)

pub char-meaning_of : (t : ℕ) ×
    (meaning_of figure (codes "Char") ≡ Some (record { rule = char_rule; terminal = t; body = char_body }))
unfolding figure
char-meaning_of = (_, refl)

pub leftarrow-meaning_of : (t : ℕ) × (meaning_of figure (codes "LEFTARROW") ≡ Some
    (record { rule = leftarrow_rule; terminal = t; body = leftarrow_body }))
unfolding figure
leftarrow-meaning_of = (_, refl)

pub slash-meaning_of : (t : ℕ) ×
    (meaning_of figure (codes "SLASH") ≡ Some (record { rule = slash_rule; terminal = t; body = slash_body }))
unfolding figure
slash-meaning_of = (_, refl)

pub and_sign-meaning_of : (t : ℕ) ×
    (meaning_of figure (codes "AND") ≡ Some (record { rule = and_sign_rule; terminal = t; body = and_sign_body }))
unfolding figure
and_sign-meaning_of = (_, refl)

pub not_sign-meaning_of : (t : ℕ) ×
    (meaning_of figure (codes "NOT") ≡ Some (record { rule = not_sign_rule; terminal = t; body = not_sign_body }))
unfolding figure
not_sign-meaning_of = (_, refl)

pub question-meaning_of : (t : ℕ) × (meaning_of figure (codes "QUESTION") ≡ Some
    (record { rule = question_rule; terminal = t; body = question_body }))
unfolding figure
question-meaning_of = (_, refl)

pub star-meaning_of : (t : ℕ) ×
    (meaning_of figure (codes "STAR") ≡ Some (record { rule = star_rule; terminal = t; body = star_body }))
unfolding figure
star-meaning_of = (_, refl)

pub plus-meaning_of : (t : ℕ) ×
    (meaning_of figure (codes "PLUS") ≡ Some (record { rule = plus_rule; terminal = t; body = plus_body }))
unfolding figure
plus-meaning_of = (_, refl)

pub count-meaning_of : (t : ℕ) ×
    (meaning_of figure (codes "COUNT") ≡ Some (record { rule = count_rule; terminal = t; body = count_body }))
unfolding figure
count-meaning_of = (_, refl)

pub number-meaning_of : (t : ℕ) ×
    (meaning_of figure (codes "Number") ≡ Some (record { rule = number_rule; terminal = t; body = number_body }))
unfolding figure
number-meaning_of = (_, refl)

pub open_sign-meaning_of : (t : ℕ) × (meaning_of figure (codes "OPEN") ≡ Some
    (record { rule = open_sign_rule; terminal = t; body = open_sign_body }))
unfolding figure
open_sign-meaning_of = (_, refl)

pub close-meaning_of : (t : ℕ) ×
    (meaning_of figure (codes "CLOSE") ≡ Some (record { rule = close_rule; terminal = t; body = close_body }))
unfolding figure
close-meaning_of = (_, refl)

pub dot-meaning_of : (t : ℕ) ×
    (meaning_of figure (codes "DOT") ≡ Some (record { rule = dot_rule; terminal = t; body = dot_body }))
unfolding figure
dot-meaning_of = (_, refl)

pub spacing-meaning_of : (t : ℕ) × (meaning_of figure (codes "Spacing") ≡ Some
    (record { rule = spacing_rule; terminal = t; body = spacing_body }))
unfolding figure
spacing-meaning_of = (_, refl)

pub comment-meaning_of : (t : ℕ) × (meaning_of figure (codes "Comment") ≡ Some
    (record { rule = comment_rule; terminal = t; body = comment_body }))
unfolding figure
comment-meaning_of = (_, refl)

pub space-meaning_of : (t : ℕ) ×
    (meaning_of figure (codes "Space") ≡ Some (record { rule = space_rule; terminal = t; body = space_body }))
unfolding figure
space-meaning_of = (_, refl)

pub end_of_line-meaning_of : (t : ℕ) × (meaning_of figure (codes "EndOfLine")
    ≡ Some (record { rule = end_of_line_rule; terminal = t; body = end_of_line_body }))
unfolding figure
end_of_line-meaning_of = (_, refl)

pub end_of_file-meaning_of : (t : ℕ) × (meaning_of figure (codes "EndOfFile")
    ≡ Some (record { rule = end_of_file_rule; terminal = t; body = end_of_file_body }))
unfolding figure
end_of_file-meaning_of = (_, refl)
