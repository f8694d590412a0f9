-- The metagrammar rule of each kind of token.
use Rattle.std.proofs.Common.{◌≡◌, ℕ, List, [], None, refl}
use Rattle.peg_metagrammar.specs.FigureRules.{identifier_rule, literal_rule, class_rule, leftarrow_rule, slash_rule}
use Rattle.peg_metagrammar.specs.FigureRules.{and_sign_rule, not_sign_rule, question_rule, star_rule, plus_rule}
use Rattle.peg_metagrammar.specs.FigureRules.{count_rule, open_sign_rule, close_rule, dot_rule}
use Rattle.peg_lexer.specs.Lexical.{matcher_of, identifier, literal, quoted, class, count}
use Rattle.peg_lexer.specs.Tokens.{rule_of_kind}
use Rattle.peg_lexer.specs.declared.token.TokenKind.{TokenKind}
use Rattle.peg_lexer.specs.declared.token.TokenKind.TheVariants.{Ident, Literal, Class, Arrow, Slash, And, Not, Question, Star, Plus, Count, Open, Close, Dot}
use Rattle.peg_lexer.proofs.Texts.{TakesToken}
use Rattle.peg_lexer.proofs.TokenRules as rules

-- the number of the metagrammar rule of a kind
abbrev pub number_of : TokenKind → ℕ
number_of Ident = identifier_rule
number_of Literal = literal_rule
number_of Class = class_rule
number_of Arrow = leftarrow_rule
number_of Slash = slash_rule
number_of And = and_sign_rule
number_of Not = not_sign_rule
number_of Question = question_rule
number_of Star = star_rule
number_of Plus = plus_rule
number_of Count = count_rule
number_of Open = open_sign_rule
number_of Close = close_rule
number_of Dot = dot_rule

-- the rule of each kind, as a function of the next bytes
pub takes-kind : (file : List ℕ) (kind : TokenKind) → TakesToken file (number_of kind) (rule_of_kind kind)
    (matcher_of kind)
takes-kind file Ident = rules.takes-identifier file
takes-kind file Literal = rules.takes-literal file
takes-kind file Class = rules.takes-class_token file
takes-kind file Arrow = rules.takes-leftarrow file
takes-kind file Slash = rules.takes-slash file
takes-kind file And = rules.takes-and_sign file
takes-kind file Not = rules.takes-not_sign file
takes-kind file Question = rules.takes-question file
takes-kind file Star = rules.takes-star_sign file
takes-kind file Plus = rules.takes-plus file
takes-kind file Count = rules.takes-count file
takes-kind file Open = rules.takes-open_sign file
takes-kind file Close = rules.takes-close file
takes-kind file Dot = rules.takes-dot file

-- no kind of token matches at the end
pub nothing_left : (kind : TokenKind) → matcher_of kind [] ≡ None
unfolding identifier literal quoted class count
nothing_left Ident = refl
nothing_left Literal = refl
nothing_left Class = refl
nothing_left Arrow = refl
nothing_left Slash = refl
nothing_left And = refl
nothing_left Not = refl
nothing_left Question = refl
nothing_left Star = refl
nothing_left Plus = refl
nothing_left Count = refl
nothing_left Open = refl
nothing_left Close = refl
nothing_left Dot = refl
