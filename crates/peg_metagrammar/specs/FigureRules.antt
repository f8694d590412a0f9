-- The numbers of the metagrammar's rules, in order.
use Rattle.std.specs.Prelude.{ℕ}

abbrev pub grammar_rule : ℕ
grammar_rule = 0

abbrev pub definition_rule : ℕ
definition_rule = 1

abbrev pub expression_rule : ℕ
expression_rule = 2

abbrev pub sequence_rule : ℕ
sequence_rule = 3

abbrev pub prefix_rule : ℕ
prefix_rule = 4

abbrev pub suffix_rule : ℕ
suffix_rule = 5

abbrev pub primary_rule : ℕ
primary_rule = 6

abbrev pub identifier_rule : ℕ
identifier_rule = 7

abbrev pub ident_start_rule : ℕ
ident_start_rule = 8

abbrev pub ident_cont_rule : ℕ
ident_cont_rule = 9

abbrev pub literal_rule : ℕ
literal_rule = 10

abbrev pub class_rule : ℕ
class_rule = 11

abbrev pub range_rule : ℕ
range_rule = 12

abbrev pub char_rule : ℕ
char_rule = 13

abbrev pub leftarrow_rule : ℕ
leftarrow_rule = 14

abbrev pub slash_rule : ℕ
slash_rule = 15

abbrev pub and_sign_rule : ℕ
and_sign_rule = 16

abbrev pub not_sign_rule : ℕ
not_sign_rule = 17

abbrev pub question_rule : ℕ
question_rule = 18

abbrev pub star_rule : ℕ
star_rule = 19

abbrev pub plus_rule : ℕ
plus_rule = 20

abbrev pub count_rule : ℕ
count_rule = 21

abbrev pub number_rule : ℕ
number_rule = 22

abbrev pub open_sign_rule : ℕ
open_sign_rule = 23

abbrev pub close_rule : ℕ
close_rule = 24

abbrev pub dot_rule : ℕ
dot_rule = 25

abbrev pub spacing_rule : ℕ
spacing_rule = 26

abbrev pub comment_rule : ℕ
comment_rule = 27

abbrev pub space_rule : ℕ
space_rule = 28

abbrev pub end_of_line_rule : ℕ
end_of_line_rule = 29

abbrev pub end_of_file_rule : ℕ
end_of_file_rule = 30
