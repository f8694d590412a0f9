-- The size of the metagrammar's code.
use Rattle.std.proofs.Common.{◌≡◌, refl}
use Rattle.peg_metagrammar.specs.Figure.{figure, grammar_body, definition_body, expression_body, sequence_body, prefix_body, suffix_body, primary_body, identifier_body, ident_start_body, ident_cont_body, literal_body, class_body, range_body, char_body, count_body, number_body, spacing_body, comment_body, space_body, end_of_line_body, end_of_file_body}
use Rattle.peg_parser.specs.Accepts.{code_size}

pub figure-size : code_size figure ≡ 224
unfolding figure grammar_body definition_body expression_body sequence_body prefix_body suffix_body primary_body identifier_body ident_start_body ident_cont_body literal_body class_body range_body char_body count_body number_body spacing_body comment_body space_body end_of_line_body end_of_file_body
figure-size = refl
