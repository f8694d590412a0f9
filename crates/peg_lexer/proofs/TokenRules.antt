-- The metagrammar's token rules agree with their prefix matchers.
use Rattle.std.proofs.Common.{ℕ, List, refl, codes, lit<}
use Rattle.peg_metagrammar.specs.Figure.{identifier_body, literal_body, class_body, count_body}
use Rattle.peg_metagrammar.specs.FigureRules.{identifier_rule, literal_rule, class_rule, leftarrow_rule, slash_rule}
use Rattle.peg_metagrammar.specs.FigureRules.{and_sign_rule, not_sign_rule, question_rule, star_rule, plus_rule}
use Rattle.peg_metagrammar.specs.FigureRules.{count_rule, open_sign_rule, close_rule, dot_rule}
use Rattle.peg_lexer.specs.Lexical.{identifier, literal, class, quoted, count, is_quote}
use Rattle.peg_lexer.specs.Matchers.{literal_bytes}
use Rattle.peg_lexer.proofs.Classes.{has_one}
use Rattle.peg_metagrammar.proofs.FigureNames.{identifier-meaning_of, literal-meaning_of, class-meaning_of, leftarrow-meaning_of, slash-meaning_of, and_sign-meaning_of, not_sign-meaning_of, question-meaning_of, star-meaning_of, plus-meaning_of, count-meaning_of, open_sign-meaning_of, close-meaning_of, dot-meaning_of}
use Rattle.peg_lexer.proofs.Takes.{takes-literal_bytes, takes-class, takes-then, takes-last, takes-seq, takes-not, takes-optional, takes-star}
use Rattle.peg_lexer.proofs.TextRules.{takes-ident_start, takes-ident_cont, in_name-long, takes-char, quoted_char-long, takes-range, classed_range-long, takes-number}
use Rattle.peg_lexer.proofs.Texts.{TakesToken, text-last, text-then, text-seq, text-or_matcher, takes-token}

pub takes-identifier : (file : List ℕ) → TakesToken file identifier_rule (codes "Identifier") identifier
unfolding identifier identifier_body
takes-identifier file =
    takes-token _ identifier-meaning_of.1 refl refl
    (text-seq _ (text-then (takes-ident_start file _ _) (text-last _
    (takes-star _ (takes-ident_cont file _ _) in_name-long))))

pub takes-literal : (file : List ℕ) → TakesToken file literal_rule (codes "Literal") literal
unfolding literal quoted literal_body
takes-literal file =
    takes-token _ literal-meaning_of.1 refl refl
    (text-or_matcher _
    (text-seq _ (text-then (takes-class file _ _ (is_quote 39) (has_one 39 (lit< tt)))
    (text-then (takes-star _ (takes-seq _ (takes-then
    (takes-not _ (takes-class file _ _ (is_quote 39) (has_one 39 (lit< tt)))) (takes-last (takes-char file _ _))))
    (quoted_char-long 39)) (text-last _ (takes-class file _ _ (is_quote 39) (has_one 39 (lit< tt)))))))
    (text-seq _ (text-then (takes-class file _ _ (is_quote 34) (has_one 34 (lit< tt)))
    (text-then (takes-star _ (takes-seq _ (takes-then
    (takes-not _ (takes-class file _ _ (is_quote 34) (has_one 34 (lit< tt)))) (takes-last (takes-char file _ _))))
    (quoted_char-long 34)) (text-last _ (takes-class file _ _ (is_quote 34) (has_one 34 (lit< tt))))))))

pub takes-class_token : (file : List ℕ) → TakesToken file class_rule (codes "Class") class
unfolding class class_body
takes-class_token file =
    takes-token _ class-meaning_of.1 refl refl
    (text-seq _ (text-then (takes-literal_bytes file _ _) (text-then (takes-star _
    (takes-seq _ (takes-then (takes-not _ (takes-literal_bytes file _ _))
    (takes-last (takes-range file _ _)))) classed_range-long) (text-last _ (takes-literal_bytes file _ _)))))

pub takes-leftarrow : (file : List ℕ) → TakesToken file leftarrow_rule (codes "LEFTARROW") (literal_bytes (codes "<-"))
takes-leftarrow file =
    takes-token _ leftarrow-meaning_of.1 refl refl (text-seq _ (text-last _ (takes-literal_bytes file _ _)))

pub takes-slash : (file : List ℕ) → TakesToken file slash_rule (codes "SLASH") (literal_bytes (codes "/"))
takes-slash file =
    takes-token _ slash-meaning_of.1 refl refl (text-seq _ (text-last _ (takes-literal_bytes file _ _)))

pub takes-and_sign : (file : List ℕ) → TakesToken file and_sign_rule (codes "AND") (literal_bytes (codes "&"))
takes-and_sign file =
    takes-token _ and_sign-meaning_of.1 refl refl (text-seq _ (text-last _ (takes-literal_bytes file _ _)))

pub takes-not_sign : (file : List ℕ) → TakesToken file not_sign_rule (codes "NOT") (literal_bytes (codes "!"))
takes-not_sign file =
    takes-token _ not_sign-meaning_of.1 refl refl (text-seq _ (text-last _ (takes-literal_bytes file _ _)))

pub takes-question : (file : List ℕ) → TakesToken file question_rule (codes "QUESTION") (literal_bytes (codes "?"))
takes-question file =
    takes-token _ question-meaning_of.1 refl refl (text-seq _ (text-last _ (takes-literal_bytes file _ _)))

pub takes-star_sign : (file : List ℕ) → TakesToken file star_rule (codes "STAR") (literal_bytes (codes "*"))
takes-star_sign file =
    takes-token _ star-meaning_of.1 refl refl (text-seq _ (text-last _ (takes-literal_bytes file _ _)))

pub takes-plus : (file : List ℕ) → TakesToken file plus_rule (codes "PLUS") (literal_bytes (codes "+"))
takes-plus file =
    takes-token _ plus-meaning_of.1 refl refl (text-seq _ (text-last _ (takes-literal_bytes file _ _)))

pub takes-count : (file : List ℕ) → TakesToken file count_rule (codes "COUNT") count
unfolding count count_body
takes-count file =
    takes-token _ count-meaning_of.1 refl refl
    (text-seq _ (text-then (takes-literal_bytes file _ _) (text-then (takes-number file _ _)
    (text-then (takes-optional _ (takes-seq _ (takes-then (takes-literal_bytes file _ _) (takes-last (takes-number file _ _)))))
    (text-last _ (takes-literal_bytes file _ _))))))

pub takes-open_sign : (file : List ℕ) → TakesToken file open_sign_rule (codes "OPEN") (literal_bytes (codes "("))
takes-open_sign file =
    takes-token _ open_sign-meaning_of.1 refl refl (text-seq _ (text-last _ (takes-literal_bytes file _ _)))

pub takes-close : (file : List ℕ) → TakesToken file close_rule (codes "CLOSE") (literal_bytes (codes ")"))
takes-close file =
    takes-token _ close-meaning_of.1 refl refl (text-seq _ (text-last _ (takes-literal_bytes file _ _)))

pub takes-dot : (file : List ℕ) → TakesToken file dot_rule (codes "DOT") (literal_bytes (codes "."))
takes-dot file =
    takes-token _ dot-meaning_of.1 refl refl (text-seq _ (text-last _ (takes-literal_bytes file _ _)))
