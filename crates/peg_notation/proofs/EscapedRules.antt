-- How the rules of the escaped metagrammar stop, from Primary up to Grammar. Grammar matches only what the metagrammar
-- matches.
use Rattle.std.proofs.Common.{◌≡◌, ◌⊎◌, inl, inr, ℕ, ◌+◌, Bool, true, false, not, ◌&&◌, ◌||◌, ◌==◌, nat_eq, nat_lt, if◌then◌else◌, List, [], ◌∷◌, ◌++◌, drop, codes}
use Rattle.std.proofs.Common.{Option, None, Some, refl, sym, ap, ◌∙◌, subst, arith}
use Rattle.std.proofs.lemmas.Bool.Decides.{nat_tests}
use Rattle.std.specs.List.{starts_with}
use Rattle.peg_bytes.specs.Extent.{Extent, between}
use Rattle.peg_tree.specs.Trees.{Trees, NoTrees, Tree}
use Rattle.peg_semantics.specs.Form.{Form, Forms, Name, Seq, Choice, Optional, Star, Plus, End, Then}
use Rattle.peg_semantics.specs.Record.{Recognition, Failed, Matched, prepend_trees}
use Rattle.peg_semantics.specs.Rules.{Rule, Meaning, meaning_of}
use Rattle.peg_semantics.proofs.Derivations.{Derives, DerivesItems, DerivesFirst, derived, star_never_fails}
use Rattle.peg_semantics.proofs.ResultSteps.{starts_with-rest}
use Rattle.peg_metagrammar.specs.EscapedFigure.{escaped_figure, escaped_suffix, MatchesEscaped, number_now, numbered_now, IsEscapedReading}
use Rattle.peg_metagrammar.specs.Figure.{figure, grammar_body, definition_body, expression_body, sequence_body, prefix_body, suffix_body, primary_body, identifier_body, ident_start_body, ident_cont_body, literal_body, class_body, range_body, char_body, count_body, spacing_body, comment_body, space_body, end_of_line_body, end_of_file_body}
use Rattle.peg_metagrammar.specs.FigureRules.{grammar_rule, definition_rule, expression_rule, sequence_rule}
use Rattle.peg_metagrammar.specs.FigureRules.{prefix_rule, suffix_rule, primary_rule, count_rule}
use Rattle.peg_metagrammar.specs.Notation.{Matches, IsReading}
use Rattle.peg_metagrammar.specs.Ranges.{class_of}
use Rattle.peg_metagrammar.specs.Denotation.{spelled, numerals_in, bounds_spelled, bounds_in_range, bad_counts}
use Rattle.peg_metagrammar.proofs.FigureNames.{grammar-meaning_of, definition-meaning_of, expression-meaning_of, sequence-meaning_of, prefix-meaning_of, suffix-meaning_of, primary-meaning_of, count-meaning_of}
use Rattle.peg_lexer.proofs.Lexemes.{matches}
use Rattle.peg_notation.proofs.EscapedHalts.{Halt, IsOpener, IsStop, at, FailsAt, EndsAt, Halts, IsHalting, Carries, CarriesItems, CarriesFirst, Carried, carried}
use Rattle.peg_notation.proofs.EscapedMeanings.{now, elsewhere, alike, items_alike}
use Rattle.peg_notation.proofs.Fronts.{front, is_byte, name_may_match, may_match, some_may_match, matches_front, never_here, items_blocked, first_blocked, star_blocked}
use Rattle.peg_notation.proofs.Meanings.{without, all_without}

-- ---- the bytes at positions

byte_is : (h : Option ℕ) (byte : ℕ) → is_byte h byte ≡ true → h ≡ Some byte
byte_is None byte is = cc
byte_is (Some front) byte is = ap Some (grind (arith, nat_tests))

-- alternatives with one more appended
abbrev following_forms : Forms → Form → Forms
following_forms End last = Then last End
following_forms (Then first rest) last = Then first (following_forms rest last)

-- they match if some did, and fail if all of them and the new one fail
more_matched : {file : List ℕ} {first : Form} {rest : Forms} {p end : ℕ} {trees : Trees} (last : Form)
    → DerivesFirst figure file first rest p (Matched end trees)
    → DerivesFirst figure file first (following_forms rest last) p (Matched end trees)
more_matched last (DerivesFirst.alternative_last d) = DerivesFirst.alternative_matched d
more_matched last (DerivesFirst.alternative_matched d) = DerivesFirst.alternative_matched d
more_matched last (DerivesFirst.alternative_failed d ds) = DerivesFirst.alternative_failed d (more_matched last ds)

more_failed : {file : List ℕ} {first last : Form} {rest : Forms} {p : ℕ} → DerivesFirst figure file first rest p Failed
    → Derives figure file last p Failed → DerivesFirst figure file first (following_forms rest last) p Failed
more_failed (DerivesFirst.alternative_last d) fails =
    DerivesFirst.alternative_failed d (DerivesFirst.alternative_last fails)
more_failed (DerivesFirst.alternative_failed d ds) fails = DerivesFirst.alternative_failed d (more_failed ds fails)

in_choice : {file : List ℕ} {first : Form} {rest : Forms} {span : Extent} {p : ℕ} {x : Recognition}
    → Derives figure file (Choice first rest span) p x → DerivesFirst figure file first rest p x
in_choice (Derives.choice ds) = ds

matched≢failed : {end : ℕ} {trees : Trees} → Matched end trees ≡ Failed → ⊥
matched≢failed e = cc

opener_stops : (h : Option ℕ) → IsOpener h → IsStop h
opener_stops h IsOpener.parenthesis = IsStop.parenthesis
opener_stops h IsOpener.ampersand = IsStop.ampersand
opener_stops h IsOpener.exclamation = IsStop.exclamation

module _ (file : List ℕ) where
  abbrev Old : Form → ℕ → Recognition → Type 0
  Old e p x = Derives escaped_figure file e p x

  abbrev OldItems : Forms → ℕ → Recognition → Type 0
  OldItems items p x = DerivesItems escaped_figure file items p x

  -- ---- forms that don't stop

  never_halts : (p : ℕ) (x : Recognition) → Halts file Halt.never p x → ⊥
  never_halts p Failed s = s
  never_halts p (Matched end trees) s = s

  plain : {e : Form} {k : Halt} → without (elsewhere 5) e ≡ true → Carries file e e k
  plain is = Carries.shown (λ p x d. inl (alike 5 d is))

  plain_items : {items : Forms} {k : Halt} → all_without (elsewhere 5) items ≡ true → CarriesItems file items items k
  plain_items is = CarriesItems.items_shown (λ p x ds. inl (items_alike 5 ds is))

  -- a plain item, and those after it
  plain_then : {e : Form} {rest : Forms} {l m : Halt} → without (elsewhere 5) e ≡ true → CarriesItems file rest rest l
      → ((p middle : ℕ) (trees : Trees) (x : Recognition) → Old e p (Matched middle trees) → Halts file l middle x
      → Halts file m p (prepend_trees trees x))
      → CarriesItems file (Then e rest) (Then e rest) m
  plain_then is rest go =
      CarriesItems.item (plain {k = Halt.never} is) rest (λ p s. absurd s) (λ p middle trees x s ds. absurd s) go

  -- an item that stops, and plain items after it
  then_plain : {e f : Form} {rest : Forms} {k m : Halt} → Carries file e f k → all_without (elsewhere 5) rest ≡ true
      → ((p : ℕ) → FailsAt file k p → FailsAt file m p)
      → ((p middle : ℕ) (trees : Trees) (x : Recognition) → EndsAt file k middle → OldItems rest middle x
      → Halts file m p (prepend_trees trees x))
      → CarriesItems file (Then e rest) (Then f rest) m
  then_plain c is fail stop =
      CarriesItems.item c (plain_items {k = Halt.never} is) fail stop
      (λ p middle trees x d s. absurd (never_halts middle x s))

  -- a last item
  last_item : {e f : Form} {k : Halt} → Carries file e f k → CarriesItems file (Then e End) (Then f End) k
  last_item {k = k} c = then_plain c refl (λ p s. s) (λ p middle trees x s ds. ends p middle trees x s ds)
    where
      ends : (p middle : ℕ) (trees : Trees) (x : Recognition) → EndsAt file k middle → OldItems End middle x
          → Halts file k p (prepend_trees trees x)
      ends p middle trees x s DerivesItems.items_none = s

  -- stopping so that the whole fails
  all_halts : (p : ℕ) (trees : Trees) (x : Recognition) → x ≡ Failed → Halts file Halt.whole p (prepend_trees trees x)
  all_halts p trees Failed is = tt
  all_halts p trees (Matched end more) is = cc

  -- ---- Primary

  stop_no_close : (h : Option ℕ) → IsStop h
      → may_match (name_may_match escaped_figure 5 h) h (Name (codes "CLOSE") (between 0 0)) ≡ false
  unfolding escaped_figure figure escaped_suffix grammar_body definition_body expression_body sequence_body prefix_body suffix_body primary_body identifier_body ident_start_body ident_cont_body literal_body class_body range_body char_body count_body spacing_body comment_body space_body end_of_line_body end_of_file_body class_of
  stop_no_close h IsStop.parenthesis = refl
  stop_no_close h IsStop.ampersand = refl
  stop_no_close h IsStop.exclamation = refl
  stop_no_close h IsStop.brace = refl

  stop_no_slash : (h : Option ℕ) → IsStop h
      → may_match (name_may_match escaped_figure 5 h) h (Name (codes "SLASH") (between 0 0)) ≡ false
  unfolding escaped_figure figure escaped_suffix grammar_body definition_body expression_body sequence_body prefix_body suffix_body primary_body identifier_body ident_start_body ident_cont_body literal_body class_body range_body char_body count_body spacing_body comment_body space_body end_of_line_body end_of_file_body class_of
  stop_no_slash h IsStop.parenthesis = refl
  stop_no_slash h IsStop.ampersand = refl
  stop_no_slash h IsStop.exclamation = refl
  stop_no_slash h IsStop.brace = refl

  stop_no_definition : (h : Option ℕ) → IsStop h
      → may_match (name_may_match escaped_figure 5 h) h (Name (codes "Definition") (between 0 0)) ≡ false
  unfolding escaped_figure figure escaped_suffix grammar_body definition_body expression_body sequence_body prefix_body suffix_body primary_body identifier_body ident_start_body ident_cont_body literal_body class_body range_body char_body count_body spacing_body comment_body space_body end_of_line_body end_of_file_body class_of
  stop_no_definition h IsStop.parenthesis = refl
  stop_no_definition h IsStop.ampersand = refl
  stop_no_definition h IsStop.exclamation = refl
  stop_no_definition h IsStop.brace = refl

  stop_no_end : (h : Option ℕ) → IsStop h
      → may_match (name_may_match escaped_figure 5 h) h (Name (codes "EndOfFile") (between 0 0)) ≡ false
  unfolding escaped_figure figure escaped_suffix grammar_body definition_body expression_body sequence_body prefix_body suffix_body primary_body identifier_body ident_start_body ident_cont_body literal_body class_body range_body char_body count_body spacing_body comment_body space_body end_of_line_body end_of_file_body class_of
  stop_no_end h IsStop.parenthesis = refl
  stop_no_end h IsStop.ampersand = refl
  stop_no_end h IsStop.exclamation = refl
  stop_no_end h IsStop.brace = refl

  abbrev a_sign : Form
  a_sign =
      Choice (Name (codes "AND") (between 0 0)) (Then (Name (codes "NOT") (between 0 0)) End) (between 0 0)

  brace_no_sign : (h : Option ℕ) → h ≡ Some 123
      → may_match (name_may_match escaped_figure 5 h) h a_sign ≡ false
  unfolding escaped_figure figure escaped_suffix grammar_body definition_body expression_body sequence_body prefix_body suffix_body primary_body identifier_body ident_start_body ident_cont_body literal_body class_body range_body char_body count_body spacing_body comment_body space_body end_of_line_body end_of_file_body class_of
  brace_no_sign h is = subst (λ h. may_match (name_may_match escaped_figure 5 h) h a_sign ≡ false) (sym is) refl

  brace_no_suffix : (h : Option ℕ) → h ≡ Some 123
      → may_match (name_may_match escaped_figure 5 h) h (Name (codes "Suffix") (between 0 0)) ≡ false
  unfolding escaped_figure figure escaped_suffix grammar_body definition_body expression_body sequence_body prefix_body suffix_body primary_body identifier_body ident_start_body ident_cont_body literal_body class_body range_body char_body count_body spacing_body comment_body space_body end_of_line_body end_of_file_body class_of
  brace_no_suffix h is =
      subst (λ h. may_match (name_may_match escaped_figure 5 h) h (Name (codes "Suffix") (between 0 0)) ≡ false) (sym is) refl

  parenthesis_alone : (h : Option ℕ) → h ≡ Some 40
      → (may_match (name_may_match escaped_figure 5 h) h (Name (codes "Literal") (between 0 0)) ≡ false)
      × (some_may_match (name_may_match escaped_figure 5 h) h (Then (Name (codes "Class") (between 0 0))
      (Then (Name (codes "DOT") (between 0 0)) End)) ≡ false)
  unfolding escaped_figure figure escaped_suffix grammar_body definition_body expression_body sequence_body prefix_body suffix_body primary_body identifier_body ident_start_body ident_cont_body literal_body class_body range_body char_body count_body spacing_body comment_body space_body end_of_line_body end_of_file_body class_of
  parenthesis_alone h is =
      subst (λ h. (may_match (name_may_match escaped_figure 5 h) h (Name (codes "Literal") (between 0 0)) ≡ false)
      × (some_may_match (name_may_match escaped_figure 5 h) h (Then (Name (codes "Class") (between 0 0))
      (Then (Name (codes "DOT") (between 0 0)) End)) ≡ false)) (sym is) (refl, refl)

  open_front : {span : Extent} {p end : ℕ} {trees : Trees} → Old (Name (codes "OPEN") span) p (Matched end trees)
      → at file p ≡ Some 40
  unfolding escaped_figure figure escaped_suffix grammar_body definition_body expression_body sequence_body prefix_body suffix_body primary_body identifier_body ident_start_body ident_cont_body literal_body class_body range_body char_body count_body spacing_body comment_body space_body end_of_line_body end_of_file_body class_of
  open_front {p = p} d = byte_is (at file p) 40 (matches_front 5 d)

  abbrev in_parentheses : (s t u : Extent) → Forms
  in_parentheses s t u = Then (Name (codes "OPEN") s) (Then (Name (codes "Expression") t) (Then (Name (codes "CLOSE") u) End))

  parentheses_carried : {s t u : Extent}
      → CarriesItems file (in_parentheses s t u) (in_parentheses s t u) Halt.parenthesis
  unfolding escaped_figure figure escaped_suffix grammar_body definition_body expression_body sequence_body prefix_body suffix_body primary_body identifier_body ident_start_body ident_cont_body literal_body class_body range_body char_body count_body spacing_body comment_body space_body end_of_line_body end_of_file_body class_of
  parentheses_carried {s} {u = u} =
      plain_then {l = Halt.whole} refl
      (then_plain {k = Halt.words} (Carries.name IsHalting.is_expression) refl (λ p h. absurd h) stop) go
    where
      stop : (p middle : ℕ) (trees : Trees) (x : Recognition) → EndsAt file Halt.words middle
          → OldItems (Then (Name (codes "CLOSE") u) End) middle x → Halts file Halt.whole p (prepend_trees trees x)
      stop p middle trees x h ds = all_halts p trees x (items_blocked 5 (stop_no_close (at file middle) h) ds)

      go : (p middle : ℕ) (trees : Trees) (x : Recognition) → Old (Name (codes "OPEN") s) p (Matched middle trees)
          → Halts file Halt.whole middle x → Halts file Halt.parenthesis p (prepend_trees trees x)
      go p middle trees Failed d h = open_front d
      go p middle trees (Matched end more) d h = h

  parenthesis_halts : (p : ℕ) (x : Recognition) → x ≡ Failed → at file p ≡ Some 40 → Halts file Halt.parenthesis p x
  parenthesis_halts p Failed is here = here
  parenthesis_halts p (Matched end trees) is here = absurd (matched≢failed is)

  primary_carried : Carries file primary_body primary_body Halt.parenthesis
  unfolding escaped_figure figure escaped_suffix grammar_body definition_body expression_body sequence_body prefix_body suffix_body primary_body identifier_body ident_start_body ident_cont_body literal_body class_body range_body char_body count_body spacing_body comment_body space_body end_of_line_body end_of_file_body class_of
  primary_carried =
      Carries.choice
      (CarriesFirst.other {l = Halt.parenthesis} (plain {k = Halt.never} refl)
      (CarriesFirst.other {l = Halt.parenthesis} (Carries.sequence parentheses_carried)
      (CarriesFirst.other {l = Halt.parenthesis} (plain {k = Halt.never} refl)
      (CarriesFirst.other {l = Halt.parenthesis} (plain {k = Halt.never} refl)
      (CarriesFirst.only (plain {k = Halt.parenthesis} refl))
      (λ p h. absurd h) (λ p x h ds. absurd h) (λ p x h. h))
      (λ p h. absurd h) (λ p x h ds. absurd h) (λ p x h. h))
      (λ p h. absurd h)
      (λ p x h ds. let free = parenthesis_alone (at file p) h in
      parenthesis_halts p x (first_blocked 5 free.0 free.1 ds) h)
      (λ p x h. h))
      (λ p h. absurd h) (λ p x h ds. absurd h) (λ p x h. h))

  -- ---- Suffix

  -- a COUNT begins with a brace
  count_fails : {span : Extent} {p : ℕ} → starts_with nat_eq (drop p file) (codes "{") ≡ false
      → Derives figure file (Name (codes "COUNT") span) p Failed
  unfolding count_body
  count_fails is =
      Derives.name_failed count-meaning_of.1 (Derives.sequence (DerivesItems.items_failed (Derives.literal_failed is)))

  -- the operators that may come after an expression, and the same with a count appended
  abbrev signs : (q r s t : Extent) → Form
  signs q r s t = Choice (Name (codes "QUESTION") q) (Then (Name (codes "STAR") r) (Then (Name (codes "PLUS") s) End)) t

  abbrev signs_or_count : (q r s t u : Extent) → Form
  signs_or_count q r s t u =
      Choice (Name (codes "QUESTION") q) (Then (Name (codes "STAR") r) (Then (Name (codes "PLUS") s)
      (Then (Name (codes "COUNT") t) End))) u

  no_sign : {q r s t u v w : Extent} (p : ℕ) (b : Bool) → starts_with nat_eq (drop p file) (codes "{") ≡ b
      → Old (signs q r s t) p Failed
      → Derives figure file (Optional (signs_or_count q r s u v) w) p (Matched p NoTrees) ⊎ (at file p ≡ Some 123)
  unfolding escaped_figure figure escaped_suffix grammar_body definition_body expression_body sequence_body prefix_body suffix_body primary_body identifier_body ident_start_body ident_cont_body literal_body class_body range_body char_body count_body spacing_body comment_body space_body end_of_line_body end_of_file_body class_of
  no_sign p true is d = inr (ap front (starts_with-rest (codes "{") (drop p file) is))
  no_sign p false is d =
      inl (Derives.optional_none (Derives.choice (more_failed (in_choice (alike 5 d refl)) (count_fails is))))

  signs_carried : {q r s t u v w z : Extent}
      → Carries file (Optional (signs q r s t) u) (Optional (signs_or_count q r s v w) z) Halt.signs
  unfolding escaped_figure figure escaped_suffix grammar_body definition_body expression_body sequence_body prefix_body suffix_body primary_body identifier_body ident_start_body ident_cont_body literal_body class_body range_body char_body count_body spacing_body comment_body space_body end_of_line_body end_of_file_body class_of
  signs_carried {q} {r} {s} {t} {u} {v} {w} {z} = Carries.shown by
    where
      by : (p : ℕ) (x : Recognition) → Old (Optional (signs q r s t) u) p x
          → Derives figure file (Optional (signs_or_count q r s v w) z) p (now x) ⊎ Halts file Halt.signs p x
      by p (Matched end trees) (Derives.optional_some d) =
          inl (Derives.optional_some (Derives.choice (more_matched (Name (codes "COUNT") v) (in_choice (alike 5 d refl)))))
      by p Failed d = elim d [ ]
      by p (Matched end trees) (Derives.optional_none d) = no_sign p (starts_with nat_eq (drop p file) (codes "{")) refl d

  suffix_carried : Carries file escaped_suffix suffix_body Halt.token
  unfolding escaped_suffix suffix_body
  suffix_carried =
      Carries.sequence (CarriesItems.item {k = Halt.parenthesis} {l = Halt.signs} (Carries.name IsHalting.is_primary)
      (last_item signs_carried) (λ p h. subst IsOpener (sym h) IsOpener.parenthesis)
      (λ p middle trees x h ds. absurd h) (λ p middle trees x d h. go p middle trees x h))
    where
      go : (p middle : ℕ) (trees : Trees) (x : Recognition) → Halts file Halt.signs middle x
          → Halts file Halt.token p (prepend_trees trees x)
      go p middle trees Failed h = absurd h
      go p middle trees (Matched end more) h = h

  -- ---- Prefix, Sequence

  sign_opens : (h : Option ℕ) → (is_byte h 38 || (is_byte h 33 || false)) ≡ true → IsOpener h
  sign_opens None is = cc
  sign_opens (Some byte) is = by (38 == byte) (33 == byte) refl refl is
    where
      by : (t u : Bool) → (38 == byte) ≡ t → (33 == byte) ≡ u → (t || (u || false)) ≡ true → IsOpener (Some byte)
      by true u a b is = subst IsOpener (sym (byte_is (Some byte) 38 a)) IsOpener.ampersand
      by false true a b is = subst IsOpener (sym (byte_is (Some byte) 33 b)) IsOpener.exclamation
      by false false a b is = cc

  sign_front : {s t u v : Extent} {p end : ℕ} {trees : Trees}
      → Old (Optional (Choice (Name (codes "AND") s) (Then (Name (codes "NOT") t) End) u) v) p (Matched end trees)
      → IsOpener (at file end) → IsOpener (at file p)
  unfolding escaped_figure figure escaped_suffix grammar_body definition_body expression_body sequence_body prefix_body suffix_body primary_body identifier_body ident_start_body ident_cont_body literal_body class_body range_body char_body count_body spacing_body comment_body space_body end_of_line_body end_of_file_body class_of
  sign_front (Derives.optional_none d) h = h
  sign_front {p = p} (Derives.optional_some d) h = sign_opens (at file p) (matches_front 5 d)

  prefix_carried : Carries file prefix_body prefix_body Halt.token
  unfolding escaped_figure figure escaped_suffix grammar_body definition_body expression_body sequence_body prefix_body suffix_body primary_body identifier_body ident_start_body ident_cont_body literal_body class_body range_body char_body count_body spacing_body comment_body space_body end_of_line_body end_of_file_body class_of
  prefix_carried = Carries.sequence (plain_then refl (last_item (Carries.name IsHalting.is_suffix)) go)
    where
      go : {s t u v : Extent} (p middle : ℕ) (trees : Trees) (x : Recognition)
          → Old (Optional (Choice (Name (codes "AND") s) (Then (Name (codes "NOT") t) End) u) v) p (Matched middle trees)
          → Halts file Halt.token middle x → Halts file Halt.token p (prepend_trees trees x)
      go p middle trees Failed d h = sign_front d h
      go p middle trees (Matched end more) d h = h

  -- no Prefix begins with a brace
  no_prefix : {s t u v w z : Extent} {p end : ℕ} {trees : Trees} → at file p ≡ Some 123
      → Old (Seq (Then (Optional (Choice (Name (codes "AND") s) (Then (Name (codes "NOT") t) End) u) v)
      (Then (Name (codes "Suffix") w) End)) z) p (Matched end trees) → ⊥
  no_prefix {p = p} h (Derives.sequence (DerivesItems.items_then (Derives.optional_some d) ds is)) =
      never_here 5 (brace_no_sign (at file p) h) d
  no_prefix {p = p} h (Derives.sequence (DerivesItems.items_then {more = x} (Derives.optional_none d) ds is)) =
      let failed : x ≡ Failed = items_blocked 5 (brace_no_suffix (at file p) h) ds in
      matched≢failed (is ∙ ap (prepend_trees NoTrees) failed)

  prefix_meant : (t : ℕ) × (meaning_of escaped_figure (codes "Prefix")
      ≡ Some (record { rule = prefix_rule; terminal = t; body = prefix_body }))
  unfolding escaped_figure figure
  prefix_meant = (_, refl)

  prefix_found : {span : Extent} {p end : ℕ} {trees : Trees} → at file p ≡ Some 123
      → Old (Name (codes "Prefix") span) p (Matched end trees) → ⊥
  unfolding prefix_body
  prefix_found {p = p} h (Derives.name_matched {meaning = m} {end = last} {trees = inside} found d t) =
      let one : Meaning = record { rule = prefix_rule; terminal = prefix_meant.0; body = prefix_body } in
      let both : Some m ≡ Some one = sym found ∙ prefix_meant.1 in
      let same : m ≡ one = cc in
      no_prefix h (subst (λ (z : Meaning). Old z.body p (Matched last inside)) same d)

  prefixes_end : {t u : Extent} {p end : ℕ} {trees : Trees} → at file p ≡ Some 123
      → Old (Star (Name (codes "Prefix") t) u) p (Matched end trees) → end ≡ p
  prefixes_end h (Derives.star_none d) = refl
  prefixes_end h (Derives.star_more d ds is) = absurd (prefix_found h d)

  sequence_carried : Carries file sequence_body sequence_body Halt.words
  unfolding sequence_body
  sequence_carried =
      Carries.star (Carries.name IsHalting.is_prefix) (λ p h. opener_stops (at file p) h)
      (λ middle end trees h d. subst (λ n. IsStop (at file n))
      (sym (prefixes_end h d)) (subst IsStop (sym h) IsStop.brace))

  -- ---- Expression, Definition, Grammar

  words_on : (p middle : ℕ) (trees : Trees) (x : Recognition) → Halts file Halt.words middle x
      → Halts file Halt.words p (prepend_trees trees x)
  words_on p middle trees Failed h = absurd h
  words_on p middle trees (Matched end more) h = h

  abbrev slashes : (s t u v : Extent) → Form
  slashes s t u v = Star (Seq (Then (Name (codes "SLASH") s) (Then (Name (codes "Sequence") t) End)) u) v

  slashes_carried : {s t u v : Extent} → Carries file (slashes s t u v) (slashes s t u v) Halt.words
  unfolding escaped_figure figure escaped_suffix grammar_body definition_body expression_body sequence_body prefix_body suffix_body primary_body identifier_body ident_start_body ident_cont_body literal_body class_body range_body char_body count_body spacing_body comment_body space_body end_of_line_body end_of_file_body class_of
  slashes_carried =
      Carries.star {k = Halt.words}
      (Carries.sequence (plain_then {l = Halt.words} refl (last_item (Carries.name IsHalting.is_sequence))
      (λ p middle trees x d h. words_on p middle trees x h))) (λ p h. absurd h)
      (λ middle end trees h d. subst (λ n. IsStop (at file n))
      (sym (star_blocked 5 (stop_no_slash (at file middle) h) d)) h)

  expression_carried : Carries file expression_body expression_body Halt.words
  unfolding escaped_figure figure escaped_suffix grammar_body definition_body expression_body sequence_body prefix_body suffix_body primary_body identifier_body ident_start_body ident_cont_body literal_body class_body range_body char_body count_body spacing_body comment_body space_body end_of_line_body end_of_file_body class_of
  expression_carried =
      Carries.sequence (CarriesItems.item {k = Halt.words} {l = Halt.words} (Carries.name IsHalting.is_sequence)
      (last_item slashes_carried)
      (λ p h. absurd h) stop (λ p middle trees x d h. words_on p middle trees x h))
    where
      stop : {s t u v : Extent} (p middle : ℕ) (trees : Trees) (x : Recognition) → EndsAt file Halt.words middle
          → OldItems (Then (slashes s t u v) End) middle x → Halts file Halt.words p (prepend_trees trees x)
      stop p middle trees x h (DerivesItems.items_failed d) = absurd (star_never_fails d)
      stop p middle trees x h (DerivesItems.items_then {middle = end} d DerivesItems.items_none is) =
          subst (λ (x : Recognition). Halts file Halt.words p (prepend_trees trees x)) (sym is)
          (subst (λ n. IsStop (at file n)) (sym (star_blocked 5 (stop_no_slash (at file middle) h) d)) h)

  definition_carried : Carries file definition_body definition_body Halt.words
  unfolding escaped_figure figure escaped_suffix grammar_body definition_body expression_body sequence_body prefix_body suffix_body primary_body identifier_body ident_start_body ident_cont_body literal_body class_body range_body char_body count_body spacing_body comment_body space_body end_of_line_body end_of_file_body class_of
  definition_carried =
      Carries.sequence (plain_then {l = Halt.words} refl
      (plain_then {l = Halt.words} refl (last_item (Carries.name IsHalting.is_expression))
      (λ p middle trees x d h. words_on p middle trees x h)) (λ p middle trees x d h. words_on p middle trees x h))

  grammar_carried : Carries file grammar_body grammar_body Halt.whole
  unfolding escaped_figure figure escaped_suffix grammar_body definition_body expression_body sequence_body prefix_body suffix_body primary_body identifier_body ident_start_body ident_cont_body literal_body class_body range_body char_body count_body spacing_body comment_body space_body end_of_line_body end_of_file_body class_of
  grammar_carried =
      Carries.sequence (plain_then {l = Halt.whole} refl
      (then_plain {k = Halt.words} definitions refl (λ p h. absurd h)
      (λ p middle trees x h ds. all_halts p trees x (items_blocked 5 (stop_no_end (at file middle) h) ds))) go)
    where
      definitions : {s t : Extent}
          → Carries file (Plus (Name (codes "Definition") s) t) (Plus (Name (codes "Definition") s) t) Halt.words
      definitions =
          Carries.plus {k = Halt.words} (Carries.name IsHalting.is_definition) (λ p h. h)
          (λ middle end trees h d. subst (λ n. IsStop (at file n))
          (sym (star_blocked 5 (stop_no_definition (at file middle) h) d)) h)

      go : {e : Form} (p middle : ℕ) (trees : Trees) (x : Recognition) → Old e p (Matched middle trees)
          → Halts file Halt.whole middle x → Halts file Halt.whole p (prepend_trees trees x)
      go p middle trees Failed d h = tt
      go p middle trees (Matched end more) d h = h

  -- ---- the meaning of the rules

  same_body : (used : List ℕ) {k : Halt} (m : Meaning) (number terminal now_terminal : ℕ) (body new : Form)
      → meaning_of escaped_figure used ≡ Some (record { rule = number; terminal = terminal; body = body })
      → meaning_of escaped_figure used ≡ Some m
      → meaning_of figure used ≡ Some (record { rule = number; terminal = now_terminal; body = new })
      → number_now number ≡ number → Carries file body new k → Carried file used m k
  same_body used {k} m number terminal now_terminal body new old found known stays c =
      let both : Some (record { rule = number; terminal = terminal; body = body }) ≡ Some m = sym old ∙ found in
      let same : record { rule = number; terminal = terminal; body = body } ≡ m = cc in
      record {
        meaning = record { rule = number; terminal = now_terminal; body = new };
        known = known;
        rule_is = sym stays ∙ ap (λ (z : Meaning). number_now z.rule) same;
        carries = subst (λ (z : Meaning). Carries file z.body new k) same c;
      }

  body_carries : (used : List ℕ) (k : Halt) (m : Meaning) → IsHalting file used k → meaning_of escaped_figure used ≡ Some m
      → Carried file used m k
  unfolding escaped_figure figure
  body_carries used k m IsHalting.is_grammar found =
      same_body (codes "Grammar") m grammar_rule _ _ grammar_body grammar_body refl found grammar-meaning_of.1 refl grammar_carried
  body_carries used k m IsHalting.is_definition found =
      same_body (codes "Definition") m definition_rule _ _ definition_body definition_body refl found definition-meaning_of.1 refl
      definition_carried
  body_carries used k m IsHalting.is_expression found =
      same_body (codes "Expression") m expression_rule _ _ expression_body expression_body refl found expression-meaning_of.1 refl
      expression_carried
  body_carries used k m IsHalting.is_sequence found =
      same_body (codes "Sequence") m sequence_rule _ _ sequence_body sequence_body refl found sequence-meaning_of.1 refl
      sequence_carried
  body_carries used k m IsHalting.is_prefix found =
      same_body (codes "Prefix") m prefix_rule _ _ prefix_body prefix_body refl found prefix-meaning_of.1 refl prefix_carried
  body_carries used k m IsHalting.is_suffix found =
      same_body (codes "Suffix") m suffix_rule _ _ escaped_suffix suffix_body refl found suffix-meaning_of.1 refl suffix_carried
  body_carries used k m IsHalting.is_primary found =
      same_body (codes "Primary") m primary_rule _ _ primary_body primary_body refl found primary-meaning_of.1 refl primary_carried

  -- ---- files

  pub escaped-kept : (end : ℕ) (trees : Trees) → MatchesEscaped file (codes "Grammar") 0 end trees
      → Matches file (codes "Grammar") 0 end (numbered_now trees)
  escaped-kept end trees m =
      let whole : Old (Name (codes "Grammar") (between 0 0)) 0 (Matched end trees) =
      subst (Old (Name (codes "Grammar") (between 0 0)) 0) m.2
      (derived escaped_figure file m.1.0 (Name (codes "Grammar") (between 0 0)) 0 0 m.0 m.1.1) in
      elim (carried file body_carries whole (Carries.name IsHalting.is_grammar)) [
        | inl d ↦ matches d
        | inr h ↦ absurd h
      ]

  -- no rule of the escaped metagrammar is COUNT
  no_count : (n : ℕ) → (number_now n == count_rule) ≡ false
  no_count n = by (nat_lt n count_rule) refl
    where
      by : (t : Bool) → nat_lt n count_rule ≡ t → ((if t then n else n + 2) == count_rule) ≡ false
      by true less = grind (arith, nat_tests)
      by false less = grind (arith, nat_tests)

  pub no_counts-now : (trees : Trees) → bad_counts file (numbered_now trees) ≡ []
  no_counts-now NoTrees = refl
  no_counts-now (Tree n start end children rest) =
      ap (λ (t : Bool). (if t && not (bounds_in_range (bounds_spelled (numerals_in
      (spelled file start (numbered_now children))))) then start ∷ [] else [])
      ++ (bad_counts file (numbered_now children) ++ bad_counts file (numbered_now rest))) (no_count n)
      ∙ (λ i. no_counts-now children i ++ no_counts-now rest i)

  pub escaped-reading : (rules : List Rule) → IsEscapedReading file rules → IsReading file rules
  escaped-reading rules r = (r.0, numbered_now r.1, escaped-kept r.0 r.1 r.2, no_counts-now r.1, r.3)
