-- How the rules of the printed figure stop, from Char up to Grammar. Grammar matches only what the escaped metagrammar
-- matches.
use Rattle.std.proofs.Common.{◌≡◌, ◌⊎◌, inl, inr, ℕ, ◌+◌, Bool, true, false, ◌&&◌, ◌||◌, ◌==◌, nat_eq, List, [], ◌∷◌, length, drop, codes}
use Rattle.std.proofs.Common.{Option, None, Some, ◌<◌, nat_le, refl, sym, ap, ◌∙◌, subst, arith}
use Rattle.std.proofs.lemmas.Bool.{cases_lt}
use Rattle.std.proofs.lemmas.List.{drop-drop, get_or_past}
use Rattle.std.proofs.lemmas.List.FromFn.{length-map-range_with_len, get_or-map-range_with_len}
use Rattle.std.proofs.lemmas.Bool.Decides.{nat_tests}
use Rattle.std.specs.List.{starts_with}
use Rattle.peg_bytes.specs.ByteSet.{has}
use Rattle.peg_bytes.specs.Extent.{Extent, between}
use Rattle.peg_tree.specs.Trees.{Trees, NoTrees, Tree}
use Rattle.peg_semantics.specs.Form.{Form, Forms, Literal, Class, Name, Seq, Choice, Optional, Star, Plus, Not, End, Then}
use Rattle.peg_semantics.specs.Record.{Recognition, Failed, Matched, prepend_trees, as_tree}
use Rattle.peg_semantics.specs.Rules.{Meaning, meaning_of}
use Rattle.peg_semantics.proofs.Derivations.{Derives, DerivesItems, DerivesFirst, recorded, derived, one_result, star_never_fails, literal_here, class_missing}
use Rattle.peg_semantics.proofs.ResultSteps.{begins_with, passes_any, starts_with-rest}
use Rattle.peg_metagrammar.specs.Ranges.{range, class_of, in_ranges}
use Rattle.peg_metagrammar.specs.EscapedFigure.{escaped_figure, escaped_suffix, MatchesEscaped, numbered_now}
use Rattle.peg_metagrammar.specs.Figure.{figure, grammar_body, definition_body, expression_body, sequence_body, prefix_body, suffix_body, primary_body, identifier_body, ident_start_body, ident_cont_body, literal_body, class_body, range_body, char_body, spacing_body, comment_body, space_body, end_of_line_body, end_of_file_body}
use Rattle.peg_metagrammar.specs.FigureRules.{grammar_rule, definition_rule, expression_rule, sequence_rule}
use Rattle.peg_metagrammar.specs.FigureRules.{prefix_rule, suffix_rule, primary_rule, literal_rule, class_rule}
use Rattle.peg_metagrammar.specs.FigureRules.{range_rule}
use Rattle.peg_metagrammar.specs.Notation.{Matches, IsReading}
use Rattle.peg_semantics.specs.Rules.{Rule}
use Rattle.peg_notation.specs.PrintedFigure.{printed_char, printed_figure, MatchesPrinted, IsPrintedReading}
use Rattle.peg_notation.proofs.Fronts.{front, is_byte, is_in, name_may_match, may_match, some_may_match, matches_front, items_blocked, first_blocked, star_blocked}
use Rattle.peg_notation.proofs.PrintedHalts.{Halt, IsOpener, IsQuote, IsLoose, at, IsDead, IsDash, FailsAt, EndsAt, Halts, IsHalting, Carries, CarriesItems, CarriesFirst, carried}
use Rattle.peg_notation.proofs.EscapedRules.{escaped-kept, escaped-reading}
use Rattle.peg_notation.proofs.Meanings.{without, all_without}
use Rattle.peg_notation.proofs.PrintedMeanings.{leads_past, alike, items_alike}

-- ---- the bytes at positions

byte_is : (h : Option ℕ) (byte : ℕ) → is_byte h byte ≡ true → h ≡ Some byte
byte_is None byte is = cc
byte_is (Some front) byte is = ap Some (grind (arith, nat_tests))

front_drop : (l : List ℕ) (byte : ℕ) → front l ≡ Some byte → (rest : List ℕ) × (l ≡ byte ∷ rest)
front_drop [] byte is = cc
front_drop (c ∷ rest) byte is = let same : c ≡ byte = cc in (rest, ap (λ b. b ∷ rest) same)

-- a class of one byte
has_one : (one byte : ℕ) → one < 256 → has (class_of (range one one ∷ [])) byte ≡ true → byte ≡ one
unfolding class_of
has_one one byte small is =
    elim (cases_lt byte 256) [
      | inl h ↦ exactly (in_ranges (range one one ∷ []) byte)
          (sym (get_or-map-range_with_len (in_ranges (range one one ∷ [])) 0 256 byte byte false h (omega arith)) ∙ is)
      | inr h ↦ absurd (true≢false (sym is ∙ get_or_past (class_of (range one one ∷ [])) byte false
          (omega (arith, length-map-range_with_len (in_ranges (range one one ∷ [])) 0 256))))
    ]
  where
    true≢false : true ≡ false → ⊥
    true≢false e = cc

    exactly : (t : Bool) → ((nat_le one byte && nat_le byte one) || false) ≡ true → byte ≡ one
    exactly t is = grind (arith, nat_tests)

byte_in : (one : ℕ) → one < 256 → (h : Option ℕ) → is_in h (has (class_of (range one one ∷ []))) ≡ true → h ≡ Some one
byte_in one small None is = cc
byte_in one small (Some byte) is = ap Some (has_one one byte small is)

module _ (file : List ℕ) where
  abbrev pub Old : Form → ℕ → Recognition → Type 0
  Old e p x = Derives printed_figure file e p x

  abbrev OldItems : Forms → ℕ → Recognition → Type 0
  OldItems items p x = DerivesItems printed_figure file items p x

  -- ---- the parts of derivations

  elsewhere : {used : List ℕ} {span : Extent} {p : ℕ} {x : Recognition} → Old (Name used span) p x
      → Old (Name used (between 0 0)) p x
  elsewhere (Derives.name_matched found d t) = Derives.name_matched found d t
  elsewhere (Derives.name_failed found d) = Derives.name_failed found d

  pub named : {used : List ℕ} {span : Extent} {p : ℕ} {x : Recognition} (m : Meaning)
      → meaning_of printed_figure used ≡ Some m → Old (Name used span) p x
      → (y : Recognition) × Old m.body p y × (x ≡ as_tree m.rule p y)
  named {p = p} m known (Derives.name_matched {meaning = other} {end = end} {trees = trees} found d t) =
      let both : Some other ≡ Some m = sym found ∙ known in
      let it : other ≡ m = cc in (
        Matched end trees,
        subst (λ (z : Meaning). Old z.body p (Matched end trees)) it d,
        ap (Matched end) (t ∙ ap (λ (z : Meaning). Tree z.rule p end trees NoTrees) it),
      )
  named {p = p} m known (Derives.name_failed {meaning = other} found d) =
      let both : Some other ≡ Some m = sym found ∙ known in
      let it : other ≡ m = cc in
      (Failed, subst (λ (z : Meaning). Old z.body p Failed) it d, refl)

  named_anew : {used : List ℕ} {p : ℕ} (m : Meaning) (span : Extent) → meaning_of escaped_figure used ≡ Some m → (y : Recognition)
      → Derives escaped_figure file m.body p y → Derives escaped_figure file (Name used span) p (as_tree m.rule p y)
  named_anew m span known Failed d = Derives.name_failed known d
  named_anew m span known (Matched end trees) d = Derives.name_matched known d refl

  first_item : {item : Form} {rest : Forms} {p end : ℕ} {trees : Trees} → OldItems (Then item rest) p (Matched end trees)
      → (m : ℕ) × (a : Trees) × (b : Trees) × Old item p (Matched m a) × OldItems rest m (Matched end b)
  first_item {item} {rest} {p} {end} {trees} (DerivesItems.items_then {middle = m} {trees = a} {more = x} d ds is) =
      by x ds is
    where
      by : (x : Recognition) → OldItems rest m x → Matched end trees ≡ prepend_trees a x
          → (m : ℕ) × (a : Trees) × (b : Trees) × Old item p (Matched m a) × OldItems rest m (Matched end b)
      by Failed ds is = cc
      by (Matched last b) ds is =
          let ends : last ≡ end = cc in (m, a, b, d, subst (λ n. OldItems rest m (Matched n b)) ends ds)

  in_sequence : {items : Forms} {span : Extent} {p : ℕ} {x : Recognition} → Old (Seq items span) p x → OldItems items p x
  in_sequence (Derives.sequence ds) = ds

  literal_end : {bytes : List ℕ} {span : Extent} {p end : ℕ} {trees : Trees}
      → Old (Literal bytes span) p (Matched end trees) → end ≡ p + length bytes
  literal_end (Derives.literal_matched is end) = end

  not_end : {part : Form} {span : Extent} {p end : ℕ} {trees : Trees} → Old (Not part span) p (Matched end trees)
      → end ≡ p
  not_end (Derives.not_matched d) = refl

  matched≢failed : {end : ℕ} {trees : Trees} → Matched end trees ≡ Failed → ⊥
  matched≢failed e = cc

  -- ---- forms that don't stop

  never_halts : (p : ℕ) (x : Recognition) → Halts file Halt.never p x → ⊥
  never_halts p Failed s = s
  never_halts p (Matched end trees) s = s

  plain : {e : Form} {k : Halt} → without (leads_past 5) e ≡ true → Carries file e k
  plain is = Carries.shown (λ p x d. inl (alike 5 d is))

  plain_items : {items : Forms} {k : Halt} → all_without (leads_past 5) items ≡ true
      → CarriesItems file items k
  plain_items is = CarriesItems.items_shown (λ p x ds. inl (items_alike 5 ds is))

  -- a plain item, and those after it
  plain_then : {e : Form} {rest : Forms} {l m : Halt} → without (leads_past 5) e ≡ true
      → CarriesItems file rest l
      → ((p middle : ℕ) (trees : Trees) (x : Recognition) → Old e p (Matched middle trees) → Halts file l middle x
      → Halts file m p (prepend_trees trees x))
      → CarriesItems file (Then e rest) m
  plain_then is rest go =
      CarriesItems.item (plain {k = Halt.never} is) rest (λ p s. absurd s) (λ p middle trees x s ds. absurd s) go

  -- an item that stops, and plain items after it
  then_plain : {e : Form} {rest : Forms} {k m : Halt} → Carries file e k
      → all_without (leads_past 5) rest ≡ true → ((p : ℕ) → FailsAt file k p → FailsAt file m p)
      → ((p middle : ℕ) (trees : Trees) (x : Recognition) → EndsAt file k middle → OldItems rest middle x
      → Halts file m p (prepend_trees trees x))
      → CarriesItems file (Then e rest) m
  then_plain c is fail stop =
      CarriesItems.item c (plain_items {k = Halt.never} is) fail stop
      (λ p middle trees x d s. absurd (never_halts middle x s))

  -- a last item
  last_item : {e : Form} {k : Halt} → Carries file e k → CarriesItems file (Then e End) k
  last_item {k = k} c = then_plain c refl (λ p s. s) (λ p middle trees x s ds. ends p middle trees x s ds)
    where
      ends : (p middle : ℕ) (trees : Trees) (x : Recognition) → EndsAt file k middle → OldItems End middle x
          → Halts file k p (prepend_trees trees x)
      ends p middle trees x s DerivesItems.items_none = s

  -- stopping so that the whole fails
  all_halts : (p : ℕ) (trees : Trees) (x : Recognition) → x ≡ Failed → Halts file Halt.whole p (prepend_trees trees x)
  all_halts p trees Failed is = tt
  all_halts p trees (Matched end more) is = cc

  -- ---- Char

  pub printed-meaning_of : (t : ℕ) × (meaning_of printed_figure (codes "Char")
      ≡ Some (record { rule = 13; terminal = t; body = printed_char }))
  unfolding escaped_figure figure escaped_suffix
  printed-meaning_of = (_, refl)

  abbrev pub printed_meaning : Meaning
  printed_meaning = record { rule = 13; terminal = printed-meaning_of.0; body = printed_char }

  pub no_escape : (p : ℕ) (rest : List ℕ) → drop p file ≡ 92 ∷ 120 ∷ rest → Old printed_char p Failed
  unfolding class_of
  no_escape p rest is =
      let following_it : drop (p + 1) file ≡ 120 ∷ rest = sym (drop-drop 1 p file) ∙ ap (drop 1) is in
      Derives.choice
      (DerivesFirst.alternative_failed (Derives.sequence (DerivesItems.items_then (literal_here (120 ∷ rest) is)
      (DerivesItems.items_failed (class_missing following_it refl)) refl))
      (DerivesFirst.alternative_failed (Derives.sequence (DerivesItems.items_then (literal_here (120 ∷ rest) is)
      (DerivesItems.items_failed (class_missing following_it refl)) refl))
      (DerivesFirst.alternative_failed (Derives.sequence (DerivesItems.items_then (literal_here (120 ∷ rest) is)
      (DerivesItems.items_failed (class_missing following_it refl)) refl))
      (DerivesFirst.alternative_last (Derives.sequence
      (DerivesItems.items_failed (Derives.not_failed (literal_here (120 ∷ rest) is))))))))

  char-meaning_of : (t : ℕ) × (meaning_of escaped_figure (codes "Char")
      ≡ Some (record { rule = 13; terminal = t; body = char_body }))
  unfolding escaped_figure figure
  char-meaning_of = (_, refl)

  alternatives : {first : Form} {rest : Forms} {span : Extent} {p : ℕ} {y : Recognition}
      → Derives escaped_figure file (Choice first rest span) p y → DerivesFirst escaped_figure file first rest p y
  alternatives (Derives.choice ds) = ds

  char_by : (p : ℕ) (b : Bool) → starts_with nat_eq (drop p file) (codes "\\x") ≡ b → (y : Recognition)
      → Old printed_char p y → Derives escaped_figure file char_body p y ⊎ ((at file p ≡ Some 92) × (y ≡ Failed))
  unfolding char_body
  char_by p true is y d =
      let whole = starts_with-rest (codes "\\x") (drop p file) is in
      inr (ap front whole, one_result d (no_escape p (drop 2 (drop p file)) whole))
  char_by p false is y d =
      inl (Derives.choice (DerivesFirst.alternative_failed (Derives.sequence
      (DerivesItems.items_failed (Derives.literal_failed is))) (alternatives (alike 5 d refl))))

  char_carried : {span : Extent} → Carries file (Name (codes "Char") span) Halt.character
  char_carried {span} = Carries.shown by
    where
      by : (p : ℕ) (x : Recognition) → Old (Name (codes "Char") span) p x
          → Derives escaped_figure file (Name (codes "Char") span) p x ⊎ Halts file Halt.character p x
      by p x d =
          let it = named printed_meaning printed-meaning_of.1 d in
          elim (char_by p (starts_with nat_eq (drop p file) (codes "\\x")) refl it.0 it.1) [
            | inl new ↦ inl (subst (λ (z : Recognition). Derives escaped_figure file (Name (codes "Char") span) p z) (sym it.2)
                (named_anew _ span char-meaning_of.1 it.0 new))
            | inr dead ↦
                let fails : x ≡ Failed = it.2 ∙ ap (as_tree 13 p) dead.1 in
                inr (subst (Halts file Halt.character p) (sym fails)
                (dead.0, elsewhere (subst (Old (Name (codes "Char") span) p) fails d)))
          ]

  -- a dash is a Char
  dash_char : {span : Extent} {p end : ℕ} {trees : Trees} → at file p ≡ Some 45
      → Old (Name (codes "Char") span) p (Matched end trees) → end ≡ p + 1
  dash_char {span} {p} {end} {trees} here d =
      let is = (front_drop (drop p file) 45 here).1 in
      let no_backslash : starts_with nat_eq (drop p file) (codes "\\") ≡ false =
      ap (λ l. starts_with nat_eq l (codes "\\")) is in
      let alone : Old (Name (codes "Char") span) p (Matched (p + 1) (Tree 13 p (p + 1) NoTrees NoTrees)) =
      Derives.name_matched printed-meaning_of.1 (Derives.choice
      (DerivesFirst.alternative_failed
      (Derives.sequence (DerivesItems.items_failed (Derives.literal_failed no_backslash)))
      (DerivesFirst.alternative_failed
      (Derives.sequence (DerivesItems.items_failed (Derives.literal_failed no_backslash)))
      (DerivesFirst.alternative_failed
      (Derives.sequence (DerivesItems.items_failed (Derives.literal_failed no_backslash)))
      (DerivesFirst.alternative_last (Derives.sequence
      (DerivesItems.items_then (Derives.not_matched (Derives.literal_failed no_backslash))
      (DerivesItems.items_then (Derives.any_matched (ap (begins_with passes_any) is) refl) DerivesItems.items_none refl)
      refl))))))) refl in
      let same : Matched end trees ≡ Matched (p + 1) (Tree 13 p (p + 1) NoTrees NoTrees) = one_result d alone in
      cc

  -- ---- Range

  range_carried : Carries file range_body Halt.ranged
  unfolding range_body
  range_carried =
      Carries.choice (CarriesFirst.other (Carries.sequence two) (CarriesFirst.only char_carried) (λ p s. absurd s) failed later)
    where
      following_dash : {span other : Extent}
          → CarriesItems file (Then (Literal (codes "-") span) (Then (Name (codes "Char") other) End)) Halt.dashed
      following_dash {span} = plain_then refl (last_item char_carried) go
        where
          go : (p middle : ℕ) (trees : Trees) (x : Recognition)
              → Old (Literal (codes "-") span) p (Matched middle trees) → Halts file Halt.character middle x
              → Halts file Halt.dashed p (prepend_trees trees x)
          go p middle trees Failed d s =
              (byte_is (at file p) 45 (matches_front 5 d), subst (IsDead file) (literal_end d) s)
          go p middle trees (Matched end more) d s = s

      two : {first span other : Extent} → CarriesItems file (Then (Name (codes "Char") first)
          (Then (Literal (codes "-") span) (Then (Name (codes "Char") other) End))) Halt.pair
      two {first} = CarriesItems.item char_carried following_dash (λ p s. inl s) (λ p middle trees x s ds. absurd s) go
        where
          go : (p middle : ℕ) (trees : Trees) (x : Recognition)
              → Old (Name (codes "Char") first) p (Matched middle trees) → Halts file Halt.dashed middle x
              → Halts file Halt.pair p (prepend_trees trees x)
          go p middle trees Failed d s = inr (middle, trees, elsewhere d, s)
          go p middle trees (Matched end more) d s = s

      failed : {span : Extent} (p : ℕ) (x : Recognition) → FailsAt file Halt.pair p
          → DerivesFirst printed_figure file (Name (codes "Char") span) End p x → Halts file Halt.ranged p x
      failed p x (inl dead) (DerivesFirst.alternative_last d) =
          subst (Halts file Halt.ranged p) (one_result dead.1 (elsewhere d)) dead
      failed p x (inr before) (DerivesFirst.alternative_last d) =
          subst (Halts file Halt.ranged p) (one_result before.2 (elsewhere d)) before.3

      later : (p : ℕ) (x : Recognition) → Halts file Halt.character p x → Halts file Halt.ranged p x
      later p Failed s = s
      later p (Matched end trees) s = absurd s

  -- ---- Class

  -- a Char before a dash, or a Char up to an end
  abbrev IsOfChars : ℕ → ℕ → Type 0
  IsOfChars p end =
      ((middle : ℕ) × (trees : Trees) × Old (Name (codes "Char") (between 0 0)) p (Matched middle trees)
      × (at file middle ≡ Some 45))
      ⊎ ((trees : Trees) × Old (Name (codes "Char") (between 0 0)) p (Matched end trees))

  range-meaning_of : (t : ℕ) × (meaning_of printed_figure (codes "Range")
      ≡ Some (record { rule = 12; terminal = t; body = range_body }))
  unfolding escaped_figure figure escaped_suffix
  range-meaning_of = (_, refl)

  range_chars : {span : Extent} {p end : ℕ} {trees : Trees} → Old (Name (codes "Range") span) p (Matched end trees)
      → IsOfChars p end
  unfolding range_body
  range_chars {p = p} {end} {trees} d =
      let it = named _ range-meaning_of.1 d in body it.0 it.1 it.2
    where
      first : {s t u v : Extent} (last : ℕ) (inside : Trees) → Old (Seq (Then (Name (codes "Char") s)
          (Then (Literal (codes "-") t) (Then (Name (codes "Char") u) End))) v) p (Matched last inside) → IsOfChars p end
      first last inside d =
          let one = first_item (in_sequence d) in
          let two = first_item one.4 in
          inl (one.0, one.1, elsewhere one.3, byte_is (at file one.0) 45 (matches_front 5 two.3))

      by : {s t u v w : Extent} (last : ℕ) (inside : Trees) → last ≡ end → DerivesFirst printed_figure file
          (Seq (Then (Name (codes "Char") s) (Then (Literal (codes "-") t) (Then (Name (codes "Char") u) End))) v)
          (Then (Name (codes "Char") w) End) p (Matched last inside) → IsOfChars p end
      by last inside ends (DerivesFirst.alternative_matched d) = first last inside d
      by last inside ends (DerivesFirst.alternative_failed d (DerivesFirst.alternative_last e)) =
          inr (inside, subst (λ n. Old (Name (codes "Char") (between 0 0)) p (Matched n inside)) ends (elsewhere e))

      body : (y : Recognition) → Old range_body p y → Matched end trees ≡ as_tree 12 p y → IsOfChars p end
      body Failed d is = absurd (matched≢failed is)
      body (Matched last inside) (Derives.choice ds) is = by last inside (let ends : last ≡ end = cc in ends) ds

  abbrev round : (s t u v : Extent) → Form
  round s t u v = Seq (Then (Not (Literal (codes "]") s) t) (Then (Name (codes "Range") u) End)) v

  round_chars : {s t u v : Extent} {p end : ℕ} {trees : Trees} → Old (round s t u v) p (Matched end trees)
      → IsOfChars p end
  round_chars {s} {t} {u} {v} {p} {end} d =
      let one = first_item (in_sequence d) in
      let two = first_item one.4 in
      let here : one.0 ≡ p = not_end one.3 in
      let there : two.0 ≡ end = nothing two.4 in
      subst (λ n. IsOfChars n end) here (subst (IsOfChars one.0) there (range_chars two.3))
    where
      nothing : {m : ℕ} {trees : Trees} → OldItems End m (Matched end trees) → m ≡ end
      nothing DerivesItems.items_none = refl

  dead_end : {s t u v : Extent} {p end : ℕ} {trees : Trees} (span : Extent) → IsDead file p
      → Old (Star (round s t u v) span) p (Matched end trees) → IsLoose (at file end)
  dead_end {p = p} span dead (Derives.star_none d) = subst IsLoose (sym dead.0) IsLoose.backslash
  dead_end {p = p} span dead (Derives.star_more d ds is) = absurd (by (round_chars d))
    where
      by : {m : ℕ} → IsOfChars p m → ⊥
      by (inl one) = matched≢failed (one_result one.2 dead.1)
      by (inr one) = matched≢failed (one_result one.1 dead.1)

  -- no position is both at a backslash and at a dash
  no_dash : (position middle : ℕ) → middle ≡ position → at file position ≡ Some 92 → at file middle ≡ Some 45 → ⊥
  no_dash position middle same slashed dashed = apart (sym slashed ∙ (ap (at file) (sym same) ∙ dashed))
    where
      apart : (let one : Option ℕ = Some 92 in let other : Option ℕ = Some 45 in one ≡ other) → ⊥
      apart e = cc

  dash_end : {s t u v : Extent} {p end : ℕ} {trees : Trees} (span : Extent) → IsDash file p
      → Old (Star (round s t u v) span) p (Matched end trees) → IsLoose (at file end)
  dash_end {p = p} span dash (Derives.star_none d) = subst IsLoose (sym dash.0) IsLoose.dash
  dash_end {s} {t} {u} {v} {p} {end} span dash (Derives.star_more {middle = middle} {more = more} d ds is) =
      by (round_chars d)
    where
      by : IsOfChars p middle → IsLoose (at file end)
      by (inl one) = absurd (no_dash (p + 1) one.0 (dash_char dash.0 one.2) dash.1.0 one.3)
      by (inr one) =
          let next : middle ≡ p + 1 = dash_char dash.0 one.1 in
          dead_end span dash.1 (subst (λ n. Old (Star (round s t u v) span) n (Matched end more)) next ds)

  loose_no_bracket : (h : Option ℕ) → IsLoose h → is_byte h 93 ≡ false
  loose_no_bracket h IsLoose.backslash = refl
  loose_no_bracket h IsLoose.dash = refl

  class_carried : Carries file class_body (Halt.begun 91)
  unfolding escaped_figure figure escaped_suffix grammar_body definition_body expression_body sequence_body prefix_body suffix_body primary_body identifier_body ident_start_body ident_cont_body literal_body class_body range_body char_body spacing_body comment_body space_body end_of_line_body end_of_file_body class_of
  class_carried = Carries.sequence (plain_then {l = Halt.whole} refl
      (then_plain {k = Halt.loose} ranges refl (λ p s. absurd s) stop) go)
    where
      one_round : {s t u v : Extent} → Carries file (round s t u v) Halt.ranged
      one_round {s} {t} = Carries.sequence (plain_then refl (last_item (Carries.name IsHalting.is_range)) here)
        where
          here : (p middle : ℕ) (trees : Trees) (x : Recognition)
              → Old (Not (Literal (codes "]") s) t) p (Matched middle trees) → Halts file Halt.ranged middle x
              → Halts file Halt.ranged p (prepend_trees trees x)
          here p middle trees Failed d s = subst (IsDead file) (not_end d) s
          here p middle trees (Matched end more) d s = s

      ranges : {s t u v z : Extent} → Carries file (Star (round s t u v) z) Halt.loose
      ranges {z = z} =
          Carries.star one_round (λ p s. subst IsLoose (sym s.0) IsLoose.backslash)
          (λ middle end trees s d. dash_end z s d)

      stop : {s : Extent} {rest : Forms} (p middle : ℕ) (trees : Trees) (x : Recognition)
          → EndsAt file Halt.loose middle → OldItems (Then (Literal (codes "]") s) rest) middle x
          → Halts file Halt.whole p (prepend_trees trees x)
      stop p middle trees x s ds = all_halts p trees x (items_blocked 5 (loose_no_bracket (at file middle) s) ds)

      go : {s : Extent} (p middle : ℕ) (trees : Trees) (x : Recognition)
          → Old (Literal (codes "[") s) p (Matched middle trees) → Halts file Halt.whole middle x
          → Halts file (Halt.begun 91) p (prepend_trees trees x)
      go p middle trees Failed d s = byte_is (at file p) 91 (matches_front 5 d)
      go p middle trees (Matched end more) d s = s

  -- ---- Literal

  abbrev one_byte : ℕ → Extent → Form
  one_byte byte span = Class (class_of (range byte byte ∷ [])) span

  quoted_carried : (byte : ℕ) → byte < 256
      → ((h : Option ℕ) → IsLoose h → is_in h (has (class_of (range byte byte ∷ []))) ≡ false)
      → {r s t u v w x y z : Extent} → Carries file (Seq (Then (one_byte byte r)
      (Then (Star (Seq (Then (Not (one_byte byte s) t) (Then (Name (codes "Char") u) End)) v) w)
      (Then (one_byte byte x) (Then (Name (codes "Spacing") y) End)))) z) (Halt.begun byte)
  unfolding escaped_figure figure escaped_suffix grammar_body definition_body expression_body sequence_body prefix_body suffix_body primary_body identifier_body ident_start_body ident_cont_body literal_body class_body range_body char_body spacing_body comment_body space_body end_of_line_body end_of_file_body class_of
  quoted_carried byte small loose {r} {s} {t} {x = e} =
      Carries.sequence (plain_then {l = Halt.whole} refl
      (then_plain {k = Halt.loose} chars refl (λ p s. absurd s) stop) go)
    where
      here : (p middle : ℕ) (trees : Trees) (x : Recognition)
          → Old (Not (one_byte byte s) t) p (Matched middle trees) → Halts file Halt.character middle x
          → Halts file Halt.character p (prepend_trees trees x)
      here p middle trees Failed d h = subst (IsDead file) (not_end d) h
      here p middle trees (Matched end more) d h = h

      chars : {u v w : Extent} → Carries file
          (Star (Seq (Then (Not (one_byte byte s) t) (Then (Name (codes "Char") u) End)) v) w) Halt.loose
      chars =
          Carries.star {k = Halt.character}
          (Carries.sequence (plain_then {l = Halt.character} refl (last_item char_carried) here))
          (λ p h. subst IsLoose (sym h.0) IsLoose.backslash) (λ middle end trees h d. absurd h)

      stop : {rest : Forms} (p middle : ℕ) (trees : Trees) (x : Recognition) → EndsAt file Halt.loose middle
          → OldItems (Then (one_byte byte e) rest) middle x → Halts file Halt.whole p (prepend_trees trees x)
      stop p middle trees x h ds = all_halts p trees x (items_blocked 5 (loose (at file middle) h) ds)

      go : (p middle : ℕ) (trees : Trees) (x : Recognition) → Old (one_byte byte r) p (Matched middle trees)
          → Halts file Halt.whole middle x → Halts file (Halt.begun byte) p (prepend_trees trees x)
      go p middle trees Failed d h = byte_in byte small (at file p) (matches_front 5 d)
      go p middle trees (Matched end more) d h = h

  loose_no_single : (h : Option ℕ) → IsLoose h → is_in h (has (class_of (range 39 39 ∷ []))) ≡ false
  unfolding class_of
  loose_no_single h IsLoose.backslash = refl
  loose_no_single h IsLoose.dash = refl

  loose_no_double : (h : Option ℕ) → IsLoose h → is_in h (has (class_of (range 34 34 ∷ []))) ≡ false
  unfolding class_of
  loose_no_double h IsLoose.backslash = refl
  loose_no_double h IsLoose.dash = refl

  single_no_double : (h : Option ℕ) → h ≡ Some 39 → is_in h (has (class_of (range 34 34 ∷ []))) ≡ false
  unfolding class_of
  single_no_double h is = subst (λ h. is_in h (has (class_of (range 34 34 ∷ []))) ≡ false) (sym is) refl

  literal_carried : Carries file literal_body Halt.literal
  unfolding literal_body
  literal_carried =
      Carries.choice (CarriesFirst.other (quoted_carried 39 (omega arith) loose_no_single)
      (CarriesFirst.only (quoted_carried 34 (omega arith) loose_no_double)) (λ p s. absurd s)
      (λ p x s ds. failed p x s (first_blocked 5 (single_no_double (at file p) s) refl ds)) later)
    where
      failed : (p : ℕ) (x : Recognition) → at file p ≡ Some 39 → x ≡ Failed → Halts file Halt.literal p x
      failed p Failed s is = subst IsQuote (sym s) IsQuote.one
      failed p (Matched end trees) s is = absurd (matched≢failed is)

      later : (p : ℕ) (x : Recognition) → Halts file (Halt.begun 34) p x → Halts file Halt.literal p x
      later p Failed s = subst IsQuote (sym s) IsQuote.two
      later p (Matched end trees) s = s

  -- ---- Primary

  opener_no_close : (h : Option ℕ) → IsOpener h
      → may_match (name_may_match printed_figure 5 h) h (Name (codes "CLOSE") (between 0 0)) ≡ false
  unfolding escaped_figure figure escaped_suffix grammar_body definition_body expression_body sequence_body prefix_body suffix_body primary_body identifier_body ident_start_body ident_cont_body literal_body class_body range_body char_body spacing_body comment_body space_body end_of_line_body end_of_file_body class_of
  opener_no_close h IsOpener.single = refl
  opener_no_close h IsOpener.double = refl
  opener_no_close h IsOpener.bracket = refl
  opener_no_close h IsOpener.parenthesis = refl
  opener_no_close h IsOpener.ampersand = refl
  opener_no_close h IsOpener.exclamation = refl

  opener_no_slash : (h : Option ℕ) → IsOpener h
      → may_match (name_may_match printed_figure 5 h) h (Name (codes "SLASH") (between 0 0)) ≡ false
  unfolding escaped_figure figure escaped_suffix grammar_body definition_body expression_body sequence_body prefix_body suffix_body primary_body identifier_body ident_start_body ident_cont_body literal_body class_body range_body char_body spacing_body comment_body space_body end_of_line_body end_of_file_body class_of
  opener_no_slash h IsOpener.single = refl
  opener_no_slash h IsOpener.double = refl
  opener_no_slash h IsOpener.bracket = refl
  opener_no_slash h IsOpener.parenthesis = refl
  opener_no_slash h IsOpener.ampersand = refl
  opener_no_slash h IsOpener.exclamation = refl

  opener_no_definition : (h : Option ℕ) → IsOpener h
      → may_match (name_may_match printed_figure 5 h) h (Name (codes "Definition") (between 0 0)) ≡ false
  unfolding escaped_figure figure escaped_suffix grammar_body definition_body expression_body sequence_body prefix_body suffix_body primary_body identifier_body ident_start_body ident_cont_body literal_body class_body range_body char_body spacing_body comment_body space_body end_of_line_body end_of_file_body class_of
  opener_no_definition h IsOpener.single = refl
  opener_no_definition h IsOpener.double = refl
  opener_no_definition h IsOpener.bracket = refl
  opener_no_definition h IsOpener.parenthesis = refl
  opener_no_definition h IsOpener.ampersand = refl
  opener_no_definition h IsOpener.exclamation = refl

  opener_no_end : (h : Option ℕ) → IsOpener h
      → may_match (name_may_match printed_figure 5 h) h (Name (codes "EndOfFile") (between 0 0)) ≡ false
  unfolding escaped_figure figure escaped_suffix grammar_body definition_body expression_body sequence_body prefix_body suffix_body primary_body identifier_body ident_start_body ident_cont_body literal_body class_body range_body char_body spacing_body comment_body space_body end_of_line_body end_of_file_body class_of
  opener_no_end h IsOpener.single = refl
  opener_no_end h IsOpener.double = refl
  opener_no_end h IsOpener.bracket = refl
  opener_no_end h IsOpener.parenthesis = refl
  opener_no_end h IsOpener.ampersand = refl
  opener_no_end h IsOpener.exclamation = refl

  token_halts : (p : ℕ) (x : Recognition) → x ≡ Failed → IsOpener (at file p) → Halts file Halt.token p x
  token_halts p Failed is opens = opens
  token_halts p (Matched end trees) is opens = absurd (matched≢failed is)

  parenthesis_alone : (h : Option ℕ) → h ≡ Some 40
      → (may_match (name_may_match printed_figure 5 h) h (Name (codes "Literal") (between 0 0)) ≡ false)
      × (some_may_match (name_may_match printed_figure 5 h) h (Then (Name (codes "Class") (between 0 0)) (Then (Name (codes "DOT") (between 0 0)) End))
      ≡ false)
  unfolding escaped_figure figure escaped_suffix grammar_body definition_body expression_body sequence_body prefix_body suffix_body primary_body identifier_body ident_start_body ident_cont_body literal_body class_body range_body char_body spacing_body comment_body space_body end_of_line_body end_of_file_body class_of
  parenthesis_alone h is =
      subst (λ h. (may_match (name_may_match printed_figure 5 h) h (Name (codes "Literal") (between 0 0)) ≡ false)
      × (some_may_match (name_may_match printed_figure 5 h) h (Then (Name (codes "Class") (between 0 0))
      (Then (Name (codes "DOT") (between 0 0)) End)) ≡ false)) (sym is) (refl, refl)

  quote_alone : (h : Option ℕ) → IsQuote h
      → (may_match (name_may_match printed_figure 5 h) h (Name (codes "Class") (between 0 0)) ≡ false)
      × (some_may_match (name_may_match printed_figure 5 h) h (Then (Name (codes "DOT") (between 0 0)) End) ≡ false)
  unfolding escaped_figure figure escaped_suffix grammar_body definition_body expression_body sequence_body prefix_body suffix_body primary_body identifier_body ident_start_body ident_cont_body literal_body class_body range_body char_body spacing_body comment_body space_body end_of_line_body end_of_file_body class_of
  quote_alone h IsQuote.one = (refl, refl)
  quote_alone h IsQuote.two = (refl, refl)

  bracket_alone : (h : Option ℕ) → h ≡ Some 91
      → may_match (name_may_match printed_figure 5 h) h (Name (codes "DOT") (between 0 0)) ≡ false
  unfolding escaped_figure figure escaped_suffix grammar_body definition_body expression_body sequence_body prefix_body suffix_body primary_body identifier_body ident_start_body ident_cont_body literal_body class_body range_body char_body spacing_body comment_body space_body end_of_line_body end_of_file_body class_of
  bracket_alone h is =
      subst (λ h. may_match (name_may_match printed_figure 5 h) h (Name (codes "DOT") (between 0 0)) ≡ false) (sym is) refl

  quote_opens : (h : Option ℕ) → IsQuote h → IsOpener h
  quote_opens h IsQuote.one = IsOpener.single
  quote_opens h IsQuote.two = IsOpener.double

  open_front : {span : Extent} {p end : ℕ} {trees : Trees} → Old (Name (codes "OPEN") span) p (Matched end trees)
      → at file p ≡ Some 40
  unfolding escaped_figure figure escaped_suffix grammar_body definition_body expression_body sequence_body prefix_body suffix_body primary_body identifier_body ident_start_body ident_cont_body literal_body class_body range_body char_body spacing_body comment_body space_body end_of_line_body end_of_file_body class_of
  open_front {p = p} d = byte_is (at file p) 40 (matches_front 5 d)

  parentheses_carried : {s t u : Extent} → CarriesItems file (Then (Name (codes "OPEN") s)
      (Then (Name (codes "Expression") t) (Then (Name (codes "CLOSE") u) End))) (Halt.begun 40)
  unfolding escaped_figure figure escaped_suffix grammar_body definition_body expression_body sequence_body prefix_body suffix_body primary_body identifier_body ident_start_body ident_cont_body literal_body class_body range_body char_body spacing_body comment_body space_body end_of_line_body end_of_file_body class_of
  parentheses_carried {s} {u = u} =
      plain_then {l = Halt.whole} refl
      (then_plain {k = Halt.words} (Carries.name IsHalting.is_expression) refl (λ p h. absurd h) stop) go
    where
      stop : (p middle : ℕ) (trees : Trees) (x : Recognition) → EndsAt file Halt.words middle
          → OldItems (Then (Name (codes "CLOSE") u) End) middle x → Halts file Halt.whole p (prepend_trees trees x)
      stop p middle trees x h ds = all_halts p trees x (items_blocked 5 (opener_no_close (at file middle) h) ds)

      go : (p middle : ℕ) (trees : Trees) (x : Recognition) → Old (Name (codes "OPEN") s) p (Matched middle trees)
          → Halts file Halt.whole middle x → Halts file (Halt.begun 40) p (prepend_trees trees x)
      go p middle trees Failed d h = open_front d
      go p middle trees (Matched end more) d h = h

  primary_carried : Carries file primary_body Halt.token
  unfolding escaped_figure figure escaped_suffix grammar_body definition_body expression_body sequence_body prefix_body suffix_body primary_body identifier_body ident_start_body ident_cont_body literal_body class_body range_body char_body spacing_body comment_body space_body end_of_line_body end_of_file_body class_of
  primary_carried =
      Carries.choice
      (CarriesFirst.other {l = Halt.token} (plain {k = Halt.never} refl)
      (CarriesFirst.other {l = Halt.token} (Carries.sequence parentheses_carried)
      (CarriesFirst.other {l = Halt.token} (Carries.name IsHalting.is_literal)
      (CarriesFirst.other {l = Halt.token} (Carries.name IsHalting.is_class)
      (CarriesFirst.only (plain {k = Halt.token} refl))
      (λ p h. absurd h)
      (λ p x h ds. token_halts p x (first_blocked 5 (bracket_alone (at file p) h) refl ds)
      (subst IsOpener (sym h) IsOpener.bracket))
      (λ p x h. h))
      (λ p h. absurd h)
      (λ p x h ds. let free = quote_alone (at file p) h in
      token_halts p x (first_blocked 5 free.0 free.1 ds) (quote_opens (at file p) h))
      (λ p x h. h))
      (λ p h. absurd h)
      (λ p x h ds. let free = parenthesis_alone (at file p) h in
      token_halts p x (first_blocked 5 free.0 free.1 ds) (subst IsOpener (sym h) IsOpener.parenthesis))
      (λ p x h. h))
      (λ p h. absurd h) (λ p x h ds. absurd h) (λ p x h. h))

  -- ---- Suffix, Prefix, Sequence

  suffix_carried : Carries file escaped_suffix Halt.token
  unfolding escaped_figure figure escaped_suffix grammar_body definition_body expression_body sequence_body prefix_body suffix_body primary_body identifier_body ident_start_body ident_cont_body literal_body class_body range_body char_body spacing_body comment_body space_body end_of_line_body end_of_file_body class_of
  suffix_carried =
      Carries.sequence (then_plain (Carries.name IsHalting.is_primary) refl (λ p h. h)
      (λ p middle trees x h ds. absurd h))

  sign_opens : (h : Option ℕ) → (is_byte h 38 || (is_byte h 33 || false)) ≡ true → IsOpener h
  sign_opens None is = cc
  sign_opens (Some byte) is = by (38 == byte) (33 == byte) refl refl is
    where
      by : (t u : Bool) → (38 == byte) ≡ t → (33 == byte) ≡ u → (t || (u || false)) ≡ true → IsOpener (Some byte)
      by true u a b is = subst IsOpener (sym (byte_is (Some byte) 38 a)) IsOpener.ampersand
      by false true a b is = subst IsOpener (sym (byte_is (Some byte) 33 b)) IsOpener.exclamation
      by false false a b is = cc

  sign_front : {s t u v : Extent} {p end : ℕ} {trees : Trees}
      → Old (Optional (Choice (Name (codes "AND") s) (Then (Name (codes "NOT") t) End) u) v) p (Matched end trees)
      → IsOpener (at file end) → IsOpener (at file p)
  unfolding escaped_figure figure escaped_suffix grammar_body definition_body expression_body sequence_body prefix_body suffix_body primary_body identifier_body ident_start_body ident_cont_body literal_body class_body range_body char_body spacing_body comment_body space_body end_of_line_body end_of_file_body class_of
  sign_front (Derives.optional_none d) h = h
  sign_front {p = p} (Derives.optional_some d) h = sign_opens (at file p) (matches_front 5 d)

  prefix_carried : Carries file prefix_body Halt.token
  unfolding escaped_figure figure escaped_suffix grammar_body definition_body expression_body sequence_body prefix_body suffix_body primary_body identifier_body ident_start_body ident_cont_body literal_body class_body range_body char_body spacing_body comment_body space_body end_of_line_body end_of_file_body class_of
  prefix_carried = Carries.sequence (plain_then refl (last_item (Carries.name IsHalting.is_suffix)) go)
    where
      go : {s t u v : Extent} (p middle : ℕ) (trees : Trees) (x : Recognition)
          → Old (Optional (Choice (Name (codes "AND") s) (Then (Name (codes "NOT") t) End) u) v) p (Matched middle trees)
          → Halts file Halt.token middle x → Halts file Halt.token p (prepend_trees trees x)
      go p middle trees Failed d h = sign_front d h
      go p middle trees (Matched end more) d h = h

  sequence_carried : Carries file sequence_body Halt.words
  unfolding sequence_body
  sequence_carried =
      Carries.star (Carries.name IsHalting.is_prefix) (λ p h. h) (λ middle end trees h d. absurd h)

  -- ---- Expression, Definition, Grammar

  words_on : (p middle : ℕ) (trees : Trees) (x : Recognition) → Halts file Halt.words middle x
      → Halts file Halt.words p (prepend_trees trees x)
  words_on p middle trees Failed h = absurd h
  words_on p middle trees (Matched end more) h = h

  slashes_carried : {s t u v : Extent} → Carries file
      (Star (Seq (Then (Name (codes "SLASH") s) (Then (Name (codes "Sequence") t) End)) u) v) Halt.words
  unfolding escaped_figure figure escaped_suffix grammar_body definition_body expression_body sequence_body prefix_body suffix_body primary_body identifier_body ident_start_body ident_cont_body literal_body class_body range_body char_body spacing_body comment_body space_body end_of_line_body end_of_file_body class_of
  slashes_carried =
      Carries.star {k = Halt.words}
      (Carries.sequence (plain_then {l = Halt.words} refl (last_item (Carries.name IsHalting.is_sequence))
      (λ p middle trees x d h. words_on p middle trees x h))) (λ p h. absurd h)
      (λ middle end trees h d. subst (λ n. IsOpener (at file n))
      (sym (star_blocked 5 (opener_no_slash (at file middle) h) d)) h)

  expression_carried : Carries file expression_body Halt.words
  unfolding escaped_figure figure escaped_suffix grammar_body definition_body expression_body sequence_body prefix_body suffix_body primary_body identifier_body ident_start_body ident_cont_body literal_body class_body range_body char_body spacing_body comment_body space_body end_of_line_body end_of_file_body class_of
  expression_carried =
      Carries.sequence (CarriesItems.item {k = Halt.words} {l = Halt.words} (Carries.name IsHalting.is_sequence)
      (last_item slashes_carried)
      (λ p h. absurd h) stop (λ p middle trees x d h. words_on p middle trees x h))
    where
      stop : {s t u v : Extent} (p middle : ℕ) (trees : Trees) (x : Recognition) → EndsAt file Halt.words middle
          → OldItems (Then (Star (Seq (Then (Name (codes "SLASH") s) (Then (Name (codes "Sequence") t) End)) u) v) End)
          middle x → Halts file Halt.words p (prepend_trees trees x)
      stop p middle trees x h (DerivesItems.items_failed d) = absurd (star_never_fails d)
      stop p middle trees x h (DerivesItems.items_then {middle = end} d DerivesItems.items_none is) =
          subst (λ (x : Recognition). Halts file Halt.words p (prepend_trees trees x)) (sym is)
          (subst (λ n. IsOpener (at file n)) (sym (star_blocked 5 (opener_no_slash (at file middle) h) d)) h)

  definition_carried : Carries file definition_body Halt.words
  unfolding escaped_figure figure escaped_suffix grammar_body definition_body expression_body sequence_body prefix_body suffix_body primary_body identifier_body ident_start_body ident_cont_body literal_body class_body range_body char_body spacing_body comment_body space_body end_of_line_body end_of_file_body class_of
  definition_carried =
      Carries.sequence (plain_then {l = Halt.words} refl
      (plain_then {l = Halt.words} refl (last_item (Carries.name IsHalting.is_expression))
      (λ p middle trees x d h. words_on p middle trees x h)) (λ p middle trees x d h. words_on p middle trees x h))

  grammar_carried : Carries file grammar_body Halt.whole
  unfolding escaped_figure figure escaped_suffix grammar_body definition_body expression_body sequence_body prefix_body suffix_body primary_body identifier_body ident_start_body ident_cont_body literal_body class_body range_body char_body spacing_body comment_body space_body end_of_line_body end_of_file_body class_of
  grammar_carried =
      Carries.sequence (plain_then {l = Halt.whole} refl
      (then_plain {k = Halt.words} definitions refl (λ p h. absurd h)
      (λ p middle trees x h ds. all_halts p trees x (items_blocked 5 (opener_no_end (at file middle) h) ds))) go)
    where
      definitions : {s t : Extent} → Carries file (Plus (Name (codes "Definition") s) t) Halt.words
      definitions =
          Carries.plus {k = Halt.words} (Carries.name IsHalting.is_definition) (λ p h. h)
          (λ middle end trees h d. subst (λ n. IsOpener (at file n))
          (sym (star_blocked 5 (opener_no_definition (at file middle) h) d)) h)

      go : {e : Form} (p middle : ℕ) (trees : Trees) (x : Recognition) → Old e p (Matched middle trees)
          → Halts file Halt.whole middle x → Halts file Halt.whole p (prepend_trees trees x)
      go p middle trees Failed d h = tt
      go p middle trees (Matched end more) d h = h

  -- ---- the meaning of the rules

  same_body : (used : List ℕ) {k : Halt} (m : Meaning) (rule terminal : ℕ) (body : Form)
      → meaning_of printed_figure used ≡ Some (record { rule = rule; terminal = terminal; body = body })
      → meaning_of printed_figure used ≡ Some m → Carries file body k → Carries file m.body k
  same_body used {k} m rule terminal body known found c =
      let both : Some (record { rule = rule; terminal = terminal; body = body }) ≡ Some m = sym known ∙ found in
      let same : record { rule = rule; terminal = terminal; body = body } ≡ m = cc in
      subst (λ (z : Meaning). Carries file z.body k) same c

  body_carries : (used : List ℕ) (k : Halt) (m : Meaning) → IsHalting file used k → meaning_of printed_figure used ≡ Some m
      → Carries file m.body k
  unfolding escaped_figure figure escaped_suffix
  body_carries used k m IsHalting.is_grammar found =
      same_body (codes "Grammar") m grammar_rule _ grammar_body refl found grammar_carried
  body_carries used k m IsHalting.is_definition found =
      same_body (codes "Definition") m definition_rule _ definition_body refl found definition_carried
  body_carries used k m IsHalting.is_expression found =
      same_body (codes "Expression") m expression_rule _ expression_body refl found expression_carried
  body_carries used k m IsHalting.is_sequence found =
      same_body (codes "Sequence") m sequence_rule _ sequence_body refl found sequence_carried
  body_carries used k m IsHalting.is_prefix found =
      same_body (codes "Prefix") m prefix_rule _ prefix_body refl found prefix_carried
  body_carries used k m IsHalting.is_suffix found =
      same_body (codes "Suffix") m suffix_rule _ escaped_suffix refl found suffix_carried
  body_carries used k m IsHalting.is_primary found =
      same_body (codes "Primary") m primary_rule _ primary_body refl found primary_carried
  body_carries used k m IsHalting.is_literal found =
      same_body (codes "Literal") m literal_rule _ literal_body refl found literal_carried
  body_carries used k m IsHalting.is_class found =
      same_body (codes "Class") m class_rule _ class_body refl found class_carried
  body_carries used k m IsHalting.is_range found =
      same_body (codes "Range") m range_rule _ range_body refl found range_carried

  -- ---- files

  printed-escaped : (end : ℕ) (trees : Trees) → MatchesPrinted file (codes "Grammar") 0 end trees
      → MatchesEscaped file (codes "Grammar") 0 end trees
  printed-escaped end trees m =
      let whole : Old (Name (codes "Grammar") (between 0 0)) 0 (Matched end trees) =
      subst (Old (Name (codes "Grammar") (between 0 0)) 0) m.2
      (derived printed_figure file m.1.0 (Name (codes "Grammar") (between 0 0)) 0 0 m.0 m.1.1) in
      elim (carried file body_carries whole (Carries.name IsHalting.is_grammar)) [
        | inl d ↦ let known = recorded d 0 in (known.found, (known.depth, known.is), known.result_is)
        | inr h ↦ absurd h
      ]

  pub printed-kept : (end : ℕ) (trees : Trees) → MatchesPrinted file (codes "Grammar") 0 end trees
      → Matches file (codes "Grammar") 0 end (numbered_now trees)
  printed-kept end trees m = escaped-kept file end trees (printed-escaped end trees m)

  pub printed-reading : (rules : List Rule) → IsPrintedReading file rules → IsReading file rules
  printed-reading rules r = escaped-reading file rules (r.0, r.1, printed-escaped r.0 r.1 r.2, r.3)
