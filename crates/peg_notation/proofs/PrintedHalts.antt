-- Compares the printed figure with the escaped metagrammar. At each position, the result of a form under the first is
-- also its result under the second, or the first has stopped at a position where it can't continue.
use Rattle.std.proofs.Common.{◌≡◌, ◌⊎◌, inl, inr, ℕ, ◌+◌, false, List, drop, codes, bytes_eq}
use Rattle.std.proofs.Common.{Option, Some, refl, sym, ap, ◌∙◌, subst}
use Rattle.peg_bytes.specs.Extent.{Extent, between}
use Rattle.peg_tree.specs.Trees.{Trees, NoTrees, Tree}
use Rattle.peg_semantics.specs.Form.{Form, Forms, Name, Seq, Choice, Star, Plus, End, Then}
use Rattle.peg_semantics.specs.Record.{Recognition, Failed, Matched, prepend_trees}
use Rattle.peg_semantics.specs.Rules.{Meaning, meaning_of}
use Rattle.peg_semantics.proofs.Derivations.{Derives, DerivesItems, DerivesFirst}
use Rattle.peg_metagrammar.specs.EscapedFigure.{escaped_figure}
use Rattle.peg_notation.specs.PrintedFigure.{printed_figure}
use Rattle.peg_notation.proofs.Fronts.{front}
use Rattle.peg_notation.proofs.PrintedMeanings.{meaning_of-printed}

-- how the printed figure may stop before hexadecimal digits
pub data Halt : Type 0 where
  -- not at all
  never : Halt
  -- a Char fails
  character : Halt
  -- after a dash a Char fails
  dashed : Halt
  -- before a dash a Char has matched, or failed
  pair : Halt
  -- a Range fails there, or ends before a dash
  ranged : Halt
  -- Chars or Ranges end there
  loose : Halt
  -- a form that begins with this byte fails
  begun : ℕ → Halt
  -- a literal fails
  literal : Halt
  -- a Primary, a Suffix or a Prefix fails
  token : Halt
  -- expressions end before such a Prefix
  words : Halt
  -- everything fails
  whole : Halt

-- a byte that may begin a Primary or a Prefix, but no name
pub data IsOpener : Option ℕ → Type 0 where
  single : IsOpener (Some 39)
  double : IsOpener (Some 34)
  bracket : IsOpener (Some 91)
  parenthesis : IsOpener (Some 40)
  ampersand : IsOpener (Some 38)
  exclamation : IsOpener (Some 33)

pub data IsQuote : Option ℕ → Type 0 where
  one : IsQuote (Some 39)
  two : IsQuote (Some 34)

pub data IsLoose : Option ℕ → Type 0 where
  backslash : IsLoose (Some 92)
  dash : IsLoose (Some 45)

module _ (file : List ℕ) where
  -- the byte at a position
  abbrev pub at : ℕ → Option ℕ
  at p = front (drop p file)

  -- a backslash at which the printed Char fails
  abbrev pub IsDead : ℕ → Type 0
  IsDead p = (at p ≡ Some 92) × Derives printed_figure file (Name (codes "Char") (between 0 0)) p Failed

  -- a dash before such a backslash
  abbrev pub IsDash : ℕ → Type 0
  IsDash p = (at p ≡ Some 45) × IsDead (p + 1)

  -- a Char before such a dash
  abbrev pub IsBeforeDash : ℕ → Type 0
  IsBeforeDash p =
      (middle : ℕ) × (trees : Trees)
      × Derives printed_figure file (Name (codes "Char") (between 0 0)) p (Matched middle trees) × IsDash middle

  abbrev pub FailsAt : Halt → ℕ → Type 0
  FailsAt Halt.never p = ⊥
  FailsAt Halt.character p = IsDead p
  FailsAt Halt.dashed p = IsDash p
  FailsAt Halt.pair p = IsDead p ⊎ IsBeforeDash p
  FailsAt Halt.ranged p = IsDead p
  FailsAt Halt.loose p = ⊥
  FailsAt (Halt.begun byte) p = at p ≡ Some byte
  FailsAt Halt.literal p = IsQuote (at p)
  FailsAt Halt.token p = IsOpener (at p)
  FailsAt Halt.words p = ⊥
  FailsAt Halt.whole p = Unit {0}

  abbrev pub EndsAt : Halt → ℕ → Type 0
  EndsAt Halt.never p = ⊥
  EndsAt Halt.character p = ⊥
  EndsAt Halt.dashed p = ⊥
  EndsAt Halt.pair p = ⊥
  EndsAt Halt.ranged p = IsDash p
  EndsAt Halt.loose p = IsLoose (at p)
  EndsAt (Halt.begun byte) p = ⊥
  EndsAt Halt.literal p = ⊥
  EndsAt Halt.token p = ⊥
  EndsAt Halt.words p = IsOpener (at p)
  EndsAt Halt.whole p = ⊥

  abbrev pub Halts : Halt → ℕ → Recognition → Type 0
  Halts k p Failed = FailsAt k p
  Halts k p (Matched end trees) = EndsAt k end

  -- ---- rules

  -- the rules above Char, and how they stop
  pub data IsHalting : List ℕ → Halt → Type 0 where
    is_grammar : IsHalting (codes "Grammar") Halt.whole
    is_definition : IsHalting (codes "Definition") Halt.words
    is_expression : IsHalting (codes "Expression") Halt.words
    is_sequence : IsHalting (codes "Sequence") Halt.words
    is_prefix : IsHalting (codes "Prefix") Halt.token
    is_suffix : IsHalting (codes "Suffix") Halt.token
    is_primary : IsHalting (codes "Primary") Halt.token
    is_literal : IsHalting (codes "Literal") Halt.literal
    is_class : IsHalting (codes "Class") (Halt.begun 91)
    is_range : IsHalting (codes "Range") Halt.ranged

  pub no_char : {used : List ℕ} {k : Halt} → IsHalting used k → bytes_eq used (codes "Char") ≡ false
  no_char IsHalting.is_grammar = refl
  no_char IsHalting.is_definition = refl
  no_char IsHalting.is_expression = refl
  no_char IsHalting.is_sequence = refl
  no_char IsHalting.is_prefix = refl
  no_char IsHalting.is_suffix = refl
  no_char IsHalting.is_primary = refl
  no_char IsHalting.is_literal = refl
  no_char IsHalting.is_class = refl
  no_char IsHalting.is_range = refl

  -- ---- forms

  -- how a form stops, from its parts
  mutual
    pub data Carries : Form → Halt → Type 0 where
      shown : {e : Form} {k : Halt} → ((p : ℕ) (x : Recognition) → Derives printed_figure file e p x
          → Derives escaped_figure file e p x ⊎ Halts k p x) → Carries e k
      name : {used : List ℕ} {span : Extent} {k : Halt} → IsHalting used k → Carries (Name used span) k
      sequence : {items : Forms} {span : Extent} {k : Halt} → CarriesItems items k → Carries (Seq items span) k
      choice : {first : Form} {rest : Forms} {span : Extent} {k : Halt} → CarriesFirst first rest k
          → Carries (Choice first rest span) k
      star : {part : Form} {span : Extent} {k m : Halt} → Carries part k
          → ((p : ℕ) → FailsAt k p → EndsAt m p)
          → ((middle end : ℕ) (trees : Trees) → EndsAt k middle
          → Derives printed_figure file (Star part span) middle (Matched end trees) → EndsAt m end)
          → Carries (Star part span) m
      plus : {part : Form} {span : Extent} {k m : Halt} → Carries part k → ((p : ℕ) → FailsAt k p → ⊥)
          → ((middle end : ℕ) (trees : Trees) → EndsAt k middle
          → Derives printed_figure file (Star part span) middle (Matched end trees) → EndsAt m end)
          → Carries (Plus part span) m

    pub data CarriesItems : Forms → Halt → Type 0 where
      items_shown : {items : Forms} {k : Halt} → ((p : ℕ) (x : Recognition)
          → DerivesItems printed_figure file items p x → DerivesItems escaped_figure file items p x ⊎ Halts k p x)
          → CarriesItems items k
      item : {first : Form} {rest : Forms} {k l m : Halt} → Carries first k → CarriesItems rest l
          → ((p : ℕ) → FailsAt k p → FailsAt m p)
          → ((p middle : ℕ) (trees : Trees) (x : Recognition) → EndsAt k middle
          → DerivesItems printed_figure file rest middle x → Halts m p (prepend_trees trees x))
          → ((p middle : ℕ) (trees : Trees) (x : Recognition)
          → Derives printed_figure file first p (Matched middle trees) → Halts l middle x
          → Halts m p (prepend_trees trees x))
          → CarriesItems (Then first rest) m

    pub data CarriesFirst : Form → Forms → Halt → Type 0 where
      only : {last : Form} {k : Halt} → Carries last k → CarriesFirst last End k
      other : {first next : Form} {rest : Forms} {k l m : Halt} → Carries first k → CarriesFirst next rest l
          → ((p : ℕ) → EndsAt k p → EndsAt m p)
          → ((p : ℕ) (x : Recognition) → FailsAt k p → DerivesFirst printed_figure file next rest p x → Halts m p x)
          → ((p : ℕ) (x : Recognition) → Halts l p x → Halts m p x)
          → CarriesFirst first (Then next rest) m

  -- the result of a form under the printed figure is also its result under the escaped metagrammar, or the first stops
  module _ (body-carries : (used : List ℕ) (k : Halt) (m : Meaning) → IsHalting used k
      → meaning_of printed_figure used ≡ Some m → Carries m.body k) where
    mutual
      pub carried : {e : Form} {p : ℕ} {x : Recognition} {k : Halt} → Derives printed_figure file e p x → Carries e k
          → Derives escaped_figure file e p x ⊎ Halts k p x
      carried {p = p} {x} d (Carries.shown f) = f p x d
      carried (Derives.name_matched {used = used} {meaning = m} {position = p} {end = end} {trees = trees} found d t)
          (Carries.name is) =
          let same = meaning_of-printed used m (no_char is) found in
          elim (carried d (body-carries used _ m is found)) [
            | inl d ↦ inl (Derives.name_matched same.known
                (subst (λ (body : Form). Derives escaped_figure file body p (Matched end trees)) (sym same.body_is) d)
                (t ∙ ap (λ rule. Tree rule p end trees NoTrees) (sym same.rule_is)))
            | inr s ↦ inr s
          ]
      carried (Derives.name_failed {used = used} {meaning = m} {position = p} found d) (Carries.name is) =
          let same = meaning_of-printed used m (no_char is) found in
          elim (carried d (body-carries used _ m is found)) [
            | inl d ↦ inl (Derives.name_failed same.known
                (subst (λ (body : Form). Derives escaped_figure file body p Failed) (sym same.body_is) d))
            | inr s ↦ inr s
          ]
      carried (Derives.sequence ds) (Carries.sequence c) =
          elim (items_carried ds c) [
            | inl d ↦ inl (Derives.sequence d)
            | inr s ↦ inr s
          ]
      carried (Derives.choice ds) (Carries.choice c) =
          elim (first_carried ds c) [
            | inl d ↦ inl (Derives.choice d)
            | inr s ↦ inr s
          ]
      carried (Derives.star_none {position = p} d) (Carries.star c fails ends) =
          elim (carried d c) [
            | inl d ↦ inl (Derives.star_none d)
            | inr s ↦ inr (fails p s)
          ]
      carried (Derives.star_more {middle = middle} {end = end} {more = more} d ds t) (Carries.star c fails ends) =
          elim (carried d c) [
            | inl d ↦ elim (carried ds (Carries.star c fails ends)) [
              | inl rest ↦ inl (Derives.star_more d rest t)
              | inr s ↦ inr s
            ]
            | inr s ↦ inr (ends middle end more s ds)
          ]
      carried (Derives.plus_failed {position = p} d) (Carries.plus c fails ends) =
          elim (carried d c) [
            | inl d ↦ inl (Derives.plus_failed d)
            | inr s ↦ absurd (fails p s)
          ]
      carried (Derives.plus_matched {middle = middle} {end = end} {more = more} d ds t) (Carries.plus c fails ends) =
          elim (carried d c) [
            | inl d ↦ elim (carried ds (Carries.star c (λ p s. absurd (fails p s)) ends)) [
              | inl rest ↦ inl (Derives.plus_matched d rest t)
              | inr s ↦ inr s
            ]
            | inr s ↦ inr (ends middle end more s ds)
          ]

      items_carried : {items : Forms} {p : ℕ} {x : Recognition} {k : Halt} → DerivesItems printed_figure file items p x
          → CarriesItems items k → DerivesItems escaped_figure file items p x ⊎ Halts k p x
      items_carried {p = p} {x} ds (CarriesItems.items_shown f) = f p x ds
      items_carried (DerivesItems.items_failed {position = p} d) (CarriesItems.item c cs fail stop go) =
          elim (carried d c) [
            | inl d ↦ inl (DerivesItems.items_failed d)
            | inr s ↦ inr (fail p s)
          ]
      items_carried {k = k} (DerivesItems.items_then {position = p} {middle = middle} {trees = trees} {more = more} old ds is)
          (CarriesItems.item c cs fail stop go) =
          elim (carried old c) [
            | inl d ↦ elim (items_carried ds cs) [
              | inl rest ↦ inl (DerivesItems.items_then d rest is)
              | inr s ↦ inr (subst (Halts k p) (sym is) (go p middle trees more old s))
            ]
            | inr s ↦ inr (subst (Halts k p) (sym is) (stop p middle trees more s ds))
          ]

      first_carried : {first : Form} {rest : Forms} {p : ℕ} {x : Recognition} {k : Halt}
          → DerivesFirst printed_figure file first rest p x → CarriesFirst first rest k
          → DerivesFirst escaped_figure file first rest p x ⊎ Halts k p x
      first_carried (DerivesFirst.alternative_last d) (CarriesFirst.only c) =
          elim (carried d c) [
            | inl d ↦ inl (DerivesFirst.alternative_last d)
            | inr s ↦ inr s
          ]
      first_carried (DerivesFirst.alternative_matched {end = end} d) (CarriesFirst.other c cs ends failed later) =
          elim (carried d c) [
            | inl d ↦ inl (DerivesFirst.alternative_matched d)
            | inr s ↦ inr (ends end s)
          ]
      first_carried (DerivesFirst.alternative_failed {position = p} {result = x} d ds) (CarriesFirst.other c cs ends failed later) =
          elim (carried d c) [
            | inl d ↦ elim (first_carried ds cs) [
              | inl rest ↦ inl (DerivesFirst.alternative_failed d rest)
              | inr s ↦ inr (later p x s)
            ]
            | inr s ↦ inr (failed p x s ds)
          ]
