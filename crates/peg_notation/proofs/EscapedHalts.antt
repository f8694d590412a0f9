-- Compares the escaped metagrammar, the one before counts, with the metagrammar. At each position, the result of a form
-- under the first is also its result under the second, or the first has stopped at a brace. No token of the escaped
-- metagrammar starts with a brace.
use Rattle.std.proofs.Common.{◌≡◌, ◌⊎◌, inl, inr, ℕ, List, drop, codes}
use Rattle.std.proofs.Common.{Option, Some, sym, ap, ◌∙◌, subst}
use Rattle.peg_bytes.specs.Extent.{Extent}
use Rattle.peg_tree.specs.Trees.{Trees, NoTrees, Tree}
use Rattle.peg_semantics.specs.Form.{Form, Forms, Name, Seq, Choice, Star, Plus, End, Then}
use Rattle.peg_semantics.specs.Record.{Recognition, Failed, Matched, prepend_trees}
use Rattle.peg_semantics.specs.Rules.{Meaning, meaning_of}
use Rattle.peg_semantics.proofs.Derivations.{Derives, DerivesItems, DerivesFirst}
use Rattle.peg_metagrammar.specs.EscapedFigure.{escaped_figure, number_now, numbered_now}
use Rattle.peg_metagrammar.specs.Figure.{figure}
use Rattle.peg_notation.proofs.EscapedMeanings.{now, prepend_trees-now, trees-now}
use Rattle.peg_notation.proofs.Fronts.{front}

-- how the escaped metagrammar may stop before a brace
pub data Halt : Type 0 where
  -- not at all
  never : Halt
  -- a form that begins with a parenthesis fails
  parenthesis : Halt
  -- operators after an expression end before a brace
  signs : Halt
  -- a Suffix or a Prefix fails, or ends before a brace
  token : Halt
  -- expressions end before a brace, or before a Prefix that fails
  words : Halt
  -- everything fails
  whole : Halt

-- a byte that may begin a Prefix which fails before a brace
pub data IsOpener : Option ℕ → Type 0 where
  parenthesis : IsOpener (Some 40)
  ampersand : IsOpener (Some 38)
  exclamation : IsOpener (Some 33)

-- a byte before which expressions may then end
pub data IsStop : Option ℕ → Type 0 where
  parenthesis : IsStop (Some 40)
  ampersand : IsStop (Some 38)
  exclamation : IsStop (Some 33)
  brace : IsStop (Some 123)

module _ (file : List ℕ) where
  -- the byte at a position
  abbrev pub at : ℕ → Option ℕ
  at p = front (drop p file)

  abbrev pub FailsAt : Halt → ℕ → Type 0
  FailsAt Halt.never p = ⊥
  FailsAt Halt.parenthesis p = at p ≡ Some 40
  FailsAt Halt.signs p = ⊥
  FailsAt Halt.token p = IsOpener (at p)
  FailsAt Halt.words p = ⊥
  FailsAt Halt.whole p = Unit {0}

  abbrev pub EndsAt : Halt → ℕ → Type 0
  EndsAt Halt.never p = ⊥
  EndsAt Halt.parenthesis p = ⊥
  EndsAt Halt.signs p = at p ≡ Some 123
  EndsAt Halt.token p = at p ≡ Some 123
  EndsAt Halt.words p = IsStop (at p)
  EndsAt Halt.whole p = ⊥

  abbrev pub Halts : Halt → ℕ → Recognition → Type 0
  Halts k p Failed = FailsAt k p
  Halts k p (Matched end trees) = EndsAt k end

  -- the rules above the tokens, and how they stop
  pub data IsHalting : List ℕ → Halt → Type 0 where
    is_grammar : IsHalting (codes "Grammar") Halt.whole
    is_definition : IsHalting (codes "Definition") Halt.words
    is_expression : IsHalting (codes "Expression") Halt.words
    is_sequence : IsHalting (codes "Sequence") Halt.words
    is_prefix : IsHalting (codes "Prefix") Halt.token
    is_suffix : IsHalting (codes "Suffix") Halt.token
    is_primary : IsHalting (codes "Primary") Halt.parenthesis

  -- ---- forms

  -- how a form of the escaped metagrammar stops beside one of the metagrammar, from its parts
  mutual
    pub data Carries : Form → Form → Halt → Type 0 where
      shown : {e f : Form} {k : Halt} → ((p : ℕ) (x : Recognition) → Derives escaped_figure file e p x
          → Derives figure file f p (now x) ⊎ Halts k p x) → Carries e f k
      name : {used : List ℕ} {span : Extent} {k : Halt} → IsHalting used k → Carries (Name used span) (Name used span) k
      sequence : {items others : Forms} {span other : Extent} {k : Halt} → CarriesItems items others k
          → Carries (Seq items span) (Seq others other) k
      choice : {first : Form} {rest : Forms} {span : Extent} {k : Halt} → CarriesFirst first rest k
          → Carries (Choice first rest span) (Choice first rest span) k
      star : {part : Form} {span : Extent} {k m : Halt} → Carries part part k
          → ((p : ℕ) → FailsAt k p → EndsAt m p)
          → ((middle end : ℕ) (trees : Trees) → EndsAt k middle
          → Derives escaped_figure file (Star part span) middle (Matched end trees) → EndsAt m end)
          → Carries (Star part span) (Star part span) m
      plus : {part : Form} {span : Extent} {k m : Halt} → Carries part part k → ((p : ℕ) → FailsAt k p → ⊥)
          → ((middle end : ℕ) (trees : Trees) → EndsAt k middle
          → Derives escaped_figure file (Star part span) middle (Matched end trees) → EndsAt m end)
          → Carries (Plus part span) (Plus part span) m

    pub data CarriesItems : Forms → Forms → Halt → Type 0 where
      items_shown : {items others : Forms} {k : Halt} → ((p : ℕ) (x : Recognition)
          → DerivesItems escaped_figure file items p x → DerivesItems figure file others p (now x) ⊎ Halts k p x)
          → CarriesItems items others k
      item : {first other : Form} {rest others : Forms} {k l m : Halt} → Carries first other k → CarriesItems rest others l
          → ((p : ℕ) → FailsAt k p → FailsAt m p)
          → ((p middle : ℕ) (trees : Trees) (x : Recognition) → EndsAt k middle
          → DerivesItems escaped_figure file rest middle x → Halts m p (prepend_trees trees x))
          → ((p middle : ℕ) (trees : Trees) (x : Recognition)
          → Derives escaped_figure file first p (Matched middle trees) → Halts l middle x
          → Halts m p (prepend_trees trees x))
          → CarriesItems (Then first rest) (Then other others) m

    pub data CarriesFirst : Form → Forms → Halt → Type 0 where
      only : {last : Form} {k : Halt} → Carries last last k → CarriesFirst last End k
      other : {first next : Form} {rest : Forms} {k l m : Halt} → Carries first first k → CarriesFirst next rest l
          → ((p : ℕ) → EndsAt k p → EndsAt m p)
          → ((p : ℕ) (x : Recognition) → FailsAt k p → DerivesFirst escaped_figure file next rest p x → Halts m p x)
          → ((p : ℕ) (x : Recognition) → Halts l p x → Halts m p x)
          → CarriesFirst first (Then next rest) m

  -- the meaning of a rule in the metagrammar, if its body in the escaped metagrammar stops in this way
  pub record Carried (used : List ℕ) (m : Meaning) (k : Halt) : Type 0 where
    pub meaning : Meaning
    pub known : meaning_of figure used ≡ Some meaning
    pub rule_is : meaning.rule ≡ number_now m.rule
    pub carries : Carries m.body meaning.body k

  -- the result of a form under the escaped metagrammar is also its result under the metagrammar, or the first stops
  module _ (body-carries : (used : List ℕ) (k : Halt) (m : Meaning) → IsHalting used k
      → meaning_of escaped_figure used ≡ Some m → Carried used m k) where
    mutual
      pub carried : {e f : Form} {p : ℕ} {x : Recognition} {k : Halt} → Derives escaped_figure file e p x → Carries e f k
          → Derives figure file f p (now x) ⊎ Halts k p x
      carried {p = p} {x} d (Carries.shown f) = f p x d
      carried (Derives.name_matched {used = used} {meaning = m} {position = p} {end = end} {trees = trees} found d t)
          (Carries.name is) =
          let same = body-carries used _ m is found in
          elim (carried d same.carries) [
            | inl d ↦ inl (Derives.name_matched same.known d
                (ap numbered_now t ∙ ap (λ rule. Tree rule p end (numbered_now trees) NoTrees) (sym same.rule_is)))
            | inr s ↦ inr s
          ]
      carried (Derives.name_failed {used = used} {meaning = m} {position = p} found d) (Carries.name is) =
          let same = body-carries used _ m is found in
          elim (carried d same.carries) [
            | inl d ↦ inl (Derives.name_failed same.known d)
            | inr s ↦ inr s
          ]
      carried (Derives.sequence ds) (Carries.sequence c) =
          elim (items_carried ds c) [
            | inl d ↦ inl (Derives.sequence d)
            | inr s ↦ inr s
          ]
      carried (Derives.choice ds) (Carries.choice c) =
          elim (first_carried ds c) [
            | inl d ↦ inl (Derives.choice d)
            | inr s ↦ inr s
          ]
      carried (Derives.star_none {position = p} d) (Carries.star c fails ends) =
          elim (carried d c) [
            | inl d ↦ inl (Derives.star_none d)
            | inr s ↦ inr (fails p s)
          ]
      carried (Derives.star_more {middle = middle} {end = end} {first = one} {more = more} {trees = trees} d ds t)
          (Carries.star c fails ends) =
          elim (carried d c) [
            | inl d ↦ elim (carried ds (Carries.star c fails ends)) [
              | inl rest ↦ inl (Derives.star_more d rest (trees-now one more trees t))
              | inr s ↦ inr s
            ]
            | inr s ↦ inr (ends middle end more s ds)
          ]
      carried (Derives.plus_failed {position = p} d) (Carries.plus c fails ends) =
          elim (carried d c) [
            | inl d ↦ inl (Derives.plus_failed d)
            | inr s ↦ absurd (fails p s)
          ]
      carried (Derives.plus_matched {middle = middle} {end = end} {first = one} {more = more} {trees = trees} d ds t)
          (Carries.plus c fails ends) =
          elim (carried d c) [
            | inl d ↦ elim (carried ds (Carries.star c (λ p s. absurd (fails p s)) ends)) [
              | inl rest ↦ inl (Derives.plus_matched d rest (trees-now one more trees t))
              | inr s ↦ inr s
            ]
            | inr s ↦ inr (ends middle end more s ds)
          ]

      items_carried : {items others : Forms} {p : ℕ} {x : Recognition} {k : Halt}
          → DerivesItems escaped_figure file items p x → CarriesItems items others k
          → DerivesItems figure file others p (now x) ⊎ Halts k p x
      items_carried {p = p} {x} ds (CarriesItems.items_shown f) = f p x ds
      items_carried (DerivesItems.items_failed {position = p} d) (CarriesItems.item c cs fail stop go) =
          elim (carried d c) [
            | inl d ↦ inl (DerivesItems.items_failed d)
            | inr s ↦ inr (fail p s)
          ]
      items_carried {k = k} (DerivesItems.items_then {position = p} {middle = middle} {trees = trees} {more = more} old ds is)
          (CarriesItems.item c cs fail stop go) =
          elim (carried old c) [
            | inl d ↦ elim (items_carried ds cs) [
              | inl rest ↦ inl (DerivesItems.items_then d rest (ap now is ∙ prepend_trees-now trees more))
              | inr s ↦ inr (subst (Halts k p) (sym is) (go p middle trees more old s))
            ]
            | inr s ↦ inr (subst (Halts k p) (sym is) (stop p middle trees more s ds))
          ]

      first_carried : {first : Form} {rest : Forms} {p : ℕ} {x : Recognition} {k : Halt}
          → DerivesFirst escaped_figure file first rest p x → CarriesFirst first rest k
          → DerivesFirst figure file first rest p (now x) ⊎ Halts k p x
      first_carried (DerivesFirst.alternative_last d) (CarriesFirst.only c) =
          elim (carried d c) [
            | inl d ↦ inl (DerivesFirst.alternative_last d)
            | inr s ↦ inr s
          ]
      first_carried (DerivesFirst.alternative_matched {end = end} d) (CarriesFirst.other c cs ends failed later) =
          elim (carried d c) [
            | inl d ↦ inl (DerivesFirst.alternative_matched d)
            | inr s ↦ inr (ends end s)
          ]
      first_carried (DerivesFirst.alternative_failed {position = p} {result = x} d ds) (CarriesFirst.other c cs ends failed later) =
          elim (carried d c) [
            | inl d ↦ elim (first_carried ds cs) [
              | inl rest ↦ inl (DerivesFirst.alternative_failed d rest)
              | inr s ↦ inr (later p x s)
            ]
            | inr s ↦ inr (failed p x s ds)
          ]
