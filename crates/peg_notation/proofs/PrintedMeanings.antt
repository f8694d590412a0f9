-- The meaning of names in the printed figure. All names but Char mean the same as in the escaped metagrammar, and all
-- forms without Char have the same results.
use Rattle.std.proofs.Common.{◌≡◌, ℕ, zero, suc, Bool, true, false, ◌&&◌, List, codes}
use Rattle.std.proofs.Common.{Some, bytes_eq, sym, ap, ◌∙◌, subst}
use Rattle.std.proofs.lemmas.Bool.{and_parts}
use Rattle.peg_tree.specs.Trees.{NoTrees, Tree}
use Rattle.peg_semantics.specs.Form.{Form, Forms}
use Rattle.peg_semantics.specs.Record.{Recognition, Failed, Matched}
use Rattle.peg_semantics.specs.Rules.{Meaning, meaning_of}
use Rattle.peg_semantics.proofs.Derivations.{Derives, DerivesItems, DerivesFirst}
use Rattle.peg_metagrammar.specs.EscapedFigure.{escaped_figure}
use Rattle.peg_notation.specs.PrintedFigure.{printed_char, printed_figure}
use Rattle.peg_notation.proofs.Meanings.{Meant, meaning_of-changed, without, all_without, turned, not_false, meant_without, leads_elsewhere}

pub meaning_of-printed : (used : List ℕ) (m : Meaning) → bytes_eq used (codes "Char") ≡ false
    → meaning_of printed_figure used ≡ Some m → Meant 0 0 escaped_figure used m
meaning_of-printed used m other is = meaning_of-changed (codes "Char") printed_char escaped_figure 0 0 0 used m other is

-- whether a name leads to no Char, in this number of steps from name to name
abbrev pub leads_past : ℕ → List ℕ → Bool
leads_past n used = leads_elsewhere printed_figure (codes "Char") n used

named : (used : List ℕ) (m : Meaning) (n : ℕ) → meaning_of printed_figure used ≡ Some m
    → leads_past (suc n) used ≡ true → (without (leads_past n) m.body ≡ true) × Meant 0 0 escaped_figure used m
named used m n found leads =
    let parts = and_parts (turned (bytes_eq used (codes "Char")))
    (meant_without (leads_past n) (meaning_of printed_figure used)) leads in (
      ap (meant_without (leads_past n)) (sym found) ∙ parts.1,
      meaning_of-printed used m (not_false (bytes_eq used (codes "Char")) parts.0) found,
    )

module _ {file : List ℕ} where
  mutual
    -- their results under the printed figure are their results under the escaped metagrammar
    pub alike : (n : ℕ) {e : Form} {p : ℕ} {x : Recognition} → Derives printed_figure file e p x
        → without (leads_past n) e ≡ true → Derives escaped_figure file e p x
    alike n (Derives.literal_matched a b) is = Derives.literal_matched a b
    alike n (Derives.literal_failed a) is = Derives.literal_failed a
    alike n (Derives.class_matched a b) is = Derives.class_matched a b
    alike n (Derives.class_failed a) is = Derives.class_failed a
    alike n (Derives.any_matched a b) is = Derives.any_matched a b
    alike n (Derives.any_failed a) is = Derives.any_failed a
    alike zero (Derives.name_matched found d t) is = cc
    alike (suc n) (Derives.name_matched {used = used} {meaning = m} {position = p} {end = end} {trees = trees} found d t) is =
        let it = named used m n found is in
        Derives.name_matched it.1.known
        (subst (λ (body : Form). Derives escaped_figure file body p (Matched end trees)) (sym it.1.body_is) (alike n d it.0))
        (t ∙ ap (λ rule. Tree rule p end trees NoTrees) (sym it.1.rule_is))
    alike zero (Derives.name_failed found d) is = cc
    alike (suc n) (Derives.name_failed {used = used} {meaning = m} {position = p} found d) is =
        let it = named used m n found is in
        Derives.name_failed it.1.known
        (subst (λ (body : Form). Derives escaped_figure file body p Failed) (sym it.1.body_is) (alike n d it.0))
    alike n (Derives.sequence ds) is = Derives.sequence (items_alike n ds is)
    alike n (Derives.choice ds) is = Derives.choice (first_alike n ds is)
    alike n (Derives.optional_some d) is = Derives.optional_some (alike n d is)
    alike n (Derives.optional_none d) is = Derives.optional_none (alike n d is)
    alike n (Derives.star_none d) is = Derives.star_none (alike n d is)
    alike n (Derives.star_more d ds t) is = Derives.star_more (alike n d is) (alike n ds is) t
    alike n (Derives.plus_failed d) is = Derives.plus_failed (alike n d is)
    alike n (Derives.plus_matched d ds t) is = Derives.plus_matched (alike n d is) (alike n ds is) t
    alike n (Derives.counted ds) is = cc
    alike n (Derives.and_matched d) is = Derives.and_matched (alike n d is)
    alike n (Derives.and_failed d) is = Derives.and_failed (alike n d is)
    alike n (Derives.not_matched d) is = Derives.not_matched (alike n d is)
    alike n (Derives.not_failed d) is = Derives.not_failed (alike n d is)

    pub items_alike : (n : ℕ) {items : Forms} {p : ℕ} {x : Recognition} → DerivesItems printed_figure file items p x
        → all_without (leads_past n) items ≡ true → DerivesItems escaped_figure file items p x
    items_alike n DerivesItems.items_none is = DerivesItems.items_none
    items_alike n (DerivesItems.items_failed {item = item} {rest = rest} d) is =
        DerivesItems.items_failed (alike n d (and_parts (without (leads_past n) item)
        (all_without (leads_past n) rest) is).0)
    items_alike n (DerivesItems.items_then {item = item} {rest = rest} d ds t) is =
        let parts = and_parts (without (leads_past n) item) (all_without (leads_past n) rest) is in
        DerivesItems.items_then (alike n d parts.0) (items_alike n ds parts.1) t

    first_alike : (n : ℕ) {first : Form} {rest : Forms} {p : ℕ} {x : Recognition}
        → DerivesFirst printed_figure file first rest p x
        → (without (leads_past n) first && all_without (leads_past n) rest) ≡ true
        → DerivesFirst escaped_figure file first rest p x
    first_alike n (DerivesFirst.alternative_last {only = only} d) is =
        DerivesFirst.alternative_last (alike n d (and_parts (without (leads_past n) only) true is).0)
    first_alike n (DerivesFirst.alternative_matched {first = first} {next = next} {rest = rest} d) is =
        DerivesFirst.alternative_matched (alike n d (and_parts (without (leads_past n) first)
        (without (leads_past n) next && all_without (leads_past n) rest) is).0)
    first_alike n (DerivesFirst.alternative_failed {first = first} {next = next} {rest = rest} d ds) is =
        let parts = and_parts (without (leads_past n) first)
        (without (leads_past n) next && all_without (leads_past n) rest) is in
        DerivesFirst.alternative_failed (alike n d parts.0) (first_alike n ds parts.1)
