-- Cut counts keep the first empty loop in written order, and the spans of stars and pluses.
use Rattle.std.proofs.Common.{◌≡◌, ◌⊎◌, ℕ, List, [], ◌∷◌, ◌++◌, map, All, Option, None, Some, option_map, slice_get, refl, sym, ap, ap₂, ◌∙◌, subst}
use Rattle.std.proofs.lemmas.List.{map-append}
use Rattle.std.proofs.lemmas.List.Elements.{All-map, All-weaker}
use Rattle.peg_bytes.specs.Extent.{Extent}
use Rattle.peg_semantics.specs.AbstractOutcomes.{GivesNothing}
use Rattle.peg_semantics.specs.CutCounts.{cut_counts, cut_all_counts, cut_rule, cut_rules}
use Rattle.peg_semantics.specs.Form.{Form, Forms, Literal, Class, Any, Name, Seq, Choice, Optional, Star, Plus, Counted}
use Rattle.peg_semantics.specs.Form.{And, Not, End, Then}
use Rattle.peg_semantics.specs.Loops.{IsEmptyLoop}
use Rattle.peg_semantics.specs.Rules.{Rule}
use Rattle.peg_semantics.specs.WrittenLoops.{WrittenLoop, loops_written, loops_written_by_all, IsFirstIdle, IsFirstEmptyLoop}
use Rattle.peg_semantics.specs.WrittenLoops.{HasSpan, HaveOwnSpans, SpansNameLoops}
use Rattle.peg_semantics.proofs.CutOutcomes.{GivesNothing-cut}
use Rattle.peg_semantics.proofs.CutWellFormed.{numbered-cut, numbered-uncut, empty_loop-cut}

-- a loop whose part is cut
abbrev cut_loop : WrittenLoop → WrittenLoop
cut_loop loop = record { part = cut_counts loop.part; span = loop.span }

mutual
  loops_written-cut : (e : Form) → loops_written (cut_counts e) ≡ map cut_loop (loops_written e)
  loops_written-cut (Literal bytes span) = refl
  loops_written-cut (Class set span) = refl
  loops_written-cut (Any span) = refl
  loops_written-cut (Name name span) = refl
  loops_written-cut (Seq items span) = all_loops_written-cut items
  loops_written-cut (Choice first rest span) =
      ap₂ ◌++◌ (loops_written-cut first) (all_loops_written-cut rest)
      ∙ sym (map-append cut_loop (loops_written first) (loops_written_by_all rest))
  loops_written-cut (Optional part span) = loops_written-cut part
  loops_written-cut (Star part span) =
      ap (λ l. record { part = cut_counts part; span = span } ∷ l) (loops_written-cut part)
  loops_written-cut (Plus part span) =
      ap (λ l. record { part = cut_counts part; span = span } ∷ l) (loops_written-cut part)
  loops_written-cut (Counted part min max span) = loops_written-cut part
  loops_written-cut (And part span) = loops_written-cut part
  loops_written-cut (Not part span) = loops_written-cut part

  all_loops_written-cut : (items : Forms)
      → loops_written_by_all (cut_all_counts items) ≡ map cut_loop (loops_written_by_all items)
  all_loops_written-cut End = refl
  all_loops_written-cut (Then e rest) =
      ap₂ ◌++◌ (loops_written-cut e) (all_loops_written-cut rest)
      ∙ sym (map-append cut_loop (loops_written e) (loops_written_by_all rest))

-- ---- spans

HasSpan-cut : (loops : List WrittenLoop) (span : Extent) → HasSpan (map cut_loop loops) span ≡ HasSpan loops span
HasSpan-cut [] span = refl
HasSpan-cut (loop ∷ more) span = ap (λ (T : Type 0). (loop.span ≡ span) ⊎ T) (HasSpan-cut more span)

HaveOwnSpans-cut : (loops : List WrittenLoop) → HaveOwnSpans (map cut_loop loops) ≡ HaveOwnSpans loops
HaveOwnSpans-cut [] = refl
HaveOwnSpans-cut (loop ∷ more) = λ i. (¬ (HasSpan-cut more loop.span i)) × HaveOwnSpans-cut more i

abbrev NamesLoops : Rule → Type 0
NamesLoops rule = HaveOwnSpans (loops_written rule.body)

pub names_loops-cut : (rules : List Rule) → SpansNameLoops rules → SpansNameLoops (cut_rules rules)
names_loops-cut rules own =
    All-map NamesLoops cut_rule rules
    (All-weaker NamesLoops (λ (rule : Rule). NamesLoops (cut_rule rule))
    (λ rule is. subst HaveOwnSpans (sym (loops_written-cut rule.body))
    (subst (λ T. T) (sym (HaveOwnSpans-cut (loops_written rule.body))) is)) rules own)

-- ---- the first empty loop

IsFirstIdle-cut : (rules : List Rule) (loops : List WrittenLoop) (first : Option Extent)
    → IsFirstIdle (cut_rules rules) (map cut_loop loops) first ≡ IsFirstIdle rules loops first
IsFirstIdle-cut rules [] first = refl
IsFirstIdle-cut rules (loop ∷ more) first = λ i.
    ((GivesNothing-cut rules loop.part i) × (first ≡ Some loop.span))
    ⊎ ((¬ (GivesNothing-cut rules loop.part i)) × IsFirstIdle-cut rules more first i)

pub first_loop-uncut : (rules : List Rule) (number : ℕ) (span : Extent)
    → IsFirstEmptyLoop (cut_rules rules) number span → IsFirstEmptyLoop rules number span
first_loop-uncut rules number span is =
    let from = numbered-uncut rules number (slice_get rules number) is.rule refl
    (sym (numbered-cut rules number) ∙ is.numbered) in
    let loops : loops_written is.rule.body ≡ map cut_loop (loops_written from.0.body) =
    ap (λ (rule : Rule). loops_written rule.body) (sym from.2) ∙ loops_written-cut from.0.body in
    record {
      rule = from.0;
      numbered = from.1;
      first = subst (λ T. T) (IsFirstIdle-cut rules (loops_written from.0.body) (Some span))
          (subst (λ l. IsFirstIdle (cut_rules rules) l (Some span)) loops is.first);
      earlier = λ before other less loop. is.earlier before other less (empty_loop-cut rules before other loop);
    }
