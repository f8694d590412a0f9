-- What the edges of two expressions say of one where the other ends, or where the other fails.
use Rattle.std.proofs.Common.{◌≡◌, ℕ, zero, suc, ◌+◌, ◌<◌, inl, inr, Bool, true, false, ◌||◌, List, [], ◌∷◌, drop}
use Rattle.std.proofs.Common.{Some, refl, sym, ap, ◌∙◌, subst}
use Rattle.peg_bytes.specs.Extent.{Extent}
use Rattle.peg_tree.specs.Trees.{Trees}
use Rattle.peg_semantics.specs.Form.{Form, Forms, Seq, End, Then, terminals}
use Rattle.peg_semantics.specs.Record.{Recognition, Failed, Matched, Record, prepend_trees, recognize_seq, record_in}
use Rattle.peg_semantics.specs.Rules.{Rule}
use Rattle.peg_semantics.proofs.ResultSteps.{begins_with, then_cases}
use Rattle.peg_lint.specs.Edges.{Edges, edges_in}
use Rattle.peg_lint.specs.Known.{BeginsWithin, IsTaken}
use Rattle.peg_lint.specs.Never.{FailsAfter, FailsWhere, MatchesNoByteAfter, NeverMatches}
use Rattle.peg_lint.specs.Warnings.{FollowsIn}
use Rattle.peg_lint.proofs.EdgeLemmas.{Fits, Matches, none_or_some}
use Rattle.peg_lint.proofs.EdgeRecords.{Onward, edges-hold}

-- no result is both a failure and a match
not_both : (x : Recognition) (end : ℕ) (trees : Trees) → x ≡ Failed → x ≡ Matched end trees → ⊥
not_both x end trees failed matched = let bad : Failed ≡ Matched end trees = sym failed ∙ matched in cc

-- a result that is no match is a failure
failed-unless : (x : Recognition) → ((end : ℕ) (trees : Trees) → x ≡ Matched end trees → ⊥) → x ≡ Failed
failed-unless Failed none = refl
failed-unless (Matched end trees) none = absurd (none end trees refl)

-- a first byte that is in one set is in the other
front-within : (f g : ℕ → Bool) (l : List ℕ) → ((byte : ℕ) → f byte ≡ true → g byte ≡ true) → begins_with f l ≡ true
    → begins_with g l ≡ true
front-within f g [] within is = cc
front-within f g (c ∷ rest) within is = within c is

-- a match of a byte or more begins with a byte of the set, so it isn't where no such byte is next
consumes-none : (edges : Edges) (set : ℕ → Bool) (text : List ℕ) (position end : ℕ) → BeginsWithin edges set
    → begins_with set (drop position text) ≡ false → Matches edges text position end → position < end → ⊥
consumes-none edges set text position end within none here less =
    let begun : begins_with edges.begins (drop position text) ≡ true =
    sym (ap (λ x. x || begins_with edges.begins (drop position text)) within.some) ∙ here.begins less in
    let next = front-within edges.begins set (drop position text) within.all begun in
    let bad : false ≡ true = sym none ∙ next in
    cc

module _ (rules : List Rule) (onward : Onward rules) (n : ℕ) (earlier next : Form) where
  -- where the earlier expression ends, the next one matches no byte
  pub takes-none : BeginsWithin (edges_in rules n next) (edges_in rules n earlier).stops
      → MatchesNoByteAfter rules earlier next
  takes-none within text terminal number position end stop trees more r s first matched second tested =
      let before = subst (Fits (edges_in rules n earlier) text position) matched
      (edges-hold rules onward n earlier text terminal position r first) in
      let here = subst (Fits (edges_in rules n next) text end) tested (edges-hold rules onward n next text number end s second) in
      elim (none_or_some end stop here.onward) [
        | inl none ↦ none
        | inr some ↦
            absurd (consumes-none (edges_in rules n next) (edges_in rules n earlier).stops text end stop within before.stops here some)
      ]

  -- it fails, if it doesn't match the empty string
  pub fails-after : BeginsWithin (edges_in rules n next) (edges_in rules n earlier).stops
      → (edges_in rules n next).nothing ≡ false → FailsAfter rules earlier next
  fails-after within never text terminal number position end trees r s first matched second =
      failed-unless s.result
      (λ stop more tested.
      let same = takes-none within text terminal number position end stop trees more r s first matched second tested in
      let here = subst (Fits (edges_in rules n next) text end) tested (edges-hold rules onward n next text number end s second) in
      let bad : false ≡ true = sym never ∙ here.nothing same in
      cc)

  -- where the earlier expression fails, the next one fails
  pub fails-where : IsTaken (edges_in rules n earlier) (edges_in rules n next) → FailsWhere rules earlier next
  fails-where taken text terminal number position r s first second failed =
      let before = subst (Fits (edges_in rules n earlier) text position) failed
      (edges-hold rules onward n earlier text terminal position r first) in
      failed-unless s.result
      (λ stop more tested.
      let here = subst (Fits (edges_in rules n next) text position) tested (edges-hold rules onward n next text number position s second) in
      elim (none_or_some position stop here.onward) [
        | inl none ↦ (let bad : false ≡ true = sym taken.consumes ∙ here.nothing none in cc)
        | inr some ↦
            consumes-none (edges_in rules n next) (edges_in rules n earlier).takes text position stop taken.within before.1 here some
      ])

-- ---- a sequence never matches if an item fails wherever the item before it ends

module _ (rules : List Rule) (text : List ℕ) (n : ℕ) (earlier next : Form) (fails : FailsAfter rules earlier next) where
  next-fails : (others : Forms) (terminal position : ℕ) (r : Record)
      → recognize_seq (record_in rules text n) (Then earlier (Then next others)) terminal position ≡ Some r
      → r.result ≡ Failed
  next-fails others terminal position r at =
      then_cases (λ x. x ≡ Failed) (record_in rules text n earlier terminal position)
      (λ end. recognize_seq (record_in rules text n) (Then next others) (terminal + terminals earlier) end) r
      (λ one tried failed. refl)
      (λ one more end trees tried matched found.
      ap (prepend_trees trees)
      (then_cases (λ x. x ≡ Failed) (record_in rules text n next (terminal + terminals earlier) end)
      (λ at. recognize_seq (record_in rules text n) others (terminal + terminals earlier + terminals next) at) more
      (λ two tested failed. refl)
      (λ two later stop left tested hit then_found. absurd
      (not_both two.result stop left
      (fails text terminal (terminal + terminals earlier) position end trees one two (n, tried) matched (n, tested)) hit))
      found)) at

  stuck-seq : (items : Forms) (terminal position : ℕ) (r : Record) → FollowsIn items earlier next
      → recognize_seq (record_in rules text n) items terminal position ≡ Some r → r.result ≡ Failed
  stuck-seq End terminal position r follows at = absurd follows
  stuck-seq (Then first End) terminal position r (inl here) at = absurd here.1
  stuck-seq (Then first (Then other others)) terminal position r (inl here) at =
      next-fails others terminal position r
      (subst (λ (f : Form). recognize_seq (record_in rules text n) (Then f (Then next others)) terminal position ≡ Some r) here.0
      (subst (λ (f : Form). recognize_seq (record_in rules text n) (Then first (Then f others)) terminal position ≡ Some r) here.1 at))
  stuck-seq (Then first rest) terminal position r (inr later) at =
      then_cases (λ x. x ≡ Failed) (record_in rules text n first terminal position)
      (λ end. recognize_seq (record_in rules text n) rest (terminal + terminals first) end) r
      (λ one tried failed. refl)
      (λ one more end trees tried matched found. ap (prepend_trees trees)
      (stuck-seq rest (terminal + terminals first) end more later found)) at

-- the sequence never matches
pub never-follows : (rules : List Rule) (items : Forms) (span : Extent) (earlier next : Form)
    → FollowsIn items earlier next → FailsAfter rules earlier next → NeverMatches rules (Seq items span)
unfolding record_in
never-follows rules items span earlier next follows fails text terminal position r (zero, at) = cc
never-follows rules items span earlier next follows fails text terminal position r (suc n, at) =
    stuck-seq rules text n earlier next fails items terminal position r follows at

-- ---- the same of what the code knows

module _ (rules : List Rule) (onward : Onward rules) (n : ℕ) (earlier next : Form) (a b : Edges) (is_a : a ≡ edges_in rules n earlier)
    (is_b : b ≡ edges_in rules n next) where
  at-both : (Are : Edges → Edges → Type 0) → Are a b → Are (edges_in rules n earlier) (edges_in rules n next)
  at-both Are are = subst (λ (e : Edges). Are (edges_in rules n earlier) e) is_b (subst (λ (e : Edges). Are e b) is_a are)

  pub takes-none-by : BeginsWithin b a.stops → MatchesNoByteAfter rules earlier next
  takes-none-by within =
      takes-none rules onward n earlier next (at-both (λ (x y : Edges). BeginsWithin y x.stops) within)

  pub fails-after-by : BeginsWithin b a.stops → b.nothing ≡ false → FailsAfter rules earlier next
  fails-after-by within never =
      fails-after rules onward n earlier next (at-both (λ (x y : Edges). BeginsWithin y x.stops) within)
      (ap (λ (e : Edges). e.nothing) (sym is_b) ∙ never)

  pub fails-where-by : IsTaken a b → FailsWhere rules earlier next
  fails-where-by taken = fails-where rules onward n earlier next (at-both (λ (x y : Edges). IsTaken x y) taken)
