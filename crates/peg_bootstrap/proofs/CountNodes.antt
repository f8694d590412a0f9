-- What the nodes of counts denote, from the bytes at their positions.
use Rattle.std.proofs.Common.{◌≡◌, ℕ, Bool, true, false, if◌then◌else◌, not, List, [], ◌∷◌, drop, Option, None, Some, refl, sym, ap, ◌∙◌}
use Rattle.peg_tree.specs.Trees.{Trees, NoTrees, Tree}
use Rattle.peg_metagrammar.specs.Denotation.{Bounds, bounds_in_range, bad_counts}
use Rattle.peg_lexer.specs.LexicalCode.{spells_of, count_spelled, count_in_range}
use Rattle.peg_lexer.specs.Matchers.{PrefixMatch}
use Rattle.peg_metagrammar.specs.Denotation.{numerals_in, bounds_spelled}
use Rattle.peg_lexer.specs.declared.token.TokenKind.TheVariants as kind
use Rattle.peg_lexer.proofs.PieceLemmas.{from, from-drop}
use Rattle.peg_bootstrap.proofs.TokenNodes.{Token}

some≢none : {X : Type 0} (x : X) → Some x ≡ None → ⊥
some≢none x e = cc

module _ (file : List ℕ) (rule start end : ℕ) (children : Trees) (t : Token file kind.Count rule start end children) where
  -- whether the node's count is in range
  range_is : bounds_in_range (count_spelled (from start file)) ≡ bounds_in_range (bounds_spelled (numerals_in t.piece.spells))
  range_is =
      ap (λ r. bounds_in_range (count_spelled r)) (from-drop start file)
      ∙ ap (λ (found : Option PrefixMatch). bounds_in_range (bounds_spelled (numerals_in (spells_of found)))) t.found

  counts_are : (b : Bool) → bounds_in_range (count_spelled (from start file)) ≡ b
      → bad_counts file (Tree rule start end children NoTrees) ≡ (if not b then start ∷ [] else [])
  counts_are b is = t.counts ∙ ap (λ b. if not b then start ∷ [] else []) (sym range_is ∙ is)

  pub count-out : None ≡ count_in_range (from start file) → bad_counts file (Tree rule start end children NoTrees) ≡ start ∷ []
  count-out none = by (bounds_in_range (count_spelled (from start file))) refl none
    where
      by : (b : Bool) → bounds_in_range (count_spelled (from start file)) ≡ b
          → None ≡ (if b then Some (count_spelled (from start file)) else None)
          → bad_counts file (Tree rule start end children NoTrees) ≡ start ∷ []
      by true is none = cc
      by false is none = counts_are false is

  -- a count in range
  record InRange (bounds : Bounds) : Type 0 where
    pub fine : bad_counts file (Tree rule start end children NoTrees) ≡ []
    pub form : bounds ≡ count_spelled (drop start file)

  in-range : (bounds : Bounds) → Some bounds ≡ count_in_range (from start file) → InRange bounds
  in-range bounds some = by (bounds_in_range (count_spelled (from start file))) refl some
    where
      by : (b : Bool) → bounds_in_range (count_spelled (from start file)) ≡ b
          → Some bounds ≡ (if b then Some (count_spelled (from start file)) else None) → InRange bounds
      by true is some =
          let same : bounds ≡ count_spelled (from start file) = cc in
          record { fine = counts_are true is; form = same ∙ ap count_spelled (from-drop start file) }
      by false is some = cc

  pub count-fine : (bounds : Bounds) → Some bounds ≡ count_in_range (from start file)
      → bad_counts file (Tree rule start end children NoTrees) ≡ []
  count-fine bounds some = (in-range bounds some).fine

  pub count-form : (bounds : Bounds) → Some bounds ≡ count_in_range (from start file) → bounds ≡ count_spelled (drop start file)
  count-form bounds some = (in-range bounds some).form
