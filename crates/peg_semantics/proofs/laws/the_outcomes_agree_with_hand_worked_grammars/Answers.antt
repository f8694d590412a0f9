use Rattle.std.proofs.Common.{◌≡◌, ℕ, zero, suc, true, false, List, [], ◌∷◌, codes, refl}
use Rattle.peg_bytes.specs.Extent.{Extent, between}
use Rattle.peg_semantics.specs.AbstractOutcomes.{can_in, GivesNothing}
use Rattle.peg_semantics.specs.Examples.{all_can_in, itself, itself_can, nested}
use Rattle.peg_semantics.specs.Form.{Form, Literal, Optional, Star, Plus}
use Rattle.peg_semantics.specs.WellFormed.{IsWellFormedIn}
use Rattle.peg_semantics.specs.Grammar.{IsGrammar}
use Rattle.peg_semantics.proofs.GrammarLemmas.{IsGrammar-from_searches}
use Rattle.peg_semantics.proofs.RankedTables.{Stated, IsWellFormedGrammar-shown}
use Rattle.peg_semantics.proofs.laws.the_outcomes_agree_with_hand_worked_grammars.Goals as goal

itself-none : (n : ℕ) → all_can_in itself n ≡ itself_can
unfolding can_in
itself-none zero = refl
itself-none (suc n) = itself-none n

-- a star or a plus whose part gives 0 is not well-formed
star-refused : (part : Form) (span : Extent) → GivesNothing [] part → (n : ℕ) → IsWellFormedIn [] n (Star part span) → ⊥
unfolding IsWellFormedIn
star-refused part span gives zero h = h
star-refused part span gives (suc n) h = h.1 gives

plus-refused : (part : Form) (span : Extent) → GivesNothing [] part → (n : ℕ) → IsWellFormedIn [] n (Plus part span) → ⊥
unfolding IsWellFormedIn
plus-refused part span gives zero h = h
plus-refused part span gives (suc n) h = h.1 gives

-- S <- 'a' S / 'b': 'a' does not give 0, so S does not left-call S
abbrev nested-stated : List Stated
nested-stated = record { can = record { nothing = false; something = true; fails = true }; rank = 0 } ∷ []

nested-grammar : IsGrammar nested
nested-grammar = IsGrammar-from_searches nested (λ none. cc) refl refl refl

pub returns : goal.returns
unfolding can_in
returns c = record {
  nested = refl;
  abc_grammar = refl;
  operators = refl;
  two_to_four = refl;
  itself = itself-none;
  star_of_star = λ is. star-refused (Star (Literal (codes "a") (between 6 9)) (between 6 10)) (between 5 12) (2, refl) is.0 is.1;
  plus_of_empty = λ is. plus-refused (Literal [] (between 6 8)) (between 5 10) (1, refl) is.0 is.1;
  star_of_optional = λ is. star-refused (Optional (Literal [] (between 7 9)) (between 6 11)) (between 5 13) (2, refl) is.0 is.1;
  well_formed = IsWellFormedGrammar-shown nested nested-stated refl nested-grammar;
}
