use Rattle.std.proofs.Common.{◌≡◌, inl, inr, ℕ, zero, suc, ◌<◌, true, List, [], ◌∷◌, Contains, codes, get_or, refl, sym}
use Rattle.std.proofs.Common.{ap, subst, arith}
use Rattle.std.proofs.lemmas.List.Elements.{Contains-append_left, Contains-append_right, Contains-push}
use Rattle.peg_bytes.specs.Extent.{Extent, between}
use Rattle.peg_semantics.specs.AbstractOutcomes.{can_in, GivesNothing}
use Rattle.peg_semantics.specs.Examples.{star_of_star, plus_of_empty, star_of_optional}
use Rattle.peg_semantics.specs.Form.{Form, Literal, Class, Name, Seq, Optional, Star, Plus, Counted, End, Then}
use Rattle.peg_semantics.specs.LoopExamples.{star_of_stuck_star, after_empty_class}
use Rattle.peg_semantics.specs.Loops.{CanCallFirst, LeftCalls, IsEmptyLoop}
use Rattle.peg_semantics.specs.Rules.{Rule}
use Rattle.peg_semantics.specs.WellFormed.{below, subexpressions}
use Rattle.peg_semantics.proofs.laws.the_loops_agree_with_hand_worked_grammars.Goals as goal

first_of : {X : Type 0} (x : X) (xs : List X) → Contains (x ∷ xs) x
first_of x xs = Contains-append_left (x ∷ []) xs x (Contains-push [] x)

-- ''* has no outcome
abbrev stuck_star : Form
stuck_star = Star (Literal [] (between 6 8)) (between 6 9)

literal-never_fails : (rules : List Rule) (span : Extent) (n : ℕ) → (can_in rules n (Literal [] span)).fails ≡ true → ⊥
unfolding can_in
literal-never_fails rules span zero e = cc
literal-never_fails rules span (suc n) e = cc

star-stuck : (rules : List Rule) (part span : Extent) (n : ℕ)
    → (can_in rules n (Star (Literal [] part) span)).nothing ≡ true → ⊥
unfolding can_in
star-stuck rules part span zero e = cc
star-stuck rules part span (suc n) e = literal-never_fails rules part n e

class-fails : (rules : List Rule) (span : Extent) (n : ℕ) → (can_in rules n (Class [] span)).nothing ≡ true → ⊥
unfolding can_in
class-fails rules span zero e = cc
class-fails rules span (suc n) e = cc

-- the expressions in (''*)*
abbrev written : List Form
written = Star stuck_star (between 5 11) ∷ stuck_star ∷ Literal [] (between 6 8) ∷ []

-- the outer star is not an empty loop
no_outer_star : (part : Form) (k : ℕ) → k < 3
    → get_or written k (Star part (between 5 11)) ≡ Star part (between 5 11)
    → GivesNothing star_of_stuck_star part → ⊥
no_outer_star part zero within is gives =
    let same : stuck_star ≡ part = cc in
    let n = gives.0 in
    star-stuck star_of_stuck_star (between 6 8) (between 6 9) n
    (subst (λ f. (can_in star_of_stuck_star n f).nothing ≡ true) (sym same) gives.1)
no_outer_star part (suc zero) within is gives =
    let same : between 6 9 ≡ between 5 11 = cc in
    let bad : 6 ≡ 5 = ap (λ (e : Extent). e.start) same in
    absurd (omega (arith, bad))
no_outer_star part (suc (suc zero)) within is gives = cc
no_outer_star part (suc (suc (suc k))) within is gives = absurd (omega (arith, within))

no_outer_plus : (part : Form) (k : ℕ) → k < 3
    → get_or written k (Plus part (between 5 11)) ≡ Plus part (between 5 11)
    → ⊥
no_outer_plus part zero within is = cc
no_outer_plus part (suc zero) within is = cc
no_outer_plus part (suc (suc zero)) within is = cc
no_outer_plus part (suc (suc (suc k))) within is = absurd (omega (arith, within))

no_outer : IsEmptyLoop star_of_stuck_star 0 (between 5 11) → ⊥
no_outer loop =
    let rule : Rule = record { name = codes "A"; span = between 0 1; body = Star stuck_star (between 5 11) } in
    let same : rule ≡ loop.rule = cc in
    let Among : Form → Rule → Type 0 = λ e r. Contains (subexpressions r.body) e in
    elim (loop.written) [
      | inl there ↦
          let at = subst (Among (Star loop.part (between 5 11))) (sym same) there in
          no_outer_star loop.part at.0 at.1 at.2 loop.idle
      | inr there ↦
          let at = subst (Among (Plus loop.part (between 5 11))) (sym same) there in
          no_outer_plus loop.part at.0 at.1 at.2
    ]

-- an expression after the empty class is not left-called
not_met : LeftCalls after_empty_class 0 0 → ⊥
not_met meets =
    let body : Form = Seq (Then (Class [] (between 5 7)) (Then (Name (codes "A") (between 8 9)) End)) (between 5 9) in
    let rule : Rule = record { name = codes "A"; span = between 0 1; body = body } in
    let same : rule ≡ meets.rule = cc in
    elim (subst (λ (r : Rule). CanCallFirst (GivesNothing after_empty_class) r.body meets.name) (sym same) meets.reached) [
      | inl here ↦ here
      | inr there ↦ class-fails after_empty_class (between 5 7) there.0.0 there.0.1
    ]

-- ('x'{0,2})*
abbrev counted_star : Form
counted_star = Star (Counted (Literal (codes "x") (between 6 9)) 0 2 (between 6 14)) (between 5 16)

pub returns : goal.returns
unfolding can_in
returns c = record {
  star_of_star = record {
    rule = _;
    part = Star (Literal (codes "a") (between 6 9)) (between 6 10);
    numbered = refl;
    written = inl (first_of star_of_star (below star_of_star));
    idle = (2, refl);
  };
  plus_of_empty = record {
    rule = _;
    part = Literal [] (between 6 8);
    numbered = refl;
    written = inr (first_of plus_of_empty (below plus_of_empty));
    idle = (1, refl);
  };
  star_of_optional = record {
    rule = _;
    part = Optional (Literal [] (between 7 9)) (between 6 11);
    numbered = refl;
    written = inl (first_of star_of_optional (below star_of_optional));
    idle = (2, refl);
  };
  inner = record {
    rule = _;
    part = Literal [] (between 6 8);
    numbered = refl;
    written =
        inl
        (Contains-append_right (Star stuck_star (between 5 11) ∷ []) (subexpressions stuck_star) stuck_star
        (first_of stuck_star (below stuck_star)));
    idle = (1, refl);
  };
  outer = no_outer;
  after_optional = (
    record { rule = _; name = codes "B"; numbered = refl; reached = inl refl; means = refl },
    (record { rule = _; name = codes "A"; numbered = refl; reached = inr ((2, refl), inl refl); means = refl }, tt),
  );
  after_empty_class = not_met;
  itself = (record { rule = _; name = codes "T"; numbered = refl; reached = refl; means = refl }, tt);
  counted_itself = (record { rule = _; name = codes "A"; numbered = refl; reached = refl; means = refl }, tt);
  star_of_count = record {
    rule = _;
    part = Counted (Literal (codes "x") (between 6 9)) 0 2 (between 6 14);
    numbered = refl;
    written = inl (first_of counted_star (below counted_star));
    idle = (2, refl);
  };
}
