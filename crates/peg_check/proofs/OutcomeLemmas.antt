-- The outcomes of a grammar's expressions, from an exact table of its core forms.
use Rattle.std.proofs.Common.{◌≡◌, ℕ, ◌+◌, ◌<◌, List, [], ◌∷◌, All, length, map, slice_get, slice_index_or, Some}
use Rattle.std.proofs.Common.{subst, arith}
use Rattle.std.specs.List.{AllZip}
use Rattle.std.proofs.lemmas.List.Elements.{All-head, All-tail}
use Rattle.std.proofs.lemmas.Option.{slice_get-get_or}
use Rattle.peg_check.specs.Exact.{IsExact, IsExactTable, cans_of}
use Rattle.peg_core.specs.CoreForm.{CoreForm, core_bodies, core_bodies_from, core_form}
use Rattle.peg_core.specs.CoreParts.{AreCoreFormsOf}
use Rattle.peg_core.specs.Layout.{bodies_of, Desugared, form_at}
use Rattle.peg_core.proofs.SugarOutcomes.{GivesNothing-to_core, GivesNothing-from_core, GivesSomething-to_core}
use Rattle.peg_core.proofs.SugarOutcomes.{GivesSomething-from_core, CanFail-to_core, CanFail-from_core}
use Rattle.peg_semantics.specs.AbstractOutcomes.{Can, no_outcome}
use Rattle.peg_semantics.specs.Form.{Form, terminals}
use Rattle.peg_semantics.specs.Rules.{Rule}
use Rattle.peg_semantics.specs.RuleOutcomes.{IsAbstractOutcome, AreAbstractOutcomes}

-- outcomes that are exact for the core form of an expression are exact for the expression
exact-outcome : (rules : List Rule) (terminal : ℕ) (e : Form) (can : Can)
    → IsExact (core_bodies rules) (core_form rules terminal e) can → IsAbstractOutcome rules e can
exact-outcome rules terminal e can exact = record {
  nothing = (
    λ is. GivesNothing-from_core rules e terminal (exact.nothing.0 is),
    λ gives. exact.nothing.1
        (GivesNothing-to_core rules e terminal gives),
  );
  something = (
    λ is. GivesSomething-from_core rules e terminal (exact.something.0 is),
    λ gives. exact.something.1
        (GivesSomething-to_core rules e terminal gives),
  );
  fails = (
    λ is. CanFail-from_core rules e terminal (exact.fails.0 is),
    λ can_fail. exact.fails.1
        (CanFail-to_core rules e terminal can_fail),
  );
}

-- rules whose bodies have these numbers; `terminal` is the number of their first terminal
outcomes-from : (rules : List Rule) (core : Desugared) (table : List Can) → IsExactTable core table
    → bodies_of core ≡ core_bodies rules → (terminal : ℕ) (more : List Rule) (bodies : List ℕ)
    → All (λ body. body < length core.forms) bodies → map (form_at core.forms) bodies ≡ core_bodies_from rules
    terminal more
    → AllZip (λ rule can. IsAbstractOutcome rules rule.body can) more (cans_of bodies table)
outcomes-from rules core table exact same terminal [] [] fit is = tt
outcomes-from rules core table exact same terminal [] (body ∷ bodies) fit is = cc
outcomes-from rules core table exact same terminal (rule ∷ more) [] fit is = cc
outcomes-from rules core table exact same terminal (rule ∷ more) (body ∷ bodies) fit is =
    let here : form_at core.forms body ≡ core_form rules terminal rule.body = cc in
    let others : map (form_at core.forms) bodies ≡ core_bodies_from rules (terminal + terminals rule.body) more = cc in
    let low : body < length core.forms = All-head (λ b. b < length core.forms) body bodies fit in
    let can : Can = slice_index_or table body no_outcome in
    let stated : slice_get table body ≡ Some can = slice_get-get_or table body no_outcome (omega (arith, exact.count, low)) in
    let of_form : IsExact (bodies_of core) (form_at core.forms body) can = exact.exact body can stated in
    let of_body : IsExact (core_bodies rules) (core_form rules terminal rule.body) can =
    subst (λ (form : CoreForm). IsExact (core_bodies rules) form can) here
    (subst (λ (all : List CoreForm). IsExact all (form_at core.forms body) can) same of_form) in (
      exact-outcome rules terminal rule.body can of_body,
      outcomes-from rules core table exact same (terminal + terminals rule.body) more bodies
          (All-tail (λ b. b < length core.forms) body bodies fit) others,
    )

-- the rules of a grammar
pub table-outcomes : (rules : List Rule) (core : Desugared) (table : List Can) → AreCoreFormsOf rules core
    → All (λ body. body < length core.forms) core.bodies → IsExactTable core table
    → AreAbstractOutcomes rules (cans_of core.bodies table)
table-outcomes rules core table are fit exact =
    outcomes-from rules core table exact are.bodies 0 rules core.bodies fit are.bodies
