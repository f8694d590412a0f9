use Rattle.std.proofs.Common.{◌∙◌, ℕ, ◌∷◌, ◌++◌, [], All, List, ap, get_or, map, subst, sym}
use Rattle.std.proofs.lemmas.List.{map-append}
use Rattle.std.proofs.lemmas.List.Elements.{All-push}
use Rattle.peg_explain.specs.Names.{IsRest}
use Rattle.peg_explain.specs.declared.names.Rest.{Rest}
use Rattle.peg_explain.proofs.MappedLemmas.{get_or-other}
use Rattle.peg_explain.proofs.SelectedLemmas.{take-more}
use Rattle.peg_explain.proofs.names.Naming.rests_from.Goals as goal

pub numbers-preserved : goal.numbers-preserved
numbers-preserved c =
    let numbers : List ℕ = c.args.numbers.now in
    let index = c.numbers.number-index in
    let before : List Rest = c.numbers.rests.items in
    let rest : Rest = c.in_ok-rest.rest in
    let number = get_or numbers index 0 in
    let added = c.in_ok-add_rest.ensures in record {
      from = ap (map (λ (r : Rest). r.rule)) added
          ∙ map-append (λ (r : Rest). r.rule) before (rest ∷ [])
          ∙ (λ i. c.numbers.invariant.from i ++ c.in_ok-rest.ensures.from i ∷ [])
          ∙ sym (take-more numbers index number c.numbers-test.true
          (get_or-other numbers index 0 number c.numbers-test.true));
      each = λ rules text start calls at is.
          subst (All (IsRest rules text at)) (sym added)
          (All-push (IsRest rules text at) before rest (c.numbers.invariant.each rules text start calls at is)
          (c.in_ok-rest.ensures.is rules text start calls at is));
    }
