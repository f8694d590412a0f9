use Rattle.std.proofs.Common.{◌≡◌, ℕ, ◌<◌, inl, inr, ◌∷◌, ◌++◌, [], List, All, Contains, true, false, get_or, length, set, sym, ◌∙◌, subst, arith}
use Rattle.std.proofs.lemmas.Bool.{cases_eq}
use Rattle.std.proofs.lemmas.Result.{IfOk-weaker}
use Rattle.std.proofs.lemmas.List.{get_or-set_other, length-set}
use Rattle.std.proofs.lemmas.List.Elements.{All-push, Contains-append_left, Contains-push}
use Rattle.peg_core.specs.CoreLoops.{CoreCanCallFirst, CoreLeftCalls}
use Rattle.peg_core.specs.CoreOutcomes.{BodyIs}
use Rattle.peg_core.specs.Layout.{bodies_of}
use Rattle.peg_check.specs.Paths.{IsPath, IsFrom}
use Rattle.peg_check.proofs.DepLemmas.{body-form}
use Rattle.peg_check.specs.Marks.{is_marked}
use Rattle.peg_check.specs.Verdicts.{AllDiffer, IsSimpleLeftCycle}
use Rattle.peg_check.proofs.PathLemmas.{IsPath-push, AllDiffer-push, simple-cycle-from}
use Rattle.peg_check.proofs.MarkLemmas.{marked-now, marked-still}
use Rattle.peg_check.proofs.cycles.cycle_from.Goals as goal

pub steps-preserved : goal.steps-preserved
steps-preserved c =
    let core = c.args.core.now in
    let path = c.steps.path.items in
    let rule = c.steps.rule in
    let next = c.left_call-rule-in-steps.result in
    let pushed : c.push.new.self.items ≡ path ++ rule ∷ [] = c.in_ok-push.ensures.items in
    let within : rule < length c.steps.seen.items = omega (arith, c.steps.invariant.count, c.steps.invariant.within) in
    let was : is_marked c.steps.seen.items rule ≡ false = grind arith in
    let meets : CoreLeftCalls (bodies_of core) rule next = subst (BodyIs (λ body. CoreCanCallFirst (bodies_of core) body next)) (sym (body-form core rule c.body.result c.body.ensures.number)) c.left_call-rule-in-steps.ensures.met in
    record {
      count = length-set c.steps.seen.items rule true ∙ c.steps.invariant.count;
      within = c.left_call-rule-in-steps.ensures.within;
      left = c.left_call-rule-in-steps.ensures.left;
      path = subst (λ (p : List ℕ). IsPath (bodies_of core) (p ++ next ∷ [])) (sym pushed) (IsPath-push (bodies_of core) path rule next c.steps.invariant.path meets);
      seen = λ other marked. subst (λ (p : List ℕ). Contains p other) (sym pushed) (elim (cases_eq other rule) [ inl same ↦ subst (λ r. Contains (path ++ rule ∷ []) r) (sym same) (Contains-push path rule) | inr apart ↦ Contains-append_left path (rule ∷ []) other (c.steps.invariant.seen other (sym (get_or-set_other c.steps.seen.items rule other true false apart) ∙ marked)) ]);
      marked = subst (All (λ r. is_marked (set c.steps.seen.items rule true) r ≡ true)) (sym pushed) (All-push (λ r. is_marked (set c.steps.seen.items rule true) r ≡ true) path rule (λ k d small. marked-still c.steps.seen.items rule (get_or path k d) within (c.steps.invariant.marked k d small)) (marked-now c.steps.seen.items rule within));
      differ = subst AllDiffer (sym pushed) (AllDiffer-push path rule c.steps.invariant.differ (λ k d small same. let marked : is_marked c.steps.seen.items rule ≡ true = subst (λ r. is_marked c.steps.seen.items r ≡ true) same (c.steps.invariant.marked k d small) in cc));
    }

pub returns : goal.returns
returns c =
    let core = c.args.core.now in
    let path = c.steps.path.items in
    IfOk-weaker c.from_rule.result (λ rest. IsFrom c.deref.result.now c.steps.rule rest.items)
    (λ rest. IsSimpleLeftCycle (bodies_of core) rest.items)
    (λ rest from. simple-cycle-from (bodies_of core) path c.steps.rule rest.items c.steps.invariant.path c.steps.invariant.differ (subst (λ (p : List ℕ). IsFrom p c.steps.rule rest.items) c.deref.ensures.value from))
    c.from_rule.ensures
