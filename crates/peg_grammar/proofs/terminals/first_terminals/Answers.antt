use Rattle.std.proofs.Common.{◌≡◌, ℕ, zero, suc, ◌+◌, ◌<◌, List, [], ◌∷◌, ◌++◌, length, get_or, drop, sym, ap, ◌∙◌, suc-add, append_assoc, arith}
use Rattle.std.proofs.lemmas.List.Sums.{sum_by-cons}
use Rattle.peg_semantics.specs.Form.{terminals}
use Rattle.peg_semantics.specs.Numbers.{first_from, terminals_of}
use Rattle.peg_semantics.specs.Rules.{Rule}
use Rattle.peg_grammar.specs.Written.{form_of, rule_of, rules_of}
use Rattle.peg_grammar.specs.declared.expr.Definition.{Definition}
use Rattle.peg_grammar.proofs.terminals.first_terminals.Goals as goal

-- the rules from index i on are that rule and those after it
rules_of-drop : (ds : List Definition) (i : ℕ) (d : Definition) → i < length ds → d ≡ get_or ds i d
    → drop i (rules_of ds) ≡ rule_of d ∷ drop (i + 1) (rules_of ds)
rules_of-drop [] i d h e = absurd (omega arith)
rules_of-drop (x ∷ xs) zero d h e = ap (λ z. rule_of z ∷ rules_of xs) (sym e)
rules_of-drop (x ∷ xs) (suc i) d h e = rw suc-add (rules_of-drop xs i d (omega arith) e)

module _ (ds : List Definition) (i : ℕ) (d : Definition) (within : i < length ds) (there : d ≡ get_or ds i d) where
  abbrev later : List Rule
  later = drop (i + 1) (rules_of ds)

  -- the terminals from index i on are those of that rule and of the rules after it
  terminals_of-drop : terminals_of (drop i (rules_of ds)) ≡ terminals (form_of d.body) + terminals_of later
  terminals_of-drop =
      ap terminals_of (rules_of-drop ds i d within there)
      ∙ sum_by-cons (λ (rule : Rule). terminals rule.body) (rule_of d) later

  -- one more number, and the numbers of the rules after it
  numbered-next : (numbers more : List ℕ) (next count : ℕ) → count ≡ terminals (form_of d.body)
      → more ≡ numbers ++ next ∷ [] → more ++ first_from (next + count) later ≡ numbers ++ first_from next (drop i (rules_of ds))
  numbered-next numbers more next count counts pushed =
      (λ j. pushed j ++ first_from (next + counts j) later)
      ∙ (append_assoc numbers (next ∷ []) (first_from (next + terminals (form_of d.body)) later)
      ∙ ap (λ l. numbers ++ first_from next l) (sym (rules_of-drop ds i d within there)))

pub terminal_count-next-requires : goal.terminal_count-next-requires
terminal_count-next-requires c =
    let item = c.definition-item in
    let step = terminals_of-drop c.args.definitions.now c.loop-definition.definition-index item.result (omega arith) item.is in
    omega arith

pub overflow_add-next : goal.overflow_add-next
overflow_add-next c =
    let item = c.definition-item in
    let step = terminals_of-drop c.args.definitions.now c.loop-definition.definition-index item.result (omega arith) item.is in
    omega arith

pub loop-definition-preserved : goal.loop-definition-preserved
loop-definition-preserved c =
    let ds = c.args.definitions.now in
    let i = c.loop-definition.definition-index in
    let item = c.definition-item in
    let step = terminals_of-drop ds i item.result (omega arith) item.is in
    let numbered_on = numbered-next ds i item.result (omega arith) item.is c.loop-definition.first.items c.push.new.self.items c.loop-definition.next c.terminal_count-next.result c.terminal_count-next.ensures c.in_ok-push.ensures.items in
    record {
      numbered = numbered_on ∙ c.loop-definition.invariant.numbered;
      counted = omega arith;
    }
