use Rattle.std.proofs.Common.{◌≡◌, ◌+◌, ◌-◌, ◌*◌, ◌≤◌, map, length, drop}
use Rattle.peg_semantics.specs.Form.{forms, terminals_of_all}
use Rattle.peg_grammar.specs.Found.{seen_in}
use Rattle.peg_semantics.specs.Grammar.{max_parts}
use Rattle.peg_grammar.specs.Evaluator.{evaluated_text, recognizer_in}
use Rattle.peg_semantics.specs.Record.{recognize_choice}
use Rattle.peg_grammar.specs.Written.{form_of}
use Rattle.peg_grammar.proofs.LoopLemmas.{ItemsSoFar, FailedSoFar}
use Rattle.peg_grammar.proofs.TimesLemmas.{TimesSoFar}
use Rattle.peg_grammar.proofs.evaluator.Evaluator.+plain.Given as goal

abbrev pub decreases-expression : goal.decreases-expression
decreases-expression l = 6 * l.depth

abbrev pub decreases-case : goal.decreases-case
decreases-case l = 6 * l.depth + 5

abbrev pub decreases-items : goal.decreases-items
decreases-items l = 6 * l.depth + 4

abbrev pub decreases-choice : goal.decreases-choice
decreases-choice l = 6 * l.depth + 4

abbrev pub decreases-optional : goal.decreases-optional
decreases-optional l = 6 * l.depth + 4

abbrev pub decreases-rounds : goal.decreases-rounds
decreases-rounds l = 6 * l.depth + 4

abbrev pub decreases-star : goal.decreases-star
decreases-star l = 6 * l.depth + 1

abbrev pub decreases-plus : goal.decreases-plus
decreases-plus l = 6 * l.depth + 4

abbrev pub decreases-counted : goal.decreases-counted
decreases-counted l = 6 * l.depth + 4

abbrev pub decreases-and : goal.decreases-and
decreases-and l = 6 * l.depth + 4

abbrev pub decreases-not : goal.decreases-not
decreases-not l = 6 * l.depth + 4

abbrev pub decreases-name : goal.decreases-name
decreases-name l = 6 * l.depth + 4

abbrev pub decreases-rule : goal.decreases-rule
decreases-rule l = 6 * l.depth + 3

abbrev pub invariant-items-loop-item : goal.invariant-items-loop-item
invariant-items-loop-item l = record {
  after : l.position ≤ l.at;
  within : l.at ≤ length (evaluated_text l.self);
  few : l.terminal + terminals_of_all (forms (drop l.item-index (map form_of l.items))) ≤ max_parts;
  from : l.from ≡ length (l.fn.found.rows.items);
  so_far : ItemsSoFar (recognizer_in l.self l.depth) (forms (map form_of l.items)) l.fn.terminal l.position (seen_in l.fn.found) (forms (drop l.item-index (map form_of l.items))) l.terminal l.at (seen_in l.found);
}

abbrev pub invariant-choice-loop-next : goal.invariant-choice-loop-next
invariant-choice-loop-next l = record {
  few : l.terminal + terminals_of_all (forms (drop l.next-index (map form_of l.rest))) ≤ max_parts;
  so_far : FailedSoFar (recognize_choice (recognizer_in l.self l.depth) (form_of l.first) (forms (map form_of l.rest)) l.fn.terminal l.position) (recognizer_in l.self l.depth) l.position (seen_in l.fn.found) (forms (drop l.next-index (map form_of l.rest))) l.terminal (seen_in l.found);
}

-- the repetitions so far matched
abbrev pub invariant-counted-loop-round : goal.invariant-counted-loop-round
invariant-counted-loop-round l = record {
  after : l.position ≤ l.at;
  within : l.at ≤ length (evaluated_text l.self);
  from : l.held ≡ length (l.fn.found.rows.items);
  so_far : TimesSoFar (λ at. recognizer_in l.self l.depth (form_of l.part) l.terminal at) l.min l.max l.position (seen_in l.fn.found) (l.min - l.round) (l.max - l.round) l.at (seen_in l.found);
}
