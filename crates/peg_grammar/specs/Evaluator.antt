-- Describes code: the inputs and the recognizers of the reference evaluator.
use Rattle.std.specs.Prelude.{ℕ, List, Option, option_map, option_and_then, slice_get, slice_index}
use Rattle.peg_grammar.specs.GrammarRules.{rules_in}
use Rattle.peg_semantics.specs.Record.{Record, Recognizer, as_call, record_in, table}
use Rattle.peg_semantics.specs.Rules.{Rule}
use Rattle.peg_grammar.specs.declared.evaluator.Evaluator.{Evaluator}

-- the text of an evaluation
abbrev pub evaluated_text : Evaluator → List ℕ
evaluated_text plain = plain.text.now

-- the recognizer in a depth
abbrev pub recognizer_in : Evaluator → ℕ → Recognizer
recognizer_in plain depth = record_in (rules_in plain.grammar.now) (evaluated_text plain) depth

-- one case of Ford's rules, whose parts are recognized in a depth
abbrev pub table_in : Evaluator → ℕ → Recognizer
table_in plain depth = table (rules_in plain.grammar.now) (evaluated_text plain) (recognizer_in plain depth)

-- the record of a call of rule number `rule` at a position, whose expression is recognized in a depth
abbrev pub call_in : Evaluator → ℕ → (rule position : ℕ) → Option Record
call_in plain depth rule position =
    option_and_then (λ (r : Rule). option_map (as_call rule position)
    (recognizer_in plain depth r.body (slice_index plain.first.now rule) position))
    (slice_get (rules_in plain.grammar.now) rule)
