use Rattle.std.proofs.Common.{◌≡◌, ℕ, ◌+◌, ◌<◌, List, [], ◌∷◌, codes, refl, sym, ap, subst, arith}
use Rattle.std.proofs.lemmas.Fmt.{decimal_digit}
use Rattle.peg_bytes.specs.Extent.{between}
use Rattle.peg_diagnostics.specs.Marked.{marked_rules, marker_name}
use Rattle.peg_diagnostics.specs.Attempts.{AreAttempts, attempts_in}
use Rattle.peg_diagnostics.specs.MarkedExamples.{guarded, guarded_attempts, nested, nested_attempts, nested_marked}
use Rattle.peg_diagnostics.specs.MarkedExamples.{nested_result, nested_with}
use Rattle.peg_semantics.specs.Form.{Name}
use Rattle.peg_semantics.specs.Record.{Record, IsRecord, record_in}
use Rattle.peg_semantics.specs.Rules.{Rule}
use Rattle.peg_diagnostics.proofs.mark_laws.the_definitions_agree_with_a_hand_worked_marked_grammar.Goals as goal

digit : (n : ℕ) → n < 10 → marker_name n ≡ 33 ∷ (48 + n) ∷ []
digit n small = ap (λ l. 33 ∷ l) (decimal_digit n small)

same_rules : marked_rules nested ≡ nested_marked
same_rules = λ i. nested_with (digit 0 (omega arith) i) (digit 1 (omega arith) i) (digit 2 (omega arith) i)
    (digit 3 (omega arith) i) (digit 4 (omega arith) i) (digit 5 (omega arith) i) (digit 6 (omega arith) i)
    (digit 7 (omega arith) i) (digit 8 (omega arith) i)

abbrev HasResult : List Rule → Type 0
HasResult rules =
    (r : Record) × IsRecord rules (codes "cd") (Name (codes "S") (between 0 0)) 0 0 r × (r.result ≡ nested_result)

marked_result : HasResult nested_marked
unfolding record_in
marked_result = (_, (16, refl), refl)

pub returns-clause-rules : goal.returns-clause-rules
returns-clause-rules c = same_rules

pub returns-clause-count : goal.returns-clause-count
returns-clause-count c = refl

pub returns-clause-result : goal.returns-clause-result
returns-clause-result c = subst HasResult (sym same_rules) marked_result

nested_tries : (r : Record) × AreAttempts nested (codes "cd") (codes "S") r nested_attempts
unfolding record_in attempts_in
nested_tries = (_, (16, refl, refl))

pub returns-clause-attempts : goal.returns-clause-attempts
returns-clause-attempts c = nested_tries

guarded_tries : (r : Record) × AreAttempts guarded (codes "b") (codes "S") r guarded_attempts
unfolding record_in attempts_in
guarded_tries = (_, (16, refl, refl))

pub returns-clause-in_predicates : goal.returns-clause-in_predicates
returns-clause-in_predicates c = guarded_tries
