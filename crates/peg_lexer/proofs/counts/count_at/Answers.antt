use Rattle.std.proofs.Common.{ℕ, drop, ◌+◌, Some, false, true, [], ◌∷◌, option_map, sym, ap, ◌∙◌, arith}
use Rattle.peg_lexer.specs.LexicalCode.{count_view}
use Rattle.peg_metagrammar.specs.Denotation.{bounds}
use Rattle.peg_lexer.proofs.CountTexts.{number-from, second-from, brace-from, seen_count, count-closed, count-empty, count-none, count-some, following-two, following-one, following-unclosed, following-none}
use Rattle.peg_lexer.proofs.counts.count_at.Goals.{in-Some, in-None}
use Rattle.peg_lexer.proofs.counts.count_at.Goals as goal

pub returns-then-not-starts_with-clause-value : goal.returns-then-not-starts_with-clause-value
returns-then-not-starts_with-clause-value c = count-closed c.args.rest.now (sym c.if-not-starts_with.ensures.value)

pub returns-in_err-first-clause-value : goal.returns-in_err-first-clause-value
returns-in_err-first-clause-value c =
    ap (option_map count_view) c.from_residual.ensures
    ∙ count-empty c.args.rest.now (sym c.if-not-starts_with.ensures.value)
    (number-from c.args.rest.now 1 _ c.in_err-first.ensures.value)

pub returns-then-not-starts_with-2-clause-value : goal.returns-then-not-starts_with-2-clause-value
returns-then-not-starts_with-2-clause-value c =
    let rest = c.args.rest.now in
    let n = c.in_ok-first.first.length in
    let value = c.in_ok-first.first.value in
    let opens = sym c.if-not-starts_with.ensures.value in
    let first = number-from rest 1 _ c.in_ok-first.ensures.value in
    elim c.match-second_number.branch [
      | in-Some w ↦
          count-none rest n value opens first (following-unclosed (drop (1 + n) rest) w.in-Some.second.length w.in-Some.second.value
          (second-from rest (1 + n) _ w.in-Some.ensures.value)
          (brace-from rest (1 + n) w.in-Some.second.length c.match-second_number.max.1 false (ap (λ p. p.1) w.max-is)
          c.if-not-starts_with-2.ensures.value))
      | in-None w ↦
          count-none rest n value opens first (following-none (drop (1 + n) rest)
          (second-from rest (1 + n) _ w.in-None.ensures.value)
          (brace-from rest (1 + n) 0 c.match-second_number.max.1 false (ap (λ p. p.1) w.max-is ∙ omega arith)
          c.if-not-starts_with-2.ensures.value))
    ]

pub returns-clause-value : goal.returns-clause-value
returns-clause-value c =
    let rest = c.args.rest.now in
    let n = c.in_ok-first.first.length in
    let value = c.in_ok-first.first.value in
    let opens = sym c.if-not-starts_with.ensures.value in
    let first = number-from rest 1 _ c.in_ok-first.ensures.value in
    elim c.match-second_number.branch [
      | in-Some w ↦
          ap (λ (p : ℕ × ℕ). Some (seen_count (bounds value p.0) (p.1 + 1))) w.max-is
          ∙ (ap (λ l. Some (seen_count (bounds value w.in-Some.second.value) l)) (omega arith)
          ∙ count-some rest n (w.in-Some.second.length + 1) value (w.in-Some.second.value ∷ []) opens first
          (following-two (drop (1 + n) rest) w.in-Some.second.length w.in-Some.second.value
          (second-from rest (1 + n) _ w.in-Some.ensures.value)
          (brace-from rest (1 + n) w.in-Some.second.length c.match-second_number.max.1 true (ap (λ p. p.1) w.max-is)
          c.if-not-starts_with-2.ensures.value)))
      | in-None w ↦
          ap (λ (p : ℕ × ℕ). Some (seen_count (bounds value p.0) (p.1 + 1))) w.max-is
          ∙ count-some rest n 1 value [] opens first
          (following-one (drop (1 + n) rest) (second-from rest (1 + n) _ w.in-None.ensures.value)
          (brace-from rest (1 + n) 0 c.match-second_number.max.1 true (ap (λ p. p.1) w.max-is ∙ omega arith)
          c.if-not-starts_with-2.ensures.value))
    ]
