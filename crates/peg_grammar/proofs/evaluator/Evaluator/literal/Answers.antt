use Rattle.std.proofs.Common.{◌≡◌, ◌≢◌, ℕ, suc, ◌+◌, ◌-◌, ◌<◌, ◌≤◌, List, ◌∷◌, length, get_or, take, drop, map, Some, Ok, refl, sym, ap, ◌∙◌, append-nil, add-zero, add-one, arith}
use Rattle.std.proofs.Math.ListN.{drop_of_length-le}
use Rattle.std.proofs.Math.Seq.{drop-cons}
use Rattle.std.proofs.lemmas.Bool.Decides.{nat_tests}
use Rattle.std.proofs.lemmas.List.{take_rest}
use Rattle.peg_tree.specs.Rows.{row_of}
use Rattle.peg_grammar.specs.Found.{seen_in}
use Rattle.peg_semantics.specs.FurthestPass.{note_test}
use Rattle.peg_semantics.specs.Record.{Record, literal_at, matched_at, failed_at, test_of}
use Rattle.peg_grammar.specs.Seen.{Evaluation, Evaluates}
use Rattle.peg_grammar.specs.declared.found.MatchResult.TheVariants.{EndsAt, Fails}
use Rattle.peg_grammar.proofs.SeenLemmas.{seen}
use Rattle.peg_grammar.proofs.evaluator.Evaluator.literal.Goals as goal
use Rattle.peg_grammar.proofs.evaluator.Evaluator.literal.Goals.{then-at-rest-via-then-at-rest, then-at-rest-via-else-at-rest+then-rest-at}

literal_at-same : (terminal position b c : ℕ) (bs cs : List ℕ) → c ≡ b
    → literal_at terminal position (b ∷ bs) (c ∷ cs) ≡ literal_at terminal (position + 1) bs cs
literal_at-same terminal position b c bs cs e = grind (arith, nat_tests)

literal_at-other : (terminal position b c : ℕ) (bs cs : List ℕ) → c ≢ b
    → literal_at terminal position (b ∷ bs) (c ∷ cs) ≡ failed_at terminal position
literal_at-other terminal position b c bs cs e = grind (arith, nat_tests)

module _ (terminal position : ℕ) (bytes rest : List ℕ) (i : ℕ) where
  -- the rest of a literal, from its byte at index n on, against the text from there on
  abbrev from : ℕ → Record
  from n = literal_at terminal (position + n) (drop n bytes) (drop n rest)

  from-both : i < length bytes → i < length rest
      → from i ≡ literal_at terminal (position + i) (get_or bytes i 0 ∷ drop (suc i) bytes) (get_or rest i 0 ∷ drop (suc i) rest)
  from-both h k j = literal_at terminal (position + i) (drop-cons bytes i 0 h j) (drop-cons rest i 0 k j)

  -- the bytes at this index are equal
  from-next : i < length bytes → i < length rest → get_or rest i 0 ≡ get_or bytes i 0 → from i ≡ from (i + 1)
  from-next h k e =
      let further : (position + i) + 1 ≡ position + suc i = omega arith in
      from-both h k
      ∙ (literal_at-same terminal (position + i) (get_or bytes i 0) (get_or rest i 0) (drop (suc i) bytes) (drop (suc i) rest) e
      ∙ (ap (λ n. literal_at terminal n (drop (suc i) bytes) (drop (suc i) rest)) further ∙ ap from (sym (add-one i))))

  -- the bytes at this index differ
  from-other : i < length bytes → i < length rest → get_or rest i 0 ≢ get_or bytes i 0 → from i ≡ failed_at terminal (position + i)
  from-other h k e =
      from-both h k
      ∙ literal_at-other terminal (position + i) (get_or bytes i 0) (get_or rest i 0) (drop (suc i) bytes) (drop (suc i) rest) e

  -- the text ends at this index
  from-missing : i < length bytes → length rest ≤ i → from i ≡ failed_at terminal (position + i)
  from-missing h k = λ j. literal_at terminal (position + i) (drop-cons bytes i 0 h j) (drop_of_length-le rest k j)

  -- the literal ends at this index
  from-end : i ≡ length bytes → from i ≡ matched_at (position + length bytes)
  from-end e =
      let end : length bytes ≤ i = omega arith in
      ap (λ l. literal_at terminal (position + i) l (drop i rest)) (drop_of_length-le bytes end) ∙ ap (λ n. matched_at (position + n)) e

evaluates-failed : (r : Record) (old now : Evaluation) (terminal position : ℕ) → r ≡ failed_at terminal position
    → now ≡ seen (note_test old.furthest (test_of terminal position)) old.rows → Evaluates (Some r) old (Ok Fails) now
evaluates-failed r old now terminal position e h =
    (failed_at terminal position, ap Some e, refl, h ∙ ap (seen (note_test old.furthest (test_of terminal position))) (sym (append-nil old.rows)))

evaluates-matched : (r : Record) (old now : Evaluation) (end : ℕ) → r ≡ matched_at end → now ≡ old → Evaluates (Some r) old (Ok (EndsAt end)) now
evaluates-matched r old now end e h = (matched_at end, ap Some e, refl, h ∙ ap (seen old.furthest) (sym (append-nil old.rows)))

-- the slice from a position on is the text from there on
pub loop-at-init : goal.loop-at-init
loop-at-init c =
    let text = c.args.self.now.text.now in
    record {
      kept = refl;
      within = omega arith;
      same = λ j. literal_at c.args.terminal (sym (add-zero c.args.position) j) c.args.bytes.now (sym (take_rest text c.args.position) j);
    }

pub returns-then-at-rest-clause-evaluates : goal.returns-then-at-rest-clause-evaluates
returns-then-at-rest-clause-evaluates c =
    let terminal = c.args.terminal in
    let position = c.args.position in
    let bytes = c.args.bytes.now in
    let text = c.args.self.now.text.now in
    let rest = take (length text - position) (drop position text) in
    let at = c.loop-at.at in
    let inside = c.loop-at-test.true in
    let stops : from terminal position bytes rest at at ≡ failed_at terminal (position + at) =
    elim c.then-at-rest.branch [ then-at-rest-via-then-at-rest w ↦ from-missing terminal position bytes rest at inside w.if-at-rest.true | then-at-rest-via-else-at-rest+then-rest-at w ↦ from-other terminal position bytes rest at inside w.if-at-rest.false w.if-rest-at.true ] in
    let after : Evaluation → Evaluation = λ s. seen (note_test s.furthest (test_of terminal (position + at))) s.rows in
    evaluates-failed (literal_at terminal position bytes (drop position text)) (seen_in c.args.found.now) _ terminal (position + at)
    (c.loop-at.invariant.same ∙ stops) ((λ j. seen (c.in_ok-note.ensures j) (map row_of c.loop-at.found.rows.items)) ∙ ap after c.loop-at.invariant.kept)

pub loop-at-preserved : goal.loop-at-preserved
loop-at-preserved c =
    let position = c.args.position in
    let bytes = c.args.bytes.now in
    let text = c.args.self.now.text.now in
    let rest = take (length text - position) (drop position text) in
    let step = from-next c.args.terminal position bytes rest c.loop-at.at c.loop-at-test.true c.if-at-rest.false c.if-rest-at.false in
    record { kept = c.loop-at.invariant.kept; within = omega arith; same = c.loop-at.invariant.same ∙ step }

pub returns-clause-evaluates : goal.returns-clause-evaluates
returns-clause-evaluates c =
    let terminal = c.args.terminal in
    let position = c.args.position in
    let bytes = c.args.bytes.now in
    let text = c.args.self.now.text.now in
    let rest = take (length text - position) (drop position text) in
    let ends = from-end terminal position bytes rest c.loop-at.at (omega arith) in
    evaluates-matched (literal_at terminal position bytes (drop position text)) (seen_in c.args.found.now) _ (position + length bytes)
    (c.loop-at.invariant.same ∙ ends) c.loop-at.invariant.kept
