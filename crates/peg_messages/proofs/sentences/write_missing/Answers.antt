use Rattle.std.proofs.Common.{◌≡◌, ◌++◌, ℕ, Bor, List, Option, OnOk, codes, option_map, subst, sym}
use Rattle.peg_messages.specs.Sentences.{meant_question, rule_sentence}
use Rattle.peg_messages.proofs.AppendLemmas.{appended}
use Rattle.peg_messages.proofs.sentences.write_missing.Goals as goal

pub returns-in-Some : goal.returns-in-Some
returns-in-Some c =
    let out = c.args.out.now.items in
    let first = rule_sentence c.args.name.now (codes " is not defined") in
    subst (λ (meant : Option (Bor (List ℕ))). OnOk c.write_question.result (c.write_question.new.out.items
    ≡ out ++ (first ++ meant_question (option_map (λ rule. rule.now) meant)))) (sym c.in-Some.is)
    (appended c.write_question.result out _ _ first _ c.in_ok-write_rule.ensures c.write_question.ensures)
