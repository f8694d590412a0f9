use Rattle.std.proofs.Common.{◌≡◌, ◌++◌, ℕ, List, OnOk, codes, subst}
use Rattle.peg_messages.proofs.AppendLemmas.{appended}
use Rattle.peg_messages.proofs.sentences.write_question.Goals as goal

pub returns : goal.returns
returns c =
    let out = c.args.out.now.items in
    subst (λ (rule : List ℕ). OnOk c.write_two.result
    (c.write_two.new.out.items ≡ out ++ (codes ": did you mean " ++ (rule ++ codes "?")))) c.as_bytes.ensures.value
    (appended c.write_two.result out _ _ (codes ": did you mean ") (c.as_bytes.result.now ++ codes "?")
    c.in_ok-extend_from_slice.ensures.items c.write_two.ensures)
