use Rattle.std.proofs.Common.{◌∙◌, ℕ, ◌++◌, List, ap, arith, length, map, refl}
use Rattle.std.proofs.lemmas.List.{length-map}
use Rattle.peg_parser.specs.Parser.{parser_rules}
use Rattle.peg_explain.proofs.FileOrderLemmas.{length-in_file_order}
use Rattle.peg_messages.specs.Failures.{failure_message}
use Rattle.peg_messages.specs.declared.failure.Failure.{Failure}
use Rattle.peg_semantics.specs.Rules.{Rule}
use Rattle.peg_explain.specs.Explanations.{in_file_order, message_item_of, note_text}
use Rattle.peg_explain.proofs.explainer.Explainer.message_in.Goals as goal

pub write-requires-clause-few : goal.write-requires-clause-few
write-requires-clause-few c =
    let one = ap length c.in_ok-items.ensures.items in
    let two = length-map c.in_ok-items.items.items message_item_of in
    let three = length-in_file_order (parser_rules c.args.self.now.parser.now) c.args.self.now.style c.deref.result.now
    c.deref-2.result.now in
    let four = ap length c.deref.ensures.value in
    let five = ap length c.deref-2.ensures.value in
    let six = ap length c.deref-3.ensures.value in
    omega (arith, one, two, three, four, five, six, c.requires.few)

pub returns : goal.returns
returns c file rules of_explainer =
    let style = c.args.self.now.style in
    let failure : Failure = record {
      name = c.args.name;
      text = c.args.text;
      lines = c.args.lines;
      grammar = c.args.self.now.file;
      at = c.args.mismatch.now.at;
      expected = c.deref-3.result;
      is_end_expected = c.args.mismatch.now.is_end_expected;
    } in (
      failure,
      record {
        named = refl;
        has_text = refl;
        has_lines = refl;
        has_grammar = of_explainer.has_file;
        at = refl;
        items = ap (map message_item_of) c.deref-3.ensures.value ∙ c.in_ok-items.ensures.items
            ∙ ap (λ (all : List Rule). in_file_order all style c.deref.result.now c.deref-2.result.now) of_explainer.has_parser
            ∙ (λ i. in_file_order rules style (c.deref.ensures.value i) (c.deref-2.ensures.value i));
        end = refl;
      },
      c.in_ok-write_note.ensures ∙ ap (λ (l : List ℕ). l ++ note_text c.args.mismatch.now.analysis)
          (c.in_ok-write.ensures.message ∙ ap (λ (l : List ℕ). l ++ failure_message failure) c.new-message.ensures.items),
    )
