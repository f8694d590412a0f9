use Rattle.std.proofs.Common.{◌≡◌, ℕ, List, IfOk, codes, string_bytes, subst, sym}
use Rattle.serde_json.specs.Data.{no_members}
use Rattle.serde_json.specs.Events.{SendsValue}
use Rattle.serde_json.specs.Written.{compact_text}
use Rattle.peg_semantics.specs.Rules.{names}
use Rattle.peg_grammar.specs.GrammarRules.{rules_in}
use Rattle.peg_tree.specs.Events.{SendsNestedText}
use Rattle.peg_tree.specs.Trees.{Trees}
use Rattle.peg_json.specs.Reply.{matched_data, text_rows_data, text_tree_member}
use Rattle.peg_json.specs.Sending.{SendsMatch, spans_of}
use Rattle.peg_json.specs.declared.tree_form.TreeForm.TheVariants.{Nested, Rows, NoTree}
use Rattle.peg_json.proofs.AnswerLemmas.{text_match-without_floats}
use Rattle.peg_json.proofs.Sent.{match-text, nested_text-text}
use Rattle.peg_listings.proofs.SentText.{IsTextSentBy, value-text}
use Rattle.peg_json.proofs.text_lines.matched_with_text.Goals as goal

pub returns-in-Rows : goal.returns-in-Rows
returns-in-Rows c =
    let reported = c.args.summary in
    let places = spans_of reported.expected in
    let list = names (rules_in c.args.grammar.now) in
    let text = c.args.text.now in
    let tree = c.args.tree.now in
    let Sends : List (List ℕ) → List ℕ → Trees → Type 0 = λ names text tree. IsTextSentBy (SendsMatch reported.partial reported.end reported.far places (codes "rows")
    (SendsValue (text_rows_data names text tree))) c.text_of.result in
    let named = subst (λ n. Sends (names (rules_in n)) c.new.result.text.now c.new.result.tree.now) c.new.ensures.names c.text_of.ensures in
    let read = subst (λ t. Sends list t c.new.result.tree.now) c.new.ensures.text named in
    let sent = subst (λ t. Sends list text t) c.new.ensures.tree read in
    subst (λ f. IfOk c.text_of.result (λ json. string_bytes json
    ≡ compact_text (matched_data reported.partial reported.end reported.far places (text_tree_member f list text tree)))) (sym c.in-Rows.is)
    (match-text c.text_of.result reported.partial reported.end reported.far places (codes "rows") (text_rows_data list text tree)
    (text_match-without_floats reported.partial reported.end reported.far places Rows list text tree) sent)

pub returns-in-Nested : goal.returns-in-Nested
returns-in-Nested c =
    let reported = c.args.summary in
    let places = spans_of reported.expected in
    let list = names (rules_in c.args.grammar.now) in
    let text = c.args.text.now in
    let tree = c.args.tree.now in
    let result = c.text_of-in-Nested.result in
    let new = c.new-in-Nested in
    let Sends : List (List ℕ) → List ℕ → Trees → Type 0 = λ names text tree. IsTextSentBy (SendsMatch reported.partial reported.end reported.far places (codes "tree")
    (SendsNestedText names text tree)) result in
    let named = subst (λ n. Sends (names (rules_in n)) new.result.text.now new.result.tree.now) new.ensures.names c.text_of-in-Nested.ensures in
    let read = subst (λ t. Sends list t new.result.tree.now) new.ensures.text named in
    let sent = subst (λ t. Sends list text t) new.ensures.tree read in
    subst (λ f. IfOk result (λ json. string_bytes json
    ≡ compact_text (matched_data reported.partial reported.end reported.far places (text_tree_member f list text tree)))) (sym c.in-Nested.is)
    (nested_text-text result reported.partial reported.end reported.far places (codes "tree") list text tree
    (text_match-without_floats reported.partial reported.end reported.far places Nested list text tree) sent)

pub returns-in-NoTree : goal.returns-in-NoTree
returns-in-NoTree c =
    let reported = c.args.summary in
    let places = spans_of reported.expected in
    let list = names (rules_in c.args.grammar.now) in
    let text = c.args.text.now in
    let tree = c.args.tree.now in
    subst (λ f. IfOk c.text_of-in-NoTree.result (λ json. string_bytes json
    ≡ compact_text (matched_data reported.partial reported.end reported.far places (text_tree_member f list text tree)))) (sym c.in-NoTree.is)
    (value-text c.text_of-in-NoTree.result (matched_data reported.partial reported.end reported.far places no_members)
    (text_match-without_floats reported.partial reported.end reported.far places NoTree list text tree) c.text_of-in-NoTree.ensures)
