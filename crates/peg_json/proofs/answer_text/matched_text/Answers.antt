use Rattle.std.proofs.Common.{◌≡◌, IfOk, codes, string_bytes, subst, sym}
use Rattle.serde_json.specs.Data.{no_members}
use Rattle.serde_json.specs.Events.{SendsValue}
use Rattle.serde_json.specs.Written.{compact_text}
use Rattle.peg_semantics.specs.Rules.{names}
use Rattle.peg_grammar.specs.GrammarRules.{rules_in}
use Rattle.peg_tree.specs.Events.{SendsNested}
use Rattle.peg_json.specs.Reply.{matched_data, tree_member, tree_rows_data}
use Rattle.peg_json.specs.Sending.{SendsMatch, spans_of}
use Rattle.peg_json.specs.declared.tree_form.TreeForm.TheVariants.{Nested, Rows, NoTree}
use Rattle.peg_json.proofs.AnswerLemmas.{match-without_floats}
use Rattle.peg_json.proofs.Sent.{match-text, nested-text}
use Rattle.peg_listings.proofs.SentText.{IsTextSentBy, value-text}
use Rattle.peg_json.proofs.answer_text.matched_text.Goals as goal

pub returns-in-Rows : goal.returns-in-Rows
returns-in-Rows c =
    let reported = c.args.summary in
    let places = spans_of reported.expected in
    let list = names (rules_in c.args.grammar.now) in
    let tree = c.args.tree.now in
    let named = subst (λ n. IsTextSentBy (SendsMatch reported.partial reported.end reported.far places (codes "rows")
    (SendsValue (tree_rows_data (names (rules_in n)) c.new.result.tree.now))) c.text_of.result) c.new.ensures.names c.text_of.ensures in
    let sent = subst (λ t. IsTextSentBy (SendsMatch reported.partial reported.end reported.far places (codes "rows")
    (SendsValue (tree_rows_data list t))) c.text_of.result) c.new.ensures.tree named in
    subst (λ f. IfOk c.text_of.result (λ text. string_bytes text
    ≡ compact_text (matched_data reported.partial reported.end reported.far places (tree_member f list tree)))) (sym c.in-Rows.is)
    (match-text c.text_of.result reported.partial reported.end reported.far places (codes "rows") (tree_rows_data list tree)
    (match-without_floats reported.partial reported.end reported.far places Rows list tree) sent)

pub returns-in-Nested : goal.returns-in-Nested
returns-in-Nested c =
    let reported = c.args.summary in
    let places = spans_of reported.expected in
    let list = names (rules_in c.args.grammar.now) in
    let tree = c.args.tree.now in
    let result = c.text_of-in-Nested.result in
    let named = subst (λ n. IsTextSentBy (SendsMatch reported.partial reported.end reported.far places (codes "tree")
    (SendsNested (names (rules_in n)) c.new-in-Nested.result.tree.now)) result) c.new-in-Nested.ensures.names c.text_of-in-Nested.ensures in
    let sent = subst (λ t. IsTextSentBy (SendsMatch reported.partial reported.end reported.far places (codes "tree")
    (SendsNested list t)) result) c.new-in-Nested.ensures.tree named in
    subst (λ f. IfOk result (λ text. string_bytes text
    ≡ compact_text (matched_data reported.partial reported.end reported.far places (tree_member f list tree)))) (sym c.in-Nested.is)
    (nested-text result reported.partial reported.end reported.far places (codes "tree") list tree
    (match-without_floats reported.partial reported.end reported.far places Nested list tree) sent)

pub returns-in-NoTree : goal.returns-in-NoTree
returns-in-NoTree c =
    let reported = c.args.summary in
    let places = spans_of reported.expected in
    let list = names (rules_in c.args.grammar.now) in
    let tree = c.args.tree.now in
    subst (λ f. IfOk c.text_of-in-NoTree.result (λ text. string_bytes text
    ≡ compact_text (matched_data reported.partial reported.end reported.far places (tree_member f list tree)))) (sym c.in-NoTree.is)
    (value-text c.text_of-in-NoTree.result (matched_data reported.partial reported.end reported.far places no_members)
    (match-without_floats reported.partial reported.end reported.far places NoTree list tree) c.text_of-in-NoTree.ensures)
