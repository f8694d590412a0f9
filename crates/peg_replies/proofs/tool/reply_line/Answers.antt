use Rattle.std.proofs.Common.{◌≡◌, ◌∙◌, ℕ, ◌+◌, ◌<◌, ◌≤◌, List, IfOk, length, option_map, subst, sym, ap, arith}
use Rattle.std.specs.Io.KnownBytes.{IsAtEnd}
use Rattle.peg_metagrammar.specs.Notation.{max_file_bytes}
use Rattle.peg_semantics.specs.Rules.{Rule}
use Rattle.peg_parser.specs.Accepts.{Accepts}
use Rattle.peg_parser.specs.Parser.{start_named}
use Rattle.peg_json.specs.Statuses.{status_code}
use Rattle.peg_json.specs.declared.tree_form.TreeForm.{TreeForm}
use Rattle.peg_replies.specs.Commands.{nodes_asked, task_of}
use Rattle.peg_replies.specs.Replies.{IsPrinted}
use Rattle.peg_replies.specs.Task.{ToolTask, TableTask, CheckTask, CodeTask, LintTask, ProfileTask, ParseTask, IsTextOf, ListsUnknown}
use Rattle.peg_replies.proofs.RunLemmas.{IsRightFor, line-held, reported-held, held-rules}
use Rattle.peg_replies.proofs.tool.reply_line.Goals as goal
use Rattle.peg_json.specs.Lines.{line_bytes}

pub returns-in-Table-clause-answer : goal.returns-in-Table-clause-answer
returns-in-Table-clause-answer g c =
    let held = c.in_ok-file.file in
    let reply = c.in_ok-table_file-in-Table.field-0 in
    let line = line_bytes reply in
    let text = g.T.Source.left c.args.text.now in
    let task = task_of c.args.command.now in
    let is : TableTask ≡ task = sym (ap task_of c.in-Table.is) in
    let right : IsRightFor task text held.items line (status_code reply.status) =
    λ bytes any. subst (λ (t : ToolTask). IsPrinted t held.items bytes line (status_code reply.status)) is
    (subst (λ (l : List ℕ). IsPrinted TableTask l bytes line (status_code reply.status)) c.deref.ensures.value
    (c.in_ok-table_file-in-Table.ensures bytes)) in
    let within : length held.items ≤ max_file_bytes + 1 = omega (arith, held.ok.0, c.in_ok-file.ensures.limit) in
    let at_end : length held.items < max_file_bytes + 1 → IsAtEnd (g.G.Source.left c.read_up_to.new.input) =
    λ less. c.in_ok-file.ensures.end (omega (arith, held.ok.0)) in
    line-held task text (g.G.Source.left c.args.grammar.now) (g.G.Source.left c.read_up_to.new.input) held.items line
    (status_code reply.status) c.in_ok-file.ensures.bytes within at_end right

pub returns-in-Check-clause-answer : goal.returns-in-Check-clause-answer
returns-in-Check-clause-answer g c =
    let held = c.in_ok-file.file in
    let reply = c.in_ok-check_file-in-Check.field-0 in
    let line = line_bytes reply in
    let text = g.T.Source.left c.args.text.now in
    let task = task_of c.args.command.now in
    let is : CheckTask ≡ task = sym (ap task_of c.in-Check.is) in
    let right : IsRightFor task text held.items line (status_code reply.status) =
    λ bytes any. subst (λ (t : ToolTask). IsPrinted t held.items bytes line (status_code reply.status)) is
    (subst (λ (l : List ℕ). IsPrinted CheckTask l bytes line (status_code reply.status)) c.deref-in-Check.ensures.value
    (c.in_ok-check_file-in-Check.ensures bytes)) in
    let within : length held.items ≤ max_file_bytes + 1 = omega (arith, held.ok.0, c.in_ok-file.ensures.limit) in
    let at_end : length held.items < max_file_bytes + 1 → IsAtEnd (g.G.Source.left c.read_up_to.new.input) =
    λ less. c.in_ok-file.ensures.end (omega (arith, held.ok.0)) in
    line-held task text (g.G.Source.left c.args.grammar.now) (g.G.Source.left c.read_up_to.new.input) held.items line
    (status_code reply.status) c.in_ok-file.ensures.bytes within at_end right

pub returns-in-Code-clause-answer : goal.returns-in-Code-clause-answer
returns-in-Code-clause-answer g c =
    let held = c.in_ok-file.file in
    let reply = c.in_ok-code_file-in-Code.field-0 in
    let line = line_bytes reply in
    let text = g.T.Source.left c.args.text.now in
    let task = task_of c.args.command.now in
    let is : CodeTask ≡ task = sym (ap task_of c.in-Code.is) in
    let right : IsRightFor task text held.items line (status_code reply.status) =
    λ bytes any. subst (λ (t : ToolTask). IsPrinted t held.items bytes line (status_code reply.status)) is
    (subst (λ (l : List ℕ). IsPrinted CodeTask l bytes line (status_code reply.status)) c.deref-in-Code.ensures.value
    (c.in_ok-code_file-in-Code.ensures bytes)) in
    let within : length held.items ≤ max_file_bytes + 1 = omega (arith, held.ok.0, c.in_ok-file.ensures.limit) in
    let at_end : length held.items < max_file_bytes + 1 → IsAtEnd (g.G.Source.left c.read_up_to.new.input) =
    λ less. c.in_ok-file.ensures.end (omega (arith, held.ok.0)) in
    line-held task text (g.G.Source.left c.args.grammar.now) (g.G.Source.left c.read_up_to.new.input) held.items line
    (status_code reply.status) c.in_ok-file.ensures.bytes within at_end right

pub returns-in-Lint-clause-answer : goal.returns-in-Lint-clause-answer
returns-in-Lint-clause-answer g c =
    let held = c.in_ok-file.file in
    let reply = c.in_ok-lint_file-in-Lint.field-0 in
    let line = line_bytes reply in
    let text = g.T.Source.left c.args.text.now in
    let task = task_of c.args.command.now in
    let start = option_map (λ name. name.now) c.in-Lint.start in
    let is : LintTask start c.in-Lint.selection ≡ task = sym (ap task_of c.in-Lint.is) in
    let right : IsRightFor task text held.items line (status_code reply.status) =
    λ bytes any. subst (λ (t : ToolTask). IsPrinted t held.items bytes line (status_code reply.status)) is
    (subst (λ (l : List ℕ). IsPrinted (LintTask start c.in-Lint.selection) l bytes line (status_code reply.status)) c.deref-in-Lint.ensures.value
    (c.in_ok-lint_file-in-Lint.ensures bytes)) in
    let within : length held.items ≤ max_file_bytes + 1 = omega (arith, held.ok.0, c.in_ok-file.ensures.limit) in
    let at_end : length held.items < max_file_bytes + 1 → IsAtEnd (g.G.Source.left c.read_up_to.new.input) =
    λ less. c.in_ok-file.ensures.end (omega (arith, held.ok.0)) in
    line-held task text (g.G.Source.left c.args.grammar.now) (g.G.Source.left c.read_up_to.new.input) held.items line
    (status_code reply.status) c.in_ok-file.ensures.bytes within at_end right

pub returns-in-Profile-clause-answer : goal.returns-in-Profile-clause-answer
returns-in-Profile-clause-answer g c =
    let held = c.in_ok-file.file in
    let text = g.T.Source.left c.args.text.now in
    let task = task_of c.args.command.now in
    let options = c.in-Profile.options in
    let asked = ProfileTask (start_named options) options.memo options.steps in
    let is : asked ≡ task = sym (ap task_of c.in-Profile.is) in
    let right : (bytes : List ℕ) → IsTextOf task held.items text bytes
    → IfOk c.profile_reply.result (λ line. IsPrinted task held.items bytes (line_bytes line) (status_code line.status)) =
    subst (λ (t : ToolTask). (bytes : List ℕ) → IsTextOf t held.items text bytes
    → IfOk c.profile_reply.result (λ line. IsPrinted t held.items bytes (line_bytes line) (status_code line.status))) is
    (subst (λ (l : List ℕ). (bytes : List ℕ) → IsTextOf asked l text bytes
    → IfOk c.profile_reply.result (λ line. IsPrinted asked l bytes (line_bytes line) (status_code line.status)))
    c.deref-in-Profile.ensures.value c.profile_reply.ensures.answer) in
    let within : length held.items ≤ max_file_bytes + 1 = omega (arith, held.ok.0, c.in_ok-file.ensures.limit) in
    let at_end : length held.items < max_file_bytes + 1 → IsAtEnd (g.G.Source.left c.read_up_to.new.input) =
    λ less. c.in_ok-file.ensures.end (omega (arith, held.ok.0)) in
    reported-held c.profile_reply.result task text (g.G.Source.left c.args.grammar.now)
    (g.G.Source.left c.read_up_to.new.input) held.items c.in_ok-file.ensures.bytes within at_end right

pub returns-clause-answer : goal.returns-clause-answer
returns-clause-answer g c =
    let held = c.in_ok-file.file in
    let text = g.T.Source.left c.args.text.now in
    let task = task_of c.args.command.now in
    let start = start_named c.in-Parse.options in
    let memo = c.in-Parse.options.memo in
    let steps = c.in-Parse.options.steps in
    let nodes = nodes_asked c.in-Parse.nodes in
    let asked = ParseTask start memo steps c.in-Parse.all c.from_options-form.result nodes c.in-Parse.with_bytes in
    let is : asked ≡ task =
    ap (λ (form : TreeForm). ParseTask start memo steps c.in-Parse.all form nodes c.in-Parse.with_bytes) c.from_options-form.ensures
    ∙ sym (ap task_of c.in-Parse.is) in
    let right : (bytes : List ℕ) → IsTextOf task held.items text bytes
    → IfOk c.parse_reply.result (λ line. IsPrinted task held.items bytes (line_bytes line) (status_code line.status)) =
    subst (λ (t : ToolTask). (bytes : List ℕ) → IsTextOf t held.items text bytes
    → IfOk c.parse_reply.result (λ line. IsPrinted t held.items bytes (line_bytes line) (status_code line.status))) is
    (subst (λ (l : List ℕ). (bytes : List ℕ) → IsTextOf asked l text bytes
    → IfOk c.parse_reply.result (λ line. IsPrinted asked l bytes (line_bytes line) (status_code line.status)))
    c.deref-in-Parse.ensures.value c.parse_reply.ensures.answer) in
    let within : length held.items ≤ max_file_bytes + 1 = omega (arith, held.ok.0, c.in_ok-file.ensures.limit) in
    let at_end : length held.items < max_file_bytes + 1 → IsAtEnd (g.G.Source.left c.read_up_to.new.input) =
    λ less. c.in_ok-file.ensures.end (omega (arith, held.ok.0)) in
    reported-held c.parse_reply.result task text (g.G.Source.left c.args.grammar.now) (g.G.Source.left c.read_up_to.new.input)
    held.items c.in_ok-file.ensures.bytes within at_end right

pub returns-clause-refused : goal.returns-clause-refused
returns-clause-refused g c =
    let held = c.in_ok-file.file in
    let at_end : length held.items < max_file_bytes + 1 → IsAtEnd (g.G.Source.left c.read_up_to.new.input) =
    λ less. c.in_ok-file.ensures.end (omega (arith, held.ok.0)) in
    held-rules (g.G.Source.left c.args.grammar.now) (g.G.Source.left c.read_up_to.new.input) held.items (λ rules. ⊥) _
    c.in_ok-file.ensures.bytes at_end
    (λ none. c.parse_reply.ensures.refused (subst (λ (l : List ℕ). (rules : List Rule) → ¬ Accepts l rules)
    (sym c.deref-in-Parse.ensures.value) none))

pub returns-clause-unknown : goal.returns-clause-unknown
returns-clause-unknown g c =
    let held = c.in_ok-file.file in
    let at_end : length held.items < max_file_bytes + 1 → IsAtEnd (g.G.Source.left c.read_up_to.new.input) =
    λ less. c.in_ok-file.ensures.end (omega (arith, held.ok.0)) in
    held-rules (g.G.Source.left c.args.grammar.now) (g.G.Source.left c.read_up_to.new.input) held.items
    (ListsUnknown (task_of c.args.command.now)) _ c.in_ok-file.ensures.bytes at_end
    (λ lists. c.parse_reply.ensures.unknown (λ rules accepts. subst (λ (t : ToolTask). ListsUnknown t rules)
    (ap task_of c.in-Parse.is) (lists rules (subst (λ (l : List ℕ). Accepts l rules) c.deref-in-Parse.ensures.value accepts))))
