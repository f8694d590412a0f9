-- Describes code: the tasks of commands.
use Rattle.std.specs.Prelude.{option_map}
use Rattle.peg_parser.specs.Parser.{start_named}
use Rattle.peg_parser.specs.declared.options.ParseOptions.{ParseOptions}
use Rattle.peg_json.specs.TreeForms.{form_from_options}
use Rattle.peg_replies.specs.PrintedNodes.{PrintedNodes, AllNodes, NodesOf, NodesExcept, names_listed}
use Rattle.peg_replies.specs.Task.{ToolTask, TableTask, CheckTask, CodeTask, LintTask, ProfileTask, ParseTask}
use Rattle.peg_replies.specs.declared.command.Command.{Command}
use Rattle.peg_replies.specs.declared.command.Command.TheVariants.{Table, Check, Code, Lint, Profile, Parse}
use Rattle.peg_replies.specs.declared.nodes.Nodes.{Nodes}
use Rattle.peg_replies.specs.declared.nodes.Nodes.TheVariants.{All, Show, Hide}
use Rattle.peg_replies.specs.declared.tree_printing.TreePrinting.{TreePrinting}

-- the nodes that are printed
abbrev pub nodes_asked : Nodes → PrintedNodes
nodes_asked All = AllNodes
nodes_asked (Show list) = NodesOf (names_listed list.now)
nodes_asked (Hide list) = NodesExcept (names_listed list.now)

-- the task of a command
abbrev pub task_of : Command → ToolTask
task_of Table = TableTask
task_of Check = CheckTask
task_of Code = CodeTask
task_of (Lint start selection) = LintTask (option_map (λ name. name.now) start) selection
task_of (Profile options) = ProfileTask (start_named options) options.memo options.steps
task_of (Parse options all rows no_tree nodes text) =
    ParseTask (start_named options) options.memo options.steps all (form_from_options rows no_tree) (nodes_asked nodes)
    text

-- the task of a parse whose answer is printed so
abbrev pub parse_task : ParseOptions → TreePrinting → ToolTask
parse_task options printing = ParseTask (start_named options) options.memo options.steps printing.all printing.form
    (nodes_asked printing.nodes) printing.with_bytes
