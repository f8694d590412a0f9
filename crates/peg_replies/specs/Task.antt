-- The tasks of the tool.
use Rattle.std.specs.Prelude.{◌≡◌, ℕ, Bool, false, IsSome, List, Option, None, Some}
use Rattle.peg_coverage.specs.declared.text_match.RequiredMatch.{RequiredMatch}
use Rattle.peg_io.specs.NamedFile.{NamedFile}
use Rattle.peg_semantics.specs.Rules.{Rule}
use Rattle.peg_lint.specs.declared.warning.Selection.{Selection}
use Rattle.peg_parser.specs.Accepts.{Accepts}
use Rattle.peg_json.specs.declared.tree_form.TreeForm.{TreeForm}
use Rattle.peg_json.specs.declared.tree_form.TreeForm.TheVariants.{Nested}
use Rattle.peg_replies.specs.PrintedNodes.{PrintedNodes, AllNodes, first_unknown}

-- A task: print the table of outcomes, check whether the grammar is accepted, print its code, print the warnings about
-- it, parse a text, print the profile of a parse, or print what the texts in files use of the grammar. Warnings and a
-- parse have a start rule (the first one without a name). `selection` says which warnings are printed. A parse has the
-- capacity of its memo (0 for none) and an optional step limit. `all` asks for a match of the whole text, `form` is that
-- of the printed tree, and `nodes` says which of its nodes are printed. `with_bytes` asks for the bytes of nodes without
-- children.
pub data ToolTask : Type 0 where
  TableTask : ToolTask
  CheckTask : ToolTask
  CodeTask : ToolTask
  LintTask : (start : Option (List ℕ)) → (selection : Selection) → ToolTask
  ProfileTask : (start : Option (List ℕ)) → (memo : ℕ) → (steps : Option ℕ) → ToolTask
  CoverTask : (files : List NamedFile) → (start : Option (List ℕ)) → (memo : ℕ) → (steps : Option ℕ)
      → (needed : RequiredMatch) → ToolTask
  ParseTask : (start : Option (List ℕ)) → (memo : ℕ) → (steps : Option ℕ) → (all : Bool) → (form : TreeForm)
      → (nodes : PrintedNodes) → (with_bytes : Bool) → ToolTask

-- the capacity of the memo where none is given
abbrev pub default_memo : ℕ
default_memo = 4096

-- a parse from the first rule without a step limit, where a prefix may match, with a nested tree of all nodes
abbrev pub default_task : ToolTask
default_task = ParseTask None default_memo None false Nested AllNodes false

-- whether a task needs the grammar to be accepted
abbrev pub Checks : ToolTask → Type 0
Checks TableTask = ⊥
Checks CheckTask = Unit {0}
Checks CodeTask = Unit {0}
Checks (LintTask start selection) = Unit {0}
Checks (ProfileTask start memo steps) = Unit {0}
Checks (CoverTask files start memo steps needed) = Unit {0}
Checks (ParseTask start memo steps all form nodes with_bytes) = Unit {0}

-- Whether a task has a text: whether it parses one. The texts in files of a task are a part of it.
abbrev pub HasText : ToolTask → Type 0
HasText TableTask = ⊥
HasText CheckTask = ⊥
HasText CodeTask = ⊥
HasText (LintTask start selection) = ⊥
HasText (ProfileTask start memo steps) = Unit {0}
HasText (CoverTask files start memo steps needed) = ⊥
HasText (ParseTask start memo steps all form nodes with_bytes) = Unit {0}

-- The text of a task on a grammar file: the unread bytes of its reader. Any text will do for a task that reads none
-- and for a file that isn't accepted.
abbrev pub IsTextOf : ToolTask → (file : List ℕ) → Option (List ℕ) → List ℕ → Type 0
IsTextOf TableTask file left text = Unit {0}
IsTextOf CheckTask file left text = Unit {0}
IsTextOf CodeTask file left text = Unit {0}
IsTextOf (LintTask start selection) file left text = Unit {0}
IsTextOf (ProfileTask start memo steps) file left text =
    (rules : List Rule) → Accepts file rules → left ≡ Some text
IsTextOf (CoverTask files start memo steps needed) file left text = Unit {0}
IsTextOf (ParseTask start memo steps all form nodes with_bytes) file left text =
    (rules : List Rule) → Accepts file rules → left ≡ Some text

-- a task lists the name of a rule that a grammar with these rules doesn't have
abbrev pub ListsUnknown : ToolTask → List Rule → Type 0
ListsUnknown (ParseTask start memo steps all form nodes with_bytes) rules = IsSome (first_unknown rules nodes)
ListsUnknown other rules = ⊥
