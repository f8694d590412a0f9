-- Lines that pegtool prints about a grammar, and about a parse.
use Rattle.std.specs.Prelude.{◌≡◌, ℕ, List, [], ◌∷◌, ◌++◌, Option, string_bytes}
use Rattle.peg_code.specs.Code.{entries_of, program_code}
use Rattle.peg_core.specs.CoreForm.{core_bodies}
use Rattle.peg_lint.specs.declared.warning.Selection.{Selection}
use Rattle.peg_parser.specs.Engine.{shown_parser_rules}
use Rattle.peg_parser.specs.Parser.{parser_rules}
use Rattle.peg_semantics.specs.AbstractOutcomes.{Can}
use Rattle.peg_semantics.specs.RuleOutcomes.{AreAbstractOutcomes}
use Rattle.peg_semantics.specs.Rules.{Rule, names}
use Rattle.peg_json.specs.Lints.{LintsTo}
use Rattle.peg_json.specs.ProfileReplies.{ProfilesTo}
use Rattle.peg_json.specs.Reply.{Coded, Reply, Tabled, printed_line}
use Rattle.peg_handle.specs.declared.content.GrammarFile.{GrammarFile}
use Rattle.peg_handle.specs.declared.content.PrintedLine.{PrintedLine}
use Rattle.peg_handle.specs.declared.content.SelectingParser.{SelectingParser}

-- the line is pegtool's for this reply about a grammar file, without its line end
abbrev pub PrintsReply : (file : List ℕ) → Reply → PrintedLine → Type 0
PrintsReply file reply line = string_bytes line.json ++ 10 ∷ [] ≡ printed_line file reply

abbrev pub code_reply : List Rule → Reply
code_reply rules = Coded (program_code (core_bodies rules)) (entries_of (core_bodies rules))

-- the line of a grammar's code
abbrev pub IsCodeLine : GrammarFile → PrintedLine → Type 0
IsCodeLine grammar line = PrintsReply grammar.bytes.items (code_reply (parser_rules grammar.parser)) line

-- the line of the abstract outcomes of a grammar's rules
abbrev pub IsTableLine : GrammarFile → PrintedLine → Type 0
IsTableLine grammar line =
    (cans : List Can) × AreAbstractOutcomes (parser_rules grammar.parser) cans
    × PrintsReply grammar.bytes.items (Tabled (names (parser_rules grammar.parser)) cans) line

-- the line of the warnings about a grammar, whose texts are parsed from a start
abbrev pub IsLintLine : GrammarFile → (start : Option (List ℕ)) → Selection → PrintedLine → Type 0
IsLintLine grammar start selection line =
    (reply : Reply) × LintsTo grammar.bytes.items (parser_rules grammar.parser) start selection reply
    × PrintsReply grammar.bytes.items reply line

-- The line of the profile of a text's parse by the grammar of a parser. It is the same for all grammar files that have
-- this grammar.
abbrev pub IsProfileLine : SelectingParser → (text : List ℕ) → (start : Option (List ℕ)) → (memo : ℕ)
    → (steps : Option ℕ) → PrintedLine → Type 0
IsProfileLine parser text start memo steps line =
    (reply : Reply) × ProfilesTo (shown_parser_rules parser.parser) text start memo steps reply
    × ((file : List ℕ) → PrintsReply file reply line)
