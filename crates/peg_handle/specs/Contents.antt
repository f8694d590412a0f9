-- The content of a handle, as C code sees it.
use Rattle.std.specs.Prelude.{ℕ, List, [], Option, None, Some, string_bytes}
use Rattle.peg_parser.specs.Parser.{parser_rules}
use Rattle.peg_semantics.specs.Rules.{Rule, name_of}
use Rattle.peg_handle.specs.Explanations.{mismatch_info}
use Rattle.peg_handle.specs.Nodes.{match_nodes}
use Rattle.peg_handle.specs.Summaries.{match_summary}
use Rattle.peg_handle.specs.declared.content.Content.{Content}
use Rattle.peg_handle.specs.declared.content.Content.TheVariants.{Accepted, Rejected, Answered, Explained, Explaining, Printed, Selecting}
use Rattle.peg_handle.specs.declared.content.FileSpan.{FileSpan}
use Rattle.peg_handle.specs.declared.content.GrammarFile.{GrammarFile}
use Rattle.peg_handle.specs.declared.content.SelectingParser.{SelectingParser}
use Rattle.peg_handle.specs.declared.content.TextExplainer.{TextExplainer}
use Rattle.peg_handle.specs.declared.explanation_calls.MismatchInfo.{MismatchInfo}
use Rattle.peg_handle.specs.declared.nodes.Node.{Node}
use Rattle.peg_handle.specs.declared.refusal_info.RefusalInfo.{RefusalInfo}
use Rattle.peg_handle.specs.declared.summary.Summary.{Summary}

-- the rules of a grammar, if the content is one
abbrev pub content_rules : Content → Option (List Rule)
content_rules (Accepted grammar) = Some (parser_rules grammar.parser)
content_rules (Rejected rejection) = None
content_rules (Answered found) = None
content_rules (Explained explanation) = None
content_rules (Explaining explainer) = None
content_rules (Printed line) = None
content_rules (Selecting parser) = None

-- an accepted grammar file and its parser, if the content is one
abbrev pub content_grammar : Content → Option GrammarFile
content_grammar (Accepted grammar) = Some grammar
content_grammar (Rejected rejection) = None
content_grammar (Answered found) = None
content_grammar (Explained explanation) = None
content_grammar (Explaining explainer) = None
content_grammar (Printed line) = None
content_grammar (Selecting parser) = None

-- a grammar file that explains texts, if the content is one
abbrev pub content_explainer : Content → Option TextExplainer
content_explainer (Accepted grammar) = None
content_explainer (Rejected rejection) = None
content_explainer (Answered found) = None
content_explainer (Explained explanation) = None
content_explainer (Explaining explainer) = Some explainer
content_explainer (Printed line) = None
content_explainer (Selecting parser) = None

-- the name of a rule; no bytes if there is no such rule, or no grammar
abbrev pub content_name : Content → (rule : ℕ) → List ℕ
content_name (Accepted grammar) rule = name_of (parser_rules grammar.parser) rule
content_name (Rejected rejection) rule = []
content_name (Answered found) rule = []
content_name (Explained explanation) rule = []
content_name (Explaining explainer) rule = []
content_name (Printed line) rule = []
content_name (Selecting parser) rule = []

-- the line of JSON of a refusal; no bytes if there is no refusal
abbrev pub content_json : Content → List ℕ
content_json (Accepted grammar) = []
content_json (Rejected rejection) = string_bytes rejection.json
content_json (Answered found) = []
content_json (Explained explanation) = []
content_json (Explaining explainer) = []
content_json (Printed line) = []
content_json (Selecting parser) = []

-- the message of a refusal, after the name of the file; no bytes if there is no refusal
abbrev pub content_reason : Content → List ℕ
content_reason (Accepted grammar) = []
content_reason (Rejected rejection) = rejection.message.items
content_reason (Answered found) = []
content_reason (Explained explanation) = []
content_reason (Explaining explainer) = []
content_reason (Printed line) = []
content_reason (Selecting parser) = []

-- the kind and the place of a refusal
abbrev pub content_info : Content → Option RefusalInfo
content_info (Accepted grammar) = None
content_info (Rejected rejection) = Some rejection.info
content_info (Answered found) = None
content_info (Explained explanation) = None
content_info (Explaining explainer) = None
content_info (Printed line) = None
content_info (Selecting parser) = None

-- the summary of an answer
abbrev pub content_summary : Content → Option Summary
content_summary (Accepted grammar) = None
content_summary (Rejected rejection) = None
content_summary (Answered found) = Some (match_summary found)
content_summary (Explained explanation) = None
content_summary (Explaining explainer) = None
content_summary (Printed line) = None
content_summary (Selecting parser) = None

-- the nodes of the tree of an answer; none if there is no tree
abbrev pub content_nodes : Content → List Node
content_nodes (Accepted grammar) = []
content_nodes (Rejected rejection) = []
content_nodes (Answered found) = match_nodes found
content_nodes (Explained explanation) = []
content_nodes (Explaining explainer) = []
content_nodes (Printed line) = []
content_nodes (Selecting parser) = []

-- the spans of the terminals that failed furthest; none if there is no answer
abbrev pub content_spans : Content → List FileSpan
content_spans (Accepted grammar) = []
content_spans (Rejected rejection) = []
content_spans (Answered found) = found.expected.items
content_spans (Explained explanation) = []
content_spans (Explaining explainer) = []
content_spans (Printed line) = []
content_spans (Selecting parser) = []

-- the message of an explanation; no bytes if there is no explanation
abbrev pub content_message : Content → List ℕ
content_message (Accepted grammar) = []
content_message (Rejected rejection) = []
content_message (Answered found) = []
content_message (Explained explanation) = explanation.message.items
content_message (Explaining explainer) = []
content_message (Printed line) = []
content_message (Selecting parser) = []

-- the spans of the items that an explanation expects; none if there is no explanation
abbrev pub content_expected : Content → List FileSpan
content_expected (Accepted grammar) = []
content_expected (Rejected rejection) = []
content_expected (Answered found) = []
content_expected (Explained explanation) = explanation.expected.items
content_expected (Explaining explainer) = []
content_expected (Printed line) = []
content_expected (Selecting parser) = []

-- an explanation without its message
abbrev pub content_mismatch : Content → Option MismatchInfo
content_mismatch (Accepted grammar) = None
content_mismatch (Rejected rejection) = None
content_mismatch (Answered found) = None
content_mismatch (Explained explanation) = Some (mismatch_info explanation)
content_mismatch (Explaining explainer) = None
content_mismatch (Printed line) = None
content_mismatch (Selecting parser) = None

-- a line that pegtool prints; no bytes if there is none
abbrev pub content_line : Content → List ℕ
content_line (Accepted grammar) = []
content_line (Rejected rejection) = []
content_line (Answered found) = []
content_line (Explained explanation) = []
content_line (Explaining explainer) = []
content_line (Printed line) = string_bytes line.json
content_line (Selecting parser) = []

-- a parser whose trees have the nodes of chosen rules, if the content is one
abbrev pub content_parser : Content → Option SelectingParser
content_parser (Accepted grammar) = None
content_parser (Rejected rejection) = None
content_parser (Answered found) = None
content_parser (Explained explanation) = None
content_parser (Explaining explainer) = None
content_parser (Printed line) = None
content_parser (Selecting parser) = Some parser
