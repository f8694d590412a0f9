-- What the content of a handle gives; a null handle has no content and gives nothing.
use Rattle.std.specs.Prelude.{◌≡◌, ℕ, ◌≤◌, Bool, List, [], Option, None, Some}
use Rattle.peg_parser.specs.Accepts.{Accepts}
use Rattle.peg_parser.specs.Engine.{shown_parser_rules}
use Rattle.peg_parser.specs.Parser.{parser_rules}
use Rattle.peg_semantics.specs.Rules.{Rule}
use Rattle.peg_tree.specs.declared.outcome.Parsed.{Parsed}
use Rattle.peg_tree.specs.declared.outcome.Parsed.TheVariants as parsed
use Rattle.peg_handle.specs.Answers.{IsAnswerTo, IsSelectedAnswerTo}
use Rattle.peg_handle.specs.Contents.{content_expected, content_explainer, content_mismatch, content_grammar}
use Rattle.peg_handle.specs.Contents.{content_info, content_json, content_line}
use Rattle.peg_handle.specs.Contents.{content_message, content_name, content_nodes, content_parser, content_reason}
use Rattle.peg_handle.specs.Contents.{content_rules}
use Rattle.peg_handle.specs.Contents.{content_spans, content_summary}
use Rattle.peg_handle.specs.Explanations.{IsCompiled, IsExplanationOf}
use Rattle.peg_handle.specs.Rejections.{IsRejectionOf}
use Rattle.peg_handle.specs.Selections.{Selects}
use Rattle.peg_handle.specs.declared.content.Content.{Content}
use Rattle.peg_handle.specs.declared.content.Content.TheVariants.{Accepted, Rejected, Answered, Explained, Explaining, Printed, Selecting}
use Rattle.peg_handle.specs.declared.content.FileSpan.{FileSpan}
use Rattle.peg_handle.specs.declared.content.GrammarFile.{GrammarFile}
use Rattle.peg_handle.specs.declared.content.PrintedLine.{PrintedLine}
use Rattle.peg_handle.specs.declared.content.SelectingParser.{SelectingParser}
use Rattle.peg_handle.specs.declared.content.TextExplainer.{TextExplainer}
use Rattle.peg_handle.specs.declared.explanation_calls.MismatchInfo.{MismatchInfo}
use Rattle.peg_handle.specs.declared.nodes.Node.{Node}
use Rattle.peg_handle.specs.declared.refusal_info.RefusalInfo.{RefusalInfo}
use Rattle.peg_handle.specs.declared.summary.Summary.{Summary}

-- the handle holds the parser of this grammar file, which is accepted
abbrev pub HoldsParserOf : (file : List ℕ) → Option Content → Type 0
HoldsParserOf file None = ⊥
HoldsParserOf file (Some (Accepted grammar)) = (grammar.bytes.items ≡ file) × Accepts file (parser_rules grammar.parser)
HoldsParserOf file (Some (Rejected rejection)) = ⊥
HoldsParserOf file (Some (Answered found)) = ⊥
HoldsParserOf file (Some (Explained explanation)) = ⊥
HoldsParserOf file (Some (Explaining explainer)) = ⊥
HoldsParserOf file (Some (Printed line)) = ⊥
HoldsParserOf file (Some (Selecting parser)) = ⊥

-- the handle holds the reason why this grammar file is rejected
abbrev pub HoldsRejectionOf : (file : List ℕ) → Option Content → Type 0
HoldsRejectionOf file None = ⊥
HoldsRejectionOf file (Some (Accepted grammar)) = ⊥
HoldsRejectionOf file (Some (Rejected rejection)) = IsRejectionOf file rejection
HoldsRejectionOf file (Some (Answered found)) = ⊥
HoldsRejectionOf file (Some (Explained explanation)) = ⊥
HoldsRejectionOf file (Some (Explaining explainer)) = ⊥
HoldsRejectionOf file (Some (Printed line)) = ⊥
HoldsRejectionOf file (Some (Selecting parser)) = ⊥

-- the handle holds an answer of this grammar to a text from a start
abbrev pub HoldsAnswerTo : List Rule → (text start : List ℕ) → (memo : ℕ) → Option Content → Type 0
HoldsAnswerTo rules text start memo None = ⊥
HoldsAnswerTo rules text start memo (Some (Accepted grammar)) = ⊥
HoldsAnswerTo rules text start memo (Some (Rejected rejection)) = ⊥
HoldsAnswerTo rules text start memo (Some (Answered found)) = IsAnswerTo rules text start memo found
HoldsAnswerTo rules text start memo (Some (Explained explanation)) = ⊥
HoldsAnswerTo rules text start memo (Some (Explaining explainer)) = ⊥
HoldsAnswerTo rules text start memo (Some (Printed line)) = ⊥
HoldsAnswerTo rules text start memo (Some (Selecting parser)) = ⊥

-- the handle holds the explanation of a text from a start, by this grammar file
abbrev pub HoldsExplanationOf : GrammarFile → (name text : List ℕ) → (start : Option (List ℕ)) → Option Content → Type 0
HoldsExplanationOf file name text start None = ⊥
HoldsExplanationOf file name text start (Some (Accepted grammar)) = ⊥
HoldsExplanationOf file name text start (Some (Rejected rejection)) = ⊥
HoldsExplanationOf file name text start (Some (Answered found)) = ⊥
HoldsExplanationOf file name text start (Some (Explained explanation)) =
    IsExplanationOf file name text start (Some explanation)
HoldsExplanationOf file name text start (Some (Explaining explainer)) = ⊥
HoldsExplanationOf file name text start (Some (Printed line)) = ⊥
HoldsExplanationOf file name text start (Some (Selecting parser)) = ⊥

-- the handle holds the compiled explainer of this grammar file, which is accepted
abbrev pub HoldsExplainerOf : (file : List ℕ) → Option Content → Type 0
HoldsExplainerOf file None = ⊥
HoldsExplainerOf file (Some (Accepted grammar)) = ⊥
HoldsExplainerOf file (Some (Rejected rejection)) = ⊥
HoldsExplainerOf file (Some (Answered found)) = ⊥
HoldsExplainerOf file (Some (Explained explanation)) = ⊥
HoldsExplainerOf file (Some (Explaining explainer)) =
    (explainer.grammar.bytes.items ≡ file) × Accepts file (parser_rules explainer.grammar.parser) × IsCompiled explainer
HoldsExplainerOf file (Some (Printed line)) = ⊥
HoldsExplainerOf file (Some (Selecting parser)) = ⊥

-- the handle holds a parser of this grammar file, which is accepted, for trees of the rules that the bytes show
abbrev pub HoldsSelectingParserOf : (file shown : List ℕ) → Option Content → Type 0
HoldsSelectingParserOf file shown None = ⊥
HoldsSelectingParserOf file shown (Some (Accepted grammar)) = ⊥
HoldsSelectingParserOf file shown (Some (Rejected rejection)) = ⊥
HoldsSelectingParserOf file shown (Some (Answered found)) = ⊥
HoldsSelectingParserOf file shown (Some (Explained explanation)) = ⊥
HoldsSelectingParserOf file shown (Some (Explaining explainer)) = ⊥
HoldsSelectingParserOf file shown (Some (Printed line)) = ⊥
HoldsSelectingParserOf file shown (Some (Selecting parser)) =
    Accepts file (shown_parser_rules parser.parser) × Selects shown parser

-- the handle holds an answer of this grammar to a text from a start, with the nodes of shown rules
abbrev pub HoldsSelectedAnswerTo : (shown : Option (List Bool)) → List Rule → (text start : List ℕ) → (memo : ℕ)
    → Option Content → Type 0
HoldsSelectedAnswerTo shown rules text start memo None = ⊥
HoldsSelectedAnswerTo shown rules text start memo (Some (Accepted grammar)) = ⊥
HoldsSelectedAnswerTo shown rules text start memo (Some (Rejected rejection)) = ⊥
HoldsSelectedAnswerTo shown rules text start memo (Some (Answered found)) =
    IsSelectedAnswerTo shown rules text start memo found
HoldsSelectedAnswerTo shown rules text start memo (Some (Explained explanation)) = ⊥
HoldsSelectedAnswerTo shown rules text start memo (Some (Explaining explainer)) = ⊥
HoldsSelectedAnswerTo shown rules text start memo (Some (Printed line)) = ⊥
HoldsSelectedAnswerTo shown rules text start memo (Some (Selecting parser)) = ⊥

-- the handle holds a line of this kind
abbrev pub HoldsLine : (PrintedLine → Type 0) → Option Content → Type 0
HoldsLine Kind None = ⊥
HoldsLine Kind (Some (Accepted grammar)) = ⊥
HoldsLine Kind (Some (Rejected rejection)) = ⊥
HoldsLine Kind (Some (Answered found)) = ⊥
HoldsLine Kind (Some (Explained explanation)) = ⊥
HoldsLine Kind (Some (Explaining explainer)) = ⊥
HoldsLine Kind (Some (Printed line)) = Kind line
HoldsLine Kind (Some (Selecting parser)) = ⊥

abbrev pub IsMatched : Parsed → Type 0
IsMatched parsed.Failed = ⊥
IsMatched (parsed.Matched end tree) = Unit {0}

-- the handle holds an answer by which a prefix of the text matched
abbrev pub HoldsMatched : Option Content → Type 0
HoldsMatched None = ⊥
HoldsMatched (Some (Accepted grammar)) = ⊥
HoldsMatched (Some (Rejected rejection)) = ⊥
HoldsMatched (Some (Answered found)) = IsMatched found.answer.outcome.result
HoldsMatched (Some (Explained explanation)) = ⊥
HoldsMatched (Some (Explaining explainer)) = ⊥
HoldsMatched (Some (Printed line)) = ⊥
HoldsMatched (Some (Selecting parser)) = ⊥

-- the handle holds an answer by which no prefix of the text matched
abbrev pub HoldsFailed : Option Content → Type 0
HoldsFailed None = ⊥
HoldsFailed (Some (Accepted grammar)) = ⊥
HoldsFailed (Some (Rejected rejection)) = ⊥
HoldsFailed (Some (Answered found)) = ¬ IsMatched found.answer.outcome.result
HoldsFailed (Some (Explained explanation)) = ⊥
HoldsFailed (Some (Explaining explainer)) = ⊥
HoldsFailed (Some (Printed line)) = ⊥
HoldsFailed (Some (Selecting parser)) = ⊥

-- the handle holds an answer that took at most this many steps
abbrev pub HoldsWithin : (limit : ℕ) → Option Content → Type 0
HoldsWithin limit None = ⊥
HoldsWithin limit (Some (Accepted grammar)) = ⊥
HoldsWithin limit (Some (Rejected rejection)) = ⊥
HoldsWithin limit (Some (Answered found)) = found.answer.steps ≤ limit
HoldsWithin limit (Some (Explained explanation)) = ⊥
HoldsWithin limit (Some (Explaining explainer)) = ⊥
HoldsWithin limit (Some (Printed line)) = ⊥
HoldsWithin limit (Some (Selecting parser)) = ⊥

abbrev pub held_rules : Option Content → Option (List Rule)
held_rules None = None
held_rules (Some content) = content_rules content

abbrev pub held_explainer : Option Content → Option TextExplainer
held_explainer None = None
held_explainer (Some content) = content_explainer content

abbrev pub held_name : Option Content → (rule : ℕ) → List ℕ
held_name None rule = []
held_name (Some content) rule = content_name content rule

abbrev pub held_json : Option Content → List ℕ
held_json None = []
held_json (Some content) = content_json content

abbrev pub held_reason : Option Content → List ℕ
held_reason None = []
held_reason (Some content) = content_reason content

abbrev pub held_info : Option Content → Option RefusalInfo
held_info None = None
held_info (Some content) = content_info content

abbrev pub held_summary : Option Content → Option Summary
held_summary None = None
held_summary (Some content) = content_summary content

abbrev pub held_nodes : Option Content → List Node
held_nodes None = []
held_nodes (Some content) = content_nodes content

abbrev pub held_spans : Option Content → List FileSpan
held_spans None = []
held_spans (Some content) = content_spans content

abbrev pub held_grammar : Option Content → Option GrammarFile
held_grammar None = None
held_grammar (Some content) = content_grammar content

abbrev pub held_message : Option Content → List ℕ
held_message None = []
held_message (Some content) = content_message content

abbrev pub held_expected : Option Content → List FileSpan
held_expected None = []
held_expected (Some content) = content_expected content

abbrev pub held_mismatch : Option Content → Option MismatchInfo
held_mismatch None = None
held_mismatch (Some content) = content_mismatch content

abbrev pub held_line : Option Content → List ℕ
held_line None = []
held_line (Some content) = content_line content

abbrev pub held_parser : Option Content → Option SelectingParser
held_parser None = None
held_parser (Some content) = content_parser content
