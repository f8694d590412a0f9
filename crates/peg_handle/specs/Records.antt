-- Records of a text, and the answers to them.
use Rattle.std.specs.Prelude.{◌≡◌, ◌≢◌, ◌≤◌, ◌<◌, ◌+◌, ◌↔◌, ◌&&◌, ℕ, Bool, true, false, List, [], ◌∷◌, ◌++◌}
use Rattle.std.specs.Prelude.{Ok, Err, Result, Some, IfErr, IfOk, IsErrOf, OnOk, drop, length, min, nat_le, slice_get, slice_range, take}
use Rattle.peg_grammar.specs.Limits.{max_text_bytes}
use Rattle.peg_parser.specs.Engine.{rules_shown, shown_parser_rules}
use Rattle.peg_parser.specs.StepLimits.{TakesMoreSteps}
use Rattle.peg_tree.specs.declared.outcome.Parsed.{Parsed}
use Rattle.peg_tree.specs.declared.outcome.Parsed.TheVariants as parsed
use Rattle.peg_handle.specs.Answers.{IsSelectedAnswerTo}
use Rattle.peg_handle.specs.Nodes.{match_nodes}
use Rattle.peg_handle.specs.Starts.{start_of_bytes, step_limit}
use Rattle.peg_handle.specs.Summaries.{consumed_bytes}
use Rattle.peg_handle.specs.declared.content.Match.{Match}
use Rattle.peg_handle.specs.declared.content.SelectingParser.{SelectingParser}
use Rattle.peg_handle.specs.declared.nodes.Node.{Node}
use Rattle.peg_handle.specs.declared.records.RecordProgress.{RecordProgress}
use Rattle.peg_handle.specs.declared.records.TextRecord.{TextRecord}
use Rattle.peg_handle.specs.declared.status.TheConstants.{DONE, FAILED, OUT_OF_RANGE, STEP_LIMIT, TEXT_TOO_LONG}

-- What the records of a text are parsed by: the parser, the bytes that name the start, the capacity of the memo, and
-- the limit of steps of each parse, which is 0 for none.
pub record RecordParse : Type 0 where
  pub selecting : SelectingParser
  pub text : List ℕ
  pub start : List ℕ
  pub memo : ℕ
  pub steps : ℕ

-- the parse of records by these
abbrev pub record_parse : SelectingParser → (text start : List ℕ) → (memo steps : ℕ) → RecordParse
record_parse selecting text start memo steps =
    record { selecting = selecting; text = text; start = start; memo = memo; steps = steps }

-- whether the span of a record is in a text
abbrev pub is_in_text : (text : List ℕ) → TextRecord → Bool
is_in_text text given = nat_le given.start given.end && nat_le given.end (length text)

-- the bytes of a record
abbrev pub record_bytes : (text : List ℕ) → TextRecord → List ℕ
record_bytes text given = slice_range text given.start given.end

-- a parse of these bytes takes more steps than the limit
abbrev pub ExceedsLimit : RecordParse → (bytes : List ℕ) → Type 0
ExceedsLimit asked bytes =
    TakesMoreSteps (shown_parser_rules asked.selecting.parser) bytes (start_of_bytes asked.start) (step_limit asked.steps)

-- The result of the parse of a record as a text of its own: the answer, or the status that says why there is none.
-- There is none if the span of the record isn't in the text, if the record is too long, or for the limit of steps.
pub record IsRecordResult (asked : RecordParse) (given : TextRecord) (result : Result Match ℕ) : Type 0 where
  pub answer : IfOk result (IsSelectedAnswerTo (rules_shown asked.selecting.parser)
      (shown_parser_rules asked.selecting.parser) (record_bytes asked.text given) asked.start asked.memo)
  pub outside : IsErrOf result OUT_OF_RANGE ↔ (is_in_text asked.text given ≡ false)
  pub long : is_in_text asked.text given ≡ true
      → (IsErrOf result TEXT_TOO_LONG ↔ (max_text_bytes < length (record_bytes asked.text given)))
  pub allowed : IfOk result (λ found. (limit : ℕ) → step_limit asked.steps ≡ Some limit → found.answer.steps ≤ limit)
  pub limited : IsErrOf result STEP_LIMIT → ExceedsLimit asked (record_bytes asked.text given)
  -- without a memo there is no answer if more steps are needed
  pub enough : asked.memo ≡ 0 → OnOk result (¬ ExceedsLimit asked (record_bytes asked.text given))
  pub statuses : IfErr result (λ status. status ≢ OUT_OF_RANGE → status ≢ TEXT_TOO_LONG → status ≡ STEP_LIMIT)

-- the nodes of a result; none without an answer
abbrev pub result_nodes : Result Match ℕ → List Node
result_nodes (Ok found) = match_nodes found
result_nodes (Err status) = []

abbrev pub match_status : Parsed → ℕ
match_status parsed.Failed = FAILED
match_status (parsed.Matched end tree) = DONE

-- a record with the result of its parse, whose first node has this number
abbrev pub answered_record : TextRecord → (first : ℕ) → Result Match ℕ → TextRecord
answered_record given first (Ok found) = record {
  start = given.start;
  end = given.end;
  status = match_status found.answer.outcome.result;
  consumed = consumed_bytes found.answer.outcome.result;
  furthest = found.answer.outcome.far;
  first = first;
  nodes = length (match_nodes found);
}
answered_record given first (Err status) = record {
  start = given.start;
  end = given.end;
  status = status;
  consumed = 0;
  furthest = 0;
  first = first;
  nodes = 0;
}

-- Records, the same records with the results of their parses, and the nodes of all their trees. The nodes of a record
-- come after those of the records before it.
pub data AreRecordAnswers (asked : RecordParse) : (given answered : List TextRecord) → (nodes : List Node)
    → Type 0 where
  no_records : AreRecordAnswers asked [] [] []
  one_more : (given answered : List TextRecord) (nodes : List Node) (next : TextRecord) (result : Result Match ℕ)
      → AreRecordAnswers asked given answered nodes → IsRecordResult asked next result
      → AreRecordAnswers asked (given ++ next ∷ []) (answered ++ answered_record next (length nodes) result ∷ [])
      (nodes ++ result_nodes result)

-- the greatest number of nodes that fit into an array of this length: their numbers have 32 bits
abbrev pub node_room : (capacity : ℕ) → ℕ
node_room capacity = min capacity 4294967295

-- the next record has this many nodes, which are more than fit after the nodes that are used
pub record LacksRoom (asked : RecordParse) (next : TextRecord) (capacity used wanted : ℕ) : Type 0 where
  pub result : Result Match ℕ
  pub is : IsRecordResult asked next result
  pub count : length (result_nodes result) ≡ wanted
  pub room : node_room capacity < used + wanted

-- The first records have their answers, and all others are unchanged. If nodes are wanted, they are those of the record
-- after these, for which there is no room. If there are records, one has its answer, or nodes are wanted.
pub record AnswersRecords (asked : RecordParse) (old new : List TextRecord) (nodes_old nodes_new : List Node)
    (progress : RecordProgress) : Type 0 where
  pub answers : AreRecordAnswers asked (take progress.records old) (take progress.records new)
      (take progress.nodes nodes_new)
  pub records_within : progress.records ≤ length old
  pub nodes_within : progress.nodes ≤ node_room (length nodes_old)
  pub other_records : drop progress.records new ≡ drop progress.records old
  pub other_nodes : drop progress.nodes nodes_new ≡ drop progress.nodes nodes_old
  pub lacks : 0 < progress.wanted → (next : TextRecord) × (slice_get old progress.records ≡ Some next)
      × LacksRoom asked next (length nodes_old) progress.nodes progress.wanted
  pub begins : 0 < length old → progress.records ≡ 0 → 0 < progress.wanted
