-- The explanation of a text: the message for the outcome of its parse.
use Rattle.std.specs.Prelude.{◌≡◌, ◌≢◌, ◌⊎◌, ◌≤◌, ℕ, Bool, true, false, not, ◌&&◌, ◌||◌, if◌then◌else◌, List, [], ◌∷◌}
use Rattle.std.specs.Prelude.{◌++◌, codes, drop, IfSome, Option, None, Some, length, map, nat_le, option_map, slice_get}
use Rattle.std.specs.Prelude.{take, unwrap_or}
use Rattle.std.specs.List.{list_any, prefix_len}
use Rattle.peg_blame.specs.BlameOutcome.{IsBlameOutcome}
use Rattle.peg_blame.specs.Faults.{CanBeBlamed, IsBlameRefusal}
use Rattle.peg_blame.specs.declared.fault.BlameFault.{BlameFault}
use Rattle.peg_blame.specs.declared.fault.BlameFault.TheVariants.{Memory}
use Rattle.peg_bytes.specs.Extent.{Extent, between, extent}
use Rattle.peg_diagnostics.specs.Diagnostic.{diagnostic_rules}
use Rattle.peg_diagnostics.specs.ItemKinds.{kinds_of_items}
use Rattle.peg_diagnostics.specs.Items.{extents_of_items, rules_of_items}
use Rattle.peg_diagnostics.specs.declared.kinds.ItemKind.{ItemKind}
use Rattle.peg_grammar.specs.Outcomes.{IsParseOutcome}
use Rattle.peg_messages.specs.Failures.{failure_message}
use Rattle.peg_messages.specs.declared.failure.Failure.{Failure}
use Rattle.peg_messages.specs.declared.lines.TextLines.{TextLines}
use Rattle.peg_messages.specs.declared.lines.TextLines.TheVariants.{File}
use Rattle.peg_machine.specs.declared.answer.Answer.{Answer}
use Rattle.peg_messages.specs.declared.items.Item.{Item}
use Rattle.peg_parser.specs.Calls.{IsSumOfSteps}
use Rattle.peg_parser.specs.StepLimits.{TakesMoreSteps}
use Rattle.peg_semantics.specs.Record.{RuleCall}
use Rattle.peg_semantics.specs.Rules.{Rule, names}
use Rattle.peg_semantics.specs.Starts.{start_name}
use Rattle.peg_semantics.specs.Terminals.{extents_of_terminals}
use Rattle.peg_spacing.specs.Spacing.{has_flag, spacing_of}
use Rattle.peg_tree.specs.declared.outcome.Outcome.{Outcome}
use Rattle.peg_explain.specs.Names.{AreRests, is_class_or_dot, is_part, numbered_extent, outermost_rules, stands_for}
use Rattle.peg_explain.specs.declared.mismatch.Analysis.{Analysis}
use Rattle.peg_explain.specs.declared.mismatch.Analysis.TheVariants.{Items, Tests}
use Rattle.peg_explain.specs.declared.mismatch.ExpectedItem.{ExpectedItem}
use Rattle.peg_explain.specs.declared.mismatch.Mismatch.{Mismatch}
use Rattle.peg_explain.specs.declared.mismatch.Wording.{Wording}
use Rattle.peg_explain.specs.declared.mismatch.Wording.TheVariants.{LeftOut, RuleName, Spelling}
use Rattle.peg_explain.specs.declared.names.Rest.{Rest}
use Rattle.peg_explain.specs.declared.style.ItemStyle.{ItemStyle}
use Rattle.peg_explain.specs.Reports.{are_items_expected, is_end_expected, is_whole_match, named_position}

-- the most items that a message looks at
unfoldable pub max_items : ℕ
max_items = 65536

-- What is known of the items that a message can name: the extent of each in the grammar file, the number of the rule
-- and the kind of each, the rules that are left out as spacing, the outcomes of the rest of the text from rules that are
-- called at the position, and which failures were analysed.
pub record ItemFacts : Type 0 where
  pub extents : List Extent
  pub rules : List ℕ
  pub kinds : List ItemKind
  pub spacing : List Bool
  pub rests : List Rest
  pub analysis : Analysis

-- what is known by a blame
abbrev pub facts_by_blame : List Rule → (spacing : List Bool) → List Rest → ItemFacts
facts_by_blame rules spacing rests = record {
  extents = extents_of_items rules;
  rules = rules_of_items rules;
  kinds = kinds_of_items rules;
  spacing = spacing;
  rests = rests;
  analysis = Items;
}

-- what is known by the failed tests of terminals: neither their rules nor which calls are outside predicates
abbrev pub facts_by_tests : List Rule → ItemFacts
facts_by_tests rules =
    record { extents = extents_of_terminals rules; rules = []; kinds = []; spacing = []; rests = []; analysis = Tests }

-- ---- what is expected

-- what an explanation says of an expected item
pub record ItemFact : Type 0 where
  pub extent : Extent
  pub rule : Option ℕ
  pub wording : Wording

abbrev pub fact_of : ExpectedItem → ItemFact
fact_of item = record { extent = extent item.span; rule = item.rule; wording = item.wording }

-- whether the rule of an item is known and stands for the item
abbrev pub is_named_after : List Rest → Option ℕ → (item : ℕ) → Bool
is_named_after rests None item = false
is_named_after rests (Some rule) item = stands_for rests rule item

-- the rule of an item is known and is left out as spacing
abbrev pub is_in_spacing : (spacing : List Bool) → Option ℕ → Bool
is_in_spacing spacing None = false
is_in_spacing spacing (Some rule) = has_flag spacing rule

-- How an item is written. An item in spacing is left out. So is a part of a rule that fails at once, since the rule is
-- written. Another class or dot is named after its rule if the rule stands for it.
abbrev pub item_wording : ItemFacts → (number : ℕ) → Wording
item_wording facts number =
    if is_in_spacing facts.spacing (slice_get facts.rules number) then LeftOut else
    if is_part facts.rests (length facts.extents) number then LeftOut else
    if is_class_or_dot facts.kinds number && is_named_after facts.rests (slice_get facts.rules number) number
    then RuleName else Spelling

-- the item with a number
abbrev pub item_numbered : ItemFacts → (number : ℕ) → ItemFact
item_numbered facts number = record {
  extent = numbered_extent facts.extents number;
  rule = slice_get facts.rules number;
  wording = item_wording facts number;
}

-- the items that are expected at a position
abbrev pub expected_items : ItemFacts → Outcome → List ItemFact
expected_items facts outcome =
    if are_items_expected outcome.result outcome.far
    then map (item_numbered facts) (take max_items outcome.expected.items) else []

-- A mismatch is that of an outcome, given what is known of the items.
pub record IsMismatchOf (facts : ItemFacts) (outcome : Outcome) (mismatch : Mismatch) : Type 0 where
  pub at : mismatch.at ≡ named_position outcome.result outcome.far
  pub items : map fact_of mismatch.expected.items ≡ expected_items facts outcome
  pub rules : mismatch.rules.items ≡ outermost_rules facts.rests
  pub end : mismatch.is_end_expected ≡ is_end_expected outcome.result outcome.far
  pub analysis : mismatch.analysis ≡ facts.analysis

-- A text that matched as a whole has no mismatch. Otherwise the mismatch is that of the outcome.
abbrev pub HasMismatch : ItemFacts → (text : List ℕ) → Outcome → Option Mismatch → Type 0
HasMismatch facts text outcome None = is_whole_match outcome.result (length text) ≡ true
HasMismatch facts text outcome (Some mismatch) =
    (is_whole_match outcome.result (length text) ≡ false) × IsMismatchOf facts outcome mismatch

-- ---- messages

-- an item of a message: its bytes in the grammar file, the rule that it is said to be in, a name in its place, and
-- whether it is left out
pub record MessageItem : Type 0 where
  pub extent : Extent
  pub rule : Option (List ℕ)
  pub name : Option (List ℕ)
  pub is_left_out : Bool

abbrev pub message_item_of : Item → MessageItem
message_item_of item = record {
  extent = extent item.span;
  rule = option_map (λ rule. rule.now) item.rule;
  name = option_map (λ name. name.now) item.name;
  is_left_out = item.is_left_out;
}

-- the name of the rule with a number, if there is one
abbrev pub rule_name : List Rule → Option ℕ → Option (List ℕ)
rule_name rules None = None
rule_name rules (Some rule) = slice_get (names rules) rule

-- where the rule with a number is defined, if there is one
abbrev pub defined_extent : List Rule → (rule : ℕ) → Extent
defined_extent rules rule = unwrap_or (option_map (λ r. r.span) (slice_get rules rule)) (between 0 0)

-- a rule as an item of a message: its name, where it is defined
abbrev pub rule_item : List Rule → (rule : ℕ) → MessageItem
rule_item rules rule = record {
  extent = defined_extent rules rule;
  rule = None;
  name = rule_name rules (Some rule);
  is_left_out = false;
}

-- An item is written by its bytes, and then its rule may follow, or as the name of its rule, or it is left out.
abbrev pub worded_item : Wording → Extent → (rule : Option (List ℕ)) → (shows_rule : Bool) → MessageItem
worded_item Spelling extent rule shows_rule =
    record { extent = extent; rule = if shows_rule then rule else None; name = None; is_left_out = false }
worded_item RuleName extent rule shows_rule = record { extent = extent; rule = None; name = rule; is_left_out = false }
worded_item LeftOut extent rule shows_rule = record { extent = extent; rule = None; name = None; is_left_out = true }

abbrev pub shown_item : List Rule → ItemStyle → ExpectedItem → MessageItem
shown_item rules style item = worded_item item.wording (extent item.span) (rule_name rules item.rule) style.shows_rules

-- a rule has no greater number than the rule of an item, if that is known
abbrev pub is_before : Option ℕ → (rule : ℕ) → Bool
is_before None rule = false
is_before (Some own) rule = nat_le rule own

-- Rules and items in the order of the grammar file, given each in this order. A rule comes before its own items.
abbrev pub in_file_order : List Rule → ItemStyle → (named : List ℕ) → List ExpectedItem → List MessageItem
in_file_order rules style named [] = map (rule_item rules) named
in_file_order rules style named (item ∷ items) =
    let before = prefix_len (is_before item.rule) named in
    map (rule_item rules) (take before named)
    ++ shown_item rules style item ∷ in_file_order rules style (drop before named) items

-- a failure shows a mismatch in a text with these lines
pub record IsFailureOf (file : List ℕ) (rules : List Rule) (style : ItemStyle) (lines : TextLines) (name text : List ℕ)
    (mismatch : Mismatch) (failure : Failure) : Type 0 where
  pub named : failure.name.now ≡ name
  pub has_text : failure.text.now ≡ text
  pub has_lines : failure.lines ≡ lines
  pub has_grammar : failure.grammar.now ≡ file
  pub at : failure.at ≡ mismatch.at
  pub items : map message_item_of failure.expected.now
      ≡ in_file_order rules style mismatch.rules.items mismatch.expected.items
  pub end : failure.is_end_expected ≡ mismatch.is_end_expected

-- the note at the end of a message, if terminals in predicates count
abbrev pub note_text : Analysis → List ℕ
note_text Items = []
note_text Tests = codes "note: failures in predicates are included\n"

-- the message for a mismatch in a text with these lines, and its note
abbrev pub IsMismatchMessageIn : (file : List ℕ) → List Rule → ItemStyle → TextLines → (name text : List ℕ) → Mismatch
    → (message : List ℕ) → Type 0
IsMismatchMessageIn file rules style lines name text mismatch message =
    (failure : Failure) × IsFailureOf file rules style lines name text mismatch failure
    × (message ≡ failure_message failure ++ note_text mismatch.analysis)

-- the message for a mismatch in a file
abbrev pub IsMismatchMessage : (file : List ℕ) → List Rule → ItemStyle → (name text : List ℕ) → Mismatch
    → (message : List ℕ) → Type 0
IsMismatchMessage file rules style name text mismatch message =
    IsMismatchMessageIn file rules style File name text mismatch message

-- There is no message for a text that has no mismatch. Otherwise it is the message for the mismatch of the outcome.
abbrev pub HasMessage : (file : List ℕ) → List Rule → ItemStyle → ItemFacts → TextLines → (name text : List ℕ)
    → Outcome → Option (List ℕ) → Type 0
HasMessage file rules style facts lines name text outcome None = HasMismatch facts text outcome None
HasMessage file rules style facts lines name text outcome (Some message) = (mismatch : Mismatch)
    × HasMismatch facts text outcome (Some mismatch)
    × IsMismatchMessageIn file rules style lines name text mismatch message

-- Something besides spacing is expected: the end of the text, or one of the items that a message looks at.
abbrev pub is_more_expected : (spacing : List Bool) → (rules_of_items : List ℕ) → Outcome → Bool
is_more_expected spacing rules_of_items outcome =
    is_end_expected outcome.result outcome.far
    || list_any (λ item. not (is_in_spacing spacing (slice_get rules_of_items item)))
    (take max_items outcome.expected.items)

-- The rules that a message leaves out: those that are in spacing, if the style uses names and more is expected.
abbrev pub left_out_spacing : List Rule → ItemStyle → Outcome → List Bool
left_out_spacing rules style outcome =
    if style.uses_names && is_more_expected (spacing_of rules) (rules_of_items rules) outcome
    then spacing_of rules else []

-- The rules have no parser of blame, for another reason than memory: they aren't well-formed, the name of a rule
-- contains an exclamation mark, or their diagnostic grammar is over a limit.
abbrev pub HasNoBlameParser : List Rule → Type 0
HasNoBlameParser rules = (fault : BlameFault) × IsBlameRefusal rules fault × (fault ≢ Memory)

-- A message names rules if the style does and items are expected. None are, if the text matches as a whole.
abbrev pub names_rules : ItemStyle → (bytes : ℕ) → Outcome → Bool
names_rules style bytes outcome =
    style.uses_names && not (is_whole_match outcome.result bytes) && are_items_expected outcome.result outcome.far

-- the rests by which a message names rules at a position, given the calls of a blame: none if it names none
abbrev pub AreRestsBy : (names_rules : Bool) → List Rule → (spacing : List Bool) → (text start : List ℕ) → List RuleCall
    → (at : ℕ) → List Rest → Type 0
AreRestsBy false rules spacing text start calls at rests = rests ≡ []
AreRestsBy true rules spacing text start calls at rests = AreRests rules spacing text start calls at rests

-- the same for the message for an outcome, given the calls of its blame
abbrev pub AreRestsFor : List Rule → ItemStyle → (text start : List ℕ) → Outcome → List RuleCall → List Rest → Type 0
AreRestsFor rules style text start outcome calls rests =
    AreRestsBy (names_rules style (length text) outcome) rules (left_out_spacing rules style outcome) text start calls
    (named_position outcome.result outcome.far) rests

-- What an explanation says of a text from a start rule, given what is known of the items and the outcome: by the blame of
-- items; or by the failed tests of terminals, if the rules have no parser of blame.
pub data IsExplained (rules : List Rule) (style : ItemStyle) (text start : List ℕ)
    (Says : ItemFacts → Outcome → Type 0) : Type 0 where
  by_blame : (outcome : Outcome) → (is : IsBlameOutcome rules text start outcome) → (rests : List Rest)
      → AreRestsFor rules style text start outcome is.blame.calls rests
      → Says (facts_by_blame rules (left_out_spacing rules style outcome) rests) outcome
      → IsExplained rules style text start Says
  by_tests : (outcome : Outcome) → HasNoBlameParser rules → IsParseOutcome rules text start outcome
      → Says (facts_by_tests rules) outcome → IsExplained rules style text start Says

-- the mismatch in a text from a start rule, or nothing for a text that matches as a whole
abbrev pub IsMismatchIn : List Rule → ItemStyle → (text start : List ℕ) → Option Mismatch → Type 0
IsMismatchIn rules style text start mismatch =
    IsExplained rules style text start (λ facts outcome. HasMismatch facts text outcome mismatch)

-- The explanation of a text with these lines from a start rule: the message, or nothing for a text that matches as a
-- whole.
abbrev pub IsExplanationIn : (file : List ℕ) → List Rule → ItemStyle → TextLines → (name text start : List ℕ)
    → Option (List ℕ) → Type 0
IsExplanationIn file rules style lines name text start message =
    IsExplained rules style text start
    (λ facts outcome. HasMessage file rules style facts lines name text outcome message)

-- the explanation of a file
abbrev pub IsExplanation : (file : List ℕ) → List Rule → ItemStyle → (name text start : List ℕ) → Option (List ℕ)
    → Type 0
IsExplanation file rules style name text start message =
    IsExplanationIn file rules style File name text start message

-- The parse that an explanation needs takes more steps than the limit: the parse by the diagnostic rules if the rules
-- have a parser of blame, else the parse by the rules themselves.
abbrev pub ExplainingTakesMoreSteps : List Rule → (text : List ℕ) → (start : Option (List ℕ)) → (max_steps : Option ℕ)
    → Type 0
ExplainingTakesMoreSteps rules text start max_steps =
    (CanBeBlamed rules × TakesMoreSteps (diagnostic_rules rules) text start max_steps)
    ⊎ (HasNoBlameParser rules × TakesMoreSteps rules text start max_steps)

-- The parse that an explanation needs takes no more steps than the limit. It is the parse by the diagnostic rules if the
-- rules have a parser of blame, else the parse by the rules themselves.
abbrev pub ExplainingStaysWithin : List Rule → (text : List ℕ) → (start : Option (List ℕ)) → (max_steps : Option ℕ)
    → Type 0
ExplainingStaysWithin rules text start max_steps =
    (CanBeBlamed rules × ¬ TakesMoreSteps (diagnostic_rules rules) text start max_steps)
    ⊎ (HasNoBlameParser rules × ¬ TakesMoreSteps rules text start max_steps)

-- The steps of an answer stay within the limit. They are those of a list of calls, which as a set are those of Ford's
-- record of the text from the start.
pub record HasStepsWithin (rules : List Rule) (text : List ℕ) (start : Option (List ℕ)) (max_steps : Option ℕ)
    (answer : Answer) : Type 0 where
  pub from : List ℕ
  pub named : start_name rules start ≡ Some from
  pub sum : IsSumOfSteps rules text from answer
  pub allowed : (limit : ℕ) → max_steps ≡ Some limit → answer.steps ≤ limit

-- The parse that an explanation needs has an answer whose steps stay within the limit, with a memo, too. It is the
-- parse by the diagnostic rules if the rules have a parser of blame, else the parse by the rules themselves.
abbrev pub ExplainingAnswersWithin : List Rule → (text : List ℕ) → (start : Option (List ℕ)) → (max_steps : Option ℕ)
    → Type 0
ExplainingAnswersWithin rules text start max_steps =
    (CanBeBlamed rules × ((answer : Answer)
    × IfSome (start_name rules start) (λ from. IsBlameOutcome rules text from answer.outcome)
    × HasStepsWithin (diagnostic_rules rules) text start max_steps answer))
    ⊎ (HasNoBlameParser rules × ((answer : Answer)
    × IfSome (start_name rules start) (λ from. IsParseOutcome rules text from answer.outcome)
    × HasStepsWithin rules text start max_steps answer))
