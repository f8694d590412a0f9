-- The line and the exit status of the tool's replies.
use Rattle.std.specs.Prelude.{ℕ, Bool, true, false, List, [], ◌∷◌, ◌++◌, codes, map, slice_index_or, if◌then◌else◌}
use Rattle.serde_json.specs.Data.{Data, Members, unsigned, number, string}
use Rattle.serde_json.specs.Data.{array, object, no_members, member}
use Rattle.serde_json.specs.Data.{null}
use Rattle.serde_json.specs.View.{items_of}
use Rattle.serde_json.specs.Written.{compact_text}
use Rattle.peg_bytes.specs.Extent.{Extent}
use Rattle.peg_semantics.specs.AbstractOutcomes.{Can}
use Rattle.peg_tree.specs.Trees.{Trees}
use Rattle.peg_tree.specs.Json.{nested_data, rows_data}
use Rattle.peg_tree.specs.TextJson.{nested_text_data, rows_text_data}
use Rattle.peg_coverage.specs.Unused.{AlternativeUse}
use Rattle.peg_code.specs.Instructions.{Instruction}
use Rattle.peg_lint.specs.declared.warning.Warning.{Warning}
use Rattle.peg_parser.specs.Cause.{Cause}
use Rattle.peg_profile.specs.declared.counts.RuleProfile.{RuleProfile}
use Rattle.peg_json.specs.CauseText.{bare_data, cause_data, cause_status}
use Rattle.peg_listings.specs.CodeText.{code_data}
use Rattle.peg_listings.specs.Extents.{extent_data}
use Rattle.peg_json.specs.CoverageText.{NamedUse, coverage_data, status_of_coverage, too_large_word}
use Rattle.peg_listings.specs.LintText.{lint_data, status_of_warnings}
use Rattle.peg_json.specs.ProfileText.{profile_data, status_of_end}
use Rattle.peg_listings.specs.TableText.{table_data}
use Rattle.peg_json.specs.declared.profile_end.ProfileEnd.{ProfileEnd}
use Rattle.peg_json.specs.declared.tree_form.TreeForm.{TreeForm}
use Rattle.peg_json.specs.declared.tree_form.TreeForm.TheVariants.{Nested, Rows, NoTree}

-- A reply of the tool: a refusal, a table of outcomes with the rules' names, or the number of rules of an accepted
-- grammar. Others are the code with the entry of each rule, the rules' names with warnings, a profile, what texts use,
-- a failure, and a match.
--
-- A profile has how the parse has ended, the number of its steps, and the rules' names with their profiles. What texts
-- use has the number of texts, how many of them match, the numbers of those whose parse was stopped, and the rules and
-- alternatives that are unused, each with whether it is tried; or the marked grammar, by which that is found, is over a
-- limit. A failure is the furthest failure: a position of the text, and the spans of terminals in the grammar file. A
-- match adds to these its end, the rules' names and the tree with its printed form. `partial` is a match shorter than
-- asked for. A match with text is one whose tree is printed with the bytes of each node without children.
pub data Reply : Type 0 where
  Refused : Cause → Reply
  Tabled : (names : List (List ℕ)) → (cans : List Can) → Reply
  Accepted : (rules : ℕ) → Reply
  Coded : (code : List Instruction) → (entries : List ℕ) → Reply
  Linted : (names : List (List ℕ)) → List Warning → Reply
  Profiled : (end : ProfileEnd) → (steps : ℕ) → (names : List (List ℕ)) → List RuleProfile → Reply
  Covered : (texts matched : ℕ) → (stopped : List ℕ) → (rules : List NamedUse)
      → (alternatives : List AlternativeUse) → Reply
  NoCoverage : Reply
  Failed : (far : ℕ) → (expected : List Extent) → Reply
  Matched : (partial : Bool) → TreeForm → (end far : ℕ) → (expected : List Extent) → (names : List (List ℕ))
      → (tree : Trees) → Reply
  MatchedWithText : (partial : Bool) → TreeForm → (end far : ℕ) → (expected : List Extent)
      → (names : List (List ℕ)) → (tree : Trees) → (text : List ℕ) → Reply

-- a match with the bytes of a text, if its tree is printed
abbrev pub match_with_text : (text : List ℕ) → (partial : Bool) → TreeForm → (end far : ℕ) → (expected : List Extent)
    → (names : List (List ℕ)) → (tree : Trees) → Reply
match_with_text text partial Nested end far expected names tree =
    MatchedWithText partial Nested end far expected names tree text
match_with_text text partial Rows end far expected names tree =
    MatchedWithText partial Rows end far expected names tree text
match_with_text text partial NoTree end far expected names tree = Matched partial NoTree end far expected names tree

-- the reply with the bytes of a text where a tree is printed
abbrev pub with_text : (text : List ℕ) → Reply → Reply
with_text text (Refused cause) = Refused cause
with_text text (Tabled names cans) = Tabled names cans
with_text text (Accepted rules) = Accepted rules
with_text text (Coded code entries) = Coded code entries
with_text text (Linted names warnings) = Linted names warnings
with_text text (Profiled end steps names profiles) = Profiled end steps names profiles
with_text text (Covered texts matched stopped rules alternatives) = Covered texts matched stopped rules alternatives
with_text text NoCoverage = NoCoverage
with_text text (Failed far expected) = Failed far expected
with_text text (Matched partial form end far expected names tree) =
    match_with_text text partial form end far expected names tree
with_text text (MatchedWithText partial form end far expected names tree other) =
    MatchedWithText partial form end far expected names tree other

-- the same if the bytes are asked for
abbrev pub with_text_if : (asked : Bool) → (text : List ℕ) → Reply → Reply
with_text_if false text reply = reply
with_text_if true text reply = with_text text reply

-- the exit status of a reply: 0 success, 1 a failed or partial match, warnings or anything unused, 6 a stopped parse,
-- otherwise that of the refusal
abbrev pub status_of : Reply → ℕ
status_of (Refused cause) = cause_status cause
status_of (Tabled names cans) = 0
status_of (Accepted rules) = 0
status_of (Coded code entries) = 0
status_of (Linted names warnings) = status_of_warnings warnings
status_of (Profiled end steps names profiles) = status_of_end end
status_of (Covered texts matched stopped rules alternatives) = status_of_coverage stopped rules alternatives
status_of NoCoverage = 6
status_of (Failed far expected) = 1
status_of (Matched partial form end far expected names tree) = if partial then 1 else 0
status_of (MatchedWithText partial form end far expected names tree text) = if partial then 1 else 0

abbrev pub expected_data : List Extent → Data
expected_data expected = array (items_of (map extent_data expected))

-- The JSON of a tree: the nested object of the first tree of the list, or the list of all nodes. The trees of an
-- outcome are one tree. An empty list would give `null`, which no reply has.
abbrev pub tree_data : List (List ℕ) → Trees → Data
tree_data names tree = slice_index_or (nested_data names tree) 0 null

abbrev pub tree_rows_data : List (List ℕ) → Trees → Data
tree_rows_data names tree = array (items_of (rows_data names 1 tree))

-- the last member of the JSON of a match, if the tree is printed
abbrev pub tree_member : TreeForm → List (List ℕ) → Trees → Members
tree_member Rows names tree = member (codes "rows") (tree_rows_data names tree) no_members
tree_member Nested names tree = member (codes "tree") (tree_data names tree) no_members
tree_member NoTree names tree = no_members

-- the same with the bytes of a text at each node without children
abbrev pub text_tree_data : List (List ℕ) → (text : List ℕ) → Trees → Data
text_tree_data names text tree = slice_index_or (nested_text_data names text tree) 0 null

abbrev pub text_rows_data : List (List ℕ) → (text : List ℕ) → Trees → Data
text_rows_data names text tree = array (items_of (rows_text_data names text 1 tree))

abbrev pub text_tree_member : TreeForm → List (List ℕ) → (text : List ℕ) → Trees → Members
text_tree_member Rows names text tree = member (codes "rows") (text_rows_data names text tree) no_members
text_tree_member Nested names text tree = member (codes "tree") (text_tree_data names text tree) no_members
text_tree_member NoTree names text tree = no_members

-- the `result` of a match: of all that was asked for, or of a part of it
abbrev pub match_word : (partial : Bool) → List ℕ
match_word true = codes "partial"
match_word false = codes "matched"

-- the JSON of a match
abbrev pub matched_data : (partial : Bool) → (end far : ℕ) → List Extent → (tree : Members) → Data
matched_data partial end far expected tree =
    object (member (codes "consumed") (number (unsigned end)) (member (codes "expected") (expected_data expected)
    (member (codes "far") (number (unsigned far)) (member (codes "result") (string (match_word partial)) tree))))

-- the JSON of a failure
abbrev pub failed_data : (far : ℕ) → List Extent → Data
failed_data far expected =
    object (member (codes "expected") (expected_data expected) (member (codes "far") (number (unsigned far))
    (member (codes "result") (string (codes "failed")) no_members)))

-- the JSON of an accepted grammar
abbrev pub accepted_data : (rules : ℕ) → Data
accepted_data rules =
    object (member (codes "result") (string (codes "accepted")) (member (codes "rules") (number (unsigned rules))
    no_members))

-- the JSON of a reply about this grammar file
abbrev pub printed : (file : List ℕ) → Reply → Data
printed file (Refused cause) = cause_data file cause
printed file (Tabled names cans) = table_data names cans
printed file (Accepted rules) = accepted_data rules
printed file (Coded code entries) = code_data code entries
printed file (Linted names warnings) = lint_data file names warnings
printed file (Profiled end steps names profiles) = profile_data end steps names profiles
printed file (Covered texts matched stopped rules alternatives) =
    coverage_data file texts matched stopped rules alternatives
printed file NoCoverage = bare_data too_large_word
printed file (Failed far expected) = failed_data far expected
printed file (Matched partial form end far expected names tree) =
    matched_data partial end far expected (tree_member form names tree)
printed file (MatchedWithText partial form end far expected names tree text) =
    matched_data partial end far expected (text_tree_member form names text tree)

-- the printed line, with its line end, byte 10
abbrev pub printed_line : (file : List ℕ) → Reply → List ℕ
printed_line file reply = compact_text (printed file reply) ++ 10 ∷ []
