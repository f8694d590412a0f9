-- The printed form of what texts use of a grammar.
use Rattle.std.specs.Prelude.{ℕ, Bool, List, [], ◌∷◌, codes, length, map, option_map, slice_get, unwrap_or}
use Rattle.serde_json.specs.Data.{Data, Members, unsigned, number, boolean, string, array, object, no_members, member}
use Rattle.serde_json.specs.View.{items_of}
use Rattle.peg_bytes.specs.Extent.{between}
use Rattle.peg_bytes.specs.Place.{line_at, column_at}
use Rattle.peg_coverage.specs.Unused.{AlternativeUse, RuleUse}
use Rattle.peg_semantics.specs.Form.{Reference}
use Rattle.peg_semantics.specs.Rules.{Rule, name_of}

-- the name of rule number `rule` and the extent of its name in the file
abbrev pub reference_at : List Rule → (rule : ℕ) → Reference
reference_at rules rule = record {
  name = name_of rules rule;
  span = unwrap_or (option_map (λ r. r.span) (slice_get rules rule)) (between 0 0);
}

-- a rule that doesn't match, by its name and the extent of the name, and whether it is tried
abbrev pub NamedUse : Type 0
NamedUse = Reference × Bool

abbrev pub named_use : List Rule → RuleUse → NamedUse
named_use rules unused = (reference_at rules unused.0, unused.1)

-- the first members of a place
abbrev pub place_members : (line column end : ℕ) → Members → Members
place_members line column end rest =
    member (codes "column") (number (unsigned column)) (member (codes "end") (number (unsigned end))
    (member (codes "line") (number (unsigned line)) rest))

-- the last members of something unused: where it starts, and whether it is tried
abbrev pub tried_members : (start : ℕ) → (tried : Bool) → Members
tried_members start tried =
    member (codes "start") (number (unsigned start)) (member (codes "tried") (boolean tried) no_members)

-- the JSON of an alternative at this place
abbrev pub placed_alternative : (line column start end : ℕ) → (tried : Bool) → Data
placed_alternative line column start end tried =
    object (place_members line column end (tried_members start tried))

-- the JSON of a rule with this name, at the place of its name
abbrev pub placed_rule : (line column : ℕ) → (name : List ℕ) → (start end : ℕ) → (tried : Bool) → Data
placed_rule line column name start end tried =
    object (place_members line column end (member (codes "rule") (string name) (tried_members start tried)))

-- the JSON of an unused alternative in a grammar file
abbrev pub alternative_data : (file : List ℕ) → AlternativeUse → Data
alternative_data file unused =
    placed_alternative (line_at file unused.0.start) (column_at file unused.0.start) unused.0.start unused.0.end
    unused.1

-- the JSON of an unused rule in a grammar file
abbrev pub unused_rule_data : (file : List ℕ) → NamedUse → Data
unused_rule_data file unused =
    placed_rule (line_at file unused.0.span.start) (column_at file unused.0.span.start) unused.0.name
    unused.0.span.start
    unused.0.span.end unused.1

-- the members of the JSON of what texts use, with the number of stopped texts before these if there are any
abbrev pub with_stopped : (stopped : List ℕ) → Members → Members
with_stopped [] others = others
with_stopped (first ∷ more) others = member (codes "stopped") (number (unsigned (length (first ∷ more)))) others

-- the members from the number of texts on
abbrev pub coverage_members : (file : List ℕ) → (texts : ℕ) → (rules : List NamedUse)
    → (alternatives : List AlternativeUse) → Members
coverage_members file texts rules alternatives =
    member (codes "texts") (number (unsigned texts))
    (member (codes "unused_alternatives") (array (items_of (map (alternative_data file) alternatives)))
    (member (codes "unused_rules") (array (items_of (map (unused_rule_data file) rules))) no_members))

-- The JSON of what texts use of a grammar: the counts of texts, and what is unused. `stopped` are the numbers of the
-- texts whose parse was stopped.
abbrev pub coverage_data : (file : List ℕ) → (texts matched : ℕ) → (stopped : List ℕ) → (rules : List NamedUse)
    → (alternatives : List AlternativeUse) → Data
coverage_data file texts matched stopped rules alternatives =
    object (member (codes "matched") (number (unsigned matched))
    (with_stopped stopped (coverage_members file texts rules alternatives)))

-- the exit status: 6 if a text is stopped, and otherwise 0 if nothing is unused, and 1 if something is
abbrev pub status_of_coverage : (stopped : List ℕ) → (rules : List NamedUse) → (alternatives : List AlternativeUse) → ℕ
status_of_coverage [] [] [] = 0
status_of_coverage [] rules alternatives = 1
status_of_coverage (first ∷ more) rules alternatives = 6

-- the refusal if the marked grammar is over a limit
abbrev pub too_large_word : List ℕ
too_large_word = codes "CoverageTooLarge"
