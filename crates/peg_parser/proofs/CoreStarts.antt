-- The outcome of a rule's core form is that of Ford's relation on the grammar as written, from the rule's name.
use Rattle.std.proofs.Common.{◌≡◌, ◌≢◌, ℕ, zero, suc, ◌+◌, ◌<◌, AllPairs, Bool, true, false, if◌then◌else◌, List, [], ◌∷◌}
use Rattle.std.proofs.Common.{length, Option, Some, option_map, unwrap_or, bytes_eq, refl, sym, ap, subst, ◌∙◌}
use Rattle.std.proofs.Common.{add-zero, zero-add, arith}
use Rattle.std.proofs.lemmas.Bool.{false_from_ne_true}
use Rattle.std.proofs.lemmas.List.{length-map}
use Rattle.std.proofs.lemmas.Slice.Eq.{bytes_eq-Decides}
use Rattle.std.proofs.Math.Logic.{∥∥₁_elim}
use Rattle.std.proofs.Math.Nat.{ℕ_set}
use Rattle.std.specs.Coded.{Coded-set, coded_list}
use Rattle.peg_bytes.specs.Extent.{between}
use Rattle.peg_core.specs.CoreCode.{form_code}
use Rattle.peg_core.specs.CoreForm.{CoreForm, core_bodies, core_form, number_of}
use Rattle.peg_core.specs.CoreForm.{Rule as use_of}
use Rattle.peg_core.specs.CoreRecord.{AreBytes, IsCoreRecord, core_record_in}
use Rattle.peg_core.specs.Layout.{bodies_of, form_at}
use Rattle.peg_core.proofs.Meanings.{length-core_bodies}
use Rattle.peg_core.proofs.SugarRecords.{IsRecord-from_core}
use Rattle.peg_semantics.specs.Form.{Form, Name, terminals}
use Rattle.peg_semantics.specs.Grammar.{IsGrammar}
use Rattle.peg_semantics.specs.Rules.{Meaning, Rule, meaning_from, name_of, names}
use Rattle.peg_machine.specs.SelectedTests.{IsCoreOutcomeBy}
use Rattle.peg_tree.specs.declared.outcome.Outcome.{Outcome}
use Rattle.peg_parser.specs.Engine.{engine_rules, shown_in}
use Rattle.peg_parser.specs.SelectedOutcomes.{IsParseOutcomeBy}
use Rattle.peg_parser.specs.declared.engine.Engine.{Engine}
use Rattle.peg_parser.proofs.RuleNames.{name-numbered}

-- names that are pairwise distinct
abbrev Differ : List (List ℕ) → Type 0
Differ = AllPairs (λ (a b : List ℕ). a ≢ b)

-- the number of a meaning, if there is one
abbrev number : Option Meaning → Option ℕ
number = option_map (λ (m : Meaning). m.rule)

-- if the names are distinct, a rule's name means the rule
meaning_from-number : (first terminal : ℕ) (rules : List Rule) (rule : ℕ) → Differ (names rules) → rule < length rules
    → number (meaning_from first terminal rules (name_of rules rule)) ≡ Some (rule + first)
meaning_from-number first terminal [] rule differ less = absurd (omega arith)
meaning_from-number first terminal (r ∷ rs) zero differ less =
    let here : Option Meaning = Some (record { rule = first; terminal = terminal; body = r.body }) in
    let later : Option Meaning = meaning_from (first + 1) (terminal + terminals r.body) rs r.name in
    let same : bytes_eq r.name r.name ≡ true = (bytes_eq-Decides r.name r.name).1 refl in
    ap (λ (b : Bool). number (if b then here else later)) same ∙ ap Some (sym (zero-add first))
meaning_from-number first terminal (r ∷ rs) (suc rule) differ less =
    let name : List ℕ = name_of rs rule in
    let here : Option Meaning = Some (record { rule = first; terminal = terminal; body = r.body }) in
    let later : Option Meaning = meaning_from (first + 1) (terminal + terminals r.body) rs name in
    let count : length (names rs) ≡ length rs = length-map rs (λ rule. rule.name) in
    let other : bytes_eq name r.name ≡ false = false_from_ne_true _ (λ same.
    differ 0 (suc rule) [] (omega arith) (omega arith)
    (sym ((bytes_eq-Decides name r.name).0 same) ∙ sym (name-numbered rs rule (omega arith)))) in
    let next : rule + (first + 1) ≡ suc rule + first = omega arith in
    ap (λ (b : Bool). number (if b then here else later)) other
    ∙ meaning_from-number (first + 1) (terminal + terminals r.body) rs rule
    (λ i j d before within. differ (suc i) (suc j) d (omega arith) (omega arith)) (omega arith)
    ∙ ap Some next

-- if the names are distinct, a rule's name has the rule's number
number_of-named : (rules : List Rule) (start : ℕ) → start < length rules → IsGrammar rules
    → number_of rules (name_of rules start) ≡ start
number_of-named rules start less grammar =
    ap (λ (found : Option ℕ). unwrap_or found (length rules)) (meaning_from-number 0 0 rules start grammar.distinct less)
    ∙ add-zero start

-- ---- facts about a parser's program

-- the program's core forms are the grammar's
pub same-bodies : (engine : Engine) → bodies_of engine.program.core ≡ core_bodies (engine_rules engine)
same-bodies engine = ∥∥₁_elim engine.bodies (Coded-set (coded_list form_code) _ _) (λ same. same)

-- there are as many core forms as rules
pub length-bodies : (engine : Engine) → length engine.program.core.bodies ≡ length (engine_rules engine)
length-bodies engine =
    sym (length-map engine.program.core.bodies (form_at engine.program.core.forms))
    ∙ ap length (same-bodies engine) ∙ length-core_bodies (engine_rules engine)

-- the name of a parser's rule has that rule's number
pub number-named : (engine : Engine) (start : ℕ) → start < length (engine_rules engine)
    → number_of (engine_rules engine) (name_of (engine_rules engine) start) ≡ start
number-named engine start less =
    ∥∥₁_elim engine.grammar.grammar (ℕ_set _ _) (number_of-named (engine_rules engine) start less)

-- ---- outcomes

-- the outcome of a rule's call on core forms is that of the rule's name
written-outcome : (shown : Option (List Bool)) (among : Option (List ℕ)) (rules : List Rule) (text : List ℕ) (start : ℕ)
    (outcome : Outcome) → AreBytes text → number_of rules (name_of rules start) ≡ start
    → IsCoreOutcomeBy shown among (core_bodies rules) text start outcome
    → IsParseOutcomeBy shown among rules text (name_of rules start) outcome
written-outcome shown among rules text start outcome bytes same is =
    let held = is.1 in
    let name : Form = Name (name_of rules start) (between 0 0) in
    let there : IsCoreRecord (core_bodies rules) text (core_form rules 0 name) 0 held.0 =
    (is.0, ap (λ (rule : ℕ). core_record_in (core_bodies rules) text is.0 (use_of rule) 0) same ∙ held.1) in
    let found = IsRecord-from_core rules text bytes name 0 0 held.0 there in
    (found.0, (held.0, found.1, held.2, held.3))

-- the result of a parser's program on a text is the outcome of the grammar as written
pub engine-outcome : (among : Option (List ℕ)) (engine : Engine) (text : List ℕ) (start : ℕ) (outcome : Outcome)
    → AreBytes text → start < length (engine_rules engine)
    → IsCoreOutcomeBy (shown_in engine) among (bodies_of engine.program.core) text start outcome
    → IsParseOutcomeBy (shown_in engine) among (engine_rules engine) text (name_of (engine_rules engine) start) outcome
engine-outcome among engine text start outcome bytes less is =
    let rules = engine_rules engine in
    written-outcome (shown_in engine) among rules text start outcome bytes (number-named engine start less)
    (subst (λ (bodies : List CoreForm). IsCoreOutcomeBy (shown_in engine) among bodies text start outcome) (same-bodies engine) is)
