-- The calls of a record are of marked rules.
use Rattle.std.proofs.Common.{◌≡◌, ◌≢◌, ℕ, zero, suc, ◌+◌, Bool, true, false, List, [], ◌∷◌, ◌++◌, All, drop, position}
use Rattle.std.proofs.Common.{bytes_eq, ◌==◌, if◌then◌else◌, Option, None, Some, IfSome, option_map, option_and_then, slice_get, get_or, refl, sym, ap, ◌∙◌, subst, arith}
use Rattle.std.proofs.lemmas.List.Elements.{All-nil, All-cons, All-head, All-tail, All-append, All-weaker}
use Rattle.peg_bytes.specs.Extent.{Extent, between}
use Rattle.peg_bytes.specs.ByteSet.{has}
use Rattle.peg_semantics.specs.Form.{Form, Forms, Literal, Class, Any, Name, Seq, Choice, Optional, Star, Plus, Counted, And, Not, End, Then}
use Rattle.peg_semantics.specs.Form.{Reference, names_used, names_used_by_all, terminals}
use Rattle.peg_semantics.specs.Numbers.{first_from}
use Rattle.peg_semantics.specs.Rules.{Rule, Meaning, meaning_of, name_of, names}
use Rattle.peg_semantics.specs.Record.{Recognition, Failed, Matched, Record, Recognizer, RuleCall, matched_at, failed_at, after_both, prepend_trees}
use Rattle.peg_semantics.specs.Record.{then_result, then_at, choice_result, or_else, star_result, if_matched, if_failed, with_result, literal_at}
use Rattle.peg_semantics.specs.Record.{byte_at, as_call, recognize_seq, recognize_choice, recognize_repeat, table, record_in}
use Rattle.peg_semantics.proofs.RulesLemmas.{meaning, meant-position, meant-no_position}
use Rattle.peg_lint.specs.Reaches.{Reaches}
use Rattle.peg_lint.specs.Reaching.{AreClosed, AreNamesMarked, IsMarked, IsNameMarked}
use Rattle.peg_lint.specs.Warnings.{IsNeverCalled, IsUnreached, IsUnusedRule}
use Rattle.peg_lint.proofs.ReachLemmas.{reached-marked}

-- names in two lists
names-front : (rules : List Rule) (marks : List Bool) (xs ys : List Reference) → AreNamesMarked rules marks (xs ++ ys)
    → AreNamesMarked rules marks xs
names-front rules marks [] ys are = All-nil (λ (r : Reference). IsNameMarked rules marks r.name)
names-front rules marks (x ∷ xs) ys are =
    let P = λ (r : Reference). IsNameMarked rules marks r.name in
    All-cons P x xs (All-head P x (xs ++ ys) are) (names-front rules marks xs ys (All-tail P x (xs ++ ys) are))

names-back : (rules : List Rule) (marks : List Bool) (xs ys : List Reference) → AreNamesMarked rules marks (xs ++ ys)
    → AreNamesMarked rules marks ys
names-back rules marks [] ys are = are
names-back rules marks (x ∷ xs) ys are =
    let P = λ (r : Reference). IsNameMarked rules marks r.name in
    names-back rules marks xs ys (All-tail P x (xs ++ ys) are)

module _ (marks : List Bool) where
  abbrev AreMarked : List RuleCall → Type 0
  AreMarked calls = All (λ (call : RuleCall). IsMarked marks call.rule) calls

  none : AreMarked []
  none = All-nil (λ (call : RuleCall). IsMarked marks call.rule)

  both : (xs ys : List RuleCall) → AreMarked xs → AreMarked ys → AreMarked (xs ++ ys)
  both xs ys = All-append (λ (call : RuleCall). IsMarked marks call.rule) xs ys

  -- the calls of the record are marked, if there is one
  abbrev Keeps : Option Record → Type 0
  Keeps tried = IfSome tried (λ (r : Record). AreMarked r.calls)

  abbrev KeepsNext : (ℕ → Option Record) → Type 0
  KeepsNext next = (end : ℕ) → Keeps (next end)

  Keeps-then_result : (result : Recognition) (part : Record) (next : ℕ → Option Record) → AreMarked part.calls
      → KeepsNext next → Keeps (then_result result part next)
  Keeps-then_result Failed part next h k = h
  Keeps-then_result (Matched end trees) part next h k = by (next end) (k end)
    where
      by : (tried : Option Record) → Keeps tried
          → Keeps (option_map (λ more. after_both part more (prepend_trees trees more.result)) tried)
      by None kept = tt
      by (Some more) kept = both part.calls more.calls h kept

  Keeps-then_at : (tried : Option Record) (next : ℕ → Option Record) → Keeps tried → KeepsNext next
      → Keeps (then_at tried next)
  Keeps-then_at None next h k = tt
  Keeps-then_at (Some part) next h k = Keeps-then_result part.result part next h k

  Keeps-choice_result : (result : Recognition) (part : Record) (other : Option Record) → AreMarked part.calls
      → Keeps other → Keeps (choice_result result part other)
  Keeps-choice_result Failed part None h k = tt
  Keeps-choice_result Failed part (Some more) h k = both part.calls more.calls h k
  Keeps-choice_result (Matched end trees) part other h k = h

  Keeps-or_else : (tried other : Option Record) → Keeps tried → Keeps other → Keeps (or_else tried other)
  Keeps-or_else None other h k = tt
  Keeps-or_else (Some part) other h k = Keeps-choice_result part.result part other h k

  Keeps-star_result : (result : Recognition) (position : ℕ) (part : Record) (next : ℕ → Option Record)
      → AreMarked part.calls → KeepsNext next → Keeps (star_result result position part next)
  Keeps-star_result Failed position part next h k =
      Keeps-choice_result Failed part (Some (matched_at position)) h none
  Keeps-star_result (Matched end trees) position part next h k = Keeps-then_result (Matched end trees) part next h k

  Keeps-rounds : (tried : Option Record) (position : ℕ) (next : ℕ → Option Record) → Keeps tried → KeepsNext next
      → Keeps (option_and_then (λ (round : Record). star_result round.result position round next) tried)
  Keeps-rounds None position next h k = tt
  Keeps-rounds (Some round) position next h k = Keeps-star_result round.result position round next h k

  Keeps-recognize_repeat : (take : ℕ → Option Record) → KeepsNext take → (min max position : ℕ)
      → Keeps (recognize_repeat take min max position)
  Keeps-recognize_repeat take h min zero position = none
  Keeps-recognize_repeat take h zero (suc max) position =
      Keeps-rounds (take position) position (λ end. recognize_repeat take zero max end) (h position)
      (λ end. Keeps-recognize_repeat take h zero max end)
  Keeps-recognize_repeat take h (suc min) (suc max) position =
      Keeps-then_at (take position) (λ end. recognize_repeat take min max end) (h position)
      (λ end. Keeps-recognize_repeat take h min max end)

  Keeps-predicate : (tried : Option Record) (result : Recognition → Recognition) → Keeps tried
      → Keeps (option_map (λ (r : Record). with_result r (result r.result)) tried)
  Keeps-predicate None result h = tt
  Keeps-predicate (Some r) result h = h

  Keeps-as_call : (rule position : ℕ) (tried : Option Record) → IsMarked marks rule → Keeps tried
      → Keeps (option_map (as_call rule position) tried)
  Keeps-as_call rule position None is h = tt
  Keeps-as_call rule position (Some r) is h =
      All-cons (λ (call : RuleCall). IsMarked marks call.rule) (record { rule = rule; position = position }) r.calls is h

  -- terminals call no rule
  AreMarked-literal_at : (terminal position : ℕ) (bytes rest : List ℕ)
      → AreMarked (literal_at terminal position bytes rest).calls
  AreMarked-literal_at terminal position [] rest = none
  AreMarked-literal_at terminal position (b ∷ bs) [] = none
  AreMarked-literal_at terminal position (b ∷ bs) (c ∷ rest) =
      by (b == c) (AreMarked-literal_at terminal (position + 1) bs rest)
    where
      by : (same : Bool) → AreMarked (literal_at terminal (position + 1) bs rest).calls
          → AreMarked (if same then literal_at terminal (position + 1) bs rest else failed_at terminal position).calls
      by true later = later
      by false later = none

  AreMarked-byte_at : (test : ℕ → Bool) (terminal position : ℕ) (rest : List ℕ)
      → AreMarked (byte_at test terminal position rest).calls
  AreMarked-byte_at test terminal position [] = none
  AreMarked-byte_at test terminal position (c ∷ rest) = by (test c)
    where
      by : (passes : Bool) → AreMarked (if passes then matched_at (position + 1) else failed_at terminal position).calls
      by true = none
      by false = none

  module _ (rules : List Rule) where
    -- the property holds for every expression whose names are marked, at each position
    abbrev KeepsAll : Recognizer → Type 0
    KeepsAll take = (e : Form) → AreNamesMarked rules marks (names_used e) → (terminal position : ℕ)
        → Keeps (take e terminal position)

    -- the rule that a name refers to is marked, and so are the rules that it refers to
    abbrev IsMeant : Option Meaning → Type 0
    IsMeant found =
        IfSome found (λ (m : Meaning). IsMarked marks m.rule × AreNamesMarked rules marks (names_used m.body))

    meant : AreClosed rules marks → (name : List ℕ) → IsNameMarked rules marks name → IsMeant (meaning_of rules name)
    meant closed name is = by (position (bytes_eq name) (names rules)) refl
      where
        at_rule : (number : ℕ) → position (bytes_eq name) (names rules) ≡ Some number → (found : Option Rule)
            → slice_get rules number ≡ found
            → IsMeant (option_map (meaning (0 + number) (get_or (first_from 0 rules) number 0)) found)
        at_rule number at None there = tt
        at_rule number at (Some rule) there =
            let marked = is number at in
            let same : number ≡ 0 + number = omega arith in
            (subst (IsMarked marks) same marked, closed number rule there marked)

        by : (found : Option ℕ) → position (bytes_eq name) (names rules) ≡ found → IsMeant (meaning_of rules name)
        by None at = subst IsMeant (sym (meant-no_position rules name at)) tt
        by (Some number) at =
            subst IsMeant (sym (meant-position rules name number at)) (at_rule number at (slice_get rules number) refl)

    module _ (take : Recognizer) (h : KeepsAll take) where
      Keeps-take_items : (items : Forms) → AreNamesMarked rules marks (names_used_by_all items)
          → (terminal position : ℕ) → Keeps (recognize_seq take items terminal position)
      Keeps-take_items End are terminal position = none
      Keeps-take_items (Then e rest) are terminal position =
          Keeps-then_at (take e terminal position) (λ end. recognize_seq take rest (terminal + terminals e) end)
          (h e (names-front rules marks (names_used e) (names_used_by_all rest) are) terminal position)
          (λ end. Keeps-take_items rest (names-back rules marks (names_used e) (names_used_by_all rest) are)
          (terminal + terminals e) end)

      Keeps-take_first : (e : Form) (rest : Forms) → AreNamesMarked rules marks (names_used e ++ names_used_by_all rest)
          → (terminal position : ℕ) → Keeps (recognize_choice take e rest terminal position)
      Keeps-take_first e End are terminal position =
          h e (names-front rules marks (names_used e) (names_used_by_all End) are) terminal position
      Keeps-take_first e (Then next rest) are terminal position =
          Keeps-or_else (take e terminal position) (recognize_choice take next rest (terminal + terminals e) position)
          (h e (names-front rules marks (names_used e) (names_used_by_all (Then next rest)) are) terminal position)
          (Keeps-take_first next rest (names-back rules marks (names_used e) (names_used_by_all (Then next rest)) are)
          (terminal + terminals e) position)

      Keeps-name : (position : ℕ) (found : Option Meaning) → IsMeant found
          → Keeps (option_and_then (λ (m : Meaning). option_map (as_call m.rule position) (take m.body m.terminal position)) found)
      Keeps-name position None is = tt
      Keeps-name position (Some m) is =
          Keeps-as_call m.rule position (take m.body m.terminal position) is.0 (h m.body is.1 m.terminal position)

    Keeps-table : AreClosed rules marks → (text : List ℕ) (take : Recognizer) → KeepsAll take
        → KeepsAll (table rules text take)
    Keeps-table closed text take h (Literal bytes span) are terminal position =
        AreMarked-literal_at terminal position bytes (drop position text)
    Keeps-table closed text take h (Class set span) are terminal position =
        AreMarked-byte_at (has set) terminal position (drop position text)
    Keeps-table closed text take h (Any span) are terminal position =
        AreMarked-byte_at (λ byte. true) terminal position (drop position text)
    Keeps-table closed text take h (Name name span) are terminal position =
        Keeps-name take h position (meaning_of rules name)
        (meant closed name (All-head (λ (r : Reference). IsNameMarked rules marks r.name)
        (record { name = name; span = span }) [] are))
    Keeps-table closed text take h (Seq items span) are terminal position =
        Keeps-take_items take h items are terminal position
    Keeps-table closed text take h (Choice first rest span) are terminal position =
        Keeps-take_first take h first rest are terminal position
    Keeps-table closed text take h (Optional part span) are terminal position =
        Keeps-or_else (take part terminal position) (Some (matched_at position)) (h part are terminal position) none
    Keeps-table closed text take h (Star part span) are terminal position =
        Keeps-rounds (take part terminal position) position (λ end. take (Star part span) terminal end)
        (h part are terminal position) (λ end. h (Star part span) are terminal end)
    Keeps-table closed text take h (Plus part span) are terminal position =
        Keeps-then_at (take part terminal position) (λ end. take (Star part span) terminal end)
        (h part are terminal position) (λ end. h (Star part span) are terminal end)
    Keeps-table closed text take h (Counted part min max span) are terminal position =
        Keeps-recognize_repeat (λ at. take part terminal at) (λ at. h part are terminal at) min max position
    Keeps-table closed text take h (And part span) are terminal position =
        Keeps-predicate (take part terminal position) (λ result. if_matched result position) (h part are terminal position)
    Keeps-table closed text take h (Not part span) are terminal position =
        Keeps-predicate (take part terminal position) (λ result. if_failed result position) (h part are terminal position)

    Keeps-record_in : AreClosed rules marks → (text : List ℕ) (n : ℕ) → KeepsAll (record_in rules text n)
    unfolding record_in
    Keeps-record_in closed text zero = λ e are terminal position. tt
    Keeps-record_in closed text (suc n) = Keeps-table closed text (record_in rules text n) (Keeps-record_in closed text n)

-- a rule that isn't marked is never called
never_called : (rules : List Rule) (marks : List Bool) (start number : ℕ) → AreClosed rules marks
    → IsNameMarked rules marks (name_of rules start) → get_or marks number false ≡ false
    → IsNeverCalled rules start number
never_called rules marks start number closed named free text n r is =
    let name = name_of rules start in
    let reference : Reference = record { name = name; span = between 0 0 } in
    let P = λ (r : Reference). IsNameMarked rules marks r.name in
    let kept = Keeps-record_in marks rules closed text n (Name name (between 0 0))
    (All-cons P reference [] named (All-nil P)) 0 0 in
    let calls : AreMarked marks r.calls = subst (λ (tried : Option Record). IfSome tried (λ (s : Record). AreMarked marks s.calls)) is kept in
    All-weaker (λ (call : RuleCall). IsMarked marks call.rule) (λ (call : RuleCall). call.rule ≢ number)
    (λ call marked same. let bad : true ≡ false = sym marked ∙ (ap (λ k. get_or marks k false) same ∙ free) in cc)
    r.calls calls

pub unused_rule : (rules : List Rule) (marks : List Bool) (start number : ℕ) (span : Extent)
    → AreClosed rules marks → IsNameMarked rules marks (name_of rules start) → get_or marks number false ≡ false
    → option_map (λ (r : Rule). r.span) (slice_get rules number) ≡ Some span
    → IsUnusedRule rules start number span × IsUnreached rules start number span
unused_rule rules marks start number span closed named free at = by (slice_get rules number) refl at
  where
    by : (found : Option Rule) → slice_get rules number ≡ found → option_map (λ (r : Rule). r.span) found ≡ Some span
        → IsUnusedRule rules start number span × IsUnreached rules start number span
    by None is at = absurd cc
    by (Some rule) is at =
        let same : rule.span ≡ span = cc in
        let unreached : ¬ Reaches rules start number =
        λ reaches. let bad : true ≡ false = sym (reached-marked rules start marks closed named reaches) ∙ free in cc in (
          (rule, is, same, never_called rules marks start number closed named free),
          record { rule = rule; at = is; span_is = same; unreached = unreached },
        )
