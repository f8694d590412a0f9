-- A well-formed grammar is complete (Ford 2004, section 3.6): each expression has a result at each position of each
-- text. The proof is by induction on the bytes left, and at one position on the rounds of well-formedness. A part after
-- a consumed byte is at a later position; a part after none is well-formed in fewer rounds.
use Rattle.std.proofs.Common.{◌≡◌, ℕ, zero, suc, ◌+◌, ◌<◌, ◌≤◌, inl, inr, nat_eq, Bool, true, false, List, [], ◌∷◌}
use Rattle.std.proofs.Common.{◌++◌, All, Contains, length, drop, Option, None, Some, refl, sym, subst, le_refl, arith}
use Rattle.std.specs.List.{starts_with}
use Rattle.std.proofs.lemmas.List.Elements.{All-cons, All-head, All-contains}
use Rattle.std.proofs.lemmas.List.Elements.{Contains-append_left, Contains-append_right, Contains-push}
use Rattle.peg_bytes.specs.ByteSet.{Bytes, has}
use Rattle.peg_bytes.specs.Extent.{Extent, between}
use Rattle.peg_tree.specs.Trees.{Trees}
use Rattle.peg_semantics.specs.AbstractOutcomes.{GivesNothing, can_in}
use Rattle.peg_semantics.specs.Form.{Form, Forms, Literal, Class, Any, Name, Seq, Choice, Optional, Star, Plus, Counted, And, Not}
use Rattle.peg_semantics.specs.Form.{End, Then}
use Rattle.peg_semantics.specs.Record.{Recognition, Failed, Matched, Record, IsRecord, prepend_trees, start_record}
use Rattle.peg_semantics.specs.Rules.{Rule, Meaning, names, name_of, meaning_of}
use Rattle.peg_semantics.specs.WellFormed.{FormPredicate, ItemsAre, AllAre, MeaningIs, WellFormedTable, IsWellFormedIn}
use Rattle.peg_semantics.specs.WellFormed.{IsWellFormed, IsWellFormedGrammar, below, below_all, subexpressions}
use Rattle.peg_semantics.proofs.Derivations.{Derives, literal_matched, literal_failed, class_matched, class_failed}
use Rattle.peg_semantics.proofs.Derivations.{any_matched, any_failed, name_matched, name_failed, sequence, choice}
use Rattle.peg_semantics.proofs.Derivations.{optional_some, optional_none, star_none, star_more, plus_failed}
use Rattle.peg_semantics.proofs.Derivations.{plus_matched, and_matched, and_failed, not_matched, not_failed}
use Rattle.peg_semantics.proofs.Derivations.{star_never_fails, recorded, DerivesItems, items_none, items_failed, items_then, DerivesFirst}
use Rattle.peg_semantics.proofs.Derivations.{counted, DerivesTimes, times_none, times_stopped, times_failed, times_then}
use Rattle.peg_semantics.proofs.Derivations.{alternative_last, alternative_matched, alternative_failed}
use Rattle.peg_semantics.proofs.FineForms.{IsFine, AreFine, fine-first, fine-rest, fine-below, fine-star, fine-inside}
use Rattle.peg_semantics.proofs.MeaningLemmas.{All-numbered, meaning_of-is_at, meaning_of-known}
use Rattle.peg_semantics.proofs.ResultSteps.{begins_with, passes_any}
use Rattle.peg_semantics.proofs.ShownOutcomes.{Ends, Shows, none_or_some, record_in-shows}
use Rattle.peg_semantics.proofs.TerminalLemmas.{record_in-ends}

-- an expression has a result at a position; and the same for items, alternatives and repetitions
abbrev pub HasResult : List Rule → List ℕ → Form → ℕ → Type 0
HasResult rules text e position = (x : Recognition) × Derives rules text e position x

abbrev ItemsHave : List Rule → List ℕ → Forms → ℕ → Type 0
ItemsHave rules text items position = (x : Recognition) × DerivesItems rules text items position x

abbrev FirstHas : List Rule → List ℕ → Form → Forms → ℕ → Type 0
FirstHas rules text first rest position = (x : Recognition) × DerivesFirst rules text first rest position x

abbrev TimesHave : List Rule → List ℕ → Form → (min max position : ℕ) → Type 0
TimesHave rules text part min max position = (x : Recognition) × DerivesTimes rules text part min max position x

-- a match ends within the text, at its start position or later; if it is empty, the expression gives 0
record Reached (rules : List Rule) (text : List ℕ) (e : Form) (position end : ℕ) : Type 0 where
  onward : position ≤ end
  within : end ≤ length text
  idle : end ≡ position → GivesNothing rules e

reached : (rules : List Rule) (text : List ℕ) (e : Form) (position end : ℕ) (trees : Trees) → position ≤ length text
    → Derives rules text e position (Matched end trees) → Reached rules text e position end
reached rules text e position end trees here d =
    let a = recorded d 0 in
    let shown : Ends (can_in rules a.depth e) position end =
    subst (Shows (can_in rules a.depth e) position) a.result_is
    (record_in-shows rules text a.depth e 0 position a.found a.is) in
    record {
      onward = shown.onward;
      within = record_in-ends rules text a.depth e 0 position end trees a.found here a.is a.result_is;
      idle = λ same. (a.depth, shown.nothing same);
    }

module _ (rules : List Rule) (text : List ℕ) (grammar : IsWellFormedGrammar rules) where
  -- all subexpressions of a rule's expression are well-formed
  fine-meaning : (name : List ℕ) (m : Meaning) → meaning_of rules name ≡ Some m → IsFine rules m.body
  fine-meaning name m known =
      let at = meaning_of-is_at rules name m known in
      subst (IsFine rules) at.2
      (All-numbered (λ (rule : Rule). IsFine rules rule.body) rules m.rule at.0 at.1 grammar)

  -- a name has a result if its rule's expression has one
  name_has : (name : List ℕ) (span : Extent) (m : Meaning) (position : ℕ) → meaning_of rules name ≡ Some m
      → (x : Recognition) → Derives rules text m.body position x → HasResult rules text (Name name span) position
  name_has name span m position known Failed d = (Failed, name_failed known d)
  name_has name span m position known (Matched end trees) d = (_, name_matched known d refl)

  -- repetitions of a part have a result if the part has one at each later position
  times_have : (part : Form) (position : ℕ)
      → ((at : ℕ) → position ≤ at → at ≤ length text → HasResult rules text part at)
      → (min max at : ℕ) → position ≤ at → at ≤ length text → TimesHave rules text part min max at
  times_have part position has min zero at from within = (_, times_none)
  times_have part position has zero (suc max) at from within =
      let first = has at from within in
      by first.0 first.1 (times_have part position has zero max)
    where
      by : (x : Recognition) → Derives rules text part at x
          → ((next : ℕ) → position ≤ next → next ≤ length text → TimesHave rules text part zero max next)
          → TimesHave rules text part zero (suc max) at
      by Failed d next = (_, times_stopped d)
      by (Matched end trees) d next =
          let r = reached rules text part at end trees within d in
          let more = next end (omega (arith, from, r.onward)) r.within in
          (prepend_trees trees more.0, times_then d more.1 refl)
  times_have part position has (suc min) (suc max) at from within =
      let first = has at from within in
      by first.0 first.1 (times_have part position has min max)
    where
      by : (x : Recognition) → Derives rules text part at x
          → ((next : ℕ) → position ≤ next → next ≤ length text → TimesHave rules text part min max next)
          → TimesHave rules text part (suc min) (suc max) at
      by Failed d next = (_, times_failed d)
      by (Matched end trees) d next =
          let r = reached rules text part at end trees within d in
          let more = next end (omega (arith, from, r.onward)) r.within in
          (prepend_trees trees more.0, times_then d more.1 refl)

  -- If expressions have results at later positions, and those of fewer rounds have them at this position, then Ford's
  -- rules give results for the expressions made of them.
  module _ (position : ℕ) (here : position ≤ length text)
      (later : (end : ℕ) → position < end → end ≤ length text → (e : Form) → IsFine rules e
      → HasResult rules text e end) where
    -- items from a later position on
    items_later : (items : Forms) (at : ℕ) → AreFine rules items → position < at → at ≤ length text
        → ItemsHave rules text items at
    items_later End at fine less within = (_, items_none)
    items_later (Then e rest) at fine less within =
        let first = later at less within e (fine-first rules e rest fine) in
        by first.0 first.1 (items_later rest)
      where
        by : (x : Recognition) → Derives rules text e at x
            → ((next : ℕ) → AreFine rules rest → position < next → next ≤ length text → ItemsHave rules text rest next)
            → ItemsHave rules text (Then e rest) at
        by Failed d next = (Failed, items_failed d)
        by (Matched end trees) d next =
            let r = reached rules text e at end trees within d in
            let more = next end (fine-rest rules e rest fine) (omega (arith, less, r.onward)) r.within in
            (prepend_trees trees more.0, items_then d more.1 refl)

    module _ (Is : FormPredicate) (now : (e : Form) → Is e → IsFine rules e → HasResult rules text e position) where
      items_here : (items : Forms) → ItemsAre rules Is items → AreFine rules items → ItemsHave rules text items position
      items_here End are fine = (_, items_none)
      items_here (Then e rest) are fine =
          let first = now e are.0 (fine-first rules e rest fine) in
          by first.0 first.1 (λ gives. items_here rest (are.1 gives) (fine-rest rules e rest fine))
        where
          by : (x : Recognition) → Derives rules text e position x
              → (GivesNothing rules e → ItemsHave rules text rest position) → ItemsHave rules text (Then e rest) position
          by Failed d next = (Failed, items_failed d)
          by (Matched end trees) d next =
              let r = reached rules text e position end trees here d in
              let more : ItemsHave rules text rest end =
              elim (none_or_some position end r.onward) [
                | inl none ↦ subst (ItemsHave rules text rest) (sym none) (next (r.idle none))
                | inr some ↦ items_later rest end (fine-rest rules e rest fine) some r.within
              ] in
              (prepend_trees trees more.0, items_then d more.1 refl)

      first_here : (first : Form) (rest : Forms) → Is first → AllAre Is rest
          → All (IsWellFormed rules) (first ∷ (below first ++ below_all rest)) → FirstHas rules text first rest position
      first_here first End is are fine =
          let only = now first is (fine-first rules first End fine) in
          (only.0, alternative_last only.1)
      first_here first (Then next rest) is are fine =
          let one = now first is (fine-first rules first (Then next rest) fine) in
          by one.0 one.1 (first_here next rest are.0 are.1 (fine-rest rules first (Then next rest) fine))
        where
          by : (x : Recognition) → Derives rules text first position x → FirstHas rules text next rest position
              → FirstHas rules text first (Then next rest) position
          by Failed d other = (other.0, alternative_failed d other.1)
          by (Matched end trees) d other = (_, alternative_matched d)

      -- a star after an iteration that consumed something
      rounds_later : (part : Form) (span : Extent) (end : ℕ) → IsFine rules (Star part span) → position < end
          → end ≤ length text
          → (more : Trees) × (last : ℕ) × Derives rules text (Star part span) end (Matched last more)
      rounds_later part span end fine less within =
          let star = later end less within (Star part span) fine in by star.0 star.1
        where
          by : (x : Recognition) → Derives rules text (Star part span) end x
              → (more : Trees) × (last : ℕ) × Derives rules text (Star part span) end (Matched last more)
          by Failed d = absurd (star_never_fails d)
          by (Matched last more) d = (more, last, d)

      star_here : (part : Form) (span : Extent) → ¬ GivesNothing rules part → IsFine rules (Star part span)
          → (x : Recognition) → Derives rules text part position x → HasResult rules text (Star part span) position
      star_here part span takes fine Failed d = (_, star_none d)
      star_here part span takes fine (Matched end trees) d =
          let r = reached rules text part position end trees here d in
          elim (none_or_some position end r.onward) [
            | inl none ↦ absurd (takes (r.idle none))
            | inr some ↦
                let more = rounds_later part span end fine some r.within in
                (_, star_more d more.2 refl)
          ]

      plus_here : (part : Form) (span : Extent) → ¬ GivesNothing rules part → IsFine rules (Star part span)
          → (x : Recognition) → Derives rules text part position x → HasResult rules text (Plus part span) position
      plus_here part span takes fine Failed d = (_, plus_failed d)
      plus_here part span takes fine (Matched end trees) d =
          let r = reached rules text part position end trees here d in
          elim (none_or_some position end r.onward) [
            | inl none ↦ absurd (takes (r.idle none))
            | inr some ↦
                let more = rounds_later part span end fine some r.within in
                (_, plus_matched d more.2 refl)
          ]

      counted_here : (part : Form) (min max : ℕ) (span : Extent) → Is part → IsFine rules part
          → HasResult rules text (Counted part min max span) position
      counted_here part min max span is fine =
          let all = times_have part position from_here min max position (le_refl position) here in
          (all.0, counted all.1)
        where
          from_here : (at : ℕ) → position ≤ at → at ≤ length text → HasResult rules text part at
          from_here at onward within =
              elim (none_or_some position at onward) [
                | inl none ↦ subst (HasResult rules text part) (sym none) (now part is fine)
                | inr some ↦ later at some within part fine
              ]

      optional_here : (part : Form) (span : Extent) (x : Recognition) → Derives rules text part position x
          → HasResult rules text (Optional part span) position
      optional_here part span Failed d = (_, optional_none d)
      optional_here part span (Matched end trees) d = (_, optional_some d)

      and_here : (part : Form) (span : Extent) (x : Recognition) → Derives rules text part position x
          → HasResult rules text (And part span) position
      and_here part span Failed d = (_, and_failed d)
      and_here part span (Matched end trees) d = (_, and_matched d)

      not_here : (part : Form) (span : Extent) (x : Recognition) → Derives rules text part position x
          → HasResult rules text (Not part span) position
      not_here part span Failed d = (_, not_matched d)
      not_here part span (Matched end trees) d = (_, not_failed d)

      literal_here : (bytes : List ℕ) (span : Extent) (t : Bool) → starts_with nat_eq (drop position text) bytes ≡ t
          → HasResult rules text (Literal bytes span) position
      literal_here bytes span true is = (_, literal_matched is refl)
      literal_here bytes span false is = (_, literal_failed is)

      class_here : (set : Bytes) (span : Extent) (t : Bool) → begins_with (has set) (drop position text) ≡ t
          → HasResult rules text (Class set span) position
      class_here set span true is = (_, class_matched is refl)
      class_here set span false is = (_, class_failed is)

      any_here : (span : Extent) (t : Bool) → begins_with passes_any (drop position text) ≡ t
          → HasResult rules text (Any span) position
      any_here span true is = (_, any_matched is refl)
      any_here span false is = (_, any_failed is)

      meaning_here : (name : List ℕ) (span : Extent) (meaning : Option Meaning) → meaning_of rules name ≡ meaning
          → MeaningIs Is meaning → HasResult rules text (Name name span) position
      meaning_here name span None known is = absurd is
      meaning_here name span (Some m) known is =
          let body = now m.body is (fine-meaning name m known) in
          name_has name span m position known body.0 body.1

      table_here : (e : Form) → WellFormedTable rules Is e → IsFine rules e → HasResult rules text e position
      table_here (Literal bytes span) is fine =
          literal_here bytes span (starts_with nat_eq (drop position text) bytes) refl
      table_here (Class set span) is fine = class_here set span (begins_with (has set) (drop position text)) refl
      table_here (Any span) is fine = any_here span (begins_with passes_any (drop position text)) refl
      table_here (Name name span) is fine = meaning_here name span (meaning_of rules name) refl is
      table_here (Seq items span) is fine =
          let all = items_here items is (fine-below rules (Seq items span) fine) in
          (all.0, sequence all.1)
      table_here (Choice first rest span) is fine =
          let one = first_here first rest is.0 is.1 (fine-below rules (Choice first rest span) fine) in
          (one.0, choice one.1)
      table_here (Optional part span) is fine =
          let a = now part is (fine-below rules (Optional part span) fine) in
          optional_here part span a.0 a.1
      table_here (Star part span) is fine =
          let a = now part is.0 (fine-below rules (Star part span) fine) in
          star_here part span is.1 fine a.0 a.1
      table_here (Plus part span) is fine =
          let a = now part is.0 (fine-below rules (Plus part span) fine) in
          plus_here part span is.1 (fine-star rules part span fine) a.0 a.1
      table_here (Counted part min max span) is fine =
          counted_here part min max span is (fine-below rules (Counted part min max span) fine)
      table_here (And part span) is fine =
          let a = now part is (fine-below rules (And part span) fine) in
          and_here part span a.0 a.1
      table_here (Not part span) is fine =
          let a = now part is (fine-below rules (Not part span) fine) in
          not_here part span a.0 a.1

    -- an expression that is well-formed in n rounds has a result at this position
    rounds_here : (n : ℕ) (e : Form) → IsWellFormedIn rules n e → IsFine rules e → HasResult rules text e position
    unfolding IsWellFormedIn
    rounds_here zero e is fine = absurd is
    rounds_here (suc n) e is fine = table_here (IsWellFormedIn rules n) (rounds_here n) e is fine

  -- an expression has a result where at most `left` bytes are left
  bytes_left : (left position : ℕ) → position ≤ length text → length text ≤ left + position → (e : Form) → IsFine rules e
      → HasResult rules text e position
  bytes_left zero position here most e fine =
      let is = All-head (IsWellFormed rules) e (below e) fine in
      rounds_here position here (λ end less within. absurd (omega (arith, less, within, most))) is.0 e is.1 fine
  bytes_left (suc left) position here most e fine =
      let is = All-head (IsWellFormed rules) e (below e) fine in
      let later = λ (end : ℕ) (less : position < end) (within : end ≤ length text).
      bytes_left left end within (omega (arith, less, most)) in
      rounds_here position here later is.0 e is.1 fine

  -- an expression has a result at each position in the text
  fine_has_result : (e : Form) (position : ℕ) → position ≤ length text → IsFine rules e → HasResult rules text e position
  fine_has_result e position here fine = bytes_left (length text) position here (omega arith) e fine

-- a result is that of a record
record_of : (rules : List Rule) (text : List ℕ) (e : Form) (terminal position : ℕ) → HasResult rules text e position
    → (r : Record) × IsRecord rules text e terminal position r
record_of rules text e terminal position has =
    let a = recorded has.1 terminal in (a.found, (a.depth, a.is))

-- each subexpression of each rule of a well-formed grammar has a record at each position of each text
pub subexpression_has_record : (rules : List Rule) (text : List ℕ) (rule : Rule) (e : Form) (terminal position : ℕ)
    → IsWellFormedGrammar rules → Contains rules rule → Contains (subexpressions rule.body) e → position ≤ length text
    → (r : Record) × IsRecord rules text e terminal position r
subexpression_has_record rules text rule e terminal position grammar there inside here =
    let fine = All-contains (λ (rule : Rule). IsFine rules rule.body) rules rule grammar there in
    let each =
    All-cons (IsFine rules) rule.body (below rule.body) fine
    (fine-inside rules rule.body (fine-below rules rule.body fine)) in
    record_of rules text e terminal position
    (fine_has_result rules text grammar e position here
    (All-contains (IsFine rules) (subexpressions rule.body) e each inside))

-- the name of a rule refers to a rule
meaning_of-numbered : (rules : List Rule) (rule : ℕ) → rule < length rules
    → (m : Meaning) × (meaning_of rules (name_of rules rule) ≡ Some m)
meaning_of-numbered rules rule less = meaning_of-known rules (name_of rules rule) (named rules rule less)
  where
    named : (rules : List Rule) (rule : ℕ) → rule < length rules → Contains (names rules) (name_of rules rule)
    named [] rule less = absurd (omega (arith, less))
    named (r ∷ rs) zero less =
        Contains-append_left (r.name ∷ []) (names rs) r.name (Contains-push [] r.name)
    named (r ∷ rs) (suc rule) less =
        Contains-append_right (r.name ∷ []) (names rs) (name_of rs rule) (named rs rule (omega (arith, less)))

-- the name of each rule has a record
pub name_has_record : (rules : List Rule) (text : List ℕ) (rule : ℕ) (span : Extent) (terminal position : ℕ)
    → IsWellFormedGrammar rules → rule < length rules → position ≤ length text
    → (r : Record) × IsRecord rules text (Name (name_of rules rule) span) terminal position r
name_has_record rules text rule span terminal position grammar less here =
    let m = meaning_of-numbered rules rule less in
    let fine = fine-meaning rules text grammar (name_of rules rule) m.0 m.1 in
    let body = fine_has_result rules text grammar m.0.body position here fine in
    record_of rules text (Name (name_of rules rule) span) terminal position
    (name_has rules text grammar (name_of rules rule) span m.0 position m.1 body.0 body.1)

-- each start rule has a record
pub start_has_record : (rules : List Rule) (text : List ℕ) (start : ℕ) → IsWellFormedGrammar rules
    → start < length rules → (n : ℕ) × (r : Record) × (start_record rules text n (name_of rules start) ≡ Some r)
start_has_record rules text start grammar less =
    let a = name_has_record rules text start (between 0 0) 0 0 grammar less (omega arith) in (a.1.0, a.0, a.1.1)
