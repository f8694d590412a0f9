-- What names refer to in the marked grammar: the marked rule of the same number, and the marker of an alternative.
use Rattle.std.proofs.Common.{◌≡◌, ◌≢◌, ◌⊎◌, inl, inr, ℕ, suc, ◌+◌, ◌*◌, ◌^◌, ◌<◌, ◌≤◌, Bool, true, false, if◌then◌else◌, List, [], ◌∷◌, ◌++◌}
use Rattle.std.proofs.Common.{Option, Some, All, length, bytes_eq, refl, sym, ap, ◌∙◌, subst, arith}
use Rattle.std.proofs.lemmas.Bool.{cases_lt, false≢true}
use Rattle.std.proofs.lemmas.List.Elements.{All-head, All-tail}
use Rattle.peg_bytes.specs.Extent.{Extent}
use Rattle.peg_semantics.specs.Form.{Seq, End, terminals}
use Rattle.peg_semantics.specs.Rules.{Rule, Meaning, names, meaning_from, meaning_of}
use Rattle.peg_diagnostics.specs.Attempts.{first_alternative_from}
use Rattle.peg_diagnostics.specs.Marked.{alternatives, alternatives_of_rules, mark, mark_rules, marked_rules}
use Rattle.peg_diagnostics.specs.Marked.{marker_extents, marker_name, marker_rules, markers_of_rules, with_end}
use Rattle.peg_diagnostics.proofs.Lookups.{Distinct, AllPairs-cross, bytes_eq-same, bytes_eq-itself, bytes_eq-apart}
use Rattle.peg_diagnostics.proofs.MarkBounds.{length-marker_extents}
use Rattle.peg_diagnostics.proofs.MarkedGrammar.{marker-injective, marker_names-known, names-marked}

-- What a name refers to has a marked copy under the same name, with the same number, before the call of a marker of its
-- own. All its markers are known.
pub record HasMarked (count total : ℕ) (rules other : List Rule) (name : List ℕ) (m : Meaning) : Type 0 where
  pub copy : Meaning
  pub marker : ℕ
  pub span : Extent
  pub found : meaning_of other name ≡ Some copy
  pub numbered : m.rule ≡ copy.rule
  pub below : m.rule < count
  pub is_marked : copy.body ≡ with_end marker span (mark (first_alternative_from 0 rules name) m.body)
  pub within : first_alternative_from 0 rules name + alternatives m.body ≤ total
  pub ends : marker ≡ 2 * total + m.rule

-- The name of a marker refers to a rule after the first ones, with the number of the marker. It matches the empty
-- string.
pub record HasMarker (count : ℕ) (other : List Rule) (number : ℕ) : Type 0 where
  pub marker : Meaning
  pub span : Extent
  pub found : meaning_of other (marker_name number) ≡ Some marker
  pub numbered : marker.rule ≡ count + number
  pub empty : marker.body ≡ Seq End span

-- ---- rules

-- The marked copy among the rules, which are numbered from `rule` on and their own markers from `marker` on. `number` is
-- that of its first alternative.
record FindsMarked (total rule marker number : ℕ) (found : Option Meaning) (m : Meaning) : Type 0 where
  copy : Meaning
  own : ℕ
  span : Extent
  is : found ≡ Some copy
  numbered : m.rule ≡ copy.rule
  body : copy.body ≡ with_end own span (mark number m.body)
  within : number + alternatives m.body ≤ total
  ends : own + rule ≡ marker + m.rule

finds_marked : (total : ℕ) (rules more : List Rule) (rule terminal other number marker : ℕ) (name : List ℕ) (m : Meaning)
    → number + alternatives_of_rules rules ≤ total → meaning_from rule terminal rules name ≡ Some m
    → FindsMarked total rule marker (first_alternative_from number rules name)
    (meaning_from rule other (mark_rules number marker rules ++ more) name) m
finds_marked total [] more rule terminal other number marker name m within is = cc
finds_marked total (r ∷ rs) more rule terminal other number marker name m within is =
    by (bytes_eq name r.name)
    (finds_marked total rs more (rule + 1) (terminal + terminals r.body)
    (other + terminals (with_end marker r.span (mark number r.body)))
    (number + alternatives r.body) (marker + 1) name m (omega (arith, within))) is
  where
    first : Meaning
    first = record { rule = rule; terminal = terminal; body = r.body }

    copy : Meaning
    copy = record { rule = rule; terminal = other; body = with_end marker r.span (mark number r.body) }

    others : Option Meaning
    others =
        meaning_from (rule + 1) (other + terminals (with_end marker r.span (mark number r.body)))
        (mark_rules (number + alternatives r.body) (marker + 1) rs ++ more) name

    later_number : ℕ
    later_number = first_alternative_from (number + alternatives r.body) rs name

    by : (b : Bool)
        → (meaning_from (rule + 1) (terminal + terminals r.body) rs name ≡ Some m
        → FindsMarked total (rule + 1) (marker + 1) later_number others m)
        → (if b then Some first else meaning_from (rule + 1) (terminal + terminals r.body) rs name) ≡ Some m
        → FindsMarked total rule marker (if b then number else later_number) (if b then Some copy else others) m
    by true later found =
        let same : first ≡ m = cc in
        subst (FindsMarked total rule marker number (Some copy)) same (record {
          copy = copy;
          own = marker;
          span = r.span;
          is = refl;
          numbered = refl;
          body = refl;
          within = omega (arith, within);
          ends = refl;
        })
    by false later found =
        let f = later found in
        record {
          copy = f.copy;
          own = f.own;
          span = f.span;
          is = f.is;
          numbered = f.numbered;
          body = f.body;
          within = f.within;
          ends = (let e = f.ends in omega (arith, e));
        }

-- the number of a rule is among those of the rules
numbered-below : (rules : List Rule) (rule terminal : ℕ) (name : List ℕ) (m : Meaning)
    → meaning_from rule terminal rules name ≡ Some m → m.rule < rule + length rules
numbered-below [] rule terminal name m is = cc
numbered-below (r ∷ rs) rule terminal name m is =
    by (bytes_eq name r.name) (numbered-below rs (rule + 1) (terminal + terminals r.body) name m) is
  where
    first : Meaning
    first = record { rule = rule; terminal = terminal; body = r.body }

    by : (b : Bool)
        → (meaning_from (rule + 1) (terminal + terminals r.body) rs name ≡ Some m → m.rule < rule + 1 + length rs)
        → (if b then Some first else meaning_from (rule + 1) (terminal + terminals r.body) rs name) ≡ Some m
        → m.rule < rule + length (r ∷ rs)
    by true later found = let same : first ≡ m = cc in omega (arith, ap (λ (k : Meaning). k.rule) same)
    by false later found = omega (arith, later found)

pub has_marked : (rules : List Rule) (name : List ℕ) (m : Meaning) → meaning_of rules name ≡ Some m
    → HasMarked (length rules) (alternatives_of_rules rules) rules (marked_rules rules) name m
has_marked rules name m is =
    let found =
    finds_marked (alternatives_of_rules rules) rules (marker_rules 0 (marker_extents rules)) 0 0 0 0
    (2 * alternatives_of_rules rules) name m (omega arith) is in
    record {
      copy = found.copy;
      marker = found.own;
      span = found.span;
      found = found.is;
      numbered = found.numbered;
      below = (let less = numbered-below rules 0 0 name m is in omega (arith, less));
      is_marked = found.body;
      within = found.within;
      ends = (let e = found.ends in omega (arith, e));
    }

-- ---- markers

-- a marker with a number
abbrev FindsMarker : (rule : ℕ) → Option Meaning → Type 0
FindsMarker rule found =
    (marker : Meaning) × (span : Extent) × (found ≡ Some marker) × (marker.rule ≡ rule) × (marker.body ≡ Seq End span)

among_markers : (spans : List Extent) (rule terminal next number : ℕ) → next ≤ number
    → number < next + length spans → next + length spans ≤ 2 ^ 64
    → FindsMarker (rule + number) (meaning_from (rule + next) terminal (marker_rules next spans) (marker_name number))
among_markers [] rule terminal next number from below few = absurd (omega (arith, from, below))
among_markers (span ∷ spans) rule terminal next number from below few =
    by (bytes_eq (marker_name number) (marker_name next)) refl
    (λ less. let at : rule + (next + 1) ≡ rule + next + 1 = omega arith in
    let same : terminal ≡ terminal + 0 = omega arith in
    subst (λ t. FindsMarker (rule + number)
    (meaning_from (rule + next + 1) t (marker_rules (next + 1) spans) (marker_name number))) same
    (subst (λ r. FindsMarker (rule + number)
    (meaning_from r terminal (marker_rules (next + 1) spans) (marker_name number))) at
    (among_markers spans rule terminal (next + 1) number (omega (arith, less)) (omega (arith, below))
    (omega (arith, few)))))
  where
    first : Meaning
    first = record { rule = rule + next; terminal = terminal; body = Seq End span }

    others : Option Meaning
    others = meaning_from (rule + next + 1) (terminal + 0) (marker_rules (next + 1) spans) (marker_name number)

    by : (b : Bool) → bytes_eq (marker_name number) (marker_name next) ≡ b
        → (next < number → FindsMarker (rule + number) others)
        → FindsMarker (rule + number) (if b then Some first else others)
    by true equal later =
        let same : number ≡ next =
        marker-injective number next (omega (arith, below, few)) (omega (arith, from, below, few))
        (bytes_eq-same (marker_name number) (marker_name next) equal) in
        (first, span, refl, (let at : rule + next ≡ rule + number = omega (arith, same) in at), refl)
    by false differs later = later (apart (cases_lt next number))
      where
        apart : (next < number) ⊎ (number ≤ next) → next < number
        apart (inl less) = less
        apart (inr less) =
            let same : number ≡ next = omega (arith, from, less) in
            let equal = subst (λ n. bytes_eq (marker_name number) (marker_name n) ≡ true) same
            (bytes_eq-itself (marker_name number)) in
            absurd (false≢true (sym differs ∙ equal))

-- no rule has the name: the name refers to one of the rules after them
past_rules : (rules more : List Rule) (rule terminal number marker : ℕ) (name : List ℕ)
    → All (λ n. n ≢ name) (names rules)
    → (other : ℕ) × (meaning_from rule terminal (mark_rules number marker rules ++ more) name
    ≡ meaning_from (rule + length rules) other more name)
past_rules [] more rule terminal number marker name apart =
    (terminal, ap (λ r. meaning_from r terminal more name) (let at : rule ≡ rule + 0 = omega arith in at))
past_rules (r ∷ rs) more rule terminal number marker name apart =
    let body = with_end marker r.span (mark number r.body) in
    let later = past_rules rs more (rule + 1) (terminal + terminals body) (number + alternatives r.body) (marker + 1)
    name (All-tail (λ n. n ≢ name) r.name (names rs) apart) in
    let differs = bytes_eq-apart name r.name (λ same. All-head (λ n. n ≢ name) r.name (names rs) apart (sym same)) in (
      later.0,
      ap (λ b. if b then Some (record { rule = rule; terminal = terminal; body = body })
          else meaning_from (rule + 1) (terminal + terminals body)
          (mark_rules (number + alternatives r.body) (marker + 1) rs ++ more) name) differs
          ∙ later.1
          ∙ ap (λ n. meaning_from n later.0 more name) (let at : rule + 1 + length rs ≡ rule + suc (length rs) = omega arith in at),
    )

pub has_marker : (rules : List Rule) → Distinct (names (marked_rules rules)) → markers_of_rules rules ≤ 2 ^ 64
    → (marker : ℕ) → marker < markers_of_rules rules
    → HasMarker (length rules) (marked_rules rules) marker
has_marker rules distinct few marker below =
    let spans = marker_extents rules in
    let long = length-marker_extents rules in
    let known = marker_names-known 0 marker spans (omega arith) (omega (arith, below, long)) in
    let apart = AllPairs-cross (λ a b. a ≢ b) (names rules) (names (marker_rules 0 spans)) (marker_name marker)
    (subst Distinct (names-marked rules) distinct) known in
    let past = past_rules rules (marker_rules 0 spans) 0 0 0 (2 * alternatives_of_rules rules) (marker_name marker)
    apart in
    let there = among_markers spans (length rules) past.0 0 marker (omega arith) (omega (arith, below, long))
    (omega (arith, few, long)) in
    let at : length rules + 0 ≡ 0 + length rules = omega arith in
    record {
      marker = there.0;
      span = there.1;
      found = past.1 ∙ ap (λ r. meaning_from r past.0 (marker_rules 0 spans) (marker_name marker)) (sym at) ∙ there.2;
      numbered = there.3;
      empty = there.4;
    }
