-- The bytes with which a match of the metagrammar's forms may begin.
use Rattle.std.proofs.Common.{◌≡◌, ℕ, zero, suc, Bool, true, false, ◌||◌, ◌==◌, nat_eq, List, [], ◌∷◌, drop}
use Rattle.std.proofs.Common.{Option, None, Some, refl, sym, ap, ◌∙◌}
use Rattle.std.specs.List.{starts_with}
use Rattle.std.proofs.lemmas.Bool.{and_parts}
use Rattle.peg_bytes.specs.ByteSet.{has}
use Rattle.peg_tree.specs.Trees.{Trees}
use Rattle.peg_semantics.specs.Form.{Form, Forms, Literal, Class, Any, Name, Seq, Choice, Optional, Star, Plus, Counted, And, Not, End, Then}
use Rattle.peg_semantics.specs.Record.{Recognition, Failed, Matched}
use Rattle.peg_semantics.specs.Rules.{Rule, Meaning, meaning_of}
use Rattle.peg_semantics.proofs.Derivations.{Derives, DerivesItems, DerivesFirst}
use Rattle.peg_semantics.proofs.ResultSteps.{begins_with, passes_any}

-- the next byte, if there is one
abbrev pub front : List ℕ → Option ℕ
front [] = None
front (byte ∷ rest) = Some byte

abbrev pub is_byte : Option ℕ → ℕ → Bool
is_byte None byte = false
is_byte (Some front) byte = byte == front

abbrev pub is_in : Option ℕ → (ℕ → Bool) → Bool
is_in None test = false
is_in (Some front) test = test front

abbrev pub is_none : Option ℕ → Bool
is_none None = true
is_none (Some front) = false

-- whether an expression may match with this next byte, from what is known of names
abbrev mutual
  pub may_match : (List ℕ → Bool) → Option ℕ → Form → Bool
  may_match known at (Literal [] span) = true
  may_match known at (Literal (byte ∷ bytes) span) = is_byte at byte
  may_match known at (Class set span) = is_in at (has set)
  may_match known at (Any span) = is_in at passes_any
  may_match known at (Name name span) = known name
  may_match known at (Seq items span) = items_may_match known at items
  may_match known at (Choice first rest span) = may_match known at first || some_may_match known at rest
  may_match known at (Optional part span) = true
  may_match known at (Star part span) = true
  may_match known at (Plus part span) = may_match known at part
  may_match known at (Counted part min max span) = true
  may_match known at (And part span) = true
  may_match known at (Not (Any inside) span) = is_none at
  may_match known at (Not (Literal bytes inside) span) = true
  may_match known at (Not (Class set inside) span) = true
  may_match known at (Not (Name name inside) span) = true
  may_match known at (Not (Seq items inside) span) = true
  may_match known at (Not (Choice first rest inside) span) = true
  may_match known at (Not (Optional part inside) span) = true
  may_match known at (Not (Star part inside) span) = true
  may_match known at (Not (Plus part inside) span) = true
  may_match known at (Not (Counted part min max inside) span) = true
  may_match known at (Not (And part inside) span) = true
  may_match known at (Not (Not part inside) span) = true

  pub items_may_match : (List ℕ → Bool) → Option ℕ → Forms → Bool
  items_may_match known at End = true
  items_may_match known at (Then first rest) = may_match known at first

  pub some_may_match : (List ℕ → Bool) → Option ℕ → Forms → Bool
  some_may_match known at End = false
  some_may_match known at (Then first rest) = may_match known at first || some_may_match known at rest

abbrev pub meant_may_match : (List ℕ → Bool) → Option ℕ → Option Meaning → Bool
meant_may_match known at None = true
meant_may_match known at (Some m) = may_match known at m.body

-- the same for a name, in this number of steps from name to name
abbrev pub name_may_match : List Rule → ℕ → Option ℕ → List ℕ → Bool
name_may_match rules zero at used = true
name_may_match rules (suc n) at used = meant_may_match (name_may_match rules n at) at (meaning_of rules used)

or_first : (a b : Bool) → a ≡ true → (a || b) ≡ true
or_first a b is = ap (λ t. t || b) is

or_other : (a b : Bool) → b ≡ true → (a || b) ≡ true
or_other true b is = refl
or_other false b is = is

literal_front : (bytes l : List ℕ) → starts_with nat_eq l bytes ≡ true → (known : List ℕ → Bool) (span : _)
    → may_match known (front l) (Literal bytes span) ≡ true
literal_front [] l is known span = refl
literal_front (byte ∷ bytes) [] is known span = cc
literal_front (byte ∷ bytes) (c ∷ l) is known span = (and_parts (byte == c) (starts_with nat_eq l bytes) is).0

class_front : (test : ℕ → Bool) (l : List ℕ) → begins_with test l ≡ true → is_in (front l) test ≡ true
class_front test [] is = cc
class_front test (byte ∷ l) is = is

none_front : (l : List ℕ) → begins_with passes_any l ≡ false → is_none (front l) ≡ true
none_front [] is = refl
none_front (byte ∷ l) is = cc

module _ {rules : List Rule} {file : List ℕ} where
  not_front : (n : ℕ) (part : Form) (span : _) {p : ℕ} → Derives rules file part p Failed
      → may_match (name_may_match rules n (front (drop p file))) (front (drop p file)) (Not part span) ≡ true
  not_front n (Any inside) span {p} (Derives.any_failed is) = none_front (drop p file) is
  not_front n (Literal bytes inside) span d = refl
  not_front n (Class set inside) span d = refl
  not_front n (Name name inside) span d = refl
  not_front n (Seq items inside) span d = refl
  not_front n (Choice first rest inside) span d = refl
  not_front n (Optional part inside) span d = refl
  not_front n (Star part inside) span d = refl
  not_front n (Plus part inside) span d = refl
  not_front n (Counted part min max inside) span d = refl
  not_front n (And part inside) span d = refl
  not_front n (Not part inside) span d = refl

  mutual
    -- an expression that matches may match
    pub matches_front : (n : ℕ) {e : Form} {p end : ℕ} {trees : Trees}
        → Derives rules file e p (Matched end trees)
        → may_match (name_may_match rules n (front (drop p file))) (front (drop p file)) e ≡ true
    matches_front n (Derives.literal_matched {bytes = bytes} {span = span} {position = p} is end) =
        literal_front bytes (drop p file) is (name_may_match rules n (front (drop p file))) span
    matches_front n (Derives.class_matched {set = set} {position = p} is end) = class_front (has set) (drop p file) is
    matches_front n (Derives.any_matched {position = p} is end) = class_front passes_any (drop p file) is
    matches_front zero (Derives.name_matched found d t) = refl
    matches_front (suc n) (Derives.name_matched {position = p} found d t) =
        ap (meant_may_match (name_may_match rules n (front (drop p file))) (front (drop p file))) found ∙ matches_front n d
    matches_front n (Derives.sequence ds) = items_front n ds
    matches_front n (Derives.choice ds) = first_front n ds
    matches_front n (Derives.optional_some d) = refl
    matches_front n (Derives.optional_none d) = refl
    matches_front n (Derives.star_none d) = refl
    matches_front n (Derives.star_more d ds t) = refl
    matches_front n (Derives.plus_matched d ds t) = matches_front n d
    matches_front n (Derives.counted d) = refl
    matches_front n (Derives.and_matched d) = refl
    matches_front n (Derives.not_matched {part = part} {span = span} d) = not_front n part span d

    pub items_front : (n : ℕ) {items : Forms} {p end : ℕ} {trees : Trees}
        → DerivesItems rules file items p (Matched end trees)
        → items_may_match (name_may_match rules n (front (drop p file))) (front (drop p file)) items ≡ true
    items_front n DerivesItems.items_none = refl
    items_front n (DerivesItems.items_then d ds t) = matches_front n d

    pub first_front : (n : ℕ) {first : Form} {rest : Forms} {p end : ℕ} {trees : Trees}
        → DerivesFirst rules file first rest p (Matched end trees)
        → (may_match (name_may_match rules n (front (drop p file))) (front (drop p file)) first
        || some_may_match (name_may_match rules n (front (drop p file))) (front (drop p file)) rest) ≡ true
    first_front n (DerivesFirst.alternative_last {only = only} {position = p} d) =
        or_first (may_match (name_may_match rules n (front (drop p file))) (front (drop p file)) only) false (matches_front n d)
    first_front n (DerivesFirst.alternative_matched {first = first} {next = next} {rest = rest} {position = p} d) =
        or_first (may_match (name_may_match rules n (front (drop p file))) (front (drop p file)) first)
        (some_may_match (name_may_match rules n (front (drop p file))) (front (drop p file)) (Then next rest)) (matches_front n d)
    first_front n (DerivesFirst.alternative_failed {first = first} {next = next} {rest = rest} {position = p} d ds) =
        or_other (may_match (name_may_match rules n (front (drop p file))) (front (drop p file)) first)
        (some_may_match (name_may_match rules n (front (drop p file))) (front (drop p file)) (Then next rest)) (first_front n ds)

-- ---- forms that fail with another next byte

true≢false : true ≡ false → ⊥
true≢false e = cc

module _ {rules : List Rule} {file : List ℕ} where
  pub never_here : (n : ℕ) {e : Form} {p end : ℕ} {trees : Trees}
      → may_match (name_may_match rules n (front (drop p file))) (front (drop p file)) e ≡ false
      → Derives rules file e p (Matched end trees) → ⊥
  never_here n differs d = true≢false (sym (matches_front n d) ∙ differs)

  pub items_blocked : (n : ℕ) {e : Form} {rest : Forms} {p : ℕ} {x : Recognition}
      → may_match (name_may_match rules n (front (drop p file))) (front (drop p file)) e ≡ false
      → DerivesItems rules file (Then e rest) p x → x ≡ Failed
  items_blocked n differs (DerivesItems.items_failed d) = refl
  items_blocked n differs (DerivesItems.items_then d ds t) = absurd (never_here n differs d)

  pub first_blocked : (n : ℕ) {e : Form} {rest : Forms} {p : ℕ} {x : Recognition}
      → may_match (name_may_match rules n (front (drop p file))) (front (drop p file)) e ≡ false
      → some_may_match (name_may_match rules n (front (drop p file))) (front (drop p file)) rest ≡ false
      → DerivesFirst rules file e rest p x → x ≡ Failed
  first_blocked n {e} {rest} {p} {x} differs others ds = by x ds
    where
      either : (a b : Bool) → a ≡ false → b ≡ false → (a || b) ≡ true → ⊥
      either a b differs others is = true≢false (sym is ∙ (ap (λ t. t || b) differs ∙ others))

      by : (x : Recognition) → DerivesFirst rules file e rest p x → x ≡ Failed
      by Failed ds = refl
      by (Matched end trees) ds =
          absurd (either (may_match (name_may_match rules n (front (drop p file))) (front (drop p file)) e)
          (some_may_match (name_may_match rules n (front (drop p file))) (front (drop p file)) rest) differs others (first_front n ds))

  pub star_blocked : (n : ℕ) {e : Form} {span : _} {p end : ℕ} {trees : Trees}
      → may_match (name_may_match rules n (front (drop p file))) (front (drop p file)) e ≡ false
      → Derives rules file (Star e span) p (Matched end trees) → end ≡ p
  star_blocked n differs (Derives.star_none d) = refl
  star_blocked n differs (Derives.star_more d ds t) = absurd (never_here n differs d)
