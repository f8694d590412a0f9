-- Where a terminal fails, the expressions that begin with it fail.
use Rattle.std.proofs.Common.{◌≡◌, ℕ, zero, suc, ◌+◌, Bool, true, false, if◌then◌else◌, List, [], ◌∷◌, ◌++◌, drop, length, nat_eq}
use Rattle.std.proofs.Common.{Some, bytes_eq, position, slice_get, get_or, option_map, option_and_then, refl, sym, ap, ◌∙◌}
use Rattle.std.specs.List.{starts_with}
use Rattle.std.proofs.lemmas.List.{append_assoc}
use Rattle.peg_bytes.specs.ByteSet.{Bytes, has}
use Rattle.peg_bytes.specs.Extent.{Extent}
use Rattle.peg_tree.specs.Trees.{Trees, NoTrees}
use Rattle.peg_semantics.specs.Form.{Form, Forms, Literal, Class, Any, Name, Seq, Choice, Optional, Star, Plus, Counted, And, Not}
use Rattle.peg_semantics.specs.Form.{Then, terminals}
use Rattle.peg_semantics.specs.Numbers.{first_from}
use Rattle.peg_semantics.specs.Record.{Recognition, Failed, Matched, Record, Recognizer, IsRecord, as_call, as_tree, if_matched, with_result, literal_at}
use Rattle.peg_semantics.specs.Record.{byte_at, failed_at, matched_at, recognize_seq, table, record_in}
use Rattle.peg_semantics.specs.Rules.{Rule, Meaning, meaning_of, names}
use Rattle.peg_semantics.proofs.ResultSteps.{begins_with, byte_at-matched, literal_at-failed, literal_at-matched, map_cases, starts_with-front, starts_with-rest, then_cases}
use Rattle.peg_semantics.proofs.RulesLemmas.{meaning, meant-position}
use Rattle.peg_lint.specs.Linting.{IsHeadOf, IsTerminal}
use Rattle.peg_lint.specs.Never.{FailsWhere}
use Rattle.peg_lint.proofs.SameLemmas.{same-results}

-- no result is both a failure and a match
not_both : (x : Recognition) (end : ℕ) (trees : Trees) → x ≡ Failed → x ≡ Matched end trees → ⊥
not_both x end trees failed matched = let bad : Failed ≡ Matched end trees = sym failed ∙ matched in cc

module _ (rules : List Rule) where
  pub head-itself : (e : Form) → IsTerminal e → IsHeadOf rules e e
  head-itself e is = (
    is,
    λ text terminal number position r s first second failed.
        sym (same-results rules e e refl text terminal number position r s first second) ∙ failed,
  )

  module _ (head e : Form) (is : IsHeadOf rules head e) where
    pub head-seq : (rest : Forms) (span : Extent) → IsHeadOf rules head (Seq (Then e rest) span)
    unfolding record_in
    head-seq rest span = (is.0, fails)
      where
        fails : FailsWhere rules head (Seq (Then e rest) span)
        fails text terminal number position r s first (zero, at) failed = cc
        fails text terminal number position r s first (suc n, at) failed =
            then_cases (λ x. x ≡ Failed) (record_in rules text n e number position)
            (λ end. recognize_seq (record_in rules text n) rest (number + terminals e) end) s
            (λ part tried f. refl)
            (λ part more end trees tried matched next. absurd
            (not_both part.result end trees (is.1 text terminal number position r part first (n, tried) failed) matched)) at

    pub head-plus : (span : Extent) → IsHeadOf rules head (Plus e span)
    unfolding record_in
    head-plus span = (is.0, fails)
      where
        fails : FailsWhere rules head (Plus e span)
        fails text terminal number position r s first (zero, at) failed = cc
        fails text terminal number position r s first (suc n, at) failed =
            then_cases (λ x. x ≡ Failed) (record_in rules text n e number position)
            (λ end. record_in rules text n (Star e span) number end) s
            (λ part tried f. refl)
            (λ part more end trees tried matched next. absurd
            (not_both part.result end trees (is.1 text terminal number position r part first (n, tried) failed) matched)) at

    pub head-and : (span : Extent) → IsHeadOf rules head (And e span)
    unfolding record_in
    head-and span = (is.0, fails)
      where
        fails : FailsWhere rules head (And e span)
        fails text terminal number position r s first (zero, at) failed = cc
        fails text terminal number position r s first (suc n, at) failed =
            map_cases (λ x. x ≡ Failed) (record_in rules text n e number position)
            (λ (r : Record). with_result r (if_matched r.result position)) s
            (λ part tried. ap (λ x. if_matched x position) (is.1 text terminal number position r part first (n, tried) failed))
            at

  pub head-name : (head : Form) (name : List ℕ) (span : Extent) (k : ℕ) (rule : Rule)
      → position (bytes_eq name) (names rules) ≡ Some k → slice_get rules k ≡ Some rule → IsHeadOf rules head rule.body
      → IsHeadOf rules head (Name name span)
  unfolding record_in
  head-name head name span k rule named there is = (is.0, fails)
    where
      first_of : ℕ
      first_of = get_or (first_from 0 rules) k 0

      meant : meaning_of rules name ≡ Some (meaning (0 + k) first_of rule)
      meant = meant-position rules name k named ∙ ap (option_map (meaning (0 + k) first_of)) there

      fails : FailsWhere rules head (Name name span)
      fails text terminal number position r s first (zero, at) failed = cc
      fails text terminal number position r s first (suc n, at) failed =
          let call = λ (m : Meaning). option_map (as_call m.rule position) (record_in rules text n m.body m.terminal position) in
          map_cases (λ x. x ≡ Failed) (record_in rules text n rule.body first_of position) (as_call (0 + k) position) s
          (λ part tried. ap (as_tree (0 + k) position)
          (is.1 text terminal first_of position r part first (n, tried) failed))
          (sym (ap (option_and_then call) meant) ∙ at)

-- ---- tests of bytes

-- a literal fails where one that it starts with fails
lit-lit : (t n p : ℕ) (a b rest : List ℕ) → starts_with nat_eq b a ≡ true → (literal_at t p a rest).result ≡ Failed
    → (literal_at n p b rest).result ≡ Failed
lit-lit t n p a b rest begins failed = by (starts_with nat_eq rest b) refl
  where
    by : (x : Bool) → starts_with nat_eq rest b ≡ x → (literal_at n p b rest).result ≡ Failed
    by false is = literal_at-failed n p b rest is
    by true is =
        let one = starts_with-rest b rest is in
        let two = starts_with-rest a b begins in
        let tail = drop (length a) b ++ drop (length b) rest in
        let all : rest ≡ a ++ tail =
        one ∙ (ap (λ l. l ++ drop (length b) rest) two ∙ append_assoc a (drop (length a) b) (drop (length b) rest)) in
        let here : starts_with nat_eq rest a ≡ true =
        ap (λ l. starts_with nat_eq l a) all ∙ starts_with-front a tail in
        absurd (not_both (literal_at t p a rest).result (p + length a) NoTrees failed
        (literal_at-matched t p (p + length a) a rest here refl))

-- a literal fails where a test fails that its first byte passes
byte-lit : (test : ℕ → Bool) (t n p b : ℕ) (bs rest : List ℕ) → test b ≡ true → (byte_at test t p rest).result ≡ Failed
    → (literal_at n p (b ∷ bs) rest).result ≡ Failed
byte-lit test t n p b bs rest passes failed = by (starts_with nat_eq rest (b ∷ bs)) refl
  where
    by : (x : Bool) → starts_with nat_eq rest (b ∷ bs) ≡ x → (literal_at n p (b ∷ bs) rest).result ≡ Failed
    by false is = literal_at-failed n p (b ∷ bs) rest is
    by true is =
        let here : begins_with test rest ≡ true =
        ap (begins_with test) (starts_with-rest (b ∷ bs) rest is) ∙ passes in
        absurd (not_both (byte_at test t p rest).result (p + 1) NoTrees failed
        (byte_at-matched test t p (p + 1) rest here refl))

-- a test fails where another fails that all of its bytes pass
byte-byte : (test other : ℕ → Bool) (t n p : ℕ) (rest : List ℕ) → ((byte : ℕ) → other byte ≡ true → test byte ≡ true)
    → (byte_at test t p rest).result ≡ Failed → (byte_at other n p rest).result ≡ Failed
byte-byte test other t n p [] passes failed = refl
byte-byte test other t n p (c ∷ rest) passes failed = by (other c) refl
  where
    by : (x : Bool) → other c ≡ x → (if x then matched_at (p + 1) else failed_at n p).result ≡ Failed
    by false is = refl
    by true is =
        absurd (not_both (byte_at test t p (c ∷ rest)).result (p + 1) NoTrees failed
        (byte_at-matched test t p (p + 1) (c ∷ rest) (passes c is) refl))

-- from what terminals do at a position of a text to their records
module _ (rules : List Rule) (e other : Form) (f g : ℕ → ℕ → List ℕ → Record)
    (is_f : (text : List ℕ) (take : Recognizer) (t p : ℕ) → table rules text take e t p ≡ Some (f t p (drop p text)))
    (is_g : (text : List ℕ) (take : Recognizer) (t p : ℕ) → table rules text take other t p ≡ Some (g t p (drop p text)))
    (step : (t n p : ℕ) (rest : List ℕ) → (f t p rest).result ≡ Failed → (g n p rest).result ≡ Failed) where
  fails-terminals : FailsWhere rules e other
  unfolding record_in
  fails-terminals text terminal number position r s (zero, at) second failed = absurd cc
  fails-terminals text terminal number position r s (suc n, at) (zero, there) failed = absurd cc
  fails-terminals text terminal number position r s (suc n, at) (suc m, there) failed =
      let first : Some (f terminal position (drop position text)) ≡ Some r =
      sym (is_f text (record_in rules text n) terminal position) ∙ at in
      let next : Some (g number position (drop position text)) ≡ Some s =
      sym (is_g text (record_in rules text m) number position) ∙ there in
      let one : f terminal position (drop position text) ≡ r = cc in
      let two : g number position (drop position text) ≡ s = cc in
      sym (ap (λ (r : Record). r.result) two)
      ∙ step terminal number position (drop position text) (ap (λ (r : Record). r.result) one ∙ failed)

module _ (rules : List Rule) (span other : Extent) where
  pub literal-literal : (a b : List ℕ) → starts_with nat_eq b a ≡ true
      → FailsWhere rules (Literal a span) (Literal b other)
  literal-literal a b begins =
      fails-terminals rules (Literal a span) (Literal b other) (λ t p rest. literal_at t p a rest)
      (λ t p rest. literal_at t p b rest) (λ text take t p. refl) (λ text take t p. refl)
      (λ t n p rest. lit-lit t n p a b rest begins)

  pub class-literal : (set : Bytes) (b : ℕ) (bs : List ℕ) → has set b ≡ true
      → FailsWhere rules (Class set span) (Literal (b ∷ bs) other)
  class-literal set b bs passes =
      fails-terminals rules (Class set span) (Literal (b ∷ bs) other) (byte_at (has set))
      (λ t p rest. literal_at t p (b ∷ bs) rest) (λ text take t p. refl) (λ text take t p. refl)
      (λ t n p rest. byte-lit (has set) t n p b bs rest passes)

  pub class-class : (set more : Bytes) → ((byte : ℕ) → has more byte ≡ true → has set byte ≡ true)
      → FailsWhere rules (Class set span) (Class more other)
  class-class set more passes =
      fails-terminals rules (Class set span) (Class more other) (byte_at (has set)) (byte_at (has more))
      (λ text take t p. refl) (λ text take t p. refl) (λ t n p rest. byte-byte (has set) (has more) t n p rest passes)

  pub any-literal : (b : ℕ) (bs : List ℕ) → FailsWhere rules (Any span) (Literal (b ∷ bs) other)
  any-literal b bs =
      fails-terminals rules (Any span) (Literal (b ∷ bs) other) (byte_at (λ byte. true))
      (λ t p rest. literal_at t p (b ∷ bs) rest) (λ text take t p. refl) (λ text take t p. refl)
      (λ t n p rest. byte-lit (λ byte. true) t n p b bs rest refl)

  pub any-class : (set : Bytes) → FailsWhere rules (Any span) (Class set other)
  any-class set =
      fails-terminals rules (Any span) (Class set other) (byte_at (λ byte. true)) (byte_at (has set))
      (λ text take t p. refl) (λ text take t p. refl)
      (λ t n p rest. byte-byte (λ byte. true) (has set) t n p rest (λ byte passes. refl))

  pub any-any : FailsWhere rules (Any span) (Any other)
  any-any =
      fails-terminals rules (Any span) (Any other) (byte_at (λ byte. true)) (byte_at (λ byte. true))
      (λ text take t p. refl) (λ text take t p. refl)
      (λ t n p rest. byte-byte (λ byte. true) (λ byte. true) t n p rest (λ byte passes. refl))

-- a terminal has a record at each position
pub has-record : (rules : List Rule) (text : List ℕ) (e : Form) (terminal position : ℕ) → IsTerminal e
    → (r : Record) × IsRecord rules text e terminal position r
unfolding record_in
has-record rules text (Literal bytes span) terminal position is =
    (literal_at terminal position bytes (drop position text), (1, refl))
has-record rules text (Class set span) terminal position is =
    (byte_at (has set) terminal position (drop position text), (1, refl))
has-record rules text (Any span) terminal position is =
    (byte_at (λ byte. true) terminal position (drop position text), (1, refl))
has-record rules text (Name name span) terminal position is = absurd is
has-record rules text (Seq items span) terminal position is = absurd is
has-record rules text (Choice first rest span) terminal position is = absurd is
has-record rules text (Optional part span) terminal position is = absurd is
has-record rules text (Star part span) terminal position is = absurd is
has-record rules text (Plus part span) terminal position is = absurd is
has-record rules text (Counted part min max span) terminal position is = absurd is
has-record rules text (And part span) terminal position is = absurd is
has-record rules text (Not part span) terminal position is = absurd is

-- where the first fails, what begins with the second fails
pub fails-through : (rules : List Rule) (e head other : Form) → FailsWhere rules e head → IsHeadOf rules head other
    → FailsWhere rules e other
fails-through rules e head other fails is text terminal number position r s first second failed =
    let found = has-record rules text head 0 position is.0 in
    is.1 text 0 number position found.0 s found.1 second
    (fails text terminal 0 position r found.0 first found.1 failed)
