-- What the edges of parts say of records is preserved by the forms of expressions.
use Rattle.std.proofs.Common.{◌≡◌, ℕ, suc, ◌+◌, ◌<◌, ◌≤◌, ◌⊎◌, inl, inr, Bool, true, false, ◌&&◌, ◌||◌, not, ◌==◌, nat_eq}
use Rattle.std.proofs.Common.{List, [], ◌∷◌, length, drop, refl, sym, ap, ◌∙◌, subst, arith, eq-eqb}
use Rattle.std.proofs.lemmas.Bool.{cases_lt}
use Rattle.std.proofs.lemmas.Bool.Decides.{nat_tests}
use Rattle.std.specs.List.{starts_with}
use Rattle.peg_tree.specs.Trees.{Trees}
use Rattle.peg_semantics.specs.Record.{Recognition, Failed, Matched, prepend_trees, if_matched, if_failed, literal_at, byte_at, as_tree}
use Rattle.peg_semantics.proofs.ResultSteps.{begins_with, byte_at-failed, byte_at-matched, literal_at-failed, literal_at-matched, passes_any, starts_with-rest}
use Rattle.peg_semantics.proofs.RoundsLemmas.{or_right}
use Rattle.peg_lint.specs.Edges.{Edges, any_edges, and_edges, byte_edges, choice_edges, count_edges, each_byte, empty_edges}
use Rattle.peg_lint.specs.Edges.{literal_edges, no_byte, not_edges, optional_edges, plus_edges, seq_edges, star_edges}

-- what is known of a match that begins at a position and ends at another one
pub record Matches (edges : Edges) (text : List ℕ) (position end : ℕ) : Type 0 where
  pub onward : position ≤ end
  pub nothing : end ≡ position → edges.nothing ≡ true
  pub something : position < end → edges.something ≡ true
  pub begins : position < end → (edges.any || begins_with edges.begins (drop position text)) ≡ true
  pub stops : begins_with edges.stops (drop end text) ≡ false

-- what is known of a failure at a position
abbrev pub Fails : Edges → List ℕ → (position : ℕ) → Type 0
Fails edges text position = (edges.fails ≡ true) × (begins_with edges.takes (drop position text) ≡ false)

-- what is known of a result at a position
abbrev pub Fits : Edges → List ℕ → (position : ℕ) → Recognition → Type 0
Fits edges text position Failed = Fails edges text position
Fits edges text position (Matched end trees) = Matches edges text position end

-- a match is empty or longer
pub none_or_some : (position end : ℕ) → position ≤ end → (end ≡ position) ⊎ (position < end)
none_or_some position end onward =
    elim (cases_lt position end) [
      | inl some ↦ inr some
      | inr none ↦ inl (omega (arith, onward, none))
    ]

-- ---- tests of the first byte

or_left : (a b : Bool) → a ≡ true → (a || b) ≡ true
or_left a b is = ap (λ x. x || b) is

and_both : (a b : Bool) → a ≡ true → b ≡ true → (a && b) ≡ true
and_both a b is also = ap (λ x. x && b) is ∙ also

neither : (a b : Bool) → a ≡ false → b ≡ false → (a || b) ≡ false
neither a b is also = ap (λ x. x || b) is ∙ also

pub front-none : (l : List ℕ) → begins_with no_byte l ≡ false
front-none [] = refl
front-none (c ∷ rest) = refl

front-or : (f g : ℕ → Bool) (l : List ℕ) → begins_with (λ byte. f byte || g byte) l ≡ (begins_with f l || begins_with g l)
front-or f g [] = refl
front-or f g (c ∷ rest) = refl

front-and : (x : Bool) (g : ℕ → Bool) (l : List ℕ) → begins_with (λ byte. x && g byte) l ≡ (x && begins_with g l)
front-and true g [] = refl
front-and false g [] = refl
front-and x g (c ∷ rest) = refl

-- a list that doesn't begin has no first byte
front-nothing : (test : ℕ → Bool) (l : List ℕ) → begins_with passes_any l ≡ false → begins_with test l ≡ false
front-nothing test [] is = refl
front-nothing test (c ∷ rest) is = cc

-- a match of the empty string
Matches-here : (edges : Edges) (text : List ℕ) (position : ℕ) → edges.nothing ≡ true
    → begins_with edges.stops (drop position text) ≡ false → Matches edges text position position
Matches-here edges text position may next = record {
  onward = omega arith;
  nothing = λ same. may;
  something = λ less. absurd (omega (arith, less));
  begins = λ less. absurd (omega (arith, less));
  stops = next;
}

-- ---- terminals

pub Fits-empty : (text : List ℕ) (position : ℕ) → Matches empty_edges text position position
Fits-empty text position = Matches-here empty_edges text position refl (front-none (drop position text))

pub Fits-byte : (test : ℕ → Bool) (text : List ℕ) (terminal position : ℕ)
    → Fits (byte_edges test) text position (byte_at test terminal position (drop position text)).result
Fits-byte test text terminal position = by (begins_with test (drop position text)) refl
  where
    by : (t : Bool) → begins_with test (drop position text) ≡ t
        → Fits (byte_edges test) text position (byte_at test terminal position (drop position text)).result
    by true is =
        subst (Fits (byte_edges test) text position)
        (sym (byte_at-matched test terminal position (position + 1) (drop position text) is refl))
        (record {
          onward = omega arith;
          nothing = λ same. absurd (omega (arith, same));
          something = λ less. refl;
          begins = λ less. is;
          stops = front-none (drop (position + 1) text);
        })
    by false is =
        subst (Fits (byte_edges test) text position)
        (sym (byte_at-failed test terminal position (drop position text) is)) (refl, is)

pub Fits-any : (text : List ℕ) (terminal position : ℕ)
    → Fits any_edges text position (byte_at passes_any terminal position (drop position text)).result
Fits-any text terminal position = by (begins_with passes_any (drop position text)) refl
  where
    by : (t : Bool) → begins_with passes_any (drop position text) ≡ t
        → Fits any_edges text position (byte_at passes_any terminal position (drop position text)).result
    by true is =
        subst (Fits any_edges text position)
        (sym (byte_at-matched passes_any terminal position (position + 1) (drop position text) is refl))
        (record {
          onward = omega arith;
          nothing = λ same. absurd (omega (arith, same));
          something = λ less. refl;
          begins = λ less. refl;
          stops = front-none (drop (position + 1) text);
        })
    by false is =
        subst (Fits any_edges text position)
        (sym (byte_at-failed passes_any terminal position (drop position text) is))
        (refl, front-nothing each_byte (drop position text) is)

and_true : (x : Bool) → (x && true) ≡ false → x ≡ false
and_true true is = cc
and_true false is = refl

eq-swap : (b c : ℕ) → (b == c) ≡ false → (c == b) ≡ false
eq-swap b c is = grind (arith, nat_tests)

not_one : (n : ℕ) → (suc (suc n) == 1) ≡ false
not_one n = grind (arith, nat_tests)

-- bytes that don't start with a literal of one byte don't begin with it
starts-single : (b : ℕ) (bs l : List ℕ) → starts_with nat_eq l (b ∷ bs) ≡ false
    → ((length (b ∷ bs) == 1) && begins_with (λ byte. byte == b) l) ≡ false
starts-single b [] [] is = refl
starts-single b [] (c ∷ rest) is = eq-swap b c (and_true (b == c) is)
starts-single b (d ∷ bs) l is = ap (λ x. x && begins_with (λ byte. byte == b) l) (not_one (length bs))

pub Fits-literal : (bytes : List ℕ) (text : List ℕ) (terminal position : ℕ)
    → Fits (literal_edges bytes) text position (literal_at terminal position bytes (drop position text)).result
Fits-literal [] text terminal position = Fits-empty text position
Fits-literal (b ∷ bs) text terminal position = by (starts_with nat_eq (drop position text) (b ∷ bs)) refl
  where
    by : (t : Bool) → starts_with nat_eq (drop position text) (b ∷ bs) ≡ t
        → Fits (literal_edges (b ∷ bs)) text position (literal_at terminal position (b ∷ bs) (drop position text)).result
    by true is =
        subst (Fits (literal_edges (b ∷ bs)) text position)
        (sym (literal_at-matched terminal position (position + length (b ∷ bs)) (b ∷ bs) (drop position text) is refl))
        (record {
          onward = omega arith;
          nothing = λ same. absurd (omega (arith, same));
          something = λ less. refl;
          begins = λ less.
              ap (begins_with (λ byte. byte == b)) (starts_with-rest (b ∷ bs) (drop position text) is) ∙ eq-eqb b b refl;
          stops = front-none (drop (position + length (b ∷ bs)) text);
        })
    by false is =
        subst (Fits (literal_edges (b ∷ bs)) text position)
        (sym (literal_at-failed terminal position (b ∷ bs) (drop position text) is)) (
          refl,
          front-and (length (b ∷ bs) == 1) (λ byte. byte == b) (drop position text)
              ∙ starts-single b bs (drop position text) is,
        )

-- ---- sequences

begins-first : (x y z f g : Bool) → (x || f) ≡ true → ((x || (y && z)) || (f || (y && g))) ≡ true
begins-first true y z f g is = refl
begins-first false true true true g is = refl
begins-first false true false true g is = refl
begins-first false false z true g is = refl
begins-first false y z false g is = cc

begins-second : (x y z f g : Bool) → y ≡ true → (z || g) ≡ true → ((x || (y && z)) || (f || (y && g))) ≡ true
begins-second true y z f g may is = refl
begins-second false true true f g may is = refl
begins-second false true false true g may is = refl
begins-second false true false false true may is = refl
begins-second false true false false false may is = cc
begins-second false false z f g may is = cc

-- where a match that consumes nothing ends, the same bytes are next
same-bytes : (test : ℕ → Bool) (text : List ℕ) (one other : ℕ) → one ≡ other
    → begins_with test (drop one text) ≡ begins_with test (drop other text)
same-bytes test text one other same = ap (λ n. begins_with test (drop n text)) same

module _ (a b : Edges) (text : List ℕ) (position middle : ℕ) (part : Matches a text position middle) where
  seq-begins : (end : ℕ) → Matches b text middle end → position < end
      → ((seq_edges a b).any || begins_with (seq_edges a b).begins (drop position text)) ≡ true
  seq-begins end rest less =
      let here = begins_with a.begins (drop position text) in
      let next = begins_with b.begins (drop position text) in
      let split : begins_with (seq_edges a b).begins (drop position text) ≡ (here || (a.nothing && next)) =
      front-or a.begins (λ byte. a.nothing && b.begins byte) (drop position text)
      ∙ ap (λ x. here || x) (front-and a.nothing b.begins (drop position text)) in
      ap (λ x. (a.any || (a.nothing && b.any)) || x) split
      ∙ elim (none_or_some position middle part.onward) [
        | inl none ↦
            begins-second a.any a.nothing b.any here next (part.nothing none)
            (ap (λ x. b.any || x) (same-bytes b.begins text position middle (sym none))
            ∙ rest.begins (omega (arith, none, less)))
        | inr some ↦ begins-first a.any a.nothing b.any here next (part.begins some)
      ]

  seq-stops : (end : ℕ) → Matches b text middle end → begins_with (seq_edges a b).stops (drop end text) ≡ false
  seq-stops end rest =
      let last = begins_with b.stops (drop end text) in
      let before = begins_with a.stops (drop end text) in
      front-or b.stops (λ byte. not b.something && a.stops byte) (drop end text)
      ∙ (ap (λ x. last || x) (front-and (not b.something) a.stops (drop end text))
      ∙ neither last (not b.something && before) rest.stops (by b.something refl))
    where
      by : (x : Bool) → b.something ≡ x → (not b.something && begins_with a.stops (drop end text)) ≡ false
      by true is = ap (λ x. not x && begins_with a.stops (drop end text)) is
      by false is =
          ap (λ x. not x && begins_with a.stops (drop end text)) is
          ∙ elim (none_or_some middle end rest.onward) [
            | inl none ↦ same-bytes a.stops text end middle none ∙ part.stops
            | inr some ↦ absurd (let bad : false ≡ true = sym is ∙ rest.something some in cc)
          ]

  pub Fits-seq : (trees : Trees) (x : Recognition) → Fits b text middle x
      → Fits (seq_edges a b) text position (prepend_trees trees x)
  Fits-seq trees Failed rest = (
    or_right a.fails b.fails rest.0,
    front-and (not b.fails) a.takes (drop position text)
        ∙ ap (λ x. not x && begins_with a.takes (drop position text)) rest.0,
  )
  Fits-seq trees (Matched end more) rest = record {
    onward = omega (arith, part.onward, rest.onward);
    nothing = λ same.
        and_both a.nothing b.nothing (part.nothing (omega (arith, part.onward, rest.onward, same)))
        (rest.nothing (omega (arith, part.onward, rest.onward, same)));
    something = λ less.
        elim (none_or_some position middle part.onward) [
          | inl none ↦ or_right a.something b.something (rest.something (omega (arith, less, none)))
          | inr some ↦ or_left a.something b.something (part.something some)
        ];
    begins = seq-begins end rest;
    stops = seq-stops end rest;
  }

pub Fails-seq : (a b : Edges) (text : List ℕ) (position : ℕ) → Fails a text position → Fails (seq_edges a b) text position
Fails-seq a b text position is = (
  or_left a.fails b.fails is.0,
  front-and (not b.fails) a.takes (drop position text) ∙ by (not b.fails),
)
  where
    by : (x : Bool) → (x && begins_with a.takes (drop position text)) ≡ false
    by true = is.1
    by false = refl

-- ---- choices

begins-left : (x y f g : Bool) → (x || f) ≡ true → ((x || y) || (f || g)) ≡ true
begins-left true y f g is = refl
begins-left false true f g is = refl
begins-left false false true g is = refl
begins-left false false false g is = cc

begins-right : (x y f g : Bool) → (y || g) ≡ true → ((x || y) || (f || g)) ≡ true
begins-right true y f g is = refl
begins-right false true f g is = refl
begins-right false false true g is = refl
begins-right false false false true is = refl
begins-right false false false false is = cc

module _ (a b : Edges) (text : List ℕ) (position : ℕ) where
  choice-begins : begins_with (choice_edges a b).begins (drop position text)
      ≡ (begins_with a.begins (drop position text) || begins_with b.begins (drop position text))
  choice-begins = front-or a.begins b.begins (drop position text)

  pub Matches-choice : (end : ℕ) → Matches a text position end → Matches (choice_edges a b) text position end
  Matches-choice end part = record {
    onward = part.onward;
    nothing = λ same. or_left a.nothing b.nothing (part.nothing same);
    something = λ less. or_left a.something b.something (part.something less);
    begins = λ less.
        ap (λ x. (a.any || b.any) || x) choice-begins
        ∙ begins-left a.any b.any (begins_with a.begins (drop position text)) (begins_with b.begins (drop position text))
        (part.begins less);
    stops = front-none (drop end text);
  }

  pub Fits-choice : (x : Recognition) → Fails a text position → Fits b text position x
      → Fits (choice_edges a b) text position x
  Fits-choice Failed failed other = (
    and_both a.fails b.fails failed.0 other.0,
    front-or a.takes b.takes (drop position text)
        ∙ neither (begins_with a.takes (drop position text)) (begins_with b.takes (drop position text)) failed.1 other.1,
  )
  Fits-choice (Matched end trees) failed other = record {
    onward = other.onward;
    nothing = λ same. or_right a.nothing b.nothing (other.nothing same);
    something = λ less. or_right a.something b.something (other.something less);
    begins = λ less.
        ap (λ x. (a.any || b.any) || x) choice-begins
        ∙ begins-right a.any b.any (begins_with a.begins (drop position text)) (begins_with b.begins (drop position text))
        (other.begins less);
    stops = front-none (drop end text);
  }

-- ---- operators

-- the first of several rounds that consumes begins where the first round does
module _ (p : Edges) (text : List ℕ) (position middle end : ℕ) (part : Matches p text position middle) where
  rounds-something : (middle < end → p.something ≡ true) → position < end → p.something ≡ true
  rounds-something later less =
      elim (none_or_some position middle part.onward) [
        | inl none ↦ later (omega (arith, none, less))
        | inr some ↦ part.something some
      ]

  rounds-begins : (middle < end → (p.any || begins_with p.begins (drop middle text)) ≡ true) → position < end
      → (p.any || begins_with p.begins (drop position text)) ≡ true
  rounds-begins later less =
      elim (none_or_some position middle part.onward) [
        | inl none ↦
            ap (λ x. p.any || x) (same-bytes p.begins text position middle (sym none)) ∙ later (omega (arith, none, less))
        | inr some ↦ part.begins some
      ]

module _ (p : Edges) (text : List ℕ) (position : ℕ) where
  pub Matches-optional : (end : ℕ) → Matches p text position end → Matches (optional_edges p) text position end
  Matches-optional end part = record {
    onward = part.onward;
    nothing = λ same. refl;
    something = part.something;
    begins = part.begins;
    stops = front-none (drop end text);
  }

  pub Matches-none : Matches (optional_edges p) text position position
  Matches-none = Matches-here (optional_edges p) text position refl (front-none (drop position text))

  pub Matches-star : Fails p text position → Matches (star_edges p) text position position
  Matches-star failed = Matches-here (star_edges p) text position refl failed.1

  module _ (middle : ℕ) (trees : Trees) (part : Matches p text position middle) where
    pub Fits-star : (x : Recognition) → Fits (star_edges p) text middle x
        → Fits (star_edges p) text position (prepend_trees trees x)
    Fits-star Failed rest = absurd (let bad : false ≡ true = rest.0 in cc)
    Fits-star (Matched end more) rest = record {
      onward = omega (arith, part.onward, rest.onward);
      nothing = λ same. refl;
      something = rounds-something p text position middle end part rest.something;
      begins = rounds-begins p text position middle end part rest.begins;
      stops = rest.stops;
    }

    pub Fits-plus : (x : Recognition) → Fits (star_edges p) text middle x
        → Fits (plus_edges p) text position (prepend_trees trees x)
    Fits-plus Failed rest = absurd (let bad : false ≡ true = rest.0 in cc)
    Fits-plus (Matched end more) rest = record {
      onward = omega (arith, part.onward, rest.onward);
      nothing = λ same. part.nothing (omega (arith, part.onward, rest.onward, same));
      something = rounds-something p text position middle end part rest.something;
      begins = rounds-begins p text position middle end part rest.begins;
      stops = rest.stops;
    }

    pub Fits-count : (min max less more : ℕ) (x : Recognition)
        → (middle ≡ position → (count_edges p min max).nothing ≡ true)
        → Fits (count_edges p less more) text middle x → Fits (count_edges p min max) text position (prepend_trees trees x)
    Fits-count min max less more Failed empty rest = (rest.0, front-none (drop position text))
    Fits-count min max less more (Matched end last) empty rest = record {
      onward = omega (arith, part.onward, rest.onward);
      nothing = λ same. empty (omega (arith, part.onward, rest.onward, same));
      something = rounds-something p text position middle end part rest.something;
      begins = rounds-begins p text position middle end part rest.begins;
      stops = front-none (drop end text);
    }

  pub Matches-count : (min max : ℕ) → (count_edges p min max).nothing ≡ true
      → Matches (count_edges p min max) text position position
  Matches-count min max may = Matches-here (count_edges p min max) text position may (front-none (drop position text))

  pub Fails-count : (min max : ℕ) → Fails p text position → Fails (count_edges p min max) text position
  Fails-count min max failed = (failed.0, front-none (drop position text))

  pub Fits-and : (x : Recognition) → Fits p text position x → Fits (and_edges p) text position (if_matched x position)
  Fits-and Failed is = is
  Fits-and (Matched end trees) is = Matches-here (and_edges p) text position refl (front-none (drop position text))

  pub Fits-not : (x : Recognition) → Fits p text position x → Fits (not_edges p) text position (if_failed x position)
  Fits-not Failed is = Matches-here (not_edges p) text position is.0 is.1
  Fits-not (Matched end trees) is = (refl, front-none (drop position text))

  pub Fits-as_tree : (rule : ℕ) (x : Recognition) → Fits p text position x → Fits p text position (as_tree rule position x)
  Fits-as_tree rule Failed is = is
  Fits-as_tree rule (Matched end trees) is = is
