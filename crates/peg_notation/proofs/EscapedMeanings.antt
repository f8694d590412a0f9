-- The meaning of names in the escaped metagrammar. All names but Suffix mean the same as in the metagrammar, apart from
-- rule numbers. All forms without Suffix have the same results.
use Rattle.std.proofs.Common.{◌≡◌, ℕ, zero, suc, ◌+◌, ◌<◌, ◌≤◌, Bool, true, false, ◌&&◌, if◌then◌else◌, List, [], ◌∷◌, ◌++◌, take, drop, length, codes}
use Rattle.std.proofs.Common.{Some, bytes_eq, nat_lt, refl, sym, ap, ◌∙◌, subst, arith}
use Rattle.std.proofs.lemmas.Bool.{and_parts}
use Rattle.std.proofs.lemmas.Bool.Decides.{nat_tests}
use Rattle.std.proofs.lemmas.Slice.Eq.{bytes_eq-Decides}
use Rattle.peg_tree.specs.Trees.{Trees, NoTrees, Tree, followed_by}
use Rattle.peg_semantics.specs.Form.{Form, Forms, terminals}
use Rattle.peg_semantics.specs.Record.{Recognition, Failed, Matched, prepend_trees}
use Rattle.peg_semantics.specs.Rules.{Rule, Meaning, meaning_from, meaning_of}
use Rattle.peg_semantics.proofs.Derivations.{Derives, DerivesItems, DerivesFirst}
use Rattle.peg_metagrammar.specs.EscapedFigure.{escaped_figure, escaped_suffix, number_now, numbered_now}
use Rattle.peg_metagrammar.specs.Figure.{figure}
use Rattle.peg_metagrammar.specs.FigureRules.{count_rule, open_sign_rule}
use Rattle.peg_notation.proofs.Meanings.{Meant, meaning_of-changed, without, all_without, not_false, turned, meant_without, leads_elsewhere}

-- ---- trees

-- the result of an expression under the escaped metagrammar, with the rule numbers of the metagrammar
abbrev pub now : Recognition → Recognition
now Failed = Failed
now (Matched end trees) = Matched end (numbered_now trees)

followed-now : (a b : Trees) → numbered_now (followed_by a b) ≡ followed_by (numbered_now a) (numbered_now b)
followed-now NoTrees b = refl
followed-now (Tree r start end children rest) b =
    ap (Tree (number_now r) start end (numbered_now children)) (followed-now rest b)

pub prepend_trees-now : (one : Trees) (x : Recognition) → now (prepend_trees one x) ≡ prepend_trees (numbered_now one) (now x)
prepend_trees-now one Failed = refl
prepend_trees-now one (Matched end more) = ap (Matched end) (followed-now one more)

pub trees-now : (one more trees : Trees) → trees ≡ followed_by one more
    → numbered_now trees ≡ followed_by (numbered_now one) (numbered_now more)
trees-now one more trees is = ap numbered_now is ∙ followed-now one more

-- ---- meanings with rules between others

-- the meaning of a name whose rule comes this many places later
pub record Later (n t : ℕ) (rules : List Rule) (used : List ℕ) (rule : ℕ) (m : Meaning) : Type 0 where
  pub meaning : Meaning
  pub known : meaning_from n t rules used ≡ Some meaning
  pub rule_is : meaning.rule ≡ rule
  pub body_is : meaning.body ≡ m.body

-- a rule's number is at least the number of the first one
no_earlier : (n t : ℕ) (rules : List Rule) (used : List ℕ) (m : Meaning) → meaning_from n t rules used ≡ Some m → n ≤ m.rule
no_earlier n t [] used m is = cc
no_earlier n t (r ∷ rs) used m is =
    by (λ found. no_earlier (n + 1) (t + terminals r.body) rs used m found) (bytes_eq used r.name) is
  where
    by : (meaning_from (n + 1) (t + terminals r.body) rs used ≡ Some m → n + 1 ≤ m.rule) → (b : Bool) → (if b then Some (record { rule = n; terminal = t; body = r.body })
        else meaning_from (n + 1) (t + terminals r.body) rs used) ≡ Some m → n ≤ m.rule
    by prepend_trees true is =
        let one : Meaning = record { rule = n; terminal = t; body = r.body } in
        let same : one ≡ m = cc in
        let number : n ≡ m.rule = ap (λ (m : Meaning). m.rule) same in
        omega (arith, number)
    by prepend_trees false is = let more = prepend_trees is in omega (arith, more)

-- the first of some rules, if it has the name, and if it hasn't
at_first : (n t : ℕ) (r : Rule) (rs : List Rule) (used : List ℕ) → bytes_eq used r.name ≡ true
    → meaning_from n t (r ∷ rs) used ≡ Some (record { rule = n; terminal = t; body = r.body })
at_first n t r rs used is = ap (λ (b : Bool). if b then Some (record { rule = n; terminal = t; body = r.body })
    else meaning_from (n + 1) (t + terminals r.body) rs used) is

following_first : (n t : ℕ) (r : Rule) (rs : List Rule) (used : List ℕ) → bytes_eq used r.name ≡ false
    → meaning_from n t (r ∷ rs) used ≡ meaning_from (n + 1) (t + terminals r.body) rs used
following_first n t r rs used is = ap (λ (b : Bool). if b then Some (record { rule = n; terminal = t; body = r.body })
    else meaning_from (n + 1) (t + terminals r.body) rs used) is

-- the same rules two places later
moved : (n t u : ℕ) (rules : List Rule) (used : List ℕ) (m : Meaning) → meaning_from n t rules used ≡ Some m
    → Later (n + 2) u rules used (m.rule + 2) m
moved n t u [] used m is = cc
moved n t u (r ∷ rs) used m is =
    by (λ found. moved (n + 1) (t + terminals r.body) (u + terminals r.body) rs used m found) (bytes_eq used r.name) refl
  where
    by : (meaning_from (n + 1) (t + terminals r.body) rs used ≡ Some m
        → Later (n + 1 + 2) (u + terminals r.body) rs used (m.rule + 2) m) → (b : Bool) → bytes_eq used r.name ≡ b
        → Later (n + 2) u (r ∷ rs) used (m.rule + 2) m
    by prepend_trees true here =
        let one : Meaning = record { rule = n; terminal = t; body = r.body } in
        let both : Some one ≡ Some m = sym (at_first n t r rs used here) ∙ is in
        let same : one ≡ m = cc in
        record {
          meaning = record { rule = n + 2; terminal = u; body = r.body };
          known = at_first (n + 2) u r rs used here;
          rule_is = ap (λ (m : Meaning). m.rule + 2) same;
          body_is = ap (λ (m : Meaning). m.body) same;
        }
    by prepend_trees false other =
        let it = prepend_trees (sym (following_first n t r rs used other) ∙ is) in
        let position : n + 1 + 2 ≡ n + 2 + 1 = omega arith in
        record {
          meaning = it.meaning;
          known =
              following_first (n + 2) u r rs used other
              ∙ (ap (λ k. meaning_from k (u + terminals r.body) rs used) (sym position) ∙ it.known);
          rule_is = it.rule_is;
          body_is = it.body_is;
        }

-- rules, and two others after them
abbrev moved_from : (first rule : ℕ) → ℕ
moved_from first rule = if nat_lt rule first then rule else rule + 2

-- two rules with other names are inserted between rules
inserted : (xs two ys : List Rule) (n t u : ℕ) (used : List ℕ) (m : Meaning)
    → ((k v w : ℕ) → meaning_from k v ys used ≡ Some m → Later k w (two ++ ys) used (m.rule + 2) m)
    → meaning_from n t (xs ++ ys) used ≡ Some m
    → Later n u (xs ++ (two ++ ys)) used (moved_from (n + length xs) m.rule) m
inserted [] two ys n t u used m over is =
    let it = over n t u is in
    let within : n ≤ m.rule = no_earlier n t ys used m is in
    let test : nat_lt m.rule (n + 0) ≡ false = grind (arith, nat_tests) in
    record {
      meaning = it.meaning;
      known = it.known;
      rule_is = it.rule_is ∙ sym (ap (λ (b : Bool). if b then m.rule else m.rule + 2) test);
      body_is = it.body_is;
    }
inserted (r ∷ xs) two ys n t u used m over is =
    by (λ found. inserted xs two ys (n + 1) (t + terminals r.body) (u + terminals r.body) used m over found)
    (bytes_eq used r.name) refl
  where
    by : (meaning_from (n + 1) (t + terminals r.body) (xs ++ ys) used ≡ Some m
        → Later (n + 1) (u + terminals r.body) (xs ++ (two ++ ys)) used (moved_from (n + 1 + length xs) m.rule) m)
        → (b : Bool) → bytes_eq used r.name ≡ b
        → Later n u (r ∷ (xs ++ (two ++ ys))) used (moved_from (n + length (r ∷ xs)) m.rule) m
    by prepend_trees true here =
        let one : Meaning = record { rule = n; terminal = t; body = r.body } in
        let both : Some one ≡ Some m = sym (at_first n t r (xs ++ ys) used here) ∙ is in
        let same : one ≡ m = cc in
        let number : n ≡ m.rule = ap (λ (m : Meaning). m.rule) same in
        let less : m.rule < n + length (r ∷ xs) = omega (arith, number) in
        let test : nat_lt m.rule (n + length (r ∷ xs)) ≡ true = grind (arith, nat_tests, less) in
        record {
          meaning = record { rule = n; terminal = u; body = r.body };
          known = at_first n u r (xs ++ (two ++ ys)) used here;
          rule_is = number ∙ sym (ap (λ (b : Bool). if b then m.rule else m.rule + 2) test);
          body_is = ap (λ (m : Meaning). m.body) same;
        }
    by prepend_trees false other =
        let it = prepend_trees (sym (following_first n t r (xs ++ ys) used other) ∙ is) in
        let size : n + 1 + length xs ≡ n + length (r ∷ xs) = omega arith in
        record {
          meaning = it.meaning;
          known = following_first n u r (xs ++ (two ++ ys)) used other ∙ it.known;
          rule_is = it.rule_is ∙ ap (λ k. moved_from k m.rule) size;
          body_is = it.body_is;
        }

-- rules after two others that don't have the name
over_two : (k v w : ℕ) (one two : Rule) (ys : List Rule) (used : List ℕ) (m : Meaning) → bytes_eq used one.name ≡ false
    → bytes_eq used two.name ≡ false → meaning_from k v ys used ≡ Some m → Later k w (one ∷ two ∷ ys) used (m.rule + 2) m
over_two k v w one two ys used m first second is =
    let following_one : ℕ = w + terminals one.body in
    let following_two : ℕ = following_one + terminals two.body in
    let it = moved k v following_two ys used m is in
    let position : k + 1 + 1 ≡ k + 2 = omega arith in
    record {
      meaning = it.meaning;
      known =
          following_first k w one (two ∷ ys) used first
          ∙ (following_first (k + 1) following_one two ys used second
          ∙ (ap (λ n. meaning_from n following_two ys used) position ∙ it.known));
      rule_is = it.rule_is;
      body_is = it.body_is;
    }

-- ---- the two metagrammars

abbrev before_counts : List Rule
before_counts = take count_rule figure

abbrev of_counts : List Rule
of_counts = take 2 (drop count_rule figure)

abbrev following_counts : List Rule
following_counts = drop open_sign_rule figure

-- no rule after those of counts has their names
no_count : (k v : ℕ) (used : List ℕ) (m : Meaning) → meaning_from k v following_counts used ≡ Some m
    → (bytes_eq used (codes "COUNT") ≡ false) × (bytes_eq used (codes "Number") ≡ false)
unfolding figure
no_count k v used m is = (
  by (codes "COUNT") (λ same. nowhere (sym is ∙ ap (meaning_from k v following_counts) same)),
  by (codes "Number") (λ same. nothing (sym is ∙ ap (meaning_from k v following_counts) same)),
)
  where
    nowhere : Some m ≡ meaning_from k v following_counts (codes "COUNT") → ⊥
    nowhere e = cc

    nothing : Some m ≡ meaning_from k v following_counts (codes "Number") → ⊥
    nothing e = cc

    by : (name : List ℕ) → (used ≡ name → ⊥) → bytes_eq used name ≡ false
    by name apart = test (bytes_eq used name) refl
      where
        test : (b : Bool) → bytes_eq used name ≡ b → bytes_eq used name ≡ false
        test true is = absurd (apart ((bytes_eq-Decides used name).0 is))
        test false is = is

-- a name after the rules of counts, with these before it
over_counts : (k v w : ℕ) (used : List ℕ) (m : Meaning) → meaning_from k v following_counts used ≡ Some m
    → Later k w (of_counts ++ following_counts) used (m.rule + 2) m
unfolding figure
over_counts k v w used m is =
    let apart = no_count k v used m is in over_two k v w _ _ following_counts used m apart.0 apart.1 is

pub meaning_of-escaped : (used : List ℕ) (m : Meaning) → bytes_eq used (codes "Suffix") ≡ false
    → meaning_of escaped_figure used ≡ Some m → Later 0 0 figure used (number_now m.rule) m
unfolding figure escaped_figure
meaning_of-escaped used m other is =
    let here : Meant 0 0 (before_counts ++ following_counts) used m =
    meaning_of-changed (codes "Suffix") escaped_suffix (before_counts ++ following_counts) 0 0 0 used m other is in
    let it = inserted before_counts of_counts following_counts 0 0 0 used here.meaning
    (λ k v w found. over_counts k v w used here.meaning found) here.known in
    record {
      meaning = it.meaning;
      known = it.known;
      rule_is = it.rule_is ∙ ap number_now here.rule_is;
      body_is = it.body_is ∙ here.body_is;
    }

-- ---- forms without Suffix

abbrev pub elsewhere : ℕ → List ℕ → Bool
elsewhere n used = leads_elsewhere escaped_figure (codes "Suffix") n used

named : (used : List ℕ) (m : Meaning) (n : ℕ) → meaning_of escaped_figure used ≡ Some m → elsewhere (suc n) used ≡ true
    → (without (elsewhere n) m.body ≡ true) × Later 0 0 figure used (number_now m.rule) m
named used m n found leads =
    let parts = and_parts (turned (bytes_eq used (codes "Suffix")))
    (meant_without (elsewhere n) (meaning_of escaped_figure used)) leads in (
      ap (meant_without (elsewhere n)) (sym found) ∙ parts.1,
      meaning_of-escaped used m (not_false (bytes_eq used (codes "Suffix")) parts.0) found,
    )

module _ {file : List ℕ} where
  mutual
    -- their results under the escaped metagrammar are their results under the metagrammar
    pub alike : (n : ℕ) {e : Form} {p : ℕ} {x : Recognition} → Derives escaped_figure file e p x
        → without (elsewhere n) e ≡ true → Derives figure file e p (now x)
    alike n (Derives.literal_matched a b) is = Derives.literal_matched a b
    alike n (Derives.literal_failed a) is = Derives.literal_failed a
    alike n (Derives.class_matched a b) is = Derives.class_matched a b
    alike n (Derives.class_failed a) is = Derives.class_failed a
    alike n (Derives.any_matched a b) is = Derives.any_matched a b
    alike n (Derives.any_failed a) is = Derives.any_failed a
    alike zero (Derives.name_matched found d t) is = cc
    alike (suc n) (Derives.name_matched {used = used} {meaning = m} {position = p} {end = end} {trees = trees} found d t) is =
        let it = named used m n found is in
        Derives.name_matched it.1.known
        (subst (λ (body : Form). Derives figure file body p (Matched end (numbered_now trees))) (sym it.1.body_is)
        (alike n d it.0))
        (ap numbered_now t ∙ ap (λ rule. Tree rule p end (numbered_now trees) NoTrees) (sym it.1.rule_is))
    alike zero (Derives.name_failed found d) is = cc
    alike (suc n) (Derives.name_failed {used = used} {meaning = m} {position = p} found d) is =
        let it = named used m n found is in
        Derives.name_failed it.1.known
        (subst (λ (body : Form). Derives figure file body p Failed) (sym it.1.body_is) (alike n d it.0))
    alike n (Derives.sequence ds) is = Derives.sequence (items_alike n ds is)
    alike n (Derives.choice ds) is = Derives.choice (first_alike n ds is)
    alike n (Derives.optional_some d) is = Derives.optional_some (alike n d is)
    alike n (Derives.optional_none d) is = Derives.optional_none (alike n d is)
    alike n (Derives.star_none d) is = Derives.star_none (alike n d is)
    alike n (Derives.star_more {first = one} {more = more} {trees = trees} d ds t) is =
        Derives.star_more (alike n d is) (alike n ds is) (trees-now one more trees t)
    alike n (Derives.plus_failed d) is = Derives.plus_failed (alike n d is)
    alike n (Derives.plus_matched {first = one} {more = more} {trees = trees} d ds t) is =
        Derives.plus_matched (alike n d is) (alike n ds is) (trees-now one more trees t)
    alike n (Derives.counted ds) is = cc
    alike n (Derives.and_matched d) is = Derives.and_matched (alike n d is)
    alike n (Derives.and_failed d) is = Derives.and_failed (alike n d is)
    alike n (Derives.not_matched d) is = Derives.not_matched (alike n d is)
    alike n (Derives.not_failed d) is = Derives.not_failed (alike n d is)

    pub items_alike : (n : ℕ) {items : Forms} {p : ℕ} {x : Recognition} → DerivesItems escaped_figure file items p x
        → all_without (elsewhere n) items ≡ true → DerivesItems figure file items p (now x)
    items_alike n DerivesItems.items_none is = DerivesItems.items_none
    items_alike n (DerivesItems.items_failed {item = item} {rest = rest} d) is =
        DerivesItems.items_failed (alike n d (and_parts (without (elsewhere n) item)
        (all_without (elsewhere n) rest) is).0)
    items_alike n (DerivesItems.items_then {item = item} {rest = rest} {trees = one} {more = more} d ds t) is =
        let parts = and_parts (without (elsewhere n) item) (all_without (elsewhere n) rest) is in
        DerivesItems.items_then (alike n d parts.0) (items_alike n ds parts.1) (ap now t ∙ prepend_trees-now one more)

    first_alike : (n : ℕ) {first : Form} {rest : Forms} {p : ℕ} {x : Recognition}
        → DerivesFirst escaped_figure file first rest p x
        → (without (elsewhere n) first && all_without (elsewhere n) rest) ≡ true
        → DerivesFirst figure file first rest p (now x)
    first_alike n (DerivesFirst.alternative_last {only = only} d) is =
        DerivesFirst.alternative_last (alike n d (and_parts (without (elsewhere n) only) true is).0)
    first_alike n (DerivesFirst.alternative_matched {first = first} {next = next} {rest = rest} d) is =
        DerivesFirst.alternative_matched (alike n d (and_parts (without (elsewhere n) first)
        (without (elsewhere n) next && all_without (elsewhere n) rest) is).0)
    first_alike n (DerivesFirst.alternative_failed {first = first} {next = next} {rest = rest} d ds) is =
        let parts = and_parts (without (elsewhere n) first)
        (without (elsewhere n) next && all_without (elsewhere n) rest) is in
        DerivesFirst.alternative_failed (alike n d parts.0) (first_alike n ds parts.1)
