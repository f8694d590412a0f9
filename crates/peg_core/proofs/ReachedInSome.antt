-- Records that are reached in some n, from records of parts that are reached in some n. There is one lemma for each
-- combinator of the recognition table, for written expressions and core forms alike.
use Rattle.std.proofs.Common.{◌≡◌, ◌≢◌, ℕ, zero, suc, ◌+◌, Option, None, Some, refl, sym, ap, ◌∙◌, subst, option_map, option_and_then, append-nil, zero-add, suc-add, add_comm}
use Rattle.peg_tree.specs.Trees.{Trees, NoTrees}
use Rattle.peg_tree.specs.TreesCode.{followed_by-none}
use Rattle.peg_semantics.specs.Record.{Recognition, Failed, Matched, Record, after_both, prepend_trees, then_result, then_at, choice_result, or_else, star_result, matched_at, if_matched, if_failed, with_result, recognize_repeat}
use Rattle.peg_semantics.proofs.RecordLemmas.{Extends}
use Rattle.peg_semantics.proofs.ResultSteps.{rounds_cases, some_case}

-- results in each n, which stay in n + 1
abbrev pub Grows : (ℕ → Option Record) → Type 0
Grows f = (n : ℕ) → Extends (f n) (f (suc n))

-- this result in some n
abbrev pub InSome : (ℕ → Option Record) → Record → Type 0
InSome f r = (n : ℕ) × (f n ≡ Some r)

-- a result is also a result in some n
abbrev pub IsReached : Option Record → (ℕ → Option Record) → Type 0
IsReached o f = (r : Record) → o ≡ Some r → InSome f r

grown : (f : ℕ → Option Record) → Grows f → (more n : ℕ) → Extends (f n) (f (more + n))
grown f grows zero n r h = rw zero-add h
grown f grows (suc more) n r h = rw suc-add (grows (more + n) r (grown f grows more n r h))

-- two results, each in some n, are both results in one n
both_in_some : (f g : ℕ → Option Record) (p q : Record) → Grows f → Grows g → InSome f p → InSome g q
    → (n : ℕ) × (f n ≡ Some p) × (g n ≡ Some q)
both_in_some f g p q grows also a b = (
  b.0 + a.0,
  grown f grows b.0 a.0 p a.1,
  subst (λ k. g k ≡ Some q) (add_comm a.0 b.0) (grown g also a.0 b.0 q b.1),
)

-- ---- a constant, another n, another family

pub IsReached-some : (a : Record) → IsReached (Some a) (λ n. Some a)
IsReached-some a r e = (0, e)

pub IsReached-shift : (o : Option Record) (f : ℕ → Option Record) → IsReached o (λ n. f (suc n)) → IsReached o f
IsReached-shift o f h r e = (suc (h r e).0, (h r e).1)

unshifted : (f : ℕ → Option Record) (r : Record) → f zero ≡ None → (n : ℕ) → f n ≡ Some r → InSome (λ n. f (suc n)) r
unshifted f r none zero is = let bad : None ≡ Some r = sym none ∙ is in cc
unshifted f r none (suc n) is = (n, is)

pub IsReached-unshift : (o : Option Record) (f : ℕ → Option Record) → f zero ≡ None → IsReached o f
    → IsReached o (λ n. f (suc n))
IsReached-unshift o f none h r e = unshifted f r none (h r e).0 (h r e).1

pub IsReached-same : (o : Option Record) (f g : ℕ → Option Record) → ((n : ℕ) → f n ≡ g n) → IsReached o f → IsReached o g
IsReached-same o f g same h r e = ((h r e).0, sym (same (h r e).0) ∙ (h r e).1)

pub IsReached-from : (o p : Option Record) (f : ℕ → Option Record) → o ≡ p → IsReached p f → IsReached o f
IsReached-from o p f same h r e = h r (sym same ∙ e)

pub IsReached-none : (f : ℕ → Option Record) → IsReached None f
IsReached-none f r e = cc

pub IsReached-map : (F : Record → Record) (o : Option Record) (f : ℕ → Option Record) → IsReached o f
    → IsReached (option_map F o) (λ n. option_map F (f n))
IsReached-map F None f h r e = cc
IsReached-map F (Some p) f h r e = ((h p refl).0, ap (option_map F) (h p refl).1 ∙ e)

-- ---- one after the other

module _ (p : Record) (f : ℕ → Option Record) (g : ℕ → ℕ → Option Record) (grows : Grows f) (from : InSome f p) where
  -- the part matched, and what comes next has a result
  after_match : (F : Record → Record) (end : ℕ) (r : Record) (o : Option Record) → Grows (λ n. g n end)
      → IsReached o (λ n. g n end) → option_map F o ≡ Some r
      → (n : ℕ) × (f n ≡ Some p) × (option_map F (g n end) ≡ Some r)
  after_match F end r None also h e = cc
  after_match F end r (Some q) also h e =
      let meet = both_in_some f (λ n. g n end) p q grows also from (h q refl) in
      (meet.0, meet.1, ap (option_map F) meet.2 ∙ e)

  then_result-in_some : (x : Recognition) → p.result ≡ x → (next : ℕ → Option Record) (r : Record)
      → ((end : ℕ) → Grows (λ n. g n end)) → ((end : ℕ) → IsReached (next end) (λ n. g n end))
      → then_result x p next ≡ Some r → InSome (λ n. then_at (f n) (λ end. g n end)) r
  then_result-in_some Failed is next r also h e =
      (from.0, ap (λ o. then_at o (λ end. g from.0 end)) from.1 ∙ (ap (λ x. then_result x p (λ end. g from.0 end)) is ∙ e))
  then_result-in_some (Matched end trees) is next r also h e =
      let F : Record → Record = λ more. after_both p more (prepend_trees trees more.result) in
      let meet = after_match F end r (next end) (also end) (h end) e in (
        meet.0,
        ap (λ o. then_at o (λ end. g meet.0 end)) meet.1
            ∙ (ap (λ x. then_result x p (λ end. g meet.0 end)) is ∙ meet.2),
      )

  star_result-in_some : (x : Recognition) → p.result ≡ x → (position : ℕ) (next : ℕ → Option Record) (r : Record)
      → ((end : ℕ) → Grows (λ n. g n end)) → ((end : ℕ) → IsReached (next end) (λ n. g n end))
      → star_result x position p next ≡ Some r
      → InSome (λ n. option_and_then (λ (round : Record). star_result round.result position round (λ end. g n end)) (f n)) r
  star_result-in_some Failed is position next r also h e = (
    from.0,
    ap (λ o. option_and_then (λ (round : Record). star_result round.result position round (λ end. g from.0 end)) o) from.1
        ∙ (ap (λ x. star_result x position p (λ end. g from.0 end)) is ∙ e),
  )
  star_result-in_some (Matched end trees) is position next r also h e =
      let F : Record → Record = λ more. after_both p more (prepend_trees trees more.result) in
      let meet = after_match F end r (next end) (also end) (h end) e in (
        meet.0,
        ap (λ o. option_and_then (λ (round : Record). star_result round.result position round (λ end. g meet.0 end)) o) meet.1
            ∙ (ap (λ x. star_result x position p (λ end. g meet.0 end)) is ∙ meet.2),
      )

pub IsReached-then_at : (o : Option Record) (next : ℕ → Option Record) (f : ℕ → Option Record) (g : ℕ → ℕ → Option Record)
    → Grows f → ((end : ℕ) → Grows (λ n. g n end)) → IsReached o f → ((end : ℕ) → IsReached (next end) (λ n. g n end))
    → IsReached (then_at o next) (λ n. then_at (f n) (λ end. g n end))
IsReached-then_at None next f g grows also h k r e = cc
IsReached-then_at (Some p) next f g grows also h k r e =
    then_result-in_some p f g grows (h p refl) p.result refl next r also k e

pub IsReached-rounds : (o : Option Record) (position : ℕ) (next : ℕ → Option Record) (f : ℕ → Option Record)
    (g : ℕ → ℕ → Option Record) → Grows f → ((end : ℕ) → Grows (λ n. g n end)) → IsReached o f
    → ((end : ℕ) → IsReached (next end) (λ n. g n end))
    → IsReached (option_and_then (λ (round : Record). star_result round.result position round next) o)
    (λ n. option_and_then (λ (round : Record). star_result round.result position round (λ end. g n end)) (f n))
IsReached-rounds None position next f g grows also h k r e = cc
IsReached-rounds (Some p) position next f g grows also h k r e =
    star_result-in_some p f g grows (h p refl) p.result refl position next r also k e

-- ---- one or else the other

choice_result-in_some : (p : Record) (x : Recognition) → p.result ≡ x → (other : Option Record) (f g : ℕ → Option Record)
    (r : Record) → Grows f → Grows g → InSome f p → IsReached other g → choice_result x p other ≡ Some r
    → InSome (λ n. or_else (f n) (g n)) r
choice_result-in_some p Failed is other f g r grows also from h e =
    let F : Record → Record = λ more. after_both p more more.result in
    let meet = after_match p f (λ n end. g n) grows from F 0 r other also h e in
    (meet.0, ap (λ o. or_else o (g meet.0)) meet.1 ∙ (ap (λ x. choice_result x p (g meet.0)) is ∙ meet.2))
choice_result-in_some p (Matched end trees) is other f g r grows also from h e =
    (from.0, ap (λ o. or_else o (g from.0)) from.1 ∙ (ap (λ x. choice_result x p (g from.0)) is ∙ e))

pub IsReached-or_else : (o other : Option Record) (f g : ℕ → Option Record) → Grows f → Grows g → IsReached o f
    → IsReached other g → IsReached (or_else o other) (λ n. or_else (f n) (g n))
IsReached-or_else None other f g grows also h k r e = cc
IsReached-or_else (Some p) other f g grows also h k r e =
    choice_result-in_some p p.result refl other f g r grows also (h p refl) k e

-- ---- combinators with the empty expression

-- a part and then nothing is the part
prepend_trees-matched_at : (p : Record) (x : Recognition) → p.result ≡ x
    → then_result x p (λ end. Some (matched_at end)) ≡ Some p
prepend_trees-matched_at p Failed is = refl
prepend_trees-matched_at p (Matched end trees) is =
    λ i. Some (record {
      result = ((λ j. Matched end (followed_by-none trees j)) ∙ sym is) i;
      tests = append-nil p.tests i;
      calls = append-nil p.calls i;
    })

pub then_at-nothing : (o : Option Record) → then_at o (λ end. Some (matched_at end)) ≡ o
then_at-nothing None = refl
then_at-nothing (Some p) = prepend_trees-matched_at p p.result refl

-- nothing and then a part is the part
following-none : (x : Recognition) → prepend_trees NoTrees x ≡ x
following-none Failed = refl
following-none (Matched end trees) = refl

pub after_both-nothing : (end : ℕ) (p : Record) → after_both (matched_at end) p (prepend_trees NoTrees p.result) ≡ p
after_both-nothing end p = λ i. record { result = following-none p.result i; tests = p.tests; calls = p.calls }

-- ---- a part at most n times is the part and the rest, or else nothing

-- a match after another is a match
prepend_trees-matches : (trees : Trees) (x : Recognition) → x ≢ Failed → prepend_trees trees x ≢ Failed
prepend_trees-matches trees Failed matches is = matches refl
prepend_trees-matches trees (Matched end more) matches is = cc

-- a part at most n times never fails
times-match : (take : ℕ → Option Record) (max position : ℕ) (r : Record) → recognize_repeat take zero max position ≡ Some r
    → r.result ≢ Failed
times-match take zero position r is = some_case (λ x. x ≢ Failed) (matched_at position) r (λ bad. cc) is
times-match take (suc max) position r is =
    rounds_cases (λ x. x ≢ Failed) (take position) position (λ end. recognize_repeat take zero max end) r (λ part e f bad. cc)
    (λ part more end trees e f g. prepend_trees-matches trees more.result (times-match take max end more g)) is

-- so an iteration that matched is kept
round-chosen : (x : Recognition) → x ≢ Failed → (r : Record) (other : Option Record) → choice_result x r other ≡ Some r
round-chosen Failed matches r other = absurd (matches refl)
round-chosen (Matched end trees) matches r other = refl

pub rounds-times : (take : ℕ → Option Record) (max position : ℕ) (tried : Option Record)
    → option_and_then (λ (round : Record). star_result round.result position round (λ end. recognize_repeat take zero max end)) tried
    ≡ or_else (then_at tried (λ end. recognize_repeat take zero max end)) (Some (matched_at position))
rounds-times take max position None = refl
rounds-times take max position (Some round) = by round.result refl
  where
    next : ℕ → Option Record
    next end = recognize_repeat take zero max end

    matched : (end : ℕ) (trees : Trees) (o : Option Record) → next end ≡ o
        → option_map (λ more. after_both round more (prepend_trees trees more.result)) o
        ≡ or_else (option_map (λ more. after_both round more (prepend_trees trees more.result)) o) (Some (matched_at position))
    matched end trees None is = refl
    matched end trees (Some more) is =
        let both = after_both round more (prepend_trees trees more.result) in
        sym
        (round-chosen both.result (prepend_trees-matches trees more.result (times-match take max end more is)) both
        (Some (matched_at position)))

    by : (x : Recognition) → round.result ≡ x
        → star_result x position round next ≡ or_else (then_result x round next) (Some (matched_at position))
    by Failed is = ap (λ x. choice_result x round (Some (matched_at position))) (sym is)
    by (Matched end trees) is = matched end trees (next end) refl

-- the predicate of a predicate
abbrev pub unless : ℕ → Record → Record
unless position r = with_result r (if_failed r.result position)

abbrev pub provided : ℕ → Record → Record
provided position r = with_result r (if_matched r.result position)

unless-result : (position : ℕ) (x : Recognition) → if_failed (if_failed x position) position ≡ if_matched x position
unless-result position Failed = refl
unless-result position (Matched end trees) = refl

pub unless-unless : (position : ℕ) (o : Option Record)
    → option_map (unless position) (option_map (unless position) o) ≡ option_map (provided position) o
unless-unless position None = refl
unless-unless position (Some r) = λ i. Some (with_result r (unless-result position r.result i))
