-- The core forms of a grammar. They include the core form of each written subexpression, and their stars are exactly
-- those of the written stars and pluses. All are well-formed if the grammar is.
use Rattle.std.proofs.Common.{◌≡◌, ℕ, zero, suc, ◌+◌, ◌-◌, List, [], ◌∷◌, ◌++◌, All, Contains, map, filter, flat_map, add_comm, refl, ap, ◌∙◌, subst, append-nil}
use Rattle.std.proofs.lemmas.List.{map-append}
use Rattle.std.proofs.lemmas.List.Elements.{All-nil, All-cons, All-head, All-tail, All-append, All-contains, All-weaker, All-push, All-map, Contains-append_left, Contains-append_right, Contains-push, filter-append}
use Rattle.peg_bytes.specs.ByteSet.{only}
use Rattle.peg_bytes.specs.Extent.{Extent}
use Rattle.peg_semantics.specs.Form.{Form, Forms, Literal, Class, Any, Name, Optional, Plus, Counted, And, End, Then, terminals}
use Rattle.peg_semantics.specs.Form as written
use Rattle.peg_semantics.specs.Rules as grammar
use Rattle.peg_semantics.specs.WellFormed.{IsWellFormedIn, IsWellFormed, IsWellFormedGrammar, below, below_all, subexpressions}
use Rattle.peg_core.specs.CoreForm.{CoreForm, Empty, Test, Seq, Choice, Star, Not, in_order, all_in_order, one_of, tests_of, unfolded, left_out, count_form, core_form, core_forms, core_bodies}
use Rattle.peg_core.specs.CoreOutcomes.{IsCoreWellFormedIn, IsCoreWellFormed}
use Rattle.peg_core.specs.CoreParts.{sequences_from, sequences_of, choices_of, optional_forms, plus_forms, rounds_of, count_forms, and_forms, core_parts, core_parts_of_all, core_parts_from, all_core_parts}
use Rattle.peg_core.specs.Subexpressions.{Numbered, numbered_as, numbered_below, numbered_below_all, numbered_in, numbered_from, numbered_subexpressions, core_stars, core_stars_of_all, core_stars_from, all_core_stars, is_star}
use Rattle.peg_core.proofs.CoreRounds.{IsCoreWellFormedIn-later}
use Rattle.peg_core.proofs.SugarWellFormed.{IsWellFormed-to_core, IsWellFormed-from_core}

-- the first of some elements
Contains-first : {X : Type 0} (x : X) (xs : List X) → Contains (x ∷ xs) x
Contains-first x xs = Contains-append_left (x ∷ []) xs x (Contains-push [] x)

-- ---- the core form of each subexpression is among them

-- the sequence of forms that are among them
sequence-there : (parts forms : List CoreForm) → All (Contains parts) forms
    → Contains (parts ++ sequences_of forms) (all_in_order forms)
sequence-there parts [] all = Contains-push parts Empty
sequence-there parts (form ∷ []) all =
    Contains-append_left parts [] form (All-head (Contains parts) form [] all)
sequence-there parts (form ∷ next ∷ rest) all =
    Contains-append_right parts (sequences_from form (next ∷ rest)) (in_order form (next ∷ rest))
    (Contains-push (sequences_from next rest) (Seq form (in_order next rest)))

-- the choice of a form that is among them, and others
choice-there : (parts : List CoreForm) (first : CoreForm) (rest : List CoreForm) → Contains parts first
    → Contains (parts ++ choices_of first rest) (one_of first rest)
choice-there parts first [] there = Contains-append_left parts [] first there
choice-there parts first (next ∷ rest) there =
    Contains-append_right parts (choices_of first (next ∷ rest)) (one_of first (next ∷ rest))
    (Contains-push (choices_of next rest) (Choice first (one_of next rest)))

-- an unfolded count is its last iteration, and the form of a count is the last of its forms
round-there : (parts : List CoreForm) (part : CoreForm) (min max : ℕ)
    → Contains (parts ++ rounds_of part min (suc max)) (unfolded part min (suc max))
round-there parts part zero max =
    Contains-append_right parts (rounds_of part zero (suc max)) (unfolded part zero (suc max))
    (Contains-append_right (rounds_of part zero max) (Seq part (unfolded part zero max) ∷ unfolded part zero (suc max) ∷ [])
    (unfolded part zero (suc max)) (Contains-push (Seq part (unfolded part zero max) ∷ []) (unfolded part zero (suc max))))
round-there parts part (suc min) max =
    Contains-append_right parts (rounds_of part (suc min) (suc max)) (unfolded part (suc min) (suc max))
    (Contains-push (rounds_of part min max) (unfolded part (suc min) (suc max)))

count-there : (part : CoreForm) (min max : ℕ) → Contains (count_forms part min max) (count_form part min max)
count-there part min zero = Contains-push (Empty ∷ []) (Choice Empty part)
count-there part min (suc max) =
    round-there (Empty ∷ []) part (min - left_out part min) (max - left_out part min)

all-there : (forms : List CoreForm) → All (Contains forms) forms
all-there [] = All-nil (Contains [])
all-there (form ∷ forms) =
    All-cons (Contains (form ∷ forms)) form forms (Contains-first form forms)
    (All-weaker (Contains forms) (Contains (form ∷ forms)) (λ x h. Contains-append_right (form ∷ []) forms x h) forms (all-there forms))

module _ (rules : List grammar.Rule) where
  -- the core form of a numbered expression is among these
  abbrev pub HasCoreForm : List CoreForm → Numbered → Type 0
  HasCoreForm parts n = Contains parts (core_form rules n.terminal n.form)

  -- and still is among more
  more-left : (parts more : List CoreForm) (some : List Numbered) → All (HasCoreForm parts) some → All (HasCoreForm (parts ++ more)) some
  more-left parts more some =
      All-weaker (HasCoreForm parts) (HasCoreForm (parts ++ more)) (λ n h. Contains-append_left parts more (core_form rules n.terminal n.form) h) some

  more-right : (more parts : List CoreForm) (some : List Numbered) → All (HasCoreForm parts) some → All (HasCoreForm (more ++ parts)) some
  more-right more parts some =
      All-weaker (HasCoreForm parts) (HasCoreForm (more ++ parts)) (λ n h. Contains-append_right more parts (core_form rules n.terminal n.form) h) some

  mutual
    -- all subexpressions of an expression, itself first
    pub has_core_forms : (e : Form) (t : ℕ) → All (HasCoreForm (core_parts rules t e)) (numbered_in t e)
    has_core_forms (Literal bytes span) t =
        All-cons (HasCoreForm (core_parts rules t (Literal bytes span))) (numbered_as t (Literal bytes span)) []
        (sequence-there (tests_of t bytes) (tests_of t bytes) (all-there (tests_of t bytes)))
        (All-nil (HasCoreForm (core_parts rules t (Literal bytes span))))
    has_core_forms (Class set span) t =
        All-cons (HasCoreForm (Test set t ∷ [])) (numbered_as t (Class set span)) [] (Contains-first (Test set t) [])
        (All-nil (HasCoreForm (Test set t ∷ [])))
    has_core_forms (Any span) t =
        All-cons (HasCoreForm (core_parts rules t (Any span))) (numbered_as t (Any span)) []
        (Contains-first (core_form rules t (Any span)) []) (All-nil (HasCoreForm (core_parts rules t (Any span))))
    has_core_forms (Name name span) t =
        All-cons (HasCoreForm (core_parts rules t (Name name span))) (numbered_as t (Name name span)) []
        (Contains-first (core_form rules t (Name name span)) []) (All-nil (HasCoreForm (core_parts rules t (Name name span))))
    has_core_forms (written.Seq items span) t =
        let parts = core_parts_of_all rules t items in
        let forms = core_forms rules t items in
        All-cons (HasCoreForm (parts ++ sequences_of forms)) (numbered_as t (written.Seq items span)) (numbered_below_all t items)
        (sequence-there parts forms (items-there items t)) (more-left parts (sequences_of forms) (numbered_below_all t items) (all-have_core_forms items t))
    has_core_forms (written.Choice first rest span) t =
        let later = t + terminals first in
        let parts = core_parts rules t first in
        let more = core_parts_of_all rules later rest in
        let choices = choices_of (core_form rules t first) (core_forms rules later rest) in
        let here = has_core_forms first t in
        let there : Contains (parts ++ more) (core_form rules t first) = Contains-append_left parts more (core_form rules t first) (All-head (HasCoreForm parts) (numbered_as t first) (numbered_below t first) here) in
        All-cons (HasCoreForm (parts ++ more ++ choices)) (numbered_as t (written.Choice first rest span)) (numbered_in t first ++ numbered_below_all later rest)
        (choice-there (parts ++ more) (core_form rules t first) (core_forms rules later rest) there)
        (more-left (parts ++ more) choices (numbered_in t first ++ numbered_below_all later rest)
        (All-append (HasCoreForm (parts ++ more)) (numbered_in t first) (numbered_below_all later rest)
        (more-left parts more (numbered_in t first) here) (more-right parts more (numbered_below_all later rest) (all-have_core_forms rest later))))
    has_core_forms (Optional part span) t =
        let parts = core_parts rules t part in
        let form = core_form rules t part in
        All-cons (HasCoreForm (parts ++ optional_forms form)) (numbered_as t (Optional part span)) (numbered_in t part)
        (Contains-append_right parts (optional_forms form) (Choice form Empty) (Contains-push (Empty ∷ []) (Choice form Empty)))
        (more-left parts (optional_forms form) (numbered_in t part) (has_core_forms part t))
    has_core_forms (written.Star part span) t =
        let parts = core_parts rules t part in
        let form = core_form rules t part in
        All-cons (HasCoreForm (parts ++ Star form span ∷ [])) (numbered_as t (written.Star part span)) (numbered_in t part)
        (Contains-push parts (Star form span)) (more-left parts (Star form span ∷ []) (numbered_in t part) (has_core_forms part t))
    has_core_forms (Plus part span) t =
        let parts = core_parts rules t part in
        let form = core_form rules t part in
        All-cons (HasCoreForm (parts ++ plus_forms form span)) (numbered_as t (Plus part span)) (numbered_in t part)
        (Contains-append_right parts (plus_forms form span) (Seq form (Star form span)) (Contains-push (Star form span ∷ []) (Seq form (Star form span))))
        (more-left parts (plus_forms form span) (numbered_in t part) (has_core_forms part t))
    has_core_forms (Counted part min max span) t =
        let parts = core_parts rules t part in
        let form = core_form rules t part in
        let own = count_forms form min max in
        All-cons (HasCoreForm (parts ++ own)) (numbered_as t (Counted part min max span)) (numbered_in t part)
        (Contains-append_right parts own (count_form form min max) (count-there form min max))
        (more-left parts own (numbered_in t part) (has_core_forms part t))
    has_core_forms (And part span) t =
        let parts = core_parts rules t part in
        let form = core_form rules t part in
        All-cons (HasCoreForm (parts ++ and_forms form)) (numbered_as t (And part span)) (numbered_in t part)
        (Contains-append_right parts (and_forms form) (Not (Not form)) (Contains-push (Not form ∷ []) (Not (Not form))))
        (more-left parts (and_forms form) (numbered_in t part) (has_core_forms part t))
    has_core_forms (written.Not part span) t =
        let parts = core_parts rules t part in
        let form = core_form rules t part in
        All-cons (HasCoreForm (parts ++ Not form ∷ [])) (numbered_as t (written.Not part span)) (numbered_in t part)
        (Contains-push parts (Not form)) (more-left parts (Not form ∷ []) (numbered_in t part) (has_core_forms part t))

    all-have_core_forms : (items : Forms) (t : ℕ) → All (HasCoreForm (core_parts_of_all rules t items)) (numbered_below_all t items)
    all-have_core_forms End t = All-nil (HasCoreForm [])
    all-have_core_forms (Then e rest) t =
        let later = t + terminals e in
        let parts = core_parts rules t e in
        let more = core_parts_of_all rules later rest in
        All-append (HasCoreForm (parts ++ more)) (numbered_in t e) (numbered_below_all later rest)
        (more-left parts more (numbered_in t e) (has_core_forms e t)) (more-right parts more (numbered_below_all later rest) (all-have_core_forms rest later))

    -- the core forms of items
    items-there : (items : Forms) (t : ℕ) → All (Contains (core_parts_of_all rules t items)) (core_forms rules t items)
    items-there End t = All-nil (Contains [])
    items-there (Then e rest) t =
        let later = t + terminals e in
        let parts = core_parts rules t e in
        let more = core_parts_of_all rules later rest in
        All-cons (Contains (parts ++ more)) (core_form rules t e) (core_forms rules later rest)
        (Contains-append_left parts more (core_form rules t e) (All-head (HasCoreForm parts) (numbered_as t e) (numbered_below t e) (has_core_forms e t)))
        (All-weaker (Contains more) (Contains (parts ++ more)) (λ x h. Contains-append_right parts more x h) (core_forms rules later rest) (items-there rest later))

  rules-have_core_forms : (some : List grammar.Rule) (t : ℕ) → All (HasCoreForm (core_parts_from rules t some)) (numbered_from t some)
  rules-have_core_forms [] t = All-nil (HasCoreForm [])
  rules-have_core_forms (r ∷ rs) t =
      let later = t + terminals r.body in
      let parts = core_parts rules t r.body in
      let more = core_parts_from rules later rs in
      All-append (HasCoreForm (parts ++ more)) (numbered_in t r.body) (numbered_from later rs)
      (more-left parts more (numbered_in t r.body) (has_core_forms r.body t)) (more-right parts more (numbered_from later rs) (rules-have_core_forms rs later))

-- the core form of each written subexpression is among those of all rules
pub subexpressions-have_core_forms : (rules : List grammar.Rule)
    → All (λ (n : Numbered). Contains (all_core_parts rules) (core_form rules n.terminal n.form)) (numbered_subexpressions rules)
subexpressions-have_core_forms rules = rules-have_core_forms rules rules 0

-- ---- the subexpressions are the numbered ones

mutual
  pub forms_below : (e : Form) (t : ℕ) → map (λ (n : Numbered). n.form) (numbered_below t e) ≡ below e
  forms_below (Literal bytes span) t = refl
  forms_below (Class set span) t = refl
  forms_below (Any span) t = refl
  forms_below (Name name span) t = refl
  forms_below (written.Seq items span) t = forms_below_all items t
  forms_below (written.Choice first rest span) t =
      ap (λ l. first ∷ l)
      (map-append (λ (n : Numbered). n.form) (numbered_below t first) (numbered_below_all (t + terminals first) rest)
      ∙ (λ i. forms_below first t i ++ forms_below_all rest (t + terminals first) i))
  forms_below (Optional part span) t = ap (λ l. part ∷ l) (forms_below part t)
  forms_below (written.Star part span) t = ap (λ l. part ∷ l) (forms_below part t)
  forms_below (Plus part span) t = ap (λ l. part ∷ l) (forms_below part t)
  forms_below (Counted part min max span) t = ap (λ l. part ∷ l) (forms_below part t)
  forms_below (And part span) t = ap (λ l. part ∷ l) (forms_below part t)
  forms_below (written.Not part span) t = ap (λ l. part ∷ l) (forms_below part t)

  forms_below_all : (items : Forms) (t : ℕ) → map (λ (n : Numbered). n.form) (numbered_below_all t items) ≡ below_all items
  forms_below_all End t = refl
  forms_below_all (Then e rest) t =
      ap (λ l. e ∷ l)
      (map-append (λ (n : Numbered). n.form) (numbered_below t e) (numbered_below_all (t + terminals e) rest)
      ∙ (λ i. forms_below e t i ++ forms_below_all rest (t + terminals e) i))

forms_from : (rules : List grammar.Rule) (t : ℕ)
    → map (λ (n : Numbered). n.form) (numbered_from t rules) ≡ flat_map (λ (r : grammar.Rule). subexpressions r.body) rules
forms_from [] t = refl
forms_from (r ∷ rs) t =
    let later = t + terminals r.body in
    map-append (λ (n : Numbered). n.form) (numbered_in t r.body) (numbered_from later rs)
    ∙ (λ i. (r.body ∷ forms_below r.body t i) ++ forms_from rs later i)

pub forms-numbered : (rules : List grammar.Rule)
    → map (λ (n : Numbered). n.form) (numbered_subexpressions rules) ≡ flat_map (λ (r : grammar.Rule). subexpressions r.body) rules
forms-numbered rules = forms_from rules 0

-- ---- the stars

no-test : (t : ℕ) (bytes : List ℕ) → filter is_star (tests_of t bytes) ≡ []
no-test t [] = refl
no-test t (b ∷ bs) = no-test t bs

no-sequence : (first : CoreForm) (rest : List CoreForm) → filter is_star (sequences_from first rest) ≡ []
no-sequence first [] = refl
no-sequence first (next ∷ rest) =
    filter-append is_star (sequences_from next rest) (Seq first (in_order next rest) ∷ [])
    ∙ (append-nil (filter is_star (sequences_from next rest)) ∙ no-sequence next rest)

no-sequences : (forms : List CoreForm) → filter is_star (sequences_of forms) ≡ []
no-sequences [] = refl
no-sequences (first ∷ rest) = no-sequence first rest

no-choice : (first : CoreForm) (rest : List CoreForm) → filter is_star (choices_of first rest) ≡ []
no-choice first [] = refl
no-choice first (next ∷ rest) =
    filter-append is_star (choices_of next rest) (Choice first (one_of next rest) ∷ [])
    ∙ (append-nil (filter is_star (choices_of next rest)) ∙ no-choice next rest)

no-round : (part : CoreForm) (min max : ℕ) → filter is_star (rounds_of part min max) ≡ []
no-round part min zero = refl
no-round part zero (suc max) =
    filter-append is_star (rounds_of part zero max) (Seq part (unfolded part zero max) ∷ unfolded part zero (suc max) ∷ [])
    ∙ (append-nil (filter is_star (rounds_of part zero max)) ∙ no-round part zero max)
no-round part (suc min) (suc max) =
    filter-append is_star (rounds_of part min max) (unfolded part (suc min) (suc max) ∷ [])
    ∙ (append-nil (filter is_star (rounds_of part min max)) ∙ no-round part min max)

no-count : (part : CoreForm) (min max : ℕ) → filter is_star (count_forms part min max) ≡ []
no-count part min zero = refl
no-count part min (suc max) = no-round part (min - left_out part min) (suc (max - left_out part min))

-- forms without a star add none
stars-only : (xs ys stars : List CoreForm) → filter is_star xs ≡ stars → filter is_star ys ≡ []
    → filter is_star (xs ++ ys) ≡ stars
stars-only xs ys stars first none =
    filter-append is_star xs ys ∙ ((λ i. first i ++ none i) ∙ append-nil stars)

stars-both : (xs ys stars more : List CoreForm) → filter is_star xs ≡ stars → filter is_star ys ≡ more
    → filter is_star (xs ++ ys) ≡ stars ++ more
stars-both xs ys stars more first second = filter-append is_star xs ys ∙ (λ i. first i ++ second i)

module _ (rules : List grammar.Rule) where
  mutual
    stars : (e : Form) (t : ℕ) → filter is_star (core_parts rules t e) ≡ core_stars rules t e
    stars (Literal bytes span) t = stars-only (tests_of t bytes) (sequences_of (tests_of t bytes)) [] (no-test t bytes) (no-sequences (tests_of t bytes))
    stars (Class set span) t = refl
    stars (Any span) t = refl
    stars (Name name span) t = refl
    stars (written.Seq items span) t =
        stars-only (core_parts_of_all rules t items) (sequences_of (core_forms rules t items)) (core_stars_of_all rules t items) (stars_of_all items t) (no-sequences (core_forms rules t items))
    stars (written.Choice first rest span) t =
        let later = t + terminals first in
        let parts = core_parts rules t first in
        let more = core_parts_of_all rules later rest in
        stars-only (parts ++ more) (choices_of (core_form rules t first) (core_forms rules later rest)) (core_stars rules t first ++ core_stars_of_all rules later rest)
        (stars-both parts more (core_stars rules t first) (core_stars_of_all rules later rest) (stars first t) (stars_of_all rest later))
        (no-choice (core_form rules t first) (core_forms rules later rest))
    stars (Optional part span) t =
        stars-only (core_parts rules t part) (optional_forms (core_form rules t part)) (core_stars rules t part) (stars part t) refl
    stars (written.Star part span) t =
        stars-both (core_parts rules t part) (Star (core_form rules t part) span ∷ []) (core_stars rules t part) (Star (core_form rules t part) span ∷ []) (stars part t) refl
    stars (Plus part span) t =
        stars-both (core_parts rules t part) (plus_forms (core_form rules t part) span) (core_stars rules t part) (Star (core_form rules t part) span ∷ []) (stars part t) refl
    stars (Counted part min max span) t =
        stars-only (core_parts rules t part) (count_forms (core_form rules t part) min max) (core_stars rules t part) (stars part t) (no-count (core_form rules t part) min max)
    stars (And part span) t =
        stars-only (core_parts rules t part) (and_forms (core_form rules t part)) (core_stars rules t part) (stars part t) refl
    stars (written.Not part span) t =
        stars-only (core_parts rules t part) (Not (core_form rules t part) ∷ []) (core_stars rules t part) (stars part t) refl

    stars_of_all : (items : Forms) (t : ℕ) → filter is_star (core_parts_of_all rules t items) ≡ core_stars_of_all rules t items
    stars_of_all End t = refl
    stars_of_all (Then e rest) t =
        let later = t + terminals e in
        stars-both (core_parts rules t e) (core_parts_of_all rules later rest) (core_stars rules t e) (core_stars_of_all rules later rest) (stars e t) (stars_of_all rest later)

  stars_from : (some : List grammar.Rule) (t : ℕ) → filter is_star (core_parts_from rules t some) ≡ core_stars_from rules t some
  stars_from [] t = refl
  stars_from (r ∷ rs) t =
      let later = t + terminals r.body in
      stars-both (core_parts rules t r.body) (core_parts_from rules later rs) (core_stars rules t r.body) (core_stars_from rules later rs) (stars r.body t) (stars_from rs later)

-- the stars among the core forms of all rules are those of the written stars and pluses
pub stars-filtered : (rules : List grammar.Rule) → filter is_star (all_core_parts rules) ≡ all_core_stars rules
stars-filtered rules = stars_from rules rules 0

-- ---- well-formed grammars

all-left : {X : Type 0} (P : X → Type 0) (xs ys : List X) → All P (xs ++ ys) → All P xs
all-left P [] ys all = All-nil P
all-left P (x ∷ xs) ys all = All-cons P x xs (All-head P x (xs ++ ys) all) (all-left P xs ys (All-tail P x (xs ++ ys) all))

all-right : {X : Type 0} (P : X → Type 0) (xs ys : List X) → All P (xs ++ ys) → All P ys
all-right P [] ys all = all
all-right P (x ∷ xs) ys all = all-right P xs ys (All-tail P x (xs ++ ys) all)

module _ (rules : List grammar.Rule) where
  abbrev Right : CoreForm → Type 0
  Right form = IsCoreWellFormed (core_bodies rules) form

  right-Empty : Right Empty
  unfolding IsCoreWellFormedIn
  right-Empty = (1, tt)

  right-Test : (t b : ℕ) → Right (Test (only b) t)
  unfolding IsCoreWellFormedIn
  right-Test t b = (1, tt)

  -- both are well-formed in one number of rounds
  right-both : (a b : CoreForm) → Right a → Right b
      → (n : ℕ) × IsCoreWellFormedIn (core_bodies rules) n a × IsCoreWellFormedIn (core_bodies rules) n b
  right-both a b h k =
      let bodies = core_bodies rules in (
        k.0 + h.0,
        IsCoreWellFormedIn-later bodies k.0 h.0 a h.1,
        subst (λ n. IsCoreWellFormedIn bodies n b) (add_comm h.0 k.0) (IsCoreWellFormedIn-later bodies h.0 k.0 b k.1),
      )

  right-Seq : (a b : CoreForm) → Right a → Right b → Right (Seq a b)
  unfolding IsCoreWellFormedIn
  right-Seq a b h k = let both = right-both a b h k in (suc both.0, (both.1, λ gives. both.2))

  right-Choice : (a b : CoreForm) → Right a → Right b → Right (Choice a b)
  unfolding IsCoreWellFormedIn
  right-Choice a b h k = let both = right-both a b h k in (suc both.0, (both.1, both.2))

  right-Not : (a : CoreForm) → Right a → Right (Not a)
  unfolding IsCoreWellFormedIn
  right-Not a h = (suc h.0, h.1)

  right-tests : (t : ℕ) (bytes : List ℕ) → All Right (tests_of t bytes)
  right-tests t [] = All-nil Right
  right-tests t (b ∷ bs) = All-cons Right (Test (only b) t) (tests_of t bs) (right-Test t b) (right-tests t bs)

  right-in_order : (first : CoreForm) (rest : List CoreForm) → All Right (first ∷ rest) → Right (in_order first rest)
  right-in_order first [] all = All-head Right first [] all
  right-in_order first (next ∷ rest) all =
      right-Seq first (in_order next rest) (All-head Right first (next ∷ rest) all)
      (right-in_order next rest (All-tail Right first (next ∷ rest) all))

  right-sequences_from : (first : CoreForm) (rest : List CoreForm) → All Right (first ∷ rest) → All Right (sequences_from first rest)
  right-sequences_from first [] all = All-nil Right
  right-sequences_from first (next ∷ rest) all =
      All-push Right (sequences_from next rest) (Seq first (in_order next rest))
      (right-sequences_from next rest (All-tail Right first (next ∷ rest) all)) (right-in_order first (next ∷ rest) all)

  right-sequences : (forms : List CoreForm) → All Right forms → All Right (sequences_of forms)
  right-sequences [] all = All-cons Right Empty [] right-Empty (All-nil Right)
  right-sequences (first ∷ rest) all = right-sequences_from first rest all

  right-one_of : (first : CoreForm) (rest : List CoreForm) → All Right (first ∷ rest) → Right (one_of first rest)
  right-one_of first [] all = All-head Right first [] all
  right-one_of first (next ∷ rest) all =
      right-Choice first (one_of next rest) (All-head Right first (next ∷ rest) all)
      (right-one_of next rest (All-tail Right first (next ∷ rest) all))

  right-choices : (first : CoreForm) (rest : List CoreForm) → All Right (first ∷ rest) → All Right (choices_of first rest)
  right-choices first [] all = All-nil Right
  right-choices first (next ∷ rest) all =
      All-push Right (choices_of next rest) (Choice first (one_of next rest))
      (right-choices next rest (All-tail Right first (next ∷ rest) all)) (right-one_of first (next ∷ rest) all)

  right-unfolded : (part : CoreForm) → Right part → (min max : ℕ) → Right (unfolded part min max)
  right-unfolded part h min zero = right-Empty
  right-unfolded part h zero (suc max) =
      right-Choice (Seq part (unfolded part zero max)) Empty
      (right-Seq part (unfolded part zero max) h (right-unfolded part h zero max)) right-Empty
  right-unfolded part h (suc min) (suc max) =
      right-Seq part (unfolded part min max) h (right-unfolded part h min max)

  right-rounds : (part : CoreForm) → Right part → (min max : ℕ) → All Right (rounds_of part min max)
  right-rounds part h min zero = All-nil Right
  right-rounds part h zero (suc max) =
      let round = Seq part (unfolded part zero max) in
      All-append Right (rounds_of part zero max) (round ∷ unfolded part zero (suc max) ∷ []) (right-rounds part h zero max)
      (All-cons Right round (unfolded part zero (suc max) ∷ [])
      (right-Seq part (unfolded part zero max) h (right-unfolded part h zero max))
      (All-cons Right (unfolded part zero (suc max)) [] (right-unfolded part h zero (suc max)) (All-nil Right)))
  right-rounds part h (suc min) (suc max) =
      All-push Right (rounds_of part min max) (unfolded part (suc min) (suc max)) (right-rounds part h min max)
      (right-unfolded part h (suc min) (suc max))

  right-count : (part : CoreForm) → Right part → (min max : ℕ) → All Right (count_forms part min max)
  right-count part h min zero =
      All-cons Right Empty (Choice Empty part ∷ []) right-Empty
      (All-cons Right (Choice Empty part) [] (right-Choice Empty part right-Empty h) (All-nil Right))
  right-count part h min (suc max) =
      let least = min - left_out part min in
      let most = suc (max - left_out part min) in
      All-cons Right Empty (rounds_of part least most) right-Empty (right-rounds part h least most)

  abbrev Fine : Form → Type 0
  Fine e = IsWellFormed rules e

  -- a plus is well-formed if the star of its part is
  plus-star_in : (part : Form) (span : Extent) (n : ℕ) → IsWellFormedIn rules n (Plus part span)
      → IsWellFormedIn rules n (written.Star part span)
  unfolding IsWellFormedIn
  plus-star_in part span zero h = h
  plus-star_in part span (suc n) h = h

  plus-star : (part : Form) (span : Extent) → Fine (Plus part span) → Fine (written.Star part span)
  plus-star part span is = (is.0, plus-star_in part span is.0 is.1)

  -- the core form of a well-formed expression
  fine-right : (e : Form) (t : ℕ) → Fine e → Right (core_form rules t e)
  fine-right e t is = IsWellFormed-to_core rules e t is

  mutual
    rights : (e : Form) (t : ℕ) → All Fine (subexpressions e) → All Right (core_parts rules t e)
    rights (Literal bytes span) t all =
        All-append Right (tests_of t bytes) (sequences_of (tests_of t bytes)) (right-tests t bytes)
        (right-sequences (tests_of t bytes) (right-tests t bytes))
    rights (Class set span) t all =
        All-cons Right (Test set t) [] (fine-right (Class set span) t (All-head Fine (Class set span) [] all)) (All-nil Right)
    rights (Any span) t all =
        All-cons Right (core_form rules t (Any span)) [] (fine-right (Any span) t (All-head Fine (Any span) [] all)) (All-nil Right)
    rights (Name name span) t all =
        All-cons Right (core_form rules t (Name name span)) [] (fine-right (Name name span) t (All-head Fine (Name name span) [] all)) (All-nil Right)
    rights (written.Seq items span) t all =
        let fine = All-tail Fine (written.Seq items span) (below_all items) all in
        All-append Right (core_parts_of_all rules t items) (sequences_of (core_forms rules t items)) (rights_of_all items t fine)
        (right-sequences (core_forms rules t items) (item-rights items t fine))
    rights (written.Choice first rest span) t all =
        let later = t + terminals first in
        let fine = All-tail Fine (written.Choice first rest span) (subexpressions first ++ below_all rest) all in
        let one = all-left Fine (subexpressions first) (below_all rest) fine in
        let others = all-right Fine (subexpressions first) (below_all rest) fine in
        let form = core_form rules t first in
        let forms = core_forms rules later rest in
        All-append Right (core_parts rules t first ++ core_parts_of_all rules later rest) (choices_of form forms)
        (All-append Right (core_parts rules t first) (core_parts_of_all rules later rest) (rights first t one) (rights_of_all rest later others))
        (right-choices form forms
        (All-cons Right form forms (fine-right first t (All-head Fine first (below first) one)) (item-rights rest later others)))
    rights (Optional part span) t all =
        let fine = All-tail Fine (Optional part span) (subexpressions part) all in
        let form = core_form rules t part in
        All-append Right (core_parts rules t part) (optional_forms form) (rights part t fine)
        (All-cons Right Empty (Choice form Empty ∷ []) right-Empty
        (All-cons Right (Choice form Empty) [] (fine-right (Optional part span) t (All-head Fine (Optional part span) (subexpressions part) all)) (All-nil Right)))
    rights (written.Star part span) t all =
        let star : Form = written.Star part span in
        let fine = All-tail Fine star (subexpressions part) all in
        All-append Right (core_parts rules t part) (Star (core_form rules t part) span ∷ []) (rights part t fine)
        (All-cons Right (Star (core_form rules t part) span) [] (fine-right star t (All-head Fine star (subexpressions part) all)) (All-nil Right))
    rights (Plus part span) t all =
        let plus : Form = Plus part span in
        let fine = All-tail Fine plus (subexpressions part) all in
        let here = All-head Fine plus (subexpressions part) all in
        let form = core_form rules t part in
        All-append Right (core_parts rules t part) (plus_forms form span) (rights part t fine)
        (All-cons Right (Star form span) (Seq form (Star form span) ∷ []) (fine-right (written.Star part span) t (plus-star part span here))
        (All-cons Right (Seq form (Star form span)) [] (fine-right plus t here) (All-nil Right)))
    rights (Counted part min max span) t all =
        let fine = All-tail Fine (Counted part min max span) (subexpressions part) all in
        let form = core_form rules t part in
        let right = fine-right part t (All-head Fine part (below part) fine) in
        All-append Right (core_parts rules t part) (count_forms form min max) (rights part t fine)
        (right-count form right min max)
    rights (And part span) t all =
        let fine = All-tail Fine (And part span) (subexpressions part) all in
        let form = core_form rules t part in
        let right = fine-right part t (All-head Fine part (below part) fine) in
        All-append Right (core_parts rules t part) (and_forms form) (rights part t fine)
        (All-cons Right (Not form) (Not (Not form) ∷ []) (right-Not form right)
        (All-cons Right (Not (Not form)) [] (right-Not (Not form) (right-Not form right)) (All-nil Right)))
    rights (written.Not part span) t all =
        let fine = All-tail Fine (written.Not part span) (subexpressions part) all in
        let form = core_form rules t part in
        All-append Right (core_parts rules t part) (Not form ∷ []) (rights part t fine)
        (All-cons Right (Not form) [] (right-Not form (fine-right part t (All-head Fine part (below part) fine))) (All-nil Right))

    rights_of_all : (items : Forms) (t : ℕ) → All Fine (below_all items) → All Right (core_parts_of_all rules t items)
    rights_of_all End t all = All-nil Right
    rights_of_all (Then e rest) t all =
        let later = t + terminals e in
        All-append Right (core_parts rules t e) (core_parts_of_all rules later rest)
        (rights e t (all-left Fine (subexpressions e) (below_all rest) all))
        (rights_of_all rest later (all-right Fine (subexpressions e) (below_all rest) all))

    item-rights : (items : Forms) (t : ℕ) → All Fine (below_all items) → All Right (core_forms rules t items)
    item-rights End t all = All-nil Right
    item-rights (Then e rest) t all =
        let later = t + terminals e in
        All-cons Right (core_form rules t e) (core_forms rules later rest)
        (fine-right e t (All-head Fine e (below e ++ below_all rest) all))
        (item-rights rest later (all-right Fine (subexpressions e) (below_all rest) all))

  abbrev FineRule : grammar.Rule → Type 0
  FineRule r = All Fine (subexpressions r.body)

  rights_from : (some : List grammar.Rule) (t : ℕ) → All FineRule some → All Right (core_parts_from rules t some)
  rights_from [] t all = All-nil Right
  rights_from (r ∷ rs) t all =
      let later = t + terminals r.body in
      All-append Right (core_parts rules t r.body) (core_parts_from rules later rs) (rights r.body t (All-head FineRule r rs all))
      (rights_from rs later (All-tail FineRule r rs all))

  -- from the core forms back
  fine-numbered : (parts : List CoreForm) → All Right parts → (some : List Numbered) → All (HasCoreForm rules parts) some
      → All Fine (map (λ (n : Numbered). n.form) some)
  fine-numbered parts right some have_core_forms =
      All-map Fine (λ (n : Numbered). n.form) some
      (All-weaker (HasCoreForm rules parts) (λ (n : Numbered). Fine n.form)
      (λ n there. IsWellFormed-from_core rules n.form n.terminal (All-contains Right parts (core_form rules n.terminal n.form) right there)) some have_core_forms)

  fine_from : (some : List grammar.Rule) (t : ℕ) → All Right (core_parts_from rules t some) → All FineRule some
  fine_from [] t all = All-nil FineRule
  fine_from (r ∷ rs) t all =
      let later = t + terminals r.body in
      let parts = core_parts rules t r.body in
      let more = core_parts_from rules later rs in
      All-cons FineRule r rs
      (subst (All Fine) (ap (λ l. r.body ∷ l) (forms_below r.body t))
      (fine-numbered parts (all-left Right parts more all) (numbered_in t r.body) (has_core_forms rules r.body t)))
      (fine_from rs later (all-right Right parts more all))

-- a grammar is well-formed exactly if all its core forms are
pub grammar-right : (rules : List grammar.Rule) → IsWellFormedGrammar rules
    → All (IsCoreWellFormed (core_bodies rules)) (all_core_parts rules)
grammar-right rules all = rights_from rules rules 0 all

pub grammar-fine : (rules : List grammar.Rule) → All (IsCoreWellFormed (core_bodies rules)) (all_core_parts rules)
    → IsWellFormedGrammar rules
grammar-fine rules all = fine_from rules rules 0 all
