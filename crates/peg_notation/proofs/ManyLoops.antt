-- Loops over tokens: what is read so far and what is left to read make the whole.
use Rattle.std.proofs.Common.{◌≡◌, ℕ, suc, ◌+◌, ◌-◌, ◌<◌, max, Bool, true, false, List, [], ◌∷◌, ◌++◌, length, drop}
use Rattle.std.proofs.Common.{Result, Ok, Err, if◌then◌else◌, refl, sym, ap, ◌∙◌, subst, append_assoc, append-nil, arith}
use Rattle.std.proofs.lemmas.List.{drop-drop}
use Rattle.peg_semantics.specs.Rules.{Rule}
use Rattle.peg_notation.specs.Reader.{ReadError, FormRead, FormsRead, Reading, and_read, no_more, and_form, many_forms_after, many_forms, RuleRead, RulesRead, and_rules, definition, definitions_after}
use Rattle.peg_notation.specs.ReaderCode.{with_form}
use Rattle.peg_lexer.specs.Tokens.{Lexeme}
use Rattle.peg_notation.proofs.GrammarRules.{definitions_after-drop}
use Rattle.peg_notation.proofs.Repeats.{many_following-drop}

-- ---- expressions

-- expressions and those after them
abbrev pub joined : FormsRead → FormsRead → FormsRead
joined parts more =
    record { forms = parts.forms ++ more.forms; token_count = parts.token_count + more.token_count; last = more.last; depth = max parts.depth more.depth }

pub record SoFar (begins : List Lexeme → Bool) (read : Reading) (before : ℕ) (lexemes : List Lexeme) (parts : FormsRead) : Type 0 where
  pub same : many_forms begins read before lexemes
      ≡ and_read (many_forms begins read parts.last (drop parts.token_count lexemes)) (λ (more : FormsRead). Ok (joined parts more))

only_read : (x : Result FormsRead ReadError) (before : ℕ) → x ≡ and_read x (λ (more : FormsRead). Ok (joined (no_more before) more))
only_read (Ok parts) before =
    let count : parts.token_count ≡ 0 + parts.token_count = omega arith in
    let deep : parts.depth ≡ max 0 parts.depth = omega arith in
    λ i. Ok (record { forms = parts.forms; token_count = count i; last = parts.last; depth = deep i })
only_read (Err halt) before = refl

pub so_far-none : (begins : List Lexeme → Bool) (read : Reading) (before : ℕ) (lexemes : List Lexeme)
    → SoFar begins read before lexemes (no_more before)
so_far-none begins read before lexemes = record { same = only_read (many_forms begins read before lexemes) before }

-- if one begins, it is the first
first_of_many : (begins : List Lexeme → Bool) (read : Reading) (before : ℕ) (lexemes : List Lexeme) → begins [] ≡ false
    → begins lexemes ≡ true → (x : Result FormRead ReadError) → read before lexemes ≡ x
    → ((p : FormRead) → x ≡ Ok p → 0 < p.token_count)
    → many_forms begins read before lexemes ≡ and_read x (λ (p : FormRead). and_read
    (many_forms begins read p.last (drop p.token_count lexemes)) (λ (more : FormsRead). Ok (and_form p more)))
unfolding many_forms_after
first_of_many begins read before [] none begun x is some = let bad : true ≡ false = sym begun ∙ none in cc
first_of_many begins read before (l ∷ rest) none begun x is some =
    (λ i. if begun i then and_read (is i) next else Ok (no_more before)) ∙ by x some
  where
    next : FormRead → Result FormsRead ReadError
    next p = and_read (many_forms_after begins read p.last rest (p.token_count - 1)) (λ (more : FormsRead). Ok (and_form p more))

    by : (x : Result FormRead ReadError) → ((p : FormRead) → x ≡ Ok p → 0 < p.token_count) → and_read x next
        ≡ and_read x (λ (p : FormRead). and_read (many_forms begins read p.last (drop p.token_count (l ∷ rest)))
        (λ (more : FormsRead). Ok (and_form p more)))
    by (Ok p) some =
        let one : suc (p.token_count - 1) ≡ p.token_count = omega (arith, some p refl) in
        ap (λ (y : Result FormsRead ReadError). and_read y (λ (more : FormsRead). Ok (and_form p more)))
        (many_following-drop begins read p.last rest (p.token_count - 1) ∙ ap (λ n. many_forms begins read p.last (drop n (l ∷ rest))) one)
    by (Err halt) some = refl

joined-one : (parts : FormsRead) (p : FormRead) (x : Result FormsRead ReadError)
    → and_read (and_read x (λ (more : FormsRead). Ok (and_form p more))) (λ (more : FormsRead). Ok (joined parts more))
    ≡ and_read x (λ (more : FormsRead). Ok (joined (with_form parts p) more))
joined-one parts p (Ok more) =
    let all : parts.forms ++ p.form ∷ more.forms ≡ (parts.forms ++ p.form ∷ []) ++ more.forms =
    sym (append_assoc parts.forms (p.form ∷ []) more.forms) in
    let count : parts.token_count + (p.token_count + more.token_count) ≡ (parts.token_count + p.token_count) + more.token_count = omega arith in
    let deep : max parts.depth (max p.depth more.depth) ≡ max (max parts.depth p.depth) more.depth = omega arith in
    λ i. Ok (record { forms = all i; token_count = count i; last = more.last; depth = deep i })
joined-one parts p (Err halt) = refl

pub so_far-one : (begins : List Lexeme → Bool) (read : Reading) (before : ℕ) (lexemes : List Lexeme) (parts : FormsRead) (p : FormRead)
    → SoFar begins read before lexemes parts → begins [] ≡ false → begins (drop parts.token_count lexemes) ≡ true
    → read parts.last (drop parts.token_count lexemes) ≡ Ok p → 0 < p.token_count
    → SoFar begins read before lexemes (with_form parts p)
so_far-one begins read before lexemes parts p so_far none begun is some = record {
  same =
      so_far.same ∙ (ap (λ (x : Result FormsRead ReadError). and_read x (λ (more : FormsRead). Ok (joined parts more)))
      (first_of_many begins read parts.last (drop parts.token_count lexemes) none begun (Ok p) is (λ q e. some_taken q _ refl e)
      ∙ ap (λ ls. and_read (many_forms begins read p.last ls) (λ (more : FormsRead). Ok (and_form p more))) (drop-drop p.token_count parts.token_count lexemes))
      ∙ joined-one parts p (many_forms begins read p.last (drop (parts.token_count + p.token_count) lexemes)));
}
  where
    some_taken : (q : FormRead) (x : Result FormRead ReadError) → x ≡ Ok p → x ≡ Ok q → 0 < q.token_count
    some_taken q x f e = let same : p ≡ q = cc in subst (λ (r : FormRead). 0 < r.token_count) same some

none_of_many : (begins : List Lexeme → Bool) (read : Reading) (before : ℕ) (lexemes : List Lexeme) → begins lexemes ≡ false
    → many_forms begins read before lexemes ≡ Ok (no_more before)
unfolding many_forms_after
none_of_many begins read before [] none = refl
none_of_many begins read before (l ∷ rest) none = rw none refl

joined-none : (parts : FormsRead) → joined parts (no_more parts.last) ≡ parts
joined-none parts =
    let all : parts.forms ++ [] ≡ parts.forms = append-nil parts.forms in
    let count : parts.token_count + 0 ≡ parts.token_count = omega arith in
    let deep : max parts.depth 0 ≡ parts.depth = omega arith in
    λ i. record { forms = all i; token_count = count i; last = parts.last; depth = deep i }

-- if none begins, all is read
pub so_far-all : (begins : List Lexeme → Bool) (read : Reading) (before : ℕ) (lexemes : List Lexeme) (parts : FormsRead)
    → SoFar begins read before lexemes parts → begins (drop parts.token_count lexemes) ≡ false
    → many_forms begins read before lexemes ≡ Ok parts
so_far-all begins read before lexemes parts so_far none =
    so_far.same ∙ (ap (λ (x : Result FormsRead ReadError). and_read x (λ (more : FormsRead). Ok (joined parts more)))
    (none_of_many begins read parts.last (drop parts.token_count lexemes) none) ∙ ap (λ (p : FormsRead). Ok p) (joined-none parts))

-- if one stops, all stops
pub so_far-halt : (begins : List Lexeme → Bool) (read : Reading) (before : ℕ) (lexemes : List Lexeme) (parts : FormsRead) (halt : ReadError)
    → SoFar begins read before lexemes parts → begins [] ≡ false → begins (drop parts.token_count lexemes) ≡ true
    → read parts.last (drop parts.token_count lexemes) ≡ Err halt → many_forms begins read before lexemes ≡ Err halt
so_far-halt begins read before lexemes parts halt so_far none begun is =
    so_far.same ∙ ap (λ (x : Result FormsRead ReadError). and_read x (λ (more : FormsRead). Ok (joined parts more)))
    (first_of_many begins read parts.last (drop parts.token_count lexemes) none begun (Err halt) is (λ q e. cc))

-- ---- rules

-- rules and those after them
abbrev pub after : List Rule → (depth : ℕ) → RulesRead → RulesRead
after rules depth more = record { rules = rules ++ more.rules; depth = max depth more.depth }

pub record RulesSoFar (file : List ℕ) (bound : ℕ) (lexemes : List Lexeme) (token_count : ℕ) (rules : List Rule) (depth : ℕ) : Type 0 where
  pub same : definitions_after file bound lexemes 0 ≡ and_read (definitions_after file bound (drop token_count lexemes) 0)
      (λ (more : RulesRead). Ok (after rules depth more))

only_rules : (x : Result RulesRead ReadError) → x ≡ and_read x (λ (more : RulesRead). Ok (after [] 0 more))
only_rules (Ok more) =
    let deep : more.depth ≡ max 0 more.depth = omega arith in λ i. Ok (record { rules = more.rules; depth = deep i })
only_rules (Err halt) = refl

pub rules-none : (file : List ℕ) (bound : ℕ) (lexemes : List Lexeme) → RulesSoFar file bound lexemes 0 [] 0
rules-none file bound lexemes = record { same = only_rules (definitions_after file bound lexemes 0) }

first_rule : (file : List ℕ) (bound : ℕ) (lexemes : List Lexeme) → 0 < length lexemes → (x : Result RuleRead ReadError)
    → definition file bound lexemes ≡ x → ((r : RuleRead) → x ≡ Ok r → 0 < r.token_count)
    → definitions_after file bound lexemes 0 ≡ and_read x (λ (first : RuleRead). and_read
    (definitions_after file bound (drop first.token_count lexemes) 0) (λ (more : RulesRead). Ok (and_rules first more)))
unfolding definitions_after
first_rule file bound [] long x is some = absurd (omega arith)
first_rule file bound (l ∷ rest) long x is some = ap (λ (y : Result RuleRead ReadError). and_read y next) is ∙ by x some
  where
    next : RuleRead → Result RulesRead ReadError
    next first = and_read (definitions_after file bound rest (first.token_count - 1)) (λ (more : RulesRead). Ok (and_rules first more))

    by : (x : Result RuleRead ReadError) → ((r : RuleRead) → x ≡ Ok r → 0 < r.token_count) → and_read x next
        ≡ and_read x (λ (first : RuleRead). and_read (definitions_after file bound (drop first.token_count (l ∷ rest)) 0)
        (λ (more : RulesRead). Ok (and_rules first more)))
    by (Ok r) some =
        let one : suc (r.token_count - 1) ≡ r.token_count = omega (arith, some r refl) in
        ap (λ (y : Result RulesRead ReadError). and_read y (λ (more : RulesRead). Ok (and_rules r more)))
        (definitions_after-drop file bound rest (r.token_count - 1) ∙ ap (λ n. definitions_after file bound (drop n (l ∷ rest)) 0) one)
    by (Err halt) some = refl

rules_joined : (rules : List Rule) (depth : ℕ) (r : RuleRead) (x : Result RulesRead ReadError)
    → and_read (and_read x (λ (more : RulesRead). Ok (and_rules r more))) (λ (more : RulesRead). Ok (after rules depth more))
    ≡ and_read x (λ (more : RulesRead). Ok (after (rules ++ r.rule ∷ []) (max depth r.depth) more))
rules_joined rules depth r (Ok more) =
    let all : rules ++ r.rule ∷ more.rules ≡ (rules ++ r.rule ∷ []) ++ more.rules = sym (append_assoc rules (r.rule ∷ []) more.rules) in
    let deep : max depth (max r.depth more.depth) ≡ max (max depth r.depth) more.depth = omega arith in
    λ i. Ok (record { rules = all i; depth = deep i })
rules_joined rules depth r (Err halt) = refl

pub rules-one : (file : List ℕ) (bound : ℕ) (lexemes : List Lexeme) (token_count : ℕ) (rules : List Rule) (depth : ℕ) (r : RuleRead)
    → RulesSoFar file bound lexemes token_count rules depth → 0 < length (drop token_count lexemes)
    → definition file bound (drop token_count lexemes) ≡ Ok r → 0 < r.token_count
    → RulesSoFar file bound lexemes (token_count + r.token_count) (rules ++ r.rule ∷ []) (max depth r.depth)
rules-one file bound lexemes token_count rules depth r so_far long is some = record {
  same =
      so_far.same ∙ (ap (λ (x : Result RulesRead ReadError). and_read x
      (λ (more : RulesRead). Ok (after rules depth more)))
      (first_rule file bound (drop token_count lexemes) long (Ok r) is (λ q e. some_taken q _ refl e)
      ∙ ap (λ ls. and_read (definitions_after file bound ls 0) (λ (more : RulesRead). Ok (and_rules r more))) (drop-drop r.token_count token_count lexemes))
      ∙ rules_joined rules depth r (definitions_after file bound (drop (token_count + r.token_count) lexemes) 0));
}
  where
    some_taken : (q : RuleRead) (x : Result RuleRead ReadError) → x ≡ Ok r → x ≡ Ok q → 0 < q.token_count
    some_taken q x f e = let same : r ≡ q = cc in subst (λ (s : RuleRead). 0 < s.token_count) same some

-- at the end, all is read
pub rules-all : (file : List ℕ) (bound : ℕ) (lexemes : List Lexeme) (token_count : ℕ) (rules : List Rule) (depth : ℕ)
    → RulesSoFar file bound lexemes token_count rules depth → drop token_count lexemes ≡ []
    → definitions_after file bound lexemes 0 ≡ Ok (record { rules = rules; depth = depth })
unfolding definitions_after
rules-all file bound lexemes token_count rules depth so_far none =
    let all : rules ++ [] ≡ rules = append-nil rules in
    let deep : max depth 0 ≡ depth = omega arith in
    so_far.same ∙ (ap (λ ls. and_read (definitions_after file bound ls 0)
    (λ (more : RulesRead). Ok (after rules depth more))) none
    ∙ (λ i. Ok (record { rules = all i; depth = deep i })))

-- if one stops, all stops
pub rules-halt : (file : List ℕ) (bound : ℕ) (lexemes : List Lexeme) (token_count : ℕ) (rules : List Rule) (depth : ℕ) (halt : ReadError)
    → RulesSoFar file bound lexemes token_count rules depth → 0 < length (drop token_count lexemes)
    → definition file bound (drop token_count lexemes) ≡ Err halt → definitions_after file bound lexemes 0 ≡ Err halt
rules-halt file bound lexemes token_count rules depth halt so_far long is =
    so_far.same ∙ ap (λ (x : Result RulesRead ReadError). and_read x
    (λ (more : RulesRead). Ok (after rules depth more)))
    (first_rule file bound (drop token_count lexemes) long (Err halt) is (λ q e. cc))
