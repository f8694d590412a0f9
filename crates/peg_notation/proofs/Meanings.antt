-- The meaning of names in a grammar, compared with a grammar that differs in the body of one rule. Also the forms that
-- lead to no call of that rule.
use Rattle.std.proofs.Common.{◌≡◌, ℕ, zero, suc, ◌+◌, Bool, true, false, ◌&&◌, if◌then◌else◌, List, [], ◌∷◌, map}
use Rattle.std.proofs.Common.{Option, None, Some, bytes_eq, refl, sym, ap, ◌∙◌}
use Rattle.std.proofs.lemmas.Slice.Eq.{bytes_eq-Decides}
use Rattle.peg_semantics.specs.Form.{Form, Forms, Literal, Class, Any, Name, Seq, Choice, Optional, Star, Plus, Counted, And, Not, End, Then, terminals}
use Rattle.peg_semantics.specs.Rules.{Rule, Meaning, meaning_from, meaning_of}

-- ---- meanings

-- a rule, with this body if it has this name
abbrev pub changed : List ℕ → Form → Rule → Rule
changed name body rule =
    if bytes_eq rule.name name then record { name = rule.name; span = rule.span; body = body } else rule

-- the meaning of a name among rules, which agrees with its meaning elsewhere
pub record Meant (n t : ℕ) (rules : List Rule) (used : List ℕ) (m : Meaning) : Type 0 where
  pub meaning : Meaning
  pub known : meaning_from n t rules used ≡ Some meaning
  pub rule_is : meaning.rule ≡ m.rule
  pub body_is : meaning.body ≡ m.body

true≢false : true ≡ false → ⊥
true≢false e = cc

same_name : (name used here : List ℕ) → bytes_eq used name ≡ false → bytes_eq used here ≡ true
    → bytes_eq here name ≡ true → ⊥
same_name name used here other is char =
    let same : used ≡ here = (bytes_eq-Decides used here).0 is in
    true≢false (sym char ∙ (ap (λ n. bytes_eq n name) (sym same) ∙ other))

pub meaning_of-changed : (name : List ℕ) (body : Form) (rules : List Rule) (n t u : ℕ) (used : List ℕ) (m : Meaning)
    → bytes_eq used name ≡ false → meaning_from n t (map (changed name body) rules) used ≡ Some m
    → Meant n u rules used m
meaning_of-changed name body [] n t u used m other is = cc
meaning_of-changed name body (r ∷ rs) n t u used m other is =
    by (λ v w found. meaning_of-changed name body rs (n + 1) v w used m other found) (bytes_eq r.name name) refl is
  where
    later : bytes_eq used r.name ≡ false → Meant (n + 1) (u + terminals r.body) rs used m → Meant n u (r ∷ rs) used m
    later differs it = record {
      meaning = it.meaning;
      known = ap (λ (b : Bool). if b then Some (record { rule = n; terminal = u; body = r.body })
          else meaning_from (n + 1) (u + terminals r.body) rs used) differs ∙ it.known;
      rule_is = it.rule_is;
      body_is = it.body_is;
    }

    other_body : ((v w : ℕ) → meaning_from (n + 1) v (map (changed name body) rs) used ≡ Some m → Meant (n + 1) w rs used m)
        → bytes_eq r.name name ≡ true → (b : Bool) → bytes_eq used r.name ≡ b
        → (if b then Some (record { rule = n; terminal = t; body = body })
        else meaning_from (n + 1) (t + terminals body) (map (changed name body) rs) used) ≡ Some m
        → Meant n u (r ∷ rs) used m
    other_body following named true same found = absurd (same_name name used r.name other same named)
    other_body following named false same found = later same (following (t + terminals body) (u + terminals r.body) found)

    kept : ((v w : ℕ) → meaning_from (n + 1) v (map (changed name body) rs) used ≡ Some m → Meant (n + 1) w rs used m)
        → (b : Bool) → bytes_eq used r.name ≡ b
        → (if b then Some (record { rule = n; terminal = t; body = r.body })
        else meaning_from (n + 1) (t + terminals r.body) (map (changed name body) rs) used) ≡ Some m
        → Meant n u (r ∷ rs) used m
    kept following true same found =
        let one : Meaning = record { rule = n; terminal = t; body = r.body } in
        let is_one : one ≡ m = cc in
        record {
          meaning = record { rule = n; terminal = u; body = r.body };
          known = ap (λ (b : Bool). if b then Some (record { rule = n; terminal = u; body = r.body })
              else meaning_from (n + 1) (u + terminals r.body) rs used) same;
          rule_is = ap (λ (m : Meaning). m.rule) is_one;
          body_is = ap (λ (m : Meaning). m.body) is_one;
        }
    kept following false same found = later same (following (t + terminals r.body) (u + terminals r.body) found)

    by : ((v w : ℕ) → meaning_from (n + 1) v (map (changed name body) rs) used ≡ Some m → Meant (n + 1) w rs used m)
        → (c : Bool) → bytes_eq r.name name ≡ c
        → meaning_from n t ((if c then record { name = r.name; span = r.span; body = body } else r)
        ∷ map (changed name body) rs) used ≡ Some m → Meant n u (r ∷ rs) used m
    by following true named found = other_body following named (bytes_eq used r.name) refl found
    by following false named found = kept following (bytes_eq used r.name) refl found

-- ---- forms without a call of a rule

-- whether an expression has only names that are known to lead to no call of the rule
abbrev mutual
  pub without : (List ℕ → Bool) → Form → Bool
  without known (Literal bytes span) = true
  without known (Class set span) = true
  without known (Any span) = true
  without known (Name name span) = known name
  without known (Seq items span) = all_without known items
  without known (Choice first rest span) = without known first && all_without known rest
  without known (Optional part span) = without known part
  without known (Star part span) = without known part
  without known (Plus part span) = without known part
  without known (Counted part min max span) = false
  without known (And part span) = without known part
  without known (Not part span) = without known part

  pub all_without : (List ℕ → Bool) → Forms → Bool
  all_without known End = true
  all_without known (Then first rest) = without known first && all_without known rest

-- negation
abbrev pub turned : Bool → Bool
turned true = false
turned false = true

pub not_false : (b : Bool) → turned b ≡ true → b ≡ false
not_false true is = cc
not_false false is = refl

abbrev pub meant_without : (List ℕ → Bool) → Option Meaning → Bool
meant_without known None = true
meant_without known (Some m) = without known m.body

-- whether a name leads to no call of the rule with this name, in this number of steps from name to name
abbrev pub leads_elsewhere : List Rule → (name : List ℕ) → ℕ → List ℕ → Bool
leads_elsewhere rules name zero used = false
leads_elsewhere rules name (suc n) used =
    turned (bytes_eq used name) && meant_without (leads_elsewhere rules name n) (meaning_of rules used)
