-- An expression and its renamed copy have like records, if names refer to renamed rules.
use Rattle.std.proofs.Common.{◌≡◌, ℕ, zero, suc, ◌+◌, ◌<◌, Bool, true, false, ◌==◌, if◌then◌else◌, List, [], ◌∷◌, drop}
use Rattle.std.proofs.Common.{Option, None, Some, refl, sym, ap₂, subst, arith, option_map, option_and_then}
use Rattle.peg_bytes.specs.ByteSet.{has}
use Rattle.peg_semantics.specs.Form.{Form, Forms, Literal, Class, Any, Name, Seq, Choice, Optional, Star, Plus, Counted}
use Rattle.peg_semantics.specs.Form.{And, Not, End, Then, terminals, terminals_of_all}
use Rattle.peg_semantics.specs.Record.{Record, Recognizer, test_of, matched_at, failed_at}
use Rattle.peg_semantics.specs.Record.{as_call, if_matched, if_failed, with_result, literal_at, byte_at}
use Rattle.peg_semantics.specs.Record.{recognize_seq, recognize_choice, table, record_in}
use Rattle.peg_semantics.specs.Rules.{Rule, Meaning, meaning_of}
use Rattle.peg_diagnostics.specs.Diagnostic.{rename, rename_all}
use Rattle.peg_diagnostics.proofs.Simulation.{Likeness, IsLike, Simulates, Simulates-some, Simulates-map}
use Rattle.peg_diagnostics.proofs.Simulation.{IsLike-matched_at, Simulates-matched_at, Simulates-then_at}
use Rattle.peg_diagnostics.proofs.Simulation.{Simulates-or_else, Simulates-rounds, Simulates-recognize_repeat}
use Rattle.peg_diagnostics.proofs.Simulation.{IsLike-if_matched, IsLike-if_failed, IsLike-as_call, SameNode, SameCall}

-- renaming keeps the number of terminals
mutual
  pub terminals-rename : (new : List ℕ → List ℕ) (e : Form) → terminals (rename new e) ≡ terminals e
  terminals-rename new (Literal bytes span) = refl
  terminals-rename new (Class set span) = refl
  terminals-rename new (Any span) = refl
  terminals-rename new (Name name span) = refl
  terminals-rename new (Seq items span) = terminals_of_all-rename new items
  terminals-rename new (Choice first rest span) =
      ap₂ ◌+◌ (terminals-rename new first) (terminals_of_all-rename new rest)
  terminals-rename new (Optional part span) = terminals-rename new part
  terminals-rename new (Star part span) = terminals-rename new part
  terminals-rename new (Plus part span) = terminals-rename new part
  terminals-rename new (Counted part min max span) = terminals-rename new part
  terminals-rename new (And part span) = terminals-rename new part
  terminals-rename new (Not part span) = terminals-rename new part

  pub terminals_of_all-rename : (new : List ℕ → List ℕ) (items : Forms)
      → terminals_of_all (rename_all new items) ≡ terminals_of_all items
  terminals_of_all-rename new End = refl
  terminals_of_all-rename new (Then e rest) = ap₂ ◌+◌ (terminals-rename new e) (terminals_of_all-rename new rest)

-- each of some terminals from a number on has a property
abbrev pub EachFrom : (ℕ → Type 0) → (count terminal : ℕ) → Type 0
EachFrom Is count terminal = (k : ℕ) → k < count → Is (terminal + k)

module _ (Is : ℕ → Type 0) where
  pub EachFrom-first : (count terminal : ℕ) → 0 < count → EachFrom Is count terminal → Is terminal
  EachFrom-first count terminal some each =
      let at : terminal + 0 ≡ terminal = omega arith in subst Is at (each 0 some)

  pub EachFrom-front : (count more terminal : ℕ) → EachFrom Is (count + more) terminal → EachFrom Is count terminal
  EachFrom-front count more terminal each k below = each k (omega (arith, below))

  pub EachFrom-back : (count same more terminal : ℕ) → same ≡ count → EachFrom Is (count + more) terminal
      → EachFrom Is more (terminal + same)
  EachFrom-back count same more terminal is each k below =
      let at : terminal + (count + k) ≡ terminal + same + k = omega (arith, is) in
      subst Is at (each (count + k) (omega (arith, below)))

-- What a name refers to has a renamed copy under the new name. The terminals of the copy are free. Its nodes and its
-- calls are related to those of the rule.
pub record HasCopy (like : Likeness) (Free : ℕ → Type 0) (new : List ℕ → List ℕ) (other : List Rule) (name : List ℕ)
    (m : Meaning) : Type 0 where
  pub copy : Meaning
  pub found : meaning_of other (new name) ≡ Some copy
  pub renamed : copy.body ≡ rename new m.body
  pub free : EachFrom Free (terminals m.body) copy.terminal
  pub node : SameNode like m.rule copy.rule
  pub call : SameCall like m.rule copy.rule

module _ (like : Likeness) (Free : ℕ → Type 0)
    (fits : (t T position : ℕ) → Free T → like.Fit (test_of t position ∷ []) (test_of T position ∷ []))
    (new : List ℕ → List ℕ) (rules other : List Rule) (text : List ℕ)
    (copied : (name : List ℕ) (m : Meaning) → meaning_of rules name ≡ Some m → HasCopy like Free new other name m) where
  IsLike-failed_at : (t T position : ℕ) → Free T → IsLike like (failed_at t position) (failed_at T position)
  IsLike-failed_at t T position free = record { results = tt; tests = fits t T position free; calls = like.no_calls }

  IsLike-literal_at : (t T position : ℕ) (bytes rest : List ℕ) → Free T
      → IsLike like (literal_at t position bytes rest) (literal_at T position bytes rest)
  IsLike-literal_at t T position [] rest free = IsLike-matched_at like position
  IsLike-literal_at t T position (b ∷ bs) [] free = IsLike-failed_at t T position free
  IsLike-literal_at t T position (b ∷ bs) (c ∷ rest) free =
      by (b == c) (IsLike-literal_at t T (position + 1) bs rest free)
    where
      by : (same : Bool)
          → IsLike like (literal_at t (position + 1) bs rest) (literal_at T (position + 1) bs rest)
          → IsLike like (if same then literal_at t (position + 1) bs rest else failed_at t position)
          (if same then literal_at T (position + 1) bs rest else failed_at T position)
      by true later = later
      by false later = IsLike-failed_at t T position free

  IsLike-byte_at : (test : ℕ → Bool) (t T position : ℕ) (rest : List ℕ) → Free T
      → IsLike like (byte_at test t position rest) (byte_at test T position rest)
  IsLike-byte_at test t T position [] free = IsLike-failed_at t T position free
  IsLike-byte_at test t T position (c ∷ rest) free = by (test c)
    where
      by : (is : Bool) → IsLike like (if is then matched_at (position + 1) else failed_at t position)
          (if is then matched_at (position + 1) else failed_at T position)
      by true = IsLike-matched_at like (position + 1)
      by false = IsLike-failed_at t T position free

  abbrev SimulatesAll : (take more : Recognizer) → Type 0
  SimulatesAll take more = (e : Form) (t T position : ℕ) → EachFrom Free (terminals e) T
      → Simulates like (take e t position) (more (rename new e) T position)

  module _ (take more : Recognizer) (h : SimulatesAll take more) where
    Simulates-seq : (items : Forms) (t T position : ℕ) → EachFrom Free (terminals_of_all items) T
        → Simulates like (recognize_seq take items t position) (recognize_seq more (rename_all new items) T position)
    Simulates-seq End t T position free = Simulates-matched_at like position
    Simulates-seq (Then e rest) t T position free =
        Simulates-then_at like (take e t position) (more (rename new e) T position)
        (λ end. recognize_seq take rest (t + terminals e) end)
        (λ end. recognize_seq more (rename_all new rest) (T + terminals (rename new e)) end)
        (h e t T position (EachFrom-front Free (terminals e) (terminals_of_all rest) T free))
        (λ end. Simulates-seq rest (t + terminals e) (T + terminals (rename new e)) end
        (EachFrom-back Free (terminals e) (terminals (rename new e)) (terminals_of_all rest) T (terminals-rename new e)
        free))

    Simulates-choice : (e : Form) (rest : Forms) (t T position : ℕ)
        → EachFrom Free (terminals e + terminals_of_all rest) T
        → Simulates like (recognize_choice take e rest t position)
        (recognize_choice more (rename new e) (rename_all new rest) T position)
    Simulates-choice e End t T position free =
        h e t T position (EachFrom-front Free (terminals e) (terminals_of_all End) T free)
    Simulates-choice e (Then next rest) t T position free =
        Simulates-or_else like (take e t position) (more (rename new e) T position)
        (recognize_choice take next rest (t + terminals e) position)
        (recognize_choice more (rename new next) (rename_all new rest) (T + terminals (rename new e)) position)
        (h e t T position (EachFrom-front Free (terminals e) (terminals_of_all (Then next rest)) T free))
        (Simulates-choice next rest (t + terminals e) (T + terminals (rename new e)) position
        (EachFrom-back Free (terminals e) (terminals (rename new e)) (terminals_of_all (Then next rest)) T
        (terminals-rename new e) free))

    -- the call of the rule that a name refers to
    abbrev Call : Recognizer → ℕ → Meaning → Option Record
    Call by position m = option_map (as_call m.rule position) (by m.body m.terminal position)

    Simulates-call : (name : List ℕ) (position : ℕ) (meaning : Option Meaning) → meaning_of rules name ≡ meaning
        → Simulates like (option_and_then (Call take position) meaning)
        (option_and_then (Call more position) (meaning_of other (new name)))
    Simulates-call name position None is = tt
    Simulates-call name position (Some m) is =
        let c = copied name m is in
        subst (λ o. Simulates like (Call take position m) (option_and_then (Call more position) o)) (sym c.found)
        (Simulates-map like (as_call m.rule position) (as_call c.copy.rule position)
        (IsLike-as_call like m.rule c.copy.rule position c.node c.call) (take m.body m.terminal position)
        (more c.copy.body c.copy.terminal position)
        (subst (λ body. Simulates like (take m.body m.terminal position) (more body c.copy.terminal position))
        (sym c.renamed) (h m.body m.terminal c.copy.terminal position c.free)))

    Simulates-table : SimulatesAll (table rules text take) (table other text more)
    Simulates-table (Literal bytes span) t T position free =
        Simulates-some like (literal_at t position bytes (drop position text))
        (literal_at T position bytes (drop position text))
        (IsLike-literal_at t T position bytes (drop position text) (EachFrom-first Free 1 T (omega arith) free))
    Simulates-table (Class set span) t T position free =
        Simulates-some like (byte_at (has set) t position (drop position text))
        (byte_at (has set) T position (drop position text))
        (IsLike-byte_at (has set) t T position (drop position text) (EachFrom-first Free 1 T (omega arith) free))
    Simulates-table (Any span) t T position free =
        Simulates-some like (byte_at (λ byte. true) t position (drop position text))
        (byte_at (λ byte. true) T position (drop position text))
        (IsLike-byte_at (λ byte. true) t T position (drop position text) (EachFrom-first Free 1 T (omega arith) free))
    Simulates-table (Name name span) t T position free = Simulates-call name position (meaning_of rules name) refl
    Simulates-table (Seq items span) t T position free = Simulates-seq items t T position free
    Simulates-table (Choice first rest span) t T position free = Simulates-choice first rest t T position free
    Simulates-table (Optional part span) t T position free =
        Simulates-or_else like (take part t position) (more (rename new part) T position) (Some (matched_at position))
        (Some (matched_at position)) (h part t T position free) (Simulates-matched_at like position)
    Simulates-table (Star part span) t T position free =
        Simulates-rounds like (take part t position) (more (rename new part) T position) position
        (λ end. take (Star part span) t end) (λ end. more (rename new (Star part span)) T end)
        (h part t T position free) (λ end. h (Star part span) t T end free)
    Simulates-table (Plus part span) t T position free =
        Simulates-then_at like (take part t position) (more (rename new part) T position)
        (λ end. take (Star part span) t end) (λ end. more (rename new (Star part span)) T end)
        (h part t T position free) (λ end. h (Star part span) t T end free)
    Simulates-table (Counted part min max span) t T position free =
        Simulates-recognize_repeat like (λ at. take part t at) (λ at. more (rename new part) T at)
        (λ at. h part t T at free) min max position
    Simulates-table (And part span) t T position free =
        Simulates-map like (λ (r : Record). with_result r (if_matched r.result position))
        (λ (r : Record). with_result r (if_matched r.result position)) (IsLike-if_matched like position)
        (take part t position) (more (rename new part) T position) (h part t T position free)
    Simulates-table (Not part span) t T position free =
        Simulates-map like (λ (r : Record). with_result r (if_failed r.result position))
        (λ (r : Record). with_result r (if_failed r.result position)) (IsLike-if_failed like position)
        (take part t position) (more (rename new part) T position) (h part t T position free)

  -- an expression and its renamed copy have like records in each depth
  pub Simulates-rename : (n : ℕ) → SimulatesAll (record_in rules text n) (record_in other text n)
  unfolding record_in
  Simulates-rename zero e t T position free = tt
  Simulates-rename (suc n) e t T position free =
      Simulates-table (record_in rules text n) (record_in other text n) (Simulates-rename n) e t T position free
