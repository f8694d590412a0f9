-- The combinators of the recognition table on results: records in some depth from records of the parts, and facts of a
-- result from facts of the parts' results.
use Rattle.std.proofs.Common.{◌≡◌, ℕ, ◌+◌, ◌==◌, ◌&&◌, nat_eq, if◌then◌else◌, Bool, true, false}
use Rattle.std.proofs.Common.{List, [], ◌∷◌, ◌++◌, length, take, drop, Option, None, Some, option_map, option_and_then}
use Rattle.std.proofs.Common.{refl, sym, ◌∙◌, ap, subst, arith, add-zero, add_comm, eq-eqb}
use Rattle.std.specs.Cmp.Lexicographic.{same_text}
use Rattle.std.specs.List.{starts_with}
use Rattle.std.proofs.lemmas.List.{take-append-drop}
use Rattle.peg_tree.specs.Trees.{Trees, NoTrees}
use Rattle.peg_semantics.specs.Record.{Recognition, Failed, Matched, Record, matched_at, failed_at, after_both, prepend_trees}
use Rattle.peg_semantics.specs.Record.{then_result, then_at, choice_result, or_else, star_result, literal_at, byte_at}
use Rattle.peg_semantics.proofs.RecordLemmas.{Extends}

-- ---- literals, classes and dots, by the bytes at a position

-- whether the first byte passes the test
abbrev pub begins_with : (ℕ → Bool) → List ℕ → Bool
begins_with test [] = false
begins_with test (c ∷ rest) = test c

-- every byte passes
abbrev pub passes_any : ℕ → Bool
passes_any byte = true

-- a byte equals itself
nat_eq-same : (byte : ℕ) → nat_eq byte byte ≡ true
nat_eq-same byte = eq-eqb byte byte refl

-- bytes start with each of their prefixes
pub starts_with-front : (bytes rest : List ℕ) → starts_with nat_eq (bytes ++ rest) bytes ≡ true
starts_with-front [] rest = refl
starts_with-front (b ∷ bs) rest =
    ap (λ t. t && starts_with nat_eq (bs ++ rest) bs) (nat_eq-same b) ∙ starts_with-front bs rest

-- bytes with a given prefix are that prefix and a rest
pub starts_with-rest : (bytes all : List ℕ) → starts_with nat_eq all bytes ≡ true
    → all ≡ bytes ++ drop (length bytes) all
starts_with-rest bytes all is =
    sym (take-append-drop (length bytes) all)
    ∙ ap (λ l. l ++ drop (length bytes) all) (sym (same_text bytes (take (length bytes) all) (sym is)))

-- the result of a literal, by whether the bytes start with it
pub literal_at-matched : (terminal position end : ℕ) (bytes rest : List ℕ) → starts_with nat_eq rest bytes ≡ true
    → end ≡ position + length bytes → (literal_at terminal position bytes rest).result ≡ Matched end NoTrees
literal_at-matched terminal position end [] rest is ends = ap (λ end. Matched end NoTrees) (sym (ends ∙ add-zero position))
literal_at-matched terminal position end (b ∷ bs) [] is ends = cc
literal_at-matched terminal position end (b ∷ bs) (c ∷ rest) is ends =
    by (b == c) is (λ h. literal_at-matched terminal (position + 1) end bs rest h (omega arith))
  where
    by : (t : Bool) → (t && starts_with nat_eq rest bs) ≡ true
        → (starts_with nat_eq rest bs ≡ true
        → (literal_at terminal (position + 1) bs rest).result ≡ Matched end NoTrees)
        → (if t then literal_at terminal (position + 1) bs rest else failed_at terminal position).result
        ≡ Matched end NoTrees
    by true h later = later h
    by false h later = cc

pub literal_at-failed : (terminal position : ℕ) (bytes rest : List ℕ) → starts_with nat_eq rest bytes ≡ false
    → (literal_at terminal position bytes rest).result ≡ Failed
literal_at-failed terminal position [] rest is = cc
literal_at-failed terminal position (b ∷ bs) [] is = refl
literal_at-failed terminal position (b ∷ bs) (c ∷ rest) is =
    by (b == c) is (literal_at-failed terminal (position + 1) bs rest)
  where
    by : (t : Bool) → (t && starts_with nat_eq rest bs) ≡ false
        → (starts_with nat_eq rest bs ≡ false → (literal_at terminal (position + 1) bs rest).result ≡ Failed)
        → (if t then literal_at terminal (position + 1) bs rest else failed_at terminal position).result ≡ Failed
    by true h later = later h
    by false h later = refl

-- the result of a byte test, by whether the byte passes
pub byte_at-matched : (test : ℕ → Bool) (terminal position end : ℕ) (bytes : List ℕ) → begins_with test bytes ≡ true
    → end ≡ position + 1 → (byte_at test terminal position bytes).result ≡ Matched end NoTrees
byte_at-matched test terminal position end [] is ends = cc
byte_at-matched test terminal position end (c ∷ rest) is ends =
    ap (λ t. (if t then matched_at (position + 1) else failed_at terminal position).result) is
    ∙ ap (λ end. Matched end NoTrees) (sym ends)

pub byte_at-failed : (test : ℕ → Bool) (terminal position : ℕ) (bytes : List ℕ) → begins_with test bytes ≡ false
    → (byte_at test terminal position bytes).result ≡ Failed
byte_at-failed test terminal position [] is = refl
byte_at-failed test terminal position (c ∷ rest) is =
    ap (λ t. (if t then matched_at (position + 1) else failed_at terminal position).result) is

-- ---- results in some depth

-- a record in some depth has this result
pub record Recorded (tried : ℕ → Option Record) (result : Recognition) : Type 0 where
  pub depth : ℕ
  pub found : Record
  pub is : tried depth ≡ Some found
  pub result_is : found.result ≡ result

-- a record in depth n is the record in every greater depth
abbrev pub Grows : (ℕ → Option Record) → Type 0
Grows tried = (more n : ℕ) → Extends (tried n) (tried (more + n))

-- two results in one depth
pub record Both (first second : ℕ → Option Record) (one other : Recognition) : Type 0 where
  pub depth : ℕ
  pub found : Record
  pub next : Record
  pub found_is : first depth ≡ Some found
  pub next_is : second depth ≡ Some next
  pub one_is : found.result ≡ one
  pub other_is : next.result ≡ other

pub both : (first second : ℕ → Option Record) {one other : Recognition} → Grows first → Grows second
    → Recorded first one → Recorded second other → Both first second one other
both first second grows_first grows_second a b = record {
  depth = a.depth + b.depth;
  found = a.found;
  next = b.found;
  found_is = ap first (add_comm a.depth b.depth) ∙ grows_first b.depth a.depth a.found a.is;
  next_is = grows_second a.depth b.depth b.found b.is;
  one_is = a.result_is;
  other_is = b.result_is;
}

-- equal results
pub Recorded-same : (tried : ℕ → Option Record) {x y : Recognition} → y ≡ x → Recorded tried x → Recorded tried y
Recorded-same tried e a = record { depth = a.depth; found = a.found; is = a.is; result_is = a.result_is ∙ sym e }

-- a result that every depth gives
pub Recorded-result : (r : Record) {x : Recognition} → r.result ≡ x → Recorded (λ n. Some r) x
Recorded-result r is = record { depth = 0; found = r; is = refl; result_is = is }

-- a changed result
pub Recorded-map : (tried : ℕ → Option Record) (change : Record → Record) (f : Recognition → Recognition)
    → ((r : Record) → (change r).result ≡ f r.result) → {x : Recognition} → Recorded tried x
    → Recorded (λ n. option_map change (tried n)) (f x)
Recorded-map tried change f changes a = record {
  depth = a.depth;
  found = change a.found;
  is = ap (option_map change) a.is;
  result_is = changes a.found ∙ ap f a.result_is;
}

-- a sequence
pub then_failed : (tried : ℕ → Option Record) (next : ℕ → ℕ → Option Record) → Recorded tried Failed
    → Recorded (λ n. then_at (tried n) (next n)) Failed
then_failed tried next a = record {
  depth = a.depth;
  found = a.found;
  is = ap (λ o. then_at o (next a.depth)) a.is ∙ ap (λ x. then_result x a.found (next a.depth)) a.result_is;
  result_is = a.result_is;
}

pub then_matched : (tried : ℕ → Option Record) (next : ℕ → ℕ → Option Record) (end : ℕ) (trees : Trees)
    (x : Recognition) → Both tried (λ n. next n end) (Matched end trees) x
    → Recorded (λ n. then_at (tried n) (next n)) (prepend_trees trees x)
then_matched tried next end trees x a = record {
  depth = a.depth;
  found = after_both a.found a.next (prepend_trees trees a.next.result);
  is = ap (λ o. then_at o (next a.depth)) a.found_is ∙ ap (λ r. then_result r a.found (next a.depth)) a.one_is
      ∙ ap (option_map (λ more. after_both a.found more (prepend_trees trees more.result))) a.next_is;
  result_is = ap (prepend_trees trees) a.other_is;
}

-- a choice
pub or_matched : (tried other : ℕ → Option Record) (end : ℕ) (trees : Trees) → Recorded tried (Matched end trees)
    → Recorded (λ n. or_else (tried n) (other n)) (Matched end trees)
or_matched tried other end trees a = record {
  depth = a.depth;
  found = a.found;
  is = ap (λ o. or_else o (other a.depth)) a.is ∙ ap (λ r. choice_result r a.found (other a.depth)) a.result_is;
  result_is = a.result_is;
}

pub or_failed : (tried other : ℕ → Option Record) (x : Recognition) → Both tried other Failed x
    → Recorded (λ n. or_else (tried n) (other n)) x
or_failed tried other x a = record {
  depth = a.depth;
  found = after_both a.found a.next a.next.result;
  is = ap (λ o. or_else o (other a.depth)) a.found_is ∙ ap (λ r. choice_result r a.found (other a.depth)) a.one_is
      ∙ ap (option_map (λ more. after_both a.found more more.result)) a.next_is;
  result_is = a.other_is;
}

-- a star
abbrev pub rounds : Option Record → ℕ → (ℕ → Option Record) → Option Record
rounds tried position next = option_and_then (λ (round : Record). star_result round.result position round next) tried

pub rounds_failed : (tried : ℕ → Option Record) (position : ℕ) (next : ℕ → ℕ → Option Record) → Recorded tried Failed
    → Recorded (λ n. rounds (tried n) position (next n)) (Matched position NoTrees)
rounds_failed tried position next a = record {
  depth = a.depth;
  found = after_both a.found (matched_at position) (Matched position NoTrees);
  is = ap (λ o. rounds o position (next a.depth)) a.is
      ∙ ap (λ x. star_result x position a.found (next a.depth)) a.result_is;
  result_is = refl;
}

pub rounds_matched : (tried : ℕ → Option Record) (position : ℕ) (next : ℕ → ℕ → Option Record) (end : ℕ) (trees : Trees)
    (x : Recognition) → Both tried (λ n. next n end) (Matched end trees) x
    → Recorded (λ n. rounds (tried n) position (next n)) (prepend_trees trees x)
rounds_matched tried position next end trees x a = record {
  depth = a.depth;
  found = after_both a.found a.next (prepend_trees trees a.next.result);
  is = ap (λ o. rounds o position (next a.depth)) a.found_is
      ∙ ap (λ r. star_result r position a.found (next a.depth)) a.one_is
      ∙ ap (option_map (λ more. after_both a.found more (prepend_trees trees more.result))) a.next_is;
  result_is = ap (prepend_trees trees) a.other_is;
}

-- ---- facts of results

-- from the record that exists
pub some_case : (P : Recognition → Type 0) (given r : Record) → P given.result → Some given ≡ Some r → P r.result
some_case P given r holds is =
    let same : given ≡ r = cc in subst P (ap (λ (r : Record). r.result) same) holds

-- from the record that is changed
pub map_cases : (P : Recognition → Type 0) (tried : Option Record) (change : Record → Record) (r : Record)
    → ((part : Record) → tried ≡ Some part → P (change part).result) → option_map change tried ≡ Some r → P r.result
map_cases P None change r made is = cc
map_cases P (Some part) change r made is = some_case P (change part) r (made part refl) is

-- from the part of a sequence that failed, or from one that matched and what came next
pub then_cases : (P : Recognition → Type 0) (tried : Option Record) (next : ℕ → Option Record) (r : Record)
    → ((part : Record) → tried ≡ Some part → part.result ≡ Failed → P Failed)
    → ((part more : Record) (end : ℕ) (trees : Trees) → tried ≡ Some part → part.result ≡ Matched end trees
    → next end ≡ Some more → P (prepend_trees trees more.result))
    → then_at tried next ≡ Some r → P r.result
then_cases P None next r failed matched is = cc
then_cases P (Some part) next r failed matched is = by part.result refl is
  where
    by : (x : Recognition) → part.result ≡ x → then_result x part next ≡ Some r → P r.result
    by Failed e f = some_case P part r (subst P (sym e) (failed part refl e)) f
    by (Matched end trees) e f =
        map_cases P (next end) (λ more. after_both part more (prepend_trees trees more.result)) r
        (λ more g. matched part more end trees refl e g) f

-- from the alternative that matched, or from one that failed and the other one
pub or_cases : (P : Recognition → Type 0) (tried other : Option Record) (r : Record)
    → ((part : Record) (end : ℕ) (trees : Trees) → tried ≡ Some part → part.result ≡ Matched end trees
    → P (Matched end trees))
    → ((part more : Record) → tried ≡ Some part → part.result ≡ Failed → other ≡ Some more → P more.result)
    → or_else tried other ≡ Some r → P r.result
or_cases P None other r matched failed is = cc
or_cases P (Some part) other r matched failed is = by part.result refl is
  where
    by : (x : Recognition) → part.result ≡ x → choice_result x part other ≡ Some r → P r.result
    by Failed e f =
        map_cases P other (λ more. after_both part more more.result) r (λ more g. failed part more refl e g) f
    by (Matched end trees) e f = some_case P part r (subst P (sym e) (matched part end trees refl e)) f

-- from the iteration of a star that failed, or from one that matched and the iterations after it
pub rounds_cases : (P : Recognition → Type 0) (tried : Option Record) (position : ℕ) (next : ℕ → Option Record)
    (r : Record) → ((part : Record) → tried ≡ Some part → part.result ≡ Failed → P (Matched position NoTrees))
    → ((part more : Record) (end : ℕ) (trees : Trees) → tried ≡ Some part → part.result ≡ Matched end trees
    → next end ≡ Some more → P (prepend_trees trees more.result))
    → rounds tried position next ≡ Some r → P r.result
rounds_cases P None position next r failed matched is = cc
rounds_cases P (Some part) position next r failed matched is = by part.result refl is
  where
    by : (x : Recognition) → part.result ≡ x → star_result x position part next ≡ Some r → P r.result
    by Failed e f =
        some_case P (after_both part (matched_at position) (Matched position NoTrees)) r (failed part refl e) f
    by (Matched end trees) e f =
        map_cases P (next end) (λ more. after_both part more (prepend_trees trees more.result)) r
        (λ more g. matched part more end trees refl e g) f
