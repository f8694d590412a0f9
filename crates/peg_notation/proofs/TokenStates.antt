-- States between the tokens of a grammar file, and the kinds of tokens that each state accepts.
use Rattle.std.proofs.Common.{◌≡◌, ℕ, zero, suc, Bool, true, false, List, [], ◌∷◌, ◌++◌, Option, None, Some}
use Rattle.std.proofs.Common.{refl, sym, ◌∙◌, subst}
use Rattle.peg_lexer.specs.declared.token.TokenKind.{TokenKind}
use Rattle.peg_lexer.specs.declared.token.TokenKind.TheVariants as kind

-- A state between two tokens. In an expression `depth` is the number of open parentheses.
pub data TokenState : Type 0 where
  -- before the first definition
  begun : TokenState
  -- after the name of the first definition
  titled : TokenState
  -- where no operator may follow: at the start of a Sequence, or after an operator of a Suffix
  ready : (depth : ℕ) → TokenState
  -- after the operator of a predicate
  signed : (depth : ℕ) → TokenState
  -- after a name that may be that of the next definition
  named : (depth : ℕ) → TokenState
  -- after any other Primary
  done : (depth : ℕ) → TokenState

-- the state after a closing parenthesis, if one is open
abbrev pub close_step : (depth : ℕ) → Option TokenState
close_step zero = None
close_step (suc depth) = Some (TokenState.done depth)

-- the state after a token where a Prefix may begin
abbrev pub item_step : (depth : ℕ) → TokenKind → Option TokenState
item_step depth kind.Ident = Some (TokenState.named depth)
item_step depth kind.Literal = Some (TokenState.done depth)
item_step depth kind.Class = Some (TokenState.done depth)
item_step depth kind.Dot = Some (TokenState.done depth)
item_step depth kind.And = Some (TokenState.signed depth)
item_step depth kind.Not = Some (TokenState.signed depth)
item_step depth kind.Open = Some (TokenState.ready (suc depth))
item_step depth kind.Slash = Some (TokenState.ready depth)
item_step depth kind.Close = close_step depth
item_step depth _ = None

-- after the operator of a predicate
abbrev pub signed_step : (depth : ℕ) → TokenKind → Option TokenState
signed_step depth kind.Ident = Some (TokenState.done depth)
signed_step depth kind.Literal = Some (TokenState.done depth)
signed_step depth kind.Class = Some (TokenState.done depth)
signed_step depth kind.Dot = Some (TokenState.done depth)
signed_step depth kind.Open = Some (TokenState.ready (suc depth))
signed_step depth _ = None

-- after a Primary
abbrev pub done_step : (depth : ℕ) → TokenKind → Option TokenState
done_step depth kind.Question = Some (TokenState.ready depth)
done_step depth kind.Star = Some (TokenState.ready depth)
done_step depth kind.Plus = Some (TokenState.ready depth)
done_step depth kind.Count = Some (TokenState.ready depth)
done_step depth k = item_step depth k

-- after a name, which names the next definition if an arrow follows outside parentheses
abbrev pub arrow_step : (depth : ℕ) → Option TokenState
arrow_step zero = Some (TokenState.ready zero)
arrow_step (suc depth) = None

abbrev pub named_step : (depth : ℕ) → TokenKind → Option TokenState
named_step depth kind.Arrow = arrow_step depth
named_step depth k = done_step depth k

abbrev pub begun_step : TokenKind → Option TokenState
begun_step kind.Ident = Some TokenState.titled
begun_step _ = None

abbrev pub titled_step : TokenKind → Option TokenState
titled_step kind.Arrow = Some (TokenState.ready zero)
titled_step _ = None

-- the state after one more token, if it may come
abbrev pub step : TokenState → TokenKind → Option TokenState
step TokenState.begun k = begun_step k
step TokenState.titled k = titled_step k
step (TokenState.ready depth) k = item_step depth k
step (TokenState.signed depth) k = signed_step depth k
step (TokenState.named depth) k = named_step depth k
step (TokenState.done depth) k = done_step depth k

-- whether the tokens may end
abbrev pub is_zero : ℕ → Bool
is_zero zero = true
is_zero (suc n) = false

abbrev pub may_end : TokenState → Bool
may_end TokenState.begun = false
may_end TokenState.titled = false
may_end (TokenState.ready depth) = is_zero depth
may_end (TokenState.signed depth) = false
may_end (TokenState.named depth) = is_zero depth
may_end (TokenState.done depth) = is_zero depth

-- the number of open parentheses
abbrev pub open_in : TokenState → ℕ
open_in TokenState.begun = zero
open_in TokenState.titled = zero
open_in (TokenState.ready depth) = depth
open_in (TokenState.signed depth) = depth
open_in (TokenState.named depth) = depth
open_in (TokenState.done depth) = depth

-- ---- runs over kinds

pub data TokenSteps : TokenState → List TokenKind → TokenState → Type 0 where
  ended : {s : TokenState} → TokenSteps s [] s
  next : {s t u : TokenState} {k : TokenKind} {more : List TokenKind} → step s k ≡ Some t → TokenSteps t more u
      → TokenSteps s (k ∷ more) u

-- the same token leads to one state
one_next : (s t u : TokenState) (k : TokenKind) → step s k ≡ Some t → step s k ≡ Some u → u ≡ t
one_next s t u k is also = let both : Some u ≡ Some t = sym also ∙ is in cc

-- after these kinds, the run over the others
pub steps-rest : {s u v : TokenState} {before : List TokenKind} (more : List TokenKind) → TokenSteps s before u
    → TokenSteps s (before ++ more) v → TokenSteps u more v
steps-rest more TokenSteps.ended all = all
steps-rest {s} {v = v} more (TokenSteps.next {t = t} {k = k} {more = following} is rest) (TokenSteps.next {t = other} also all) =
    steps-rest more rest (subst (λ (x : TokenState). TokenSteps x (following ++ more) v) (one_next s t other k is also) all)

pub steps-then : {s u v : TokenState} {before more : List TokenKind} → TokenSteps s before u → TokenSteps u more v
    → TokenSteps s (before ++ more) v
steps-then TokenSteps.ended all = all
steps-then (TokenSteps.next is rest) all = TokenSteps.next is (steps-then rest all)

-- after these kinds no token of this kind may come
pub steps-refused : {s u v : TokenState} {before : List TokenKind} (k : TokenKind) (more : List TokenKind)
    → TokenSteps s before u → step u k ≡ None → TokenSteps s (before ++ k ∷ more) v → ⊥
steps-refused k more run refuses all = by refuses (steps-rest (k ∷ more) run all)
  where
    by : {u v : TokenState} → step u k ≡ None → TokenSteps u (k ∷ more) v → ⊥
    by refuses (TokenSteps.next {t = t} is rest) = let bad : Some t ≡ None = sym is ∙ refuses in cc

-- these kinds lead to one state
pub steps-end : {s u v : TokenState} {before : List TokenKind} → TokenSteps s before u → TokenSteps s before v → u ≡ v
steps-end TokenSteps.ended TokenSteps.ended = refl
steps-end {s} {v = v} (TokenSteps.next {t = t} {k = k} {more = following} is rest) (TokenSteps.next {t = other} also all) =
    steps-end rest (subst (λ (x : TokenState). TokenSteps x following v) (one_next s t other k is also) all)

-- ---- each state can be completed

pub record Completes (s : TokenState) : Type 0 where
  pub more : List TokenKind
  pub last : TokenState
  pub run : TokenSteps s more last
  pub ends : may_end last ≡ true

then-completes : {s t : TokenState} (k : TokenKind) → step s k ≡ Some t → Completes t → Completes s
then-completes k is c = record { more = k ∷ c.more; last = c.last; run = TokenSteps.next is c.run; ends = c.ends }

done-completes : (depth : ℕ) → Completes (TokenState.done depth)
done-completes zero = record { more = []; last = TokenState.done zero; run = TokenSteps.ended; ends = refl }
done-completes (suc depth) = then-completes kind.Close refl (done-completes depth)

ready-completes : (depth : ℕ) → Completes (TokenState.ready depth)
ready-completes zero = record { more = []; last = TokenState.ready zero; run = TokenSteps.ended; ends = refl }
ready-completes (suc depth) = then-completes kind.Close refl (done-completes depth)

named-completes : (depth : ℕ) → Completes (TokenState.named depth)
named-completes zero = record { more = []; last = TokenState.named zero; run = TokenSteps.ended; ends = refl }
named-completes (suc depth) = then-completes kind.Close refl (done-completes depth)

pub completes : (s : TokenState) → Completes s
completes TokenState.begun = then-completes kind.Ident refl (then-completes kind.Arrow refl (ready-completes zero))
completes TokenState.titled = then-completes kind.Arrow refl (ready-completes zero)
completes (TokenState.ready depth) = ready-completes depth
completes (TokenState.signed depth) = then-completes kind.Dot refl (done-completes depth)
completes (TokenState.named depth) = named-completes depth
completes (TokenState.done depth) = done-completes depth

-- ---- open parentheses
