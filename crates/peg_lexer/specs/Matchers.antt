-- Describes code: prefix matchers, which mirror the forms of expressions. A match has a length and what it denotes. The
-- contracts of the lexer's private functions use these matchers. Proofs show that they agree with the metagrammar.
use Rattle.std.specs.Prelude.{ℕ, zero, suc, ◌+◌, ◌-◌, Bool, List, [], ◌∷◌, ◌++◌, length, drop, Option, None, Some}
use Rattle.std.specs.Prelude.{option_map, option_and_then, if◌then◌else◌, nat_eq}
use Rattle.std.specs.List.{starts_with}
use Rattle.peg_metagrammar.specs.Denotation.{Denotation}

-- a matched prefix: what it denotes, and its length
pub record PrefixMatch : Type 0 where
  pub spells : List Denotation
  pub length : ℕ

-- a matcher: the matched prefix of some bytes, if there is one
abbrev pub Matcher : Type 0
Matcher = List ℕ → Option PrefixMatch

-- the length of a match, if there is one
abbrev pub match_length : Option PrefixMatch → Option ℕ
match_length found = option_map (λ piece. piece.length) found

-- a match of the given length that denotes nothing
abbrev pub plain : ℕ → PrefixMatch
plain length = record { spells = []; length = length }

-- two consecutive matches
abbrev pub concat_matches : PrefixMatch → PrefixMatch → PrefixMatch
concat_matches first next = record { spells = first.spells ++ next.spells; length = first.length + next.length }

-- the given bytes
abbrev pub literal_bytes : List ℕ → Matcher
literal_bytes bytes rest = if starts_with nat_eq rest bytes then Some (plain (length bytes)) else None

-- one byte that passes a test
abbrev pub satisfy : (ℕ → Bool) → Matcher
satisfy test [] = None
satisfy test (byte ∷ rest) = if test byte then Some (plain 1) else None

-- a match followed by another
abbrev pub seq_matcher : Matcher → Matcher → Matcher
seq_matcher first next rest =
    option_and_then (λ (piece : PrefixMatch). option_map (concat_matches piece) (next (drop piece.length rest)))
    (first rest)

-- the first of two matches that exists
abbrev pub or_piece : Option PrefixMatch → Option PrefixMatch → Option PrefixMatch
or_piece None other = other
or_piece (Some piece) other = Some piece

abbrev pub or_matcher : Matcher → Matcher → Matcher
or_matcher first other rest = or_piece (first rest) (other rest)

-- an empty match, if the other match does not exist
abbrev pub none_of : Option PrefixMatch → Option PrefixMatch
none_of None = Some (plain 0)
none_of (Some piece) = None

abbrev pub not_followed : Matcher → Matcher
not_followed find rest = none_of (find rest)

-- an optional match
abbrev pub optional_matcher : Matcher → Matcher
optional_matcher find rest = or_piece (find rest) (Some (plain 0))

-- a match, if there is one, followed by the rest
abbrev pub and_more : Option PrefixMatch → (PrefixMatch → PrefixMatch) → PrefixMatch
and_more None more = plain 0
and_more (Some piece) more = concat_matches piece (more piece)

-- repeated matches, after a number of bytes that are skipped
unfoldable pub many_after : Matcher → List ℕ → (skipped : ℕ) → PrefixMatch
many_after find [] skipped = plain 0
many_after find (byte ∷ bytes) zero =
    and_more (find (byte ∷ bytes)) (λ (piece : PrefixMatch). many_after find bytes (piece.length - 1))
many_after find (byte ∷ bytes) (suc skipped) = many_after find bytes skipped

-- as many consecutive matches as there are
abbrev pub many : Matcher → List ℕ → PrefixMatch
many find rest = many_after find rest 0

abbrev pub star : Matcher → Matcher
star find rest = Some (many find rest)
