use Rattle.std.proofs.Common.{◌≡◌, ℕ, ◌+◌, ◌<◌, List, [], ◌∷◌, drop, map, length, get_or, Bool, true, false, ◌==◌, Option, None, Some, if◌then◌else◌, refl, sym, ap, ◌∙◌, arith}
use Rattle.std.proofs.Math.ListN.{drop_of_length-le}
use Rattle.std.proofs.lemmas.Bool.Decides.{nat_tests}
use Rattle.std.proofs.lemmas.List.{drop_more}
use Rattle.peg_metagrammar.specs.EscapesCode.{escape_of}
use Rattle.peg_metagrammar.specs.SimpleEscapes.{byte_escaped}
use Rattle.peg_metagrammar.specs.declared.escapes.SimpleEscape.{SimpleEscape}
use Rattle.peg_metagrammar.proofs.escapes.find_escape.Goals as goal

-- the first of the remaining escapes decides, or the ones after it do
next : (escapes : List SimpleEscape) (i : ℕ) (d : SimpleEscape) (escaped : ℕ) → i < length escapes
    → byte_escaped (map escape_of (drop i escapes)) escaped
    ≡ (if escaped == (get_or escapes i d).escaped then Some (get_or escapes i d).byte
    else byte_escaped (map escape_of (drop (i + 1) escapes)) escaped)
next escapes i d escaped small =
    ap (λ (l : List SimpleEscape). byte_escaped (map escape_of l) escaped) (drop_more escapes i d small)

same : (a b : ℕ) → a ≡ b → (a == b) ≡ true
same a b is = grind (arith, nat_tests)

other : (a b : ℕ) → (a ≡ b → ⊥) → (a == b) ≡ false
other a b is = grind (arith, nat_tests)

abbrev none : SimpleEscape
none = record { escaped = 0; byte = 0 }

pub loop-escape-init : goal.loop-escape-init
loop-escape-init c = refl

pub loop-escape-preserved : goal.loop-escape-preserved
loop-escape-preserved c =
    let first = get_or c.args.escapes.now c.loop-escape.escape-index none in
    c.loop-escape.invariant
    ∙ next c.args.escapes.now c.loop-escape.escape-index none c.args.escaped c.loop-escape-test.true
    ∙ ap (λ t. if t then Some first.byte
    else byte_escaped (map escape_of (drop (c.loop-escape.escape-index + 1) c.args.escapes.now)) c.args.escaped)
    (other c.args.escaped first.escaped c.if-escaped-escape.false)

pub returns-then-escaped-escape : goal.returns-then-escaped-escape
returns-then-escaped-escape c =
    let first = get_or c.args.escapes.now c.loop-escape.escape-index none in
    sym (c.loop-escape.invariant
    ∙ next c.args.escapes.now c.loop-escape.escape-index none c.args.escaped c.loop-escape-test.true
    ∙ ap (λ t. if t then Some first.byte
    else byte_escaped (map escape_of (drop (c.loop-escape.escape-index + 1) c.args.escapes.now)) c.args.escaped)
    (same c.args.escaped first.escaped c.if-escaped-escape.true))

pub returns : goal.returns
returns c =
    sym (c.loop-escape.invariant ∙ ap (λ (l : List SimpleEscape). byte_escaped (map escape_of l) c.args.escaped)
    (drop_of_length-le c.args.escapes.now c.loop-escape-test.false))
