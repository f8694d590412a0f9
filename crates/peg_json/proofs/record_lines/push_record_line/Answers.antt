use Rattle.std.proofs.Common.{◌≡◌, ◌∙◌, ◌<◌, ℕ, List, [], ◌∷◌, ◌++◌, ap, append-nil, append_assoc, arith, codes, drop, length, slice_set}
use Rattle.std.proofs.Math.Seq.{set-append_seam}
use Rattle.std.proofs.lemmas.Grind.{common_steps}
use Rattle.std.specs.Fmt.{decimal}
use Rattle.peg_json.specs.Lines.{line_bytes}
use Rattle.peg_json.proofs.record_lines.push_record_line.Goals as goal

-- the first byte of a line after other bytes becomes another one
first-set : (bytes prefix line all : List ℕ) (at byte : ℕ) → all ≡ bytes ++ prefix ++ line → at ≡ length (bytes ++ prefix)
    → at < length all → slice_set all at byte ≡ bytes ++ (prefix ++ byte ∷ drop 1 line)
first-set bytes prefix [] all at byte is place some =
    let same : length all ≡ length (bytes ++ prefix) = ap length (is ∙ append-nil (bytes ++ prefix)) in
    absurd (omega (arith, same))
first-set bytes prefix (first ∷ line) all at byte is place some =
    ap (λ (l : List ℕ). slice_set l at byte) is
    ∙ (ap (λ n. slice_set (bytes ++ prefix ++ first ∷ line) n byte) place
    ∙ (set-append_seam (bytes ++ prefix) first line byte ∙ append_assoc bytes prefix (byte ∷ line)))

pub returns : goal.returns
returns c =
    let bytes = c.args.bytes.now.items in
    let prefix = codes "{\"record\":" ++ decimal c.args.number in
    let front : c.push_number.new.bytes.items ≡ bytes ++ prefix =
    c.in_ok-push_number.ensures ∙ append_assoc bytes (codes "{\"record\":") (decimal c.args.number) in
    let all = c.in_ok-push_line.ensures.line ∙ ap (λ (l : List ℕ). l ++ line_bytes c.args.line) front in
    let place : c.len-at.result ≡ length c.push_number.new.bytes.items = grind (arith, common_steps) in
    first-set bytes prefix (line_bytes c.args.line) c.push_line.new.bytes.items c.len-at.result 44 all
    (place ∙ ap length front) (omega (arith, place, c.in_ok-push_line.ensures.some))
