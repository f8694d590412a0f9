use Rattle.std.proofs.Common.{◌≡◌, ◌∙◌, ◌++◌, ◌<◌, false, true, List, ℕ, ap, subst, sym}
use Rattle.std.proofs.lemmas.List.Elements.{All-from_get_or}
use Rattle.std.specs.Str.{IsUtf8}
use Rattle.peg_messages.specs.FileNames.{shown_name}
use Rattle.peg_messages.proofs.FileNameLemmas.{IsUtf8-shown_name}
use Rattle.peg_messages.proofs.file_name.shown_name.Goals as goal

-- what is shown is UTF-8
pub unreachable-requires : goal.unreachable-requires
unreachable-requires c =
    let name = c.args.name.now in
    let small = All-from_get_or (λ (byte : ℕ). byte < 256) name 0 (λ i within. (c.type_inv.name i).fits) in
    let is = c.in_ok-write_shown.ensures ∙ ap (λ (l : List ℕ). l ++ shown_name name) c.new-bytes.ensures.items in
    let no : false ≡ true = c.in-Err.ensures.succeeds (subst IsUtf8 (sym is) (IsUtf8-shown_name name small)) in
    absurd (cc)
