use Rattle.std.proofs.Common.{ℕ, List, [], ◌∷◌, ◌++◌, ap, ◌∙◌}
use Rattle.serde_json.specs.Written.{compact_text}
use Rattle.peg_code.specs.Code.{program_code}
use Rattle.peg_core.specs.CoreForm.{core_bodies}
use Rattle.peg_listings.specs.CodeText.{code_data}
use Rattle.peg_parser.specs.Parser.{parser_rules}
use Rattle.peg_handle.proofs.printing.print_code.Goals as goal

pub returns : goal.returns
returns c =
    let bodies = core_bodies (parser_rules c.args.grammar.now.parser) in
    let entries = c.program.result.now.entries in
    ap (λ (text : List ℕ). text ++ 10 ∷ [])
    (c.in_ok-json.ensures
    ∙ ap (λ code. compact_text (code_data code entries)) c.program.ensures.code
    ∙ ap (λ entries. compact_text (code_data (program_code bodies) entries)) c.program.ensures.entries)
