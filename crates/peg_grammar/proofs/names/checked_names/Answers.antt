use Rattle.std.proofs.Common.{◌≡◌, ◌≢◌, ◌==◌, Bool, false, List, [], ◌∷◌, length, find, sym, ap, ◌∙◌}
use Rattle.std.proofs.lemmas.Bool.{true≢false}
use Rattle.peg_semantics.specs.Grammar.{is_unknown}
use Rattle.peg_semantics.specs.Rules.{references}
use Rattle.peg_grammar.specs.Written.{rules_of}
use Rattle.peg_grammar.specs.declared.expr.Definition.{Definition}
use Rattle.peg_semantics.proofs.GrammarLemmas.{IsGrammar-from_searches}
use Rattle.peg_grammar.proofs.names.checked_names.Goals as goal

-- a nonempty list of definitions represents at least one rule
some_rule : (definitions : List Definition) (empty : Bool) → empty ≡ (length definitions == 0)
    → empty ≡ false → rules_of definitions ≢ []
some_rule [] empty is some none = true≢false (sym is ∙ some)
some_rule (definition ∷ definitions) empty is some none = cc

pub returns-clause-grammar : goal.returns-clause-grammar
returns-clause-grammar c =
    let definitions = c.args.definitions.now in
    let unknown = ap (λ known. find (is_unknown known) (references (rules_of definitions))) c.in_ok-names.ensures.all in
    IsGrammar-from_searches (rules_of definitions)
    (some_rule definitions c.is_empty.result c.is_empty.ensures c.if-is_empty.false)
    c.in_ok-names.ensures.distinct
    (sym (c.in_default.ensures ∙ unknown))
    (sym c.in_default-first_bad_count.ensures)
