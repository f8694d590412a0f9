use Rattle.std.proofs.Common.{rules, ◌≡◌, ◌==◌, false, ◌+◌, ◌<◌, ◌∷◌, [], ◌++◌, ℕ, List, length, length-drop, drop, sym, ap, ◌∙◌, subst, arith}
use Rattle.std.proofs.Math.ListN.{drop_of_length-le}
use Rattle.std.proofs.lemmas.Bool.Decides.{nat_tests}
use Rattle.std.proofs.lemmas.List.{length-map, map_push}
use Rattle.peg_grammar.specs.Written.{rule_of, rules_of}
use Rattle.peg_notation.specs.Reader.{definition, grammar}
use Rattle.peg_notation.specs.ReaderCode.{lexemes, AreTexts, rule_seen, AgreesOnError}
use Rattle.peg_notation.specs.ReaderFile.{file_of}
use Rattle.peg_metagrammar.specs.Nesting.{max_open}
use Rattle.peg_lexer.specs.Tokens.{lexeme_of}
use Rattle.peg_notation.proofs.ManyLoops.{RulesSoFar, rules-one, rules-all, rules-halt}
use Rattle.peg_notation.proofs.ReaderSteps.{texts-following, fault_same, grammar-is}
use Rattle.peg_notation.proofs.reader.Reader.grammar.Goals as goal

not_empty : (n : ℕ) → (n == 0) ≡ false → 0 < n
not_empty n is = grind (arith, nat_tests)

pub definition-requires : goal.definition-requires
definition-requires c =
    subst (AreTexts (file_of c.args.self.now) 0) (sym c.rest_after.ensures.tokens)
    (texts-following (file_of c.args.self.now) 0 c.rules.token_count (lexemes c.args.tokens.now) c.requires)

pub returns-in_err-rule : goal.returns-in_err-rule
returns-in_err-rule c =
    let file = file_of c.args.self.now in
    let ls = lexemes c.args.tokens.now in
    let size : length ls ≡ length c.args.tokens.now = length-map c.args.tokens.now lexeme_of in
    let left : 0 < length (drop c.rules.token_count ls) = omega (arith, size, length-drop c.rules.token_count ls, c.rules-test.true) in
    let some : 0 < length ls = omega (arith, size, c.rules-test.true) in
    let fault = c.in_err-rule.field-0.0 in
    let stated : AgreesOnError (grammar file max_open ls) fault =
    fault_same (definition file max_open (drop c.rules.token_count ls)) (grammar file max_open ls) fault
    (λ halt same. grammar-is file max_open ls some
    ∙ rules-halt file max_open ls c.rules.token_count (rules_of c.rules.definitions.items) c.rules.depth halt c.rules.invariant.so_far left same)
    (subst (λ l. AgreesOnError (definition file max_open l) fault) c.rest_after.ensures.tokens c.in_err-rule.ensures.read) in
    search (rules, stated)

pub rules-preserved : goal.rules-preserved
rules-preserved c =
    let file = file_of c.args.self.now in
    let ls = lexemes c.args.tokens.now in
    let size : length ls ≡ length c.args.tokens.now = length-map c.args.tokens.now lexeme_of in
    let left : 0 < length (drop c.rules.token_count ls) = omega (arith, size, length-drop c.rules.token_count ls, c.rules-test.true) in
    let read = ap (definition file max_open) (sym c.rest_after.ensures.tokens) ∙ c.in_ok-rule.ensures.read in
    let token_count = c.rules.token_count + c.in_ok-rule.rule.token_count in
    let next = rules-one file max_open ls c.rules.token_count (rules_of c.rules.definitions.items) c.rules.depth (rule_seen c.in_ok-rule.rule)
    c.rules.invariant.so_far left read c.in_ok-rule.ensures.some in
    let all = ap rules_of c.in_ok-push.ensures.items ∙ map_push rule_of c.rules.definitions.items c.in_ok-rule.rule.definition in
    record {
      so_far =
          subst (λ (rules : List _). RulesSoFar file max_open ls token_count rules c.max-depth.result) (sym all)
          (subst (RulesSoFar file max_open ls token_count (rules_of c.rules.definitions.items ++ rule_of c.in_ok-rule.rule.definition ∷ []))
          (sym c.max-depth.ensures) next);
      fits = omega (arith, c.in_ok-rule.ensures.fits, c.rest_after.ensures.len, c.rules.invariant.fits);
    }

pub returns : goal.returns
returns c =
    let file = file_of c.args.self.now in
    let ls = lexemes c.args.tokens.now in
    let size : length ls ≡ length c.args.tokens.now = length-map c.args.tokens.now lexeme_of in
    let none : drop c.rules.token_count ls ≡ [] = drop_of_length-le ls (omega (arith, size, c.rules-test.false)) in
    let tokens = not_empty (length c.args.tokens.now) (sym c.is_empty.ensures ∙ c.if-is_empty.false) in
    let some : 0 < length ls = omega (arith, size, tokens) in
    grammar-is file max_open ls some
    ∙ rules-all file max_open ls c.rules.token_count (rules_of c.rules.definitions.items) c.rules.depth c.rules.invariant.so_far none
